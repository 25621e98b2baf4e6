use Rattle.std.proofs.Common.{inl, inr}
use Rattle.std.proofs.KnownBytes.{Keeps-refl}
use Rattle.std.proofs.lemmas.Result.{err_from_is_err_and}
use Rattle.cp_model.specs.Input.{cut}
use Rattle.cp_model.specs.View as view
use Rattle.cp_frontend.specs.Takings.{concern}
use Rattle.cp_frontend.proofs.Faults.{known_text_fault}
use Rattle.cp_frontend.proofs.Takings.{input_kept, text_at}
use Rattle.cp_frontend.proofs.TextRefusals.{run_refused_input, run_refused_text}
use Rattle.cp_execute_observe.specs.Traces.{IsTraced}
use Rattle.cp_execute_observe.proofs.RoundsMade.{extends_nothing}
use Rattle.cp_execute_observe.proofs.Traced.{fault_input, fault_is, fault_refused, trace_due}
use Rattle.cp_execute_observe.proofs.execute_trace.execute_trace.Goals as goal

-- ---- the text is refused

pub returns-in_err-accepted-clause-written : goal.returns-in_err-accepted-clause-written
returns-in_err-accepted-clause-written g c = extends_nothing (g.W.Write.contents c.args.out.now)

pub returns-in_err-accepted-clause-refused : goal.returns-in_err-accepted-clause-refused
returns-in_err-accepted-clause-refused g c =
    let p = err_from_is_err_and c.from_residual.result c.from_residual.ensures.1 in
    rw (p.1, p.2) (λ other. run_refused_text (g.R.Read.remaining c.args.text.now) (g.S.Read.remaining c.args.input.now) c.in_err-accepted.field-0.0 c.in_err-accepted.ensures.refused)

pub returns-in_err-accepted-clause-faults : goal.returns-in_err-accepted-clause-faults
returns-in_err-accepted-clause-faults g c =
    let p = err_from_is_err_and c.from_residual.result c.from_residual.ensures.1 in
    rw (p.1, p.2) (known_text_fault (g.R.Read.remaining c.args.text.now) (g.S.Read.remaining c.args.input.now) c.in_err-accepted.field-0.0 c.in_err-accepted.ensures.refused)

pub returns-in_err-accepted-clause-text : goal.returns-in_err-accepted-clause-text
returns-in_err-accepted-clause-text g c =
    let p = err_from_is_err_and c.from_residual.result c.from_residual.ensures.1 in
    rw (p.1, p.2) c.in_err-accepted.ensures.taken

pub returns-in_err-accepted-clause-input : goal.returns-in_err-accepted-clause-input
returns-in_err-accepted-clause-input g c =
    let p = err_from_is_err_and c.from_residual.result c.from_residual.ensures.1 in
    let input = g.S.Read.remaining c.args.input.now in
    rw (p.1, p.2) (input_kept input input (concern c.in_err-accepted.field-0.0) c.in_err-accepted.ensures.about_text (Keeps-refl input))

-- ---- the input is refused

pub returns-in_err-bytes-clause-written : goal.returns-in_err-bytes-clause-written
returns-in_err-bytes-clause-written g c = extends_nothing (g.W.Write.contents c.args.out.now)

pub returns-in_err-bytes-clause-refused : goal.returns-in_err-bytes-clause-refused
returns-in_err-bytes-clause-refused g c =
    let p = err_from_is_err_and c.from_residual-in_err-bytes.result c.from_residual-in_err-bytes.ensures.1 in
    rw (p.1, p.2) (λ other. run_refused_input (g.R.Read.remaining c.args.text.now) (g.S.Read.remaining c.args.input.now) (view.tree c.in_ok-accepted.accepted.tree) c.in_err-bytes.field-0.0
    c.in_ok-accepted.ensures.text c.in_err-bytes.ensures.refused)

pub returns-in_err-bytes-clause-faults : goal.returns-in_err-bytes-clause-faults
returns-in_err-bytes-clause-faults g c =
    let p = err_from_is_err_and c.from_residual-in_err-bytes.result c.from_residual-in_err-bytes.ensures.1 in
    rw (p.1, p.2) (λ xs t text is. inr c.in_err-bytes.ensures.refused)

pub returns-in_err-bytes-clause-text : goal.returns-in_err-bytes-clause-text
returns-in_err-bytes-clause-text g c =
    let p = err_from_is_err_and c.from_residual-in_err-bytes.result c.from_residual-in_err-bytes.ensures.1 in
    rw (p.1, p.2) (text_at _ _ (concern c.in_err-bytes.field-0.0) c.in_ok-accepted.ensures.taken)

pub returns-in_err-bytes-clause-input : goal.returns-in_err-bytes-clause-input
returns-in_err-bytes-clause-input g c =
    let p = err_from_is_err_and c.from_residual-in_err-bytes.result c.from_residual-in_err-bytes.ensures.1 in
    rw (p.1, p.2) c.in_err-bytes.ensures.taken

-- ---- memory runs out, or a write fails

pub returns-in_err-machine-clause-written : goal.returns-in_err-machine-clause-written
returns-in_err-machine-clause-written g c = c.in_err-machine.ensures.written

pub returns-in_err-machine-clause-unwritten : goal.returns-in_err-machine-clause-unwritten
returns-in_err-machine-clause-unwritten g c =
    let p = err_from_is_err_and c.from_residual-in_err-machine.result c.from_residual-in_err-machine.ensures.1 in
    rw (p.1, p.2) (λ other. absurd (other c.in_err-machine.ensures.fault))

pub returns-in_err-machine-clause-refused : goal.returns-in_err-machine-clause-refused
returns-in_err-machine-clause-refused g c =
    let p = err_from_is_err_and c.from_residual-in_err-machine.result c.from_residual-in_err-machine.ensures.1 in
    rw (p.1, p.2) (fault_refused (g.R.Read.remaining c.args.text.now) (g.S.Read.remaining c.args.input.now) c.in_err-machine.field-0.0 c.in_err-machine.ensures.fault)

pub returns-in_err-machine-clause-faults : goal.returns-in_err-machine-clause-faults
returns-in_err-machine-clause-faults g c =
    let p = err_from_is_err_and c.from_residual-in_err-machine.result c.from_residual-in_err-machine.ensures.1 in
    rw (p.1, p.2) (λ xs t text is. inl (fault_is c.in_err-machine.field-0.0 c.in_err-machine.ensures.fault))

pub returns-in_err-machine-clause-text : goal.returns-in_err-machine-clause-text
returns-in_err-machine-clause-text g c =
    let p = err_from_is_err_and c.from_residual-in_err-machine.result c.from_residual-in_err-machine.ensures.1 in
    rw (p.1, p.2) (text_at _ _ (concern c.in_err-machine.field-0.0) c.in_ok-accepted.ensures.taken)

pub returns-in_err-machine-clause-input : goal.returns-in_err-machine-clause-input
returns-in_err-machine-clause-input g c =
    let p = err_from_is_err_and c.from_residual-in_err-machine.result c.from_residual-in_err-machine.ensures.1 in
    rw (p.1, p.2) (fault_input _ _ c.in_err-machine.field-0.0 c.in_err-machine.ensures.fault c.in_ok-bytes.ensures.taken)

-- ---- all rounds were made

pub returns-clause-done : goal.returns-clause-done
returns-clause-done g c =
    let made : IsTraced c.args.how.now (view.tree c.in_ok-accepted.accepted.tree) (cut c.in_ok-bytes.bytes.items) c.in_ok-machine.machine =
    c.in_ok-machine.ensures.state in
    trace_due c.args.how.now c.in_ok-machine.machine (g.R.Read.remaining c.args.text.now) (g.S.Read.remaining c.args.input.now) (view.tree c.in_ok-accepted.accepted.tree) c.in_ok-bytes.bytes.items
    c.in_ok-accepted.ensures.text c.in_ok-bytes.ensures.input c.in_ok-bytes.ensures.judged made

pub returns-clause-written : goal.returns-clause-written
returns-clause-written g c = c.in_ok-machine.ensures.written
