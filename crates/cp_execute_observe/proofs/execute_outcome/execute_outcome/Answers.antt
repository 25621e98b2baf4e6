use Rattle.std.proofs.Common.{inl, inr}
use Rattle.std.proofs.KnownBytes.{Keeps-refl}
use Rattle.std.proofs.lemmas.Result.{err_from_is_err_and}
use Rattle.cp_model.specs.Input.{cut}
use Rattle.cp_model.specs.View as view
use Rattle.cp_execute_observe.specs.Outcomes.{IsOutcome}
use Rattle.cp_frontend.specs.Takings.{concern}
use Rattle.cp_frontend.proofs.Faults.{known_text_fault, memory_fault}
use Rattle.cp_execute_observe.proofs.OutcomesDue.{outcome_due}
use Rattle.cp_frontend.proofs.Takings.{input_kept, memory_at, no_write_of_input, no_write_of_text, text_at}
use Rattle.cp_frontend.proofs.TextRefusals.{run_refused_input, run_refused_text}
use Rattle.cp_execute_observe.proofs.execute_outcome.execute_outcome.Goals as goal

-- ---- the text is refused

pub returns-in_err-accepted-clause-beginning : goal.returns-in_err-accepted-clause-beginning
returns-in_err-accepted-clause-beginning g c =
    let p = err_from_is_err_and c.from_residual.result c.from_residual.ensures.1 in
    rw (p.1, p.2) (λ write. absurd (no_write_of_text c.in_err-accepted.field-0.0 c.in_err-accepted.ensures.about_text write))

pub returns-in_err-accepted-clause-refused : goal.returns-in_err-accepted-clause-refused
returns-in_err-accepted-clause-refused g c =
    let p = err_from_is_err_and c.from_residual.result c.from_residual.ensures.1 in
    rw (p.1, p.2) (λ other. run_refused_text (g.R.Read.remaining c.args.text.now) (g.S.Read.remaining c.args.input.now) c.in_err-accepted.field-0.0 c.in_err-accepted.ensures.refused)

pub returns-in_err-accepted-clause-faults : goal.returns-in_err-accepted-clause-faults
returns-in_err-accepted-clause-faults g c =
    let p = err_from_is_err_and c.from_residual.result c.from_residual.ensures.1 in
    rw (p.1, p.2) (known_text_fault (g.R.Read.remaining c.args.text.now) (g.S.Read.remaining c.args.input.now) c.in_err-accepted.field-0.0 c.in_err-accepted.ensures.refused)

pub returns-in_err-accepted-clause-text : goal.returns-in_err-accepted-clause-text
returns-in_err-accepted-clause-text g c =
    let p = err_from_is_err_and c.from_residual.result c.from_residual.ensures.1 in
    rw (p.1, p.2) c.in_err-accepted.ensures.taken

pub returns-in_err-accepted-clause-input : goal.returns-in_err-accepted-clause-input
returns-in_err-accepted-clause-input g c =
    let p = err_from_is_err_and c.from_residual.result c.from_residual.ensures.1 in
    let input = g.S.Read.remaining c.args.input.now in
    rw (p.1, p.2) (input_kept input input (concern c.in_err-accepted.field-0.0) c.in_err-accepted.ensures.about_text (Keeps-refl input))

-- ---- the input is refused

pub returns-in_err-bytes-clause-beginning : goal.returns-in_err-bytes-clause-beginning
returns-in_err-bytes-clause-beginning g c =
    let p = err_from_is_err_and c.from_residual-in_err-bytes.result c.from_residual-in_err-bytes.ensures.1 in
    rw (p.1, p.2) (λ write. absurd (no_write_of_input c.in_err-bytes.field-0.0 c.in_err-bytes.ensures.refused.0 write))

pub returns-in_err-bytes-clause-refused : goal.returns-in_err-bytes-clause-refused
returns-in_err-bytes-clause-refused g c =
    let p = err_from_is_err_and c.from_residual-in_err-bytes.result c.from_residual-in_err-bytes.ensures.1 in
    rw (p.1, p.2) (λ other. run_refused_input (g.R.Read.remaining c.args.text.now) (g.S.Read.remaining c.args.input.now) (view.tree c.in_ok-accepted.accepted.tree) c.in_err-bytes.field-0.0
    c.in_ok-accepted.ensures.text c.in_err-bytes.ensures.refused)

pub returns-in_err-bytes-clause-faults : goal.returns-in_err-bytes-clause-faults
returns-in_err-bytes-clause-faults g c =
    let p = err_from_is_err_and c.from_residual-in_err-bytes.result c.from_residual-in_err-bytes.ensures.1 in
    rw (p.1, p.2) (λ xs t text is. inr c.in_err-bytes.ensures.refused)

pub returns-in_err-bytes-clause-text : goal.returns-in_err-bytes-clause-text
returns-in_err-bytes-clause-text g c =
    let p = err_from_is_err_and c.from_residual-in_err-bytes.result c.from_residual-in_err-bytes.ensures.1 in
    rw (p.1, p.2) (text_at _ _ (concern c.in_err-bytes.field-0.0) c.in_ok-accepted.ensures.taken)

pub returns-in_err-bytes-clause-input : goal.returns-in_err-bytes-clause-input
returns-in_err-bytes-clause-input g c =
    let p = err_from_is_err_and c.from_residual-in_err-bytes.result c.from_residual-in_err-bytes.ensures.1 in
    rw (p.1, p.2) c.in_err-bytes.ensures.taken

-- ---- memory runs out in the run

pub returns-in_err-outcome-clause-faults : goal.returns-in_err-outcome-clause-faults
returns-in_err-outcome-clause-faults g c =
    let p = err_from_is_err_and c.from_residual-in_err-outcome.result c.from_residual-in_err-outcome.ensures.1 in
    rw (p.1, p.2) (λ xs t text is. inl (memory_fault c.in_err-outcome.field-0.0 c.in_err-outcome.ensures.memory))

pub returns-in_err-outcome-clause-text : goal.returns-in_err-outcome-clause-text
returns-in_err-outcome-clause-text g c =
    let p = err_from_is_err_and c.from_residual-in_err-outcome.result c.from_residual-in_err-outcome.ensures.1 in
    rw (p.1, p.2) (text_at _ _ (concern c.in_err-outcome.field-0.0) c.in_ok-accepted.ensures.taken)

pub returns-in_err-outcome-clause-input : goal.returns-in_err-outcome-clause-input
returns-in_err-outcome-clause-input g c =
    let p = err_from_is_err_and c.from_residual-in_err-outcome.result c.from_residual-in_err-outcome.ensures.1 in
    rw (p.1, p.2) (memory_at _ _ c.in_err-outcome.field-0.0 c.in_err-outcome.ensures.memory c.in_ok-bytes.ensures.taken)

-- ---- the outcome isn't written

pub returns-in_err-write_result-clause-beginning : goal.returns-in_err-write_result-clause-beginning
returns-in_err-write_result-clause-beginning g c =
    let p = err_from_is_err_and c.from_residual-in_err-write_result.result c.from_residual-in_err-write_result.ensures.1 in
    let made : IsOutcome c.args.how.now c.args.servers.now c.args.form (view.tree c.in_ok-accepted.accepted.tree) (cut c.in_ok-bytes.bytes.items) c.in_ok-outcome.outcome.verdict c.in_ok-outcome.outcome.bytes.items =
    c.in_ok-outcome.ensures.outcome in
    rw (p.1, p.2) (λ write. (
      c.in_ok-outcome.outcome.verdict,
      outcome_due c.args.how.now c.args.servers.now c.args.form c.in_ok-outcome.outcome.verdict (g.R.Read.remaining c.args.text.now) (g.S.Read.remaining c.args.input.now) (view.tree c.in_ok-accepted.accepted.tree) c.in_ok-bytes.bytes.items
          c.in_ok-outcome.outcome.bytes.items _ c.in_ok-accepted.ensures.text c.in_ok-bytes.ensures.input c.in_ok-bytes.ensures.judged made
          (rw c.deref.ensures.value at c.in_err-write_result.ensures.beginning),
    ))

-- ---- the outcome is written

pub returns-clause-done : goal.returns-clause-done
returns-clause-done g c =
    let made : IsOutcome c.args.how.now c.args.servers.now c.args.form (view.tree c.in_ok-accepted.accepted.tree) (cut c.in_ok-bytes.bytes.items) c.in_ok-outcome.outcome.verdict c.in_ok-outcome.outcome.bytes.items =
    c.in_ok-outcome.ensures.outcome in
    outcome_due c.args.how.now c.args.servers.now c.args.form c.in_ok-outcome.outcome.verdict (g.R.Read.remaining c.args.text.now) (g.S.Read.remaining c.args.input.now) (view.tree c.in_ok-accepted.accepted.tree) c.in_ok-bytes.bytes.items
    c.in_ok-outcome.outcome.bytes.items _ c.in_ok-accepted.ensures.text c.in_ok-bytes.ensures.input c.in_ok-bytes.ensures.judged made (rw c.deref.ensures.value at c.in_ok-write_result.ensures.whole)
