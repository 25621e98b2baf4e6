use Rattle.std.proofs.Common.{inl, inr}
use Rattle.std.proofs.KnownBytes.{Keeps-refl}
use Rattle.std.proofs.lemmas.Result.{err_from_is_err_and}
use Rattle.cp_model.specs.Input.{cut}
use Rattle.cp_model.specs.View as view
use Rattle.cp_execute_search.specs.Searches.{IsSearchOf, IsWritten}
use Rattle.cp_frontend.specs.Takings.{concern}
use Rattle.cp_frontend.proofs.Faults.{known_text_fault, memory_fault}
use Rattle.cp_execute_search.proofs.SearchesDue.{search_due}
use Rattle.cp_frontend.proofs.Takings.{input_kept, memory_at, no_write_of_input, no_write_of_text, text_at}
use Rattle.cp_frontend.proofs.TextRefusals.{run_refused_input, run_refused_text}
use Rattle.cp_execute_search.proofs.execute_search.execute_search.Goals as goal

-- ---- the text is refused

pub returns-in_err-accepted-clause-beginning : goal.returns-in_err-accepted-clause-beginning
returns-in_err-accepted-clause-beginning g c =
    let p = err_from_is_err_and c.from_residual.result c.from_residual.ensures.1 in
    rw (p.1, p.2) (λ write. absurd (no_write_of_text c.in_err-accepted.field-0.0 c.in_err-accepted.ensures.about_text write))

pub returns-in_err-accepted-clause-refused : goal.returns-in_err-accepted-clause-refused
returns-in_err-accepted-clause-refused g c =
    let p = err_from_is_err_and c.from_residual.result c.from_residual.ensures.1 in
    rw (p.1, p.2) (λ other. run_refused_text (g.R.Read.remaining c.args.text.now) (g.S.Read.remaining c.args.input.now) c.in_err-accepted.field-0.0 c.in_err-accepted.ensures.refused)

pub returns-in_err-accepted-clause-faults : goal.returns-in_err-accepted-clause-faults
returns-in_err-accepted-clause-faults g c =
    let p = err_from_is_err_and c.from_residual.result c.from_residual.ensures.1 in
    rw (p.1, p.2) (known_text_fault (g.R.Read.remaining c.args.text.now) (g.S.Read.remaining c.args.input.now) c.in_err-accepted.field-0.0 c.in_err-accepted.ensures.refused)

pub returns-in_err-accepted-clause-text : goal.returns-in_err-accepted-clause-text
returns-in_err-accepted-clause-text g c =
    let p = err_from_is_err_and c.from_residual.result c.from_residual.ensures.1 in
    rw (p.1, p.2) c.in_err-accepted.ensures.taken

pub returns-in_err-accepted-clause-input : goal.returns-in_err-accepted-clause-input
returns-in_err-accepted-clause-input g c =
    let p = err_from_is_err_and c.from_residual.result c.from_residual.ensures.1 in
    let input = g.S.Read.remaining c.args.input.now in
    rw (p.1, p.2) (input_kept input input (concern c.in_err-accepted.field-0.0) c.in_err-accepted.ensures.about_text (Keeps-refl input))

-- ---- the input is refused

pub returns-in_err-bytes-clause-beginning : goal.returns-in_err-bytes-clause-beginning
returns-in_err-bytes-clause-beginning g c =
    let p = err_from_is_err_and c.from_residual-in_err-bytes.result c.from_residual-in_err-bytes.ensures.1 in
    rw (p.1, p.2) (λ write. absurd (no_write_of_input c.in_err-bytes.field-0.0 c.in_err-bytes.ensures.refused.0 write))

pub returns-in_err-bytes-clause-refused : goal.returns-in_err-bytes-clause-refused
returns-in_err-bytes-clause-refused g c =
    let p = err_from_is_err_and c.from_residual-in_err-bytes.result c.from_residual-in_err-bytes.ensures.1 in
    rw (p.1, p.2) (λ other. run_refused_input (g.R.Read.remaining c.args.text.now) (g.S.Read.remaining c.args.input.now) (view.tree c.in_ok-accepted.accepted.tree) c.in_err-bytes.field-0.0
    c.in_ok-accepted.ensures.text c.in_err-bytes.ensures.refused)

pub returns-in_err-bytes-clause-faults : goal.returns-in_err-bytes-clause-faults
returns-in_err-bytes-clause-faults g c =
    let p = err_from_is_err_and c.from_residual-in_err-bytes.result c.from_residual-in_err-bytes.ensures.1 in
    rw (p.1, p.2) (λ xs t text is. inr c.in_err-bytes.ensures.refused)

pub returns-in_err-bytes-clause-text : goal.returns-in_err-bytes-clause-text
returns-in_err-bytes-clause-text g c =
    let p = err_from_is_err_and c.from_residual-in_err-bytes.result c.from_residual-in_err-bytes.ensures.1 in
    rw (p.1, p.2) (text_at _ _ (concern c.in_err-bytes.field-0.0) c.in_ok-accepted.ensures.taken)

pub returns-in_err-bytes-clause-input : goal.returns-in_err-bytes-clause-input
returns-in_err-bytes-clause-input g c =
    let p = err_from_is_err_and c.from_residual-in_err-bytes.result c.from_residual-in_err-bytes.ensures.1 in
    rw (p.1, p.2) c.in_err-bytes.ensures.taken

-- ---- memory runs out in the search

pub returns-in_err-reported-clause-faults : goal.returns-in_err-reported-clause-faults
returns-in_err-reported-clause-faults g c =
    let p = err_from_is_err_and c.from_residual-in_err-reported.result c.from_residual-in_err-reported.ensures.1 in
    rw (p.1, p.2) (λ xs t text is. inl (memory_fault c.in_err-reported.field-0.0 c.in_err-reported.ensures.memory))

pub returns-in_err-reported-clause-text : goal.returns-in_err-reported-clause-text
returns-in_err-reported-clause-text g c =
    let p = err_from_is_err_and c.from_residual-in_err-reported.result c.from_residual-in_err-reported.ensures.1 in
    rw (p.1, p.2) (text_at _ _ (concern c.in_err-reported.field-0.0) c.in_ok-accepted.ensures.taken)

pub returns-in_err-reported-clause-input : goal.returns-in_err-reported-clause-input
returns-in_err-reported-clause-input g c =
    let p = err_from_is_err_and c.from_residual-in_err-reported.result c.from_residual-in_err-reported.ensures.1 in
    rw (p.1, p.2) (memory_at _ _ c.in_err-reported.field-0.0 c.in_err-reported.ensures.memory c.in_ok-bytes.ensures.taken)

-- ---- the result isn't written

pub returns-in_err-write_result-clause-beginning : goal.returns-in_err-write_result-clause-beginning
returns-in_err-write_result-clause-beginning g c =
    let p = err_from_is_err_and c.from_residual-in_err-write_result.result c.from_residual-in_err-write_result.ensures.1 in
    let made : IsSearchOf c.args.servers.now (view.tree c.in_ok-accepted.accepted.tree) (cut c.in_ok-bytes.bytes.items) c.in_ok-reported.reported.verdict c.in_ok-reported.reported.findings =
    c.in_ok-reported.ensures.search in
    rw (p.1, p.2) (λ write. (
      c.in_ok-reported.reported.verdict,
      c.in_ok-reported.reported.findings,
      search_due c.args.servers.now c.args.how.form c.in_ok-reported.reported.verdict c.in_ok-reported.reported.findings (g.R.Read.remaining c.args.text.now) (g.S.Read.remaining c.args.input.now) (view.tree c.in_ok-accepted.accepted.tree)
          c.in_ok-bytes.bytes.items c.in_ok-reported.reported.page.items _ c.in_ok-accepted.ensures.text c.in_ok-bytes.ensures.input c.in_ok-bytes.ensures.judged made c.in_ok-reported.ensures.page
          (rw c.deref.ensures.value at c.in_err-write_result.ensures.beginning),
    ))

-- ---- the result is written

pub returns-clause-done : goal.returns-clause-done
returns-clause-done g c =
    let made : IsSearchOf c.args.servers.now (view.tree c.in_ok-accepted.accepted.tree) (cut c.in_ok-bytes.bytes.items) c.in_ok-reported.reported.verdict c.in_ok-reported.reported.findings =
    c.in_ok-reported.ensures.search in
    search_due c.args.servers.now c.args.how.form c.in_ok-reported.reported.verdict c.in_ok-reported.reported.findings (g.R.Read.remaining c.args.text.now) (g.S.Read.remaining c.args.input.now) (view.tree c.in_ok-accepted.accepted.tree)
    c.in_ok-bytes.bytes.items c.in_ok-reported.reported.page.items _ c.in_ok-accepted.ensures.text c.in_ok-bytes.ensures.input c.in_ok-bytes.ensures.judged made c.in_ok-reported.ensures.page
    (rw c.deref.ensures.value at c.in_ok-write_result.ensures.whole)
