use Rattle.std.proofs.Common.{◌≡◌, ℕ, List, Ok, Some, subst, inl, inr}
use Rattle.std.proofs.KnownBytes.{Keeps-refl}
use Rattle.std.proofs.lemmas.Result.{err_from_is_err_and, on_ok_weaker}
use Rattle.cp_model.specs.Input.{cut}
use Rattle.cp_model.specs.Syntax as s
use Rattle.cp_model.specs.View as view
use Rattle.cp_model.proofs.Results.{if_err, on_err}
use Rattle.cp_frontend.specs.Cutting.{judge_input}
use Rattle.cp_execute.specs.Executed.{IsDue}
use Rattle.cp_frontend.specs.Takings.{concern}
use Rattle.cp_frontend.specs.Texts.{IsAccepted}
use Rattle.cp_frontend.proofs.Faults.{known_text_fault, memory_fault, write_fault}
use Rattle.cp_frontend.proofs.Takings.{input_kept, input_written, memory_at, no_write_of_input, no_write_of_text, text_at, text_taken}
use Rattle.cp_frontend.proofs.TextRefusals.{of_known, run_refused_input, run_refused_text}
use Rattle.cp_execute.proofs.execute.run_text.Given.{Over}
use Rattle.cp_execute.proofs.execute.run_text.Goals as goal
use Rattle.cp_execute.proofs.execute.run_text.Goals.{After-drop-accepted-3}

-- The text is accepted and the input, if it is known, is fit. The report that was made is the one
-- that is due.
abbrev Made : (g : Over) → After-drop-accepted-3 g → List ℕ → Type 0
Made g c xs =
    IsAccepted xs (view.tree c.in_ok-accepted.accepted.tree)
    × ((ys : List ℕ) → g.S.Read.remaining c.args.input.now ≡ Some ys
    → (judge_input ys ≡ Ok tt) × IsDue c.args.run.now (view.tree c.in_ok-accepted.accepted.tree) (cut ys) c.in_ok-report.report.items)

made : (g : Over) (c : After-drop-accepted-3 g) (xs : List ℕ) → g.R.Read.remaining c.args.text.now ≡ Some xs → Made g c xs
made g c xs text = (of_known (λ zs. IsAccepted zs t) (g.R.Read.remaining c.args.text.now) xs c.in_ok-accepted.ensures.text text, of_input)
  where
    t : s.Tree
    t = view.tree c.in_ok-accepted.accepted.tree

    of_input : (ys : List ℕ) → g.S.Read.remaining c.args.input.now ≡ Some ys → (judge_input ys ≡ Ok tt) × IsDue c.args.run.now t (cut ys) c.in_ok-report.report.items
    of_input ys input =
        let same : c.in_ok-bytes.bytes.items ≡ ys = of_known (λ zs. c.in_ok-bytes.bytes.items ≡ zs) (g.S.Read.remaining c.args.input.now) ys c.in_ok-bytes.ensures.input input in (
          subst (λ (bs : List ℕ). judge_input bs ≡ Ok tt) same c.in_ok-bytes.ensures.judged,
          subst (λ (bs : List ℕ). IsDue c.args.run.now t (cut bs) c.in_ok-report.report.items) same c.in_ok-report.ensures.report,
        )

-- ---- the text is refused

pub returns-in_err-accepted-clause-beginning : goal.returns-in_err-accepted-clause-beginning
returns-in_err-accepted-clause-beginning g c =
    let p = err_from_is_err_and c.from_residual.result c.from_residual.ensures.1 in
    rw (p.1, p.2) (λ write. absurd (no_write_of_text c.in_err-accepted.field-0.0 c.in_err-accepted.ensures.about_text write))

pub returns-in_err-accepted-clause-refused : goal.returns-in_err-accepted-clause-refused
returns-in_err-accepted-clause-refused g c =
    let p = err_from_is_err_and c.from_residual.result c.from_residual.ensures.1 in
    rw (p.1, p.2) (λ other. run_refused_text (g.R.Read.remaining c.args.text.now) (g.S.Read.remaining c.args.input.now) c.in_err-accepted.field-0.0 c.in_err-accepted.ensures.refused)

pub returns-in_err-accepted-clause-faults : goal.returns-in_err-accepted-clause-faults
returns-in_err-accepted-clause-faults g c =
    let p = err_from_is_err_and c.from_residual.result c.from_residual.ensures.1 in
    rw (p.1, p.2) (known_text_fault (g.R.Read.remaining c.args.text.now) (g.S.Read.remaining c.args.input.now) c.in_err-accepted.field-0.0 c.in_err-accepted.ensures.refused)

pub returns-in_err-accepted-clause-text : goal.returns-in_err-accepted-clause-text
returns-in_err-accepted-clause-text g c =
    let p = err_from_is_err_and c.from_residual.result c.from_residual.ensures.1 in
    rw (p.1, p.2) c.in_err-accepted.ensures.taken

pub returns-in_err-accepted-clause-input : goal.returns-in_err-accepted-clause-input
returns-in_err-accepted-clause-input g c =
    let p = err_from_is_err_and c.from_residual.result c.from_residual.ensures.1 in
    let input = g.S.Read.remaining c.args.input.now in
    rw (p.1, p.2) (input_kept input input (concern c.in_err-accepted.field-0.0) c.in_err-accepted.ensures.about_text (Keeps-refl input))

-- ---- the input is refused

pub returns-in_err-bytes-clause-beginning : goal.returns-in_err-bytes-clause-beginning
returns-in_err-bytes-clause-beginning g c =
    let p = err_from_is_err_and c.from_residual-in_err-bytes.result c.from_residual-in_err-bytes.ensures.1 in
    rw (p.1, p.2) (λ write. absurd (no_write_of_input c.in_err-bytes.field-0.0 c.in_err-bytes.ensures.refused.0 write))

pub returns-in_err-bytes-clause-refused : goal.returns-in_err-bytes-clause-refused
returns-in_err-bytes-clause-refused g c =
    let p = err_from_is_err_and c.from_residual-in_err-bytes.result c.from_residual-in_err-bytes.ensures.1 in
    rw (p.1, p.2) (λ other. run_refused_input (g.R.Read.remaining c.args.text.now) (g.S.Read.remaining c.args.input.now) (view.tree c.in_ok-accepted.accepted.tree) c.in_err-bytes.field-0.0
    c.in_ok-accepted.ensures.text c.in_err-bytes.ensures.refused)

pub returns-in_err-bytes-clause-faults : goal.returns-in_err-bytes-clause-faults
returns-in_err-bytes-clause-faults g c =
    let p = err_from_is_err_and c.from_residual-in_err-bytes.result c.from_residual-in_err-bytes.ensures.1 in
    rw (p.1, p.2) (λ xs t text is. inr c.in_err-bytes.ensures.refused)

pub returns-in_err-bytes-clause-text : goal.returns-in_err-bytes-clause-text
returns-in_err-bytes-clause-text g c =
    let p = err_from_is_err_and c.from_residual-in_err-bytes.result c.from_residual-in_err-bytes.ensures.1 in
    rw (p.1, p.2) (text_at _ _ (concern c.in_err-bytes.field-0.0) c.in_ok-accepted.ensures.taken)

pub returns-in_err-bytes-clause-input : goal.returns-in_err-bytes-clause-input
returns-in_err-bytes-clause-input g c =
    let p = err_from_is_err_and c.from_residual-in_err-bytes.result c.from_residual-in_err-bytes.ensures.1 in
    rw (p.1, p.2) c.in_err-bytes.ensures.taken

-- ---- memory runs out in the run

pub returns-in_err-report-clause-faults : goal.returns-in_err-report-clause-faults
returns-in_err-report-clause-faults g c =
    let p = err_from_is_err_and c.from_residual-in_err-report.result c.from_residual-in_err-report.ensures.1 in
    rw (p.1, p.2) (λ xs t text is. inl (memory_fault c.in_err-report.field-0.0 c.in_err-report.ensures.memory))

pub returns-in_err-report-clause-text : goal.returns-in_err-report-clause-text
returns-in_err-report-clause-text g c =
    let p = err_from_is_err_and c.from_residual-in_err-report.result c.from_residual-in_err-report.ensures.1 in
    rw (p.1, p.2) (text_at _ _ (concern c.in_err-report.field-0.0) c.in_ok-accepted.ensures.taken)

pub returns-in_err-report-clause-input : goal.returns-in_err-report-clause-input
returns-in_err-report-clause-input g c =
    let p = err_from_is_err_and c.from_residual-in_err-report.result c.from_residual-in_err-report.ensures.1 in
    rw (p.1, p.2) (memory_at _ _ c.in_err-report.field-0.0 c.in_err-report.ensures.memory c.in_ok-bytes.ensures.taken)

-- ---- the report is written

pub returns-clause-reports : goal.returns-clause-reports
returns-clause-reports g c =
    on_ok_weaker c.write_result.result
    (λ written xs text.
    let m = made g c xs text in
    (view.tree c.in_ok-accepted.accepted.tree, m.0, λ ys input. let d = m.1 ys input in (d.0, c.in_ok-report.report.items, d.1, written)))
    (rw c.deref.ensures.value at c.write_result.ensures.whole)

pub returns-clause-beginning : goal.returns-clause-beginning
returns-clause-beginning g c =
    on_err c.write_result.result
    (λ e begun write xs text.
    let m = made g c xs text in
    (view.tree c.in_ok-accepted.accepted.tree, m.0, λ ys input. let d = m.1 ys input in (d.0, c.in_ok-report.report.items, d.1, begun)))
    (rw c.deref.ensures.value at c.write_result.ensures.beginning)

pub returns-clause-faults : goal.returns-clause-faults
returns-clause-faults g c = if_err c.write_result.result (λ e write xs t text is. inl (write_fault e write)) c.write_result.ensures.write

pub returns-clause-text : goal.returns-clause-text
returns-clause-text g c = text_taken c.write_result.result _ _ c.in_ok-accepted.ensures.taken

pub returns-clause-input : goal.returns-clause-input
returns-clause-input g c = input_written c.write_result.result _ _ c.in_ok-bytes.ensures.taken c.write_result.ensures.write
