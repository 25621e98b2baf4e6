-- The outcome that was made is due, if the text or the input is known.
use Rattle.std.proofs.Common.{◌≡◌, ℕ, List, Ok, Option, Some, IfSome, subst}
use Rattle.std.specs.Borrow.{Bor}
use Rattle.cp_model.specs.Input.{cut}
use Rattle.cp_model.specs.Syntax as s
use Rattle.cp_outcome.specs.declared.verdict.Verdict.{Verdict}
use Rattle.cp_base_config.specs.declared.outcome.OutcomeForm.{OutcomeForm}
use Rattle.cp_base_config.specs.declared.outcome.UntilStill.{UntilStill}
use Rattle.cp_frontend.specs.Cutting.{judge_input}
use Rattle.cp_execute_observe.specs.Outcomes.{Due, IsOutcome}
use Rattle.cp_frontend.specs.Texts.{IsAccepted}
use Rattle.cp_frontend.proofs.TextRefusals.{of_known}

pub outcome_due : (how : UntilStill) (servers : List ℕ) (form : OutcomeForm (Bor (List ℕ))) (v : Verdict) (text input : Option (List ℕ)) (t : s.Tree) (bytes outcome : List ℕ) (Writes : List ℕ → Type 0)
    → IfSome text (λ xs. IsAccepted xs t) → IfSome input (λ ys. bytes ≡ ys) → judge_input bytes ≡ Ok tt → IsOutcome how servers form t (cut bytes) v outcome → Writes outcome
    → Due how servers form v text input Writes
outcome_due how servers form v text input t bytes outcome Writes accepted same fit made written xs is =
    (t, of_known (λ zs. IsAccepted zs t) text xs accepted is, of_input)
  where
    of_input : (ys : List ℕ) → input ≡ Some ys → (judge_input ys ≡ Ok tt) × (bs : List ℕ) × IsOutcome how servers form t (cut ys) v bs × Writes bs
    of_input ys given =
        let known = of_known (λ (bs : List ℕ). bytes ≡ bs) input ys same given in
        (subst (λ (bs : List ℕ). judge_input bs ≡ Ok tt) known fit, outcome, subst (λ (bs : List ℕ). IsOutcome how servers form t (cut bs) v outcome) known made, written)
