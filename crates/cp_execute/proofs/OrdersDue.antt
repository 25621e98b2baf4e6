-- What is due after a replay, if the text, the input or the order is known.
use Rattle.std.proofs.Common.{◌≡◌, ◌≤◌, refl, ℕ, Bool, true, false, List, length, Option, None, Some, Ok, IfSome, subst, arith}
use Rattle.std.proofs.lemmas.Bool.Decides.{nat_tests}
use Rattle.std.specs.Prelude.{if◌then◌else◌, nat_le}
use Rattle.cp_model.specs.Input.{cut}
use Rattle.cp_model.specs.OrderText.{NotALine, order_text}
use Rattle.cp_model.specs.Rounds.{Event}
use Rattle.cp_model.specs.Syntax as s
use Rattle.cp_base_config.specs.declared.run.Replay.{Replay}
use Rattle.cp_frontend.specs.Cutting.{judge_input}
use Rattle.cp_execute.specs.Replayed.{Due, IsDueAfter, IsFit, IsReplayed, judge_order, judge_order_of, processes_in, rounds_reported}
use Rattle.cp_frontend.specs.Takings.{front}
use Rattle.cp_frontend.specs.Texts.{IsAccepted}
use Rattle.cp_frontend.proofs.TextRefusals.{of_known, whole}

-- An order that isn't refused is within the limit.
order_within : (n : ℕ) (bytes : List ℕ) (rounds : List (List Event)) → judge_order_of n bytes ≡ Ok rounds → length bytes ≤ 1048576
order_within n bytes rounds e = by (nat_le (length bytes) 1048576) refl e
  where
    by : (b : Bool) → nat_le (length bytes) 1048576 ≡ b → rounds_reported (if b then order_text n bytes else NotALine 1048576) ≡ Ok rounds → length bytes ≤ 1048576
    by true f e = Prim.grind (arith, nat_tests, f)
    by false f e = absurd (Prim.grind (arith, e))

order_known : (known : Option (List ℕ)) (n : ℕ) (bytes : List ℕ) (rounds : List (List Event)) → IfSome known (λ zs. bytes ≡ front zs)
    → judge_order_of n bytes ≡ Ok rounds → IfSome known (λ zs. bytes ≡ zs)
order_known None n bytes rounds k e = tt
order_known (Some zs) n bytes rounds k e = whole bytes zs k (order_within n bytes rounds e)

pub input_is_fit : (known : Option (List ℕ)) (bytes : List ℕ) → IfSome known (λ ys. bytes ≡ ys) → judge_input bytes ≡ Ok tt → IsFit known
input_is_fit None bytes k e = tt
input_is_fit (Some ys) bytes k e = subst (λ (bs : List ℕ). judge_input bs ≡ Ok tt) k e

-- What was made is due.
pub replay_due : (how : Replay) (text input order : Option (List ℕ)) (t : s.Tree) (bytes events report : List ℕ) (Writes : List ℕ → Type 0)
    → IfSome text (λ xs. IsAccepted xs t) → IfSome input (λ ys. bytes ≡ ys) → judge_input bytes ≡ Ok tt → IfSome order (λ zs. events ≡ front zs)
    → IsReplayed how t (cut bytes) events report → Writes report → Due how text input order Writes
replay_due how text input order t bytes events report Writes accepted same fit read made written xs is =
    (t, of_known (λ zs. IsAccepted zs t) text xs accepted is, input_is_fit input bytes same fit, of_order)
  where
    of_order : (zs : List ℕ) → order ≡ Some zs
        → (rounds : List (List Event)) × (judge_order t zs ≡ Ok rounds)
        × ((ys : List ℕ) → input ≡ Some ys → (report : List ℕ) × IsDueAfter how t (cut ys) rounds report × Writes report)
    of_order zs here =
        let known = of_known (λ (os : List ℕ). events ≡ os) order zs (order_known order (processes_in t) events made.0 read made.1) here in (
          made.0,
          subst (λ (os : List ℕ). judge_order t os ≡ Ok made.0) known made.1,
          λ ys given.
              (report, subst (λ (bs : List ℕ). IsDueAfter how t (cut bs) made.0 report) (of_known (λ (bs : List ℕ). bytes ≡ bs) input ys same given) made.2, written),
        )
