-- One turn more of a process that is quiet.
use Rattle.std.specs.Prelude.{◌≡◌, ◌≢◌, ◌+◌, refl, ℕ, zero, suc, Bool, true, false, if◌then◌else◌, List, [], ◌∷◌}
use Rattle.std.proofs.Common.{sym, ◌∙◌, ap, subst, arith}
use Rattle.std.proofs.lemmas.Bool.{true≢false}
use Rattle.cp_model_machine.specs.Ahead.{NeedsNoKernel}
use Rattle.cp_model_machine.proofs.AheadQuiet.{needs_none}
use Rattle.cp_model_program.specs.Programs.{Program}
use Rattle.cp_model_machine.specs.PrivateStates.{PrivateState, is_running}
use Rattle.cp_model_machine.specs.KernelSteps.{needs_kernel}
use Rattle.cp_model_machine.specs.Steps.{is_private, operation_of}
use Rattle.cp_private.specs.Kinds.{kind_of}
use Rattle.cp_private.specs.declared.kind.Kind.{Kind}
use Rattle.cp_private.specs.declared.kind.Kind.TheVariants as kind
use Rattle.cp_rounds_handoff.specs.Quiet.{needs_no_kernel, needs_no_kernel_by}
use Rattle.cp_rounds_handoff.specs.Tasks.{AreMade, StaysWithoutKernel, is_some}
use Rattle.cp_rounds_handoff.specs.declared.round_time.RoundTime.{RoundTime}

-- ---- Quiet processes

abbrev is_of_kernel : Kind → Bool
is_of_kernel kind.Private = false
is_of_kernel kind.Kernel = true
is_of_kernel kind.None = false

quiet_by : (k : Kind) (written : List ℕ) → needs_no_kernel_by k written ≡ true → (is_of_kernel k ≡ false) × (written ≡ [])
quiet_by kind.Private [] h = (refl, refl)
quiet_by kind.Private (b ∷ written) h = absurd (true≢false (sym h))
quiet_by kind.Kernel written h = absurd (true≢false (sym h))
quiet_by kind.None [] h = (refl, refl)
quiet_by kind.None (b ∷ written) h = absurd (true≢false (sym h))

pub quiet_is : (program : Program) (o : PrivateState) → needs_no_kernel program o ≡ true → NeedsNoKernel program o
quiet_is program o h =
    let both = quiet_by (kind_of program o) o.output h in
    let x = operation_of program o in
    record { next = λ runs. by (is_running o.activity) (is_private o x) (needs_kernel o x) (needs_none o x) runs both.0; silent = both.1 }
  where
    by : (a b c : Bool) → (b ≡ true → c ≡ false) → a ≡ true
        → is_of_kernel (if a then (if b then kind.Private else (if c then kind.Kernel else kind.None)) else kind.None) ≡ false → c ≡ false
    by true true c none runs e = none refl
    by true false true none runs e = absurd (true≢false e)
    by true false false none runs e = refl
    by false b c none runs e = absurd (true≢false (sym runs))

-- ---- One turn more

module _ (without_kernel : PrivateState → Bool) (turned : RoundTime → PrivateState → PrivateState) (round_time : ℕ → RoundTime) where
  stays_more : (round n : ℕ) (o y : PrivateState) → StaysWithoutKernel without_kernel turned round_time round n o y → without_kernel y ≡ true
      → StaysWithoutKernel without_kernel turned round_time round (suc n) o (turned (round_time (round + n)) y)
  stays_more round zero o y is now =
      let same : round + zero ≡ round = omega arith in
      (ap without_kernel (sym is) ∙ now, (λ i. turned (round_time (same i)) (is i)))
  stays_more round (suc n) o y (first, rest) now =
      let same : suc round + n ≡ round + suc n = omega arith in (
        first,
        subst (λ (r : ℕ). StaysWithoutKernel without_kernel turned round_time (suc round) (suc n) (turned (round_time round) o) (turned (round_time r) y)) same
            (stays_more (suc round) n (turned (round_time round) o) y rest now),
      )

  made_suc : (round n : ℕ) (o y : PrivateState) → AreMade without_kernel turned round_time round n o y → (n ≢ 0 → without_kernel y ≡ true)
      → AreMade without_kernel turned round_time round (suc n) o (turned (round_time (round + n)) y)
  made_suc round zero o y is now =
      let same : round + zero ≡ round = omega arith in
      λ i. turned (round_time (same i)) (is i)
  made_suc round (suc n) o y was now =
      let same : suc round + n ≡ round + suc n = omega arith in
      let some : suc n ≢ 0 = λ e. omega (arith, e) in
      subst (λ (r : ℕ). StaysWithoutKernel without_kernel turned round_time (suc round) (suc n) (turned (round_time round) o) (turned (round_time r) y)) same
      (stays_more (suc round) n (turned (round_time round) o) y was (now some))

  pub made_more : (round n : ℕ) (o y : PrivateState) → AreMade without_kernel turned round_time round n o y → (n ≢ 0 → without_kernel y ≡ true)
      → AreMade without_kernel turned round_time round (n + 1) o (turned (round_time (round + n)) y)
  made_more round n o y was now =
      let next : suc n ≡ n + 1 = omega arith in
      subst (λ (k : ℕ). AreMade without_kernel turned round_time round k o (turned (round_time (round + n)) y)) next (made_suc round n o y was now)

pub is_some_next : (n : ℕ) → is_some (n + 1) ≡ true
is_some_next zero = refl
is_some_next (suc n) = let next : suc (n + 1) ≡ suc n + 1 = omega arith in sym (ap is_some next)

pub is_some_of : (n : ℕ) → n ≢ 0 → is_some n ≡ true
is_some_of zero some = absurd (some refl)
is_some_of (suc n) some = refl
