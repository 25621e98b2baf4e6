-- If the next step of p is private, the kernel turn of another process leaves the whole own part of
-- p unchanged.
use Rattle.std.specs.Prelude.{Bool, if◌then◌else◌, refl, suc, true, zero, ℕ, ◌≡◌, ◌≢◌}
use Rattle.std.proofs.Common.{ap, sym, ◌∙◌}
use Rattle.cp_model.specs.Locations.{Location}
use Rattle.cp_model.specs.States.{Setup, State}
use Rattle.cp_model.specs.Turns.{Kernel, Kind, NoStep, Private, if_kernel, kernel_step, kernel_turn, kind, step}
use Rattle.cp_model.specs.Invariant.{Invariant}
use Rattle.cp_model.specs.Parts.{SameOwnPart, is_own}
use Rattle.cp_model.proofs.OwnSteps.{IsSameFor, kind_private, outcome, same_for_self, same_kind}
use Rattle.cp_model.proofs.StepOrder.{kernel_same_for, kernel_writes}
use Rattle.cp_model.proofs.OutsideReach.{may_commute}
use Rattle.cp_model.proofs.StateInvariant.{kernel_step_keeps}

module _ (setup : Setup) where
  kernel_step_same_for : (p q : ℕ) (s : State) → q ≢ p → Invariant s → kind s p ≡ Private
      → IsSameFor setup p s (kernel_step setup s q)
  kernel_step_same_for p q s d i h = go (kind s q) refl
    where
      go : (k : Kind) → kind s q ≡ k → IsSameFor setup p s (if_kernel k (step setup s q) s)
      go NoStep e = same_for_self setup p s
      go Private e = same_for_self setup p s
      go Kernel e =
          let apart : p ≢ q = λ x. d (sym x) in
          let ready = (kind_private (s.status p) (s.continuation p) h).0 in
          kernel_same_for setup p q s (outcome setup s q) apart ready
          (kernel_writes setup p q s apart (may_commute s i) e ready)

  same_own_part : (p : ℕ) (s u : State) → IsSameFor setup p s u → SameOwnPart p s u
  same_own_part p s u e = record {
    status = e.status;
    transcript = e.transcript;
    consumed = e.consumed;
    store = λ l own. ap (λ st. st l) e.store ∙ at l (is_own p l.owner) own;
    continuation = e.continuation;
  }
    where
      at : (l : Location) (b : Bool) → b ≡ true → (if b then s.store l else u.store l) ≡ s.store l
      at l b own = rw own refl

  joined : (p : ℕ) (s u v : State) → SameOwnPart p s u → SameOwnPart p u v → SameOwnPart p s v
  joined p s u v a b = record {
    status = b.status ∙ a.status;
    transcript = b.transcript ∙ a.transcript;
    consumed = b.consumed ∙ a.consumed;
    store = λ l own. b.store l own ∙ a.store l own;
    continuation = b.continuation ∙ a.continuation;
  }

  pub kernel_turn_keeps_privately_ready : (t p q : ℕ) (s : State) → q ≢ p → Invariant s → kind s p ≡ Private
      → SameOwnPart p s (kernel_turn setup t s q)
  kernel_turn_keeps_privately_ready zero p q s d i h = same_own_part p s s (same_for_self setup p s)
  kernel_turn_keeps_privately_ready (suc t) p q s d i h =
      let e = kernel_step_same_for p q s d i h in
      joined p s (kernel_step setup s q) _ (same_own_part p s _ e)
      (kernel_turn_keeps_privately_ready t p q (kernel_step setup s q) d (kernel_step_keeps setup s q i)
      (same_kind setup p s _ e ∙ h))
