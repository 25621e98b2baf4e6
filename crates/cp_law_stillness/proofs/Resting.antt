-- A process that can't move has no next step, so its turns change nothing, and waking and closing
-- leave its status as it was.
use Rattle.std.specs.Prelude.{Bool, List, [], false, if◌then◌else◌, nat_eq, refl, suc, true, zero, ℕ, ◌∷◌, ◌≡◌}
use Rattle.std.proofs.Common.{ap, sym, ◌∙◌}
use Rattle.std.proofs.lemmas.Bool.{eqb-true, true≢false}
use Rattle.cp_model.specs.Configurations.{Asking, Delayed, Ended, Faulted, Fresh, Ready, Status, Unstarted, Waiting}
use Rattle.cp_model.specs.Continuations.{Task}
use Rattle.cp_model.specs.States.{Setup, State, is_in, processes}
use Rattle.cp_model.specs.Turns.{NoStep, if_kernel, if_private, kernel_step, kernel_turn, kind, kind_of, private_step, private_turn, step}
use Rattle.cp_model.specs.Rounds.{after_closing, wake_status}
use Rattle.cp_law_stillness.specs.Stillness.{IsIdle, can_move, is_still, none_can_move}

-- ---- One status

no_step : (x : Status) (k : List Task) → can_move x ≡ false → kind_of x k ≡ NoStep
no_step Ready k h = absurd (true≢false h)
no_step Fresh k h = refl
no_step Waiting k h = refl
no_step Unstarted k h = refl
no_step Ended k h = refl
no_step (Asking m) k h = refl
no_step (Delayed m q) k h = refl
no_step (Faulted n) k h = refl

pub never_wakes : (x : Status) → can_move x ≡ false → wake_status x ≡ x
never_wakes Waiting h = absurd (true≢false h)
never_wakes Ready h = refl
never_wakes Fresh h = refl
never_wakes Unstarted h = refl
never_wakes Ended h = refl
never_wakes (Asking m) h = refl
never_wakes (Delayed m q) h = refl
never_wakes (Faulted n) h = refl

pub never_begins : (x : Status) → can_move x ≡ false → after_closing x ≡ x
never_begins Fresh h = absurd (true≢false h)
never_begins Waiting h = refl
never_begins Ready h = refl
never_begins Unstarted h = refl
never_begins Ended h = refl
never_begins (Asking m) h = refl
never_begins (Delayed m q) h = refl
never_begins (Faulted n) h = refl

-- ---- One process of a state

rests_in : (ps : List ℕ) (s : State) (p : ℕ) → none_can_move s ps ≡ true → is_in p ps ≡ true → can_move (s.status p) ≡ false
rests_in [] s p h i = absurd (true≢false (sym i))
rests_in (q ∷ ps) s p h i = by (can_move (s.status q)) refl h (nat_eq p q) refl i (rests_in ps s p)
  where
    by : (b : Bool) → can_move (s.status q) ≡ b → (if b then false else none_can_move s ps) ≡ true
        → (x : Bool) → nat_eq p q ≡ x → (if x then true else is_in p ps) ≡ true
        → (none_can_move s ps ≡ true → is_in p ps ≡ true → can_move (s.status p) ≡ false) → can_move (s.status p) ≡ false
    by true e none x f there later = absurd (true≢false (sym none))
    by false e none true f there later = ap (λ k. can_move (s.status k)) (eqb-true p q f) ∙ e
    by false e none false f there later = later none there

module _ (setup : Setup) (s : State) (still : is_still setup s ≡ true) (p : ℕ) (there : is_in p (processes setup) ≡ true) where
  pub rests : can_move (s.status p) ≡ false
  rests = rests_in (processes setup) s p still there

  pub has_no_step : kind s p ≡ NoStep
  has_no_step = no_step (s.status p) (s.continuation p) rests

  no_private_step : private_step setup s p ≡ s
  no_private_step = ap (λ k. if_private k (step setup s p) s) has_no_step

  no_kernel_step : kernel_step setup s p ≡ s
  no_kernel_step = ap (λ k. if_kernel k (step setup s p) s) has_no_step

  no_private_turn : (t : ℕ) → private_turn setup t s p ≡ s
  no_private_turn zero = refl
  no_private_turn (suc t) = ap (λ u. private_turn setup t u p) no_private_step ∙ no_private_turn t

  no_kernel_turn : (t : ℕ) → kernel_turn setup t s p ≡ s
  no_kernel_turn zero = refl
  no_kernel_turn (suc t) = ap (λ u. kernel_turn setup t u p) no_kernel_step ∙ no_kernel_turn t

  pub is_idle : IsIdle setup s p
  is_idle = record {
    private = no_private_step;
    kernel = no_kernel_step;
    private_turn = no_private_turn;
    kernel_turn = no_kernel_turn;
  }
