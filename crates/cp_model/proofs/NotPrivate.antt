-- No step of another process makes a process private that isn't.
use Rattle.std.specs.Prelude.{Bool, List, None, Some, [], false, if◌then◌else◌, nat_eq, refl, true, ℕ, ◌∷◌, ◌≡◌, ◌≢◌}
use Rattle.std.proofs.Common.{sym}
use Rattle.std.proofs.lemmas.Bool.{eqb-true, ne_eqb}
use Rattle.cp_model.specs.Outcomes.{Fault, Gives}
use Rattle.cp_model.specs.Continuations.{Task, is_in_monitor}
use Rattle.cp_model.specs.Configurations.{Asking, Continues, Delayed, Delays, Effect, Ended, Ends, Enters, Faulted, Fresh, Leaves, Opens, Own, Ready, Starts, Status, StepResult, Unstarted, Waiting, Waits}
use Rattle.cp_model.specs.States.{Free, HeldBy, Holder, Setup, State, Unset, set_status, with_configuration}
use Rattle.cp_model.specs.Gates.{apply_effect, enter, made_ready, make_ready, pass_to, set_gate, start_process}
use Rattle.cp_model.specs.Turns.{after_step, kind_of}
use Rattle.cp_model.specs.Invariant.{IsBlocked}
use Rattle.cp_model.proofs.OwnSteps.{NotPrivate}

module _ (setup : Setup) where
  abbrev NotPrivateAt : State → ℕ → Type 0
  NotPrivateAt s p = NotPrivate setup (kind_of (s.status p) (s.continuation p))

  abbrev BlockedHoldsAt : State → ℕ → Type 0
  BlockedHoldsAt s p = IsBlocked (s.status p) → is_in_monitor (s.continuation p) ≡ true

  made_ready_other : (x : Status) (k : List Task) → NotPrivate setup (kind_of x k) → (IsBlocked x → is_in_monitor k ≡ true)
      → NotPrivate setup (kind_of (made_ready x) k)
  made_ready_other Unstarted k o h = tt
  made_ready_other Fresh k o h = tt
  made_ready_other Ready k o h = o
  made_ready_other Ended k o h = tt
  made_ready_other Waiting k o h = tt
  made_ready_other (Asking m) k o h = rw (h tt) tt
  made_ready_other (Delayed m q) k o h = rw (h tt) tt
  made_ready_other (Faulted n) k o h = tt

  make_ready_other : (p q : ℕ) (u : State) → NotPrivateAt u p → BlockedHoldsAt u p → NotPrivateAt (make_ready q u) p
  make_ready_other p q u o h = go (nat_eq q p) refl
    where
      go : (b : Bool) → nat_eq q p ≡ b → NotPrivate setup
          (kind_of (if b then made_ready (u.status q) else u.status p) (u.continuation p))
      go true e = rw (eqb-true q p e) (made_ready_other (u.status p) (u.continuation p) o h)
      go false e = o

  pass_other : (p m : ℕ) (qs : List ℕ) (u : State) → NotPrivateAt u p → BlockedHoldsAt u p → NotPrivateAt (pass_to m qs u) p
  pass_other p m [] u o h = o
  pass_other p m (q ∷ qs) u o h = make_ready_other p q (set_gate m (HeldBy q) qs u) o h

  set_other : (p q : ℕ) (y : Status) (u : State) → p ≢ q → NotPrivateAt u p → NotPrivateAt (set_status q y u) p
  set_other p q y u d o = rw (ne_eqb q p (λ e. d (sym e))) o

  effect_other : (p q : ℕ) (e : Effect) (u : State) → p ≢ q → NotPrivateAt u p → BlockedHoldsAt u p
      → NotPrivateAt (apply_effect q e u) p
  effect_other p q Own u d o h = o
  effect_other p q Ends u d o h = set_other p q Ended u d o
  effect_other p q Waits u d o h = set_other p q Waiting u d o
  effect_other p q (Enters m) u d o h = go (u.gates m).holder
    where
      go : (z : Holder) → NotPrivateAt (enter q m z u) p
      go Unset = o
      go Free = o
      go (HeldBy c) = set_other p q (Asking m) u d o
  effect_other p q (Leaves m) u d o h = pass_other p m (u.gates m).askers u o h
  effect_other p q (Delays m l) u d o h =
      pass_other p m (u.gates m).askers (set_status q (Delayed m l) u) (set_other p q (Delayed m l) u d o)
      (rw (ne_eqb q p (λ e. d (sym e))) h)
  effect_other p q (Continues m None) u d o h = pass_other p m (u.gates m).askers u o h
  effect_other p q (Continues m (Some c)) u d o h = make_ready_other p c (set_gate m (HeldBy c) (u.gates m).askers u) o h
  effect_other p q (Opens m) u d o h = o
  effect_other p q (Starts c k) u d o h = go (u.status c)
    where
      go : (y : Status) → NotPrivateAt (start_process c k y u) p
      go Unstarted = at (nat_eq c p)
        where
          at : (b : Bool) → NotPrivate setup (kind_of (if b then Fresh else u.status p) (if b then k else u.continuation p))
          at true = tt
          at false = o
      go Fresh = o
      go Ready = o
      go Ended = o
      go Waiting = o
      go (Asking m) = o
      go (Delayed m l) = o
      go (Faulted n) = o

  pub after_step_other : (p q : ℕ) (s : State) (o : StepResult) → p ≢ q → NotPrivateAt s p → BlockedHoldsAt s p
      → NotPrivateAt (after_step s q o) p
  after_step_other p q s (Fault n) d a h = set_other p q (Faulted n) s d a
  after_step_other p q s (Gives (u, e)) d a h =
      effect_other p q e (with_configuration s q u) d
      (rw (ne_eqb q p (λ f. d (sym f))) a) (rw (ne_eqb q p (λ f. d (sym f))) h)
