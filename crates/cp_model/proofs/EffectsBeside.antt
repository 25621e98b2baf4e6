-- The effect of a step of q in a state in which another process p is ready.
use Rattle.std.specs.Prelude.{Bool, List, None, Some, [], false, if◌then◌else◌, nat_eq, refl, true, ℕ, ◌∷◌, ◌≡◌, ◌≢◌}
use Rattle.std.proofs.Common.{ap, arith, sym, ◌∙◌}
use Rattle.std.proofs.lemmas.Bool.{eqb-false, eqb-true, ne_eqb}
use Rattle.cp_model.specs.Outcomes.{Fault, Gives}
use Rattle.cp_model.specs.Continuations.{Task}
use Rattle.cp_model.specs.Configurations.{Asking, Configuration, Continues, Delayed, Delays, Effect, Ended, Ends, Enters, Faulted, Fresh, Leaves, Opens, Own, Ready, Starts, Status, StepResult, Unstarted, Waiting, Waits}
use Rattle.cp_model.specs.States.{Free, HeldBy, Holder, State, Unset, is_started, set_status, with_at}
use Rattle.cp_model.specs.Gates.{apply_effect, enter, made_ready, make_ready, pass_on, pass_to, set_gate, start_process}
use Rattle.cp_model.proofs.StateMaps.{state_is, with_at_swap, with_at_there}
use Rattle.cp_model.proofs.OwnSteps.{install, result_status, status_by}

abbrev pub IsOwnStatus : Status → Type 0
IsOwnStatus x = (made_ready x ≡ x) × (is_started x ≡ true)

status_by_own : (e : Effect) → IsOwnStatus (status_by e)
status_by_own Own = (refl, refl)
status_by_own Ends = (refl, refl)
status_by_own Waits = (refl, refl)
status_by_own (Enters m) = (refl, refl)
status_by_own (Leaves m) = (refl, refl)
status_by_own (Delays m q) = (refl, refl)
status_by_own (Continues m r) = (refl, refl)
status_by_own (Opens m) = (refl, refl)
status_by_own (Starts r k) = (refl, refl)

pub result_status_own : (o : StepResult) → IsOwnStatus (result_status o)
result_status_own (Fault n) = (refl, refl)
result_status_own (Gives x) = status_by_own x.1

module _ (p : ℕ) (r : Configuration) (x : Status) (own : IsOwnStatus x) where
  -- Making q ready commutes with installing p.
  ready_beside : (q : ℕ) (u : State) → u.status p ≡ Ready → make_ready q (install p r x u) ≡ install p r x (make_ready q u)
  ready_beside q u h = state_is _ _ refl refl refl refl
      (λ i k. at k (nat_eq q k) (nat_eq p k) (nat_eq p q) refl refl refl i) refl refl
    where
      at : (k : ℕ) (a b c : Bool) → nat_eq q k ≡ a → nat_eq p k ≡ b → nat_eq p q ≡ c
          → (if a then made_ready (if c then x else u.status q) else (if b then x else u.status k))
          ≡ (if b then x else (if a then made_ready (u.status q) else u.status k))
      at k true true true e f g = own.0
      at k true true false e f g = absurd (eqb-false p q g (eqb-true p k f ∙ sym (eqb-true q k e)))
      at k true false true e f g = absurd (eqb-false p k f (eqb-true p q g ∙ eqb-true q k e))
      at k true false false e f g = refl
      at k false true c e f g = refl
      at k false false c e f g = refl

  pass_beside : (m : ℕ) (askers : List ℕ) (u : State) → u.status p ≡ Ready → pass_to m askers (install p r x u)
      ≡ install p r x (pass_to m askers u)
  pass_beside m [] u h = refl
  pass_beside m (q ∷ qs) u h = ready_beside q (set_gate m (HeldBy q) qs u) h

  status_beside : (q : ℕ) (y : Status) (u : State) → p ≢ q → set_status q y (install p r x u)
      ≡ install p r x (set_status q y u)
  status_beside q y u d = state_is _ _ refl refl refl refl (with_at_swap q p y x u.status (λ e. d (sym e))) refl refl

  status_of_other : (q : ℕ) (y : Status) (u : State) → p ≢ q → (set_status q y u).status p ≡ u.status p
  status_of_other q y u d = with_at_there q p y u.status (ne_eqb q p (λ e. d (sym e)))

  start_beside : (q : ℕ) (k : List Task) (y : Status) (u : State) → u.status p ≡ Ready → u.status q ≡ y
      → start_process q k ((install p r x u).status q) (install p r x u) ≡ install p r x (start_process q k y u)
  start_beside q k y u h e = by_number (nat_eq p q) refl
    where
      here : (z : Status) → IsOwnStatus z → start_process q k z (install p r x u) ≡ install p r x u
      here Unstarted o = absurd (Prim.grind arith)
      here Fresh o = refl
      here Ready o = refl
      here Ended o = refl
      here Waiting o = refl
      here (Asking m) o = refl
      here (Delayed m l) o = refl
      here (Faulted n) o = refl

      other_context : (z : Status) → p ≢ q → start_process q k z (install p r x u) ≡ install p r x (start_process q k z u)
      other_context Unstarted d =
          state_is _ _ refl (with_at_swap q p k r.continuation u.continuation (λ e. d (sym e))) refl refl (with_at_swap q p Fresh x u.status (λ e. d (sym e))) refl refl
      other_context Fresh d = refl
      other_context Ready d = refl
      other_context Ended d = refl
      other_context Waiting d = refl
      other_context (Asking m) d = refl
      other_context (Delayed m l) d = refl
      other_context (Faulted n) d = refl

      by_number : (b : Bool) → nat_eq p q ≡ b → start_process q k (with_at p x u.status q) (install p r x u)
          ≡ install p r x (start_process q k y u)
      by_number true f =
          rw f (here x own ∙ ap (λ v. install p r x v) (sym (ap (λ a. start_process q k a u) (sym e ∙ ap u.status (sym (eqb-true p q f)) ∙ h))))
      by_number false f = rw (f, e) (other_context y (eqb-false p q f))

  pub effect_beside : (q : ℕ) (e : Effect) (u : State) → p ≢ q → u.status p ≡ Ready → apply_effect q e (install p r x u)
      ≡ install p r x (apply_effect q e u)
  effect_beside q Own u d h = refl
  effect_beside q Ends u d h = status_beside q Ended u d
  effect_beside q Waits u d h = status_beside q Waiting u d
  effect_beside q (Enters m) u d h = by_held (u.gates m).holder
    where
      by_held : (z : Holder) → enter q m z (install p r x u) ≡ install p r x (enter q m z u)
      by_held Unset = refl
      by_held Free = refl
      by_held (HeldBy o) = status_beside q (Asking m) (set_gate m (HeldBy o) _ u) d
  effect_beside q (Leaves m) u d h = pass_beside m (u.gates m).askers u h
  effect_beside q (Delays m l) u d h =
      ap (pass_on m) (status_beside q (Delayed m l) u d) ∙ pass_beside m (u.gates m).askers (set_status q (Delayed m l) u)
      (status_of_other q (Delayed m l) u d ∙ h)
  effect_beside q (Continues m None) u d h = pass_beside m (u.gates m).askers u h
  effect_beside q (Continues m (Some o)) u d h = ready_beside o (set_gate m (HeldBy o) (u.gates m).askers u) h
  effect_beside q (Opens m) u d h = refl
  effect_beside q (Starts o k) u d h = start_beside o k (u.status o) u h refl

-- An effect leaves the store, and what belongs to a process that is ready, unchanged.
pub record LeavesAlone (p : ℕ) (u v : State) : Type 0 where
  pub store : v.store ≡ u.store
  pub transcript : v.transcript ≡ u.transcript
  pub consumed : v.consumed ≡ u.consumed
  pub rounds : v.rounds ≡ u.rounds
  pub continuation : v.continuation p ≡ u.continuation p
  pub status : v.status p ≡ u.status p

ready_alone : (p q : ℕ) (u : State) → u.status p ≡ Ready → LeavesAlone p u (make_ready q u)
ready_alone p q u h = record {
  store = refl;
  transcript = refl;
  consumed = refl;
  rounds = refl;
  continuation = refl;
  status = go (nat_eq q p) refl;
}
  where
    go : (b : Bool) → nat_eq q p ≡ b → (if b then made_ready (u.status q) else u.status p) ≡ u.status p
    go true e = rw (eqb-true q p e, h) refl
    go false e = refl

pass_alone : (p m : ℕ) (qs : List ℕ) (u : State) → u.status p ≡ Ready → LeavesAlone p u (pass_to m qs u)
pass_alone p m [] u h = record {
  store = refl;
  transcript = refl;
  consumed = refl;
  rounds = refl;
  continuation = refl;
  status = refl;
}
pass_alone p m (q ∷ qs) u h = let a = ready_alone p q (set_gate m (HeldBy q) qs u) h in record
    { store = refl; transcript = refl; consumed = refl; rounds = refl; continuation = refl; status = a.status }

pub status_alone : (p q : ℕ) (y : Status) (u : State) → p ≢ q → LeavesAlone p u (set_status q y u)
status_alone p q y u d = record {
  store = refl;
  transcript = refl;
  consumed = refl;
  rounds = refl;
  continuation = refl;
  status = with_at_there q p y u.status (ne_eqb q p (λ e. d (sym e)));
}

pub effect_alone : (p q : ℕ) (e : Effect) (u : State) → p ≢ q → u.status p ≡ Ready → LeavesAlone p u (apply_effect q e u)
effect_alone p q Own u d h = record {
  store = refl;
  transcript = refl;
  consumed = refl;
  rounds = refl;
  continuation = refl;
  status = refl;
}
effect_alone p q Ends u d h = status_alone p q Ended u d
effect_alone p q Waits u d h = status_alone p q Waiting u d
effect_alone p q (Enters m) u d h = go (u.gates m).holder
  where
    go : (z : Holder) → LeavesAlone p u (enter q m z u)
    go Unset = record {
      store = refl;
      transcript = refl;
      consumed = refl;
      rounds = refl;
      continuation = refl;
      status = refl;
    }
    go Free = record { store = refl; transcript = refl; consumed = refl; rounds = refl; continuation = refl; status = refl }
    go (HeldBy o) = let a = status_alone p q (Asking m) u d in record
        { store = refl; transcript = refl; consumed = refl; rounds = refl; continuation = refl; status = a.status }
effect_alone p q (Leaves m) u d h = pass_alone p m (u.gates m).askers u h
effect_alone p q (Delays m l) u d h =
    let a = status_alone p q (Delayed m l) u d in
    let c = pass_alone p m (u.gates m).askers (set_status q (Delayed m l) u) (a.status ∙ h) in
    record {
      store = c.store;
      transcript = c.transcript;
      consumed = c.consumed;
      rounds = c.rounds;
      continuation = c.continuation;
      status = c.status ∙ a.status;
    }
effect_alone p q (Continues m None) u d h = pass_alone p m (u.gates m).askers u h
effect_alone p q (Continues m (Some o)) u d h =
    let a = ready_alone p o (set_gate m (HeldBy o) (u.gates m).askers u) h in record
    { store = refl; transcript = refl; consumed = refl; rounds = refl; continuation = refl; status = a.status }
effect_alone p q (Opens m) u d h = record {
  store = refl;
  transcript = refl;
  consumed = refl;
  rounds = refl;
  continuation = refl;
  status = refl;
}
effect_alone p q (Starts o k) u d h = go (u.status o) refl
  where
    same : LeavesAlone p u u
    same = record { store = refl; transcript = refl; consumed = refl; rounds = refl; continuation = refl; status = refl }

    apart_from : u.status o ≡ Unstarted → o ≢ p
    apart_from e f = Prim.grind (arith, h, e, ap (λ n. u.status n) f)

    go : (y : Status) → u.status o ≡ y → LeavesAlone p u (start_process o k y u)
    go Unstarted e = record {
      store = refl;
      transcript = refl;
      consumed = refl;
      rounds = refl;
      continuation = with_at_there o p k u.continuation (ne_eqb o p (apart_from e));
      status = with_at_there o p Fresh u.status (ne_eqb o p (apart_from e));
    }
    go Fresh e = same
    go Ready e = same
    go Ended e = same
    go Waiting e = same
    go (Asking m) e = same
    go (Delayed m l) e = same
    go (Faulted n) e = same
