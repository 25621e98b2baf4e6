-- What a private step, a kernel turn and a waking leave unchanged: the private states of other
-- processes, and the kernel's part.
use Rattle.std.specs.Prelude.{Bool, List, None, Some, [], false, if◌then◌else◌, nat_eq, not, refl, suc, true, zero, ℕ, ◌∷◌, ◌≡◌, ◌≢◌}
use Rattle.std.proofs.Common.{ap, arith, subst, sym, ◌∙◌}
use Rattle.std.proofs.lemmas.Bool.{eqb-true, ne_eqb}
use Rattle.cp_model.specs.Locations.{Location, OfProcess}
use Rattle.cp_model.specs.Stores.{Store}
use Rattle.cp_model.specs.Outcomes.{Fault, Gives}
use Rattle.cp_model.specs.Continuations.{Task}
use Rattle.cp_model.specs.Configurations.{Asking, Continues, Delayed, Delays, Effect, Ended, Ends, Enters, Faulted, Fresh, Leaves, Opens, Own, Ready, Starts, Status, StepResult, Unstarted, Waiting, Waits}
use Rattle.cp_model.specs.Step.{step_of}
use Rattle.cp_model.specs.States.{Free, HeldBy, Holder, Setup, State, Unset, configuration, context, is_set, is_started, set_status, with_configuration}
use Rattle.cp_model.specs.Gates.{apply_effect, enter, made_ready, make_ready, pass_to, set_gate, start_process}
use Rattle.cp_model.specs.Turns.{Kernel, Kind, NoStep, Private, after_step, if_kernel, kernel_step, kernel_turn, kind, private_step, step}
use Rattle.cp_model.specs.Invariant.{Invariant}
use Rattle.cp_model.specs.Parts.{HasBegun, HasNotBegun, SameKernelPart, SamePrivateState, is_own, kernel_status, private_status}
use Rattle.cp_model.proofs.StateMaps.{is_foreign, own_apart, with_at_there}
use Rattle.cp_model.proofs.MixedStores.{IsClosed, mix_same}
use Rattle.cp_model.proofs.ActionReach.{ContinuationIn}
use Rattle.cp_model.proofs.ReturnReach.{result_mixed}
use Rattle.cp_model.proofs.StepReach.{step_same}
use Rattle.cp_model.proofs.OwnSteps.{MayCommute, NotPrivate, kind_private, no_private_step, own_configuration, private_step_is, same_for_self, status_after}
use Rattle.cp_model.proofs.NotPrivate.{after_step_other}
use Rattle.cp_model.proofs.StepOrder.{foreign_activation}
use Rattle.cp_model.proofs.OutsideReach.{may_commute}
use Rattle.cp_model.proofs.StateInvariant.{kernel_step_keeps}
use Rattle.cp_model.proofs.PrivateStepsKept.{kernel_status_by, private_state_refl, private_state_trans}

-- ---- What the kernel does beside p

gate_own : (p m : ℕ) (x : Holder) (qs : List ℕ) (v : State) → SamePrivateState p v (set_gate m x qs v)
gate_own p m x qs v = record {
  status = refl;
  transcript = refl;
  consumed = refl;
  store = λ a l h. refl;
  continuation = λ a. refl;
}

status_own : (p q : ℕ) (x : Status) (v : State) → q ≢ p → SamePrivateState p v (set_status q x v)
status_own p q x v d = record {
  status = ap private_status (with_at_there q p x v.status (ne_eqb q p d));
  transcript = refl;
  consumed = refl;
  store = λ a l h. refl;
  continuation = λ a. refl;
}

made_ready_own_status : (x : Status) → private_status (made_ready x) ≡ private_status x
made_ready_own_status Unstarted = refl
made_ready_own_status Fresh = refl
made_ready_own_status Ready = refl
made_ready_own_status Ended = refl
made_ready_own_status Waiting = refl
made_ready_own_status (Asking m) = refl
made_ready_own_status (Delayed m q) = refl
made_ready_own_status (Faulted n) = refl

make_ready_own : (p r : ℕ) (v : State) → SamePrivateState p v (make_ready r v)
make_ready_own p r v = record {
  status = at (nat_eq r p) refl;
  transcript = refl;
  consumed = refl;
  store = λ a l h. refl;
  continuation = λ a. refl;
}
  where
    at : (b : Bool) → nat_eq r p ≡ b → private_status (if b then made_ready (v.status r) else v.status p)
        ≡ private_status (v.status p)
    at true e = made_ready_own_status (v.status r) ∙ ap (λ k. private_status (v.status k)) (eqb-true r p e)
    at false e = refl

pass_own : (p m : ℕ) (qs : List ℕ) (v : State) → SamePrivateState p v (pass_to m qs v)
pass_own p m [] v = gate_own p m Free [] v
pass_own p m (r ∷ qs) v = private_state_trans p v (set_gate m (HeldBy r) qs v) _ (gate_own p m (HeldBy r) qs v)
    (make_ready_own p r (set_gate m (HeldBy r) qs v))

enter_own : (p q m : ℕ) (x : Holder) (v : State) → q ≢ p → SamePrivateState p v (enter q m x v)
enter_own p q m Unset v d = gate_own p m (HeldBy q) (v.gates m).askers v
enter_own p q m Free v d = gate_own p m (HeldBy q) (v.gates m).askers v
enter_own p q m (HeldBy c) v d = private_state_trans p v (set_gate m (HeldBy c) _ v) _ (gate_own p m (HeldBy c) _ v)
    (status_own p q (Asking m) (set_gate m (HeldBy c) _ v) d)

start_own : (p r : ℕ) (k : List Task) (x : Status) (v : State) → v.status r ≡ x → SamePrivateState p v (start_process r k x v)
start_own p r k Unstarted v e = record {
  status = at (nat_eq r p) refl;
  transcript = refl;
  consumed = refl;
  store = λ a l h. refl;
  continuation = λ a. continuation a (nat_eq r p) refl;
}
  where
    at : (b : Bool) → nat_eq r p ≡ b → private_status (if b then Fresh else v.status p) ≡ private_status (v.status p)
    at true h = sym (ap private_status e) ∙ ap (λ j. private_status (v.status j)) (eqb-true r p h)
    at false h = refl

    continuation : HasBegun (private_status (v.status p)) → (b : Bool) → nat_eq r p ≡ b → (if b then k else v.continuation p)
        ≡ v.continuation p
    continuation a true h = absurd (subst HasBegun (ap
        (λ j. private_status (v.status j)) (sym (eqb-true r p h)) ∙ ap private_status e) a)
    continuation a false h = refl
start_own p r k Fresh v e = private_state_refl p v
start_own p r k Ready v e = private_state_refl p v
start_own p r k Ended v e = private_state_refl p v
start_own p r k Waiting v e = private_state_refl p v
start_own p r k (Asking m) v e = private_state_refl p v
start_own p r k (Delayed m q) v e = private_state_refl p v
start_own p r k (Faulted n) v e = private_state_refl p v

effect_own : (p q : ℕ) (e : Effect) (v : State) → q ≢ p → SamePrivateState p v (apply_effect q e v)
effect_own p q Own v d = private_state_refl p v
effect_own p q Ends v d = status_own p q Ended v d
effect_own p q Waits v d = status_own p q Waiting v d
effect_own p q (Enters m) v d = enter_own p q m (v.gates m).holder v d
effect_own p q (Leaves m) v d = pass_own p m (v.gates m).askers v
effect_own p q (Delays m l) v d = private_state_trans p v (set_status q (Delayed m l) v) _ (status_own p q (Delayed m l) v d)
    (pass_own p m (v.gates m).askers (set_status q (Delayed m l) v))
effect_own p q (Continues m None) v d = pass_own p m (v.gates m).askers v
effect_own p q (Continues m (Some r)) v d = private_state_trans p v (set_gate m (HeldBy r) (v.gates m).askers v) _
    (gate_own p m (HeldBy r) (v.gates m).askers v) (make_ready_own p r (set_gate m (HeldBy r) (v.gates m).askers v))
effect_own p q (Opens m) v d = gate_own p m (HeldBy q) [] v
effect_own p q (Starts r k) v d = start_own p r k (v.status r) v refl

begun_is_started : (x : Status) → HasBegun (private_status x) → is_started x ≡ true
begun_is_started Unstarted h = absurd h
begun_is_started Fresh h = refl
begun_is_started Ready h = refl
begun_is_started Ended h = refl
begun_is_started Waiting h = refl
begun_is_started (Asking m) h = refl
begun_is_started (Delayed m q) h = refl
begun_is_started (Faulted n) h = refl

module _ (setup : Setup) where
  abbrev outcome_of : State → ℕ → StepResult
  outcome_of s q = step_of (context setup s q) (configuration s q)

  foreign_unstarted : (p : ℕ) (s : State) → is_started (s.status p) ≡ true → (r : ℕ) → is_started (s.status r) ≡ false
      → is_foreign p (OfProcess r) ≡ true
  foreign_unstarted p s h r e = go (nat_eq p r) refl
    where
      clash : false ≡ true → ⊥
      clash g = Prim.grind arith

      go : (b : Bool) → nat_eq p r ≡ b → not b ≡ true
      go true f = absurd (clash (sym e ∙ ap (λ k. is_started (s.status k)) (sym (eqb-true p r f)) ∙ h))
      go false f = refl

  kernel_writes_beside : (p q : ℕ) (s : State) → p ≢ q → MayCommute s → kind s q ≡ Kernel → is_started (s.status p) ≡ true
      → outcome_of s q ≡ result_mixed (is_foreign p) s.store (outcome_of s q)
  kernel_writes_beside p q s d g k h =
      let o : IsClosed (is_foreign p) s.store × ContinuationIn (is_foreign p) (s.continuation q) = g.others p q d k in
      ap (λ st. step_of (context setup s q) (record { store = st; continuation = s.continuation q; transcript = s.transcript q; consumed = s.consumed q })) (sym (mix_same (is_foreign p) s.store))
      ∙ step_same (is_foreign p) s.store (context setup s q)
      (λ r. is_started (s.status r)) (λ m. is_set (s.gates m).holder) (configuration s q) o.0 (λ n. foreign_activation setup p q n d) o.1
      (λ a. record { monitors = λ m. refl; processes = foreign_unstarted p s h; same_started = refl; same_set = refl })

  after_step_own : (p q : ℕ) (s : State) (o : StepResult) → q ≢ p
      → (HasBegun (private_status (s.status p)) → o ≡ result_mixed (is_foreign p) s.store o)
      → SamePrivateState p s (after_step s q o)
  after_step_own p q s (Fault n) d w = status_own p q (Faulted n) s d
  after_step_own p q s (Gives (u, e)) d w = private_state_trans p s (with_configuration s q u) _ first
      (effect_own p q e (with_configuration s q u) d)
    where
      store_of : StepResult → Store
      store_of (Fault n) = s.store
      store_of (Gives x) = x.0.store

      at : (l : Location) (b : Bool) → b ≡ true → (if not b then u.store l else s.store l) ≡ s.store l
      at l true h = refl
      at l false h = absurd (clash h)
        where
          clash : false ≡ true → ⊥
          clash g = Prim.grind arith

      first : SamePrivateState p s (with_configuration s q u)
      first = record {
        status = refl;
        transcript = with_at_there q p u.transcript s.transcript (ne_eqb q p d);
        consumed = with_at_there q p u.consumed s.consumed (ne_eqb q p d);
        store = λ a l h. ap (λ x. store_of x l) (w a) ∙ at l (is_own p l.owner) h;
        continuation = λ a. with_at_there q p u.continuation s.continuation (ne_eqb q p d);
      }

  kernel_step_other_parts : (p q : ℕ) (s : State) → q ≢ p → Invariant s → SamePrivateState p s (kernel_step setup s q)
  kernel_step_other_parts p q s d i = go (kind s q) refl
    where
      go : (k : Kind) → kind s q ≡ k → SamePrivateState p s (if_kernel k (step setup s q) s)
      go NoStep h = private_state_refl p s
      go Private h = private_state_refl p s
      go Kernel h = after_step_own p q s (outcome_of s q) d
          (λ a. kernel_writes_beside p q s (λ e. d (sym e)) (may_commute s i) h (begun_is_started (s.status p) a))

  -- A kernel turn leaves every other process's private state unchanged.
  pub kernel_turn_other_parts : (t : ℕ) (p q : ℕ) (s : State) → q ≢ p → Invariant s
      → SamePrivateState p s (kernel_turn setup t s q)
  kernel_turn_other_parts zero p q s d i = private_state_refl p s
  kernel_turn_other_parts (suc t) p q s d i = private_state_trans p s (kernel_step setup s q) _
      (kernel_step_other_parts p q s d i) (kernel_turn_other_parts t p q (kernel_step setup s q) d
      (kernel_step_keeps setup s q i))

  pub private_step_other_parts : (p q : ℕ) (s : State) → q ≢ p → Invariant s → SamePrivateState p s (private_step setup s q)
  private_step_other_parts p q s d i = go (kind s q) refl
    where
      at : (l : Location) (b : Bool) → b ≡ false → (if b then (own_configuration setup s q).store l else s.store l)
          ≡ s.store l
      at l true h = absurd (clash h)
        where
          clash : true ≡ false → ⊥
          clash g = Prim.grind arith
      at l false h = refl

      go : (k : Kind) → kind s q ≡ k → SamePrivateState p s (private_step setup s q)
      go NoStep h = subst (λ (u : State). SamePrivateState p s u) (sym (no_private_step setup q s NoStep h tt)) (private_state_refl p s)
      go Kernel h = subst (λ (u : State). SamePrivateState p s u) (sym (no_private_step setup q s Kernel h tt)) (private_state_refl p s)
      go Private h = subst (λ (u : State). SamePrivateState p s u) (sym (private_step_is setup q s s (may_commute s i) h (same_for_self setup q s))) (record {
        status = ap private_status (with_at_there q p (status_after setup s q) s.status (ne_eqb q p d));
        transcript = with_at_there q p (own_configuration setup s q).transcript s.transcript (ne_eqb q p d);
        consumed = with_at_there q p (own_configuration setup s q).consumed s.consumed (ne_eqb q p d);
        store = λ a l m. at l (is_own q l.owner) (own_apart p q l.owner (λ e. d (sym e)) m);
        continuation = λ a. with_at_there q p (own_configuration setup s q).continuation s.continuation (ne_eqb q p d);
      })

  pub private_step_kernel_part : (p : ℕ) (s : State) → Invariant s → SameKernelPart s (private_step setup s p)
  private_step_kernel_part p s i = go (kind s p) refl
    where
      clash : true ≡ false → ⊥
      clash g = Prim.grind arith

      same : SameKernelPart s s
      same = record { gates = refl; status = λ r. refl; monitor_store = λ l m e. refl; unbegun_store = λ r a l m. refl; unbegun_continuation = λ r a. refl }

      at : (l : Location) (b : Bool) → b ≡ false → (if b then (own_configuration setup s p).store l else s.store l)
          ≡ s.store l
      at l true h = absurd (clash h)
      at l false h = refl

      go : (k : Kind) → kind s p ≡ k → SameKernelPart s (private_step setup s p)
      go NoStep h = subst (λ (u : State). SameKernelPart s u) (sym (no_private_step setup p s NoStep h tt)) same
      go Kernel h = subst (λ (u : State). SameKernelPart s u) (sym (no_private_step setup p s Kernel h tt)) same
      go Private h = subst (λ (u : State). SameKernelPart s u) (sym (private_step_is setup p s s (may_commute s i) h (same_for_self setup p s))) (record {
        gates = refl;
        status = λ r. reported r (nat_eq p r) refl;
        monitor_store = λ l m e. at l (is_own p l.owner) (ap (is_own p) e);
        unbegun_store = λ r a l m. at l (is_own p l.owner) (own_apart r p l.owner (other r a) m);
        unbegun_continuation = λ r a. with_at_there p r (own_configuration setup s p).continuation s.continuation (ne_eqb p r (λ e. other r a (sym e)));
      })
        where
          is_ready : s.status p ≡ Ready
          is_ready = (kind_private (s.status p) (s.continuation p) h).0

          other : (r : ℕ) → HasNotBegun (s.status r) → r ≢ p
          other r a e = subst HasNotBegun (ap s.status e ∙ is_ready) a

          reported : (r : ℕ) (b : Bool) → nat_eq p r ≡ b → kernel_status (if b then status_after setup s p else s.status r)
              ≡ kernel_status (s.status r)
          reported r true e = kernel_status_by setup (outcome_of s p)
              ∙ sym (ap kernel_status (ap s.status (sym (eqb-true p r e)) ∙ is_ready))
          reported r false e = refl

  -- ---- No process is made private

  kernel_step_makes_none_private : (p q : ℕ) (s : State) → q ≢ p → Invariant s → kind s p ≢ Private
      → kind (kernel_step setup s q) p ≢ Private
  kernel_step_makes_none_private p q s d i h = go (kind s q)
    where
      by_kind : (k : Kind) → (k ≡ Private → ⊥) → NotPrivate setup k
      by_kind NoStep g = tt
      by_kind Kernel g = tt
      by_kind Private g = absurd (g refl)

      none : (k : Kind) → NotPrivate setup k → k ≡ Private → ⊥
      none NoStep o e = Prim.grind arith
      none Kernel o e = Prim.grind arith
      none Private o e = o

      go : (k : Kind) → kind (if_kernel k (step setup s q) s) p ≡ Private → ⊥
      go NoStep = h
      go Private = h
      go Kernel =
          none (kind (step setup s q) p)
          (after_step_other setup p q s (step_of (context setup s q) (configuration s q))
          (λ e. d (sym e)) (by_kind (kind s p) h) (i.blocked p))

  pub kernel_turn_makes_none_private : (t p q : ℕ) (s : State) → q ≢ p → Invariant s → kind s p ≢ Private
      → kind (kernel_turn setup t s q) p ≢ Private
  kernel_turn_makes_none_private zero p q s d i h = h
  kernel_turn_makes_none_private (suc t) p q s d i h =
      kernel_turn_makes_none_private t p q (kernel_step setup s q) d (kernel_step_keeps setup s q i)
      (kernel_step_makes_none_private p q s d i h)
