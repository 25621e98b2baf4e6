-- A kernel step leaves another process that hasn't begun as it was, unless it starts that process.
use Rattle.std.proofs.Common.{◌≡◌, ℕ, List, [], ◌∷◌, Bool, true, false, Some, None, refl, ap, sym, subst, ◌∙◌}
use Rattle.std.specs.Prelude.{◌≢◌, if◌then◌else◌, nat_eq, not}
use Rattle.std.proofs.lemmas.Bool.{eqb-true, ne_eqb, true≢false}
use Rattle.cp_model.specs.Actions.{action}
use Rattle.cp_model.specs.Configurations.{Asking, Configuration, Context, Continues, Delayed, Delays, Effect, Ended, Ends, Enters, Faulted, Fresh, Leaves, Opens, Own, Ready, Starts, Status, StepResult, Unstarted, Waiting, Waits}
use Rattle.cp_model.specs.Continuations.{Task}
use Rattle.cp_model.specs.Gates.{apply_effect, enter, made_ready, make_ready, pass_to, set_gate, start_process}
use Rattle.cp_model.specs.Invariant.{Invariant}
use Rattle.cp_model.specs.Locations.{Location}
use Rattle.cp_model.specs.Outcomes.{Fault, Gives}
use Rattle.cp_model.specs.Parts.{is_own}
use Rattle.cp_model.specs.States.{Free, HeldBy, Holder, Setup, State, Unset, configuration, context, set_status, with_configuration}
use Rattle.cp_model.specs.Step.{step_of}
use Rattle.cp_model.specs.Stores.{Store}
use Rattle.cp_model.specs.Turns.{Kernel, after_step, kind}
use Rattle.cp_model.proofs.ActionReach.{ContinuationIn}
use Rattle.cp_model.proofs.MixedStores.{IsClosed, mix_same}
use Rattle.cp_model.proofs.OutsideReach.{may_commute}
use Rattle.cp_model.proofs.ReturnReach.{result_mixed}
use Rattle.cp_model.proofs.StateMaps.{is_foreign, with_at_there}
use Rattle.cp_model.proofs.StepOrder.{foreign_activation}
use Rattle.cp_model.proofs.StepReach.{step_same}
use Rattle.cp_model_machine.proofs.StartedUnread.{started_unread}
use Rattle.cp_model_machine.proofs.StartsNobody.{Nobody, StartsNobody, action_nobody}
use Rattle.cp_model_machine.proofs.StartsNone.{starts}

-- If process `q` is unstarted or fresh now, it was so before, and what it has left to do is as
-- before.
pub record NotStarted (q : ℕ) (s u : State) : Type 0 where
  pub unstarted : u.status q ≡ Unstarted → s.status q ≡ Unstarted
  pub fresh : u.status q ≡ Fresh → s.status q ≡ Fresh
  pub continuation : u.continuation q ≡ s.continuation q

-- What `q` owns is as before.
abbrev pub KeepsOwned : ℕ → State → State → Type 0
KeepsOwned q s u = (l : Location) → is_own q l.owner ≡ true → u.store l ≡ s.store l

-- ---- effects

started_trans : (q : ℕ) (s u v : State) → NotStarted q s u → NotStarted q u v → NotStarted q s v
started_trans q s u v h k = record { unstarted = λ e. h.unstarted (k.unstarted e); fresh = λ e. h.fresh (k.fresh e); continuation = k.continuation ∙ h.continuation }

same_started : (q : ℕ) (s u : State) → u.status q ≡ s.status q → u.continuation q ≡ s.continuation q → NotStarted q s u
same_started q s u status left = record { unstarted = λ e. sym status ∙ e; fresh = λ e. sym status ∙ e; continuation = left }

status_started : (p q : ℕ) (x : Status) (v : State) → p ≢ q → NotStarted q v (set_status p x v)
status_started p q x v d = same_started q v (set_status p x v) (with_at_there p q x v.status (ne_eqb p q d)) refl

-- A process that is made ready has begun.
abbrev IsReady : Status → Type 0
IsReady Ready = Unit {0}
IsReady _ = ⊥

ready_unstarted : (x : Status) → made_ready x ≡ Unstarted → x ≡ Unstarted
ready_unstarted Unstarted e = refl
ready_unstarted Fresh e = e
ready_unstarted Ready e = e
ready_unstarted Ended e = e
ready_unstarted Waiting e = e
ready_unstarted (Asking m) e = absurd (subst IsReady e tt)
ready_unstarted (Delayed m q) e = absurd (subst IsReady e tt)
ready_unstarted (Faulted n) e = e

ready_fresh : (x : Status) → made_ready x ≡ Fresh → x ≡ Fresh
ready_fresh Unstarted e = e
ready_fresh Fresh e = refl
ready_fresh Ready e = e
ready_fresh Ended e = e
ready_fresh Waiting e = e
ready_fresh (Asking m) e = absurd (subst IsReady e tt)
ready_fresh (Delayed m q) e = absurd (subst IsReady e tt)
ready_fresh (Faulted n) e = e

ready_started : (q r : ℕ) (v : State) → NotStarted q v (make_ready r v)
ready_started q r v = record {
  unstarted = λ e. by (nat_eq r q) refl Unstarted ready_unstarted e;
  fresh = λ e. by (nat_eq r q) refl Fresh ready_fresh e;
  continuation = refl;
}
  where
    by : (b : Bool) → nat_eq r q ≡ b → (y : Status) → ((x : Status) → made_ready x ≡ y → x ≡ y) → (if b then made_ready (v.status r) else v.status q) ≡ y → v.status q ≡ y
    by true same y back e = ap v.status (sym (eqb-true r q same)) ∙ back (v.status r) e
    by false same y back e = e

pass_started : (q m : ℕ) (rs : List ℕ) (v : State) → NotStarted q v (pass_to m rs v)
pass_started q m [] v = same_started q v (set_gate m Free [] v) refl refl
pass_started q m (r ∷ rs) v =
    started_trans q v (set_gate m (HeldBy r) rs v) (make_ready r (set_gate m (HeldBy r) rs v)) (same_started q v (set_gate m (HeldBy r) rs v) refl refl) (ready_started q r (set_gate m (HeldBy r) rs v))

enter_started : (p q m : ℕ) (x : Holder) (v : State) → p ≢ q → NotStarted q v (enter p m x v)
enter_started p q m Unset v d = same_started q v _ refl refl
enter_started p q m Free v d = same_started q v _ refl refl
enter_started p q m (HeldBy r) v d = same_started q v _ (with_at_there p q (Asking m) v.status (ne_eqb p q d)) refl

effect_started : (p q : ℕ) (e : Effect) (v : State) → p ≢ q → StartsNobody e → NotStarted q v (apply_effect p e v)
effect_started p q Own v d h = same_started q v v refl refl
effect_started p q Ends v d h = status_started p q Ended v d
effect_started p q Waits v d h = status_started p q Waiting v d
effect_started p q (Enters m) v d h = enter_started p q m (v.gates m).holder v d
effect_started p q (Leaves m) v d h = pass_started q m (v.gates m).askers v
effect_started p q (Delays m l) v d h =
    started_trans q v (set_status p (Delayed m l) v) _ (status_started p q (Delayed m l) v d) (pass_started q m (v.gates m).askers (set_status p (Delayed m l) v))
effect_started p q (Continues m None) v d h = pass_started q m (v.gates m).askers v
effect_started p q (Continues m (Some r)) v d h = pass_started q m (r ∷ (v.gates m).askers) v
effect_started p q (Opens m) v d h = same_started q v _ refl refl
effect_started p q (Starts r k) v d h = absurd h

-- Effects store nothing.
passed_store : (m : ℕ) (rs : List ℕ) (v : State) → (pass_to m rs v).store ≡ v.store
passed_store m [] v = refl
passed_store m (r ∷ rs) v = refl

pub effect_store : (p : ℕ) (e : Effect) (v : State) → (apply_effect p e v).store ≡ v.store
effect_store p Own v = refl
effect_store p Ends v = refl
effect_store p Waits v = refl
effect_store p (Enters m) v = by (v.gates m).holder
  where
    by : (x : Holder) → (enter p m x v).store ≡ v.store
    by Unset = refl
    by Free = refl
    by (HeldBy q) = refl
effect_store p (Leaves m) v = passed_store m (v.gates m).askers v
effect_store p (Delays m l) v = passed_store m (v.gates m).askers (set_status p (Delayed m l) v)
effect_store p (Continues m None) v = passed_store m (v.gates m).askers v
effect_store p (Continues m (Some r)) v = refl
effect_store p (Opens m) v = refl
effect_store p (Starts r k) v = by (v.status r)
  where
    by : (x : Status) → (start_process r k x v).store ≡ v.store
    by Unstarted = refl
    by _ = refl

-- ---- steps

-- After the outcome of a step.
module _ (s : State) (p q : ℕ) (d : p ≢ q) where
  pub after_started : (o : StepResult) → Nobody o → NotStarted q s (after_step s p o)
  after_started (Fault n) h = status_started p q (Faulted n) s d
  after_started (Gives x) h =
      started_trans q s (with_configuration s p x.0) _ (same_started q s (with_configuration s p x.0) refl (with_at_there p q x.0.continuation s.continuation (ne_eqb p q d)))
      (effect_started p q x.1 (with_configuration s p x.0) d h)

  -- If the step starts a process other than `q`.
  pub after_other_start : (config : Configuration) (r : ℕ) (k : List Task) → r ≢ q → NotStarted q s (after_step s p (Gives (config, Starts r k)))
  after_other_start config r k other = started_trans q s v _ (same_started q s v refl (with_at_there p q config.continuation s.continuation (ne_eqb p q d))) (by (v.status r))
    where
      v : State
      v = with_configuration s p config

      by : (x : Status) → NotStarted q v (start_process r k x v)
      by Unstarted = same_started q v _ (with_at_there r q Fresh v.status (ne_eqb r q other)) (with_at_there r q k v.continuation (ne_eqb r q other))
      by _ = same_started q v v refl refl

  pub after_start_stored : (config : Configuration) (r : ℕ) (k : List Task) → ((l : Location) → is_own q l.owner ≡ true → config.store l ≡ s.store l) → KeepsOwned q s (after_step s p (Gives (config, Starts r k)))
  after_start_stored config r k same l own = ap (λ st. st l) (effect_store p (Starts r k) (with_configuration s p config)) ∙ same l own

  after_stored : (o : StepResult) → o ≡ result_mixed (is_foreign q) s.store o → KeepsOwned q s (after_step s p o)
  after_stored (Fault n) h l own = refl
  after_stored (Gives x) h l own = ap (λ st. st l) (effect_store p x.1 (with_configuration s p x.0)) ∙ (ap (λ o. store_of o l) h ∙ by (is_own q l.owner) own)
    where
      store_of : StepResult → Store
      store_of (Fault n) = s.store
      store_of (Gives y) = y.0.store

      by : (b : Bool) → b ≡ true → (if not b then x.0.store l else s.store l) ≡ s.store l
      by true e = refl
      by false e = absurd (true≢false (sym e))

module _ (setup : Setup) (s : State) (p q : ℕ) (d : p ≢ q) (I : Invariant s) (kernel : kind s p ≡ Kernel) (none : starts (action (s.continuation p)) ≡ false) where
  abbrev c : Context
  c = record (context setup s p) { is_started = λ r. true }

  abbrev outcome : StepResult
  outcome = step_of (context setup s p) (configuration s p)

  -- The outcome is the same in a state where all processes have been started.
  outcome_is : outcome ≡ step_of c (configuration s p)
  outcome_is = started_unread (context setup s p) (configuration s p) (λ r. true) (action (s.continuation p)) none

  mixed : outcome ≡ result_mixed (is_foreign q) s.store outcome
  mixed =
      outcome_is
      ∙ (ap (λ st. step_of c (record { store = st; continuation = s.continuation p; transcript = s.transcript p; consumed = s.consumed p })) (sym (mix_same (is_foreign q) s.store))
      ∙ (step_same (is_foreign q) s.store c (λ r. true) c.is_set (configuration s p) reach.0 (λ n. foreign_activation setup q p n (λ e. d (sym e))) reach.1
      (λ a. record { monitors = λ m. refl; processes = λ r e. absurd (true≢false e); same_started = refl; same_set = refl })
      ∙ ap (result_mixed (is_foreign q) s.store) (sym outcome_is)))
    where
      reach : IsClosed (is_foreign q) s.store × ContinuationIn (is_foreign q) (s.continuation p)
      reach = (may_commute s I).others q p (λ e. d (sym e)) kernel

  pub step_started : NotStarted q s (after_step s p (step_of (context setup s p) (configuration s p)))
  step_started = after_started s p q d outcome (action_nobody (context setup s p) (configuration s p) (action (s.continuation p)) none)

  pub step_stored : KeepsOwned q s (after_step s p (step_of (context setup s p) (configuration s p)))
  step_stored = after_stored s p q d outcome mixed
