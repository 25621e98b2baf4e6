-- An eager step changes places with every step of another ready process.
--
-- A step reads and writes its grasp, and then acts on gates and statuses. The grasps of two ready
-- processes have nothing in common. So each step does the same after the other, they write in different
-- places, and their acts on gates and statuses change places.
use Rattle.std.specs.Prelude.{Bool, List, None, Option, Some, false, if◌then◌else◌, nat_eq, not, refl, suc, true, ℕ, ◌≡◌, ◌≢◌}
use Rattle.std.proofs.Common.{ap, arith, subst, sym, ◌∙◌}
use Rattle.std.proofs.lemmas.Bool.{ne_eqb, true≢false}
use Rattle.cp_model.specs.Abstract.{Class, Init, Monitor, Process, Sort}
use Rattle.cp_model.specs.Locations.{Location, OfMonitor, OfProcess, Owner}
use Rattle.cp_model.specs.Outcomes.{Fault, Gives}
use Rattle.cp_model.specs.Continuations.{Do, Task}
use Rattle.cp_model.specs.Components.{Component, component_named, same_sort}
use Rattle.cp_model.specs.Calls.{is_monitor_call}
use Rattle.cp_model.specs.Actions.{Action, Acts, Calls, Rests, action}
use Rattle.cp_model.specs.Configurations.{Asking, Configuration, Context, Continues, Delayed, Delays, Ended, Ends, Enters, Faulted, Fresh, Leaves, Opens, Own, Ready, Starts, Status, StepResult, Unstarted, Waiting, Waits}
use Rattle.cp_model.specs.Step.{step_of}
use Rattle.cp_model.specs.States.{Setup, State, configuration, context, is_set, is_started, set_status, with_at}
use Rattle.cp_model.specs.Turns.{after_step, step}
use Rattle.cp_model.proofs.MixedStores.{mix, mix_same}
use Rattle.cp_model.proofs.OwnSteps.{outcome, result}
use Rattle.cp_model.proofs.ReturnReach.{result_mixed}
use Rattle.cp_model.proofs.StateMaps.{state_is, with_at_same, with_at_swap, with_at_there}
use Rattle.cp_law_gates.specs.InOrder.{InOrder, IsOrdered, World}
use Rattle.cp_law_calls.specs.Ways.{Eager, HoldsMarked, Idle, Late, called, called_by, is_late, way, way_of}
use Rattle.cp_law_calls.proofs.Needs.{ActionNeeds, SortNeeds}
use Rattle.cp_law_calls.proofs.Reading.{monitor_number_same, step_same}
use Rattle.cp_law_calls.proofs.Changes.{AtAll, Change, act, act_is, at_more, change, changed, puts_past_one, puts_there}
use Rattle.cp_law_calls.proofs.Footing.{AskersAsk, IsLateResult, Mine, Itself, ResultFooted, ResultTouches, mine_apart, statuses_mine}
use Rattle.cp_law_calls.proofs.Touched.{IsNewTo, same_set, same_started, set_kept, starts_fresh}
use Rattle.cp_law_calls.proofs.Acts.{acts_commute, apart}
use Rattle.cp_law_calls.proofs.CalledMonitors.{EntersAt, called_same, enters_open_none, enters_touches, step_enters}
use Rattle.cp_model.proofs.ActionReach.{action_in}
use Rattle.cp_law_calls.proofs.Grasp.{grasp, grasp_activation, grasp_closed, grasp_new, grasps_apart, in_grasp}
use Rattle.cp_law_calls.proofs.Known.{IsInitial, footed, is_first}
use Rattle.cp_law_calls.proofs.Tags.{Calling, Opening, Tag, Tagged, action_tag, call_tag, init_tag, sort_tag, step_tagged}

-- The part of a process as a step leaves it, in a state.
abbrev pub put_part : (Owner → Bool) → ℕ → Configuration → State → State
put_part t p c s = record s {
  store = mix t c.store s.store;
  continuation = with_at p c.continuation s.continuation;
  transcript = with_at p c.transcript s.transcript;
  consumed = with_at p c.consumed s.consumed;
}

-- What a process reads is the same in two states.
pub record IsSameFor (t : Owner → Bool) (p : ℕ) (s s' : State) : Type 0 where
  pub store : s'.store ≡ mix t s.store s'.store
  pub continuation : s'.continuation p ≡ s.continuation p
  pub transcript : s'.transcript p ≡ s.transcript p
  pub consumed : s'.consumed p ≡ s.consumed p
  pub status : s'.status p ≡ s.status p
  pub rounds : s'.rounds ≡ s.rounds

-- ---- Late effects are of late actions

late_tag : Tag → Bool
late_tag Calling = true
late_tag Opening = true
late_tag _ = false

call_is_late : (b : Bool) → late_tag (call_tag b) ≡ b
unfolding late_tag
call_is_late true = refl
call_is_late false = refl

action_is_late : (a : Action) → late_tag (action_tag a) ≡ is_late a
unfolding late_tag
action_is_late Rests = refl
action_is_late (Calls u k) = call_is_late (is_monitor_call u.callee)
action_is_late (Acts (Do (Init x es) env) k) = by (component_named env x)
  where
    by_sort : (y : Sort) → late_tag (sort_tag y) ≡ same_sort Monitor y
    by_sort Class = refl
    by_sort Monitor = refl
    by_sort Process = refl

    by : (o : Option Component) → late_tag (init_tag o) ≡ (elim o as (λ x. Bool) [ None ↦ false | Some c ↦ same_sort Monitor c.system.sort ])
    by None = refl
    by (Some n) = by_sort n.system.sort
action_is_late (Acts a k) = refl

late_effect : (o : StepResult) (t : Tag) → Tagged t o → late_tag t ≡ false → IsLateResult o → ⊥
unfolding late_tag
late_effect (Fault n) t h e l = l
late_effect (Gives (c, Own)) t h e l = l
late_effect (Gives (c, Ends)) t h e l = l
late_effect (Gives (c, Waits)) t h e l = l
late_effect (Gives (c, Enters m)) t h e l = true≢false (ap late_tag h ∙ e)
late_effect (Gives (c, Leaves m)) t h e l = l
late_effect (Gives (c, Delays m q)) t h e l = l
late_effect (Gives (c, Continues m r)) t h e l = l
late_effect (Gives (c, Opens m)) t h e l = true≢false (ap late_tag h ∙ e)
late_effect (Gives (c, Starts r k)) t h e l = l

-- ---- What an action needs

needs : (t : Owner → Bool) (w : Context) (f g : ℕ → Bool) (p : ℕ) (a : Action) → (IsInitial (action_tag a) → p ≡ 1)
    → (is_late a ≡ true → g ≡ w.is_set) → (p ≡ 1 → f ≡ w.is_started)
    → (p ≡ 1 → (m : ℕ) → w.is_set m ≡ false → t (OfMonitor m) ≡ true) → (p ≡ 1 → (r : ℕ) → w.is_started r ≡ false → t (OfProcess r) ≡ true)
    → ActionNeeds t w f g a
needs t w f g p Rests first set started monitors processes = tt
needs t w f g p (Calls u k) first set started monitors processes = set
needs t w f g p (Acts (Do (Init x es) env) k) first set started monitors processes = λ n e. by n n.system.sort (first_of n e) (set_of n e)
  where
    first_of : (n : Component) → component_named env x ≡ Some n → IsInitial (sort_tag n.system.sort) → p ≡ 1
    first_of n e h = first (subst (λ o. IsInitial (init_tag o)) (sym e) h)

    set_of : (n : Component) → component_named env x ≡ Some n → same_sort Monitor n.system.sort ≡ true → g ≡ w.is_set
    set_of n e h = set (ap (λ o. elim o as (λ x. Bool) [ None ↦ false | Some c ↦ same_sort Monitor c.system.sort ]) e ∙ h)

    by : (n : Component) (y : Sort) → (IsInitial (sort_tag y) → p ≡ 1) → (same_sort Monitor y ≡ true → g ≡ w.is_set) → SortNeeds t w f g y
    by n Class h v = tt
    by n Monitor h v = (v refl, monitors (h tt))
    by n Process h v = (started (h tt), processes (h tt))
needs t w f g p (Acts a k) first set started monitors processes = tt

-- ---- Steps

module _ (w : World) (O : IsOrdered w) (setup : Setup) (s : State) (i : InOrder w s) (h : HoldsMarked s) where
  asks : AskersAsk s.gates s.status
  asks = λ m r e. i.gates.asks m r e

  abbrev foot : (p : ℕ) → s.status p ≡ Ready → ResultFooted s.gates s.status p (outcome setup s p)
  foot p ready = footed w O setup s p i h ready

  abbrev moved : ℕ → Configuration
  moved p = result (configuration s p) (outcome setup s p)

  -- The change that the step of p makes, and the state that it leaves.
  abbrev made : ℕ → Change
  made p = change p (outcome setup s p) s.gates s.status

  abbrev after : ℕ → State
  after p = changed (made p) (put_part (grasp s p) p (moved p) s)

  new_monitor : (p : ℕ) → p ≡ 1 → (m : ℕ) → is_set (s.gates m).holder ≡ false → grasp s p (OfMonitor m) ≡ true
  new_monitor p e m f = grasp_new s p (OfMonitor m) e (ap not f)

  new_process : (p : ℕ) → p ≡ 1 → (r : ℕ) → is_started (s.status r) ≡ false → grasp s p (OfProcess r) ≡ true
  new_process p e r f = grasp_new s p (OfProcess r) e (ap not f)

  -- If what p reads is the same, its step has the same outcome.
  same_outcome : (p : ℕ) (s' : State) → IsSameFor (grasp s p) p s s'
      → ActionNeeds (grasp s p) (context setup s p) (λ r. is_started (s'.status r)) (λ m. is_set (s'.gates m).holder) (action (s.continuation p))
      → outcome setup s' p ≡ result_mixed (grasp s p) s'.store (outcome setup s p)
  same_outcome p s' e n =
      (λ j. step_of (record { clock = record { round = suc (e.rounds j); tick = setup.tick }; process = p; input = setup.inputs p; is_started = λ r. is_started (s'.status r); is_set = λ m. is_set (s'.gates m).holder })
      (record { store = e.store j; continuation = e.continuation j; transcript = e.transcript j; consumed = e.consumed j }))
      ∙ step_same (grasp s p) s'.store (context setup s p) (λ r. is_started (s'.status r)) (λ m. is_set (s'.gates m).holder) (configuration s p)
      (grasp_closed s p i.invariant) (λ d. grasp_activation s p d) (in_grasp s p i.invariant) n

  -- So it does the same.
  step_is : (p : ℕ) (s' : State) → IsSameFor (grasp s p) p s s'
      → ActionNeeds (grasp s p) (context setup s p) (λ r. is_started (s'.status r)) (λ m. is_set (s'.gates m).holder) (action (s.continuation p))
      → step setup s' p ≡ act p (outcome setup s p) (put_part (grasp s p) p (moved p) s')
  step_is p s' e n = ap (after_step s' p) (same_outcome p s' e n) ∙ by (outcome setup s p)
    where
      back : s' ≡ put_part (grasp s p) p (configuration s p) s'
      back = state_is _ _ e.store (sym (with_at_same p (s.continuation p) s'.continuation e.continuation)) (sym (with_at_same p (s.transcript p) s'.transcript e.transcript))
          (sym (with_at_same p (s.consumed p) s'.consumed e.consumed)) refl refl refl

      by : (o : StepResult) → after_step s' p (result_mixed (grasp s p) s'.store o) ≡ act p o (put_part (grasp s p) p (result (configuration s p) o) s')
      by (Fault n) = ap (set_status p (Faulted n)) back
      by (Gives x) = refl

  self : (p : ℕ) → IsSameFor (grasp s p) p s s
  self p = record { store = sym (mix_same (grasp s p) s.store); continuation = refl; transcript = refl; consumed = refl; status = refl; rounds = refl }

  pub stepped : (p : ℕ) → step setup s p ≡ after p
  stepped p =
      step_is p s (self p) (needs (grasp s p) (context setup s p) _ _ p (action (s.continuation p)) (is_first w O setup s p i) (λ e. refl) (λ e. refl) (new_monitor p) (new_process p))
      ∙ act_is p (outcome setup s p) (put_part (grasp s p) p (moved p) s)

  -- ---- What a step of p leaves of what q reads

  module _ (p q : ℕ) (d : p ≢ q) (ready_p : s.status p ≡ Ready) (ready_q : s.status q ≡ Ready) where
    mine_p : AtAll (Mine s.gates s.status p) (made p).statuses
    mine_p = statuses_mine s.gates s.status asks p (outcome setup s p) (foot p ready_p)

    starts_other : AtAll (λ n. n ≢ q) (made p).starts
    starts_other =
        at_more (IsNewTo s.gates s.status p) (λ n. n ≢ q) (made p).starts
        (λ n a e. true≢false (sym (ap (λ x. is_started (s.status x)) e ∙ ap is_started ready_q) ∙ a.1)) (starts_fresh s.gates s.status p (outcome setup s p) (foot p ready_p))

    pub same_for : IsSameFor (grasp s q) q s (after p)
    same_for = record {
      store = λ j l. at l (grasp s p l.owner) (grasp s q l.owner) refl refl j;
      continuation = puts_there q (made p).starts (with_at p (moved p).continuation s.continuation) starts_other ∙ with_at_there p q (moved p).continuation s.continuation n;
      transcript = with_at_there p q (moved p).transcript s.transcript n;
      consumed = with_at_there p q (moved p).consumed s.consumed n;
      status = puts_there q (made p).statuses s.status (at_more (Mine s.gates s.status p) (λ n. n ≢ q) (made p).statuses (λ n a. mine_apart s.gates s.status p q n q d ready_p ready_q a (Itself refl)) mine_p);
      rounds = refl;
    }
      where
        n : nat_eq p q ≡ false
        n = ne_eqb p q d

        at : (l : Location) (a b : Bool) → grasp s p l.owner ≡ a → grasp s q l.owner ≡ b
            → (if a then (moved p).store l else s.store l) ≡ (if b then s.store l else (if a then (moved p).store l else s.store l))
        at l true true e f = absurd (grasps_apart s h p q d ready_p ready_q l.owner e f)
        at l true false e f = refl
        at l false true e f = refl
        at l false false e f = refl

  abbrev not_late : ℕ → Type 0
  not_late q = is_late (action (s.continuation q)) ≡ false

  eager_result : (q : ℕ) → not_late q → IsLateResult (outcome setup s q) → ⊥
  eager_result q e =
      late_effect (outcome setup s q) (action_tag (action (s.continuation q))) (step_tagged (context setup s q) (configuration s q))
      (action_is_late (action (s.continuation q)) ∙ e)

  -- ---- They change places

  module _ (p q : ℕ) (d : p ≢ q) (ready_p : s.status p ≡ Ready) (ready_q : s.status q ≡ Ready) where
    not_both : p ≡ 1 → q ≡ 1 → ⊥
    not_both a b = d (a ∙ sym b)

    -- What one writes changes place with what the other does to gates and statuses.
    part_past : (b : ℕ) (x : Configuration) (t : Owner → Bool) (c : Change) (u : State) → AtAll (λ n. n ≢ b) c.starts
        → put_part t b x (changed c u) ≡ changed c (put_part t b x u)
    part_past b x t c u h = state_is _ _ refl (sym (puts_past_one b x.continuation c.starts u.continuation h)) refl refl refl refl refl

    parts_swap : put_part (grasp s q) q (moved q) (put_part (grasp s p) p (moved p) s) ≡ put_part (grasp s p) p (moved p) (put_part (grasp s q) q (moved q) s)
    parts_swap =
        state_is _ _ (λ j l. at l (grasp s p l.owner) (grasp s q l.owner) refl refl j) (with_at_swap q p _ _ s.continuation (λ e. d (sym e)))
        (with_at_swap q p _ _ s.transcript (λ e. d (sym e))) (with_at_swap q p _ _ s.consumed (λ e. d (sym e))) refl refl refl
      where
        at : (l : Location) (a b : Bool) → grasp s p l.owner ≡ a → grasp s q l.owner ≡ b
            → (if b then (moved q).store l else (if a then (moved p).store l else s.store l))
            ≡ (if a then (moved p).store l else (if b then (moved q).store l else s.store l))
        at l true true e f = absurd (grasps_apart s h p q d ready_p ready_q l.owner e f)
        at l true false e f = refl
        at l false true e f = refl
        at l false false e f = refl

    abbrev both_parts : State
    both_parts = put_part (grasp s q) q (moved q) (put_part (grasp s p) p (moved p) s)

    abbrev other_parts : State
    other_parts = put_part (grasp s p) p (moved p) (put_part (grasp s q) q (moved q) s)

    -- If after the step of the other each does the same, and the acts change places, so do the steps.
    places : step setup (after p) q ≡ act q (outcome setup s q) (put_part (grasp s q) q (moved q) (after p))
        → step setup (after q) p ≡ act p (outcome setup s p) (put_part (grasp s p) p (moved p) (after q))
        → act q (outcome setup s q) (act p (outcome setup s p) both_parts) ≡ act p (outcome setup s p) (act q (outcome setup s q) both_parts)
        → step setup (step setup s p) q ≡ step setup (step setup s q) p
    places then_q then_p acts =
        ap (λ x. step setup x q) (stepped p)
        ∙ then_q
        ∙ ap (act q (outcome setup s q)) (part_past q (moved q) (grasp s q) (made p) (put_part (grasp s p) p (moved p) s) (starts_other p q d ready_p ready_q)
        ∙ sym (act_is p (outcome setup s p) both_parts))
        ∙ acts
        ∙ ap (act p (outcome setup s p)) (ap (act q (outcome setup s q)) parts_swap ∙ act_is q (outcome setup s q) other_parts
        ∙ sym (part_past p (moved p) (grasp s p) (made q) (put_part (grasp s q) q (moved q) s) (starts_other q p (λ e. d (sym e)) ready_q ready_p)))
        ∙ sym then_p
        ∙ sym (ap (λ x. step setup x p) (stepped q))

    -- After the step of p, that of q does the same, unless it calls or initialises a monitor and p sets one.
    then_does : (is_late (action (s.continuation q)) ≡ true → (m : ℕ) → is_set ((after p).gates m).holder ≡ is_set (s.gates m).holder)
        → step setup (after p) q ≡ act q (outcome setup s q) (put_part (grasp s q) q (moved q) (after p))
    then_does set =
        step_is q (after p) (same_for p q d ready_p ready_q)
        (needs (grasp s q) (context setup s q) _ _ q (action (s.continuation q)) (is_first w O setup s q i) (λ e j m. set e m j)
        (λ e j r. same_started s.gates s.status asks p (outcome setup s p) (foot p ready_p) (λ f. not_both f e) ready_p r j) (new_monitor q) (new_process q))

  pub changes_places : (p q : ℕ) → p ≢ q → s.status p ≡ Ready → s.status q ≡ Ready → not_late q → step setup (step setup s p) q ≡ step setup (step setup s q) p
  changes_places p q d ready_p ready_q eager =
      places p q d ready_p ready_q (then_does p q d ready_p ready_q (λ e. absurd (true≢false (sym e ∙ eager))))
      (then_does q p (λ e. d (sym e)) ready_q ready_p (λ e m. same_set s.gates s.status q (outcome setup s q) (foot q ready_q) (eager_result q eager) m))
      (acts_commute p q (both_parts p q d ready_p ready_q) d ready_p ready_q asks (outcome setup s p) (outcome setup s q) (foot p ready_p) (foot q ready_q) (eager_result q eager))

  -- Calls of different monitors change places too.
  pub calls_change_places : (p q m n : ℕ) → p ≢ q → s.status p ≡ Ready → s.status q ≡ Ready → called s p ≡ Some m → called s q ≡ Some n → m ≢ n
      → step setup (step setup s p) q ≡ step setup (step setup s q) p
  calls_change_places p q m n d ready_p ready_q call_p call_q other =
      places p q d ready_p ready_q (then_does p q d ready_p ready_q (λ e k. kept p m ready_p enters_p k)) (then_does q p (λ e. d (sym e)) ready_q ready_p (λ e k. kept q n ready_q enters_q k))
      (apart p q (both_parts p q d ready_p ready_q) d ready_p ready_q asks (outcome setup s p) (outcome setup s q) (foot p ready_p) (foot q ready_q)
      (enters_touches (λ k. ResultTouches (λ j. k ≢ j) (outcome setup s q)) m (outcome setup s p) (enters_touches (λ j. m ≢ j) n (outcome setup s q) other enters_q) enters_p))
    where
      enters_p : EntersAt m (outcome setup s p)
      enters_p = step_enters (context setup s p) (configuration s p) m call_p

      enters_q : EntersAt n (outcome setup s q)
      enters_q = step_enters (context setup s q) (configuration s q) n call_q

      kept : (r j : ℕ) (ready : s.status r ≡ Ready) → EntersAt j (outcome setup s r) → (k : ℕ) → is_set ((after r).gates k).holder ≡ is_set (s.gates k).holder
      kept r j ready enters k =
          set_kept s.gates s.status r (outcome setup s r) (foot r ready) (enters_open_none s.gates s.status j (outcome setup s r) enters) k

  -- The monitor that the next step of q calls is the same after a step of p.
  pub called_stays : (p q : ℕ) → p ≢ q → s.status p ≡ Ready → s.status q ≡ Ready → called (step setup s p) q ≡ called s q
  called_stays p q d ready_p ready_q =
      let e = same_for p q d ready_p ready_q in
      ap (λ x. called x q) (stepped p)
      ∙ (λ j. called_by (e.store j) (action (e.continuation j)))
      ∙ called_same (grasp s q) s.store (after p).store (action (s.continuation q)) (action_in (grasp s q) (s.continuation q) (in_grasp s q i.invariant))
      (λ env n x. monitor_number_same (grasp s q) (after p).store (context setup s q) (context setup s q).is_started (context setup s q).is_set (configuration s q)
      (grasp_closed s q i.invariant) (λ k. grasp_activation s q k) env n x)

  -- ---- The way of the other stays

  pub way_stays : (p q : ℕ) → p ≢ q → s.status p ≡ Ready → s.status q ≡ Ready → way (step setup s p) q ≡ way s q
  way_stays p q d ready_p ready_q =
      let a = same_for p q d ready_p ready_q in
      ap (λ x. way x q) (stepped p) ∙ (λ j. way_of (a.status j) (a.continuation j))

-- ---- Ways

pub way_ready : (x : Status) (k : List Task) → (way_of x k ≡ Idle → ⊥) → x ≡ Ready
way_ready Ready k h = refl
way_ready Unstarted k h = absurd (h refl)
way_ready Fresh k h = absurd (h refl)
way_ready Ended k h = absurd (h refl)
way_ready Waiting k h = absurd (h refl)
way_ready (Asking m) k h = absurd (h refl)
way_ready (Delayed m q) k h = absurd (h refl)
way_ready (Faulted n) k h = absurd (h refl)

eager_no_idle : Eager ≡ Idle → ⊥
eager_no_idle e = grind arith

late_no_idle : Late ≡ Idle → ⊥
late_no_idle e = grind arith

late_no_eager : Late ≡ Eager → ⊥
late_no_eager e = grind arith

pub eager_ready : (s : State) (p : ℕ) → way s p ≡ Eager → s.status p ≡ Ready
eager_ready s p e = way_ready (s.status p) (s.continuation p) (λ f. eager_no_idle (sym e ∙ f))

pub late_ready : (s : State) (p : ℕ) → way s p ≡ Late → s.status p ≡ Ready
late_ready s p e = way_ready (s.status p) (s.continuation p) (λ f. late_no_idle (sym e ∙ f))

pub eager_is : (s : State) (p : ℕ) → way s p ≡ Eager → is_late (action (s.continuation p)) ≡ false
eager_is s p e = by (is_late (action (s.continuation p))) (sym (ap (λ x. way_of x (s.continuation p)) (eager_ready s p e)) ∙ e)
  where
    by : (b : Bool) → (if b then Late else Eager) ≡ Eager → b ≡ false
    by true f = absurd (late_no_eager f)
    by false f = refl
