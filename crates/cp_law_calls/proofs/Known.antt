-- What is known of the next step of a ready process, if gates are in order.
--
-- Its process holds the gate that it leaves or at which it delays. A process that it continues is stopped
-- at that gate. Only process 1 opens monitors and starts processes.
use Rattle.std.specs.Prelude.{Bool, List, None, Option, Some, [], false, refl, true, ℕ, ◌∷◌, ◌≡◌}
use Rattle.std.proofs.Common.{ap, arith, inl, inr, subst, sym, ◌∙◌}
use Rattle.std.proofs.lemmas.Bool.{eqb-true}
use Rattle.cp_model.specs.Abstract.{Class, Init, Monitor, Process, Sort}
use Rattle.cp_model.specs.Locations.{Location, OfMonitor, OfProcess, Owner}
use Rattle.cp_model.specs.Stores.{QueueHolds}
use Rattle.cp_model.specs.Outcomes.{Fault, Gives}
use Rattle.cp_model.specs.Environments.{Environment}
use Rattle.cp_model.specs.Continuations.{Do, marked_monitors}
use Rattle.cp_model.specs.Components.{Component, component_named}
use Rattle.cp_model.specs.Calls.{is_monitor_call}
use Rattle.cp_model.specs.Actions.{Action, Acts, Calls, Rests, action}
use Rattle.cp_model.specs.Configurations.{Continues, Delays, Ends, Enters, Leaves, Opens, Own, Ready, Starts, StepResult, Waits}
use Rattle.cp_model.specs.Step.{step_of}
use Rattle.cp_model.specs.States.{HeldBy, Setup, State, configuration, context, is_in}
use Rattle.cp_model.specs.Reach.{in_reach}
use Rattle.cp_model.proofs.Lists.{in_head}
use Rattle.cp_model.proofs.ActionReach.{ActionIn, action_in}
use Rattle.cp_model.proofs.ExpressionReach.{IfGives}
use Rattle.cp_law_gates.specs.Gates.{IsInnermost, IsStoppedAt}
use Rattle.cp_law_gates.specs.InOrder.{InOrder, InitFits, InitOf, IsOrdered, IsOutermost, World}
use Rattle.cp_law_gates.proofs.Stepping.{IsBefore, StepFits}
use Rattle.cp_law_gates.proofs.Steps.{ActionFits, action_fits, step_fits}
use Rattle.cp_law_calls.specs.Ways.{HoldsMarked}
use Rattle.cp_law_calls.proofs.Footing.{ResultFooted}
use Rattle.cp_law_calls.proofs.Grasp.{in_own_reach, marked_held}
use Rattle.cp_law_calls.proofs.Tags.{Opening, Starting, Tag, Tagged, action_tag, call_tag, init_tag, sort_tag, step_tagged}

-- `init` of a monitor or of a process.
abbrev pub IsInitial : Tag → Type 0
IsInitial Opening = Unit {0}
IsInitial Starting = Unit {0}
IsInitial _ = ⊥

process_no_class : Process ≡ Class → ⊥
process_no_class e = grind arith

owners_same : (m n : ℕ) → OfMonitor m ≡ OfMonitor n → m ≡ n
owners_same m n e = ap number e
  where
    number : Owner → ℕ
    number (OfMonitor x) = x
    number _ = 0

innermost_in : (m : ℕ) (ms : List ℕ) → IsInnermost m ms → is_in m ms ≡ true
innermost_in m [] h = absurd h
innermost_in m (n ∷ ns) h = subst (λ x. is_in m (x ∷ ns) ≡ true) (sym h) (in_head m ns)

module _ (w : World) (O : IsOrdered w) (setup : Setup) (s : State) (p : ℕ) (i : InOrder w s) where
  pub before : IsBefore w (context setup s p) (configuration s p)
  before = record {
    ordered = O;
    invariant = i.invariant.store;
    rights = i.rights;
    fits = i.fits p;
    descends = i.gates.descends p;
    within = λ m h. i.gates.within p m h;
  }

  abbrev here : Action → Type 0
  here a = ActionFits w (context setup s p) (configuration s p) before a

  pub fits : IfGives (StepFits w (context setup s p) (configuration s p) before) (step_of (context setup s p) (configuration s p))
  fits = step_fits w (context setup s p) (configuration s p) before

  -- Only the first process initialises monitors and processes.
  outermost : (env : Environment) → IsOutermost w env → in_reach p (marked_monitors (s.continuation p)) env.component.owner ≡ true → p ≡ 1
  outermost env o h =
      let e : env.component.owner ≡ OfProcess 1 = ap (λ (l : Location). l.owner) o.1 in
      eqb-true p 1 (subst (λ x. in_reach p (marked_monitors (s.continuation p)) x ≡ true) e h)

  by_action : (a : Action) → here a → ActionIn (in_reach p (marked_monitors (s.continuation p))) a → IsInitial (action_tag a) → p ≡ 1
  by_action Rests f t h = absurd h
  by_action (Calls u k) f t h = by (is_monitor_call u.callee) h
    where
      by : (b : Bool) → IsInitial (call_tag b) → p ≡ 1
      by true h = absurd h
      by false h = absurd h
  by_action (Acts (Do (Init x es) env) k) f t h = by (component_named env x) refl f.0.0.1.1 h
    where
      by_sort : (n : Component) (y : Sort) → n.system.sort ≡ y → component_named env x ≡ Some n → n.is_parameter ≡ false → InitFits y w env n es → IsInitial (sort_tag y) → p ≡ 1
      by_sort n Class e is bare fit h = absurd h
      by_sort n Monitor e is bare fit h = outermost env fit.0 t.0.component
      by_sort n Process e is bare fit h = elim f.0.0.0.here.kind [
        | inl o ↦ outermost env o t.0.component
        | inr inner ↦ absurd (process_no_class (sym e ∙ (O.inner_components env x n f.0.0.0.here.scope inner is).0 bare))
      ]

      by : (o : Option Component) → component_named env x ≡ o → InitOf w env o es → IsInitial (init_tag o) → p ≡ 1
      by None is fit h = absurd h
      by (Some n) is fit h = by_sort n n.system.sort refl is fit.0 fit.1 h
  by_action (Acts a k) f t h = absurd h

  pub is_first : IsInitial (action_tag (action (s.continuation p))) → p ≡ 1
  is_first =
      by_action (action (s.continuation p)) (action_fits w (context setup s p) (configuration s p) before (s.continuation p) (i.fits p) refl)
      (action_in (in_reach p (marked_monitors (s.continuation p))) (s.continuation p) (in_own_reach s p i.invariant))

  -- ---- Where its effect is

  module _ (h : HoldsMarked s) (ready : s.status p ≡ Ready) where
    marked : (m : ℕ) (ms : List ℕ) → marked_monitors (s.continuation p) ≡ m ∷ ms → (s.gates m).holder ≡ HeldBy p
    marked m ms e = marked_held s p m h ready (ap (is_in m) e ∙ in_head m ms)

    resumed : (m r : ℕ) (q : Location) → q.owner ≡ OfMonitor m → s.store q ≡ QueueHolds (Some r) → IsStoppedAt m (s.status r)
    resumed m r q own e =
        let S = i.gates.queues q r e in
        subst (IsStoppedAt m) (sym S.delayed) (owners_same S.monitor m (sym S.owner ∙ own))

    footed_by : (x : StepResult) → IfGives (StepFits w (context setup s p) (configuration s p) before) x → Tagged (action_tag (action (s.continuation p))) x
        → ResultFooted s.gates s.status p x
    footed_by (Fault n) f t = tt
    footed_by (Gives (c, Own)) f t = tt
    footed_by (Gives (c, Ends)) f t = tt
    footed_by (Gives (c, Waits)) f t = tt
    footed_by (Gives (c, Enters m)) f t = f.effect.2
    footed_by (Gives (c, Leaves m)) f t = marked m (marked_monitors c.continuation) f.effect.0
    footed_by (Gives (c, Delays m l)) f t = marked_held s p m h ready (innermost_in m (marked_monitors (s.continuation p)) f.effect.2)
    footed_by (Gives (c, Continues m None)) f t = marked m (marked_monitors c.continuation) f.effect.0
    footed_by (Gives (c, Continues m (Some r))) f t =
        (marked m (marked_monitors c.continuation) f.effect.0, resumed m r f.effect.2.0 f.effect.2.1 f.effect.2.2)
    footed_by (Gives (c, Opens m)) f t = (is_first (subst IsInitial t tt), f.effect.2)
    footed_by (Gives (c, Starts r k)) f t = is_first (subst IsInitial t tt)

    pub footed : ResultFooted s.gates s.status p (step_of (context setup s p) (configuration s p))
    footed = footed_by (step_of (context setup s p) (configuration s p)) fits (step_tagged (context setup s p) (configuration s p))
