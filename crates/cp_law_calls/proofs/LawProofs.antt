-- The laws of eager steps and of orders of calls, from the lemmas on good states and on machines.
use Rattle.std.specs.Prelude.{Bool, Contains, List, None, Option, Some, [], false, if◌then◌else◌, nat_eq, not, refl, true, ℕ, ◌∷◌, ◌||◌, ◌≡◌}
use Rattle.std.proofs.Common.{ap, arith, subst, sym, ◌∙◌}
use Rattle.std.proofs.lemmas.Bool.{eqb-true, true≢false}
use Rattle.cp_model.specs.Abstract.{Class, Init, Monitor, Process, Sort}
use Rattle.cp_model.specs.Continuations.{Do, Task}
use Rattle.cp_model.specs.Components.{Component, component_named, same_sort}
use Rattle.cp_model.specs.Actions.{Action, Acts, Calls, Rests, action, is_kernel_action}
use Rattle.cp_model.specs.Turns.{Kernel, Private, kind_of}
use Rattle.cp_model.proofs.OwnSteps.{kind_private}
use Rattle.cp_law_typing.proofs.Texts.{accepted_texts_are_well_typed}
use Rattle.cp_law_calls.proofs.TimelessTexts.{text_timeless}
use Rattle.cp_model.specs.Configurations.{Asking, Delayed, Ended, Faulted, Fresh, Ready, Status, Unstarted, Waiting, holds_gate}
use Rattle.cp_model.specs.Orders.{replay}
use Rattle.cp_model.specs.Rounds.{Event, after_closing}
use Rattle.cp_model.specs.Start.{start}
use Rattle.cp_model.specs.States.{Setup, State, is_in, processes}
use Rattle.cp_law_gates.specs.InOrder.{world}
use Rattle.cp_law_gates.proofs.Texts.{text_is_ordered}
use Rattle.cp_law_stillness.specs.Stillness.{AreAllOfProcesses, can_move, is_still, none_can_move}
use Rattle.cp_law_typing.specs.WellTyped.{WellTyped}
use Rattle.cp_law_calls.specs.Laws.{AcceptedByCallsIsOrder, AcceptedCallsDetermineEnd, AcceptedStillIsByCalls, ByCallsIsOrder, CallsDetermineEnd, DifferentCallsCommute, DifferentCallsSwap, TakingMovesLater, EagerStepsCommute, LateIsOfKernel, LeavingMovesEarlier, OrderIsByCalls, OrderIsRun, OrdersStayWithin, PrivateIsEager, ReachedAreGood, RoundKeepsGood, RunIsOrder, SameCallersSameEnd, SettlesOnce, StartIsGood, StepKeepsGood, StepPastClosing, StepsOfKindsKeepGood, StillIsByCalls, TimelessTexts}
use Rattle.cp_law_calls.specs.Orders.{IsTimeless, closed, machine}
use Rattle.cp_law_calls.specs.Runs.{IsSettled, Runs}
use Rattle.cp_law_calls.specs.Ways.{Eager, Idle, Late, is_late, way_of}
use Rattle.cp_law_calls.proofs.Good.{close_good, kernel_good, private_good, round_good, rounds_good, start_good, step_good, wake_good}
use Rattle.cp_law_calls.proofs.Movers.{called_stays, calls_change_places, changes_places, eager_is, eager_ready, late_ready, way_ready, way_stays}
use Rattle.cp_law_calls.proofs.Ordering.{CallDifferent, Fine, Led, different_calls, movers, orders_stay_within, rounds_led, start_fine, step_closed}
use Rattle.cp_law_calls.proofs.Runs.{by_calls_runs, eager_runs, runs_on, settles_here}
use Rattle.cp_law_calls.proofs.Settling.{calls_determine, calls_swap, run_by_calls, same_callers_same_end, settles_once}
use Rattle.cp_law_calls.proofs.Still.{still_settled}

-- ---- Good states

pub start_is_good : StartIsGood
start_is_good setup typed = start_good setup typed

pub step_keeps_good : StepKeepsGood
step_keeps_good setup s p typed g ready = step_good setup s p typed g ready

pub kinds_keep_good : StepsOfKindsKeepGood
kinds_keep_good setup s p typed g = (private_good setup s p typed g, kernel_good setup s p typed g)

pub round_keeps_good : RoundKeepsGood
round_keeps_good setup t s es typed g = (wake_good setup s g, close_good setup s typed g, round_good setup t s es typed g)

pub reached_are_good : ReachedAreGood
reached_are_good setup rounds typed = rounds_good rounds setup (start setup) typed (start_good setup typed)

-- ---- Eager steps

pub eager_steps_commute : EagerStepsCommute
eager_steps_commute setup s p q typed good d ep eq =
    let O = text_is_ordered setup typed in
    let rp = eager_ready s p ep in
    let rq = eager_ready s q eq in (
      changes_places (world setup) O setup s good.in_order good.holds p q d rp rq (eager_is s q eq),
      way_stays (world setup) O setup s good.in_order good.holds p q d rp rq ∙ eq,
      way_stays (world setup) O setup s good.in_order good.holds q p (λ e. d (sym e)) rq rp ∙ ep,
    )

pub taking_moves_later : TakingMovesLater
taking_moves_later setup s p q typed good d lp eq =
    let O = text_is_ordered setup typed in
    let rp = late_ready s p lp in
    let rq = eager_ready s q eq in (
      changes_places (world setup) O setup s good.in_order good.holds p q d rp rq (eager_is s q eq),
      way_stays (world setup) O setup s good.in_order good.holds p q d rp rq ∙ eq,
      way_stays (world setup) O setup s good.in_order good.holds q p (λ e. d (sym e)) rq rp ∙ lp,
    )

pub leaving_moves_earlier : LeavingMovesEarlier
leaving_moves_earlier setup s p q typed good d awake eq =
    let O = text_is_ordered setup typed in
    let rp = way_ready (s.status p) (s.continuation p) awake in
    let rq = eager_ready s q eq in (
      changes_places (world setup) O setup s good.in_order good.holds p q d rp rq (eager_is s q eq),
      way_stays (world setup) O setup s good.in_order good.holds p q d rp rq,
      way_stays (world setup) O setup s good.in_order good.holds q p (λ e. d (sym e)) rq rp,
    )

pub different_calls_commute : DifferentCallsCommute
different_calls_commute setup s p q m n typed good d rp rq cp cq other =
    let O = text_is_ordered setup typed in (
      calls_change_places (world setup) O setup s good.in_order good.holds p q m n d rp rq cp cq other,
      called_stays (world setup) O setup s good.in_order good.holds p q d rp rq ∙ cq,
      called_stays (world setup) O setup s good.in_order good.holds q p (λ e. d (sym e)) rq rp ∙ cp,
    )

-- ---- Orders

reached : (setup : Setup) (typed : WellTyped setup) (T : IsTimeless setup) (rounds : List (ℕ × List Event)) → AreAllOfProcesses setup rounds
    → Led setup typed T (start setup) (replay setup (start setup) rounds)
reached setup typed T rounds a = rounds_led setup typed T rounds (start setup) (start_fine setup typed T) a

pub step_past_closing : StepPastClosing
step_past_closing setup rounds x p typed T a e there =
    step_closed setup typed T x p (subst (Fine setup typed T) (sym e) (reached setup typed T rounds a).fine) there

pub order_is_run : OrderIsRun
order_is_run setup rounds typed T a = (reached setup typed T rounds a).run

run_fine : (setup : Setup) (typed : WellTyped setup) (T : IsTimeless setup) (ps : List ℕ) (s u : State) → Fine setup typed T s → Runs (machine setup) s ps u → Fine setup typed T u
run_fine setup typed T [] s u f run = subst (Fine setup typed T) run f
run_fine setup typed T (p ∷ ps) s u f run =
    run_fine setup typed T ps _ u ((movers setup typed T).good s p f run.0 run.1) run.2

pub run_is_order : RunIsOrder
run_is_order setup ps u typed T run =
    let f = run_fine setup typed T ps (closed (start setup)) u (start_fine setup typed T) run in
    (f.rounds, f.within, f.at)

pub once : SettlesOnce
once setup rounds u v typed T a h k =
    settles_once (machine setup) (Fine setup typed T) (movers setup typed T) _ u v (reached setup typed T rounds a).fine h k

pub order_is_by_calls : OrderIsByCalls
order_is_by_calls setup rounds u typed T a h =
    let L = reached setup typed T rounds a in
    let r = runs_on (machine setup) L.run.0 h.made (closed (start setup)) _ u L.run.1
    (eager_runs (machine setup) h.made _ u h.run) in
    (_, run_by_calls (machine setup) (Fine setup typed T) (movers setup typed T) r.0 (closed (start setup)) u (start_fine setup typed T) r.1 h.settled)

pub still_is_by_calls : StillIsByCalls
still_is_by_calls setup rounds typed T a h =
    order_is_by_calls setup rounds (closed (replay setup (start setup) rounds)) typed T a
    (settles_here (machine setup) (closed (replay setup (start setup) rounds)) (still_settled setup (replay setup (start setup) rounds) h))

pub by_calls_is_order : ByCallsIsOrder
by_calls_is_order setup calls u typed T h =
    let r = by_calls_runs (machine setup) calls (closed (start setup)) u h in
    run_is_order setup r.0 u typed T r.1

pub calls_determine_end : CallsDetermineEnd
calls_determine_end setup calls u v typed T h k =
    calls_determine (machine setup) (Fine setup typed T) (movers setup typed T) (closed (start setup)) u v calls (start_fine setup typed T) h k

pub same_end : SameCallersSameEnd
same_end setup ps qs u v typed T run settled run' settled' e =
    same_callers_same_end (machine setup) (Fine setup typed T) (movers setup typed T) ps qs (closed (start setup)) u v (start_fine setup typed T) run settled run' settled' e

pub different_calls_swap : DifferentCallsSwap
different_calls_swap setup rounds p q m n calls u typed T a h late d cp cq other =
    calls_swap (machine setup) (Fine setup typed T) (movers setup typed T) (CallDifferent setup typed T) (different_calls setup typed T)
    (closed (replay setup (start setup) rounds)) u p q calls (reached setup typed T rounds a).fine h late d (m, n, cp, cq, other)

pub orders_within : OrdersStayWithin
orders_within setup vs v rounds typed T closed_set known h a = orders_stay_within setup typed T (Contains vs) closed_set v known h rounds a

-- ---- Kinds

late_kernel : (a : Action) → is_late a ≡ true → is_kernel_action a ≡ true
late_kernel Rests h = absurd (true≢false (sym h))
late_kernel (Calls u k) h = h
late_kernel (Acts (Do (Init x es) env) k) h = by (component_named env x) h
  where
    by_sort : (y : Sort) → same_sort Monitor y ≡ true → not (same_sort Class y) ≡ true
    by_sort Class h = absurd (true≢false (sym h))
    by_sort Monitor h = refl
    by_sort Process h = refl

    by : (o : Option Component) → (elim o as (λ x. Bool) [ None ↦ false | Some c ↦ same_sort Monitor c.system.sort ]) ≡ true
        → not (elim o as (λ x. Bool) [ None ↦ true | Some c ↦ same_sort Class c.system.sort ]) ≡ true
    by None h = absurd (true≢false (sym h))
    by (Some c) h = by_sort c.system.sort h
late_kernel (Acts i k) h = absurd (true≢false (sym h))

pub private_is_eager : PrivateIsEager
private_is_eager s p h =
    let k = kind_private (s.status p) (s.continuation p) h in
    ap (λ x. way_of x (s.continuation p)) k.0 ∙ by (is_late (action (s.continuation p))) refl k.2
  where
    by : (b : Bool) → is_late (action (s.continuation p)) ≡ b → is_kernel_action (action (s.continuation p)) ≡ false → (if b then Late else Eager) ≡ Eager
    by true e f = absurd (true≢false (sym (late_kernel (action (s.continuation p)) e) ∙ f))
    by false e f = refl

pub late_is_of_kernel : LateIsOfKernel
late_is_of_kernel s p h =
    ap (λ x. kind_of x (s.continuation p)) ready
    ∙ ap (λ b. if holds_gate Ready (s.continuation p) || b then Kernel else Private) (late_kernel (action (s.continuation p)) late)
    ∙ by (holds_gate Ready (s.continuation p))
  where
    ready : s.status p ≡ Ready
    ready = late_ready s p h

    eager_no_late : Eager ≡ Late → ⊥
    eager_no_late e = grind arith

    on : (b : Bool) → (if b then Late else Eager) ≡ Late → b ≡ true
    on true e = refl
    on false e = absurd (eager_no_late e)

    late : is_late (action (s.continuation p)) ≡ true
    late = on (is_late (action (s.continuation p))) (sym (ap (λ x. way_of x (s.continuation p)) (late_ready s p h)) ∙ h)

    by : (b : Bool) → (if b || true then Kernel else Private) ≡ Kernel
    by true = refl
    by false = refl

-- ---- Texts

pub timeless_texts : TimelessTexts
timeless_texts setup typed t = text_timeless setup typed t

pub accepted_still : AcceptedStillIsByCalls
accepted_still t setup rounds ok is free a still =
    let typed = accepted_texts_are_well_typed t setup ok is in
    still_is_by_calls setup rounds typed (text_timeless setup typed free) a still

pub accepted_order : AcceptedByCallsIsOrder
accepted_order t setup calls u ok is free h =
    let typed = accepted_texts_are_well_typed t setup ok is in
    by_calls_is_order setup calls u typed (text_timeless setup typed free) h

pub accepted_end : AcceptedCallsDetermineEnd
accepted_end t setup calls u v ok is free h k =
    let typed = accepted_texts_are_well_typed t setup ok is in
    calls_determine_end setup calls u v typed (text_timeless setup typed free) h k
