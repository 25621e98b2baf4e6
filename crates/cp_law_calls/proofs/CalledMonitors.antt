-- The monitor that a step calls is the one whose gate it takes or asks for. A step of another process
-- doesn't change which it is.
use Rattle.std.specs.Prelude.{Bool, List, None, Option, Some, [], false, if◌then◌else◌, refl, true, ℕ, ◌≡◌}
use Rattle.std.proofs.Common.{ap, arith, subst, sym}
use Rattle.cp_model.specs.Abstract.{Class, Monitor, Process, Sort}
use Rattle.cp_model.specs.Declarations.{declarations}
use Rattle.cp_model.specs.Locations.{OfActivation, Owner}
use Rattle.cp_model.specs.Stores.{Store}
use Rattle.cp_model.specs.Outcomes.{Fault, Gives, Outcome, and_then}
use Rattle.cp_model.specs.Continuations.{Task, depth}
use Rattle.cp_model.specs.Components.{Component, monitor_number}
use Rattle.cp_model.specs.Calls.{UserCall, is_monitor_call}
use Rattle.cp_model.specs.Actions.{Action, Acts, Calls, Rests, action}
use Rattle.cp_model.specs.Arguments.{argument_writes, bind}
use Rattle.cp_model.specs.CallSteps.{call, called_configuration, component_target, entering, target}
use Rattle.cp_model.specs.Configurations.{Configuration, Context, Enters, Status, StepResult}
use Rattle.cp_model.specs.States.{Gate}
use Rattle.cp_model.specs.Environments.{Environment}
use Rattle.cp_model.specs.Step.{step_of, take_action}
use Rattle.cp_model.specs.Invariant.{EnvironmentIn}
use Rattle.cp_model.proofs.ActionReach.{ActionIn}
use Rattle.cp_model.proofs.MixedStores.{mix}
use Rattle.cp_law_calls.specs.Ways.{called_by, called_of}
use Rattle.cp_law_calls.proofs.Footing.{ResultTouches}
use Rattle.cp_law_calls.proofs.Touched.{IsOpening}
use Rattle.cp_law_calls.proofs.Known.{IsInitial}
use Rattle.cp_law_calls.proofs.Tags.{action_tag, call_tag}

none_some : (m : ℕ) → None ≡ Some m → ⊥
none_some m e = grind arith

some_same : (m n : ℕ) → Some m ≡ Some n → m ≡ n
some_same m n e = Prim.cc

-- A result whose effect, if any, is to enter or to ask for m.
abbrev pub EntersAt : ℕ → StepResult → Type 0
EntersAt m (Fault n) = Unit {0}
EntersAt m (Gives x) = x.1 ≡ Enters m

then_enters : {A : Type 0} (m : ℕ) (o : Outcome A) (f : A → StepResult) → ((x : A) → EntersAt m (f x)) → EntersAt m (and_then o f)
then_enters m (Fault n) f h = tt
then_enters m (Gives x) f h = h x

if_enters : (m : ℕ) (b : Bool) (x y : StepResult) → EntersAt m x → EntersAt m y → EntersAt m (if b then x else y)
if_enters m true x y h k = h
if_enters m false x y h k = k

call_enters : (w : Context) (config : Configuration) (m : ℕ) (u : UserCall) (k : List Task) → called_by config.store (Calls u k) ≡ Some m → EntersAt m (call w config u k)
call_enters w config m u k h =
    if_enters m (target w config.store u.environment u.callee.of).is_callable _ (Fault 6)
    (then_enters m (bind (argument_writes w.clock u.environment config.store)
    (record { owner = OfActivation w.process (depth k); path = [] })
    (declarations u.environment.globals u.callee.routine.parameters) u.arguments)
    (λ ws. Gives (called_configuration config u k (target w config.store u.environment u.callee.of) (OfActivation w.process (depth k)) ws)) (λ ws. by u.callee.of h))
    tt
  where
    by : (o : Option Component) → (elim o as (λ x. Option ℕ) [ None ↦ None | Some n ↦ called_of config.store u.environment n.system.sort n ]) ≡ Some m
        → entering (target w config.store u.environment o).gate ≡ Enters m
    by None h = absurd (none_some m h)
    by (Some n) h = by_sort n.system.sort h
      where
        by_sort : (x : Sort) → called_of config.store u.environment x n ≡ Some m → entering (component_target w u.environment config.store x n).gate ≡ Enters m
        by_sort Class h = absurd (none_some m h)
        by_sort Monitor h = ap Enters (some_same (monitor_number u.environment config.store n) m h)
        by_sort Process h = absurd (none_some m h)

pub step_enters : (w : Context) (config : Configuration) (m : ℕ) → called_by config.store (action config.continuation) ≡ Some m → EntersAt m (step_of w config)
step_enters w config m h = by (action config.continuation) h
  where
    by : (a : Action) → called_by config.store a ≡ Some m → EntersAt m (take_action w config a)
    by Rests h = absurd (none_some m h)
    by (Calls u k) h = call_enters w config m u k h
    by (Acts i k) h = absurd (none_some m h)

pub enters_touches : (P : ℕ → Type 0) (m : ℕ) (o : StepResult) → P m → EntersAt m o → ResultTouches P o
enters_touches P m (Fault n) h e = tt
enters_touches P m (Gives (c, x)) h e = subst (λ y. ResultTouches P (Gives (c, y))) (sym e) h

pub enters_open_none : (g : ℕ → Gate) (st : ℕ → Status) (m : ℕ) (o : StepResult) → EntersAt m o → IsOpening g st o → ⊥
enters_open_none g st m (Fault n) e h = h
enters_open_none g st m (Gives (c, x)) e h = subst (λ y. IsOpening g st (Gives (c, y))) e h

pub called_initial : (store : Store) (a : Action) (m : ℕ) → called_by store a ≡ Some m → IsInitial (action_tag a) → ⊥
called_initial store Rests m e h = h
called_initial store (Calls u k) m e h = by (is_monitor_call u.callee) h
  where
    by : (b : Bool) → IsInitial (call_tag b) → ⊥
    by true h = h
    by false h = h
called_initial store (Acts i k) m e h = none_some m e

-- In a store that differs only elsewhere it is the same monitor.
pub called_same : (t : Owner → Bool) (a b : Store) (x : Action) → ActionIn t x → ((env : Environment) (n : Component) → EnvironmentIn t env → monitor_number env (mix t a b) n ≡ monitor_number env a n)
    → called_by (mix t a b) x ≡ called_by a x
called_same t a b Rests h same = refl
called_same t a b (Acts i k) h same = refl
called_same t a b (Calls u k) h same = by u.callee.of
  where
    by : (o : Option Component)
        → (elim o as (λ x. Option ℕ) [ None ↦ None | Some n ↦ called_of (mix t a b) u.environment n.system.sort n ])
        ≡ (elim o as (λ x. Option ℕ) [ None ↦ None | Some n ↦ called_of a u.environment n.system.sort n ])
    by None = refl
    by (Some n) = by_sort n.system.sort
      where
        by_sort : (x : Sort) → called_of (mix t a b) u.environment x n ≡ called_of a u.environment x n
        by_sort Class = refl
        by_sort Monitor = ap Some (same u.environment n h)
        by_sort Process = refl
