-- The part of the invariant that speaks of what processes have left to do and of the rights in
-- monitors: how statements keep to the order of monitors.
use Rattle.std.specs.Prelude.{Bool, List, None, Option, Some, [], false, not, slice_get, true, ℕ, codes, ◌&&◌, ◌<◌, ◌≡◌, ◌≤◌, ◌∷◌, ◌⊎◌}
use Rattle.std.specs.Str.{bytes_eq}
use Rattle.cp_model.specs.Abstract.{Arms, Assign, At, Case, Class, Cycle, Designator, Expression, Expressions, For, If, Init, Monitor, MoreArms, MoreExpressions, Name, NoArm, NoExpression, Nothing, Part, Perform, Plain, Process, Repeat, Seq, Sort, Statement, System, Use, While}
use Rattle.cp_model.specs.Types.{GlobalScope}
use Rattle.cp_model.specs.Declarations.{declarations, globals}
use Rattle.cp_model.specs.Locations.{Location, OfActivation, OfMonitor, OfProcess, Owner}
use Rattle.cp_model.specs.Stores.{MonitorRight, Store}
use Rattle.cp_model.specs.Environments.{Environment, Frame, IsVariable, Meaning, meaning}
use Rattle.cp_model.specs.Expressions.{name_of}
use Rattle.cp_model.specs.Continuations.{Do, EndBody, EndCall, EndProcess, ForNext, RepeatTest, Task, WhileTest, marked_monitors}
use Rattle.cp_model.specs.Components.{Component, component_named, declared_monitor, process_location}
use Rattle.cp_model.specs.Calls.{callee}
use Rattle.cp_model.specs.States.{Setup, State, monitor_count}
use Rattle.cp_model.specs.Invariant.{Invariant}
use Rattle.cp_law_typing.specs.WellTyped.{text_systems}
use Rattle.cp_law_typing.specs.PassedRights.{AllPassEarlier}
use Rattle.cp_law_typing.specs.TypePlaces.{type_place}
use Rattle.cp_law_gates.specs.Gates.{Gates, IsInnermost}

-- What the order of a text is: its scope, its initial process and its system types, the place of
-- each monitor, and the number of monitors.
pub record World : Type 1 where
  pub globals : GlobalScope
  pub initial : System
  pub IsInner : System → Type 0
  pub place : ℕ → ℕ
  pub monitors : ℕ

-- ---- Environments

-- In the monitor itself and its classes its gate is the innermost one, elsewhere no gate is held.
abbrev pub OwnerFits : Owner → List ℕ → Type 0
OwnerFits (OfProcess p) ms = ms ≡ []
OwnerFits (OfMonitor m) ms = IsInnermost m ms
OwnerFits (OfActivation p d) ms = ⊥

-- Where a component of a sort may be.
abbrev pub SortFits : Sort → Owner → Type 0
SortFits Process (OfProcess p) = Unit {0}
SortFits Process _ = ⊥
SortFits Monitor (OfMonitor m) = Unit {0}
SortFits Monitor _ = ⊥
SortFits Class _ = Unit {0}

-- The environment of the initial process, or of a system type of the text.
abbrev pub IsOutermost : World → Environment → Type 0
IsOutermost w env = (env.system ≡ w.initial) × (env.component ≡ process_location 1)

pub record Here (w : World) (env : Environment) : Type 0 where
  pub scope : env.globals ≡ w.globals
  pub sort : SortFits env.system.sort env.component.owner
  pub kind : IsOutermost w env ⊎ w.IsInner env.system

-- ---- Statements

-- Only the initial process initialises monitors and processes, and a monitor gets rights to
-- monitors of earlier types.
abbrev pub InitFits : Sort → World → Environment → Component → Expressions → Type 0
InitFits Class w env c es = Unit {0}
InitFits Process w env c es = Unit {0}
InitFits Monitor w env c es =
    IsOutermost w env × (1 ≤ declared_monitor env c) × (declared_monitor env c ≤ w.monitors)
    × AllPassEarlier w.place env (w.place (declared_monitor env c)) (declarations env.globals c.system.parameters) es

abbrev pub InitOf : World → Environment → Option Component → Expressions → Type 0
InitOf w env None es = Unit {0}
InitOf w env (Some c) es = (c.is_parameter ≡ false) × InitFits c.system.sort w env c es

abbrev pub first_name : Designator → Name
first_name (Plain x) = x
first_name (Part d x) = first_name d
first_name (At d e) = first_name d

-- The name means a variable of the component itself.
abbrev pub OwnVariable : Environment → Meaning → Type 0
OwnVariable env (IsVariable at v) = (at.owner ≡ env.component.owner) × (v.by_reference ≡ false)
OwnVariable env _ = Unit {0}

abbrev pub OwnQueue : Environment → Expression → Type 0
OwnQueue env (Use d) = (callee env d ≡ None) × OwnVariable env (meaning env (first_name d))
OwnQueue env _ = ⊥

abbrev pub HasFrame : Option Frame → Type 0
HasFrame None = ⊥
HasFrame (Some f) = Unit {0}

abbrev pub is_of_queues : Name → Bool
is_of_queues x = not (bytes_eq x (codes "display")) && not (bytes_eq x (codes "accept"))

-- `wait` is in processes, `delay` and `continue` in routines of monitors, with a queue of the
-- monitor itself.
abbrev pub StandardFits : Environment → Designator → Expressions → Type 0
StandardFits env d NoExpression = env.system.sort ≡ Process
StandardFits env d (MoreExpressions e es) =
    is_of_queues (name_of d) ≡ true → (env.system.sort ≡ Monitor) × HasFrame env.frame × OwnQueue env e

abbrev mutual
  pub Keeps : World → Environment → Statement → Type 0
  Keeps w env (Seq a b) = Keeps w env a × Keeps w env b
  Keeps w env (If e a b) = Keeps w env a × Keeps w env b
  Keeps w env (Case e arms) = ArmsKeep w env arms
  Keeps w env (While e s) = Keeps w env s
  Keeps w env (Repeat s e) = Keeps w env s
  Keeps w env (For v down a b s) = Keeps w env s
  Keeps w env (Cycle s) = Keeps w env s
  Keeps w env (Perform d es) = callee env d ≡ None → StandardFits env d es
  Keeps w env (Init x es) = (env.frame ≡ None) × InitOf w env (component_named env x) es
  Keeps w env Nothing = Unit {0}
  Keeps w env (Assign d e) = Unit {0}

  pub ArmsKeep : World → Environment → Arms → Type 0
  ArmsKeep w env NoArm = Unit {0}
  ArmsKeep w env (MoreArms ls s rest) = Keeps w env s × ArmsKeep w env rest

-- ---- Tasks

-- The next end mark is that of a routine.
abbrev pub CallEndsNext : List Task → Type 0
CallEndsNext [] = ⊥
CallEndsNext (EndCall env gate ∷ k) = Unit {0}
CallEndsNext (EndBody gate ∷ k) = ⊥
CallEndsNext (EndProcess ∷ k) = ⊥
CallEndsNext (_ ∷ k) = CallEndsNext k

abbrev pub FrameFits : Option Frame → List Task → Type 0
FrameFits None k = Unit {0}
FrameFits (Some f) k = CallEndsNext k

-- A statement of this environment may be before these tasks.
pub record Fits (w : World) (env : Environment) (k : List Task) : Type 0 where
  pub here : Here w env
  pub owner : OwnerFits env.component.owner (marked_monitors k)
  pub frame : FrameFits env.frame k

abbrev pub TaskFits : World → Task → List Task → Type 0
TaskFits w (Do s env) k = Fits w env k × Keeps w env s
TaskFits w (WhileTest now e s env) k = Fits w env k × Keeps w env s
TaskFits w (RepeatTest now s e env) k = Fits w env k × Keeps w env s
TaskFits w (ForNext v down n last s env) k = Fits w env k × Keeps w env s
TaskFits w (EndCall env gate) k = HasFrame env.frame
TaskFits w (EndBody gate) k = Unit {0}
TaskFits w EndProcess k = Unit {0}

abbrev pub AllFit : World → List Task → Type 0
AllFit w [] = Unit {0}
AllFit w (i ∷ k) = TaskFits w i k × AllFit w k

-- ---- Rights

-- A monitor has rights only to monitors of earlier types.
abbrev pub RightsDescend : (ℕ → ℕ) → Store → Type 0
RightsDescend place store =
    (l : Location) (m n : ℕ) → l.owner ≡ OfMonitor m → store l ≡ MonitorRight n → place n < place m

-- ---- Texts

-- What a text has to keep for its gates to be in order, whatever happens.
pub record IsOrdered (w : World) : Type 0 where
  -- Monitor 0, which doesn't exist, is before all others.
  pub zero_first : (m : ℕ) → 1 ≤ m → m ≤ w.monitors → w.place 0 < w.place m
  pub initial_bare : (env : Environment) (x : Name) (c : Component) → env.globals ≡ w.globals → env.system ≡ w.initial → component_named env x ≡ Some c
      → (c.is_parameter ≡ false) × w.IsInner c.system
  pub inner_components : (env : Environment) (x : Name) (c : Component) → env.globals ≡ w.globals → w.IsInner env.system → component_named env x ≡ Some c
      → (c.is_parameter ≡ false → c.system.sort ≡ Class) × w.IsInner c.system
  pub initial_sort : w.initial.sort ≡ Process
  pub bodies : (env : Environment) → Here w env → env.frame ≡ None → Keeps w env env.system.body
  pub routines : (env : Environment) (f : Frame) (k : ℕ) → Here w env → slice_get env.system.routines k ≡ Some f.routine → env.frame ≡ Some f → Keeps w env f.routine.body

-- ---- States

pub record InOrder (w : World) (s : State) : Type 0 where
  pub invariant : Invariant s
  pub gates : Gates w.place w.monitors s
  pub fits : (p : ℕ) → AllFit w (s.continuation p)
  pub rights : RightsDescend w.place s.store

-- The order by the places of the monitors' types among the definitions.
abbrev pub world : Setup → World
world setup = record {
  globals = globals setup.tree;
  initial = setup.tree.initial;
  IsInner = λ s. (i : ℕ) × (slice_get (text_systems setup) i ≡ Some s);
  place = type_place setup;
  monitors = monitor_count setup;
}
