-- Scopes: what the code of a unit is compiled with, and what names, components and routines are in
-- a scope.
--
-- Units are numbered in text order: the routines of each system type and then its body, with those
-- of the initial process last.
use Rattle.std.specs.Prelude.{Bool, true, false, ℕ, suc, ◌+◌, List, [], ◌∷◌, Option, None, Some, length, if◌then◌else◌}
use Rattle.std.specs.Str.{bytes_eq}
use Rattle.cp_model.specs.Abstract as a
use Rattle.cp_model.specs.Abstract.{Group, Name, Routine, Sort, System, TypeExpression, TypeName}
use Rattle.cp_model.specs.Names.{lookup}
use Rattle.cp_model.specs.Types.{GlobalScope}
use Rattle.cp_model.specs.Declarations.{Variable}
use Rattle.cp_model.specs.Environments.{Environment, Frame}
use Rattle.cp_model.specs.Locations.{Location, Owner}
use Rattle.cp_model.specs.Components.{Component, declared_monitor}
use Rattle.cp_model.specs.Calls.{Callee}
use Rattle.cp_law_typing.specs.Needs.{some_environment}
use Rattle.cp_model_program.specs.Terms as target
use Rattle.cp_model_program.specs.Terms.{Local, Member, Root, Target, Through}
use Rattle.cp_model_program.specs.Layout.{Part, component_words, has_room, local, member, right, routine_fits}

-- ---- Scopes

-- `firsts` has the first unit of each type that was defined before, by its name, and `first` is the
-- first unit of the system type itself. An activation has `words` words.
pub record Scope : Type 0 where
  pub globals : GlobalScope
  pub system : System
  pub routine : Option Routine
  pub firsts : List (Name × ℕ)
  pub first : ℕ
  pub words : ℕ

-- An activation has room, and a component of the system type.
abbrev pub activation_fits : Scope → Bool
activation_fits scope = routine_fits scope.globals scope.routine

abbrev pub component_fits : Scope → Bool
component_fits scope = has_room (component_words scope.globals scope.system)

-- Names mean the same wherever a component and its activation are.
abbrev pub environment : Scope → Environment
environment scope = some_environment scope.globals scope.system scope.routine

abbrev pub frame_at : Owner → Option Routine → Option Frame
frame_at o None = None
frame_at o (Some r) = Some (record { owner = o; routine = r })

-- The environment of a scope for a component at location `at` and an activation of owner `o`.
abbrev pub environment_at : Scope → Location → Owner → Environment
environment_at scope at o =
    record { globals = scope.globals; system = scope.system; component = at; frame = frame_at o scope.routine }

-- ---- Variables

abbrev pub local_in : Scope → Name → Option (ℕ × Variable)
local_in scope x = elim scope.routine [ None ↦ None | Some r ↦ local scope.globals r x ]

abbrev pub root_of_local : ℕ × Variable → Root
root_of_local v = if v.1.by_reference then Through v.0 0 else Local v.0

abbrev pub root_or_member : Option (ℕ × Variable) → Option Part → Option Root
root_or_member (Some v) m = Some (root_of_local v)
root_or_member None (Some p) = Some (Member p.0)
root_or_member None None = None

-- Where the variable of a name begins. The result of a function isn't found by its name here.
abbrev pub root_named : Scope → Name → Option Root
root_named scope x = root_or_member (local_in scope x) (member scope.globals scope.system x)

-- ---- Components

abbrev pub part_start : Option Part → ℕ
part_start None = 0
part_start (Some p) = p.0

abbrev pub right_start : Option (ℕ × Variable) → ℕ
right_start None = 0
right_start (Some v) = v.0

abbrev pub target_by : Environment → Component → Sort → Bool → Target
target_by env n a.Class false = target.Class (part_start (member env.globals env.system n.name))
target_by env n a.Class true = target.ClassRight (right_start (right env.globals env.system n.name))
target_by env n a.Monitor false = target.Monitor (declared_monitor env n)
target_by env n a.Monitor true = target.MonitorRight (right_start (right env.globals env.system n.name))
target_by env n a.Process b = target.Own

abbrev pub target_of : Environment → Option Component → Target
target_of env None = target.Own
target_of env (Some n) = target_by env n n.system.sort n.is_parameter

-- ---- Units

abbrev pub or_zero : Option ℕ → ℕ
or_zero None = 0
or_zero (Some n) = n

abbrev pub type_name : TypeExpression → Name
type_name (TypeName x) = x
type_name _ = []

abbrev pub is_among : Name → List Name → Bool
is_among x [] = false
is_among x (y ∷ ys) = if bytes_eq x y then true else is_among x ys

-- The name of the type that a name is declared with.
abbrev pub declared_type : Name → List Group → Name
declared_type x [] = []
declared_type x (d ∷ ds) = if is_among x d.names then type_name d.type else declared_type x ds

abbrev pub groups_of : Bool → System → List Group
groups_of true s = s.parameters
groups_of false s = s.variables

-- The first unit of a component's system type.
abbrev pub first_of : Scope → Component → ℕ
first_of scope n = or_zero (lookup (declared_type n.name (groups_of n.is_parameter scope.system)) scope.firsts)

-- The number of routines before the one with this name.
abbrev pub routine_index : Name → List Routine → ℕ
routine_index x [] = 0
routine_index x (r ∷ rs) = if bytes_eq x r.name then 0 else suc (routine_index x rs)

abbrev pub unit_of : Scope → Callee → ℕ
unit_of scope c = elim c.of [
  | None ↦ scope.first + routine_index c.routine.name scope.system.routines
  | Some n ↦ first_of scope n + routine_index c.routine.name n.system.routines
]

abbrev pub body_of : Scope → Component → ℕ
body_of scope n = first_of scope n + length n.system.routines
