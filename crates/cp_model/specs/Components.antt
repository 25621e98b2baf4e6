-- Components: which component a name means, where it is, and what number it has.
use Rattle.std.specs.Prelude.{Bool, List, None, Option, Some, [], false, if◌then◌else◌, suc, true, ℕ, ◌+◌, ◌∷◌}
use Rattle.std.specs.Option.{option_or}
use Rattle.cp_model.specs.Abstract.{Class, Monitor, Name, Process, Sort, System}
use Rattle.cp_model.specs.Names.{lookup}
use Rattle.std.specs.Str.{bytes_eq}
use Rattle.cp_model.specs.Types.{ComponentOf, ResolvedType}
use Rattle.cp_model.specs.Declarations.{Variable, declarations}
use Rattle.cp_model.specs.Locations.{ByName, Location, OfMonitor, OfProcess, root, under}
use Rattle.cp_model.specs.Stores.{ClassRight, MonitorRight, Store, Value}
use Rattle.cp_model.specs.Environments.{Environment}

abbrev pub same_sort : Sort → Sort → Bool
same_sort Process Process = true
same_sort Monitor Monitor = true
same_sort Class Class = true
same_sort _ _ = false

abbrev pub is_component_of : Sort → ResolvedType → Bool
is_component_of s (ComponentOf sys inner) = same_sort s sys.sort
is_component_of s _ = false

-- A component that a variable or parameter of the running component names.
pub record Component : Type 0 where
  pub name : Name
  pub system : System
  pub is_parameter : Bool

abbrev pub as_component : Name → Bool → Option Variable → Option Component
as_component x p (Some v) =
    elim v.type [ ComponentOf s inner ↦ Some (record { name = x; system = s; is_parameter = p }) | _ ↦ None ]
as_component x p None = None

abbrev pub component_named : Environment → Name → Option Component
component_named env x =
    option_or (as_component x true (lookup x (declarations env.globals env.system.parameters)))
    (as_component x false (lookup x (declarations env.globals env.system.variables)))

-- ---- Where it is

-- The location of a component's name: its variable, or the parameter that holds a right to it.
abbrev pub name_location : Environment → Component → Location
name_location env n = under env.component (ByName n.name ∷ [])

abbrev pub class_or_here : Location → Value → Location
class_or_here l (ClassRight k) = k
class_or_here l _ = l

-- A class is at its variable, or where the right to it points.
abbrev pub class_location : Environment → Store → Component → Location
class_location env store n =
    let at = name_location env n in
    if n.is_parameter then class_or_here at (store at) else at

abbrev pub process_location : ℕ → Location
process_location p = root (OfProcess p)

abbrev pub monitor_location : ℕ → Location
monitor_location m = root (OfMonitor m)

-- ---- Numbers

-- The number of components of a sort that are declared before a name.
abbrev pub count_before : Sort → Name → List (Name × Variable) → ℕ
count_before s x [] = 0
count_before s x (v ∷ vs) =
    if bytes_eq x v.0 then 0
    else if is_component_of s v.1.type then suc (count_before s x vs)
    else count_before s x vs

abbrev pub monitor_right : Value → ℕ
monitor_right (MonitorRight m) = m
monitor_right _ = 0

-- Monitors are numbered from 1 in order of declaration.
abbrev pub declared_monitor : Environment → Component → ℕ
declared_monitor env n = 1 + count_before Monitor n.name (declarations env.globals env.system.variables)

abbrev pub monitor_number : Environment → Store → Component → ℕ
monitor_number env store n = if n.is_parameter then monitor_right (store (name_location env n)) else declared_monitor env n

-- Processes are numbered from 2 in order of declaration: 1 is the initial process.
abbrev pub process_number : Environment → Component → ℕ
process_number env n = 2 + count_before Process n.name (declarations env.globals env.system.variables)
