-- Start values: what the store holds at the start, at the leaves of the variables of the initial
-- process, and of each process and monitor.
use Rattle.std.specs.Prelude.{◌≡◌, ◌⊎◌, false, List, [], ◌∷◌}
use Rattle.cp_model.specs.Abstract.{Monitor, Name, Process, System}
use Rattle.cp_model.specs.Types.{ComponentOf, Members}
use Rattle.cp_model.specs.Declarations.{Variable}
use Rattle.cp_model.specs.Locations.{ByName, Location, Path, under}
use Rattle.cp_model.specs.Stores.{Value}
use Rattle.cp_model.specs.Leaves.{Leaf, leaves, leaves_of_members}
use Rattle.cp_model.specs.Components.{Component, declared_monitor, monitor_location, process_location, process_number}
use Rattle.cp_model.specs.States.{Setup, initial_variables}
use Rattle.cp_model.specs.Start.{initial_environment, start}

abbrev pub IsIn : {A : Type 0} → A → List A → Type 0
IsIn x [] = ⊥
IsIn x (y ∷ ys) = (x ≡ y) ⊎ IsIn x ys

-- all leaves at this location have their start values
abbrev pub StartsAt : Setup → Location → List Leaf → Type 0
StartsAt setup at ls = (path : Path) (v : Value) → IsIn (path, v) ls → (start setup).store (under at path) ≡ v

-- the component that a variable of the initial process declares
abbrev pub declared_component : Name → System → Component
declared_component x s = record { name = x; system = s; is_parameter = false }

pub record ComponentStarts (setup : Setup) (x : Name) (s : System) (inner : Members) : Type 0 where
  pub process : s.sort ≡ Process
      → StartsAt setup (process_location (process_number (initial_environment setup) (declared_component x s))) (leaves_of_members inner)
  pub monitor : s.sort ≡ Monitor
      → StartsAt setup (monitor_location (declared_monitor (initial_environment setup) (declared_component x s))) (leaves_of_members inner)

pub record VariablesStart (setup : Setup) : Type 0 where
  pub initial : (x : Name) (v : Variable) → IsIn (x, v) (initial_variables setup)
      → StartsAt setup (under (process_location 1) (ByName x ∷ [])) (leaves v.type)
  pub components : (x : Name) (v : Variable) (s : System) (inner : Members) → IsIn (x, v) (initial_variables setup)
      → v.type ≡ ComponentOf s inner → ComponentStarts setup x s inner
