-- The values of variables, as a machine and as the meaning have them.
use Rattle.std.specs.Prelude.{◌≡◌, ◌≤◌, ◌+◌, ℕ, ℤ, [], Some}
use Rattle.cp_model.specs.Configurations.{Fresh}
use Rattle.cp_model.specs.Locations.{Location, OfMonitor, OfProcess, Path}
use Rattle.cp_model.specs.States.{Setup, State, process_count}
use Rattle.cp_model.specs.Stores as store
use Rattle.cp_model.specs.Types.{Queue, ResolvedType, Simple}
use Rattle.cp_model_program.specs.Programs.{Program}
use Rattle.cp_model_program.specs.IsProgramFor.{IsProgramFor}
use Rattle.cp_model_program.specs.Starts.{word}
use Rattle.cp_model_machine.specs.Addresses.{lies}
use Rattle.cp_model_machine.specs.InState.{IsIn}
use Rattle.cp_model_machine.specs.KernelOf.{kernel_ground}
use Rattle.cp_model_machine.specs.Laws.{ground_of}
use Rattle.cp_model_machine.specs.Machines as plain
use Rattle.cp_model_machine.specs.Passing.{monitor_start}
use Rattle.cp_inspect.specs.Values.{value_in}
use Rattle.cp_rounds.specs.Views.{machine_of, words_of}
use Rattle.cp_rounds.specs.declared.machine.Machine.{Machine}
use Rattle.cp_inspect.specs.declared.place.Kind.{Kind}
use Rattle.cp_inspect.specs.declared.place.Kind.TheVariants as kind
use Rattle.cp_inspect.specs.declared.place.Owner.{Owner}
use Rattle.cp_inspect.specs.declared.place.Owner.TheVariants as owner
use Rattle.cp_inspect.specs.declared.place.Place.{Place}
use Rattle.cp_inspect.specs.declared.place.Value.{Value}
use Rattle.cp_inspect.specs.declared.place.Value.TheVariants as value

-- The word at an address among those of its owner. A missing word reads as 0.
abbrev pub word_of : plain.Machine → Owner → ℕ → ℤ
word_of m (owner.Process p) at = word (words_of m p) at
word_of m (owner.Monitor k) at = word m.kernel.shared (monitor_start m.program k + at)

abbrev pub value_at : plain.Machine → Place → Value
value_at m place = value_in place.kind (word_of m place.owner place.at)

-- ---- In the meaning

-- The value of a variable of this type.
abbrev pub IsValue : ResolvedType → Value → store.Value → Type 0
IsValue (Simple b low high start) (value.Ordinal n) v = v ≡ store.Ordinal n
IsValue Queue (value.Queue p) v = v ≡ store.QueueHolds p
IsValue t _ v = ⊥

-- A word of this kind holds variables of this type.
abbrev pub IsKindOf : Kind → ResolvedType → Type 0
IsKindOf kind.Simple (Simple b low high start) = Unit {0}
IsKindOf kind.Queue Queue = Unit {0}
IsKindOf _ t = ⊥

abbrev pub location_of : Owner → Path → Location
location_of (owner.Process p) path = record { owner = OfProcess p; path = path }
location_of (owner.Monitor k) path = record { owner = OfMonitor k; path = path }

-- The variable of the owner with this path and this type is at an address among its words.
abbrev pub LiesAt : (program : Program) (setup : Setup) → IsProgramFor program setup → Owner → ℕ → Path → ResolvedType → Type 0
LiesAt program setup F (owner.Process p) at path t = lies (ground_of program setup F p 0) [] (location_of (owner.Process p) path) ≡ Some (at, t)
LiesAt program setup F (owner.Monitor k) at path t =
    lies (kernel_ground program F.texts setup) [] (location_of (owner.Monitor k) path) ≡ Some (monitor_start program k + at, t)

-- The owner is one of the text. A process that was started in the running round has no variables
-- before the round ends.
abbrev pub IsOwner : Setup → State → Owner → Type 0
IsOwner setup s (owner.Process p) = (1 ≤ p) × (p ≤ process_count setup) × (s.status p ≡ Fresh → ⊥)
IsOwner setup s (owner.Monitor k) = Unit {0}

-- In each state that the machine is in, each variable that is at the place has this value.
pub record ShowsValue (m : Machine) (place : Place) (v : Value) : Type 0 where
  pub shows : (setup : Setup) (s : State) (I : IsIn (machine_of m) setup s) (path : Path) (t : ResolvedType) → IsOwner setup s place.owner → IsKindOf place.kind t
      → LiesAt (machine_of m).program setup I.represents place.owner place.at path t → IsValue t v (s.store (location_of place.owner path))
