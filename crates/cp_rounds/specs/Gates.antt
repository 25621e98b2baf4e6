-- The gates of monitors, as the states of a machine have them.
use Rattle.std.specs.Prelude.{◌≡◌, ℕ, List}
use Rattle.cp_model.specs.States.{Holder, Setup, State}
use Rattle.cp_model_machine.specs.InState.{IsIn}
use Rattle.cp_rounds.specs.Views.{machine_of}
use Rattle.cp_rounds.specs.declared.machine.Machine.{Machine}

-- In each state that the machine is in, this is the holder of the gate of monitor m.
abbrev pub ShowsHolder : Machine → ℕ → Holder → Type 0
ShowsHolder m k holder = (setup : Setup) (s : State) → IsIn (machine_of m) setup s → (s.gates k).holder ≡ holder

-- In each state that the machine is in, these are its askers, in the order in which they asked.
abbrev pub ShowsAskers : Machine → ℕ → List ℕ → Type 0
ShowsAskers m k askers = (setup : Setup) (s : State) → IsIn (machine_of m) setup s → (s.gates k).askers ≡ askers
