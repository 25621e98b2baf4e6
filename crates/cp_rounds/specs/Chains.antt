-- What the chain of askers of a machine is in the states that the machine is in.
use Rattle.std.specs.Prelude.{List, ℕ}
use Rattle.cp_model.specs.States.{Setup, State, monitor_count}
use Rattle.cp_model_machine.specs.Chains.{IsChainOf}
use Rattle.cp_model_machine.specs.InState.{IsIn}
use Rattle.cp_rounds.specs.Views.{machine_of}
use Rattle.cp_rounds.specs.declared.machine.Machine.{Machine}

-- In each of these states they are the asking chain from process `p`. It has no process twice and at
-- most one more than there are monitors, and its last process asks for no gate.
abbrev pub ShowsChain : Machine → ℕ → List ℕ → Type 0
ShowsChain m p ps = (setup : Setup) (s : State) → IsIn (machine_of m) setup s → IsChainOf (monitor_count setup) s p ps
