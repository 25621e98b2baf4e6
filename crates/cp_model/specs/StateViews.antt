-- The numbers of faults.
use Rattle.std.specs.Prelude.{ℕ}
use Rattle.cp_model.specs.declared.state.Fault.{Fault}
use Rattle.cp_model.specs.declared.state.Fault.TheVariants as fault

abbrev pub fault_number : Fault → ℕ
fault_number fault.Range = 1
fault_number fault.Index = 2
fault_number fault.Overflow = 3
fault_number fault.DivisionByZero = 4
fault_number fault.QueueTaken = 5
fault_number fault.NotInitialised = 6
fault_number fault.InitialisedTwice = 7
fault_number fault.NoLabel = 8
fault_number fault.NoResult = 9
