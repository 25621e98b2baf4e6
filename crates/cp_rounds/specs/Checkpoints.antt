-- Copies of what rounds change of a machine.
use Rattle.std.specs.Prelude.{◌≡◌, length}
use Rattle.cp_rounds.specs.MachineOf.{machine_with}
use Rattle.cp_rounds.specs.Views.{machine_of, processes_of}
use Rattle.cp_rounds.specs.declared.checkpoint.Checkpoint.{Checkpoint}
use Rattle.cp_rounds.specs.declared.machine.Machine.{Machine}

-- With the program and the inputs of this machine, the copy is the machine as it is.
pub record IsCopyOf (m : Machine) (copy : Checkpoint) : Type 0 where
  pub machine : machine_with m.config copy.rounds copy.parts.privates.items copy.parts.kernel ≡ machine_of m
  pub processes : length copy.parts.privates.items ≡ processes_of m
  pub rounds : copy.rounds ≡ m.rounds
