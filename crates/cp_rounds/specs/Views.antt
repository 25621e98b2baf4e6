-- A whole machine as plain data.
use Rattle.std.specs.Prelude.{◌≡◌, ◌+◌, ◌-◌, ℕ, ℤ, List, [], None, Some, length, slice_get}
use Rattle.cp_model.specs.States.{numbers_from}
use Rattle.cp_model_machine.specs.Machines as plain
use Rattle.cp_rounds.specs.MachineOf.{machine_with}
use Rattle.cp_rounds.specs.declared.finished_machine.FinishedMachine.{FinishedMachine}
use Rattle.cp_rounds.specs.declared.machine.Machine.{Machine}

abbrev pub machine_of : Machine → plain.Machine
machine_of m = machine_with m.config m.rounds m.parts.privates.items m.parts.kernel

abbrev pub finished_machine_of : FinishedMachine → plain.Machine
finished_machine_of m = machine_with m.config m.rounds m.parts.privates.items m.parts.kernel

-- How many processes it has.
abbrev pub processes_of : Machine → ℕ
processes_of m = length m.parts.privates.items

-- The program and the tables of the text stay as they are.
pub record KeepsText (before after : Machine) : Type 0 where
  pub config : after.config ≡ before.config
  pub tables : after.tables ≡ before.tables

-- The machine after n more rounds with turns of at most t steps.
pub record IsAfter (t n : ℕ) (before after : Machine) : Type 0 where
  pub made : machine_of after ≡ plain.phased_rounds t (numbers_from 1 (processes_of before)) n (machine_of before)
  pub processes : processes_of after ≡ processes_of before
  pub rounds : after.rounds ≡ before.rounds + n
  pub text : KeepsText before after

-- ---- What is read of a process. A missing process has no words and has written nothing.

abbrev pub words_of : plain.Machine → ℕ → List ℤ
words_of m p = elim (slice_get m.parts (p - 1)) [ None ↦ [] | Some o ↦ o.words ]

-- The output that isn't in its transcript yet.
abbrev pub output_of : plain.Machine → ℕ → List ℕ
output_of m p = elim (slice_get m.parts (p - 1)) [ None ↦ [] | Some o ↦ o.output ]
