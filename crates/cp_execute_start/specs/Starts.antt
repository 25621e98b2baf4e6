-- The system of a text and of what its processes read, and the state in which it starts.
use Rattle.std.specs.Prelude.{ℕ, List, []}
use Rattle.cp_model.specs.Erase as erase
use Rattle.cp_model.specs.Start.{start}
use Rattle.cp_model.specs.States.{Setup}
use Rattle.cp_model.specs.Syntax as s
use Rattle.cp_model_machine.specs.InState.{IsIn}
use Rattle.cp_rounds.specs.Views.{machine_of}
use Rattle.cp_rounds.specs.declared.machine.Machine.{Machine}

-- Each process reads nothing.
abbrev pub nothing_read : ℕ → List ℕ
nothing_read p = []

-- The system in which each process reads its input.
abbrev pub setup_of : s.Tree → (ℕ → List ℕ) → ℕ → Setup
setup_of t inputs tick = record { tree = erase.abstract t; inputs = inputs; tick = tick }

-- The machine is in the state in which the system starts.
abbrev pub IsAtStart : Setup → Machine → Type 0
IsAtStart setup machine = IsIn (machine_of machine) setup (start setup)
