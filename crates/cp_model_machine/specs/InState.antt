-- When a machine, as plain data, is in a state of the system.
use Rattle.std.specs.Prelude.{◌≡◌, ◌≤◌, ◌-◌, ℕ, Some, length, slice_get}
use Rattle.cp_model.specs.Configurations.{Fresh}
use Rattle.cp_model.specs.Parts.{HasNotBegun}
use Rattle.cp_model.specs.States.{Setup, State, process_count}
use Rattle.cp_law_gates.specs.InOrder.{InOrder, world}
use Rattle.cp_model_program.specs.IsProgramFor.{IsProgramFor}
use Rattle.cp_model_machine.specs.Beginning.{Begins}
use Rattle.cp_model_machine.specs.KernelOf.{KernelOf}
use Rattle.cp_model_machine.specs.Laws.{ground_of}
use Rattle.cp_model_machine.specs.Machines.{Machine, transcript_of}
use Rattle.cp_model_machine.specs.PartOf.{PartOf}
use Rattle.cp_model_machine.specs.PrivateStates.{PrivateState}

-- `o` is the private state of process `p`, and it is ready to begin if `p` hasn't begun.
pub record PartRepresents (m : Machine) (setup : Setup) (F : IsProgramFor m.program setup) (s : State) (p : ℕ) (o : PrivateState) : Type 0 where
  pub part : PartOf (ground_of m.program setup F p (length o.words)) s (transcript_of m.transcripts p) o
  pub begins : HasNotBegun (s.status p) → Begins (ground_of m.program setup F p (length o.words)) s m.kernel o

-- All that the machine holds is that of the state. The state has the invariant, and its gates are in
-- order, by the places of the monitors' types in the text.
pub record IsIn (m : Machine) (setup : Setup) (s : State) : Type 0 where
  pub represents : IsProgramFor m.program setup
  pub tick : m.tick ≡ setup.tick
  pub rounds : m.rounds ≡ s.rounds
  pub part_count : length m.parts ≡ process_count setup
  pub transcript_count : length m.transcripts ≡ process_count setup
  pub parts : (p : ℕ) (o : PrivateState) → 1 ≤ p → slice_get m.parts (p - 1) ≡ Some o → PartRepresents m setup represents s p o
  pub kernel : KernelOf m.program represents.texts setup s m.kernel
  pub order : InOrder (world setup) s

-- Between rounds, each process that has been started has begun.
abbrev pub NoneFresh : State → Type 0
NoneFresh s = (p : ℕ) → s.status p ≡ Fresh → ⊥
