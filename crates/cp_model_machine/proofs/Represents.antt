-- When a machine is in a state, part by part, given the program, what it represents and the numbers
-- of words, which rounds don't change.
use Rattle.std.specs.Prelude.{◌≡◌, ◌≤◌, ◌-◌, ℕ, List, Some, length, slice_get}
use Rattle.cp_model.specs.Invariant.{Invariant}
use Rattle.cp_model.specs.Parts.{HasNotBegun}
use Rattle.cp_model.specs.States.{Setup, State, process_count}
use Rattle.cp_model_program.specs.Programs.{Program}
use Rattle.cp_model_program.specs.IsProgramFor.{IsProgramFor}
use Rattle.cp_model_machine.specs.Beginning.{Begins}
use Rattle.cp_model_machine.specs.KernelOf.{KernelOf}
use Rattle.cp_model_machine.specs.KernelSteps.{Kernel}
use Rattle.cp_model_machine.specs.Laws.{ground_of}
use Rattle.cp_model_machine.specs.Machines.{Machine, transcript_of}
use Rattle.cp_model_machine.specs.PartOf.{PartOf}
use Rattle.cp_model_machine.specs.PrivateStates.{PrivateState}

-- The private state of `p`, which has `own` words of its own, and the beginning of its transcript.
-- Before the process has begun, it is ready to begin.
pub record PartRepresents (program : Program) (setup : Setup) (F : IsProgramFor program setup) (own p : ℕ) (s : State) (k : Kernel) (before : List ℕ) (o : PrivateState) : Type 0 where
  pub part : PartOf (ground_of program setup F p own) s before o
  pub begins : HasNotBegun (s.status p) → Begins (ground_of program setup F p own) s k o

-- A kernel, private states and transcripts are those of a state with the invariant.
pub record AllRepresent (program : Program) (setup : Setup) (F : IsProgramFor program setup) (own : ℕ → ℕ) (s : State) (k : Kernel) (os : List PrivateState) (ts : List (List ℕ)) : Type 0 where
  pub kernel : KernelOf program F.texts setup s k
  pub part_count : length os ≡ process_count setup
  pub transcript_count : length ts ≡ process_count setup
  pub parts : (p : ℕ) → 1 ≤ p → p ≤ process_count setup → (o : PrivateState) → slice_get os (p - 1) ≡ Some o
      → PartRepresents program setup F (own p) p s k (transcript_of ts p) o
  pub invariant : Invariant s

-- A machine of the program is in a state if everything it holds is that of the state. Process `p`
-- has `own p` words.
pub record IsIn (program : Program) (setup : Setup) (F : IsProgramFor program setup) (own : ℕ → ℕ) (s : State) (m : Machine) : Type 0 where
  pub program_is : m.program ≡ program
  pub tick_is : m.tick ≡ setup.tick
  pub rounds_are : m.rounds ≡ s.rounds
  pub all : AllRepresent program setup F own s m.kernel m.parts m.transcripts
