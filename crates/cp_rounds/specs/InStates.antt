-- What the calls of a machine make of the states of the meaning that the machine is in.
use Rattle.std.specs.Prelude.{◌≡◌, ◌≤◌, ℕ, List, length}
use Rattle.cp_model_program.specs.Programs.{Program}
use Rattle.cp_model_program.specs.IsProgramFor.{IsProgramFor}
use Rattle.cp_kernel.specs.KernelOf.{Bytes}
use Rattle.cp_model.specs.Orders.{IsLawful}
use Rattle.cp_model.specs.Rounds.{Event, phased_round, replay_round, run, sequential_round}
use Rattle.cp_model.specs.Start.{start}
use Rattle.cp_model.specs.States.{Setup, State, processes}
use Rattle.cp_model_machine.specs.InState.{IsIn}
use Rattle.cp_rounds_handoff.specs.Inputs.{input_of}
use Rattle.cp_rounds.specs.Views.{machine_of}
use Rattle.cp_rounds.specs.declared.machine.Machine.{Machine}

-- The processes of the program have these inputs.
abbrev pub HaveInputs : Program → List Bytes → Setup → Type 0
HaveInputs program inputs setup = (p : ℕ) → 1 ≤ p → p ≤ length program.processes → input_of inputs p ≡ setup.inputs p

-- It is in the start state of each text that the program represents.
abbrev pub IsStarted : Program → ℕ → List Bytes → Machine → Type 0
IsStarted program tick inputs m =
    (setup : Setup) → IsProgramFor program setup → setup.tick ≡ tick → HaveInputs program inputs setup → IsIn (machine_of m) setup (start setup)

-- Whatever state it was in, it is now in the state that a phased round with turns of t steps leads
-- to.
abbrev pub MakesRound : ℕ → Machine → Machine → Type 0
MakesRound t old new = (setup : Setup) (s : State) → IsIn (machine_of old) setup s → IsIn (machine_of new) setup (phased_round setup t s)

-- Whatever state it was in, it is now in the state that one processor reaches by n rounds.
abbrev pub MakesRounds : ℕ → ℕ → Machine → Machine → Type 0
MakesRounds t n old new = (setup : Setup) (s : State) → IsIn (machine_of old) setup s → IsIn (machine_of new) setup (run setup t n s)

-- Whatever state it was in, it is now in the state that these events lead to, with kernel turns of
-- at most t steps. If their order is lawful, that is the state that one processor reaches by one
-- round.
pub record MakesReplay (t : ℕ) (events : List Event) (old new : Machine) : Type 0 where
  pub replay : (setup : Setup) (s : State) → IsIn (machine_of old) setup s → IsIn (machine_of new) setup (replay_round setup t s events)
  pub lawful : (setup : Setup) (s : State) → IsLawful t (processes setup) events → IsIn (machine_of old) setup s
      → IsIn (machine_of new) setup (sequential_round setup t s)
