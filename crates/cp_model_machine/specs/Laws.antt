-- The laws of steps, turns and starts, which the functions of `src/law.rt` state.
use Rattle.std.specs.Prelude.{◌≡◌, ◌≢◌, ◌≤◌, ℕ, suc, ◌-◌, ◌%◌, ◌++◌, List, [], Some, length, slice_get, true}
use Rattle.cp_model.specs.Invariant.{Invariant}
use Rattle.cp_model.specs.Operators.{realtime}
use Rattle.cp_model.specs.Rounds.{wake}
use Rattle.cp_model.specs.Start.{start}
use Rattle.cp_model.specs.States.{Setup, State, process_count, running_clock}
use Rattle.cp_model.specs.Turns as meaning
use Rattle.cp_model_program.specs.Programs as code
use Rattle.cp_model_program.specs.Programs.{Program}
use Rattle.cp_model_program.specs.IsProgramFor.{IsProgramFor}
use Rattle.cp_model_machine.specs.PrivateStates.{PrivateState, is_running}
use Rattle.cp_model_machine.specs.Steps.{private_step, private_steps}
use Rattle.cp_model_machine.specs.Addresses.{Ground, OwnWords}
use Rattle.cp_model_machine.specs.PartOf.{PartOf}
use Rattle.cp_model_machine.specs.KernelSteps.{Kernel, Turning, is_begun, joined_step, kernel_step, kernel_steps, stage_of}
use Rattle.cp_model_machine.specs.KernelOf.{KernelOf}
use Rattle.cp_model_machine.specs.Machines.{first_machine, first_part, wake_one}
use Rattle.cp_model_machine.specs.Beginning.{Begins}

abbrev pub ground_of : (program : Program) (setup : Setup) → IsProgramFor program setup → (p own : ℕ) → Ground
ground_of program setup F p own = record {
  program = program;
  texts = F.texts;
  setup = setup;
  p = p;
  own = own;
  sight = OwnWords;
  monitors_lie = tt;
}

-- If `o` is the private state of `p` in a state with the invariant, its private step is the private
-- state of `p` after the meaning's private step, even if neither has one.
abbrev pub PrivateStepIsStep : Type 0
PrivateStepIsStep =
    (program : Program) (setup : Setup) (F : IsProgramFor program setup) (p own : ℕ)
    → (s : State) (before : List ℕ) (o : PrivateState)
    → let G = ground_of program setup F p own in
    Invariant s → PartOf G s before o
    → PartOf G (meaning.private_step setup s p) before (private_step program (realtime (running_clock setup s)) o)

-- What `PrivateStepIsStep` says, for a turn of `n` steps. The turn ends early if the next step
-- isn't private.
abbrev pub PrivateTurnIsTurn : Type 0
PrivateTurnIsTurn =
    (program : Program) (setup : Setup) (F : IsProgramFor program setup) (p own n : ℕ)
    → (s : State) (before : List ℕ) (o : PrivateState)
    → let G = ground_of program setup F p own in
    Invariant s → PartOf G s before o
    → PartOf G (meaning.private_turn setup n s p) before
    (private_steps program (realtime (running_clock setup s)) n o)

-- The first private state of each process is that of the process in the start. Each process but the
-- first is ready to begin there.
abbrev pub StartIsPart : Type 0
StartIsPart =
    (program : Program) (setup : Setup) (F : IsProgramFor program setup) (p : ℕ) (x : code.Process)
    → 1 ≤ p → p ≤ process_count setup → slice_get program.processes (p - 1) ≡ Some x
    → let o = first_part program setup.inputs p x in
    let G = ground_of program setup F p (length o.words) in
    PartOf G (start setup) [] o × ((k : Kernel) → 2 ≤ p → Begins G (start setup) k o)

-- The first kernel is that of the start, whatever the tick and the inputs.
abbrev pub StartIsKernel : Type 0
StartIsKernel =
    (program : Program) (setup : Setup) (F : IsProgramFor program setup) (tick : ℕ) (inputs : ℕ → List ℕ)
    → KernelOf program F.texts setup (start setup) (first_machine program tick inputs).kernel

-- ---- Kernel steps

-- The kernel is that of the state, and the private state is that of `p`, whose turn it is.
pub record TurningOf (program : Program) (setup : Setup) (F : IsProgramFor program setup) (p own : ℕ) (s : State) (before : List ℕ) (x : Turning) : Type 0 where
  pub part : PartOf (ground_of program setup F p own) s before x.own
  pub kernel : KernelOf program F.texts setup s x.kernel

-- If they are so in a state with the invariant, they are so again after the kernel step of the
-- machine and that of the meaning, even if neither has one.
abbrev pub KernelStepIsStep : Type 0
KernelStepIsStep =
    (program : Program) (setup : Setup) (F : IsProgramFor program setup) (p own : ℕ)
    → (s : State) (before : List ℕ) (x : Turning)
    → Invariant s → 1 ≤ p → p ≤ process_count setup → TurningOf program setup F p own s before x
    → TurningOf program setup F p own (meaning.kernel_step setup s p) before
    (kernel_step program (realtime (running_clock setup s)) x)

-- If the process can make a step of any kind, the same holds for that step, with the words of all
-- monitors in reach. The invariant holds again.
abbrev pub JoinedStepIsStep : Type 0
JoinedStepIsStep =
    (program : Program) (setup : Setup) (F : IsProgramFor program setup) (p own : ℕ)
    → (s : State) (before : List ℕ) (x : Turning)
    → Invariant s → 1 ≤ p → p ≤ process_count setup → TurningOf program setup F p own s before x
    → is_running x.own.activity ≡ true → is_begun (stage_of x.kernel.stages x.own.number) ≡ true
    → TurningOf program setup F p own (meaning.step setup s p) before
    (joined_step program (realtime (running_clock setup s)) x)
    × Invariant (meaning.step setup s p)

-- What `KernelStepIsStep` says, for a turn.
abbrev pub KernelTurnIsTurn : Type 0
KernelTurnIsTurn =
    (program : Program) (setup : Setup) (F : IsProgramFor program setup) (p own n : ℕ)
    → (s : State) (before : List ℕ) (x : Turning)
    → Invariant s → 1 ≤ p → p ≤ process_count setup → TurningOf program setup F p own s before x
    → TurningOf program setup F p own (meaning.kernel_turn setup n s p) before
    (kernel_steps program (realtime (running_clock setup s)) n x)

-- ---- What a turn keeps of the others

-- A kernel turn of `p` keeps the private state of another process right.
abbrev pub KernelTurnKeepsParts : Type 0
KernelTurnKeepsParts =
    (program : Program) (setup : Setup) (F : IsProgramFor program setup) (p own q others n : ℕ)
    → (s : State) (before : List ℕ) (x : Turning) (past : List ℕ) (o : PrivateState)
    → p ≢ q → Invariant s → 1 ≤ p → p ≤ process_count setup → TurningOf program setup F p own s before x
    → let G = ground_of program setup F q others in
    PartOf G s past o → PartOf G (meaning.kernel_turn setup n s p) past o

-- After a kernel turn of `p`, another process that hadn't begun is still ready to begin, started or
-- not.
abbrev pub KernelTurnKeepsBegins : Type 0
KernelTurnKeepsBegins =
    (program : Program) (setup : Setup) (F : IsProgramFor program setup) (p own q others n : ℕ)
    → (s : State) (before : List ℕ) (x : Turning) (past : List ℕ) (o : PrivateState)
    → p ≢ q → Invariant s → 1 ≤ p → p ≤ process_count setup → 1 ≤ q → q ≤ process_count setup
    → TurningOf program setup F p own s before x
    → let G = ground_of program setup F q others in
    PartOf G s past o → Begins G s x.kernel o
    → Begins G (meaning.kernel_turn setup n s p) (kernel_steps program (realtime (running_clock setup s)) n x).kernel o

-- A private turn of `p` keeps the private state of another process right.
abbrev pub PrivateTurnKeepsParts : Type 0
PrivateTurnKeepsParts =
    (program : Program) (setup : Setup) (F : IsProgramFor program setup) (p q others n : ℕ)
    → (s : State) (past : List ℕ) (o : PrivateState)
    → p ≢ q → Invariant s
    → let G = ground_of program setup F q others in
    PartOf G s past o → PartOf G (meaning.private_turn setup n s p) past o

-- A private turn also keeps the kernel right.
abbrev pub PrivateTurnKeepsKernel : Type 0
PrivateTurnKeepsKernel =
    (program : Program) (setup : Setup) (F : IsProgramFor program setup) (p n : ℕ) (s : State) (k : Kernel)
    → Invariant s → KernelOf program F.texts setup s k → KernelOf program F.texts setup (meaning.private_turn setup n s p) k

-- ---- Between turns

-- What a process wrote can move from its private state to its transcript.
abbrev pub OutputMoves : Type 0
OutputMoves =
    (program : Program) (setup : Setup) (F : IsProgramFor program setup) (p own : ℕ)
    → (s : State) (before : List ℕ) (o : PrivateState)
    → let G = ground_of program setup F p own in
    PartOf G s before o → PartOf G s (before ++ o.output) (record o { output = [] })

-- In a round whose number is a multiple of the tick, a process that waits wakes.
abbrev pub WakingIsWaking : Type 0
WakingIsWaking =
    (program : Program) (setup : Setup) (F : IsProgramFor program setup) (p own : ℕ)
    → (s : State) (before : List ℕ) (o : PrivateState)
    → let G = ground_of program setup F p own in
    suc s.rounds % setup.tick ≡ 0 → PartOf G s before o → PartOf G (wake setup s) before (wake_one o)
