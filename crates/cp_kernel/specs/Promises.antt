-- What kernel turns, the start and the end of a round promise for each state of which a kernel and
-- private states are the parts.
use Rattle.std.specs.Prelude.{◌≡◌, ◌≤◌, ℕ, suc, List, length}
use Rattle.cp_model.specs.Invariant.{Invariant}
use Rattle.cp_model.specs.Operators.{realtime}
use Rattle.cp_model.specs.Rounds.{close_round}
use Rattle.cp_model.specs.Start.{start}
use Rattle.cp_model.specs.States.{Setup, State, process_count, running_clock}
use Rattle.cp_model.specs.Turns as meaning
use Rattle.cp_model_program.specs.IsProgramFor.{IsProgramFor}
use Rattle.cp_model_machine.specs.InState.{IsIn}
use Rattle.cp_model_machine.specs.KernelOf.{KernelOf}
use Rattle.cp_model_machine.specs.Laws.{TurningOf}
use Rattle.cp_model_machine.specs.Machines as plain
use Rattle.cp_model_machine.specs.Machines.{transcript_of}
use Rattle.cp_private.specs.declared.private.Private.{Private}
use Rattle.cp_program.specs.declared.program.Program.{Program}
use Rattle.cp_program.specs.View as view
use Rattle.cp_kernel.specs.declared.kernel.Kernel.{Kernel}
use Rattle.cp_kernel.specs.KernelOf.{kernel_of, transcripts_of, turning}
use Rattle.cp_kernel.specs.Turns.{parts_of}

-- For every state of which the kernel and the private state are the parts: they are those of the
-- state after the meaning's kernel turn, and what was written is in the transcript. The invariant of
-- references and rights holds again.
abbrev pub MakesKernelTurn : Program → ℕ → Kernel → Private → Kernel → Private → List ℕ → ℕ → Type 0
MakesKernelTurn program n k x after y input clock =
    (setup : Setup) (F : IsProgramFor (view.program program) setup) (p own : ℕ) (s : State)
    → Invariant s → clock ≡ realtime (running_clock setup s) → 1 ≤ p → p ≤ process_count setup
    → length (transcripts_of k) ≡ process_count setup
    → TurningOf (view.program program) setup F p own s (transcript_of (transcripts_of k) p) (turning k x input)
    → TurningOf (view.program program) setup F p own (meaning.kernel_turn setup n s p) (transcript_of (transcripts_of after) p)
    (turning after y input)
    × Invariant (meaning.kernel_turn setup n s p)

-- Whatever text the program represents, the kernel is that of the start.
abbrev pub IsAtStart : Program → Kernel → Type 0
IsAtStart program k =
    (setup : Setup) (F : IsProgramFor (view.program program) setup) → KernelOf (view.program program) F.texts setup (start setup) (kernel_of k)

-- Whatever state a machine with this kernel and these private states is in, it is then in the state
-- after the end of the round.
abbrev pub EndsRound : Program → Kernel → List Private → Kernel → List Private → Type 0
EndsRound program k xs after ys =
    (m : plain.Machine) (inputs : ℕ → List ℕ) (setup : Setup) (s : State)
    → m.program ≡ view.program program → m.kernel ≡ kernel_of k → m.parts ≡ parts_of inputs 1 xs → IsIn m setup s
    → IsIn (record m { kernel = kernel_of after; parts = parts_of inputs 1 ys; rounds = suc m.rounds }) setup (close_round s)
