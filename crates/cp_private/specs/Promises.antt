-- What steps and turns, the start, waking and the kind of the next step promise for each state of
-- which a private state is a part.
use Rattle.std.specs.Prelude.{◌≡◌, ◌≤◌, ◌%◌, ℕ, suc, ℤ, true, List, [], length}
use Rattle.cp_model.specs.Invariant.{Invariant, IsBlocked}
use Rattle.cp_model.specs.Operators.{realtime}
use Rattle.cp_model.specs.Rounds.{wake}
use Rattle.cp_model.specs.Start.{start}
use Rattle.cp_model.specs.States.{Setup, State, process_count, running_clock}
use Rattle.cp_model.specs.Turns as meaning
use Rattle.cp_model_program.specs.Programs as code
use Rattle.cp_model_program.specs.IsProgramFor.{IsProgramFor}
use Rattle.cp_model_machine.specs.Beginning.{Begins}
use Rattle.cp_model_machine.specs.KernelSteps.{Kernel, Turning, apply_effect, is_begun, outside, stage_of}
use Rattle.cp_model_machine.specs.Laws.{TurningOf, ground_of}
use Rattle.cp_model_machine.specs.PartOf.{PartOf}
use Rattle.cp_model_machine.specs.PrivateStates.{is_running}
use Rattle.cp_program.specs.declared.program.Program.{Program}
use Rattle.cp_program.specs.View as view
use Rattle.cp_private.specs.States.{effect, outside_of, private_of}
use Rattle.cp_private.specs.declared.effect.Effect.{Effect}
use Rattle.cp_private.specs.declared.kind.Kind.{Kind}
use Rattle.cp_private.specs.declared.kind.Kind.TheVariants as kind
use Rattle.cp_private.specs.declared.outside.StepContext.{StepContext}
use Rattle.cp_private.specs.declared.private.Private.{Private}

-- y is the part of the process after its private step, for every state of which x is the part. The
-- invariant of references and rights holds again.
abbrev pub MakesStep : Program → Private → Private → List ℕ → ℕ → Type 0
MakesStep program x y input clock =
    (setup : Setup) (F : IsProgramFor (view.program program) setup) (p own : ℕ) (s : State) (before : List ℕ)
    → let G = ground_of (view.program program) setup F p own in
    Invariant s → clock ≡ realtime (running_clock setup s) → PartOf G s before (private_of x input)
    → PartOf G (meaning.private_step setup s p) before (private_of y input) × Invariant (meaning.private_step setup s p)

-- What `MakesStep` says, for a turn.
abbrev pub MakesTurn : Program → ℕ → Private → Private → List ℕ → ℕ → Type 0
MakesTurn program n x y input clock =
    (setup : Setup) (F : IsProgramFor (view.program program) setup) (p own : ℕ) (s : State) (before : List ℕ)
    → let G = ground_of (view.program program) setup F p own in
    Invariant s → clock ≡ realtime (running_clock setup s) → PartOf G s before (private_of x input)
    → PartOf G (meaning.private_turn setup n s p) before (private_of y input) × Invariant (meaning.private_turn setup n s p)

-- A kernel and the private state of the process whose turn it is.
abbrev pub beside : Kernel → Private → List ℕ → Turning
beside k x input = record { kernel = k; own = private_of x input }

-- For every kernel with these shared words, of which the step reads what it reads of others: if both
-- are those of a state in which the process runs and has begun, then the effect that is left to the
-- kernel makes them those of the state after the meaning's step, of whatever kind it is. The
-- invariant holds again.
abbrev pub MakesJoinedStep : Program → StepContext → Private → List ℤ → Private → List ℤ → Effect → Type 0
MakesJoinedStep program w x shared y after e =
    (setup : Setup) (F : IsProgramFor (view.program program) setup) (p own : ℕ) (s : State) (before : List ℕ) (k : Kernel)
    → k.shared ≡ shared
    → outside_of w (length x.memory.words.items) ≡ outside w.clock (beside k x w.input.now)
    → is_running (private_of x w.input.now).activity ≡ true → is_begun (stage_of k.stages x.number) ≡ true
    → Invariant s → w.clock ≡ realtime (running_clock setup s) → 1 ≤ p → p ≤ process_count setup
    → TurningOf (view.program program) setup F p own s before (beside k x w.input.now)
    → TurningOf (view.program program) setup F p own (meaning.step setup s p) before
    (beside (apply_effect (length x.memory.words.items) x.number (effect e) (record k { shared = after })) y w.input.now)
    × Invariant (meaning.step setup s p)

-- Whatever text the program represents, x is the private state of process p at its start. It is
-- ready to begin if p isn't the initial process.
abbrev pub IsAtStart : Program → ℕ → Private → Type 0
IsAtStart program p x =
    (setup : Setup) (F : IsProgramFor (view.program program) setup)
    → let o = private_of x (setup.inputs p) in
    let G = ground_of (view.program program) setup F p (length o.words) in
    PartOf G (start setup) [] o × ((k : Kernel) → 2 ≤ p → Begins G (start setup) k o)

-- y is the part of the process after the waking of a round whose number is a multiple of the tick,
-- for every state of which x is the part.
abbrev pub Wakes : Private → Private → Type 0
Wakes x y =
    (program : code.Program) (setup : Setup) (F : IsProgramFor program setup) (p own : ℕ)
    → (s : State) (before input : List ℕ)
    → let G = ground_of program setup F p own in
    suc s.rounds % setup.tick ≡ 0 → PartOf G s before (private_of x input) → PartOf G (wake setup s) before (private_of y input)

-- The kind of step in the meaning.
abbrev pub meaning_kind : Kind → meaning.Kind
meaning_kind kind.Private = meaning.Private
meaning_kind kind.Kernel = meaning.Kernel
meaning_kind kind.None = meaning.NoStep

-- In each state of which x is the part, k is the kind of the process's next step. Of a process that
-- asks or is delayed, which only the kernel knows, k is the kind of the step that it makes when it
-- continues.
abbrev pub ReportsKind : Program → Private → List ℕ → Kind → Type 0
ReportsKind program x input k =
    (setup : Setup) (F : IsProgramFor (view.program program) setup) (p own : ℕ) (s : State) (before : List ℕ)
    → let G = ground_of (view.program program) setup F p own in
    Invariant s → PartOf G s before (private_of x input)
    → ((IsBlocked (s.status p) → ⊥) → meaning.kind s p ≡ meaning_kind k) × (IsBlocked (s.status p) → k ≡ kind.Kernel)
