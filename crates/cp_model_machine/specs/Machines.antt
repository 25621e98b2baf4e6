-- Whole rounds of the machine as plain data: its start, its turns, waking, and the end of a round.
use Rattle.std.specs.Prelude.{ℕ, zero, suc, ◌+◌, ◌-◌, ◌/◌, ◌%◌, ℤ, pos, List, [], ◌∷◌, ◌++◌, None, Some, if◌then◌else◌, nat_eq, map, replicate, slice_get, slice_set}
use Rattle.cp_model.specs.States.{Unset}
use Rattle.cp_model_program.specs.Programs as code
use Rattle.cp_model_program.specs.Programs.{CodeUnit, Program}
use Rattle.cp_model_program.specs.Starts.{block, paste, carry_out}
use Rattle.cp_model_machine.specs.PrivateStates.{Activity, NotBegun, PrivateState, Running, Waiting}
use Rattle.cp_model_machine.specs.Steps.{private_steps}
use Rattle.cp_model_machine.specs.KernelSteps.{Begun, Fresh, Kernel, SchedulingState, Turning, Unstarted, kernel_steps, stage_of}

-- Private states and transcripts are listed by process. What a process writes stays in its private
-- state until its kernel turn.
pub record Machine : Type 0 where
  pub program : Program
  pub tick : ℕ
  pub kernel : Kernel
  pub parts : List PrivateState
  pub transcripts : List (List ℕ)
  pub rounds : ℕ

-- ---- The start

abbrev pub unit_at : Program → ℕ → CodeUnit
unit_at program n = elim (slice_get program.units n) [
  | None ↦ record { start = 0; starts = code.Done; words = 0; temps = 0; frames = 0 }
  | Some u ↦ u
]

-- The initial process, which has the number 1, has begun.
abbrev pub first_activity : ℕ → Activity
first_activity (suc zero) = Running
first_activity _ = NotBegun

-- The first private state of process `p`, whose body is the unit `u`.
abbrev pub part_at_start : (ℕ → List ℕ) → ℕ → code.Process → CodeUnit → PrivateState
part_at_start inputs p x u = record {
  number = p;
  activity = first_activity p;
  counter = u.start;
  base = x.words;
  temp = 0;
  component = 0;
  gate = 0;
  words = carry_out 0 x.starts (replicate (x.words + u.words) (pos 0));
  temps = replicate u.temps (pos 0);
  frames = [];
  limit = u.frames;
  output = [];
  input = inputs p;
  consumed = 0;
}

abbrev pub first_part : Program → (ℕ → List ℕ) → ℕ → code.Process → PrivateState
first_part program inputs p x = part_at_start inputs p x (unit_at program x.body)

abbrev pub first_parts : Program → (ℕ → List ℕ) → ℕ → List code.Process → List PrivateState
first_parts program inputs p [] = []
first_parts program inputs p (x ∷ xs) = first_part program inputs p x ∷ first_parts program inputs (suc p) xs

abbrev pub first_shared : List code.Monitor → List ℤ → List ℤ
first_shared [] ws = ws
first_shared (m ∷ ms) ws = first_shared ms (carry_out m.start m.starts ws)

abbrev pub first_stages : List code.Process → List SchedulingState
first_stages [] = []
first_stages (x ∷ xs) = Begun ∷ map (λ y. Unstarted) xs

abbrev pub first_machine : Program → ℕ → (ℕ → List ℕ) → Machine
first_machine program tick inputs = record {
  program = program;
  tick = tick;
  kernel = record {
    shared = first_shared program.monitors (replicate program.shared (pos 0));
    gates = map (λ m. record { holder = Unset; askers = [] }) program.monitors;
    stages = first_stages program.processes;
  };
  parts = first_parts program inputs 1 program.processes;
  transcripts = map (λ x. []) program.processes;
  rounds = 0;
}

-- ---- Turns

abbrev pub clock : Machine → ℕ
clock m = suc m.rounds / m.tick

abbrev pub with_part : ℕ → Machine → (PrivateState → Machine) → Machine
with_part p m go = elim (slice_get m.parts (p - 1)) [ None ↦ m | Some o ↦ go o ]

abbrev pub private_turn : ℕ → Machine → ℕ → Machine
private_turn n m p =
    with_part p m (λ o. record m { parts = slice_set m.parts (p - 1) (private_steps m.program (clock m) n o) })

abbrev pub transcript_of : List (List ℕ) → ℕ → List ℕ
transcript_of transcripts p = elim (slice_get transcripts (p - 1)) [ None ↦ [] | Some bytes ↦ bytes ]

abbrev pub after_kernel_turn : Machine → ℕ → Turning → Machine
after_kernel_turn m p x = record m {
  kernel = x.kernel;
  parts = slice_set m.parts (p - 1) (record x.own { output = [] });
  transcripts = slice_set m.transcripts (p - 1) (transcript_of m.transcripts p ++ x.own.output);
}

abbrev pub kernel_turn : ℕ → Machine → ℕ → Machine
kernel_turn n m p =
    with_part p m (λ o.
    after_kernel_turn m p (kernel_steps m.program (clock m) n (record { kernel = m.kernel; own = o })))

-- ---- Rounds

abbrev pub awake : Activity → Activity
awake Waiting = Running
awake x = x

abbrev pub wake_one : PrivateState → PrivateState
wake_one o = record o { activity = awake o.activity }

abbrev pub wake : Machine → Machine
wake m = if nat_eq (suc m.rounds % m.tick) 0 then record m { parts = map wake_one m.parts } else m

-- A fresh process gets its parameters and begins.
abbrev pub begin_from : Program → Kernel → PrivateState → PrivateState
begin_from program k o = elim (slice_get program.processes (o.number - 1)) [
  | None ↦ o
  | Some x ↦
      record o { activity = Running; words = paste 1 (block k.shared (suc x.parameters) (x.waiting - 1)) o.words }
]

abbrev pub begin_if : Program → Kernel → PrivateState → SchedulingState → PrivateState
begin_if program k o Fresh = begin_from program k o
begin_if program k o _ = o

abbrev pub begin_one : Program → Kernel → PrivateState → PrivateState
begin_one program k o = begin_if program k o (stage_of k.stages o.number)

abbrev pub next_stage : SchedulingState → SchedulingState
next_stage Fresh = Begun
next_stage g = g

abbrev pub end_round : Machine → Machine
end_round m = record m {
  kernel = record m.kernel { stages = map next_stage m.kernel.stages };
  parts = map (begin_one m.program m.kernel) m.parts;
  rounds = suc m.rounds;
}

abbrev pub private_turns : ℕ → Machine → List ℕ → Machine
private_turns n m [] = m
private_turns n m (p ∷ ps) = private_turns n (private_turn n m p) ps

abbrev pub kernel_turns : ℕ → Machine → List ℕ → Machine
kernel_turns n m [] = m
kernel_turns n m (p ∷ ps) = kernel_turns n (kernel_turn n m p) ps

-- A round with turns of at most `n` steps: all private turns first, followed by the kernel turns.
abbrev pub phased_round : ℕ → List ℕ → Machine → Machine
phased_round n ps m = end_round (kernel_turns n (private_turns n (wake m) ps) ps)

abbrev pub phased_rounds : ℕ → List ℕ → ℕ → Machine → Machine
phased_rounds n ps zero m = m
phased_rounds n ps (suc rounds) m = phased_rounds n ps rounds (phased_round n ps m)
