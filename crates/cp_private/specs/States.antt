-- The code's private state, what else a step reads, and what it leaves to the kernel, as the plain
-- data of the definitions.
use Rattle.std.specs.Prelude.{◌≡◌, ℕ, zero, suc, ℤ, List, [], ◌∷◌, ◌++◌, true, Option, None, Some, Result, Ok, Err, length, slice_get}
use Rattle.cp_model.specs.States as model
use Rattle.cp_model.specs.declared.state.Fault.{Fault}
use Rattle.cp_model_machine.specs.PrivateStates as plain
use Rattle.cp_model_machine.specs.PrivateStates.{Acting, PrivateState, fault_in, is_running}
use Rattle.cp_model_machine.specs.KernelSteps as kernel
use Rattle.cp_private.specs.declared.effect.Effect.{Effect}
use Rattle.cp_private.specs.declared.effect.Effect.TheVariants as effect_case
use Rattle.cp_private.specs.declared.kernel_view.Holder.{Holder}
use Rattle.cp_private.specs.declared.kernel_view.Holder.TheVariants as holder_case
use Rattle.cp_private.specs.declared.kernel_view.SchedulingState.{SchedulingState}
use Rattle.cp_private.specs.declared.kernel_view.SchedulingState.TheVariants as stage_case
use Rattle.cp_private.specs.declared.kernel_view.Gate.{Gate}
use Rattle.cp_private.specs.declared.outside.StepContext.{StepContext}
use Rattle.cp_private.specs.declared.private.Activity.{Activity}
use Rattle.cp_private.specs.declared.private.Activity.TheVariants as activity_case
use Rattle.cp_private.specs.declared.private.Frame.{Frame}
use Rattle.cp_private.specs.declared.private.Private.{Private}

-- ---- The private state

abbrev pub activity : Activity → plain.Activity
activity activity_case.NotBegun = plain.NotBegun
activity activity_case.Running = plain.Running
activity activity_case.Waiting = plain.Waiting
activity activity_case.Ended = plain.Ended
activity (activity_case.Faulted f) = plain.Faulted f

abbrev pub frame : Frame → plain.Frame
frame f = record {
  counter = f.counter;
  base = f.base;
  temp = f.temp;
  component = f.component;
  into = f.into;
  gate = f.gate;
  held = f.held;
}

abbrev pub no_frame : plain.Frame
no_frame = record { counter = 0; base = 0; temp = 0; component = 0; into = 0; gate = 0; held = 0 }

abbrev pub frame_or_none : Option Frame → plain.Frame
frame_or_none None = no_frame
frame_or_none (Some f) = frame f

-- The frames in use, given their number, with the innermost first.
abbrev pub frames_in : ℕ → List Frame → List plain.Frame
frames_in zero fs = []
frames_in (suc n) fs = frame_or_none (slice_get fs n) ∷ frames_in n fs

-- A private state, with more words after its own.
abbrev pub join : Private → List ℕ → List ℤ → PrivateState
join x input shared = record {
  number = x.number;
  activity = activity x.activity;
  counter = x.counter;
  base = x.memory.base;
  temp = x.memory.temp;
  component = x.memory.component;
  gate = x.gate;
  words = x.memory.words.items ++ shared;
  temps = x.memory.temps.items;
  frames = frames_in x.depth x.frames.items;
  limit = length x.frames.items;
  output = x.output.items;
  input = input;
  consumed = x.consumed;
}

abbrev pub private_of : Private → List ℕ → PrivateState
private_of x input = record (join x input []) { words = x.memory.words.items }

-- ---- Outside

abbrev pub holder : Holder → model.Holder
holder holder_case.Unset = model.Unset
holder holder_case.Free = model.Free
holder (holder_case.Process p) = model.HeldBy p

abbrev pub gate : Gate → model.Gate
gate g = record { holder = holder g.holder; askers = g.askers.items }

abbrev pub stage : SchedulingState → kernel.SchedulingState
stage stage_case.Unstarted = kernel.Unstarted
stage stage_case.Fresh = kernel.Fresh
stage stage_case.Begun = kernel.Begun
stage (stage_case.Asking m) = kernel.Asking m
stage (stage_case.Delayed monitor queue) = kernel.Delayed monitor queue

-- Monitors and processes are numbered from 1. A missing monitor is unset, and a missing process has
-- begun.
abbrev pub holder_or_none : Option Gate → model.Holder
holder_or_none None = model.Unset
holder_or_none (Some g) = holder g.holder

abbrev pub holder_of : List Gate → ℕ → model.Holder
holder_of gs zero = model.Unset
holder_of gs (suc m) = holder_or_none (slice_get gs m)

abbrev pub stage_or_none : Option SchedulingState → kernel.SchedulingState
stage_or_none None = kernel.Begun
stage_or_none (Some g) = stage g

abbrev pub stage_of : List SchedulingState → ℕ → kernel.SchedulingState
stage_of gs zero = kernel.Begun
stage_of gs (suc r) = stage_or_none (slice_get gs r)

abbrev pub outside_of : StepContext → ℕ → plain.StepContext
outside_of w own = record {
  clock = w.clock;
  own = own;
  is_set = λ m. kernel.is_set (holder_of w.gates.now m);
  is_started = λ r. kernel.is_started (stage_of w.stages.now r);
}

-- Nothing of the kernel is read.
pub record IsAlone (w : StepContext) : Type 0 where
  pub gates : w.gates.now ≡ []
  pub stages : w.stages.now ≡ []

-- The process runs and holds no gate, so its next step may be private.
pub record IsReady (x : Private) : Type 0 where
  pub running : is_running (activity x.activity) ≡ true
  pub free : x.gate ≡ 0

-- The process runs as before, and holds the same gate.
pub record Represents (old new : Private) : Type 0 where
  pub activity : new.activity ≡ old.activity
  pub gate : new.gate ≡ old.gate

-- ---- Effects and outcomes

abbrev pub effect : Effect → plain.Effect
effect effect_case.None = plain.NoEffect
effect (effect_case.Enters m) = plain.Enters m
effect (effect_case.Leaves m) = plain.Leaves m
effect (effect_case.Opens m) = plain.Opens m
effect (effect_case.Starts r) = plain.Starts r
effect (effect_case.Delays monitor queue) = plain.Delays monitor queue
effect (effect_case.Continues monitor resumed) = plain.Continues monitor resumed

-- A state, with the result of the step that led to it. A fault changes only the activity.
abbrev pub outcome : PrivateState → Result Effect Fault → Acting
outcome o (Ok e) = (o, effect e)
outcome o (Err f) = fault_in o f

-- The step leads from one state and its shared words to the other, as the function `go` of the
-- outside and the state says.
abbrev pub IsStep : Private → List ℤ → StepContext → Private → List ℤ → Result Effect Fault → (plain.StepContext → PrivateState → Acting) → Type 0
IsStep x shared w y after result go =
    outcome (join y w.input.now after) result ≡ go (outside_of w (length x.memory.words.items)) (join x w.input.now shared)
