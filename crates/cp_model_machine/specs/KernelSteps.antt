-- Kernel steps as plain data: gates, stages and shared words, and the steps that need them.
use Rattle.std.specs.Prelude.{◌-◌, ℕ, zero, suc, ℤ, Bool, true, false, if◌then◌else◌, List, [], ◌∷◌, ◌++◌, Option, Some, None, length, slice_get, slice_set, take, drop}
use Rattle.cp_model.specs.States.{Free, Gate, HeldBy, Holder, Unset}
use Rattle.cp_model_program.specs.Layout.{natural}
use Rattle.cp_model_program.specs.Programs.{Operation, Program}
use Rattle.cp_model_machine.specs.PrivateStates.{Acting, Continues, Delays, Effect, Enters, Leaves, NoEffect, Opens, StepContext, PrivateState, Starts, is_running}
use Rattle.cp_model_machine.specs.Steps.{is_held, is_kernel_operation, operation_of, step_with}

-- What the kernel knows of a process. A delayed process waits in the queue whose word is the shared
-- word `queue`.
pub data SchedulingState : Type 0 where
  Unstarted Fresh Begun : SchedulingState
  Asking : (m : ℕ) → SchedulingState
  Delayed : (m queue : ℕ) → SchedulingState

pub record Kernel : Type 0 where
  pub shared : List ℤ
  pub gates : List Gate
  pub stages : List SchedulingState

-- Monitors and processes have numbers from 1 on.
abbrev pub gate_of : List Gate → ℕ → Gate
gate_of gs zero = record { holder = Unset; askers = [] }
gate_of gs (suc m) = elim (slice_get gs m) [ None ↦ record { holder = Unset; askers = [] } | Some g ↦ g ]

abbrev pub stage_of : List SchedulingState → ℕ → SchedulingState
stage_of gs zero = Begun
stage_of gs (suc p) = elim (slice_get gs p) [ None ↦ Begun | Some g ↦ g ]

abbrev pub is_set : Holder → Bool
is_set Unset = false
is_set _ = true

abbrev pub is_started : SchedulingState → Bool
is_started Unstarted = false
is_started _ = true

-- ---- Effects

abbrev pub set_gate : ℕ → Holder → List ℕ → Kernel → Kernel
set_gate m h askers k = record k { gates = slice_set k.gates (m - 1) (record { holder = h; askers = askers }) }

abbrev pub set_stage : ℕ → SchedulingState → Kernel → Kernel
set_stage p g k = record k { stages = slice_set k.stages (p - 1) g }

abbrev pub resume_stage : SchedulingState → SchedulingState
resume_stage (Asking m) = Begun
resume_stage (Delayed m q) = Begun
resume_stage g = g

abbrev pub make_ready : ℕ → Kernel → Kernel
make_ready r k = set_stage r (resume_stage (stage_of k.stages r)) k

abbrev pub pass_to : ℕ → List ℕ → Kernel → Kernel
pass_to m [] k = set_gate m Free [] k
pass_to m (r ∷ rs) k = make_ready r (set_gate m (HeldBy r) rs k)

abbrev pub pass_on : ℕ → Kernel → Kernel
pass_on m k = pass_to m (gate_of k.gates m).askers k

abbrev pub enter_gate : ℕ → ℕ → Holder → Kernel → Kernel
enter_gate p m (HeldBy q) k = set_stage p (Asking m) (set_gate m (HeldBy q) ((gate_of k.gates m).askers ++ p ∷ []) k)
enter_gate p m h k = set_gate m (HeldBy p) (gate_of k.gates m).askers k

-- The number 0 represents nobody.
abbrev pub resume : ℕ → ℕ → Kernel → Kernel
resume m zero k = pass_on m k
resume m (suc r) k = make_ready (suc r) (set_gate m (HeldBy (suc r)) (gate_of k.gates m).askers k)

abbrev pub start_process : ℕ → SchedulingState → Kernel → Kernel
start_process r Unstarted k = set_stage r Fresh k
start_process r g k = k

-- Applies the effect of a step of process `p`, which has `own` words of its own.
abbrev pub apply_effect : ℕ → ℕ → Effect → Kernel → Kernel
apply_effect own p NoEffect k = k
apply_effect own p (Enters m) k = enter_gate p m (gate_of k.gates m).holder k
apply_effect own p (Leaves m) k = pass_on m k
apply_effect own p (Delays m q) k = pass_on m (set_stage p (Delayed m (q - own)) k)
apply_effect own p (Continues m r) k = resume m (natural r) k
apply_effect own p (Opens m) k = set_gate m (HeldBy p) [] k
apply_effect own p (Starts r) k = start_process r (stage_of k.stages r) k

-- ---- Steps

-- The kernel, and the private state of the process whose turn it is.
pub record Turning : Type 0 where
  pub kernel : Kernel
  pub own : PrivateState

abbrev pub outside : ℕ → Turning → StepContext
outside clock x = record {
  clock = clock;
  own = length x.own.words;
  is_set = λ m. is_set (gate_of x.kernel.gates m).holder;
  is_started = λ r. is_started (stage_of x.kernel.stages r);
}

-- Puts the shared words after the private ones, and separates them again after a step.
abbrev pub join_words : Turning → PrivateState
join_words x = record x.own { words = x.own.words ++ x.kernel.shared }

abbrev pub part_words : ℕ → Turning → Acting → Turning
part_words own x r = record {
  kernel = apply_effect own x.own.number r.1 (record x.kernel { shared = drop own r.0.words });
  own = record r.0 { words = take own r.0.words };
}

abbrev pub is_begun : SchedulingState → Bool
is_begun Begun = true
is_begun _ = false

abbrev pub needs_kernel : PrivateState → Option Operation → Bool
needs_kernel o None = is_held o.gate
needs_kernel o (Some x) = if is_held o.gate then true else is_kernel_operation x

abbrev pub is_due : Program → Turning → Bool
is_due program x =
    if is_running x.own.activity
    then (if is_begun (stage_of x.kernel.stages x.own.number) then needs_kernel x.own (operation_of program x.own) else false)
    else false

-- One step of any kind, with the words of all monitors in reach.
abbrev pub joined_step : Program → ℕ → Turning → Turning
joined_step program clock x = part_words (length x.own.words) x (step_with program (outside clock x) (join_words x))

-- One step if the next one is a kernel step, and otherwise nothing.
abbrev pub kernel_step : Program → ℕ → Turning → Turning
kernel_step program clock x = if is_due program x then joined_step program clock x else x

-- At most `n` steps, as long as the next one is a kernel step.
abbrev pub kernel_steps : Program → ℕ → ℕ → Turning → Turning
kernel_steps program clock zero x = x
kernel_steps program clock (suc n) x = kernel_steps program clock n (kernel_step program clock x)
