-- Kinds of steps, and turns.
--
-- The next step of a ready process belongs to the kernel if the process holds a gate, or if its
-- next action is a call of a monitor or `init` of a monitor or process. Any other step is private.
-- A process that isn't ready has no next step.
use Rattle.std.specs.Prelude.{List, if◌then◌else◌, suc, zero, ℕ, ◌||◌}
use Rattle.cp_model.specs.Outcomes.{Fault, Gives}
use Rattle.cp_model.specs.Continuations.{Task}
use Rattle.cp_model.specs.Actions.{action, is_kernel_action}
use Rattle.cp_model.specs.Configurations.{Faulted, Ready, Status, StepResult, holds_gate}
use Rattle.cp_model.specs.Step.{step_of}
use Rattle.cp_model.specs.States.{Setup, State, configuration, context, set_status, with_configuration}
use Rattle.cp_model.specs.Gates.{apply_effect}

-- ---- Steps

-- A step that faults changes only the status.
abbrev pub after_step : State → ℕ → StepResult → State
after_step s p (Fault f) = set_status p (Faulted f) s
after_step s p (Gives x) = apply_effect p x.1 (with_configuration s p x.0)

abbrev pub step : Setup → State → ℕ → State
step setup s p = after_step s p (step_of (context setup s p) (configuration s p))

-- ---- Kinds

pub data Kind : Type 0 where
  NoStep Private Kernel : Kind

abbrev pub kind_of : Status → List Task → Kind
kind_of Ready k = if holds_gate Ready k || is_kernel_action (action k) then Kernel else Private
kind_of _ k = NoStep

abbrev pub kind : State → ℕ → Kind
kind s p = kind_of (s.status p) (s.continuation p)

-- ---- Steps of a kind

abbrev pub if_private : Kind → State → State → State
if_private Private a b = a
if_private _ a b = b

abbrev pub if_kernel : Kind → State → State → State
if_kernel Kernel a b = a
if_kernel _ a b = b

-- One step of p if its next step is private, otherwise nothing.
abbrev pub private_step : Setup → State → ℕ → State
private_step setup s p = if_private (kind s p) (step setup s p) s

abbrev pub kernel_step : Setup → State → ℕ → State
kernel_step setup s p = if_kernel (kind s p) (step setup s p) s

-- ---- Turns

-- At most n steps while the next one is private.
abbrev pub private_turn : Setup → ℕ → State → ℕ → State
private_turn setup zero s p = s
private_turn setup (suc n) s p = private_turn setup n (private_step setup s p) p

-- At most n steps while the next one is the kernel's.
abbrev pub kernel_turn : Setup → ℕ → State → ℕ → State
kernel_turn setup zero s p = s
kernel_turn setup (suc n) s p = kernel_turn setup n (kernel_step setup s p) p
