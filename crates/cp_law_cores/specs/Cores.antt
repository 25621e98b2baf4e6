-- A core is what matters of a machine to its further steps, if the program doesn't use the clock: its
-- kernel, and its private states without what they have written.
--
-- No step reads what was written, nor the count of rounds. So a machine that displays forever, or
-- whose rounds pass, comes back to cores that it had before.
use Rattle.std.specs.Prelude.{Bool, List, None, Option, Some, [], false, if◌then◌else◌, map, slice_get, slice_set, suc, zero, ℕ}
use Rattle.cp_model_program.specs.Programs.{Program}
use Rattle.cp_model_machine.specs.KernelSteps.{Kernel, Turning, is_due, kernel_step}
use Rattle.cp_model_machine.specs.Machines.{Machine, begin_one, next_stage}
use Rattle.cp_model_machine.specs.PrivateStates.{PrivateState, is_running}
use Rattle.cp_model_machine.specs.Steps as steps
use Rattle.cp_model_machine.specs.Steps.{operation_of, private_step}

pub record Core : Type 0 where
  pub kernel : Kernel
  pub parts : List PrivateState

-- A private state without what it has written.
abbrev pub silent : PrivateState → PrivateState
silent o = record o { output = [] }

abbrev pub core : Machine → Core
core m = record { kernel = m.kernel; parts = map silent m.parts }

-- ---- The private state of a process, by its number

abbrev pub part : List PrivateState → ℕ → Option PrivateState
part os zero = None
part os (suc i) = slice_get os i

abbrev pub put : List PrivateState → ℕ → PrivateState → List PrivateState
put os zero o = os
put os (suc i) o = slice_set os i o

-- ---- Kinds of steps

abbrev pub is_private_on : Program → Option PrivateState → Bool
is_private_on program None = false
is_private_on program (Some o) = if is_running o.activity then steps.is_private o (operation_of program o) else false

abbrev pub is_kernel_on : Program → Kernel → Option PrivateState → Bool
is_kernel_on program k None = false
is_kernel_on program k (Some o) = is_due program (record { kernel = k; own = o })

-- ---- Steps

-- The clock doesn't matter, so it is 0.

abbrev pub turned : Program → List PrivateState → ℕ → Option PrivateState → List PrivateState
turned program os p None = os
turned program os p (Some o) = if is_private_on program (Some o) then put os p (silent (private_step program 0 o)) else os

abbrev pub private_at : Program → Core → ℕ → Core
private_at program c p = record c { parts = turned program c.parts p (part c.parts p) }

abbrev pub with_turning : Core → ℕ → Turning → Core
with_turning c p x = record { kernel = x.kernel; parts = put c.parts p (silent x.own) }

abbrev pub kernel_on : Program → Core → ℕ → Option PrivateState → Core
kernel_on program c p None = c
kernel_on program c p (Some o) =
    if is_kernel_on program c.kernel (Some o) then with_turning c p (kernel_step program 0 (record { kernel = c.kernel; own = o })) else c

abbrev pub kernel_at : Program → Core → ℕ → Core
kernel_at program c p = kernel_on program c p (part c.parts p)

abbrev pub close : Program → Core → Core
close program c = record {
  kernel = record c.kernel { stages = map next_stage c.kernel.stages };
  parts = map (begin_one program c.kernel) c.parts;
}
