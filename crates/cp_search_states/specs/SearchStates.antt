-- The states of a search as cores, and what the steps of a search make of them.
use Rattle.std.specs.Prelude.{List, None, Option, Some, Vec, [], slice_get, ℕ, ◌-◌, ◌≡◌}
use Rattle.std.specs.Global.{Global}
use Rattle.cp_model_program.specs.Programs.{Program}
use Rattle.cp_model_machine.specs.KernelSteps.{kernel_step}
use Rattle.cp_model_machine.specs.PrivateStates.{PrivateState}
use Rattle.cp_model_machine.specs.Steps.{private_steps}
use Rattle.cp_law_calls.specs.Ways as ways
use Rattle.cp_law_cores.specs.Cores.{Core, part, put, silent}
use Rattle.cp_law_exploring.specs.Exploring.{IsQuiescent, IsBefore}
use Rattle.cp_private.specs.States.{private_of}
use Rattle.cp_private.specs.declared.private.Private.{Private}
use Rattle.cp_kernel.specs.KernelOf.{kernel_of, turning}
use Rattle.cp_kernel.specs.Turns.{parts_of}
use Rattle.cp_kernel.specs.declared.kernel.Kernel.{Kernel}
use Rattle.cp_search_states.specs.declared.state.SearchState.{SearchState}
use Rattle.cp_search_states.specs.declared.ways.Way.{Way}
use Rattle.cp_search_states.specs.declared.ways.Way.TheVariants as way_case

-- ---- Inputs

abbrev pub bytes_or_none : Option (Vec ℕ Global) → List ℕ
bytes_or_none None = []
bytes_or_none (Some v) = v.items

-- The input at an index. The input of process 1 is at index 0.
abbrev pub input_at : List (Vec ℕ Global) → ℕ → List ℕ
input_at inputs i = bytes_or_none (slice_get inputs i)

-- The input of a process.
abbrev pub input_of : List (Vec ℕ Global) → ℕ → List ℕ
input_of inputs p = input_at inputs (p - 1)

-- ---- Cores

abbrev pub core_with : (ℕ → List ℕ) → List Private → Kernel → Core
core_with inputs xs k = record { kernel = kernel_of k; parts = parts_of inputs 1 xs }

abbrev pub core_of : (ℕ → List ℕ) → SearchState → Core
core_of inputs n = core_with inputs n.privates.items n.kernel

abbrev pub way_view : Way → ways.Way
way_view way_case.Idle = ways.Idle
way_view way_case.Eager = ways.Eager
way_view way_case.Late = ways.Late

-- ---- Steps

-- One step of the kernel, without what was written.
pub record StepsInto (program : Program) (k : Kernel) (x : Private) (k' : Kernel) (y : Private) (input : List ℕ) : Type 0 where
  pub kernel : kernel_of k' ≡ (kernel_step program 0 (turning k x input)).kernel
  pub own : private_of y input ≡ silent (kernel_step program 0 (turning k x input)).own

-- A private turn of process `p`.
pub record HasRun (program : Program) (t p : ℕ) (inputs : List (Vec ℕ Global)) (xs ys : List Private) : Type 0 where
  pub own : PrivateState
  pub there : part (parts_of (input_of inputs) 1 xs) p ≡ Some own
  pub parts : parts_of (input_of inputs) 1 ys ≡ put (parts_of (input_of inputs) 1 xs) p (silent (private_steps program 0 t own))

-- A kernel turn of one step of process `p`.
pub record HasTurned (program : Program) (p : ℕ) (inputs : List (Vec ℕ Global)) (xs : List Private) (k : Kernel) (ys : List Private) (k' : Kernel) : Type 0 where
  pub own : PrivateState
  pub there : part (parts_of (input_of inputs) 1 xs) p ≡ Some own
  pub kernel : kernel_of k' ≡ (kernel_step program 0 (record { kernel = kernel_of k; own = own })).kernel
  pub parts : parts_of (input_of inputs) 1 ys
      ≡ put (parts_of (input_of inputs) 1 xs) p (silent (kernel_step program 0 (record { kernel = kernel_of k; own = own })).own)

-- Eager steps lead from `c` to `d`, which is at rest.
pub record IsNearer (program : Program) (c d : Core) : Type 0 where
  pub before : IsBefore program c d
  pub rest : IsQuiescent d
