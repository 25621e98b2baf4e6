-- What a process does alone: steps that depend on the kernel and on its own private state.
use Rattle.std.specs.Prelude.{List, Some, true, ℕ, ◌≡◌, ◌≤◌}
use Rattle.cp_model_program.specs.Programs.{Program}
use Rattle.cp_model_machine.specs.KernelSteps.{Kernel, is_begun, stage_of}
use Rattle.cp_model_machine.specs.PrivateStates.{PrivateState}
use Rattle.cp_law_calls.specs.Runs.{IsSettled}
use Rattle.cp_law_calls.specs.Ways.{Eager, Late}
use Rattle.cp_law_cores.specs.Cores.{Core, part, put}
use Rattle.cp_law_cores.specs.Turns.{NoneFresh}
use Rattle.cp_law_exploring.specs.Exploring.{IsQuiescent, SettlesQuietly, count}
use Rattle.cp_law_search.specs.Calls.{core_machine, move_at, way_on}
use Rattle.cp_kernel.specs.KernelOf.{kernel_of}
use Rattle.cp_search_states.specs.SearchStates.{IsNearer, StepsInto}
use Rattle.cp_search_states.specs.declared.alone.Lone.{Lone}

abbrev pub core_from : Kernel → List PrivateState → Core
core_from k os = record { kernel = k; parts = os }

-- The numbers of processes are at most their count.
pub record AreNumbered (program : Program) (c : Core) : Type 0 where
  pub each : (q : ℕ) (o : PrivateState) → part c.parts q ≡ Some o → o.number ≤ count program

-- The core is at rest, and no process has an eager step.
pub record IsResting (program : Program) (c : Core) : Type 0 where
  pub quiet : IsQuiescent c
  pub settled : IsSettled (core_machine program (count program)) c
  pub numbers : AreNumbered program c

-- A kernel step after which nobody is fresh.
pub record StepsCalmly (program : Program) (old new : Lone) (input : List ℕ) : Type 0 where
  pub step : StepsInto program old.kernel old.private new.kernel new.private input
  pub calm : NoneFresh (kernel_of new.kernel)

-- In each core at rest with the kernel `k` in which a process has the private state `x`, eager steps
-- of the process lead to `k'` and `x'`.
pub record GoesOn (program : Program) (k : Kernel) (x : PrivateState) (k' : Kernel) (x' : PrivateState) : Type 0 where
  pub each : (os : List PrivateState) (p : ℕ) → 1 ≤ p → p ≤ count program → part os p ≡ Some x → IsQuiescent (core_from k os)
      → IsNearer program (core_from k os) (core_from k' (put os p x'))

-- The same, of the late step of the process and eager steps of it.
pub record HasCome (program : Program) (k : Kernel) (x : PrivateState) (k' : Kernel) (x' : PrivateState) : Type 0 where
  pub each : (os : List PrivateState) (p : ℕ) → 1 ≤ p → p ≤ count program → part os p ≡ Some x → way_on program k (Some x) ≡ Late → IsQuiescent (core_from k os)
      → IsNearer program (move_at program (core_from k os) p) (core_from k' (put os p x'))

-- The same, until the process has no eager step.
pub record HasAdvanced (program : Program) (k : Kernel) (x : PrivateState) (k' : Kernel) (x' : PrivateState) : Type 0 where
  pub come : HasCome program k x k' x'
  pub stopped : way_on program k' (Some x') ≡ Eager → ⊥

-- Which of the processes, by their numbers to `n`, have begun, and neither ask nor are delayed,
-- were such before.
pub record WakesNobody (n : ℕ) (k k' : Kernel) : Type 0 where
  pub each : (p : ℕ) → p ≤ n → is_begun (stage_of k'.stages p) ≡ true → is_begun (stage_of k.stages p) ≡ true

-- In each settled core with the kernel `k` in which a process has the private state `x`, the late
-- step of the process leads to the core with `k'` and `x'` instead, which is settled.
pub record IsMove (program : Program) (k : Kernel) (x : PrivateState) (k' : Kernel) (x' : PrivateState) : Type 0 where
  pub each : (os : List PrivateState) (p : ℕ) → 1 ≤ p → p ≤ count program → part os p ≡ Some x → way_on program k (Some x) ≡ Late → IsResting program (core_from k os)
      → SettlesQuietly program (move_at program (core_from k os) p) (core_from k' (put os p x'))
      × IsResting program (core_from k' (put os p x'))
