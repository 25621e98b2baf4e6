-- First states, and states that are neither faulted nor stuck.
use Rattle.std.specs.Prelude.{Bool, List, Some, length, slice_get, suc, true, ℕ, ◌≡◌, ◌≤◌}
use Rattle.cp_model_program.specs.Programs as code
use Rattle.cp_model_program.specs.Programs.{Program}
use Rattle.cp_model_machine.specs.Machines.{first_part}
use Rattle.cp_model_machine.specs.PrivateStates.{Activity}
use Rattle.cp_law_cores.specs.Cores.{Core, part}
use Rattle.cp_law_cores.specs.Verdicts.{can_move, core_is_sound, core_is_still, part_passes}
use Rattle.cp_law_servers.specs.Servers.{core_is_done, part_is_done}
use Rattle.cp_private.specs.States.{private_of}
use Rattle.cp_private.specs.declared.private.Private.{Private}
use Rattle.cp_kernel.specs.KernelOf.{kernel_of}
use Rattle.cp_search_states.specs.SearchStates.{core_of}
use Rattle.cp_search_states.specs.declared.state.SearchState.{SearchState}

-- Each private state is the first one of its process.
abbrev pub AreFirst : Program → List Private → Type 0
AreFirst program xs =
    (i : ℕ) (x : Private) (row : code.Process) → slice_get xs i ≡ Some x → slice_get program.processes i ≡ Some row
    → (input : List ℕ) → private_of x input ≡ first_part program (λ q. input) (suc i) row

-- The activities of the first n processes pass the test.
pub record AllPass (test : Activity → Bool) (n : ℕ) (x : SearchState) : Type 0 where
  pub each : (inputs : ℕ → List ℕ) (p : ℕ) → 1 ≤ p → p ≤ n → part_passes test (part (core_of inputs x).parts p) ≡ true

-- The first n processes are done, if servers may wait forever.
pub record AllDone (servers : List ℕ) (n : ℕ) (x : SearchState) : Type 0 where
  pub each : (inputs : ℕ → List ℕ) (p : ℕ) → 1 ≤ p → p ≤ n → part_is_done servers (kernel_of x.kernel) (part (core_of inputs x).parts p) ≡ true

-- One of the first n processes can move.
pub record OneMoves (n : ℕ) (x : SearchState) : Type 0 where
  pub process : ℕ
  pub first : 1 ≤ process
  pub last : process ≤ n
  pub moves : (inputs : ℕ → List ℕ) → can_move (kernel_of x.kernel) (part (core_of inputs x).parts process) ≡ true

-- Nobody has faulted, and if nobody can move, all are done.
pub record IsFine (servers : List ℕ) (n : ℕ) (c : Core) : Type 0 where
  pub sound : core_is_sound n c ≡ true
  pub done : core_is_still n c ≡ true → core_is_done servers n c ≡ true
