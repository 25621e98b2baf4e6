-- What is read off a core: whether nobody can move, whether all have ended, and who has faulted.
use Rattle.std.specs.Prelude.{Bool, List, None, Option, Some, [], false, if◌then◌else◌, true, ℕ, ◌∷◌, ◌≡◌}
use Rattle.cp_model.specs.Configurations as status
use Rattle.cp_model.specs.Configurations.{Status}
use Rattle.cp_model.specs.States.{State, numbers_from}
use Rattle.cp_model.specs.declared.state.Fault.{Fault}
use Rattle.cp_model.specs.StateViews.{fault_number}
use Rattle.cp_model_machine.specs.KernelSteps.{Begun, Fresh, Kernel, SchedulingState, stage_of}
use Rattle.cp_model_machine.specs.PrivateStates.{Activity, Ended, Faulted, PrivateState, Running, Waiting}
use Rattle.cp_law_cores.specs.Cores.{Core, part}

-- ---- Off a core

abbrev pub is_active : Activity → Bool
is_active Running = true
is_active Waiting = true
is_active _ = false

abbrev pub moves : SchedulingState → Activity → Bool
moves Fresh a = true
moves Begun a = is_active a
moves _ a = false

abbrev pub can_move : Kernel → Option PrivateState → Bool
can_move k None = false
can_move k (Some o) = moves (stage_of k.stages o.number) o.activity

abbrev pub none_moves : Core → List ℕ → Bool
none_moves c [] = true
none_moves c (p ∷ ps) = if can_move c.kernel (part c.parts p) then false else none_moves c ps

-- Nothing can move.
abbrev pub core_is_still : ℕ → Core → Bool
core_is_still n c = none_moves c (numbers_from 1 n)

abbrev pub is_end : Activity → Bool
is_end Ended = true
is_end _ = false

abbrev pub is_sound : Activity → Bool
is_sound (Faulted f) = false
is_sound _ = true

abbrev pub part_passes : (Activity → Bool) → Option PrivateState → Bool
part_passes test None = true
part_passes test (Some o) = test o.activity

abbrev pub all_parts : (Activity → Bool) → Core → List ℕ → Bool
all_parts test c [] = true
all_parts test c (p ∷ ps) = if part_passes test (part c.parts p) then all_parts test c ps else false

-- All have ended; none has faulted.
abbrev pub core_has_ended : ℕ → Core → Bool
core_has_ended n c = all_parts is_end c (numbers_from 1 n)

abbrev pub core_is_sound : ℕ → Core → Bool
core_is_sound n c = all_parts is_sound c (numbers_from 1 n)

-- ---- Off a state

abbrev pub has_ended : Status → Bool
has_ended status.Ended = true
has_ended _ = false

abbrev pub has_no_fault : Status → Bool
has_no_fault (status.Faulted n) = false
has_no_fault _ = true

abbrev pub all_pass : (Status → Bool) → State → List ℕ → Bool
all_pass test s [] = true
all_pass test s (p ∷ ps) = if test (s.status p) then all_pass test s ps else false

-- The process `p` has stopped by the fault with this number.
pub record HasFault (c : Core) (p number : ℕ) : Type 0 where
  pub own : PrivateState
  pub there : part c.parts p ≡ Some own
  pub fault : Fault
  pub stopped : own.activity ≡ Faulted fault
  pub is : fault_number fault ≡ number
