-- Servers are processes that may wait forever. They are given by their numbers.
use Rattle.std.specs.Prelude.{Bool, Contains, List, None, Option, Some, [], false, if◌then◌else◌, nat_eq, true, ℕ, ◌∷◌, ◌≡◌}
use Rattle.std.specs.List.{list_any}
use Rattle.cp_model.specs.Configurations as status
use Rattle.cp_model.specs.Configurations.{Status}
use Rattle.cp_model.specs.States.{State, numbers_from}
use Rattle.cp_model_machine.specs.KernelSteps.{Delayed, Kernel, SchedulingState, stage_of}
use Rattle.cp_model_machine.specs.PrivateStates.{Activity, PrivateState}
use Rattle.cp_law_cores.specs.Cores.{Core, part}
use Rattle.cp_law_cores.specs.Verdicts.{core_is_sound, core_is_still, is_end}

abbrev pub is_server : List ℕ → ℕ → Bool
is_server servers p = list_any (λ q. nat_eq q p) servers

-- ---- Off a state

-- A process is done if it has ended, or if it is a server and is delayed in a queue.
abbrev pub is_done : List ℕ → ℕ → Status → Bool
is_done servers p status.Ended = true
is_done servers p (status.Delayed m q) = is_server servers p
is_done servers p _ = false

-- Whether each of these processes passes a test of its number and its status.
abbrev pub each_passes : (ℕ → Status → Bool) → State → List ℕ → Bool
each_passes test s [] = true
each_passes test s (p ∷ ps) = if test p (s.status p) then each_passes test s ps else false

abbrev pub all_done : List ℕ → State → List ℕ → Bool
all_done servers = each_passes (is_done servers)

-- ---- Off a core

abbrev pub is_delayed : SchedulingState → Bool
is_delayed (Delayed m n) = true
is_delayed _ = false

-- Whether process `p` with this stage and this activity is done.
abbrev pub is_done_at : List ℕ → ℕ → SchedulingState → Activity → Bool
is_done_at servers p y a = if is_end a then true else (if is_delayed y then is_server servers p else false)

abbrev pub part_is_done : List ℕ → Kernel → Option PrivateState → Bool
part_is_done servers k None = true
part_is_done servers k (Some o) = is_done_at servers o.number (stage_of k.stages o.number) o.activity

abbrev pub parts_are_done : List ℕ → Core → List ℕ → Bool
parts_are_done servers c [] = true
parts_are_done servers c (p ∷ ps) = if part_is_done servers c.kernel (part c.parts p) then parts_are_done servers c ps else false

abbrev pub core_is_done : List ℕ → ℕ → Core → Bool
core_is_done servers n c = parts_are_done servers c (numbers_from 1 n)

-- Nobody has faulted in a core of the list, and if one is still, all are done in it.
pub record AreServed (servers : List ℕ) (n : ℕ) (vs : List Core) : Type 0 where
  pub sound : (c : Core) → Contains vs c → core_is_sound n c ≡ true
  pub done : (c : Core) → Contains vs c → core_is_still n c ≡ true → core_is_done servers n c ≡ true
