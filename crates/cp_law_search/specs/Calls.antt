-- Runs of cores by calls.
--
-- The next step of a process is late if it is a call of a monitor's entry or `init` of a monitor, else
-- eager. A core is settled if no process has an eager step. A search by calls settles the first core. From
-- each settled core it tries the late step of each process, and settles again.
use Rattle.std.specs.Prelude.{Bool, List, None, Option, Some, [], false, if◌then◌else◌, true, ℕ, ◌∷◌, ◌≡◌}
use Rattle.cp_model.specs.States.{Setup, State, is_in, numbers_from, process_count, processes}
use Rattle.cp_model_program.specs.Programs as op
use Rattle.cp_model_program.specs.Programs.{Operation, Program}
use Rattle.cp_model_machine.specs.KernelSteps.{Kernel, is_begun, stage_of}
use Rattle.cp_model_machine.specs.PrivateStates.{PrivateState, is_running}
use Rattle.cp_model_machine.specs.Steps.{is_monitor, operation_of}
use Rattle.cp_law_calls.specs.Runs.{Machine, Settles}
use Rattle.cp_law_calls.specs.Ways.{Eager, Idle, Late, Way}
use Rattle.cp_law_cores.specs.Cores.{Core, close, is_private_on, kernel_at, part, private_at}
use Rattle.cp_law_cores.specs.CoresOfStates.{IsCoreIn, IsCoveredBy}

-- ---- Ways

abbrev pub is_late_operation : Operation → Bool
is_late_operation (op.Procedure call next) = is_monitor call.target
is_late_operation (op.Function call into next) = is_monitor call.target
is_late_operation (op.InitMonitor call next) = true
is_late_operation _ = false

abbrev pub is_late_at : Option Operation → Bool
is_late_at None = false
is_late_at (Some x) = is_late_operation x

abbrev pub way_by : Bool → Way
way_by late = if late then Late else Eager

-- A process has a next step if it runs, and neither asks for a gate nor is delayed.
abbrev pub way_on : Program → Kernel → Option PrivateState → Way
way_on program k None = Idle
way_on program k (Some o) =
    if is_running o.activity then (if is_begun (stage_of k.stages o.number) then way_by (is_late_at (operation_of program o)) else Idle) else Idle

abbrev pub way_at : Program → Core → ℕ → Way
way_at program c p = way_on program c.kernel (part c.parts p)

-- ---- Steps

-- The next step of a process, of whatever kind it is.
abbrev pub step_at : Program → Core → ℕ → Core
step_at program c p = if is_private_on program (part c.parts p) then private_at program c p else kernel_at program c p

-- The next step of a process, and then the end of a round.
abbrev pub move_at : Program → Core → ℕ → Core
move_at program c p = close program (step_at program c p)

abbrev pub core_machine : Program → ℕ → Machine Core
core_machine program n = record { processes = numbers_from 1 n; move = move_at program; way = way_at program }

-- ---- Up to cores that represent the same states

-- Eager steps lead from `x` to a settled core, and whatever state that is a core of, so is `w`.
pub record LeadsAs (program : Program) (setup : Setup) (x w : Core) : Type 0 where
  pub at : Core
  pub settles : Settles (core_machine program (process_count setup)) x at
  pub represents : IsCoveredBy program setup at w

-- ---- Closed sets

-- `x` leads to a member.
pub record LeadsByCalls (program : Program) (setup : Setup) (V : Core → Type 0) (x : Core) : Type 0 where
  pub member : Core
  pub known : V member
  pub leads : LeadsAs program setup x member

-- Each late step of a member leads to a member again.
pub record IsClosedByCalls (program : Program) (setup : Setup) (V : Core → Type 0) : Type 0 where
  pub late : (v : Core) (p : ℕ) → V v → is_in p (processes setup) ≡ true → way_at program v p ≡ Late
      → LeadsByCalls program setup V (move_at program v p)

-- ---- Found cores

-- Late steps of these processes, each followed by settling, lead from `v` to `u`.
abbrev pub LeadOn : Program → Setup → Core → List ℕ → Core → Type 0
LeadOn program setup v [] u = v ≡ u
LeadOn program setup v (p ∷ ps) u =
    (is_in p (processes setup) ≡ true) × (way_at program v p ≡ Late) × (w : Core) × LeadsAs program setup (move_at program v p) w × LeadOn program setup w ps u

-- A search that begins with `c` finds `u` by these calls.
pub record IsFound (program : Program) (setup : Setup) (c : Core) (calls : List ℕ) (u : Core) : Type 0 where
  pub first : Core
  pub begins : LeadsAs program setup c first
  pub lead : LeadOn program setup first calls u

-- ---- Cores of states

-- Both are cores of one state.
pub record AreTwins (program : Program) (setup : Setup) (c d : Core) : Type 0 where
  pub state : State
  pub one : IsCoreIn program setup state c
  pub other : IsCoreIn program setup state d

-- A core of the state settles, after the end of the round, as a twin of a member.
pub record SettlesByCalls (program : Program) (setup : Setup) (V : Core → Type 0) (s : State) : Type 0 where
  pub core : Core
  pub represents : IsCoreIn program setup s core
  pub at : Core
  pub settles : Settles (core_machine program (process_count setup)) (close program core) at
  pub member : Core
  pub known : V member
  pub twins : AreTwins program setup at member
