-- When a kernel, as plain data, is the kernel's part of a state of the system.
use Rattle.std.specs.Prelude.{◌≡◌, ◌≤◌, ℕ, Bool, false, true, List, [], ◌∷◌, Some, length}
use Rattle.cp_model.specs.Configurations as status
use Rattle.cp_model.specs.Configurations.{Status}
use Rattle.cp_model.specs.Locations.{OfMonitor, Owner}
use Rattle.cp_model.specs.States.{Setup, State, monitor_count, process_count}
use Rattle.cp_model.specs.Types.{Queue}
use Rattle.cp_model_program.specs.Programs.{Program}
use Rattle.cp_model_program.specs.Sites.{UnitText}
use Rattle.cp_model_machine.specs.Addresses.{Ground, OwnWords, lies}
use Rattle.cp_model_machine.specs.KernelSteps.{Asking, Begun, Delayed, Fresh, Kernel, SchedulingState, Unstarted, gate_of, stage_of}
use Rattle.cp_model_machine.specs.PartOf.{DataMeans}

-- The ground in which the shared words are the only words.
abbrev pub kernel_ground : Program → List UnitText → Setup → Ground
kernel_ground program texts setup = record {
  program = program;
  texts = texts;
  setup = setup;
  p = 0;
  own = 0;
  sight = OwnWords;
  monitors_lie = tt;
}

abbrev pub is_shared : Owner → Bool
is_shared (OfMonitor m) = true
is_shared _ = false

-- What the kernel knows of the status of a process. A queue is given by the address of its word.
abbrev pub StageMeans : Ground → Status → SchedulingState → Type 0
StageMeans G status.Unstarted Unstarted = Unit {0}
StageMeans G status.Fresh Fresh = Unit {0}
StageMeans G (status.Asking m) (Asking k) = m ≡ k
StageMeans G (status.Delayed m q) (Delayed k n) = (m ≡ k) × (lies G [] q ≡ Some (n, Queue))
StageMeans G status.Ready Begun = Unit {0}
StageMeans G status.Ended Begun = Unit {0}
StageMeans G status.Waiting Begun = Unit {0}
StageMeans G (status.Faulted n) Begun = Unit {0}
StageMeans G _ _ = ⊥

-- All are numbers of processes, from 1 to `n`. The number 0 represents nobody.
abbrev pub AreProcesses : ℕ → List ℕ → Type 0
AreProcesses n [] = Unit {0}
AreProcesses n (p ∷ ps) = (1 ≤ p) × (p ≤ n) × AreProcesses n ps

-- The gates and stages of a kernel are those of a state.
pub record GatesRepresent (G : Ground) (monitors processes : ℕ) (s : State) (k : Kernel) : Type 0 where
  pub gate_count : length k.gates ≡ monitors
  pub stage_count : length k.stages ≡ processes
  pub gates : (m : ℕ) → gate_of k.gates m ≡ s.gates m
  pub stages : (p : ℕ) → 1 ≤ p → p ≤ length k.stages → StageMeans G (s.status p) (stage_of k.stages p)
  pub askers : (m : ℕ) → AreProcesses processes (s.gates m).askers

-- The gates and stages are those of the state, and the shared words mean what the store holds for
-- the monitors.
pub record KernelOf (program : Program) (texts : List UnitText) (setup : Setup) (s : State) (k : Kernel) : Type 0 where
  pub word_count : length k.shared ≡ program.shared
  pub gates_represent : GatesRepresent (kernel_ground program texts setup) (monitor_count setup) (process_count setup) s k
  pub data_means : DataMeans (kernel_ground program texts setup) [] is_shared s.store k.shared
