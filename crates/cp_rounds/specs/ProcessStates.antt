-- The states of processes, as a machine and as the meaning have them.
use Rattle.std.specs.Prelude.{◌≡◌, ◌≤◌, ◌-◌, ◌++◌, ℕ, List, [], None, Some, slice_get}
use Rattle.cp_model.specs.Configurations as status
use Rattle.cp_model.specs.Configurations.{Status}
use Rattle.cp_model.specs.States.{Setup, State, process_count}
use Rattle.cp_model.specs.StateViews.{fault_number}
use Rattle.cp_model.specs.Types.{Queue}
use Rattle.cp_model_machine.specs.Addresses.{Ground, lies}
use Rattle.cp_model_machine.specs.InState.{IsIn}
use Rattle.cp_model_machine.specs.KernelOf.{kernel_ground}
use Rattle.cp_model_machine.specs.KernelSteps.{Asking, Begun, Delayed, Fresh, SchedulingState, Unstarted, stage_of}
use Rattle.cp_model_machine.specs.Machines as plain
use Rattle.cp_model_machine.specs.PrivateStates as activity
use Rattle.cp_model_machine.specs.PrivateStates.{Activity}
use Rattle.cp_rounds.specs.Views.{machine_of}
use Rattle.cp_rounds.specs.declared.machine.Machine.{Machine}
use Rattle.cp_inspect.specs.declared.state.ProcState.{ProcState}
use Rattle.cp_inspect.specs.declared.state.ProcState.TheVariants as state

-- The state of a process with this stage and this activity.
abbrev pub state_of : SchedulingState → Activity → ProcState
state_of Unstarted a = state.Unstarted
state_of Fresh a = state.Fresh
state_of (Asking m) a = state.Asking m
state_of (Delayed m q) a = state.Delayed m q
state_of Begun activity.NotBegun = state.Unstarted
state_of Begun activity.Running = state.Ready
state_of Begun activity.Waiting = state.Waiting
state_of Begun activity.Ended = state.Ended
state_of Begun (activity.Faulted f) = state.Faulted f

-- The activity of a process. A missing process has ended.
abbrev pub activity_at : plain.Machine → ℕ → Activity
activity_at m p = elim (slice_get m.parts (p - 1)) [ None ↦ activity.Ended | Some o ↦ o.activity ]

abbrev pub state_at : plain.Machine → ℕ → ProcState
state_at m p = state_of (stage_of m.kernel.stages p) (activity_at m p)

-- The status of a process is this state. A queue is given by the place of its word.
abbrev pub StatusMeans : Ground → Status → ProcState → Type 0
StatusMeans G status.Unstarted state.Unstarted = Unit {0}
StatusMeans G status.Fresh state.Fresh = Unit {0}
StatusMeans G status.Ready state.Ready = Unit {0}
StatusMeans G status.Ended state.Ended = Unit {0}
StatusMeans G status.Waiting state.Waiting = Unit {0}
StatusMeans G (status.Asking m) (state.Asking k) = m ≡ k
StatusMeans G (status.Delayed m q) (state.Delayed k n) = (m ≡ k) × (lies G [] q ≡ Some (n, Queue))
StatusMeans G (status.Faulted n) (state.Faulted f) = n ≡ fault_number f
StatusMeans G _ _ = ⊥

-- In each state that the machine is in, the status of process p is this state.
pub record ShowsState (m : Machine) (p : ℕ) (r : ProcState) : Type 0 where
  pub shows : (setup : Setup) (s : State) (I : IsIn (machine_of m) setup s) → 1 ≤ p → p ≤ process_count setup
      → StatusMeans (kernel_ground (machine_of m).program I.represents.texts setup) (s.status p) r

-- In each state that the machine is in, these two parts together are what process p has written.
pub record ShowsTranscript (m : Machine) (p : ℕ) (moved held : List ℕ) : Type 0 where
  pub shows : (setup : Setup) (s : State) → IsIn (machine_of m) setup s → 1 ≤ p → p ≤ process_count setup → s.transcript p ≡ moved ++ held
