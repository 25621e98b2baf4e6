-- What the report says of a process follows from its state.
use Rattle.std.proofs.Common.{◌≡◌, refl}
use Rattle.cp_model.specs.States.{Setup}
use Rattle.cp_model_program.specs.Programs.{Program}
use Rattle.cp_model_machine.specs.Chains.{is_asker}
use Rattle.cp_model_machine.specs.KernelSteps.{Asking, Begun, Delayed, Fresh, SchedulingState, Unstarted}
use Rattle.cp_model_machine.specs.PrivateStates.{Activity, Ended, Faulted, NotBegun, Running, Waiting}
use Rattle.cp_model_machine.specs.Reports.{stage_text}
use Rattle.cp_rounds.specs.ProcessStates.{state_of}
use Rattle.cp_inspect.specs.Statuses.{asks_for_gate, state_text}

pub stage_reported : (setup : Setup) (program : Program) (y : SchedulingState) (a : Activity) → stage_text setup program y a ≡ state_text setup program (state_of y a)
stage_reported setup program Unstarted a = refl
stage_reported setup program Fresh a = refl
stage_reported setup program (Asking n) a = refl
stage_reported setup program (Delayed n at) a = refl
stage_reported setup program Begun NotBegun = refl
stage_reported setup program Begun Running = refl
stage_reported setup program Begun Waiting = refl
stage_reported setup program Begun Ended = refl
stage_reported setup program Begun (Faulted f) = refl

-- ---- who asks

pub asker_reported : (y : SchedulingState) (a : Activity) → is_asker y ≡ asks_for_gate (state_of y a)
asker_reported Unstarted a = refl
asker_reported Fresh a = refl
asker_reported (Asking n) a = refl
asker_reported (Delayed n at) a = refl
asker_reported Begun NotBegun = refl
asker_reported Begun Running = refl
asker_reported Begun Waiting = refl
asker_reported Begun Ended = refl
asker_reported Begun (Faulted f) = refl
