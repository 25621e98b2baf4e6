-- What became of a system: whether its processes are done, are stuck or faulted, or still move.
use Rattle.std.specs.Prelude.{◌≡◌, ℕ, Bool, List, false, true, if◌then◌else◌}
use Rattle.cp_model.specs.Configurations.{Status}
use Rattle.cp_model.specs.States.{Setup, State, processes}
use Rattle.cp_model_machine.specs.InState.{IsIn}
use Rattle.cp_rounds.specs.Views.{machine_of}
use Rattle.cp_rounds.specs.declared.machine.Machine.{Machine}
use Rattle.cp_inspect.specs.declared.state.ProcState.{ProcState}
use Rattle.cp_inspect.specs.declared.state.ProcState.TheVariants as state
use Rattle.cp_law_cores.specs.Verdicts.{all_pass, has_no_fault}
use Rattle.cp_law_servers.specs.Servers.{all_done, is_server}
use Rattle.cp_law_stillness.specs.Stillness.{is_still}
use Rattle.cp_outcome.specs.declared.verdict.Verdict.{Verdict}
use Rattle.cp_outcome.specs.declared.verdict.Verdict.TheVariants.{Ended, Fault, Running, Stuck}

-- ---- In a state

-- A fault is reported before all else: a process that waits for one that has faulted isn't to
-- blame.
abbrev pub verdict_of : List ℕ → Setup → State → Verdict
verdict_of servers setup s =
    if is_still setup s
    then (if all_pass has_no_fault s (processes setup) then (if all_done servers s (processes setup) then Ended else Stuck) else Fault)
    else Running

-- The verdict is `Ended` exactly if each process has ended, or is a server and is delayed.
pub record IsEndOf (servers : List ℕ) (setup : Setup) (s : State) (v : Verdict) : Type 0 where
  pub ended : v ≡ Ended → all_done servers s (processes setup) ≡ true
  pub done : all_done servers s (processes setup) ≡ true → v ≡ Ended

-- ---- In a machine

abbrev pub done : List ℕ → ℕ → ProcState → Bool
done servers p state.Ended = true
done servers p (state.Delayed k n) = is_server servers p
done servers p _ = false

abbrev pub sound : ProcState → Bool
sound (state.Faulted f) = false
sound _ = true

-- It is the verdict on every state that the machine is in.
abbrev pub IsVerdictOn : List ℕ → Machine → Verdict → Type 0
IsVerdictOn servers m v = (setup : Setup) (s : State) → IsIn (machine_of m) setup s → verdict_of servers setup s ≡ v

abbrev pub EndedMeansDone : List ℕ → Machine → Verdict → Type 0
EndedMeansDone servers m v = (setup : Setup) (s : State) → IsIn (machine_of m) setup s → IsEndOf servers setup s v

-- In every state that the machine is in, the answer says whether all processes pass the test.
abbrev pub ReportsAll : (Status → Bool) → Machine → Bool → Type 0
ReportsAll test m b = (setup : Setup) (s : State) → IsIn (machine_of m) setup s → all_pass test s (processes setup) ≡ b

-- In every state that the machine is in, the answer says whether all processes are done.
abbrev pub ReportsDone : List ℕ → Machine → Bool → Type 0
ReportsDone servers m b = (setup : Setup) (s : State) → IsIn (machine_of m) setup s → all_done servers s (processes setup) ≡ b
