-- What is written of an outcome, by its form.
use Rattle.std.specs.Prelude.{◌<◌, ℕ, List, length}
use Rattle.std.specs.Borrow.{Bor}
use Rattle.cp_model_machine.specs.InState.{IsIn}
use Rattle.cp_model.specs.States.{Setup, State}
use Rattle.cp_outcome.specs.Transcripts.{AreTranscripts}
use Rattle.cp_outcome.specs.declared.verdict.Verdict.{Verdict}
use Rattle.cp_output.specs.Json.{IsJsonLine}
use Rattle.cp_outcome.specs.Outcomes.{BeginsWithVerdict}
use Rattle.cp_rounds.specs.Views.{machine_of}
use Rattle.cp_rounds.specs.declared.machine.Machine.{Machine}
use Rattle.cp_base_config.specs.declared.outcome.OutcomeForm.{OutcomeForm}
use Rattle.cp_base_config.specs.declared.outcome.OutcomeForm.TheVariants as form

-- What is written of a state and of the verdict on it, after so many rounds.
abbrev pub Reports : OutcomeForm (Bor (List ℕ)) → Setup → State → Verdict → ℕ → List ℕ → Type 0
Reports form.Verdict setup s v rounds bytes = BeginsWithVerdict v rounds bytes
Reports (form.Transcript ps) setup s v rounds bytes = AreTranscripts ps.now setup s bytes
Reports form.Dot setup s v rounds bytes = 0 < length bytes
Reports form.Json setup s v rounds bytes = IsJsonLine bytes

-- It is written of every state that the machine is in, and of the verdict.
abbrev pub IsOutcomeOf : OutcomeForm (Bor (List ℕ)) → Machine → Verdict → List ℕ → Type 0
IsOutcomeOf form m v bytes = (setup : Setup) (s : State) → IsIn (machine_of m) setup s → Reports form setup s v m.rounds bytes
