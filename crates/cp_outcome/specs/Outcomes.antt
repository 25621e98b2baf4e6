-- The outcome of a run as text.
use Rattle.std.specs.Prelude.{◌++◌, ◌∷◌, ◌≡◌, [], codes, ℕ}
use Rattle.cp_model.specs.Decimal.{natural}
use Rattle.cp_model.specs.Report.{Text}
use Rattle.cp_outcome.specs.declared.verdict.Verdict.{Verdict}
use Rattle.cp_outcome.specs.declared.verdict.Verdict.TheVariants.{Ended, Fault, Running, Stuck}

abbrev pub verdict_word : Verdict → Text
verdict_word Ended = codes "ended"
verdict_word Stuck = codes "stuck"
verdict_word Fault = codes "fault"
verdict_word Running = codes "running"

abbrev pub verdict_line : Verdict → ℕ → Text
verdict_line v n = verdict_word v ++ (codes " after round " ++ (natural n ++ 10 ∷ []))

-- The line of the verdict comes first.
abbrev pub BeginsWithVerdict : Verdict → ℕ → Text → Type 0
BeginsWithVerdict v n bytes = (rest : Text) × (bytes ≡ verdict_line v n ++ rest)
