-- The exit statuses of verdicts.
use Rattle.std.specs.Prelude.{ℕ}
use Rattle.cp_outcome.specs.declared.verdict.Verdict.{Verdict}
use Rattle.cp_outcome.specs.declared.verdict.Verdict.TheVariants as verdict

abbrev pub status : Verdict → ℕ
status verdict.Ended = 0
status verdict.Stuck = 5
status verdict.Fault = 6
status verdict.Running = 7
