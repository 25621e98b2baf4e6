-- The exit statuses of searches.
use Rattle.std.specs.Prelude.{ℕ}
use Rattle.cp_execute_search.specs.declared.verdict.SearchVerdict.{SearchVerdict}
use Rattle.cp_execute_search.specs.declared.verdict.SearchVerdict.TheVariants as verdict

abbrev pub status : SearchVerdict → ℕ
status verdict.Fine = 0
status verdict.Stuck = 5
status verdict.Fault = 6
status verdict.Running = 7
status verdict.Defect = 4
