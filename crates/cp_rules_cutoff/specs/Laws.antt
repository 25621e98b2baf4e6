-- The law of what is later in a text.
use Rattle.std.specs.Prelude.{Some, true, ◌≡◌}
use Rattle.cp_model.specs.declared.rules.Violation.{Violation}
use Rattle.cp_model.specs.RulesEnvironment.{Environment}
use Rattle.cp_model.specs.RulesJudged.{least}
use Rattle.cp_rules_cutoff.specs.Later.{environment_later}
use Rattle.cp_rules_cutoff.specs.Rest.{Rest, rest_after, rest_violations}

abbrev pub RestReportsNothingEarlier : Type 0
RestReportsNothingEarlier =
    (w : Violation) (env : Environment) (r : Rest) → environment_later w env ≡ true → rest_after w.at r ≡ true
    → least (Some w) (rest_violations env r) ≡ Some w
