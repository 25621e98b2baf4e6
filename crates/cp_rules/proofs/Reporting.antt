-- What is reported for one part after another.
use Rattle.std.proofs.Common.{◌≡◌, ◌++◌, Option, ap, sym}
use Rattle.cp_model.specs.declared.rules.Violation.{Violation}
use Rattle.cp_model.specs.RulesEnvironment.{Environment}
use Rattle.cp_model.specs.RulesJudged.{Violations, least}
use Rattle.cp_rules_body.proofs.Reports.{least_append}
use Rattle.cp_rules.specs.Checking.{State}

abbrev pub reported_in : Environment → Option Violation → Violations → State
reported_in e t vs = record { env = e; diagnostics = least t vs }

pub reported_more : (e : Environment) (t : Option Violation) (vs ws : Violations) → reported_in e (least t vs) ws ≡ reported_in e t (vs ++ ws)
reported_more e t vs ws = ap (λ u. let st : State = record { env = e; diagnostics = u } in st) (sym (least_append t vs ws))
