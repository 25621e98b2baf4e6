-- The violations of a callee, together with those that are found whatever is broken inside.
use Rattle.std.proofs.Common.{Bool, true, false, ◌≡◌, Option, refl, ◌∙◌}
use Rattle.cp_model.specs.declared.rules.Violation.{Violation}
use Rattle.cp_model.specs.RulesJudged.{Judged, Violations, also}
use Rattle.cp_model.specs.RulesEnvironment as r
use Rattle.cp_model.specs.RulesNames as n
use Rattle.cp_rules_body.specs.declared.callees.Callee.{Callee}
use Rattle.cp_rules_body.specs.Reports.{ReportsOf, answer_if}
use Rattle.cp_rules_body.specs.Callees.{callee_if, ReportsCallee}
use Rattle.cp_rules_body.proofs.Reports.{also_reported}

callee_if_answer_if : (env : r.Environment) (sound : Bool) (c : Option Callee) → callee_if env (answer_if sound c) ≡ answer_if sound (callee_if env c)
callee_if_answer_if env true c = refl
callee_if_answer_if env false c = refl

pub also_callee : (env : r.Environment) (t0 t1 t2 : Option Violation) (sound : Bool) (vs : Violations) (c : Option Callee) (j : Judged n.Callee)
    → ReportsOf t0 t1 sound vs → ReportsCallee env t1 t2 c j → ReportsCallee env t0 t2 (answer_if sound c) (also vs j)
also_callee env t0 t1 t2 sound vs c j h g =
    let diagnostics = also_reported t0 t1 t2 sound vs (callee_if env c) j h g in (diagnostics.0, callee_if_answer_if env sound c ∙ diagnostics.1)
