use Rattle.std.proofs.Common.{◌≡◌, map, drop}
use Rattle.cp_model.specs.RulesJudged.{least}
use Rattle.cp_model.specs.RulesStatements as st
use Rattle.cp_model.specs.View.{expression, expressions_of}
use Rattle.cp_rules_body.specs.InitParts.{parameters_if}
use Rattle.cp_rules_body.proofs.initialisation.arguments.Given as goal

-- what is reported in the end, from the argument with this number on
abbrev pub invariant-loop-number : goal.invariant-loop-number
invariant-loop-number l =
    let env = l.env in
    let ps = parameters_if env l.system in
    least l.diagnostics (st.init_arguments env (drop l.number ps) (expressions_of (map expression (drop l.number l.list))))
    ≡ least l.fn.diagnostics (st.init_arguments env ps (expressions_of (map expression l.list)))
