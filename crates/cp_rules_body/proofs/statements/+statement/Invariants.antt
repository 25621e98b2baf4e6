use Rattle.std.proofs.Common.{◌≡◌, map, drop, []}
use Rattle.cp_model.specs.RulesJudged.{least}
use Rattle.cp_model.specs.RulesStatements as st
use Rattle.cp_model.specs.View.{statement, statements_of, arm, arms_of}
use Rattle.cp_rules_body.proofs.statements.+statement.Given as goal

-- what is reported in the end, from this statement on
abbrev pub invariant-statements-loop-s : goal.invariant-statements-loop-s
invariant-statements-loop-s l =
    let env = l.env in
    least l.diagnostics (st.statements env (statements_of (map statement (drop l.s-index l.list)))) ≡ least l.fn.diagnostics (st.statements env (statements_of (map statement l.list)))

-- what is reported in the end, from this labelled statement on
abbrev pub invariant-judge_arms-loop-a : goal.invariant-judge_arms-loop-a
invariant-judge_arms-loop-a l =
    let env = l.env in
    least l.diagnostics (st.arms env l.base l.seen (arms_of (map arm (drop l.a-index l.list)))) ≡ least l.fn.diagnostics (st.arms env l.base [] (arms_of (map arm l.list)))
