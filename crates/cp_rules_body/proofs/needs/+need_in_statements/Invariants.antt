use Rattle.std.proofs.Common.{◌≡◌, map, max, drop}
use Rattle.cp_model.specs.RulesNeeds as n
use Rattle.cp_model.specs.View.{statement, arm, statements_of, arms_of}
use Rattle.cp_rules_body.proofs.needs.+need_in_statements.Given as goal

-- the greatest need so far and that of the rest are together the need of all
abbrev pub invariant-need_of_statements-loop-s : goal.invariant-need_of_statements-loop-s
invariant-need_of_statements-loop-s l =
    max l.need (n.need_statements l.env (statements_of (map statement (drop l.s-index l.list))))
    ≡ n.need_statements l.fn.env (statements_of (map statement l.fn.list))

abbrev pub invariant-need_of_arms-loop-a : goal.invariant-need_of_arms-loop-a
invariant-need_of_arms-loop-a l =
    max l.need (n.need_arms l.env (arms_of (map arm (drop l.a-index l.arms))))
    ≡ n.need_arms l.fn.env (arms_of (map arm l.fn.arms))
