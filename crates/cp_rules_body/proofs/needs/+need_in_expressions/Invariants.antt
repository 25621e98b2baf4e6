use Rattle.std.proofs.Common.{◌≡◌, map, max, drop}
use Rattle.cp_model.specs.RulesNeeds as n
use Rattle.cp_model.specs.View.{expression, selector, index, operation, indices_of, expressions_of, selectors_of}
use Rattle.cp_rules_body.specs.Needs as parts
use Rattle.cp_rules_body.proofs.needs.+need_in_expressions.Given as goal

-- the greatest need so far and that of the rest are together the need of all
abbrev pub invariant-need_of_expressions-loop-e : goal.invariant-need_of_expressions-loop-e
invariant-need_of_expressions-loop-e l =
    max l.need (n.need_expressions l.env (expressions_of (map expression (drop l.e-index l.list))))
    ≡ n.need_expressions l.fn.env (expressions_of (map expression l.fn.list))

abbrev pub invariant-need_of_indices-loop-i : goal.invariant-need_of_indices-loop-i
invariant-need_of_indices-loop-i l =
    max l.need (n.need_indices l.env (indices_of (map index (drop l.i-index l.indices))))
    ≡ n.need_indices l.fn.env (indices_of (map index l.fn.indices))

abbrev pub invariant-need_of_operations-loop-o : goal.invariant-need_of_operations-loop-o
invariant-need_of_operations-loop-o l =
    max l.need (parts.need_operations l.env (map operation (drop l.o-index l.rest)))
    ≡ parts.need_operations l.fn.env (map operation l.fn.rest)

abbrev pub invariant-need_of_selectors-loop-s : goal.invariant-need_of_selectors-loop-s
invariant-need_of_selectors-loop-s l =
    max l.need (n.need_selectors l.env (selectors_of (map selector (drop l.s-index l.selectors))))
    ≡ n.need_selectors l.fn.env (selectors_of (map selector l.fn.selectors))
