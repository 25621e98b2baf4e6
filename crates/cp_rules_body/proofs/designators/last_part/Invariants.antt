use Rattle.std.proofs.Common.{◌≡◌, map, drop}
use Rattle.cp_model.specs.RulesNames as n
use Rattle.cp_model.specs.View.{designator, selector, selectors_of}
use Rattle.cp_rules_body.proofs.designators.last_part.Given as goal

-- the last name from this part on
abbrev pub invariant-loop-s : goal.invariant-loop-s
invariant-loop-s l =
    n.last_part l.env l.part (selectors_of (map selector (drop l.s-index l.s-items)))
    ≡ n.last_part_of l.fn.env (designator l.fn.designated)
