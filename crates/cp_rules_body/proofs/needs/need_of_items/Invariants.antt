use Rattle.std.proofs.Common.{◌≡◌, map, max, drop}
use Rattle.cp_model.specs.RulesNeeds as n
use Rattle.cp_model.specs.View.{init_item}
use Rattle.cp_rules_body.proofs.needs.need_of_items.Given as goal

-- the greatest need so far and that of the rest are together the need of all
abbrev pub invariant-loop-i : goal.invariant-loop-i
invariant-loop-i l =
    max l.need (n.need_items l.env (map init_item (drop l.i-index l.items)))
    ≡ n.need_items l.fn.env (map init_item l.fn.items)
