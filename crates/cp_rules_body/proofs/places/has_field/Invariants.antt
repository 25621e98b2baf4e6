use Rattle.std.proofs.Common.{◌≡◌, map, drop}
use Rattle.cp_model.specs.RulesNames as r
use Rattle.cp_model.specs.View.{selector, selectors_of}
use Rattle.cp_rules_body.proofs.places.has_field.Given as goal

-- whether a field is among the selectors that are left
abbrev pub invariant-loop-s : goal.invariant-loop-s
invariant-loop-s l =
    r.has_field (selectors_of (map selector (drop l.s-index l.selectors))) ≡ r.has_field (selectors_of (map selector l.fn.selectors))
