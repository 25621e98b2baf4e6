use Rattle.std.proofs.Common.{◌≡◌, map, drop}
use Rattle.cp_model.specs.RulesNames as r
use Rattle.cp_model.specs.View.{designator, selector, selectors_of}
use Rattle.cp_rules_body.proofs.places.last_name.Given as goal

-- the last name of what is left, from this one on
abbrev pub invariant-loop-s : goal.invariant-loop-s
invariant-loop-s l = r.last_of l.last (selectors_of (map selector (drop l.s-index l.s-items))) ≡ r.last_name (designator l.fn.designated)
