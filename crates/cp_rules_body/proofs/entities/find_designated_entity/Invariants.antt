use Rattle.std.proofs.Common.{◌≡◌, map, drop}
use Rattle.cp_model.specs.View.{designator, selector, selectors_of}
use Rattle.cp_rules_body.specs.EntitiesNamed as spec
use Rattle.cp_rules_body.proofs.entities.find_designated_entity.Given as goal

abbrev pub invariant-loop-s : goal.invariant-loop-s
invariant-loop-s l =
    let env = l.env in
    spec.parts env l.entity (selectors_of (map selector (drop l.s-index l.designated.selectors.items))) ≡ spec.designated_entity env (designator l.designated)
