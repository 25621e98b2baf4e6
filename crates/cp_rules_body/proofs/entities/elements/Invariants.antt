use Rattle.std.proofs.Common.{◌≡◌, map, drop}
use Rattle.cp_model.specs.View.{index, indices_of}
use Rattle.cp_rules_body.specs.EntitiesNamed as spec
use Rattle.cp_rules_body.proofs.entities.elements.Given as goal

abbrev pub invariant-loop-i : goal.invariant-loop-i
invariant-loop-i l =
    let env = l.env in
    spec.elements env l.entity (indices_of (map index (drop l.i-index l.indices))) ≡ spec.elements env l.fn.entity (indices_of (map index l.indices))
