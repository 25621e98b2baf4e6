use Rattle.std.proofs.Common.{◌≡◌, map, drop}
use Rattle.cp_model.specs.RulesNames as n
use Rattle.cp_model.specs.View.{index, indices_of}
use Rattle.cp_rules_body.proofs.designators.indexed_type.Given as goal

-- the type of the part after the indices that are left
abbrev pub invariant-loop : goal.invariant-loop
invariant-loop l =
    n.indexed_type l.env l.of (indices_of (map index (drop l.index l.indices)))
    ≡ n.indexed_type l.fn.env l.fn.of (indices_of (map index l.fn.indices))
