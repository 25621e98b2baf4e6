use Rattle.std.proofs.Common.{◌≡◌, drop}
use Rattle.cp_rules.specs.Headings.{collection, with_names}
use Rattle.cp_rules.proofs.headings.Heading.add.Given as goal

-- the rest of the names leads to the same end as all of them
abbrev pub invariant-loop-x : goal.invariant-loop-x
invariant-loop-x l =
    with_names (collection l.self) l.entity l.row (drop l.x-index l.names) ≡ with_names (collection l.fn.self) l.fn.entity l.fn.row l.fn.names
