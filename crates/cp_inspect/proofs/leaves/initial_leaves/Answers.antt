use Rattle.std.proofs.Common.{[], ap, map, subst, sym}
use Rattle.cp_inspect.specs.LeafCodes.{leaf_codes, leaf_visit}
use Rattle.cp_inspect.specs.Lists.{declared_member}
use Rattle.cp_inspect.specs.Sinks.{IntoLeaves}
use Rattle.cp_inspect.specs.Walks.{ReportsMembers}
use Rattle.cp_inspect.proofs.leaves.initial_leaves.Goals as goal

pub returns : goal.returns
returns c =
    let codes = leaf_codes c.initial.new.self.leaves.items in
    subst (λ places. ReportsMembers c.args.tables.now leaf_visit (map declared_member c.args.tables.now.initial.variables.items) 1 [] (leaf_codes places.items)) (sym c.into_leaves.ensures)
    (subst (λ before. ReportsMembers c.args.tables.now leaf_visit (map declared_member c.args.tables.now.initial.variables.items) 1 before codes) (ap leaf_codes c.new-walk.ensures.leaves)
    (c.in_ok-initial.ensures IntoLeaves))
