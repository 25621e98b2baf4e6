use Rattle.std.proofs.Common.{[], ap, subst, sym}
use Rattle.cp_inspect.specs.LeafCodes.{leaf_codes, leaf_visit}
use Rattle.cp_inspect.specs.Sinks.{IntoLeaves}
use Rattle.cp_inspect.specs.Walks.{ReportsComponent}
use Rattle.cp_inspect.proofs.leaves.leaves.Goals as goal

pub returns : goal.returns
returns c =
    let codes = leaf_codes c.component.new.self.leaves.items in
    subst (λ places. ReportsComponent c.args.tables.now leaf_visit c.args.row 0 [] (leaf_codes places.items)) (sym c.into_leaves.ensures)
    (subst (λ before. ReportsComponent c.args.tables.now leaf_visit c.args.row 0 before codes) (ap leaf_codes c.new-walk.ensures.leaves)
    (c.in_ok-component.ensures IntoLeaves))
