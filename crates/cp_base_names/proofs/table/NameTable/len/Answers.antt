use Rattle.std.proofs.Common.{subst}
use Rattle.cp_base_names.specs.Tables.{AreDistinct}
use Rattle.cp_base_names.proofs.Named.{distinct-named}
use Rattle.cp_base_names.proofs.table.NameTable.len.Goals as goal

pub returns-clause-distinct : goal.returns-clause-distinct
returns-clause-distinct g c = subst AreDistinct c.self.view_is (distinct-named c.self.inside.entries.entries c.len.ensures.unique)
