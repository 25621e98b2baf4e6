use Rattle.std.proofs.Common.{ap, ◌∙◌}
use Rattle.cp_model.specs.Names.{lookup}
use Rattle.cp_base_names.proofs.Named.{lookup-named}
use Rattle.cp_base_names.proofs.table.NameTable.find.Goals as goal

pub returns-else-len-le-MAX_COMPARED_NAMES : goal.returns-else-len-le-MAX_COMPARED_NAMES
returns-else-len-le-MAX_COMPARED_NAMES g c =
    c.copied.ensures ∙ c.get.ensures.value ∙ lookup-named c.args.name.now c.self.inside.entries.entries
    ∙ ap (lookup c.args.name.now) c.self.view_is
