use Rattle.std.proofs.Common.{◌∙◌, ap, map, sym, take}
use Rattle.std.proofs.lemmas.List.{take-map}
use Rattle.cp_base_names.specs.Tables.{named}
use Rattle.cp_base_names.proofs.table.NameTable.truncate.Goals as goal

pub returns : goal.returns
returns g c =
    ap (map named) c.truncate.ensures.entries ∙ sym (take-map named c.args.len c.self.inside.entries.entries)
    ∙ ap (take c.args.len) c.self.view_is
