use Rattle.std.proofs.Common.{◌∷◌, ◌∙◌, ap, map}
use Rattle.cp_model.specs.Names.{lookup}
use Rattle.cp_base_names.specs.Tables.{named}
use Rattle.cp_base_names.proofs.Named.{lookup-inserted}
use Rattle.cp_base_names.proofs.table.NameTable.set.Goals as goal

pub returns : goal.returns
returns g c = λ x.
    ap (λ new. lookup x (map named new)) c.in_ok-insert.ensures.entries
    ∙ lookup-inserted x c.self.inside.entries.entries (record { letters = c.args.name }) c.args.value
    ∙ ap (λ names. lookup x ((c.args.name.now, c.args.value) ∷ names)) c.self.view_is
