use Rattle.cp_compile_lower.proofs.Initialising.{table_found}
use Rattle.cp_compile_lower.proofs.translator.Translator.system_table.Goals as goal

pub returns : goal.returns
returns c = λ s n scope named.
    let tables = c.args.self.now.scope.tables.now in
    table_found s.globals tables.types tables.systems.items c.args.component.now.system named.text n.system c.system.result scope.systems named.there named.system
    (rw c.tables.ensures at c.system.ensures)
