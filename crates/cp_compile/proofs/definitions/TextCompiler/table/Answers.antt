use Rattle.std.proofs.Common.{rules, ◌≡◌, None, Some}
use Rattle.cp_model.specs.Names.{lookup}
use Rattle.cp_compile_lower.proofs.Initialising.{table_found}
use Rattle.cp_compile.specs.CompiledTexts.{system_number}
use Rattle.cp_compile.proofs.TextsCompiled.{system_numbered, system_there}
use Rattle.cp_compile.proofs.definitions.TextCompiler.table.Goals as goal

pub returns-in_err-number : goal.returns-in_err-number
returns-in_err-number c = λ g s ms i is.
    let tables = c.args.self.now.tables.now in
    let x = c.args.name.now in
    let none : system_number tables x ≡ None = search rules in
    absurd (system_numbered tables.types (lookup x tables.names.types) (lookup x g.types) s ms (i.names.types x) is none)

pub returns : goal.returns
returns c = λ g s ms i is.
    let tables = c.args.self.now.tables.now in
    let x = c.args.name.now in
    let k = c.in_ok-number.field-0 in
    let number : system_number tables x ≡ Some k = search rules in
    let there = system_there tables.types (lookup x tables.names.types) (lookup x g.types) s ms k (i.names.types x) is number in
    table_found g tables.types tables.systems.items k there.0 s c.system.result i.systems there.1 there.2 c.system.ensures
