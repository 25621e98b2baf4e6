use Rattle.std.proofs.Common.{◌∙◌, sym}
use Rattle.cp_compile_symbols.proofs.Defining.{behind_itself, behind_others}
use Rattle.cp_compile_symbols.proofs.Unrefused.{some_if_some}
use Rattle.cp_compile_symbols.proofs.names.add_first.Goals as goal

pub returns-in_ok-add : goal.returns-in_ok-add
returns-in_ok-add g c = λ y. rw c.in_ok-add.ensures (behind_others c.args.table.now c.args.name.now c.args.value y)

pub returns-else-is_none : goal.returns-else-is_none
returns-else-is_none g c = λ y.
    let there = some_if_some c.find.result c.if-is_none.ensures in
    behind_itself c.args.table.now c.args.name.now c.args.value there.0 y (sym c.find.ensures ∙ there.1)
