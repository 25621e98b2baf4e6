use Rattle.std.proofs.Common.{◌∙◌, sym}
use Rattle.cp_compile_symbols.specs.declared.systems.IndexedRoutine.{IndexedRoutine}
use Rattle.cp_compile_symbols.specs.Systems.{routines_of}
use Rattle.cp_compile_symbols.proofs.Called.{not_found, not_missing, routine_found}
use Rattle.cp_compile_symbols.proofs.systems.SystemTable.routine.Goals as goal

pub returns-in-None : goal.returns-in-None
returns-in-None c = λ g types ps vs rs table.
    let x = c.args.name.now in
    not_found g types (routines_of rs) x (sym (table.routine_names x) ∙ sym c.find.ensures ∙ c.in-None.is)

pub returns-in-Some-routine_at : goal.returns-in-Some-routine_at
returns-in-Some-routine_at c = λ g types ps vs rs table.
    let x = c.args.name.now in
    let f : IndexedRoutine = record { index = c.in-Some.index; table = c.in-Some-routine_at.table } in
    routine_found g types c.args.self.now.routines.items (routines_of rs) x f table.routines
    (sym (table.routine_names x) ∙ sym c.find.ensures ∙ c.in-Some.is) (sym c.in-Some-routine_at.ensures)

pub returns-in-None-routine_at : goal.returns-in-None-routine_at
returns-in-None-routine_at c = λ g types ps vs rs table.
    let x = c.args.name.now in
    not_missing g types c.args.self.now.routines.items (routines_of rs) x c.in-Some.index table.routines
    (sym (table.routine_names x) ∙ sym c.find.ensures ∙ c.in-Some.is) (sym c.in-None-routine_at.ensures)
