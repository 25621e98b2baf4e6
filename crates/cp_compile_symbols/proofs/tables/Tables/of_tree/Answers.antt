use Rattle.cp_model.specs.Declarations.{globals}
use Rattle.cp_model.specs.Erase as erase
use Rattle.cp_model.specs.View as view
use Rattle.cp_compile_symbols.proofs.Representing.{grows_not, still_scope}
use Rattle.cp_compile_symbols.proofs.Laying.{nothing_laid}
use Rattle.cp_compile_symbols.proofs.tables.Tables.of_tree.Goals as goal

pub returns : goal.returns
returns c =
    let g = globals (erase.abstract (view.tree c.args.tree.now)) in
    let names = c.in_ok-outer.outer.names in
    let t0 = c.in_ok-outer.outer.types in
    let t1 = c.systems.new.types in
    let t2 = c.system.new.types in
    let one = c.in_ok-systems.ensures in
    let two = rw (c.deref.ensures.value, c.deref-2.ensures.value) at c.in_ok-initial.ensures in
    let scope = c.in_ok-outer.ensures in
    let scope_1 = still_scope t0 t1 one.builds.grows names g scope in
    let scope_2 = still_scope t1 t2 two.builds.grows names g scope_1 in
    let laid = nothing_laid g t0 c.new-layouts.result.rows.items c.new-layouts.ensures in
    let laid_1 = one.builds.laid g scope laid in
    record {
      scope = scope_2;
      laid = record { laid = c.in_ok-extend.ensures.laid g scope_2 (two.builds.laid g scope_1 laid_1); complete = c.in_ok-extend.ensures.complete };
      systems = one.represents g t2 scope laid two.builds.grows;
      initial = two.represents g t2 scope_1 laid_1 (grows_not t2);
    }
