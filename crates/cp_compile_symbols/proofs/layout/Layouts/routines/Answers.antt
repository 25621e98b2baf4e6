use Rattle.std.proofs.Common.{◌≡◌, ◌++◌, ◌∷◌, ◌+◌, ◌∙◌, List, ap, drop, subst, sym}
use Rattle.std.proofs.lemmas.List.{at_drop_more, drop_all}
use Rattle.cp_model.specs.declared.tree.Routine as tree
use Rattle.cp_compile_symbols.specs.declared.routines.RoutineTable.{RoutineTable}
use Rattle.cp_compile_symbols.specs.Systems.{AreRoutines, routines_of}
use Rattle.cp_compile_symbols.proofs.SystemsMade.{PartlyMade, all_made, builds_nothing, one_made}
use Rattle.cp_compile_symbols.proofs.layout.Layouts.routines.Goals as goal

pub loop-text-init : goal.loop-text-init
loop-text-init c = record {
  builds = builds_nothing c.args.names.now c.args.types.now c.args.self.now.rows.items;
  represents = λ g later rest scope laid grows r.
      subst (λ (ts : List RoutineTable). AreRoutines g later (ts ++ rest) (routines_of c.args.texts.now)) (sym c.new-tables.ensures.items) r;
}

pub loop-text-preserved : goal.loop-text-preserved
loop-text-preserved c =
    let all = c.args.texts.now in
    let i = c.loop-text.text-index in
    let text = c.text-item.result in
    let left = drop (i + 1) all in
    let names = c.args.names.now in
    let old = c.args.types.now in
    let ls = c.args.self.now.rows.items in
    let ms = c.loop-text.self.rows.items in
    let ns = c.routine.new.self.rows.items in
    let tables = c.loop-text.tables.items in
    let step : drop i all ≡ text ∷ left =
    at_drop_more (λ (ts : List tree.Routine). ts) all i text c.loop-text-test.true ∙ ap (λ (t : tree.Routine). t ∷ left) (sym c.text-item.is) in
    let some = subst (λ rs. PartlyMade names old c.loop-text.types ls ms all rs tables) step c.loop-text.invariant in
    subst (PartlyMade names old c.routine.new.types ls ns all left) (sym c.in_ok-push.ensures.items)
    (one_made names old c.loop-text.types c.routine.new.types ls ms ns all left text tables c.in_ok-table.table some c.in_ok-table.ensures)

pub returns : goal.returns
returns c =
    all_made c.args.names.now c.args.types.now c.loop-text.types c.args.self.now.rows.items c.loop-text.self.rows.items c.args.texts.now
    (drop c.loop-text.text-index c.args.texts.now) c.loop-text.tables.items (drop_all c.loop-text.text-index c.args.texts.now c.loop-text-test.false)
    c.loop-text.invariant
