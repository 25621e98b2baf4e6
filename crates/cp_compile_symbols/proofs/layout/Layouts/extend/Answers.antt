use Rattle.std.proofs.Common.{◌≡◌, ◌∙◌, ap, arith, length, length-append, refl, rules, subst, sym}
use Rattle.std.proofs.lemmas.Option.{slice_get_read}
use Rattle.std.specs.Prelude.{Some}
use Rattle.cp_compile_symbols.specs.Layouts.{AreLaid}
use Rattle.cp_compile_symbols.specs.Representing.{row_at}
use Rattle.cp_compile_symbols.proofs.Laying.{one_more_laid}
use Rattle.cp_compile_symbols.proofs.layout.Layouts.extend.Goals as goal

pub loop-number-preserved : goal.loop-number-preserved
loop-number-preserved c =
    let types = c.args.types.now in
    let before = c.loop-number.self.rows.items in
    let items = c.in_ok-push.ensures.items in
    let row = c.index.result.now in
    let there : row_at types c.loop-number.number ≡ Some row =
    slice_get_read types.rows.items (length types.rows.items) c.loop-number.number row refl (search rules) c.index.ensures in
    let at : row_at types (length before) ≡ Some row = ap (row_at types) c.loop-number.invariant.count ∙ there in
    record {
      count = grind (arith, length-append, items, c.loop-number.invariant.count);
      laid = λ g scope laid.
          subst (AreLaid g types) (sym items)
          (one_more_laid c.args.names.now types before row c.in_ok-layout.layout g scope at c.in_ok-layout.ensures (c.loop-number.invariant.laid g scope laid));
    }
