use Rattle.std.proofs.Common.{◌≡◌, ◌<◌, ◌∙◌, ap, arith, length, length-append, refl, rules, subst, sym}
use Rattle.std.proofs.lemmas.Option.{slice_get_read}
use Rattle.std.specs.Prelude.{Some}
use Rattle.cp_compile_symbols.specs.Representing.{system_at}
use Rattle.cp_compile_symbols.proofs.Representing.{grows_more, same_system, still_scope}
use Rattle.cp_compile_symbols.proofs.SystemsMade.{AreTables, all_tables, builds_more, builds_nothing, no_tables, one_table}
use Rattle.cp_compile_symbols.proofs.layout.Layouts.systems.Goals as goal

pub loop-number-init : goal.loop-number-init
loop-number-init c = record {
  count = ap length c.new-tables.ensures.items;
  made = record {
    builds = builds_nothing c.args.names.now c.args.types.now c.args.self.now.rows.items;
    represents = λ g later scope laid grows. no_tables g later c.new-tables.result.items c.new-tables.ensures.items;
  };
}

pub loop-number-preserved : goal.loop-number-preserved
loop-number-preserved c =
    let names = c.args.names.now in
    let old = c.args.types.now in
    let here = c.loop-number.types in
    let new = c.system.new.types in
    let ls = c.args.self.now.rows.items in
    let ms = c.loop-number.self.rows.items in
    let ns = c.system.new.self.rows.items in
    let tables = c.loop-number.tables.items in
    let items = c.in_ok-push.ensures.items in
    let y = c.index-y.result.now in
    let before = c.loop-number.invariant in
    let count : c.len-number-end.result ≡ length old.systems.items = search rules in
    let same = ap length before.made.builds.grows.systems in
    let within : c.loop-number.number < length here.systems.items = omega (arith, count, same, c.loop-number-test.true) in
    let there : system_at here c.loop-number.number ≡ Some y =
    slice_get_read here.systems.items (length here.systems.items) c.loop-number.number y refl within c.index-y.ensures in
    let at : system_at here (length tables) ≡ Some y = ap (system_at here) before.count ∙ there in
    let one = rw (c.deref.ensures.value, c.deref-in-loop-number.ensures.value, c.deref-in-loop-number-2.ensures.value) at c.in_ok-table.ensures in
    record {
      count = grind (arith, length-append, items, before.count);
      made = record {
        builds = builds_more names old here new ls ms ns before.made.builds one.builds;
        represents = λ g later scope laid grows.
            let from = grows_more here new later one.builds.grows grows in
            subst (AreTables g later) (sym items)
            (one_table g later tables c.in_ok-table.table y (same_system here later from (length tables) ∙ at)
            (one.represents g later (still_scope old here before.made.builds.grows names g scope) (before.made.builds.laid g scope laid) grows)
            (before.made.represents g later scope laid from));
      };
    }

pub index-y-requires : goal.index-y-requires
index-y-requires c =
    let old = c.args.types.now in
    let here = c.loop-number.types in
    let count : c.len-number-end.result ≡ length old.systems.items = search rules in
    let same = ap length c.loop-number.invariant.made.builds.grows.systems in
    omega (arith, count, same, c.loop-number-test.true, here.systems.ok.0)

pub returns : goal.returns
returns c = record {
  builds = c.loop-number.invariant.made.builds;
  represents = λ g later scope laid grows.
      let count : c.len-number-end.result ≡ length c.args.types.now.systems.items = search rules in
      let same = ap length (grows.systems ∙ c.loop-number.invariant.made.builds.grows.systems) in
      all_tables g later c.loop-number.tables.items (omega (arith, count, same, c.loop-number-test.false, c.loop-number.invariant.count))
      (c.loop-number.invariant.made.represents g later scope laid grows);
}
