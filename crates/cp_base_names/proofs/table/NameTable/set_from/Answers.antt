use Rattle.std.proofs.Common.{◌≡◌, ◌+◌, ◌∙◌, ap, suc, length, map, sym, arith}
use Rattle.std.proofs.lemmas.List.{length-map}
use Rattle.indexmap.proofs.CallerLemmas.{index_map_len-with_value_at}
use Rattle.indexmap.specs.Layout.{set_value_at}
use Rattle.cp_base_names.specs.Tables.{named, with_values_from}
use Rattle.cp_base_names.proofs.Named.{first_of_values, no_values_left}
use Rattle.cp_base_names.proofs.table.NameTable.set_from.Goals as goal

pub loop-number-init : goal.loop-number-init
loop-number-init g c =
    let es = c.self.inside.entries.entries in
    record {
      count = sym (length-map es named) ∙ ap length c.self.view_is ∙ sym c.len-number-end.ensures.count;
      rest = ap (with_values_from c.args.from c.args.value) c.self.view_is;
    }

pub index_mut-requires : goal.index_mut-requires
index_mut-requires g c =
    let count = c.loop-number.invariant.count in
    let test = c.loop-number-test.true in
    omega (arith, count, test)

pub loop-number-preserved : goal.loop-number-preserved
loop-number-preserved g c =
    let names = c.loop-number.self-inside.entries in
    let n = c.loop-number.number in
    let next : n + 1 ≡ suc n = omega (arith) in
    record {
      count = index_map_len-with_value_at names n c.args.value ∙ c.loop-number.invariant.count;
      rest =
          ap (λ m. with_values_from m c.args.value (map named (set_value_at names.entries n c.args.value))) next
          ∙ first_of_values n c.args.value names.entries ∙ c.loop-number.invariant.rest;
    }

pub returns : goal.returns
returns g c =
    let es = c.loop-number.self-inside.entries.entries in
    let long = length-map es named in
    let count = c.loop-number.invariant.count in
    let end = c.loop-number-test.false in
    sym (no_values_left c.loop-number.number c.args.value (map named es) (omega (arith, long, count, end))) ∙ c.loop-number.invariant.rest
