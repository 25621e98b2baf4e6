use Rattle.std.proofs.Common.{◌≡◌, ◌∷◌, ◌+◌, List, arith, drop, get_or, map, refl, subst}
use Rattle.std.proofs.lemmas.List.{at_drop_all, at_drop_more}
use Rattle.cp_compile_symbols.specs.declared.variables.Declared.{Declared}
use Rattle.cp_compile_symbols.specs.Variables.{declared_entry}
use Rattle.cp_compile_symbols.proofs.Counting.{PartlyNumbered, all_numbered, none_numbered, nothing, one_numbered}
use Rattle.cp_compile_symbols.proofs.types.Types.numbered_names.Goals as goal

pub loop-d-init : goal.loop-d-init
loop-d-init c = record {
  few_monitors = omega arith;
  few_processes = omega arith;
  partly = λ vs represent. none_numbered c.args.self.now vs (map declared_entry c.args.list.now) c.new-names.result c.new-names.ensures represent;
}

pub loop-d-preserved : goal.loop-d-preserved
loop-d-preserved c =
    let types = c.args.self.now in
    let all = c.args.list.now in
    let i = c.loop-d.d-index in
    let d = get_or all i nothing in
    let before = c.loop-d.invariant in
    let m = c.component_count-monitors in
    let p = c.component_count-processes in
    let step : map declared_entry (drop i all) ≡ declared_entry d ∷ map declared_entry (drop (i + 1) all) =
    at_drop_more (λ (ds : List Declared). map declared_entry ds) all i nothing c.loop-d-test.true in
    record {
      few_monitors = omega (arith, before.few_monitors, m.ensures.most);
      few_processes = omega (arith, before.few_processes, p.ensures.most);
      partly = λ vs represent.
          one_numbered types vs (declared_entry d) (map declared_entry (drop (i + 1) all)) c.loop-d.monitors c.loop-d.processes m.result p.result c.loop-d.names
          c.add_first.new.table (record { of = d.of; monitors = c.loop-d.monitors; processes = c.loop-d.processes }) refl refl refl m.ensures.count p.ensures.count
          c.in_ok-add_first.ensures (subst (λ ds. PartlyNumbered types vs ds c.loop-d.monitors c.loop-d.processes c.loop-d.names) step (before.partly vs represent));
    }

pub returns : goal.returns
returns c = λ vs represent.
    all_numbered c.args.self.now vs (map declared_entry (drop c.loop-d.d-index c.args.list.now)) c.loop-d.monitors c.loop-d.processes c.loop-d.names
    (at_drop_all (λ (ds : List Declared). map declared_entry ds) c.args.list.now c.loop-d.d-index c.loop-d-test.false) (c.loop-d.invariant.partly vs represent)
