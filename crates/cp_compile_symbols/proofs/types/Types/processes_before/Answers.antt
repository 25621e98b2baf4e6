use Rattle.std.proofs.Common.{rules, ◌≡◌, ◌∷◌, ◌+◌, List, arith, drop, get_or, map, subst, true, false}
use Rattle.std.proofs.lemmas.List.{at_drop_all, at_drop_more}
use Rattle.std.specs.Str.{bytes_eq}
use Rattle.cp_compile_symbols.specs.declared.variables.Declared.{Declared}
use Rattle.cp_compile_symbols.specs.Variables.{declared_entry}
use Rattle.cp_compile_symbols.proofs.Counting.{PartlyCounted, counted_all, counted_here, nothing, one_counted}
use Rattle.cp_compile_symbols.proofs.types.Types.processes_before.Goals as goal

pub loop-d-preserved : goal.loop-d-preserved
loop-d-preserved c =
    let all = c.args.list.now in
    let i = c.loop-d.d-index in
    let d = get_or all i nothing in
    let one = c.component_count-count in
    let step : map declared_entry (drop i all) ≡ declared_entry d ∷ map declared_entry (drop (i + 1) all) =
    at_drop_more (λ (ds : List Declared). map declared_entry ds) all i nothing c.loop-d-test.true in
    let other : bytes_eq c.args.name.now d.name.now ≡ false = search rules in
    record {
      few = omega (arith, c.loop-d.invariant.few, one.ensures.most);
      partly = λ vs represent.
          one_counted c.args.self.now vs (declared_entry d) (map declared_entry (drop (i + 1) all)) c.args.name.now c.loop-d.count one.result other one.ensures.count
          (subst (λ ds. PartlyCounted c.args.self.now vs ds c.args.name.now c.loop-d.count) step (c.loop-d.invariant.partly vs represent));
    }

pub returns-then-eq : goal.returns-then-eq
returns-then-eq c = λ vs represent.
    let all = c.args.list.now in
    let i = c.loop-d.d-index in
    let d = get_or all i nothing in
    let step : map declared_entry (drop i all) ≡ declared_entry d ∷ map declared_entry (drop (i + 1) all) =
    at_drop_more (λ (ds : List Declared). map declared_entry ds) all i nothing c.loop-d-test.true in
    let here : bytes_eq c.args.name.now d.name.now ≡ true = search rules in
    counted_here c.args.self.now vs (declared_entry d) (map declared_entry (drop (i + 1) all)) c.args.name.now c.loop-d.count here
    (subst (λ ds. PartlyCounted c.args.self.now vs ds c.args.name.now c.loop-d.count) step (c.loop-d.invariant.partly vs represent))

pub returns : goal.returns
returns c = λ vs represent.
    counted_all c.args.self.now vs (map declared_entry (drop c.loop-d.d-index c.args.list.now)) c.args.name.now c.loop-d.count
    (at_drop_all (λ (ds : List Declared). map declared_entry ds) c.args.list.now c.loop-d.d-index c.loop-d-test.false) (c.loop-d.invariant.partly vs represent)
