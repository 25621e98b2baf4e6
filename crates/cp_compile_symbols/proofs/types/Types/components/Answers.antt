use Rattle.std.proofs.Common.{◌≡◌, ◌++◌, ◌∷◌, ◌+◌, List, [], false, drop, get_or, map, subst, sym}
use Rattle.std.proofs.lemmas.List.{at_drop_all, at_drop_more}
use Rattle.cp_compile_symbols.specs.declared.variables.Declared.{Declared}
use Rattle.cp_compile_symbols.specs.Variables.{AreDeclared, declared_entry}
use Rattle.cp_compile_symbols.proofs.Picking.{PartlyPicked, own, all_picked, one_picked}
use Rattle.cp_compile_symbols.proofs.types.Types.components.Goals as goal

-- A placeholder for an index past the end of a list of declared names.
abbrev nothing : Declared
nothing = record { name = record { ref_ptr = (0, 0); now = [] }; by_reference = false; of = 0 }

pub loop-d-init : goal.loop-d-init
loop-d-init c = λ vs represent. record {
  others = vs;
  represent = represent;
  all = λ rest r. subst (λ (ds : List Declared). AreDeclared c.args.self.now (map declared_entry ds ++ rest) (own vs)) (sym c.new-components.ensures.items) r;
}

pub loop-d-preserved : goal.loop-d-preserved
loop-d-preserved c = λ vs represent.
    let types = c.args.self.now in
    let all = c.args.list.now in
    let i = c.loop-d.d-index in
    let d = get_or all i nothing in
    let before = map declared_entry c.loop-d.components.items in
    let step : map declared_entry (drop i all) ≡ declared_entry d ∷ map declared_entry (drop (i + 1) all) =
    at_drop_more (λ (ds : List Declared). map declared_entry ds) all i nothing c.loop-d-test.true in
    one_picked types vs (declared_entry d) (map declared_entry (drop (i + 1) all)) before (map declared_entry c.pick.new.components.items)
    c.in_ok-pick.ensures (subst (λ ds. PartlyPicked types vs ds before) step (c.loop-d.invariant vs represent))

pub returns : goal.returns
returns c = λ vs represent.
    all_picked c.args.self.now vs (map declared_entry (drop c.loop-d.d-index c.args.list.now)) (map declared_entry c.loop-d.components.items)
    (at_drop_all (λ (ds : List Declared). map declared_entry ds) c.args.list.now c.loop-d.d-index c.loop-d-test.false) (c.loop-d.invariant vs represent)
