use Rattle.std.proofs.Common.{◌≡◌, ◌∷◌, ◌+◌, suc, List, [], add-one, false, drop, get_or, map, refl, subst, sym}
use Rattle.std.proofs.lemmas.List.{at_drop_all, at_drop_more}
use Rattle.cp_compile_symbols.specs.declared.variables.Declared.{Declared}
use Rattle.cp_compile_symbols.specs.Variables.{declared_entry}
use Rattle.cp_compile_symbols.proofs.Picking.{PartlyLaid, all_rights, one_right}
use Rattle.cp_compile_symbols.proofs.types.Types.rights_to.Goals as goal

-- A placeholder for an index past the end of a list of declared names.
abbrev nothing : Declared
nothing = record { name = record { ref_ptr = (0, 0); now = [] }; by_reference = false; of = 0 }

pub loop-i-init : goal.loop-i-init
loop-i-init c = λ vs represent. record { others = vs; represent = represent; found = λ x. rw c.new-rights.ensures refl }

pub loop-i-preserved : goal.loop-i-preserved
loop-i-preserved c = λ vs represent.
    let types = c.args.self.now in
    let all = c.args.components.now in
    let i = c.loop-i.i in
    let d = get_or all i nothing in
    let left = map declared_entry (drop (i + 1) all) in
    let step : map declared_entry (drop i all) ≡ declared_entry d ∷ left =
    at_drop_more (λ (ds : List Declared). map declared_entry ds) all i nothing c.loop-i-test.true in
    let before = subst (λ ds. PartlyLaid types vs (suc i) ds c.loop-i.rights) step (c.loop-i.invariant vs represent) in
    subst (λ n. PartlyLaid types vs (suc n) left c.add_first.new.table) (sym (add-one i))
    (one_right types vs (suc i) (declared_entry d) left c.loop-i.rights c.add_first.new.table (record { at = i + 1; of = d.of }) (add-one i) refl
    c.in_ok-add_first.ensures before)

pub returns : goal.returns
returns c = λ vs represent.
    all_rights c.args.self.now vs (suc c.loop-i.i) (map declared_entry (drop c.loop-i.i c.args.components.now)) c.loop-i.rights
    (at_drop_all (λ (ds : List Declared). map declared_entry ds) c.args.components.now c.loop-i.i c.loop-i-test.false) (c.loop-i.invariant vs represent)
