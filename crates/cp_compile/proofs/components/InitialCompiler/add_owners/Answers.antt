use Rattle.std.proofs.Common.{◌≡◌, ◌+◌, ◌∷◌, ◌++◌, List, [], ap, drop, false, get_or, map, refl, subst}
use Rattle.std.proofs.lemmas.List.{at_drop_more, drop_all}
use Rattle.cp_model.specs.Erase as erase
use Rattle.cp_model_program.specs.Compile.{of_sort, owners_of}
use Rattle.cp_compile_symbols.specs.declared.variables.Declared.{Declared}
use Rattle.cp_compile_symbols.specs.Variables.{declared_entry}
use Rattle.cp_compile.proofs.ComponentsCompiled.{PartlyOwned, all_owned, one_owned}
use Rattle.cp_compile.proofs.components.InitialCompiler.add_owners.Goals as goal

-- A placeholder for an index past the end of a list of declared names.
abbrev nothing : Declared
nothing = record { name = record { ref_ptr = (0, 0); now = [] }; by_reference = false; of = 0 }

pub loop-d-init : goal.loop-d-init
loop-d-init c = λ plans g firsts groups vs before i are. record { others = vs; represent = rw c.deref-d-items.ensures.value i.declared; so_far = before; are = are; rest = refl }

pub loop-d-preserved : goal.loop-d-preserved
loop-d-preserved c = λ plans g firsts groups vs before i are.
    let of = c.args.self.now in
    let types = of.tables.now.types in
    let s = erase.sort_of c.args.sort in
    let ds = c.deref-d-items.result.now in
    let all = before ++ owners_of firsts groups (of_sort s vs) in
    let k = c.loop-d.d-index in
    let d = get_or ds k nothing in
    let step : map declared_entry (drop k ds) ≡ declared_entry d ∷ map declared_entry (drop (k + 1) ds) =
    at_drop_more (λ (xs : List Declared). map declared_entry xs) ds k nothing c.loop-d-test.true in
    let some =
    subst (λ xs. PartlyOwned plans g types firsts groups s xs all c.loop-d.owners.items) step (c.loop-d.invariant plans g firsts groups vs before i are) in
    one_owned plans g types firsts groups s (declared_entry d) (map declared_entry (drop (k + 1) ds)) all c.loop-d.owners.items c.add_owner.new.owners.items some
    (λ v xs represents so. c.in_ok-add_owner.ensures plans g firsts groups vs v xs i represents so)

pub returns : goal.returns
returns c = λ plans g firsts groups vs before i are.
    let of = c.args.self.now in
    let s = erase.sort_of c.args.sort in
    let ds = c.deref-d-items.result.now in
    all_owned plans g of.tables.now.types firsts groups s (map declared_entry (drop c.loop-d.d-index ds)) (before ++ owners_of firsts groups (of_sort s vs))
    c.loop-d.owners.items
    (ap (map declared_entry) (drop_all c.loop-d.d-index ds c.loop-d-test.false)) (c.loop-d.invariant plans g firsts groups vs before i are)
