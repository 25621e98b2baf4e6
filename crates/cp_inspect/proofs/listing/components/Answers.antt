use Rattle.std.proofs.Common.{rules, ◌≡◌, false, ◌+◌, ◌<◌, [], suc, drop, length, map, subst, sym, arith}
use Rattle.std.specs.Prelude.{filter}
use Rattle.std.specs.Prelude.{slice_index_or}
use Rattle.cp_model.specs.Components.{is_component_of}
use Rattle.cp_model.specs.Erase as erase
use Rattle.cp_compile_symbols.specs.Representing.{entry}
use Rattle.cp_compile_symbols.specs.Variables.{declared_entry}
use Rattle.cp_compile_symbols.specs.declared.variables.Declared.{Declared}
use Rattle.cp_inspect.proofs.Listed.{Listing, next_listed, none_listed}
use Rattle.cp_inspect.proofs.MembersReported.{drop_first}
use Rattle.cp_inspect.proofs.listing.components.Goals as goal

pub loop-variable-init : goal.loop-variable-init
loop-variable-init c =
    λ vs h.
    let types = c.args.tables.now.types in
    let z = erase.sort_of c.args.sort in
    let ds = map declared_entry c.args.tables.now.initial.variables.items in
    let none : c.new-list.result.items ≡ [] = search rules in
    subst (λ fs. Listing types z ds (map entry fs) (filter (λ v. is_component_of z v.1.type) vs)) (sym none) (none_listed types z ds vs h)

pub loop-variable-preserved : goal.loop-variable-preserved
loop-variable-preserved c =
    λ vs h.
    let types = c.args.tables.now.types in
    let z = erase.sort_of c.args.sort in
    let xs = c.args.tables.now.initial.variables.items in
    let ys = c.deref-variable-items.result.now in
    let same : ys ≡ xs = c.deref-variable-items.ensures.value in
    let i = c.loop-variable.variable-index in
    let whole = filter (λ v. is_component_of z v.1.type) vs in
    let es = map entry c.loop-variable.list.items in
    let fs = map entry c.pick.new.list.items in
    let below : i < length ys = search rules in
    let next : suc i ≡ i + 1 = omega arith in
    let before = subst (λ zs. Listing types z (map declared_entry (drop i zs)) es whole) (sym same) (c.loop-variable.invariant vs h) in
    let none : Declared = record { name = record { ref_ptr = (0, 0); now = [] }; by_reference = false; of = 0 } in
    let first = subst (λ ds. Listing types z ds es whole) (drop_first declared_entry ys i none below) before in
    let after = next_listed types z (declared_entry (slice_index_or ys i none)) (map declared_entry (drop (suc i) ys)) es fs whole first c.in_ok-pick.ensures in
    subst (λ n. Listing types z (map declared_entry (drop n xs)) fs whole) next
    (subst (λ zs. Listing types z (map declared_entry (drop (suc i) zs)) fs whole) same after)
