use Rattle.std.proofs.Common.{rules, ◌≡◌, ap, sym, subst, ◌∙◌, ◌∷◌, [], Ok, IfSome, map, to_z, of_z, w32}
use Rattle.cp_program.specs.Reaches.{apply_operation, chain_value, view_with}
use Rattle.cp_program.specs.View as view
use Rattle.cp_program.proofs.Found.{chain_lone, found, one}
use Rattle.cp_program.proofs.flat.flat_value_of_chain.Goals as goal

pub returns-in-len1 : goal.returns-in-len1
returns-in-len1 g c clock =
    let v = view_with c.args.memory.now c.args.shared.now clock in
    let n = c.args.first in
    let x = c.x-item.result in
    let single : c.args.rest.now ≡ x ∷ [] =
    one c.args.rest.now x c.in-len1.len_at_least c.in-len1.len_below ∙ ap (λ y. y ∷ []) (sym c.x-item.is) in
    let same : to_z w32 (of_z w32 n) ≡ n = search rules in
    let applied : IfSome c.flat_value_after.result (λ m. apply_operation v n (view.application x) ≡ Ok m) =
    subst (λ y. IfSome c.flat_value_after.result (λ m. apply_operation v y (view.application x) ≡ Ok m)) same (c.flat_value_after.ensures clock) in
    found c.flat_value_after.result _ _ (chain_lone v n x c.args.rest.now single) applied

pub returns-in_default : goal.returns-in_default
returns-in_default g c clock =
    let v = view_with c.args.memory.now c.args.shared.now clock in
    let same : to_z w32 (of_z w32 c.args.first) ≡ c.args.first = search rules in
    subst (λ y. IfSome c.long_flat_value.result (λ n. chain_value v y (map view.application c.args.rest.now) ≡ Ok n)) same (c.long_flat_value.ensures clock)
