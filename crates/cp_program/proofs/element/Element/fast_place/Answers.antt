use Rattle.std.proofs.Common.{rules, ◌≡◌, ◌≤◌, ◌+◌, ◌*◌, pos, ◌+ℤ◌, Ok, ap, ◌∙◌, to_z, of_z, w32}
use Rattle.cp_model_machine.specs.Values.{place_of, root_place, value_of}
use Rattle.cp_program.specs.Reaches.{view_with}
use Rattle.cp_program.specs.View as view
use Rattle.cp_program.proofs.ElementPlaces.{element_found}
use Rattle.cp_program.proofs.Found.{found_as, reported}
use Rattle.cp_program.proofs.element.Element.fast_place.Goals as goal

pub returns : goal.returns
returns g c clock =
    let v = view_with c.args.memory.now c.args.shared.now clock in
    let e = c.args.self.now in
    let n = c.in_ok-n.n in
    let d = c.in_ok-distance.distance in
    let same : to_z w32 (of_z w32 n) ≡ n = search rules in
    let known : value_of v (view.slot e.index.slot) ≡ Ok n = reported _ n _ c.in_ok-n.was (c.fast_value.ensures clock) in
    let shifted : pos d ≡ n +ℤ e.index.shift = c.in_ok-distance.ensures.shifted ∙ ap (λ m. m +ℤ e.index.shift) same in
    let last : d ≤ e.index.last = c.in_ok-distance.ensures.last in
    let from : root_place v (view.root e.first) ≡ c.in_ok-from.from = c.in_ok-from.ensures clock in
    let placed : place_of v (view.element e) ≡ Ok (c.in_ok-from.from + d * e.index.part.size) =
    element_found v e n d known shifted last ∙ ap (λ at. Ok (at + d * e.index.part.size)) from in
    found_as c.checked_add.result _ _ placed (search rules)
