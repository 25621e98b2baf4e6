use Rattle.std.proofs.Common.{rules, ◌≡◌, ◌≤◌, ◌+◌, ◌*◌, pos, ◌+ℤ◌, Ok, ap, ◌∙◌, to_z, of_z, w32}
use Rattle.cp_model_machine.specs.Values.{value_of}
use Rattle.cp_program.specs.Reaches.{index_offset, view_with}
use Rattle.cp_program.specs.View as view
use Rattle.cp_program.proofs.ElementPlaces.{index_found}
use Rattle.cp_program.proofs.Found.{reported}
use Rattle.cp_program.proofs.element.NearIndex.fast_offset.Goals as goal

pub returns : goal.returns
returns g c clock =
    let v = view_with c.args.memory.now c.args.shared.now clock in
    let i = c.args.self.now in
    let n = c.in_ok-n.n in
    let d = c.in_ok-distance.distance in
    let same : to_z w32 (of_z w32 n) ≡ n = search rules in
    let known : value_of v (view.slot i.slot) ≡ Ok n = reported _ n _ c.in_ok-n.was (c.fast_value.ensures clock) in
    let shifted : pos d ≡ n +ℤ i.shift = c.in_ok-distance.ensures.shifted ∙ ap (λ m. m +ℤ i.shift) same in
    let last : d ≤ i.last = c.in_ok-distance.ensures.last in
    let there : index_offset v (view.near_index i) ≡ Ok (d * i.part.size + i.part.plus) = index_found v i n d known shifted last in
    there ∙ search rules
