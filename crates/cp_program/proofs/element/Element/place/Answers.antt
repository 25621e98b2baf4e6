use Rattle.std.proofs.Common.{rules, arith, ◌≡◌, ◌+◌, ◌*◌, Ok, Err, ap, sym, ◌∙◌, to_z, of_z, w32}
use Rattle.cp_model.specs.Places.{within}
use Rattle.cp_model.specs.declared.state.Fault.TheVariants as fault
use Rattle.cp_model_program.specs.Functions.{unless}
use Rattle.cp_model_program.specs.Layout.{distance}
use Rattle.cp_model_machine.specs.Values.{bind, place_of, root_place, value_of}
use Rattle.cp_program.specs.Reaches.{cap_place, capped_result, view_of}
use Rattle.cp_program.specs.View as view
use Rattle.cp_program.proofs.ElementPlaces.{element_reached}
use Rattle.cp_program.proofs.element.Element.place.Goals as goal

pub returns-in_err-n : goal.returns-in_err-n
returns-in_err-n c =
    let v = view_of c.args.reach.now in
    let e = c.args.self.now in
    let b = e.index.part.bounds in
    let given : c.from_residual.result ≡ Err c.in_err-n.field-0.0 = search rules in
    let valued : value_of v (view.near_index e.index).value ≡ Err c.in_err-n.field-0.0 =
    sym c.value.ensures ∙ c.in_err-n.was in
    given
    ∙ sym (ap capped_result (element_reached v e
    ∙ ap (λ r. bind r (λ m. bind (unless (within b.low b.high m) fault.Index (distance b.low m * e.index.part.size)) (λ k. Ok (root_place v (view.root e.first) + k)))) valued))

pub returns-in_err-far : goal.returns-in_err-far
returns-in_err-far c =
    let v = view_of c.args.reach.now in
    let e = c.args.self.now in
    let b = e.index.part.bounds in
    let n = c.in_ok-n.n in
    let given : c.from_residual-in_err-far.result ≡ Err c.in_err-far.field-0.0 = search rules in
    let valued : value_of v (view.near_index e.index).value ≡ Ok n =
    sym c.value.ensures ∙ c.in_ok-n.was in
    let same : to_z w32 (of_z w32 n) ≡ n = search rules in
    let apart : unless (within b.low b.high n) fault.Index (distance b.low n * e.index.part.size) ≡ Err c.in_err-far.field-0.0 =
    ap (λ m. unless (within b.low b.high m) fault.Index (distance b.low m * e.index.part.size)) (sym same) ∙ (sym c.distance.ensures.words ∙ c.in_err-far.was) in
    given
    ∙ sym (ap capped_result (element_reached v e
    ∙ (ap (λ r. bind r (λ m. bind (unless (within b.low b.high m) fault.Index (distance b.low m * e.index.part.size)) (λ k. Ok (root_place v (view.root e.first) + k)))) valued
    ∙ ap (λ r. bind r (λ k. Ok (root_place v (view.root e.first) + k))) apart)))

pub returns : goal.returns
returns c =
    let v = view_of c.args.reach.now in
    let e = c.args.self.now in
    let b = e.index.part.bounds in
    let n = c.in_ok-n.n in
    let far = c.in_ok-far.far in
    let from = c.root_place-from.result in
    let valued : value_of v (view.near_index e.index).value ≡ Ok n =
    sym c.value.ensures ∙ c.in_ok-n.was in
    let same : to_z w32 (of_z w32 n) ≡ n = search rules in
    let apart : unless (within b.low b.high n) fault.Index (distance b.low n * e.index.part.size) ≡ Ok far =
    ap (λ m. unless (within b.low b.high m) fault.Index (distance b.low m * e.index.part.size)) (sym same) ∙ (sym c.distance.ensures.words ∙ c.in_ok-far.was) in
    let root : root_place v (view.root e.first) ≡ from = sym c.root_place-from.ensures.place in
    let there : place_of v (view.element e) ≡ Ok (from + far) =
    element_reached v e
    ∙ (ap (λ r. bind r (λ m. bind (unless (within b.low b.high m) fault.Index (distance b.low m * e.index.part.size)) (λ k. Ok (root_place v (view.root e.first) + k)))) valued
    ∙ (ap (λ r. bind r (λ k. Ok (root_place v (view.root e.first) + k))) apart ∙ ap (λ k. Ok (k + far)) root)) in
    let reported : c.saturating_add.result ≡ cap_place (from + far) = omega (arith, c.saturating_add.ensures) in
    ap (λ k. Ok k) reported ∙ sym (ap capped_result there)
