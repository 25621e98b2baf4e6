use Rattle.std.proofs.Common.{◌≡◌, ap, Ok}
use Rattle.cp_model_program.specs.Starts.{word}
use Rattle.cp_model_program.specs.Terms as terms
use Rattle.cp_model_machine.specs.Values.{bind, place_of, value_of}
use Rattle.cp_program.specs.Reaches.{view_with}
use Rattle.cp_program.specs.View as view
use Rattle.cp_program.proofs.Found.{found_as, reported}
use Rattle.cp_program.proofs.element.Element.fast_word.Goals as goal

pub returns : goal.returns
returns g c clock =
    let v = view_with c.args.memory.now c.args.shared.now clock in
    let s = view.element c.args.self.now in
    let at = c.in_ok-at.at in
    let placed : place_of v s ≡ Ok at = reported _ at _ c.in_ok-at.was (c.fast_place.ensures clock) in
    let there : value_of v (terms.Item s) ≡ Ok (word v.words at) = ap (λ r. bind r (λ a. Ok (word v.words a))) placed in
    found_as c.fast_word.result _ _ there (c.fast_word.ensures)
