use Rattle.std.proofs.Common.{◌≡◌, ap, sym, Ok}
use Rattle.cp_model_program.specs.Starts.{word}
use Rattle.cp_model_machine.specs.Values.{value_of}
use Rattle.cp_program.specs.Reaches.{view_with}
use Rattle.cp_program.specs.View as view
use Rattle.cp_program.proofs.Found.{found_as}
use Rattle.cp_program.proofs.reach.Memory.fast_member.Goals as goal

pub returns : goal.returns
returns g c clock =
    let v = view_with c.args.self.now c.args.shared.now clock in
    let there : value_of v (view.member c.args.at) ≡ Ok (word v.words c.member.result) = ap (λ a. Ok (word v.words a)) (sym c.member.ensures.place) in
    found_as c.fast_word.result _ _ there (c.fast_word.ensures)
