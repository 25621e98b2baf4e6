use Rattle.std.proofs.Common.{rules, ◌≡◌, Ok, ap, sym, ◌∙◌, to_z, of_z, w32}
use Rattle.cp_model_machine.specs.Values.{bind, value_of}
use Rattle.cp_program.specs.Reaches.{offset_of, view_of}
use Rattle.cp_program.specs.View as view
use Rattle.cp_program.proofs.element.NearIndex.offset.Goals as goal

pub returns : goal.returns
returns c =
    let i = view.near_index c.args.self.now in
    let n = c.in_ok-n.n in
    let same : to_z w32 (of_z w32 n) ≡ n = search rules in
    let valued : value_of (view_of c.args.reach.now) i.value ≡ Ok n = sym c.value.ensures ∙ c.in_ok-n.was in
    c.offset.ensures ∙ (ap (offset_of i) same ∙ ap (λ r. bind r (offset_of i)) (sym valued))
