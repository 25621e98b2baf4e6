use Rattle.std.proofs.Common.{rules, ◌≡◌, Ok, IfSome, ap, sym, subst, ◌∙◌, to_z, of_z, w32}
use Rattle.cp_model_machine.specs.Values.{bind, value_of}
use Rattle.cp_program.specs.Reaches.{index_offset, offset_of, view_with}
use Rattle.cp_program.specs.View as view
use Rattle.cp_program.proofs.Chains.{index_far}
use Rattle.cp_program.proofs.Found.{found, reported}
use Rattle.cp_program.proofs.term.Index.flat_offset.Goals as goal

pub returns-in_ok-n-in-Far : goal.returns-in_ok-n-in-Far
returns-in_ok-n-in-Far g c clock =
    let v = view_with c.args.memory.now c.args.shared.now clock in
    let x = c.in-Far in
    let i = view.index_of x.part (view.term x.value) in
    let n = c.in_ok-n-in-Far.n in
    let same : to_z w32 (of_z w32 n) ≡ n = search rules in
    let valued : value_of v (view.term x.value) ≡ Ok n = reported _ n _ c.in_ok-n-in-Far.was (c.flat_value.ensures clock) in
    let led : IfSome c.ok.result (λ far. offset_of i n ≡ Ok far) =
    subst (λ r. IfSome c.ok.result (λ far. r ≡ Ok far)) (c.offset.ensures ∙ ap (offset_of i) same) (search rules) in
    found c.ok.result _ _
    (ap (λ r. bind r (offset_of i)) (sym valued) ∙ ap (index_offset v) (sym (ap view.index x.is ∙ index_far x.part x.value)))
    led
