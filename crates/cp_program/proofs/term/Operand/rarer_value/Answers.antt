use Rattle.std.proofs.Common.{rules, ◌≡◌, pos, ap, sym, ◌∙◌, Ok, to_z, of_z, w32}
use Rattle.cp_model.specs.Integers.{same_integer}
use Rattle.cp_model_program.specs.Starts.{word}
use Rattle.cp_model_program.specs.Terms as terms
use Rattle.cp_model_machine.specs.Values as values
use Rattle.cp_model_machine.specs.Values.{bind, value_of}
use Rattle.cp_program.specs.Reaches.{view_with}
use Rattle.cp_program.specs.View as view
use Rattle.cp_program.proofs.Found.{found_as, operand_not, operand_through}
use Rattle.cp_program.proofs.term.Operand.rarer_value.Goals as goal

pub returns-in_ok-at-in-Through : goal.returns-in_ok-at-in-Through
returns-in_ok-at-in-Through g c clock =
    let v = view_with c.args.memory.now c.args.shared.now clock in
    let x = c.in-Through in
    let at = c.in_ok-at-in-Through.at in
    let there : value_of v (view.operand c.args.self.now) ≡ Ok (word v.words at) =
    ap (λ y. value_of v (view.operand y)) x.is
    ∙ (ap (value_of v) (operand_through x.parameter x.plus) ∙ ap (λ a. Ok (word v.words a)) (c.in_ok-at-in-Through.ensures clock)) in
    found_as c.fast_word.result _ _ there (c.fast_word.ensures)

pub returns-in_ok-flat_value-in-Not : goal.returns-in_ok-flat_value-in-Not
returns-in_ok-flat_value-in-Not g c clock =
    let v = view_with c.args.memory.now c.args.shared.now clock in
    let t = c.in-Not.t in
    let n = c.in_ok-flat_value-in-Not.field-0 in
    let parted : view.operand c.args.self.now ≡ terms.Not (view.term t.value) = ap view.operand c.in-Not.is ∙ operand_not t in
    let known : value_of v (view.term t.value) ≡ Ok n =
    ap (λ x. value_of v (view.term x)) (sym c.deref.ensures) ∙ c.in_ok-flat_value-in-Not.ensures clock in
    let test : c.truth.result ≡ values.truth (same_integer n (pos 0)) = search rules in
    let whole : to_z w32 (of_z w32 c.truth.result) ≡ c.truth.result = search rules in
    ap (value_of v) parted ∙ (ap (λ r. bind r (λ m. Ok (values.truth (same_integer m (pos 0))))) known ∙ ap (λ m. Ok m) (sym (whole ∙ test)))
