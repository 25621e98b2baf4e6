use Rattle.std.proofs.Common.{rules, ◌≡◌, ap, sym, Ok, ◌∙◌}
use Rattle.cp_program.specs.Reaches.{apply_operation, view_with}
use Rattle.cp_program.specs.View as view
use Rattle.cp_program.proofs.Found.{found, kept}
use Rattle.cp_program.proofs.term.Application.fast_value_after.Goals as goal

pub returns-in-Some : goal.returns-in-Some
returns-in-Some g c clock =
    let v = view_with c.args.memory.now c.args.shared.now clock in
    let left : kept c.args.left ≡ c.args.left = search rules in
    let result : kept c.in-Some.n ≡ c.in-Some.n = search rules in
    ap (λ x. apply_operation v x (view.application c.args.self.now)) (sym left)
    ∙ (c.in-Some.ensures clock ∙ ap (λ n. Ok n) (sym result))

pub returns-in_ok-fast_operands-in-None : goal.returns-in_ok-fast_operands-in-None
returns-in_ok-fast_operands-in-None g c clock =
    let v = view_with c.args.memory.now c.args.shared.now clock in
    let left : kept c.args.left ≡ c.args.left = search rules in
    found _ _ _
    (sym (c.in_ok-fast_operands-in-None.ensures clock) ∙ ap (λ x. apply_operation v x (view.application c.args.self.now)) left)
    c.apply.ensures
