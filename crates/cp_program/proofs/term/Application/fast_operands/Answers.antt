use Rattle.std.proofs.Common.{rules, ◌≡◌, subst, IfSome}
use Rattle.cp_model.specs.Erase.{operator_of}
use Rattle.cp_model_machine.specs.Values as values
use Rattle.cp_program.specs.Reaches.{apply_operation, view_with}
use Rattle.cp_program.specs.View as view
use Rattle.cp_program.proofs.Found.{kept}
use Rattle.cp_program.proofs.term.Application.fast_operands.Goals as goal

pub returns-in_default : goal.returns-in_default
returns-in_default g c clock =
    let v = view_with c.args.memory.now c.args.shared.now clock in
    let left : kept c.args.left ≡ c.args.left = search rules in
    subst
    (λ y. IfSome c.flat_operands.result (λ x. apply_operation v y (view.application c.args.self.now)
    ≡ values.apply (operator_of x.operator) x.left x.right))
    left (c.flat_operands.ensures clock)
