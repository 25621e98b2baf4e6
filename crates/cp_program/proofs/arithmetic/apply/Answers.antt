use Rattle.std.proofs.Common.{◌≡◌, ◌-ℤ◌, ◌*ℤ◌, ap, sym, ◌∙◌}
use Rattle.cp_model.specs.Erase.{operator_of}
use Rattle.cp_model_machine.specs.Values.{apply}
use Rattle.cp_program.proofs.Wide.{wide, widened, in_range_wide, difference_fits, product_fits}
use Rattle.cp_program.proofs.arithmetic.apply.Goals as goal

pub returns-in-Subtract : goal.returns-in-Subtract
returns-in-Subtract c =
    let a = c.args.a in
    let b = c.args.b in
    let x = c.from-in-Subtract in
    let y = c.from-in-Subtract-2 in
    let p : wide x.result ≡ a = widened a _ c.ranges.a x.type_inv x.ensures in
    let q : wide y.result ≡ b = widened b _ c.ranges.b y.type_inv y.ensures in
    c.in_range-in-Subtract.ensures
    ∙ (in_range_wide (λ x y. x -ℤ y) a b x.result y.result p q (difference_fits a b c.ranges.a c.ranges.b)
    ∙ sym (ap (λ o. apply (operator_of o) a b) c.in-Subtract.is))

pub returns-in-Multiply : goal.returns-in-Multiply
returns-in-Multiply c =
    let a = c.args.a in
    let b = c.args.b in
    let x = c.from-in-Multiply in
    let y = c.from-in-Multiply-2 in
    let p : wide x.result ≡ a = widened a _ c.ranges.a x.type_inv x.ensures in
    let q : wide y.result ≡ b = widened b _ c.ranges.b y.type_inv y.ensures in
    c.in_range-in-Multiply.ensures
    ∙ (in_range_wide (λ x y. x *ℤ y) a b x.result y.result p q (product_fits a b c.ranges.a c.ranges.b)
    ∙ sym (ap (λ o. apply (operator_of o) a b) c.in-Multiply.is))
