use Rattle.std.proofs.Common.{◌≡◌, ◌∙◌, ap, pos}
use Rattle.std.specs.Prelude.{int_rem}
use Rattle.std.specs.Int.{w32, cast_unsigned}
use Rattle.cp_model_program.specs.Functions.{in_range}
use Rattle.cp_program.proofs.Wide.{apart, in_range_narrow, rest_fits, unless_zero_passed}
use Rattle.cp_program.proofs.arithmetic.remainder.Goals as goal

pub returns : goal.returns
returns c =
    let a = c.args.a in
    let b = c.args.b in
    let not_zero = λ (e : b ≡ pos 0). c.if-b-eq0.false (ap (cast_unsigned w32) e) in
    c.in_range.ensures
    ∙ (in_range_narrow int_rem a b c.from.result c.ranges.a c.ranges.b (rest_fits a b c.ranges.a) c.from.type_inv c.from.ensures
    ∙ unless_zero_passed b (in_range (int_rem a b)) (apart b not_zero))
