use Rattle.std.proofs.Common.{◌≡◌, ◌∙◌, ap, subst, pos, negsuc, IfSome, Ok}
use Rattle.std.specs.Prelude.{int_div}
use Rattle.std.specs.Int.{w32, cast_unsigned}
use Rattle.cp_model_program.specs.Functions.{in_range}
use Rattle.cp_program.proofs.Wide.{apart, in_range_narrow, quotient_fits, unless_zero_passed}
use Rattle.cp_program.proofs.exact.quotient.Goals as goal

pub returns : goal.returns
returns c =
    let a = c.args.a in
    let b = c.args.b in
    let not_one = λ (e : b ≡ negsuc 0). c.if-b-eqminus1.false (ap (cast_unsigned w32) e) in
    let not_zero = λ (e : b ≡ pos 0). c.if-b-eq0.false (ap (cast_unsigned w32) e) in
    let same =
    in_range_narrow int_div a b c.from.result c.ranges.a c.ranges.b (quotient_fits a b c.ranges.a not_one) c.from.type_inv c.from.ensures
    ∙ unless_zero_passed b (in_range (int_div a b)) (apart b not_zero) in
    subst (λ r. IfSome c.in_range.result (λ m. r ≡ Ok m)) same c.in_range.ensures
