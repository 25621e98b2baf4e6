use Rattle.std.proofs.Common.{◌<◌, ◌^◌, ap, sym, ◌∙◌, arith}
use Rattle.cp_model.specs.OrderText.{at_most}
use Rattle.cp_base_schedule.proofs.Numerals.{digit_added, digit_refused, digits_end}
use Rattle.cp_base_schedule.proofs.words.number.Goals as goal

pub loop-byte-preserved : goal.loop-byte-preserved
loop-byte-preserved c =
    digit_added c.args.digits.now c.loop-byte.value c.loop-byte.byte-index c.loop-byte-test.true c.in_ok-value.value c.in_ok-value.ensures.digit
    ∙ c.loop-byte.invariant

pub returns-in_err-value : goal.returns-in_err-value
returns-in_err-value c =
    let most = c.args.most in
    let below : most < 2 ^ 64 = omega arith in
    c.from_residual.ensures
    ∙ sym (ap (at_most most) (sym c.loop-byte.invariant)
    ∙ digit_refused c.args.digits.now c.loop-byte.value c.loop-byte.byte-index c.loop-byte-test.true most below c.in_err-value.ensures.large)

pub returns : goal.returns
returns c =
    c.then_some.ensures
    ∙ digits_end c.args.digits.now c.loop-byte.value c.loop-byte.byte-index c.args.most c.loop-byte-test.false c.loop-byte.invariant
