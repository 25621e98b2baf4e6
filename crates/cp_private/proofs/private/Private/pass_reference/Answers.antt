use Rattle.std.proofs.Common.{rules, arith, ◌≡◌, Err, None, refl, to_z, of_z, sym, ◌∙◌}
use Rattle.std.specs.Int.{w32}
use Rattle.cp_private.proofs.Results.{placed, unplaced}
use Rattle.cp_private.proofs.private.Private.pass_reference.Goals as goal

pub returns-in_err-place-clause-step : goal.returns-in_err-place-clause-step
returns-in_err-place-clause-step c =
    λ own.
    let given : c.from_residual.result ≡ Err c.in_err-place.field-0.0 = search rules in
    let is = unplaced _ _ (sym c.in_err-place.was ∙ c.place.ensures c.args.outside.now.input.now own) in
    rw (given, is) refl

pub returns-clause-step : goal.returns-clause-step
returns-clause-step c =
    λ own.
    let input = c.args.outside.now.input.now in
    let place = placed _ _ (sym c.in_ok-place.was ∙ c.place.ensures input own) in
    let whole : to_z w32 (of_z w32 c.reference_word-word.result) ≡ c.reference_word-word.result = search rules in
    let value = whole ∙ c.reference_word-word.ensures input place.0 place.2 in
    let written = rw value at (c.set_word.ensures.step input c.args.at (omega (arith, c.requires.at))) in
    rw place.1 (λ i. record { own = written i; fault = None })
