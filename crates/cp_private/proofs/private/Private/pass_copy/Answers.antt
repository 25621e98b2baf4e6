use Rattle.std.proofs.Common.{rules, arith, ◌≡◌, Err, None, refl, sym, ◌∙◌}
use Rattle.cp_private.proofs.Results.{placed, unplaced}
use Rattle.cp_private.proofs.private.Private.pass_copy.Goals as goal

pub returns-in_err-from-clause-step : goal.returns-in_err-from-clause-step
returns-in_err-from-clause-step c =
    λ own.
    let given : c.from_residual.result ≡ Err c.in_err-from.field-0.0 = search rules in
    let is = unplaced _ _ (sym c.in_err-from.was ∙ c.place.ensures c.args.outside.now.input.now own) in
    rw (given, is) refl

pub returns-clause-step : goal.returns-clause-step
returns-clause-step c =
    λ own.
    let input = c.args.outside.now.input.now in
    let from = placed _ _ (sym c.in_ok-from.was ∙ c.place.ensures input own) in
    rw from.1 (λ i. record { own = c.move_words.ensures.step input c.args.at from.0 (omega (arith, c.requires.at)) from.2 i; fault = None })
