use Rattle.std.proofs.Common.{rules, arith, ◌≡◌, ◌+◌, true, false, Err, None, refl, to_z, of_z, sym, ◌∙◌}
use Rattle.std.specs.Int.{w32}
use Rattle.cp_model.specs.Places.{within}
use Rattle.cp_private.proofs.private.Private.pass_value.Goals as goal

pub returns-in_err-n-clause-step : goal.returns-in_err-n-clause-step
returns-in_err-n-clause-step c =
    λ own.
    let given : c.from_residual.result ≡ Err c.in_err-n.field-0.0 = search rules in
    let is = sym c.in_err-n.was ∙ c.evaluate.ensures c.args.outside.now.input.now own in
    rw (given, ← is) refl

pub returns-then-not-contain-clause-step : goal.returns-then-not-contain-clause-step
returns-then-not-contain-clause-step c =
    λ own.
    let is = sym c.in_ok-n.was ∙ c.evaluate.ensures c.args.outside.now.input.now own in
    let outside : within c.args.bounds.now.low c.args.bounds.now.high c.in_ok-n.n ≡ false = search rules in
    rw (← is, outside) refl

pub returns-clause-step : goal.returns-clause-step
returns-clause-step c =
    λ own.
    let input = c.args.outside.now.input.now in
    let is = sym c.in_ok-n.was ∙ c.evaluate.ensures input own in
    let inside : within c.args.bounds.now.low c.args.bounds.now.high c.in_ok-n.n ≡ true = search rules in
    let whole : to_z w32 (of_z w32 c.in_ok-n.n) ≡ c.in_ok-n.n = search rules in
    let written = rw whole at (c.set_word.ensures.step input (c.args.to + c.args.far.now) (omega (arith, c.requires.to))) in
    rw (← is, inside) (λ i. record { own = written i; fault = None })
