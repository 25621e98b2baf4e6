use Rattle.std.proofs.Common.{arith, rules, ◌≡◌, ◌<◌, ◌^◌, ◌++◌, Err, length, refl, ap, sym, ◌∙◌}
use Rattle.std.specs.Prelude.{[], ◌∷◌, if◌then◌else◌}
use Rattle.std.specs.Fmt.{signed_decimal}
use Rattle.std.specs.Int.Signed.{mag}
use Rattle.cp_model.specs.Decimal.{decimal}
use Rattle.cp_model.specs.StandardCalls.{byte}
use Rattle.cp_model_machine.specs.PrivateStates.{go_to, private_outcome}
use Rattle.cp_private.specs.States.{join}
use Rattle.cp_base_digits.proofs.Digits.{decimal_is}
use Rattle.cp_private.proofs.private.Private.display.Goals as goal

pub returns-in_err-n-clause-step : goal.returns-in_err-n-clause-step
returns-in_err-n-clause-step c =
    let own = length c.args.self.now.memory.words.items in
    let input = c.args.outside.now.input.now in
    let given : c.from_residual.result ≡ Err c.in_err-n.field-0.0 = search rules in
    let is = sym c.in_err-n.was ∙ c.evaluate.ensures input own in
    rw (given, ← is) refl

pub returns-then-as_byte-clause-step : goal.returns-then-as_byte-clause-step
returns-then-as_byte-clause-step c =
    let own = length c.args.self.now.memory.words.items in
    let input = c.args.outside.now.input.now in
    let shared = c.args.shared.now in
    let o = join c.args.self.now input shared in
    let is = sym c.in_ok-n.was ∙ c.evaluate.ensures input own in
    let text : c.byte.result ∷ [] ≡ (if c.args.as_byte then byte c.in_ok-n.n ∷ [] else decimal c.in_ok-n.n) = search rules in
    rw (← is) (ap private_outcome (c.write_out.ensures.step input shared ∙ ap (λ t. go_to c.args.next (record o { output = o.output ++ t })) text))

pub returns-else-as_byte-clause-step : goal.returns-else-as_byte-clause-step
returns-else-as_byte-clause-step c =
    let own = length c.args.self.now.memory.words.items in
    let input = c.args.outside.now.input.now in
    let shared = c.args.shared.now in
    let o = join c.args.self.now input shared in
    let is = sym c.in_ok-n.was ∙ c.evaluate.ensures input own in
    let digits : c.as_bytes.result.now ≡ signed_decimal c.in_ok-n.n = search rules in
    let few : mag c.in_ok-n.n < 2 ^ 31 = search rules in
    let text : c.as_bytes.result.now ≡ (if c.args.as_byte then byte c.in_ok-n.n ∷ [] else decimal c.in_ok-n.n) =
    digits ∙ (decimal_is c.in_ok-n.n (omega (arith, few)) ∙ ap (λ b. if b then byte c.in_ok-n.n ∷ [] else decimal c.in_ok-n.n) (sym c.if-as_byte.false)) in
    rw (← is) (ap private_outcome (c.write_out-else-as_byte.ensures.step input shared ∙ ap (λ t. go_to c.args.next (record o { output = o.output ++ t })) text))
