use Rattle.std.proofs.Common.{rules, ◌≡◌, Err, length, refl, ap, sym, ◌∙◌}
use Rattle.std.specs.Prelude.{pos, if◌then◌else◌}
use Rattle.cp_model.specs.Integers.{same_integer}
use Rattle.cp_model_machine.specs.PrivateStates.{go_to, private_outcome}
use Rattle.cp_private.specs.States.{join}
use Rattle.cp_private.proofs.private.Private.test.Goals as goal

pub returns-in_err-n-clause-step : goal.returns-in_err-n-clause-step
returns-in_err-n-clause-step c =
    let own = length c.args.self.now.memory.words.items in
    let input = c.args.outside.now.input.now in
    let given : c.from_residual.result ≡ Err c.in_err-n.field-0.0 = search rules in
    let is = sym c.in_err-n.was ∙ c.evaluate.ensures input own in
    rw (given, ← is) refl

pub returns-clause-step : goal.returns-clause-step
returns-clause-step c =
    let own = length c.args.self.now.memory.words.items in
    let input = c.args.outside.now.input.now in
    let is = sym c.in_ok-n.was ∙ c.evaluate.ensures input own in
    let o = join c.args.self.now input c.args.shared.now in
    let goes : c.if-n-eq1.self ≡ (if same_integer c.in_ok-n.n (pos 1) then c.args.yes else c.args.no) = search rules in
    rw (← is) (ap (λ p. private_outcome (go_to p o)) goes)
