use Rattle.std.proofs.Common.{rules, ◌≡◌, Err, length, refl, ap, sym, ◌∙◌}
use Rattle.cp_model_machine.specs.PrivateStates.{go_to, private_outcome}
use Rattle.cp_private.proofs.Results.{placed, unplaced}
use Rattle.cp_private.proofs.private.Private.copy_words.Goals as goal

pub returns-in_err-at-clause-step : goal.returns-in_err-at-clause-step
returns-in_err-at-clause-step c =
    let own = length c.args.self.now.memory.words.items in
    let input = c.args.outside.now.input.now in
    let given : c.from_residual.result ≡ Err c.in_err-at.field-0.0 = search rules in
    let is = unplaced _ _ (sym c.in_err-at.was ∙ c.place.ensures input own) in
    rw (given, is) refl

pub returns-in_err-from-clause-step : goal.returns-in_err-from-clause-step
returns-in_err-from-clause-step c =
    let own = length c.args.self.now.memory.words.items in
    let input = c.args.outside.now.input.now in
    let given : c.from_residual-in_err-from.result ≡ Err c.in_err-from.field-0.0 = search rules in
    let found = placed _ _ (sym c.in_ok-at.was ∙ c.place.ensures input own) in
    let is = unplaced _ _ (sym c.in_err-from.was ∙ c.place-2.ensures input own) in
    rw (given, found.1, is) refl

pub returns-clause-step : goal.returns-clause-step
returns-clause-step c =
    let own = length c.args.self.now.memory.words.items in
    let input = c.args.outside.now.input.now in
    let to = placed _ _ (sym c.in_ok-at.was ∙ c.place.ensures input own) in
    let from = placed _ _ (sym c.in_ok-from.was ∙ c.place-2.ensures input own) in
    rw (to.1, from.1) (ap (λ o. private_outcome (go_to c.args.next o)) (c.move_words.ensures.step input to.0 from.0 to.2 from.2))
