use Rattle.std.proofs.Common.{rules, ◌≡◌, true, false, Err, length, refl, to_z, of_z, sym, ◌∙◌}
use Rattle.std.specs.Int.{w32}
use Rattle.cp_model.specs.Places.{within}
use Rattle.cp_model.specs.StandardCalls.{next_input}
use Rattle.cp_model_machine.specs.PrivateStates.{go_to, private_outcome}
use Rattle.cp_private.proofs.Results.{placed, unplaced}
use Rattle.cp_private.proofs.private.Private.accept.Goals as goal

pub returns-in_err-at-clause-step : goal.returns-in_err-at-clause-step
returns-in_err-at-clause-step c =
    let own = length c.args.self.now.memory.words.items in
    let input = c.args.outside.now.input.now in
    let given : c.from_residual.result ≡ Err c.in_err-at.field-0.0 = search rules in
    let is = unplaced _ _ (sym c.in_err-at.was ∙ c.place.ensures input own) in
    rw (given, is) refl

pub returns-then-not-contain-clause-step : goal.returns-then-not-contain-clause-step
returns-then-not-contain-clause-step c =
    let own = length c.args.self.now.memory.words.items in
    let input = c.args.outside.now.input.now in
    let to = placed _ _ (sym c.in_ok-at.was ∙ c.place.ensures input own) in
    let outside : within c.args.bounds.low c.args.bounds.high (next_input input c.args.self.now.consumed) ≡ false = search rules in
    rw (to.1, outside) refl

pub returns-clause-step : goal.returns-clause-step
returns-clause-step c =
    let own = length c.args.self.now.memory.words.items in
    let input = c.args.outside.now.input.now in
    let consumed = c.args.self.now.consumed in
    let to = placed _ _ (sym c.in_ok-at.was ∙ c.place.ensures input own) in
    let inside : within c.args.bounds.low c.args.bounds.high (next_input input consumed) ≡ true = search rules in
    let taken : to_z w32 (of_z w32 c.next_input-n.result) ≡ next_input input consumed = search rules in
    let written = rw taken at (c.set_word.ensures.step input to.0 to.2) in
    rw (to.1, inside)
    ((λ i. private_outcome (go_to c.args.next (record (written i) { consumed = c.next_place-consumed.ensures i }))))
