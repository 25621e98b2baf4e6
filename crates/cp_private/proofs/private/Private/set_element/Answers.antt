use Rattle.std.proofs.Common.{rules, ◌≡◌, to_z, of_z, Err, length, refl, ap, sym, ◌∙◌}
use Rattle.std.specs.Int.{w32}
use Rattle.cp_model_machine.specs.Steps.{set_within}
use Rattle.cp_private.specs.States.{join, outcome}
use Rattle.cp_private.proofs.Results.{placed, unplaced}
use Rattle.cp_private.proofs.private.Private.set_element.Goals as goal

pub returns-in_err-at-clause-step : goal.returns-in_err-at-clause-step
returns-in_err-at-clause-step c =
    let own = length c.args.self.now.memory.words.items in
    let input = c.args.outside.now.input.now in
    let place = c.element_place.ensures input own in
    let given : c.from_residual.result ≡ Err c.in_err-at.field-0.0 = search rules in
    let is = unplaced _ _ (sym c.in_err-at.was ∙ place) in
    rw (given, is) refl

pub returns-in_err-n-clause-step : goal.returns-in_err-n-clause-step
returns-in_err-n-clause-step c =
    let own = length c.args.self.now.memory.words.items in
    let input = c.args.outside.now.input.now in
    let place = c.element_place.ensures input own in
    let given : c.from_residual-in_err-n.result ≡ Err c.in_err-n.field-0.0 = search rules in
    let found = placed _ _ (sym c.in_ok-at.was ∙ place) in
    let is = sym c.in_err-n.was ∙ c.evaluate.ensures input own in
    rw (given, found.1, ← is) refl

pub returns-clause-step : goal.returns-clause-step
returns-clause-step c =
    let own = length c.args.self.now.memory.words.items in
    let input = c.args.outside.now.input.now in
    let place = c.element_place.ensures input own in
    let found = placed _ _ (sym c.in_ok-at.was ∙ place) in
    let is = sym c.in_ok-n.was ∙ c.evaluate.ensures input own in
    let whole : to_z w32 (of_z w32 c.in_ok-n.n) ≡ c.in_ok-n.n = search rules in
    let o = join c.args.self.now input c.args.shared.now in
    let to = c.args.assignment.now in
    let done : outcome (join c.set_within.new.self input c.set_within.new.shared) c.set_within.result ≡ set_within o to.bounds.low to.bounds.high found.0 c.in_ok-n.n to.next =
    c.set_within.ensures.step input found.0 found.2
    ∙ ap (λ n. set_within o to.bounds.low to.bounds.high found.0 n to.next) whole in
    rw (found.1, ← is) done
