use Rattle.std.proofs.Common.{rules, ◌≡◌, Err, length, refl, sym, ◌∙◌}
use Rattle.cp_private.proofs.private.Private.count_from.Goals as goal

pub returns-in_err-n-clause-step : goal.returns-in_err-n-clause-step
returns-in_err-n-clause-step c =
    let own = length c.args.self.now.memory.words.items in
    let input = c.args.outside.now.input.now in
    let given : c.from_residual.result ≡ Err c.in_err-n.field-0.0 = search rules in
    let is = sym c.in_err-n.was ∙ c.evaluate.ensures input own in
    rw (given, ← is) refl

pub returns-in_err-last-clause-step : goal.returns-in_err-last-clause-step
returns-in_err-last-clause-step c =
    let own = length c.args.self.now.memory.words.items in
    let input = c.args.outside.now.input.now in
    let given : c.from_residual-in_err-last.result ≡ Err c.in_err-last.field-0.0 = search rules in
    let first = sym c.in_ok-n.was ∙ c.evaluate.ensures input own in
    let is = sym c.in_err-last.was ∙ c.evaluate-2.ensures input own in
    rw (given, ← first, ← is) refl

pub returns-then-is_past-clause-step : goal.returns-then-is_past-clause-step
returns-then-is_past-clause-step c =
    let own = length c.args.self.now.memory.words.items in
    let input = c.args.outside.now.input.now in
    let first = sym c.in_ok-n.was ∙ c.evaluate.ensures input own in
    let last = sym c.in_ok-last.was ∙ c.evaluate-2.ensures input own in
    rw (← first, ← last) (search rules)

pub returns-clause-step : goal.returns-clause-step
returns-clause-step c =
    let own = length c.args.self.now.memory.words.items in
    let input = c.args.outside.now.input.now in
    let first = sym c.in_ok-n.was ∙ c.evaluate.ensures input own in
    let last = sym c.in_ok-last.was ∙ c.evaluate-2.ensures input own in
    rw (← first, ← last) (search rules)
