use Rattle.std.proofs.Common.{rules, ◌≡◌, Err, length, to_z, of_z, ap, refl, sym, ◌∙◌}
use Rattle.std.specs.Int.{w32}
use Rattle.cp_model_program.specs.Tables.{place_in}
use Rattle.cp_model_machine.specs.Steps.{go_to_arm}
use Rattle.cp_program.specs.View as view
use Rattle.cp_private.specs.States.{join}
use Rattle.cp_private.proofs.private.Private.choose.Goals as goal

pub returns-in_err-n-clause-step : goal.returns-in_err-n-clause-step
returns-in_err-n-clause-step c =
    let own = length c.args.self.now.memory.words.items in
    let input = c.args.outside.now.input.now in
    let given : c.from_residual.result ≡ Err c.in_err-n.field-0.0 = search rules in
    let is = sym c.in_err-n.was ∙ c.evaluate.ensures input own in
    rw (given, ← is) refl

pub returns-in-Some-clause-step : goal.returns-in-Some-clause-step
returns-in-Some-clause-step c =
    let own = length c.args.self.now.memory.words.items in
    let input = c.args.outside.now.input.now in
    let table = view.table c.args.table.now in
    let o = join c.args.self.now input c.args.shared.now in
    let is = sym c.in_ok-n.was ∙ c.evaluate.ensures input own in
    let whole : to_z w32 (of_z w32 c.in_ok-n.n) ≡ c.in_ok-n.n = search rules in
    let leads = sym c.in-Some.is ∙ c.place.ensures ∙ ap (place_in table) whole in
    rw (← is) (ap (go_to_arm o) leads)

pub returns-in-None-clause-step : goal.returns-in-None-clause-step
returns-in-None-clause-step c =
    let own = length c.args.self.now.memory.words.items in
    let input = c.args.outside.now.input.now in
    let table = view.table c.args.table.now in
    let o = join c.args.self.now input c.args.shared.now in
    let is = sym c.in_ok-n.was ∙ c.evaluate.ensures input own in
    let whole : to_z w32 (of_z w32 c.in_ok-n.n) ≡ c.in_ok-n.n = search rules in
    let leads = sym c.in-None.is ∙ c.place.ensures ∙ ap (place_in table) whole in
    rw (← is) (ap (go_to_arm o) leads)
