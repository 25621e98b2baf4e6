use Rattle.std.proofs.Common.{rules, arith, ◌≡◌, to_z, of_z, Err, length, refl, ap, sym, ◌∙◌}
use Rattle.std.specs.Int.{w32}
use Rattle.cp_model_machine.specs.PrivateStates.{view_of}
use Rattle.cp_model_machine.specs.Steps.{set_within}
use Rattle.cp_model_machine.specs.Values.{root_place}
use Rattle.cp_program.specs.Reaches.{cap_place}
use Rattle.cp_program.specs.View as view
use Rattle.cp_private.specs.States.{join, outcome, outside_of}
use Rattle.cp_private.proofs.private.Private.set_root.Goals as goal

pub returns-in_err-n-clause-step : goal.returns-in_err-n-clause-step
returns-in_err-n-clause-step c =
    let own = length c.args.self.now.memory.words.items in
    let input = c.args.outside.now.input.now in
    let given : c.from_residual.result ≡ Err c.in_err-n.field-0.0 = search rules in
    let is = sym c.in_err-n.was ∙ c.evaluate.ensures input own in
    rw (given, ← is) refl

pub returns-clause-step : goal.returns-clause-step
returns-clause-step c =
    let own = length c.args.self.now.memory.words.items in
    let input = c.args.outside.now.input.now in
    let o = join c.args.self.now input c.args.shared.now in
    let root = view.root c.args.root in
    let place = root_place (view_of (outside_of c.args.outside.now own) o) root in
    let at : c.root_place-at.result ≡ place = c.root_place-at.ensures.place ∙ ap (λ v. root_place v root) (c.reach.ensures input own) in
    let reported : cap_place place ≡ c.root_place-at.result = omega (arith, c.root_place-at.ensures.small) in
    let is = sym c.in_ok-n.was ∙ c.evaluate.ensures input own in
    let whole : to_z w32 (of_z w32 c.in_ok-n.n) ≡ c.in_ok-n.n = search rules in
    let to = c.args.assignment.now in
    let done : outcome (join c.set_within.new.self input c.set_within.new.shared) c.set_within.result ≡ set_within o to.bounds.low to.bounds.high place c.in_ok-n.n to.next =
    c.set_within.ensures.step input place reported
    ∙ ap (λ n. set_within o to.bounds.low to.bounds.high place n to.next) whole in
    rw (← is) done
