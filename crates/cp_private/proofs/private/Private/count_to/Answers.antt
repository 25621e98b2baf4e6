use Rattle.std.proofs.Common.{rules, arith, ◌≡◌, ◌+◌, true, length, to_z, of_z, ap, ◌∙◌}
use Rattle.std.specs.Int.{w32}
use Rattle.cp_model.specs.Places.{within}
use Rattle.cp_model_machine.specs.PrivateStates.{go_to, private_outcome, set_temp, view_of}
use Rattle.cp_model_machine.specs.Values.{root_place}
use Rattle.cp_program.specs.Reaches.{cap_place}
use Rattle.cp_program.specs.View as view
use Rattle.cp_private.specs.States.{join, outside_of}
use Rattle.cp_private.proofs.private.Private.count_to.Goals as goal

pub returns-clause-step : goal.returns-clause-step
returns-clause-step c =
    let own = length c.args.self.now.memory.words.items in
    let input = c.args.outside.now.input.now in
    let counting = c.args.counting.now in
    let o = join c.args.self.now input c.args.shared.now in
    let inside : within counting.bounds.low counting.bounds.high c.args.n ≡ true = search rules in
    let n : to_z w32 (of_z w32 c.args.n) ≡ c.args.n = search rules in
    let last : to_z w32 (of_z w32 c.args.last) ≡ c.args.last = search rules in
    let root = view.root counting.variable in
    let view_is = c.reach.ensures input own in
    let place = root_place (view_of (outside_of c.args.outside.now own) o) root in
    let at : c.root_place-at.result ≡ place = c.root_place-at.ensures.place ∙ ap (λ v. root_place v root) view_is in
    let reported : cap_place place ≡ c.root_place-at.result = omega (arith, c.root_place-at.ensures.small) in
    let t = o.temp + counting.temp in
    let written = rw n at (c.set_word.ensures.step input place reported) in
    let counted = rw n at (c.set_temp.ensures.step input c.set_word.new.shared) in
    let bounded = rw last at (c.set_temp-2.ensures.step input c.set_word.new.shared) in
    let all = bounded ∙ ap (λ x. set_temp x (t + 1) c.args.last) (counted ∙ ap (λ x. set_temp x t c.args.n) written) in
    rw inside (ap (λ x. private_outcome (go_to counting.body x)) all)
