use Rattle.std.proofs.Common.{rules, arith, ◌≡◌, ◌+◌, map, true, length, ap, sym, ◌∙◌}
use Rattle.std.proofs.lemmas.List.{length-map}
use Rattle.std.specs.Prelude.{not}
use Rattle.cp_model.specs.declared.state.Fault.TheVariants as fault
use Rattle.cp_model_machine.specs.PrivateStates.{Acting, PrivateState, Starts, go_to, guard}
use Rattle.cp_model_machine.specs.Calling.{parameters_start, settle}
use Rattle.cp_model_machine.specs.Passing.{Passing, pass_all, when_passed}
use Rattle.cp_program.specs.View as view
use Rattle.cp_private.specs.Calls.{passing_of}
use Rattle.cp_private.specs.States.{join, outside_of}
use Rattle.cp_private.proofs.private.Private.init_process.Goals as goal

pub returns-clause-step : goal.returns-clause-step
returns-clause-step c =
    let x = c.args.self.now in
    let input = c.args.outside.now.input.now in
    let own = length x.memory.words.items in
    let w = outside_of c.args.outside.now own in
    let o = join x input c.args.shared.now in
    let program = view.program c.args.program.now in
    let next = c.args.next in
    let r = c.args.process in
    let xs = map view.argument c.args.arguments.now in
    let from = o.base + c.args.words in
    let to = own + parameters_start program r in
    let there : c.len.result + c.parameters_start.result ≡ to = omega (arith, c.len.ensures, c.parameters_start.ensures) in
    let count : length c.args.arguments.now ≡ length xs = sym (length-map c.args.arguments.now view.argument) in
    let unset : not (w.is_started r) ≡ true = search rules in
    let p = join c.pass_all.new.self input c.pass_all.new.shared in
    let done : PrivateState → Acting = λ q. (go_to next (settle q from to (length xs)), Starts r) in
    let rest = λ (q : Passing). when_passed q done in
    let all = ap (passing_of p) (sym c.in_ok-pass_all.was) ∙ c.pass_all.ensures.step own ∙ ap (λ k. pass_all w from k xs o) there in
    let settled = c.settle.ensures.step input ∙ (λ i. settle p from (there i) (count i)) in
    let tested = ap (λ b. guard b o fault.InitialisedTwice (rest (pass_all w from to xs o))) unset in
    (λ i. (go_to next (settled i), Starts r)) ∙ (ap rest all ∙ sym tested)
