use Rattle.std.proofs.Common.{rules, ◌≡◌, [], true, Some, length, ap, sym, ◌∙◌}
use Rattle.cp_model_machine.specs.Calling.{call_step}
use Rattle.cp_model_machine.specs.PrivateStates.{is_running}
use Rattle.cp_model_machine.specs.Steps.{act, is_private}
use Rattle.cp_program.specs.View as view
use Rattle.cp_private.specs.States.{join, outside_of, private_of}
use Rattle.cp_private.proofs.Unshared.{private_acted}
use Rattle.cp_private.proofs.private.Private.take_call_of.Goals as goal

pub returns-in-Procedure-clause-step : goal.returns-in-Procedure-clause-step
returns-in-Procedure-clause-step c =
    let input = c.args.outside.now.input.now in
    let program = view.program c.args.program.now in
    let old = c.args.self.now in
    let w = outside_of c.args.outside.now (length old.memory.words.items) in
    let o = private_of old input in
    let x = view.operation c.args.operation.now in
    let running : is_running o.activity ≡ true = search rules in
    let private : is_private o (Some x) ≡ true = search rules in
    let made = c.take_call.ensures.step
    ∙ (λ i. (call_step program w (join old input []) (view.call c.in-Procedure.call) (record { counter = c.new.ensures.counter i; into = c.new.ensures.into i })).0)
    ∙ sym (ap (λ y. (act program w (join old input []) (view.operation y)).0) c.in-Procedure.is) in
    private_acted program c.args.outside.now old c.take_call.new.self input x c.requires.alone c.requires.next running private made

pub returns-in-Function-clause-step : goal.returns-in-Function-clause-step
returns-in-Function-clause-step c =
    let input = c.args.outside.now.input.now in
    let program = view.program c.args.program.now in
    let old = c.args.self.now in
    let w = outside_of c.args.outside.now (length old.memory.words.items) in
    let o = private_of old input in
    let x = view.operation c.args.operation.now in
    let running : is_running o.activity ≡ true = search rules in
    let private : is_private o (Some x) ≡ true = search rules in
    let made = c.take_call-in-Function.ensures.step
    ∙ (λ i. (call_step program w (join old input []) (view.call c.in-Function.call) (record { counter = c.new-in-Function.ensures.counter i; into = c.new-in-Function.ensures.into i })).0)
    ∙ sym (ap (λ y. (act program w (join old input []) (view.operation y)).0) c.in-Function.is) in
    private_acted program c.args.outside.now old c.take_call-in-Function.new.self input x c.requires.alone c.requires.next running private made

pub returns-in-Procedure-clause-rest : goal.returns-in-Procedure-clause-rest
returns-in-Procedure-clause-rest c =
    λ over. c.take_call.ensures.rest over (view.program c.args.program.now) c.args.outside.now.clock c.args.outside.now.input.now

pub returns-in-Function-clause-rest : goal.returns-in-Function-clause-rest
returns-in-Function-clause-rest c =
    λ over. c.take_call-in-Function.ensures.rest over (view.program c.args.program.now) c.args.outside.now.clock c.args.outside.now.input.now
