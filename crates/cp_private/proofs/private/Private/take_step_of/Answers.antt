use Rattle.std.proofs.Common.{rules, ◌≡◌, [], true, Some, ap, sym, ◌∙◌}
use Rattle.std.proofs.lemmas.List.{nil_from_length}
use Rattle.cp_model_machine.specs.PrivateStates.{Acting, is_running}
use Rattle.cp_model_machine.specs.Steps.{is_private}
use Rattle.cp_program.specs.View as view
use Rattle.cp_private.specs.States.{join, private_of}
use Rattle.cp_private.proofs.Unshared.{private_acted}
use Rattle.cp_private.proofs.private.Private.take_step_of.Goals as goal

pub returns-clause-step : goal.returns-clause-step
returns-clause-step c =
    let input = c.args.outside.now.input.now in
    let program = view.program c.args.program.now in
    let old = c.args.self.now in
    let o = private_of old input in
    let x = view.operation c.args.operation.now in
    let running : is_running o.activity ≡ true = search rules in
    let private : is_private o (Some x) ≡ true = search rules in
    let none : c.make.new.shared ≡ [] = nil_from_length c.make.new.shared (search rules) in
    let made = ap (join c.make.new.self input) (sym none) ∙ ap (λ (a : Acting). a.0) c.make.ensures.step in
    private_acted program c.args.outside.now old c.make.new.self input x c.requires.alone c.requires.next running private made

pub returns-clause-rest : goal.returns-clause-rest
returns-clause-rest c =
    λ over. c.is_ready.ensures.rest over (view.program c.args.program.now) c.args.outside.now.clock c.args.outside.now.input.now
