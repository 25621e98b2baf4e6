use Rattle.std.proofs.Common.{◌≡◌, ◌-◌, [], List, ℕ, subst, ap, ◌∙◌}
use Rattle.cp_private.specs.States.{private_of}
use Rattle.cp_model_machine.specs.PrivateStates.{PrivateState}
use Rattle.cp_model_machine.specs.Steps.{private_steps}
use Rattle.cp_program.specs.View as view
use Rattle.cp_rounds_handoff.specs.Inputs.{input_at}
use Rattle.cp_rounds.proofs.events.make_step.Goals as goal

pub returns : goal.returns
returns c =
    let program = view.program c.args.config.now.program in
    let now = c.args.round_time.clock in
    let input = input_at c.args.config.now.inputs.items (c.args.p - 1) in
    record {
      own = subst (λ (l : List ℕ). private_of c.private_turn.new.private l ≡ private_steps program now 1 (private_of c.reserve.new.self l))
          c.input-input.ensures c.private_turn.ensures.steps
          ∙ ap (λ (o : PrivateState). private_steps program now 1 o) (c.reserve.ensures.content input);
      number = c.private_turn.ensures.number ∙ ap (λ (o : PrivateState). o.number) (c.reserve.ensures.content []);
    }
