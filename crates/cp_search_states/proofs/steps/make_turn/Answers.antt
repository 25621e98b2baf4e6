use Rattle.std.proofs.Common.{ap, ◌∙◌}
use Rattle.cp_model_machine.specs.Steps.{private_steps}
use Rattle.cp_law_cores.specs.Cores.{silent}
use Rattle.cp_program.specs.View as view
use Rattle.cp_search_states.proofs.steps.make_turn.Goals as goal

pub returns : goal.returns
returns c =
    let input = c.args.input.now in
    c.clear_output.ensures.content input
    ∙ ap silent (c.private_turn.ensures.steps ∙ ap (private_steps (view.program c.args.program.now) 0 c.args.turn.steps) (c.reserve.ensures.content input))
