use Rattle.std.proofs.Common.{ap, ◌∙◌}
use Rattle.cp_model_machine.specs.KernelSteps.{stage_of}
use Rattle.cp_law_cores.specs.Verdicts.{moves}
use Rattle.cp_private.specs.States.{activity}
use Rattle.cp_kernel.specs.KernelOf.{kernel_of}
use Rattle.cp_search_states.proofs.verdicts.can_move.Goals as goal

pub returns : goal.returns
returns c = λ input.
    let k = kernel_of c.args.kernel.now in
    c.moves.ensures
    ∙ (ap (λ g. moves g (activity c.activity.result)) (c.stage.ensures ∙ ap (stage_of k.stages) (c.number.ensures.number input))
    ∙ ap (moves (stage_of k.stages c.args.private.now.number)) (c.activity.ensures input))
