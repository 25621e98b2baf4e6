use Rattle.std.proofs.Common.{map, ap, ◌∙◌}
use Rattle.cp_model_machine.specs.KernelSteps.{Kernel}
use Rattle.cp_model_machine.specs.Machines.{next_stage}
use Rattle.cp_program.specs.View as view
use Rattle.cp_kernel.specs.KernelOf.{kernel_of}
use Rattle.cp_search_states.proofs.Moving.{calm_if_same}
use Rattle.cp_search_states.proofs.alone.is_calm.Goals as goal

pub returns : goal.returns
returns c = λ e.
    calm_if_same (view.program c.args.program.now) (kernel_of c.args.kernel.now) (kernel_of c.end_round.new.kernel) c.settling.ensures.closed
    (c.end_round.ensures.kernel ∙ ap (λ (q : Kernel). record q { stages = map next_stage q.stages }) c.in_ok-closed.ensures)
    (c.is_same.ensures e)
