use Rattle.std.proofs.Common.{◌≡◌, map}
use Rattle.cp_model_machine.specs.Machines as plain
use Rattle.cp_private.specs.States.{stage as stage_view}
use Rattle.cp_kernel.proofs.Changed.{changed_below}
use Rattle.cp_kernel.proofs.closing.close_stages.Given as goal

abbrev pub invariant-loop-stage : goal.invariant-loop-stage
invariant-loop-stage l = map stage_view l.stages ≡ changed_below plain.next_stage l.stage-index (map stage_view l.fn.stages)
