use Rattle.std.proofs.Common.{◌+◌, ◌*◌, subst, vec_len}
use Rattle.cp_kernel.specs.KernelOf.{HasRoomForBytes}
use Rattle.cp_private.specs.declared.private.Private.{Private}
use Rattle.cp_rounds.proofs.finishing.kernel_turn_of.Goals as goal

pub returns-clause-left : goal.returns-clause-left
returns-clause-left g c = λ n.
    let t = c.args.run.now.turns.plan.turn.steps in
    let k = c.args.kernel.now in
    let k' = c.kernel_turn.new.kernel in
    subst (λ (x : Private). HasRoomForBytes k x.number (vec_len x.output + 11 * t + n) → HasRoomForBytes k' x.number n) c.private_mut.ensures.value
    (c.kernel_turn.ensures.left n)
