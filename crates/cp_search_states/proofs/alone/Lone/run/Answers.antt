use Rattle.std.proofs.Common.{sym, ◌∙◌}
use Rattle.cp_program.specs.View as view
use Rattle.cp_private.specs.States.{private_of}
use Rattle.cp_kernel.specs.KernelOf.{kernel_of}
use Rattle.cp_search_states.proofs.Moving.{came_first, came_more}
use Rattle.cp_search_states.proofs.alone.Lone.run.Goals as goal

pub loop-turn-init : goal.loop-turn-init
loop-turn-init c =
    came_first (view.program c.args.program.now) c.args.self.now c.step.new.self c.args.input.now (c.in_ok-step.ensures c.if-not-branch.false)
    c.settling.ensures.kernel c.settling.ensures.late c.searching.ensures.nobody

pub make_eager_step-requires-clause-eager : goal.make_eager_step-requires-clause-eager
make_eager_step-requires-clause-eager c = sym (c.way.ensures c.args.input.now) ∙ c.is_eager.ensures.yes c.if-not-is_eager.false

pub loop-turn-preserved : goal.loop-turn-preserved
loop-turn-preserved c =
    let input = c.args.input.now in
    let old = c.args.self.now in
    let mid = c.loop-turn.self in
    let new = c.make_eager_step.new.self in
    came_more (view.program c.args.program.now) (kernel_of old.kernel) (kernel_of mid.kernel) (kernel_of new.kernel)
    (private_of old.private input) (private_of mid.private input) (private_of new.private input)
    c.loop-turn.invariant (c.in_ok-make_eager_step.ensures c.if-not-branch-2.false)

pub returns-then-not-is_eager : goal.returns-then-not-is_eager
returns-then-not-is_eager c = λ e. record {
  come = c.loop-turn.invariant;
  stopped = λ eager. c.is_eager.ensures.no c.if-not-is_eager.true (c.way.ensures c.args.input.now ∙ eager);
}
