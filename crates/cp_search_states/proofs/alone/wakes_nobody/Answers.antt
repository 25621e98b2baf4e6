use Rattle.std.proofs.Common.{◌≤◌, arith}
use Rattle.cp_program.specs.View as view
use Rattle.cp_kernel.specs.KernelOf.{kernel_of}
use Rattle.cp_law_exploring.specs.Exploring.{count}
use Rattle.cp_search_states.proofs.Moving.{begun_all, begun_more}
use Rattle.cp_search_states.proofs.alone.wakes_nobody.Goals as goal

pub loop-i-preserved : goal.loop-i-preserved
loop-i-preserved c =
    begun_more (kernel_of c.args.before.now) (kernel_of c.args.after.now) c.loop-i.i c.loop-i.invariant (c.was_begun.ensures c.if-not-was_begun.false)

pub returns : goal.returns
returns c = λ e.
    let n = count (view.program c.args.program.now) in
    let past = c.loop-i-test.false in
    let end = c.processes-i-end.ensures in
    let all : n ≤ c.loop-i.i = omega (arith, past, end) in
    begun_all (kernel_of c.args.before.now) (kernel_of c.args.after.now) n c.loop-i.i c.loop-i.invariant all
