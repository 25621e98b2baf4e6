use Rattle.std.proofs.Common.{◌+◌, length, refl, ap, subst, sym, ◌∙◌, arith}
use Rattle.std.specs.Prelude.{Vec}
use Rattle.std.specs.Global.{Global}
use Rattle.cp_program.specs.View as view
use Rattle.cp_kernel.specs.KernelOf.{Bytes, IsBegun, turning}
use Rattle.cp_kernel.proofs.Asking.{less}
use Rattle.cp_kernel.proofs.Stepping.{steps_rest}
use Rattle.cp_kernel.proofs.turns.take_due_steps.Goals as goal

pub loop-left-init : goal.loop-left-init
loop-left-init c = record {
  few = omega arith;
  due = c.requires.due;
  begun = λ _. c.requires.begun;
  room = c.requires.output;
  asking = λ n h. less c.args.kernel.now n h;
  kept = λ n _ h. h;
  transcripts = refl;
  number = refl;
  length = omega arith;
  capacity = omega arith;
  steps = refl;
}

pub take_some_steps-left-requires-clause-asking : goal.take_some_steps-left-requires-clause-asking
take_some_steps-left-requires-clause-asking c =
    let was = c.loop-left.invariant in
    was.kept 1 (subst (IsBegun c.loop-left.kernel) was.number (was.begun c.if-due.true)) c.requires.asking

pub take_some_steps-left-requires-clause-among : goal.take_some_steps-left-requires-clause-among
take_some_steps-left-requires-clause-among c =
    let was = c.loop-left.invariant in
    let count = ap (λ (v : Vec (Bytes) Global). length v.items) was.transcripts in
    record {
      first = omega (arith, was.number, c.requires.among.first);
      last = omega (arith, was.number, c.requires.among.last, count, c.loop-left.kernel.facts.1, c.args.kernel.now.facts.1);
    }

pub loop-left-preserved : goal.loop-left-preserved
loop-left-preserved c =
    let was = c.loop-left.invariant in
    let step = c.take_some_steps-left.ensures in
    let begun = was.begun c.if-due.true in
    let known = subst (IsBegun c.loop-left.kernel) was.number begun in
    record {
      few = omega (arith, step.fewer, was.few);
      due = sym (c.is_due-due.ensures.due c.args.input.now);
      begun = c.is_due-due.ensures.begun;
      room = omega (arith, step.fewer, step.output.length, step.output.capacity, was.room);
      asking = λ n h. step.asking n (was.kept (n + 1) known h);
      kept = λ n now h. step.kept n (subst (IsBegun c.take_some_steps-left.new.kernel) (sym was.number) now) (was.kept n known h);
      transcripts = step.transcripts ∙ was.transcripts;
      number = step.number ∙ was.number;
      length = omega (arith, step.fewer, step.output.length, was.length, was.few);
      capacity = omega (arith, step.output.capacity, was.capacity);
      steps = step.steps ∙ was.steps;
    }

pub returns-else-due-clause-steps : goal.returns-else-due-clause-steps
returns-else-due-clause-steps c =
    let program = view.program c.args.program.now in
    let x = turning c.loop-left.kernel c.loop-left.private c.args.input.now in
    sym (steps_rest program c.args.clock c.loop-left.left x (c.loop-left.invariant.due ∙ c.if-due.false)) ∙ c.loop-left.invariant.steps
