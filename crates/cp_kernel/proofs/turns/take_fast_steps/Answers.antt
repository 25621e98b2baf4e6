use Rattle.std.proofs.Common.{◌≡◌, ◌-◌, suc, refl, ap, sym, ◌∙◌, arith}
use Rattle.std.specs.Prelude.{map}
use Rattle.cp_private.specs.States as states
use Rattle.cp_model_machine.specs.KernelSteps as plain
use Rattle.cp_model_machine.specs.PrivateStates.{is_running}
use Rattle.cp_program.specs.View as view
use Rattle.cp_kernel.specs.KernelOf.{turning}
use Rattle.cp_kernel.proofs.Stepping.{steps_more}
use Rattle.cp_kernel.proofs.turns.take_fast_steps.Goals as goal

pub loop-left-preserved : goal.loop-left-preserved
loop-left-preserved c =
    let program = view.program c.args.program.now in
    let was = c.loop-left.invariant in
    let step = c.try_in_registers.ensures in
    let before = c.loop-left.left in
    let more : before ≡ suc (before - 1) = omega (arith, c.loop-left-test.true) in
    let stages = step.stages c.in-Made.is in
    record {
      few = omega (arith, was.few);
      held = λ none. was.held (sym (step.held c.in-Made.is) ∙ none);
      running = ap (λ a. is_running (states.activity a)) step.activity ∙ was.running;
      begun = (λ i. plain.is_begun (plain.stage_of (map states.stage (stages i).items) (step.number i))) ∙ was.begun;
      number = step.number ∙ was.number;
      output = step.output ∙ was.output;
      transcripts = step.transcripts ∙ was.transcripts;
      asking = λ n h. step.asking n (was.asking n h);
      same = λ none. absurd (omega (arith, more, was.few, none));
      steps = λ clock input.
          let x = turning c.loop-left.kernel c.loop-left.private input in
          ap (plain.kernel_steps program clock (before - 1)) (c.in-Made.ensures.step clock input)
          ∙ (sym (steps_more program clock before (before - 1) x more) ∙ was.steps clock input);
    }

pub returns-in-Returned-clause-steps : goal.returns-in-Returned-clause-steps
returns-in-Returned-clause-steps c =
    λ clock input.
    let program = view.program c.args.program.now in
    let before = c.loop-left.left in
    let more : before ≡ suc (before - 1) = omega (arith, c.loop-left-test.true) in
    let x = turning c.loop-left.kernel c.loop-left.private input in
    ap (plain.kernel_steps program clock (before - 1)) (c.in-Returned.ensures.step clock input)
    ∙ (sym (steps_more program clock before (before - 1) x more) ∙ c.loop-left.invariant.steps clock input)

pub returns-in-Returned-clause-asking : goal.returns-in-Returned-clause-asking
returns-in-Returned-clause-asking c = λ n h. c.try_in_registers.ensures.asking n (c.loop-left.invariant.asking n h)

pub returns-in-NotMade-clause-asking : goal.returns-in-NotMade-clause-asking
returns-in-NotMade-clause-asking c = λ n h. c.try_in_registers.ensures.asking n (c.loop-left.invariant.asking n h)

pub returns-in-NotMade-clause-steps : goal.returns-in-NotMade-clause-steps
returns-in-NotMade-clause-steps c =
    λ clock input.
    let program = view.program c.args.program.now in
    ap (plain.kernel_steps program clock c.loop-left.left) (c.in-NotMade.ensures.same refl input) ∙ c.loop-left.invariant.steps clock input

pub returns-in-NotMade-clause-same : goal.returns-in-NotMade-clause-same
returns-in-NotMade-clause-same c = λ all input. c.in-NotMade.ensures.same refl input ∙ c.loop-left.invariant.same all input
