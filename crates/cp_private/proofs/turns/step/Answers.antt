use Rattle.std.proofs.Common.{sym, ap, subst, ◌∙◌}
use Rattle.cp_model.specs.Turns as meaning
use Rattle.cp_program.specs.View as view
use Rattle.cp_model_machine.specs.KernelSteps.{joined_step}
use Rattle.cp_model_machine.specs.Laws.{TurningOf}
use Rattle.cp_private.specs.Promises.{beside}
use Rattle.cp_private.specs.States.{effect}
use Rattle.cp_private.proofs.Parted.{joined_step_made}
use Rattle.cp_private.proofs.turns.step.Goals as goal

pub returns-clause-meaning : goal.returns-clause-meaning
returns-clause-meaning c = λ setup F p own s before k there known runs begins I now first last T.
    let program = view.program c.args.program.now in
    let w = c.args.outside.now in
    let x = c.args.private.now in
    let y = c.act.new.private in
    let made = joined_step_made program w k x y c.args.shared.now c.act.new.shared (effect c.act.result) c.act.ensures.step c.act.ensures.kept.own.words there known in
    let meant = made ∙ ap (λ n. joined_step program n (beside k x w.input.now)) now in
    let next = c.kernel_steps.ensures.joined program setup F p own s before (beside k x w.input.now) I first last T runs begins in (
      subst (TurningOf program setup F p own (meaning.step setup s p) before) (sym meant) next.0,
      next.1,
    )
