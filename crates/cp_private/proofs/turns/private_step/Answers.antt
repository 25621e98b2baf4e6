use Rattle.std.proofs.Common.{rules, ◌≡◌, ap, subst, sym, ◌∙◌}
use Rattle.cp_model.specs.Turns as meaning
use Rattle.cp_model_machine.specs.Laws.{ground_of}
use Rattle.cp_model_machine.specs.PartOf.{PartOf}
use Rattle.cp_model_machine.specs.Steps.{private_step}
use Rattle.cp_program.specs.View as view
use Rattle.cp_private.specs.States.{private_of}
use Rattle.cp_private.proofs.turns.private_step.Goals as goal

pub returns-clause-meaning : goal.returns-clause-meaning
returns-clause-meaning c =
    λ setup F p own s before I now P.
    let program = view.program c.args.program.now in
    let o = private_of c.args.private.now c.args.input.now in
    let step : private_of c.take_steps.new.private c.args.input.now ≡ private_step program c.args.clock o = search rules in
    let there = step ∙ ap (λ k. private_step program k o) now in (
      subst (PartOf (ground_of program setup F p own) (meaning.private_step setup s p) before) (sym there)
          (c.private_steps.ensures.step program setup F p own s before o I P),
      c.invariant.ensures.private_step setup p s I,
    )
