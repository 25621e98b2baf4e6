use Rattle.std.proofs.Common.{ap, ◌∙◌}
use Rattle.cp_model_machine.specs.Values.{value_of}
use Rattle.cp_program.specs.View as view
use Rattle.cp_private.proofs.private.Private.evaluate.Goals as goal

pub returns-then-not-is_empty : goal.returns-then-not-is_empty
returns-then-not-is_empty c =
    λ input own. c.value_here.ensures ∙ ap (λ v. value_of v (view.term c.args.term.now)) (c.reach.ensures input own)
