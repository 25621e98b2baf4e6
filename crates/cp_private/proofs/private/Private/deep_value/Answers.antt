use Rattle.std.proofs.Common.{ap, ◌∙◌}
use Rattle.cp_model_machine.specs.Values.{value_of}
use Rattle.cp_program.specs.View as view
use Rattle.cp_private.proofs.private.Private.deep_value.Goals as goal

pub returns : goal.returns
returns c = λ input own. c.value.ensures ∙ ap (λ v. value_of v (view.term c.args.term.now)) (c.reach.ensures input own)
