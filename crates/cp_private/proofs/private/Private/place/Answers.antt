use Rattle.std.proofs.Common.{ap, ◌∙◌}
use Rattle.cp_model_machine.specs.Values.{place_of}
use Rattle.cp_program.specs.Reaches.{capped_result}
use Rattle.cp_program.specs.View as view
use Rattle.cp_private.proofs.private.Private.place.Goals as goal

pub returns-then-not-is_empty : goal.returns-then-not-is_empty
returns-then-not-is_empty c =
    λ input own. c.place.ensures ∙ ap (λ v. capped_result (place_of v (view.place_expression c.args.place_expression.now))) (c.reach.ensures input own)
