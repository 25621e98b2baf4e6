use Rattle.std.proofs.Common.{ap, ◌∙◌}
use Rattle.cp_model_machine.specs.Values.{place_of}
use Rattle.cp_program.specs.Reaches.{capped_result}
use Rattle.cp_program.specs.View as view
use Rattle.cp_private.proofs.private.Private.element_place.Goals as goal

pub returns : goal.returns
returns c =
    λ input own. c.place.ensures ∙ ap (λ v. capped_result (place_of v (view.element c.args.element.now))) (c.reach.ensures input own)
