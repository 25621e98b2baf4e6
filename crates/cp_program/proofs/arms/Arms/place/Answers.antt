use Rattle.std.proofs.Common.{ap, ◌∙◌}
use Rattle.std.specs.Int.{w32}
use Rattle.std.proofs.lemmas.Int.{to_z-of_z}
use Rattle.cp_program.specs.Labels.{place_of_label}
use Rattle.cp_program.proofs.Wide.{narrow}
use Rattle.cp_program.proofs.arms.Arms.place.Goals as goal

pub returns : goal.returns
returns c =
    let x = c.args.self.now in
    c.copied.ensures
    ∙ (c.get.ensures.value
    ∙ (x.found (narrow c.args.label) ∙ ap (place_of_label x.arms.items) (to_z-of_z w32 c.args.label c.ranges.label)))
