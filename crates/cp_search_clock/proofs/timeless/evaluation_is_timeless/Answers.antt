use Rattle.std.proofs.Common.{ap, ◌∙◌}
use Rattle.std.specs.Prelude.{false, if◌then◌else◌}
use Rattle.cp_law_cores.specs.Clocks.{operation_is_timeless, term_is_timeless}
use Rattle.cp_program.specs.View as view
use Rattle.cp_search_clock.proofs.Whole.{element_passes}
use Rattle.cp_search_clock.proofs.timeless.evaluation_is_timeless.Goals as goal

pub returns-in-SetElement : goal.returns-in-SetElement
returns-in-SetElement c = λ yes.
    let value = view.term c.args.value.now in
    ap (λ x. operation_is_timeless (view.evaluation value x)) c.in-SetElement.is
    ∙ (ap (λ b. if b then term_is_timeless value else false) (element_passes c.in-SetElement.to) ∙ c.term_is_timeless-in-SetElement.ensures yes)
