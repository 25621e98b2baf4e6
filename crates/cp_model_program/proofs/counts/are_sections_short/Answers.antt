use Rattle.std.proofs.Common.{◌∙◌, sym}
use Rattle.cp_model_program.specs.ParameterCounts.{are_short}
use Rattle.cp_model_program.proofs.ParametersCounted.{in_sections, section_ends, section_passes}
use Rattle.cp_model_program.proofs.counts.are_sections_short.Goals as goal

pub returns-then-not-is_section_short : goal.returns-then-not-is_section_short
returns-then-not-is_section_short c =
    section_ends c.args.sections.now c.loop-section.section-index c.section-item.result c.loop-section-test.true c.section-item.is (are_short (in_sections c.args.sections.now))
    c.loop-section.invariant (sym c.is_section_short.ensures ∙ c.if-not-is_section_short.true)

pub loop-section-preserved : goal.loop-section-preserved
loop-section-preserved c =
    section_passes c.args.sections.now c.loop-section.section-index c.section-item.result c.loop-section-test.true c.section-item.is (are_short (in_sections c.args.sections.now))
    c.loop-section.invariant (sym c.is_section_short.ensures ∙ c.if-not-is_section_short.false)
