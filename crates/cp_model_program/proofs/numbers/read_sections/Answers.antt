use Rattle.cp_model_program.proofs.Negatives.{section_before}
use Rattle.cp_model_program.proofs.numbers.read_sections.Goals as goal

pub loop-section-preserved : goal.loop-section-preserved
loop-section-preserved c = λ rest.
    c.loop-section.invariant
    (section_before 65535 c.args.sections.now c.loop-section.section-index c.section-item.result c.loop-section-test.true c.section-item.is c.read_section.ensures rest)
