use Rattle.std.proofs.Common.{map, drop}
use Rattle.cp_model.specs.Erase as erase
use Rattle.cp_model.specs.View as view
use Rattle.cp_law_typing.specs.Magnitudes.{AreNegativesWithin}
use Rattle.cp_model_program.proofs.numbers.read_sections.Given as goal

-- all are within the bound, once the remaining ones are
abbrev pub invariant-loop-section : goal.invariant-loop-section
invariant-loop-section l =
    AreNegativesWithin 65535 (erase.sections (map view.section_of (drop l.section-index l.sections)))
    → AreNegativesWithin 65535 (erase.sections (map view.section_of l.fn.sections))
