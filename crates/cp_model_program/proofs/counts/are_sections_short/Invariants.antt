use Rattle.std.proofs.Common.{◌≡◌, drop}
use Rattle.cp_model_program.specs.ParameterCounts.{are_short}
use Rattle.cp_model_program.proofs.ParametersCounted.{in_sections}
use Rattle.cp_model_program.proofs.counts.are_sections_short.Given as goal

-- the remaining ones decide
abbrev pub invariant-loop-section : goal.invariant-loop-section
invariant-loop-section l = are_short (in_sections l.fn.sections) ≡ are_short (in_sections (drop l.section-index l.sections))
