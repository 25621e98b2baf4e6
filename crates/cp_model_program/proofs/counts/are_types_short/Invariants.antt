use Rattle.std.proofs.Common.{◌≡◌, drop}
use Rattle.cp_model_program.specs.ParameterCounts.{are_short}
use Rattle.cp_model_program.proofs.ParametersCounted.{definitions}
use Rattle.cp_model_program.proofs.counts.are_types_short.Given as goal

-- the remaining ones decide
abbrev pub invariant-loop-definition : goal.invariant-loop-definition
invariant-loop-definition l = are_short (definitions l.fn.types) ≡ are_short (definitions (drop l.definition-index l.types))
