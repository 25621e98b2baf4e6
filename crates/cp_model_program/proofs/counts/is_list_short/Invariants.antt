use Rattle.std.proofs.Common.{◌≡◌, ◌+◌, drop}
use Rattle.cp_model_program.specs.ParameterCounts.{parameter_count}
use Rattle.cp_model_program.proofs.ParametersCounted.{groups}
use Rattle.cp_model_program.proofs.counts.is_list_short.Given as goal

-- what is left of the room and what is still to be counted make the whole
abbrev pub invariant-loop-group : goal.invariant-loop-group
invariant-loop-group l =
    parameter_count (groups l.fn.parameters) + l.room ≡ 1048575 + parameter_count (groups (drop l.group-index l.parameters))
