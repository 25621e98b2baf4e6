use Rattle.std.proofs.Common.{◌≡◌, drop, map}
use Rattle.cp_model_program.specs.CodedStatements as coded
use Rattle.cp_program.specs.Labels.{arm}
use Rattle.cp_compile_emit.proofs.table.places.Given as goal

-- The arms from this one on have been put.
abbrev pub invariant-loop-i : goal.invariant-loop-i
invariant-loop-i l = l.places.items ≡ coded.places_from (map arm (drop l.i l.arms)) l.low l.count
