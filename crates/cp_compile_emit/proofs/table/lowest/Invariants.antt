use Rattle.std.proofs.Common.{◌≡◌, drop, map}
use Rattle.cp_model_program.specs.CodedStatements as coded
use Rattle.cp_program.specs.Labels.{arm}
use Rattle.cp_compile_emit.proofs.table.lowest.Given as goal

abbrev pub invariant-loop-x : goal.invariant-loop-x
invariant-loop-x l = coded.lowest l.least (map arm (drop l.x-index l.arms)) ≡ coded.lowest l.n (map arm l.arms)
