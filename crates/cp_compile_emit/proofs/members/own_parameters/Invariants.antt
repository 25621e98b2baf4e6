use Rattle.std.proofs.Common.{◌≡◌, ◌++◌, drop}
use Rattle.cp_compile_emit.specs.Members.{own_of}
use Rattle.cp_compile_emit.proofs.members.own_parameters.Given as goal

-- The names kept so far and those that will be kept of the remaining ones are all own names.
abbrev pub invariant-loop-d : goal.invariant-loop-d
invariant-loop-d l = l.kept.items ++ own_of l.types (drop l.d-index l.list) ≡ own_of l.types l.fn.list
