use Rattle.std.proofs.Common.{◌≡◌, ◌++◌, drop, map}
use Rattle.cp_compile_symbols.specs.Representing.{entry}
use Rattle.cp_compile_emit.specs.Members.{member_of}
use Rattle.cp_compile_emit.proofs.members.add_members.Given as goal

-- The members so far and the remaining names are all members.
abbrev pub invariant-loop-d : goal.invariant-loop-d
invariant-loop-d l =
    map entry l.members.items ++ map member_of (drop l.d-index l.list) ≡ map entry l.fn.members.items ++ map member_of l.fn.list
