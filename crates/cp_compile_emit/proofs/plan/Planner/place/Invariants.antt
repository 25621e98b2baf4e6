use Rattle.std.proofs.Common.{drop, map}
use Rattle.cp_model.specs.Types.{GlobalScope, Members}
use Rattle.cp_compile_symbols.specs.Representing.{AreMembers, entry}
use Rattle.cp_compile_emit.specs.Planning.{Knows, known_of, types_of}
use Rattle.cp_compile_emit.proofs.PartsPlanned.{PartlyPlaced}
use Rattle.cp_compile_emit.proofs.plan.Planner.place.Given as goal

-- The members so far are placed, and the remaining ones follow them.
abbrev pub invariant-loop-member : goal.invariant-loop-member
invariant-loop-member l =
    (g : GlobalScope) (ms : Members) → Knows l.self g → AreMembers (types_of l.self) (map entry l.fn.members) ms
    → PartlyPlaced l.fn.zeros g (types_of l.self) (known_of l.self) ms l.fn.at l.next (map entry (drop l.member-index l.members)) l.parts.items
