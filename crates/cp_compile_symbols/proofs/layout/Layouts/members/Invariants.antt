use Rattle.std.proofs.Common.{ℕ, drop, map}
use Rattle.cp_model.specs.Types.{GlobalScope, Members}
use Rattle.cp_compile_symbols.specs.declared.types.Types.{Types}
use Rattle.cp_compile_symbols.specs.Layouts.{AreLaid, Counts}
use Rattle.cp_compile_symbols.specs.Representing.{AreMembers, entry}
use Rattle.cp_compile_symbols.proofs.Laying.{PartlyLaid}
use Rattle.cp_compile_symbols.proofs.layout.Layouts.members.Given as goal

-- The remaining members are after those that are laid out.
abbrev pub invariant-loop-member : goal.invariant-loop-member
invariant-loop-member l =
    (g : GlobalScope) (types : Types) (at : ℕ) (ms : Members) → AreLaid g types l.self.rows.items → AreMembers types (map entry l.fn.members) ms → Counts l.fn.head at
    → PartlyLaid g types at ms (map entry (drop l.member-index l.members)) l.layout
