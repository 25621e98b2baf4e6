use Rattle.std.proofs.Common.{drop}
use Rattle.cp_compile_symbols.proofs.SystemsMade.{PartlyMade}
use Rattle.cp_compile_symbols.proofs.layout.Layouts.routines.Given as goal

-- The tables made so far and those of the remaining routines are the tables of all routines.
abbrev pub invariant-loop-text : goal.invariant-loop-text
invariant-loop-text l =
    PartlyMade l.fn.names l.fn.types l.types l.fn.self.rows.items l.self.rows.items l.fn.texts (drop l.text-index l.texts) l.tables.items
