use Rattle.std.proofs.Common.{drop}
use Rattle.cp_compile_symbols.specs.Systems.{routines_of}
use Rattle.cp_compile_symbols.proofs.RoutinesNumbered.{PartlyNamed}
use Rattle.cp_compile_symbols.proofs.layout.Layouts.routine_names.Given as goal

-- A name that isn't in the table yet is among the remaining routines.
abbrev pub invariant-loop-i : goal.invariant-loop-i
invariant-loop-i l = PartlyNamed (routines_of l.fn.texts) l.i (routines_of (drop l.i l.texts)) l.names
