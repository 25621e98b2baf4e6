use Rattle.cp_compile_symbols.proofs.Designating.{SelectsLast}
use Rattle.cp_compile_symbols.proofs.designators.first_part.Given as goal

-- The selectors before this one select nothing.
abbrev pub invariant-loop-i : goal.invariant-loop-i
invariant-loop-i l = SelectsLast l.selectors l.i
