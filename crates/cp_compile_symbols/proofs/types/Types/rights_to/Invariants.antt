use Rattle.std.proofs.Common.{List, drop, map, suc}
use Rattle.cp_model.specs.Abstract.{Name}
use Rattle.cp_model.specs.Declarations.{Variable}
use Rattle.cp_compile_symbols.specs.Variables.{AreDeclared, declared_entry}
use Rattle.cp_compile_symbols.proofs.Picking.{PartlyLaid}
use Rattle.cp_compile_symbols.proofs.types.Types.rights_to.Given as goal

-- The remaining rights are after those that are laid out.
abbrev pub invariant-loop-i : goal.invariant-loop-i
invariant-loop-i l =
    (vs : List (Name × Variable)) → AreDeclared l.self (map declared_entry l.fn.components) vs
    → PartlyLaid l.self vs (suc l.i) (map declared_entry (drop l.i l.components)) l.rights
