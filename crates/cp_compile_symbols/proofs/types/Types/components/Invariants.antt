use Rattle.std.proofs.Common.{List, drop, map}
use Rattle.cp_model.specs.Abstract.{Name}
use Rattle.cp_model.specs.Declarations.{Variable}
use Rattle.cp_compile_symbols.specs.Variables.{AreDeclared, declared_entry}
use Rattle.cp_compile_symbols.proofs.Picking.{PartlyPicked}
use Rattle.cp_compile_symbols.proofs.types.Types.components.Given as goal

-- The picked entries and the components that remain are all components.
abbrev pub invariant-loop-d : goal.invariant-loop-d
invariant-loop-d l =
    (vs : List (Name × Variable)) → AreDeclared l.self (map declared_entry l.fn.list) vs
    → PartlyPicked l.self vs (map declared_entry (drop l.d-index l.list)) (map declared_entry l.components.items)
