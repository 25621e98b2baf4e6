use Rattle.std.proofs.Common.{ℕ, List, drop, map}
use Rattle.cp_model.specs.Abstract.{Name}
use Rattle.cp_model.specs.Declarations.{Variable}
use Rattle.cp_model.specs.Types.{GlobalScope}
use Rattle.cp_compile_symbols.specs.declared.types.Types.{Types}
use Rattle.cp_compile_symbols.specs.Layouts.{AreLaid, Counts}
use Rattle.cp_compile_symbols.specs.Variables.{AreDeclared, declared_entry}
use Rattle.cp_compile_symbols.proofs.LocalsLaid.{PartlyLaid}
use Rattle.cp_compile_symbols.proofs.layout.Layouts.locals.Given as goal

-- The remaining variables are after those that are laid out.
abbrev pub invariant-loop-d : goal.invariant-loop-d
invariant-loop-d l =
    (g : GlobalScope) (types : Types) (at : ℕ) (vs : List (Name × Variable)) → AreLaid g types l.self.rows.items
    → AreDeclared types (map declared_entry l.fn.list) vs → Counts l.fn.head at → PartlyLaid g types at vs (map declared_entry (drop l.d-index l.list)) l.locals
