use Rattle.std.proofs.Common.{drop}
use Rattle.cp_model.specs.Erase as erase
use Rattle.cp_model.specs.View as view
use Rattle.cp_model_program.specs.Scopes as code
use Rattle.cp_compile_symbols.specs.Scopes.{IsScope}
use Rattle.cp_compile_symbols.proofs.Parts.{PartlySelected}
use Rattle.cp_compile_symbols.proofs.scope.Scope.place_type.Given as goal

-- The part that the selectors so far select has this type.
abbrev pub invariant-loop-selector : goal.invariant-loop-selector
invariant-loop-selector l =
    (s : code.Scope) → IsScope l.fn.self s
    → PartlySelected l.fn.self s (erase.designator (view.designator l.fn.designator)) l.of (drop l.selector-index l.fn.designator.selectors.items)
