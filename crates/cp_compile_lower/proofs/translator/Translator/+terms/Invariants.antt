use Rattle.std.proofs.Common.{◌≡◌, ℕ, List, drop, length, map}
use Rattle.cp_model.specs.Abstract as a
use Rattle.cp_model.specs.Abstract.{Name}
use Rattle.cp_model.specs.Declarations.{Variable}
use Rattle.cp_model.specs.Erase as erase
use Rattle.cp_model.specs.Syntax as syntax
use Rattle.cp_model.specs.Syntax.{chain_of}
use Rattle.cp_model.specs.View as tree
use Rattle.cp_model_program.specs.CodedTerms as coded
use Rattle.cp_model_program.specs.CodedTerms.{coded_arguments, coded_term}
use Rattle.cp_model_program.specs.Scopes as code
use Rattle.cp_compile_emit.specs.Emission.{coded_call}
use Rattle.cp_compile_symbols.specs.Scopes.{IsScope}
use Rattle.cp_compile_symbols.specs.Variables.{AreDeclared, declared_entry}
use Rattle.cp_compile_lower.proofs.ArgumentsMade.{Finishes}
use Rattle.cp_compile_lower.specs.Translated.{IsPlace, IsTerm}
use Rattle.cp_compile_lower.proofs.translator.Translator.+terms.Given as goal

-- The term so far is that of the operands so far.
abbrev pub invariant-chain-loop-o : goal.invariant-chain-loop-o
invariant-chain-loop-o l =
    (s : code.Scope) (low : ℕ) (before : List coded.CodedCall) (e : syntax.Expression) → IsScope l.self.scope s
    → IsTerm before l.fn.calls.items l.fn.first (coded_term s (erase.expression e) low)
    → (f : syntax.Expression) × IsTerm before l.calls.items l.left (coded_term s (erase.expression f) low)
    × (chain_of f (map tree.operation (drop l.o-index l.rest)) ≡ chain_of e (map tree.operation l.fn.rest))

-- The place expression so far is that of the selectors so far.
abbrev pub invariant-place_expression-loop-selector : goal.invariant-place_expression-loop-selector
invariant-place_expression-loop-selector l =
    (s : code.Scope) → IsScope l.self.scope s
    → (d : a.Designator) × IsPlace l.self.scope s l.fn.low (map coded_call l.fn.calls.items) l.calls.items d l.made
    × (erase.with_selectors d (tree.selectors_of (map tree.selector (drop l.selector-index l.selector-items)))
    ≡ erase.designator (tree.designator l.fn.designator))

-- The place expression so far is that of the indices so far.
abbrev pub invariant-select_elements-loop-i : goal.invariant-select_elements-loop-i
invariant-select_elements-loop-i l =
    (s : code.Scope) (low : ℕ) (before : List coded.CodedCall) (d : a.Designator) → IsScope l.self.scope s
    → IsPlace l.self.scope s low before l.fn.calls.items d l.fn.of
    → (p : a.Designator) × IsPlace l.self.scope s low before l.calls.items p l.made
    × (erase.with_indices p (tree.indices_of (map tree.index (drop l.i-index l.indices)))
    ≡ erase.with_indices d (tree.indices_of (map tree.index l.fn.indices)))

-- The arguments so far and the remaining ones are all arguments.
abbrev pub invariant-arguments-loop-e : goal.invariant-arguments-loop-e
invariant-arguments-loop-e l = record {
  count : length l.made.arguments.items ≡ l.e-index;
  so_far : (s : code.Scope) (ps : List (Name × Variable)) → IsScope l.self.scope s
      → AreDeclared l.self.scope.tables.now.types (map declared_entry l.parameters) ps
      → Finishes (map coded_call l.fn.calls.items) l.calls.items l.made
      (coded_arguments s (erase.expressions (tree.expressions_of (map tree.expression (drop l.e-index l.es)))) (drop l.e-index ps) l.at l.made.temps)
      (coded_arguments s (erase.expressions (tree.expressions_of (map tree.expression l.es))) ps l.fn.at l.fn.low);
}
