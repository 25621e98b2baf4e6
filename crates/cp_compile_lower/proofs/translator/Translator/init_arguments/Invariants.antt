use Rattle.std.proofs.Common.{◌≡◌, drop, length, map}
use Rattle.cp_model.specs.Abstract as a
use Rattle.cp_model.specs.Declarations.{declarations}
use Rattle.cp_model.specs.Erase as erase
use Rattle.cp_model.specs.View as tree
use Rattle.cp_model_program.specs.CodedTerms.{init_arguments}
use Rattle.cp_model_program.specs.Scopes as code
use Rattle.cp_compile_emit.specs.Emission.{coded_call}
use Rattle.cp_compile_symbols.specs.Scopes.{IsScope}
use Rattle.cp_compile_lower.specs.Initialisation.{IsTable}
use Rattle.cp_compile_lower.proofs.ArgumentsMade.{Finishes}
use Rattle.cp_compile_lower.proofs.translator.Translator.init_arguments.Given as goal

-- The arguments so far and the remaining ones are all arguments.
abbrev pub invariant-loop-e : goal.invariant-loop-e
invariant-loop-e l = record {
  count : length l.made.arguments.items ≡ l.e-index;
  so_far : (s : code.Scope) (y : a.System) → IsScope l.self.scope s → IsTable s.globals l.self.scope.tables.now.types l.table y
      → Finishes (map coded_call l.fn.calls.items) l.calls.items l.made
      (init_arguments s y (erase.expressions (tree.expressions_of (map tree.expression (drop l.e-index l.es))))
      (drop l.e-index (declarations s.globals y.parameters)) l.made.temps)
      (init_arguments s y (erase.expressions (tree.expressions_of (map tree.expression l.es))) (declarations s.globals y.parameters) l.fn.low);
}
