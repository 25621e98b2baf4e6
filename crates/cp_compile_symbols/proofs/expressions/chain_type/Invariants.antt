use Rattle.std.proofs.Common.{drop, map}
use Rattle.cp_model.specs.Syntax as syntax
use Rattle.cp_model.specs.View as view
use Rattle.cp_model_program.specs.Scopes as code
use Rattle.cp_compile_symbols.specs.Expressions.{ValueIs}
use Rattle.cp_compile_symbols.proofs.ValueTypes.{PartlyChained}
use Rattle.cp_compile_symbols.proofs.expressions.chain_type.Given as goal

-- The operands before this one have a value of this type.
abbrev pub invariant-loop-operation : goal.invariant-loop-operation
invariant-loop-operation l =
    (s : code.Scope) (e : syntax.Expression) → ValueIs s l.first e
    → PartlyChained s l.of (drop l.operation-index l.rest) (syntax.chain_of e (map view.operation l.rest))
