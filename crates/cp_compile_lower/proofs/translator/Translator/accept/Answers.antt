use Rattle.cp_model.specs.Erase as erase
use Rattle.cp_model.specs.View as tree
use Rattle.cp_model_program.specs.CodedTerms.{coded_variable}
use Rattle.cp_model_program.specs.Programs as op
use Rattle.cp_program.specs.declared.operation.Operation.TheVariants as operation
use Rattle.cp_compile_lower.proofs.Answered.{both_ok}
use Rattle.cp_compile_lower.proofs.Emitting.{entered}
use Rattle.cp_law_typing.specs.StaticTypes.{expression_type}
use Rattle.cp_model_program.specs.CodedStatements.{high_of, low_of}
use Rattle.cp_model_program.specs.Scopes.{environment}
use Rattle.cp_compile_lower.proofs.translator.Translator.accept.Goals as goal

pub returns : goal.returns
returns c =
    both_ok c.emit.result
    (λ place at emits s scope.
    let e = erase.expression (tree.expression c.args.expression.now) in
    let t = expression_type (environment s) e in
    let d = coded_variable s e c.args.context.low in
    let passed = c.in_ok-to.ensures s scope in
    let of = c.in_ok-expression_type.ensures s scope in
    entered c.args.emitter.now c.emit.new.self place c.in_ok-to.calls.items d.calls
    (operation.Accept c.in_ok-to.to c.bounds_of-bounds.result c.args.context.next) (op.Accept d.place_expression (low_of t) (high_of t) c.args.context.next)
    passed.0
    (λ i. op.Accept (passed.1 i) (c.bounds_of-bounds.ensures.low t of i) (c.bounds_of-bounds.ensures.high t of i) c.args.context.next) at emits)
    c.emit.ensures.entry c.emit.ensures.emits
