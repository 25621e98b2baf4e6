use Rattle.cp_model.specs.Erase as erase
use Rattle.cp_model.specs.View as tree
use Rattle.cp_model_program.specs.CodedTerms.{coded_variable}
use Rattle.cp_model_program.specs.Programs as op
use Rattle.cp_program.specs.declared.operation.Operation.TheVariants as operation
use Rattle.cp_compile_lower.proofs.Answered.{both_ok}
use Rattle.cp_compile_lower.proofs.Emitting.{entered}
use Rattle.cp_compile_lower.proofs.translator.Translator.delay.Goals as goal

pub returns : goal.returns
returns c =
    both_ok c.emit.result
    (λ place at emits s scope.
    let passed = c.in_ok-queue.ensures s scope in
    let d = coded_variable s (erase.expression (tree.expression c.args.expression.now)) c.args.context.low in
    entered c.args.emitter.now c.emit.new.self place c.in_ok-queue.calls.items d.calls (operation.Delay c.in_ok-queue.queue c.args.context.next)
    (op.Delay d.place_expression c.args.context.next) passed.0 (λ i. op.Delay (passed.1 i) c.args.context.next) at emits)
    c.emit.ensures.entry c.emit.ensures.emits
