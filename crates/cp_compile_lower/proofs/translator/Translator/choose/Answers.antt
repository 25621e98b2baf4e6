use Rattle.std.proofs.Common.{map}
use Rattle.cp_model.specs.Erase as erase
use Rattle.cp_model.specs.View as tree
use Rattle.cp_model_program.specs.CodedTerms.{coded_term}
use Rattle.cp_model_program.specs.Programs as op
use Rattle.cp_program.specs.declared.operation.Operation.TheVariants as operation
use Rattle.cp_compile_lower.proofs.Answered.{both_ok}
use Rattle.cp_compile_lower.proofs.Emitting.{entered}
use Rattle.cp_model_program.specs.CodedStatements.{table_of}
use Rattle.cp_program.specs.Labels.{arm}
use Rattle.cp_compile_lower.proofs.translator.Translator.choose.Goals as goal

pub returns : goal.returns
returns c =
    both_ok c.emit.result
    (λ place at emits s scope.
    let made = rw c.new-calls.ensures.items at (c.in_ok-made.ensures s scope) in
    let d = coded_term s (erase.expression (tree.expression c.args.expression.now)) c.args.low in
    entered c.args.emitter.now c.emit.new.self place c.term.new.calls.items d.calls (operation.Case c.in_ok-made.made.term c.in_ok-table.table)
    (op.Case d.term (table_of (map arm c.args.arms.items))) made.calls (λ i. op.Case (made.term i) (c.in_ok-table.ensures i)) at emits)
    c.emit.ensures.entry c.emit.ensures.emits
