use Rattle.std.proofs.Common.{◌∙◌}
use Rattle.cp_model.specs.Erase as erase
use Rattle.cp_model.specs.View as tree
use Rattle.cp_model_program.specs.CodedTerms.{coded_term}
use Rattle.cp_model_program.specs.Programs as op
use Rattle.cp_compile_lower.proofs.Answered.{both_ok}
use Rattle.cp_compile_lower.proofs.Emitting.{entered}
use Rattle.cp_compile_lower.proofs.translator.Translator.test.Goals as goal

pub returns : goal.returns
returns c =
    both_ok c.emit.result
    (λ place at emits s scope.
    let made = rw c.new-calls.ensures.items at (c.in_ok-made.ensures s scope) in
    let d = coded_term s (erase.expression (tree.expression c.args.expression.now)) c.args.low in
    entered c.args.emitter.now c.emit.new.self place c.term.new.calls.items d.calls c.test-test.result
    (op.Test d.term c.args.yes c.args.no) made.calls
    (c.test-test.ensures ∙ (λ i. op.Test (made.term i) c.args.yes c.args.no)) at emits)
    c.emit.ensures.entry c.emit.ensures.emits
