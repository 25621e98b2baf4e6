use Rattle.std.proofs.Common.{◌++◌, ◌∙◌, ap, map, subst}
use Rattle.cp_model.specs.Erase as erase
use Rattle.cp_model.specs.View as tree
use Rattle.cp_model_program.specs.CodedTerms.{coded_term}
use Rattle.cp_model_program.specs.Programs as op
use Rattle.cp_program.specs.View as view
use Rattle.cp_program.specs.declared.operation.Operation.TheVariants as operation
use Rattle.cp_compile_lower.proofs.Answered.{both_ok}
use Rattle.cp_compile_lower.proofs.Emitting.{entered}
use Rattle.cp_compile_emit.specs.Emission.{coded_call}
use Rattle.cp_compile_lower.specs.Translated.{IsTerm}
use Rattle.cp_compile_lower.proofs.translator.Translator.start_counting.Goals as goal

pub returns-clause-enters : goal.returns-clause-enters
returns-clause-enters c =
    both_ok c.emit.result
    (λ place at emits s scope.
    let k = c.args.counting in
    let middle = c.term.new.calls.items in
    let after = c.term-2.new.calls.items in
    let first = rw c.new-calls.ensures.items at (c.in_ok-first.ensures s scope) in
    let a = coded_term s (erase.expression (tree.expression c.args.from.now)) k.temp in
    let e = erase.expression (tree.expression c.args.last.now) in
    let b = coded_term s e a.temps in
    let last = subst (λ n. IsTerm (map coded_call middle) after c.in_ok-last.last (coded_term s e n)) first.temps (c.in_ok-last.ensures s scope) in
    entered c.args.emitter.now c.emit.new.self place after (a.calls ++ b.calls) (operation.For k c.in_ok-first.first.term c.in_ok-last.last.term)
    (op.For (view.counting k) a.term b.term) (last.calls ∙ ap (λ cs. cs ++ b.calls) first.calls)
    (λ i. op.For (view.counting k) (first.term i) (last.term i)) at emits)
    c.emit.ensures.entry c.emit.ensures.emits
