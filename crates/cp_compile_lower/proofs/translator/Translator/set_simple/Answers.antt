use Rattle.std.proofs.Common.{◌++◌, ◌∙◌, ap}
use Rattle.cp_model.specs.Erase as erase
use Rattle.cp_model.specs.View as tree
use Rattle.cp_model_program.specs.CodedTerms.{coded_term}
use Rattle.cp_model_program.specs.Programs as op
use Rattle.cp_compile_lower.proofs.Answered.{both_ok}
use Rattle.cp_compile_lower.proofs.Emitting.{entered}
use Rattle.cp_compile_lower.proofs.translator.Translator.set_simple.Goals as goal

pub returns : goal.returns
returns c =
    both_ok c.emit.result
    (λ place at emits s to f scope there.
    let x = c.args.simple in
    let bounds = c.simple_bounds-bounds.ensures in
    let d = coded_term s (erase.expression (tree.expression c.args.expression.now)) c.args.variable.to.temps in
    let made = c.in_ok-made.ensures s scope in
    entered c.args.emitter.now c.emit.new.self place c.term.new.calls.items (to.calls ++ d.calls)
    c.set-set.result (op.Set to.place_expression x.low x.high d.term c.args.next)
    (made.calls ∙ ap (λ cs. cs ++ d.calls) there.calls)
    (c.set-set.ensures ∙ (λ i. op.Set (there.place_expression i) (bounds.low i) (bounds.high i) (made.term i) c.args.next)) at emits)
    c.emit.ensures.entry c.emit.ensures.emits
