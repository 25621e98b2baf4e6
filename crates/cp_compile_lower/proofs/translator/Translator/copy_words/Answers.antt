use Rattle.std.proofs.Common.{◌++◌, ◌∙◌, ap, subst, sym}
use Rattle.cp_model.specs.Erase as erase
use Rattle.cp_model.specs.View as tree
use Rattle.cp_model_program.specs.CodedTerms.{coded_variable}
use Rattle.cp_model_program.specs.Programs as op
use Rattle.cp_program.specs.declared.operation.Operation.TheVariants as operation
use Rattle.cp_compile_lower.proofs.Answered.{both_ok}
use Rattle.cp_compile_lower.proofs.Emitting.{entered}
use Rattle.cp_law_typing.specs.Words.{words}
use Rattle.cp_compile_emit.specs.Emission.{place_of}
use Rattle.cp_compile_lower.specs.Statements.{Enters}
use Rattle.cp_compile_lower.proofs.Storing.{copies}
use Rattle.cp_compile_lower.proofs.translator.Translator.copy_words.Goals as goal

pub returns : goal.returns
returns c =
    both_ok c.emit.result
    (λ place at emits s to t e scope type other there.
    let d = coded_variable s (erase.expression (tree.expression c.args.expression.now)) c.args.variable.to.temps in
    let made = c.in_ok-from.ensures s scope in
    let long = c.in_ok-size.ensures s t scope type in
    subst (Enters c.args.emitter.now c.emit.new.self place) (sym (copies s.globals t to e d (place_of c.args.emitter.now) c.args.next other))
    (entered c.args.emitter.now c.emit.new.self place c.argument_place_expression.new.calls.items (to.calls ++ d.calls)
    (operation.CopyWords c.args.variable.to.place_expression c.in_ok-from.from.place_expression c.in_ok-size.size c.args.next)
    (op.CopyWords to.place_expression d.place_expression (words s.globals t) c.args.next) (made.calls ∙ ap (λ cs. cs ++ d.calls) there.calls)
    (λ i. op.CopyWords (there.place_expression i) (made.place_expression i) (long i) c.args.next) at emits))
    c.emit.ensures.entry c.emit.ensures.emits
