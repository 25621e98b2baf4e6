use Rattle.std.proofs.Common.{◌≡◌, ◌∙◌, ap}
use Rattle.cp_model.specs.Erase as erase
use Rattle.cp_model.specs.View as tree
use Rattle.cp_model_program.specs.CodedTerms.{coded_term}
use Rattle.cp_model_program.specs.Programs as op
use Rattle.cp_program.specs.declared.operation.Operation.TheVariants as operation
use Rattle.cp_compile_lower.proofs.Answered.{both_ok}
use Rattle.cp_compile_lower.proofs.Emitting.{entered}
use Rattle.cp_model.specs.Types.{base_of_type}
use Rattle.cp_law_typing.specs.StaticTypes.{expression_type}
use Rattle.cp_model_program.specs.CodedStatements.{is_char}
use Rattle.cp_model_program.specs.Scopes.{environment}
use Rattle.cp_compile_lower.proofs.translator.Translator.display.Goals as goal

pub returns : goal.returns
returns c =
    both_ok c.emit.result
    (λ place at emits s scope.
    let made = rw c.new-calls.ensures.items at (c.in_ok-made.ensures s scope) in
    let e = erase.expression (tree.expression c.args.expression.now) in
    let d = coded_term s e c.args.context.low in
    let byte : c.is_char.result ≡ is_char (base_of_type (expression_type (environment s) e)) =
    c.is_char.ensures ∙ ap is_char (c.in_ok-base.ensures s scope) in
    entered c.args.emitter.now c.emit.new.self place c.term.new.calls.items d.calls
    (operation.Display c.in_ok-made.made.term c.is_char.result c.args.context.next)
    (op.Display d.term (is_char (base_of_type (expression_type (environment s) e))) c.args.context.next) made.calls
    (λ i. op.Display (made.term i) (byte i) c.args.context.next) at emits)
    c.emit.ensures.entry c.emit.ensures.emits
