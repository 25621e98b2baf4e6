use Rattle.std.proofs.Common.{◌≡◌, ◌∙◌, [], ap, map, subst}
use Rattle.cp_model.specs.Erase as erase
use Rattle.cp_model.specs.View as tree
use Rattle.cp_model_program.specs.CodedTerms.{call_of, coded_arguments, parameters_of}
use Rattle.cp_model_program.specs.Programs as op
use Rattle.cp_model_program.specs.Scopes.{environment, target_of, unit_of}
use Rattle.cp_model_program.specs.Sites.{first_parameter}
use Rattle.cp_program.specs.declared.operation.Operation.TheVariants as operation
use Rattle.cp_compile_lower.specs.Translated.{AreArguments}
use Rattle.cp_compile_lower.proofs.Answered.{both_ok}
use Rattle.cp_compile_lower.proofs.Emitting.{entered}
use Rattle.cp_compile_lower.proofs.translator.Translator.procedure_call.Goals as goal

pub returns : goal.returns
returns c =
    both_ok c.emit.result
    (λ place at emits s d o scope is.
    let types = c.args.self.now.scope.tables.now.types in
    let low = c.args.context.low in
    let after = c.arguments.new.calls.items in
    let es = erase.expressions (tree.expressions_of (map tree.expression c.args.es.now)) in
    let first : c.words_before-at.result ≡ first_parameter o = c.words_before-at.ensures s.globals types o.routine is.routine.table in
    let ys = coded_arguments s es (parameters_of s o) (first_parameter o) low in
    let passed = (rw c.new-calls.ensures.items at c.in_ok-xs.ensures) s (parameters_of s o) scope (c.passed.ensures s.globals types o.routine is.routine.table) in
    let xs = subst (λ n. AreArguments [] after c.in_ok-xs.xs (coded_arguments s es (parameters_of s o) n low)) first passed in
    let call = c.in_ok-call.ensures s o scope is ∙ ap (λ zs. call_of s (unit_of s o) (target_of (environment s) o.of) zs low) xs.arguments in
    entered c.args.emitter.now c.emit.new.self place after ys.calls (operation.Procedure c.in_ok-call.call c.args.context.next)
    (op.Procedure (call_of s (unit_of s o) (target_of (environment s) o.of) ys.arguments low) c.args.context.next) xs.calls
    (λ i. op.Procedure (call i) c.args.context.next) at emits)
    c.emit.ensures.entry c.emit.ensures.emits
