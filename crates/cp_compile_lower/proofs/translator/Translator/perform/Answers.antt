use Rattle.std.proofs.Common.{map, subst, sym}
use Rattle.cp_model.specs.Calls.{callee}
use Rattle.cp_model.specs.Erase as erase
use Rattle.cp_model.specs.View as tree
use Rattle.cp_model.proofs.Results.{if_ok}
use Rattle.cp_model_program.specs.CodedStatements.{perform_by, standard_statement}
use Rattle.cp_model_program.specs.Scopes.{environment}
use Rattle.cp_compile_emit.specs.Emission.{place_of}
use Rattle.cp_compile_lower.specs.Statements.{Enters}
use Rattle.cp_compile_lower.proofs.CallsMade.{called_by, none_called}
use Rattle.cp_compile_lower.proofs.translator.Translator.perform.Goals as goal

pub returns-in-Some : goal.returns-in-Some
returns-in-Some c =
    let d = erase.designator (tree.designator c.args.designator.now) in
    let es = erase.expressions (tree.expressions_of (map tree.expression c.args.es.now)) in
    let old = c.args.emitter.now in
    if_ok c.procedure_call.result
    (λ entry h s scope.
    let found = called_by c.args.self.now.scope s c.in-Some.called (callee (environment s) d) (rw c.in-Some.is at (c.callee.ensures s scope)) in
    subst (λ o. Enters old c.procedure_call.new.emitter entry (perform_by s d es c.args.low (place_of old) c.args.next o)) (sym found.is)
    (h s d found.callee scope found.represents))
    c.procedure_call.ensures

pub returns-in-None : goal.returns-in-None
returns-in-None c =
    let d = erase.designator (tree.designator c.args.designator.now) in
    let es = erase.expressions (tree.expressions_of (map tree.expression c.args.es.now)) in
    let old = c.args.emitter.now in
    if_ok c.standard_statement.result
    (λ entry h s scope.
    let none = none_called c.args.self.now.scope s (callee (environment s) d) (rw c.in-None.is at (c.callee.ensures s scope)) in
    subst (λ o. Enters old c.standard_statement.new.emitter entry (perform_by s d es c.args.low (place_of old) c.args.next o)) (sym none)
    (subst (λ x. Enters old c.standard_statement.new.emitter entry (standard_statement s x es c.args.low (place_of old) c.args.next))
    c.lone_name.ensures (h s scope)))
    c.standard_statement.ensures
