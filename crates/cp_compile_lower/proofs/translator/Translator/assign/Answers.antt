use Rattle.std.proofs.Common.{◌∙◌, subst, sym}
use Rattle.cp_model.specs.Erase as erase
use Rattle.cp_model.specs.View as tree
use Rattle.cp_model.proofs.Results.{if_ok}
use Rattle.cp_model_program.specs.CodedStatements.{assign_by}
use Rattle.cp_compile_emit.specs.Emission.{place_of}
use Rattle.cp_compile_lower.specs.Statements.{Enters}
use Rattle.cp_compile_lower.proofs.translator.Translator.assign.Goals as goal

pub returns-then-is_result : goal.returns-then-is_result
returns-then-is_result c =
    let d = erase.designator (tree.designator c.args.designator.now) in
    let e = erase.expression (tree.expression c.args.expression.now) in
    let old = c.args.emitter.now in
    if_ok c.set_result.result
    (λ entry h s scope.
    subst (λ b. Enters old c.set_result.new.emitter entry (assign_by s d e c.args.low (place_of old) c.args.next b))
    (sym c.if-is_result.true ∙ c.is_result.ensures s scope) (h s scope))
    c.set_result.ensures

pub returns-else-is_result : goal.returns-else-is_result
returns-else-is_result c =
    let d = erase.designator (tree.designator c.args.designator.now) in
    let e = erase.expression (tree.expression c.args.expression.now) in
    let old = c.args.emitter.now in
    if_ok c.store.result
    (λ entry h s scope.
    subst (λ b. Enters old c.store.new.emitter entry (assign_by s d e c.args.low (place_of old) c.args.next b))
    (sym c.if-is_result.false ∙ c.is_result.ensures s scope) (h s scope))
    c.store.ensures
