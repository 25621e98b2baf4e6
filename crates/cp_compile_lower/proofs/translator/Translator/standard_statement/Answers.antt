use Rattle.std.proofs.Common.{map, subst, sym}
use Rattle.cp_model.specs.Erase as erase
use Rattle.cp_model.specs.View as tree
use Rattle.cp_model.proofs.Results.{if_ok}
use Rattle.cp_model_program.specs.CodedStatements.{standard_statement}
use Rattle.cp_compile_emit.specs.Emission.{place_of}
use Rattle.cp_compile_lower.specs.Statements.{Enters}
use Rattle.cp_compile_lower.proofs.CallsMade.{first_at}
use Rattle.cp_compile_lower.proofs.translator.Translator.standard_statement.Goals as goal

pub returns-in-len1-up : goal.returns-in-len1-up
returns-in-len1-up c =
    let old = c.args.emitter.now in
    let split = first_at c.args.es.now c.e-item.result c.in-len1-up.len_at_least c.e-item.is in
    if_ok c.standard_procedure.result
    (λ entry h s scope.
    subst
    (λ xs. Enters old c.standard_procedure.new.emitter entry
    (standard_statement s c.args.name.now (erase.expressions (tree.expressions_of (map tree.expression xs))) c.args.context.low (place_of old) c.args.context.next))
    (sym split) (h s scope))
    c.standard_procedure.ensures
