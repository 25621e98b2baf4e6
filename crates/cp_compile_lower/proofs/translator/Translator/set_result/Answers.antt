use Rattle.std.proofs.Common.{◌∙◌}
use Rattle.cp_model.specs.Erase as erase
use Rattle.cp_model.specs.View as tree
use Rattle.cp_model_program.specs.CodedTerms.{coded_term}
use Rattle.cp_model_program.specs.Programs as op
use Rattle.cp_compile_lower.proofs.Answered.{both_ok}
use Rattle.cp_compile_lower.proofs.Emitting.{entered}
use Rattle.cp_law_typing.specs.StaticTypes.{place_type}
use Rattle.cp_model_program.specs.CodedStatements.{high_of, low_of}
use Rattle.cp_model_program.specs.Scopes.{environment}
use Rattle.cp_compile_lower.proofs.translator.Translator.set_result.Goals as goal

pub returns : goal.returns
returns c =
    both_ok c.emit.result
    (λ place at emits s scope.
    let t = place_type (environment s) (erase.designator (tree.designator c.args.designator.now)) in
    let d = coded_term s (erase.expression (tree.expression c.args.expression.now)) c.args.low in
    let made = rw c.new-calls.ensures.items at (c.in_ok-made.ensures s scope) in
    let of = (rw c.tables.ensures at c.simple.ensures) t (c.place_type-of.ensures s scope) in
    entered c.args.emitter.now c.emit.new.self place c.term.new.calls.items d.calls
    c.set_result-set.result
    (op.SetResult (low_of t) (high_of t) d.term c.args.next) made.calls
    (c.set_result-set.ensures
    ∙ (λ i. op.SetResult (c.bounds_of-bounds.ensures.low t of i) (c.bounds_of-bounds.ensures.high t of i) (made.term i) c.args.next)) at emits)
    c.emit.ensures.entry c.emit.ensures.emits
