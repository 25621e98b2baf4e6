use Rattle.std.proofs.Common.{refl}
use Rattle.cp_model.specs.Erase as erase
use Rattle.cp_model.specs.View as tree
use Rattle.cp_model.proofs.Results.{if_ok}
use Rattle.cp_law_typing.specs.StaticTypes.{place_type}
use Rattle.cp_model_program.specs.CodedTerms.{coded_place_expression, coded_term, coded_variable}
use Rattle.cp_model_program.specs.Scopes.{environment}
use Rattle.cp_compile_emit.specs.Emission.{place_of}
use Rattle.cp_compile_symbols.specs.Representing.{simple_of}
use Rattle.cp_compile_lower.proofs.Storing.{stored}
use Rattle.cp_compile_lower.proofs.translator.Translator.store.Goals as goal

pub returns-in-Some : goal.returns-in-Some
returns-in-Some c =
    if_ok c.set_simple.result
    (λ entry h s scope.
    let d = erase.designator (tree.designator c.args.designator.now) in
    let e = erase.expression (tree.expression c.args.expression.now) in
    let to = coded_place_expression s d c.args.low in
    let t = place_type (environment s) d in
    let place = rw c.new-calls.ensures.items at (c.in_ok-to.ensures s scope) in
    let same = (rw (c.tables.ensures, c.in-Some.is) at c.simple-simple.ensures) t place.typed in
    stored c.args.emitter.now c.set_simple.new.emitter entry s.globals (place_of c.args.emitter.now) c.args.next to (coded_term s e) (coded_variable s e)
    c.in_ok-to.to.temps t (simple_of c.in-Some.simple) place.place_expression.temps same (h s to (coded_variable s e c.in_ok-to.to.temps) scope place.place_expression))
    c.set_simple.ensures

pub returns-in-None : goal.returns-in-None
returns-in-None c =
    if_ok c.copy_words.result
    (λ entry h s scope.
    let d = erase.designator (tree.designator c.args.designator.now) in
    let e = erase.expression (tree.expression c.args.expression.now) in
    let to = coded_place_expression s d c.args.low in
    let t = place_type (environment s) d in
    let place = rw c.new-calls.ensures.items at (c.in_ok-to.ensures s scope) in
    let other = (rw (c.tables.ensures, c.in-None.is) at c.simple-simple.ensures) t place.typed in
    stored c.args.emitter.now c.copy_words.new.emitter entry s.globals (place_of c.args.emitter.now) c.args.next to (coded_term s e) (coded_variable s e)
    c.in_ok-to.to.temps t t place.place_expression.temps refl (h s to t (coded_term s e c.in_ok-to.to.temps) scope place.typed other place.place_expression))
    c.copy_words.ensures
