use Rattle.std.proofs.Common.{rules, ◌≡◌, true, false, codes, subst, sym}
use Rattle.std.specs.Str.{bytes_eq}
use Rattle.cp_model.specs.Erase as erase
use Rattle.cp_model.specs.View as tree
use Rattle.cp_model.proofs.Results.{if_ok}
use Rattle.cp_law_typing.specs.StaticTypes.{expression_type}
use Rattle.cp_model_program.specs.CodedTerms.{coded_term, coded_variable}
use Rattle.cp_model_program.specs.Scopes.{environment}
use Rattle.cp_compile_emit.specs.Emission.{place_of}
use Rattle.cp_compile_lower.specs.Statements.{Enters}
use Rattle.cp_compile_lower.proofs.Performing.{accepts, continues, delays, displays}
use Rattle.cp_compile_lower.proofs.translator.Translator.standard_procedure.Goals as goal

pub returns-then-eq : goal.returns-then-eq
returns-then-eq c =
    let display_known : bytes_eq c.args.name.now (codes "display") ≡ true = search rules in
    let e = erase.expression (tree.expression c.args.expression.now) in
    let old = c.args.emitter.now in
    if_ok c.display.result
    (λ entry h s scope.
    subst (Enters old c.display.new.emitter entry)
    (sym (displays s c.args.name.now (expression_type (environment s) e) (coded_term s e c.args.context.low) (coded_variable s e c.args.context.low) (place_of old) c.args.context.next display_known))
    (h s scope))
    c.display.ensures

pub returns-then-eq-2 : goal.returns-then-eq-2
returns-then-eq-2 c =
    let display_known : bytes_eq c.args.name.now (codes "display") ≡ false = search rules in
    let accept_known : bytes_eq c.args.name.now (codes "accept") ≡ true = search rules in
    let e = erase.expression (tree.expression c.args.expression.now) in
    let old = c.args.emitter.now in
    if_ok c.accept.result
    (λ entry h s scope.
    subst (Enters old c.accept.new.emitter entry)
    (sym (accepts s c.args.name.now (expression_type (environment s) e) (coded_term s e c.args.context.low) (coded_variable s e c.args.context.low) (place_of old) c.args.context.next display_known accept_known))
    (h s scope))
    c.accept.ensures

pub returns-then-eq-3 : goal.returns-then-eq-3
returns-then-eq-3 c =
    let display_known : bytes_eq c.args.name.now (codes "display") ≡ false = search rules in
    let accept_known : bytes_eq c.args.name.now (codes "accept") ≡ false = search rules in
    let delay_known : bytes_eq c.args.name.now (codes "delay") ≡ true = search rules in
    let e = erase.expression (tree.expression c.args.expression.now) in
    let old = c.args.emitter.now in
    if_ok c.delay.result
    (λ entry h s scope.
    subst (Enters old c.delay.new.emitter entry)
    (sym (delays s c.args.name.now (expression_type (environment s) e) (coded_term s e c.args.context.low) (coded_variable s e c.args.context.low) (place_of old) c.args.context.next display_known accept_known delay_known))
    (h s scope))
    c.delay.ensures

pub returns-else-eq-3 : goal.returns-else-eq-3
returns-else-eq-3 c =
    let display_known : bytes_eq c.args.name.now (codes "display") ≡ false = search rules in
    let accept_known : bytes_eq c.args.name.now (codes "accept") ≡ false = search rules in
    let delay_known : bytes_eq c.args.name.now (codes "delay") ≡ false = search rules in
    let e = erase.expression (tree.expression c.args.expression.now) in
    let old = c.args.emitter.now in
    if_ok c.resume.result
    (λ entry h s scope.
    subst (Enters old c.resume.new.emitter entry)
    (sym (continues s c.args.name.now (expression_type (environment s) e) (coded_term s e c.args.context.low) (coded_variable s e c.args.context.low) (place_of old) c.args.context.next display_known accept_known delay_known))
    (h s scope))
    c.resume.ensures
