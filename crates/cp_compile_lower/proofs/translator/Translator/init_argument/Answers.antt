use Rattle.std.proofs.Common.{rules, ◌≡◌, ◌∙◌, false, true, ap, map, subst, sym}
use Rattle.cp_model.specs.Declarations.{is_component}
use Rattle.cp_model.specs.Erase as erase
use Rattle.cp_model.specs.View as tree
use Rattle.cp_model.proofs.Results.{if_ok}
use Rattle.cp_model_program.specs.CodedTerms.{coded_term, lone_place_expression}
use Rattle.cp_model_program.specs.Layout.{member, right}
use Rattle.cp_model_program.specs.Scopes.{part_start, right_start}
use Rattle.cp_model_program.specs.Terms as plain
use Rattle.cp_compile_emit.specs.Emission.{coded_call}
use Rattle.cp_compile_lower.specs.Initialisation.{right_argument}
use Rattle.cp_compile_lower.specs.Translated.{IsArgument}
use Rattle.cp_compile_lower.proofs.Initialising.{component_argument, other_argument, simple_argument}
use Rattle.cp_compile_lower.proofs.translator.Translator.init_argument.Goals as goal

pub returns-in_ok-made-in-Some : goal.returns-in_ok-made-in-Some
returns-in_ok-made-in-Some c = λ s y p scope is named represents.
    let before = map coded_call c.args.calls.now.items in
    let after = c.term.new.calls.items in
    let x = c.in-Some.simple in
    let e = erase.expression (tree.expression c.args.expression.now) in
    let d = coded_term s e c.args.low in
    let types = c.args.self.now.scope.tables.now.types in
    let same = (rw (c.tables.ensures, c.in-Some.is) at c.simple.ensures) p.1.type represents in
    let at = c.in_ok-at-in-Some.ensures s.globals types y is ∙ ap (λ n. part_start (member s.globals y n)) named in
    subst (IsArgument before after c.simple_value.result) (simple_argument s y p.0 p.1 e c.args.low x same)
    (subst (λ n. IsArgument before after c.simple_value.result (record { argument = plain.Value n x.low x.high d.term; calls = d.calls; temps = d.temps })) at
    (c.simple_value.ensures before after s.globals d (lone_place_expression (plain.Rooted (plain.Local 0)) 0) (c.in_ok-made-in-Some.ensures s scope)))

pub returns-then-not-is_component : goal.returns-then-not-is_component
returns-then-not-is_component c = λ s y p scope is named represents.
    let calls = c.args.calls.now.items in
    let e = erase.expression (tree.expression c.args.expression.now) in
    let known : c.is_component.result ≡ false = search rules in
    let component : is_component p.1.type ≡ false = sym ((rw c.tables.ensures at c.is_component.ensures) p.1.type represents) ∙ known in
    let other = (rw (c.tables.ensures, c.in-None.is) at c.simple.ensures) p.1.type represents in
    subst (IsArgument (map coded_call calls) calls c.no_value.result)
    (other_argument s y p.0 p.1.by_reference p.1.type e c.args.low other component) (c.no_value.ensures calls)

pub returns-in_ok-right_at-in-None : goal.returns-in_ok-right_at-in-None
returns-in_ok-right_at-in-None c =
    if_ok c.right.result
    (λ made h s y p scope is named represents.
    let calls = c.args.calls.now.items in
    let e = erase.expression (tree.expression c.args.expression.now) in
    let types = c.args.self.now.scope.tables.now.types in
    let known : c.is_component.result ≡ true = search rules in
    let component : is_component p.1.type ≡ true = sym ((rw c.tables.ensures at c.is_component.ensures) p.1.type represents) ∙ known in
    let at = c.in_ok-right_at-in-None.ensures s.globals types y is ∙ ap (λ n. right_start (right s.globals y n)) named in
    subst (IsArgument (map coded_call calls) calls made)
    (ap (λ n. right_argument s n c.args.low e) at ∙ component_argument s y p.0 p.1.by_reference p.1.type e c.args.low component) (h calls s scope))
    c.right.ensures
