use Rattle.std.proofs.Common.{rules, ◌≡◌, ◌+◌, ◌∙◌, ap, arith, false, refl, sym, true}
use Rattle.cp_model.specs.Abstract.{Class, Monitor, Process}
use Rattle.cp_model.specs.Components.{count_before, declared_monitor}
use Rattle.cp_model.specs.Declarations.{declarations}
use Rattle.cp_model_program.specs.Layout.{member, right}
use Rattle.cp_model_program.specs.Scopes.{environment, part_start, right_start}
use Rattle.cp_model_program.specs.Terms as plain
use Rattle.cp_compile_lower.proofs.Targets.{target_is}
use Rattle.cp_compile_lower.proofs.translator.Translator.component_target.Goals as goal

pub returns-in_ok-right_at-in-Class-true : goal.returns-in_ok-right_at-in-Class-true
returns-in_ok-right_at-in-Class-true c = λ s n scope named.
    let at = c.in_ok-right_at-in-Class-true.ensures s scope ∙ ap (λ x. right_start (right s.globals s.system x)) named.name in
    target_is (environment s) n Class true (plain.ClassRight c.in_ok-right_at-in-Class-true.field-0)
    (rw c.in-Class-true.is-0 at (c.sort.ensures s n named)) (rw c.in-Class-true.is-1 at named.parameter) (ap plain.ClassRight at)

pub returns-in_ok-class_at-in-Class-false : goal.returns-in_ok-class_at-in-Class-false
returns-in_ok-class_at-in-Class-false c = λ s n scope named.
    let at = c.in_ok-class_at-in-Class-false.ensures s scope ∙ ap (λ x. part_start (member s.globals s.system x)) named.name in
    target_is (environment s) n Class false (plain.Class c.in_ok-class_at-in-Class-false.field-0)
    (rw c.in-Class-false.is-0 at (c.sort.ensures s n named)) (rw c.in-Class-false.is-1 at named.parameter) (ap plain.Class at)

pub returns-in_ok-right_at-in-Monitor-true : goal.returns-in_ok-right_at-in-Monitor-true
returns-in_ok-right_at-in-Monitor-true c = λ s n scope named.
    let at = c.in_ok-right_at-in-Monitor-true.ensures s scope ∙ ap (λ x. right_start (right s.globals s.system x)) named.name in
    target_is (environment s) n Monitor true (plain.MonitorRight c.in_ok-right_at-in-Monitor-true.field-0)
    (rw c.in-Monitor-true.is-0 at (c.sort.ensures s n named)) (rw c.in-Monitor-true.is-1 at named.parameter) (ap plain.MonitorRight at)

pub returns-in_ok-small_sum-in-Monitor-false : goal.returns-in_ok-small_sum-in-Monitor-false
returns-in_ok-small_sum-in-Monitor-false c = λ s n scope named.
    let declared : n.is_parameter ≡ false = sym (rw c.in-Monitor-false.is-1 at named.parameter) in
    let count : count_before Monitor n.name (declarations s.globals s.system.variables) ≡ c.args.of.monitors = rw declared at named.monitors in
    let added : c.in_ok-small_sum-in-Monitor-false.field-0 ≡ c.in_ok-small_number-in-Monitor-false.field-0 + 1 = search rules in
    let number : c.in_ok-small_sum-in-Monitor-false.field-0 ≡ declared_monitor (environment s) n =
    omega (arith, added, c.in_ok-small_number-in-Monitor-false.ensures, count) in
    target_is (environment s) n Monitor false (plain.Monitor c.in_ok-small_sum-in-Monitor-false.field-0)
    (rw c.in-Monitor-false.is-0 at (c.sort.ensures s n named)) (sym declared) (ap plain.Monitor number)

pub returns-in-Process-default : goal.returns-in-Process-default
returns-in-Process-default c = λ s n scope named.
    target_is (environment s) n Process n.is_parameter plain.Own (rw c.in-Process-default.is-0 at (c.sort.ensures s n named)) refl refl
