use Rattle.std.proofs.Common.{rules, ◌≡◌, ◌+◌, ◌∙◌, ap, length, subst}
use Rattle.cp_model.specs.Names.{lookup}
use Rattle.cp_model.proofs.Results.{if_ok}
use Rattle.cp_model_program.specs.Scopes.{declared_type, or_zero}
use Rattle.cp_compile.specs.CompiledComponents.{IsOwner}
use Rattle.cp_compile.proofs.ComponentsCompiled.{component_put}
use Rattle.cp_compile.proofs.components.InitialCompiler.component.Goals as goal

pub returns : goal.returns
returns c =
    let of = c.args.self.now in
    let tables = of.tables.now in
    let k = c.args.number in
    let text = c.args.text in
    let table = c.args.table.now in
    let first : c.unwrap_or-first.result ≡ or_zero (lookup c.variable_type-of.result.now of.firsts.now) = search rules in
    let routines : c.in_ok-routines.routines ≡ length text.now.routines.items = search rules in
    let body : c.in_ok-body.body ≡ c.unwrap_or-first.result + c.in_ok-routines.routines = search rules in
    let behind : c.in_ok-behind.behind ≡ k = search rules in
    let plan : c.in_ok-plan.plan ≡ of.plans + c.in_ok-behind.behind = search rules in
    if_ok c.of.result
    (λ o is plans g firsts groups vs v i represents number text_is table_is.
    let x = c.args.declared.now.name.now in
    let own : c.unwrap_or-first.result ≡ or_zero (lookup (declared_type x groups) firsts) =
    first ∙ ap (λ n. or_zero (lookup n of.firsts.now)) (c.variable_type-of.ensures ∙ i.type_names x) ∙ ap or_zero (i.firsts_are (declared_type x groups)) in
    component_put of plans g firsts groups vs (c.args.declared.now.name.now, v) i k text table c.args.declared.now.of o c.in_ok-body.body text_is table_is
    (body ∙ ap (λ n. n + c.in_ok-routines.routines) own ∙ ap (λ n. or_zero (lookup (declared_type x groups) firsts) + n) routines) represents number
    (subst (λ n. IsOwner table c.in_ok-body.body n o) (plan ∙ ap (λ n. of.plans + n) behind) is))
    c.of.ensures
