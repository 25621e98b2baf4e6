use Rattle.std.proofs.Common.{rules, ◌≡◌, true, false, ◌∙◌, None, ap, inl, inr, refl, sym}
use Rattle.std.proofs.lemmas.Result.{on_ok_weaker}
use Rattle.cp_model_program.specs.IsProgramFor.{end_of}
use Rattle.cp_compile_emit.specs.Planning.{known_of}
use Rattle.cp_program.specs.View as view
use Rattle.cp_compile.specs.Compiles.{body_of}
use Rattle.cp_compile.proofs.SystemsCompiled.{body_compiled, scope_made, unit_scope}
use Rattle.cp_compile.proofs.UnitsCompiled.{ok_both, stub_compiled, whole_compiled}
use Rattle.cp_model_program.specs.Programs.{Done}
use Rattle.cp_compile.proofs.system.SystemCompiler.body.Goals as goal

pub returns-clause-code : goal.returns-clause-code
returns-clause-code c =
    let of = c.args.self.now in
    on_ok_weaker c.compile_unit.result
    (λ made g s firsts d i sort_is body_is so.
    body_compiled of g s firsts (view.plan_of (known_of of.planner.now) c.new-2.result.items) (view.operation c.end_of.result) (body_of c.args.body.now) d c.compile_unit.new.emitter
    (ap (view.plan_of (known_of of.planner.now)) c.new-2.ensures.items) (c.end_of.ensures ∙ ap end_of (sym sort_is)) body_is
    (let fits : c.component_fits.result ≡ true = search rules in
    let scope = scope_made of g s firsts i c.new-scope.result None None c.new-scope.ensures tt in
    whole_compiled (known_of of.planner.now) (unit_scope of g s firsts None) (view.plan_of (known_of of.planner.now) c.new-2.result.items) (view.operation c.end_of.result) (body_of c.args.body.now) d
    c.compile_unit.new.emitter refl (sym (c.component_fits.ensures (unit_scope of g s firsts None) scope) ∙ fits) (made (known_of of.planner.now) (unit_scope of g s firsts None) d scope so)))
    c.compile_unit.ensures.code

pub returns-clause-origin : goal.returns-clause-origin
returns-clause-origin c =
    let of = c.args.self.now in
    on_ok_weaker c.compile_unit.result
    (λ added g s firsts i. inr (added (unit_scope of g s firsts None) (scope_made of g s firsts i c.new-scope.result None None c.new-scope.ensures tt)))
    c.compile_unit.ensures.origin

pub returns-then-not-component_fits-clause-code : goal.returns-then-not-component_fits-clause-code
returns-then-not-component_fits-clause-code c =
    let of = c.args.self.now in
    let known = known_of of.planner.now in
    let fits : c.component_fits.result ≡ false = search rules in
    ok_both c.add_stub.result
    (λ operations unit g s firsts d i sort_is body_is so.
    let scope = unit_scope of g s firsts None in
    stub_compiled known scope Done (end_of s.sort) s.body d c.args.emitter.now c.add_stub.new.self 0 (view.plan_of known c.new.result.items) refl
    (sym (c.component_fits.ensures scope (scope_made of g s firsts i c.new-scope.result None None c.new-scope.ensures tt)) ∙ fits) refl (ap (view.plan_of known) c.new.ensures.items)
    operations (unit known) so)
    c.add_stub.ensures.operations c.add_stub.ensures.unit
