use Rattle.std.proofs.Common.{rules, ◌≡◌, true, false, inl, inr, sym, ◌∙◌, Some, ap, map}
use Rattle.std.proofs.lemmas.Result.{on_ok_weaker}
use Rattle.cp_model.specs.Erase as erase
use Rattle.cp_model.specs.View as tree
use Rattle.cp_model_program.specs.Programs.{Return}
use Rattle.cp_model.specs.Declarations.{declarations}
use Rattle.cp_compile_symbols.specs.Variables.{declared_entry}
use Rattle.cp_compile_emit.specs.Planning.{known_of}
use Rattle.cp_program.specs.View as view
use Rattle.cp_compile.proofs.SystemsCompiled.{function_written, planner_knows, result_written, routine_compiled, scope_made, unit_scope}
use Rattle.cp_model_program.specs.Plans.{plan_of_routine}
use Rattle.cp_model_program.specs.StatementsFor.{is_function}
use Rattle.cp_compile.proofs.UnitsCompiled.{nothing_compiled, ok_both, stub_compiled, whole_compiled}
use Rattle.cp_compile.proofs.system.SystemCompiler.routine.Goals as goal

pub returns-clause-code : goal.returns-clause-code
returns-clause-code c =
    let of = c.args.self.now in
    let text = c.args.text.now in
    let r = erase.routine (tree.routine text) in
    let table = c.args.table.now in
    let is = c.is_some-is_function.ensures in
    on_ok_weaker c.compile_unit.result
    (λ made g s firsts d i represents so.
    let planned = rw (c.deref.ensures.value, c.deref-2.ensures.value) at c.in_ok-starts.ensures in
    let declared = planner_knows of g s firsts i in
    routine_compiled of g s firsts r (view.plan_of (known_of of.planner.now) c.in_ok-starts.starts.items) (Return c.is_some-is_function.result) d c.compile_unit.new.emitter
    (planned g r i.knows (declared (map declared_entry table.parameters.items) (declarations g r.parameters) represents.parameters)
    (declared (map declared_entry table.variables.items) (declarations g r.variables) represents.variables) (is ∙ result_written text.result_type))
    (ap Return (is ∙ function_written text.result_type))
    (let scope = scope_made of g s firsts i c.new-scope.result (Some c.args.table) (Some r) c.new-scope.ensures represents in
    let few : c.activation_fits.result ≡ true = search rules in
    let fits : c.component_fits.result ≡ true = search rules in
    whole_compiled (known_of of.planner.now) (unit_scope of g s firsts (Some r)) (view.plan_of (known_of of.planner.now) c.in_ok-starts.starts.items) (Return c.is_some-is_function.result) r.body d
    c.compile_unit.new.emitter (sym (c.activation_fits.ensures (unit_scope of g s firsts (Some r)) scope) ∙ few) (sym (c.component_fits.ensures (unit_scope of g s firsts (Some r)) scope) ∙ fits)
    (rw c.deref-3.ensures.value at (made (known_of of.planner.now) (unit_scope of g s firsts (Some r)) d scope so))))
    c.compile_unit.ensures.code

pub returns-clause-origin : goal.returns-clause-origin
returns-clause-origin c =
    let of = c.args.self.now in
    let r = erase.routine (tree.routine c.args.text.now) in
    on_ok_weaker c.compile_unit.result
    (λ added g s firsts i represents.
    inr (added (unit_scope of g s firsts (Some r)) (scope_made of g s firsts i c.new-scope.result (Some c.args.table) (Some r) c.new-scope.ensures represents)))
    c.compile_unit.ensures.origin

pub returns-then-not-activation_fits-clause-code : goal.returns-then-not-activation_fits-clause-code
returns-then-not-activation_fits-clause-code c =
    let of = c.args.self.now in
    let known = known_of of.planner.now in
    let r = erase.routine (tree.routine c.args.text.now) in
    let few : c.activation_fits.result ≡ false = search rules in
    ok_both c.leave_out.result
    (λ operations unit g s firsts d i represents so.
    let scope = unit_scope of g s firsts (Some r) in
    nothing_compiled known scope (plan_of_routine g r) (Return (is_function r.result)) r.body d c.args.emitter.now c.leave_out.new.self
    (sym (c.activation_fits.ensures scope (scope_made of g s firsts i c.new-scope.result (Some c.args.table) (Some r) c.new-scope.ensures represents)) ∙ few) operations (unit known) so)
    c.leave_out.ensures.operations c.leave_out.ensures.unit

pub returns-then-not-component_fits-clause-code : goal.returns-then-not-component_fits-clause-code
returns-then-not-component_fits-clause-code c =
    let of = c.args.self.now in
    let known = known_of of.planner.now in
    let text = c.args.text.now in
    let r = erase.routine (tree.routine text) in
    let table = c.args.table.now in
    let is = c.is_some-is_function.ensures in
    let few : c.activation_fits.result ≡ true = search rules in
    let fits : c.component_fits.result ≡ false = search rules in
    ok_both c.add_stub.result
    (λ operations unit g s firsts d i represents so.
    let scope = unit_scope of g s firsts (Some r) in
    let made = scope_made of g s firsts i c.new-scope.result (Some c.args.table) (Some r) c.new-scope.ensures represents in
    let planned = rw (c.deref.ensures.value, c.deref-2.ensures.value) at c.in_ok-starts.ensures in
    let declared = planner_knows of g s firsts i in
    stub_compiled known scope (plan_of_routine g r) (Return (is_function r.result)) r.body d c.args.emitter.now c.add_stub.new.self c.in_ok-words.field-0 (view.plan_of known c.in_ok-starts.starts.items)
    (sym (c.activation_fits.ensures scope made) ∙ few) (sym (c.component_fits.ensures scope made) ∙ fits) (c.in_ok-words.ensures scope made)
    (planned g r i.knows (declared (map declared_entry table.parameters.items) (declarations g r.parameters) represents.parameters)
    (declared (map declared_entry table.variables.items) (declarations g r.variables) represents.variables) (is ∙ result_written text.result_type))
    operations (unit known) so)
    c.add_stub.ensures.operations c.add_stub.ensures.unit
