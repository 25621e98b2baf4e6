use Rattle.std.proofs.Common.{◌≡◌, Option, None, Some, map, refl, subst, sym}
use Rattle.cp_model.specs.Components as components
use Rattle.cp_model.specs.Components.{component_named}
use Rattle.cp_model.specs.Declarations.{declarations}
use Rattle.cp_model.specs.Erase as erase
use Rattle.cp_model.specs.View as tree
use Rattle.cp_model.proofs.Results.{if_ok}
use Rattle.cp_model_program.specs.CodedStatements.{init_by}
use Rattle.cp_model_program.specs.Scopes as code
use Rattle.cp_model_program.specs.Scopes.{environment}
use Rattle.cp_compile_emit.specs.Emission.{place_of}
use Rattle.cp_compile_symbols.specs.declared.scope.Scope as table
use Rattle.cp_compile_symbols.specs.declared.systems.Component.{Component}
use Rattle.cp_compile_symbols.specs.Scopes.{Names}
use Rattle.cp_compile_symbols.specs.Systems.{ComponentIs}
use Rattle.cp_compile_lower.specs.Statements.{Enters}
use Rattle.cp_compile_lower.proofs.translator.Translator.init_item.Goals as goal

found : (scope : table.Scope) (s : code.Scope) (f : Component) (o : Option components.Component)
    → ComponentIs scope.tables.now.types (declarations s.globals s.system.parameters) (declarations s.globals s.system.variables) (Some f) o
    → (n : components.Component) × (o ≡ Some n) × Names scope s f n
found scope s f None h = absurd h
found scope s f (Some n) h = (n, refl, h)

pub returns-in-Some : goal.returns-in-Some
returns-in-Some c =
    let item = c.args.item.now in
    let old = c.args.emitter.now in
    let es = erase.expressions (tree.expressions_of (map tree.expression item.arguments.items)) in
    if_ok c.init_component.result
    (λ entry made s scope.
    let is = found c.args.self.now.scope s c.in-Some.component (component_named (environment s) item.component.name)
    (rw (c.as_bytes.ensures, c.in-Some.is) at (c.component.ensures s scope)) in
    subst (λ o. Enters old c.init_component.new.emitter entry (init_by s es c.args.low (place_of old) c.args.next o)) (sym is.1) (made s is.0 scope is.2))
    (rw c.deref.ensures.value at c.init_component.ensures)
