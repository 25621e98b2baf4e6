use Rattle.std.proofs.Common.{◌≡◌, ◌∙◌, ℕ, None, Option, Some, ap, option_map, subst, sym}
use Rattle.std.specs.Option.{option_or}
use Rattle.cp_model.specs.Environments.{permanent_variables}
use Rattle.cp_model.specs.Names.{lookup}
use Rattle.cp_compile_symbols.specs.declared.numbering.Numbered.{Numbered}
use Rattle.cp_compile_symbols.specs.Scopes.{VariableIs}
use Rattle.cp_compile_symbols.proofs.Meanings.{permanent_found}
use Rattle.cp_compile_symbols.proofs.scope.Scope.permanent_type.Goals as goal

abbrev numbers : Option Numbered → Option ℕ
numbers = option_map (λ k. k.of)

pub returns-in-Some : goal.returns-in-Some
returns-in-Some c = λ s i.
    let scope = c.args.self.now in
    let x = c.args.name.now in
    let first : numbers (lookup x scope.system.now.parameter_names) ≡ Some c.in-Some.of =
    ap numbers (sym c.find.ensures) ∙ sym c.type_of.ensures ∙ c.in-Some.is in
    subst
    (λ (o : Option ℕ). VariableIs scope.tables.now.types (option_or o (numbers (lookup x scope.system.now.variable_names)))
    (lookup x (permanent_variables s.globals s.system))) first (permanent_found scope s i x)

pub returns-in-None : goal.returns-in-None
returns-in-None c = λ s i.
    let scope = c.args.self.now in
    let x = c.args.name.now in
    let first : numbers (lookup x scope.system.now.parameter_names) ≡ None = ap numbers (sym c.find.ensures) ∙ sym c.type_of.ensures ∙ c.in-None.is in
    let second : numbers (lookup x scope.system.now.variable_names) ≡ c.type_of-in-None.result =
    ap numbers (sym c.find-in-None.ensures) ∙ sym c.type_of-in-None.ensures in
    subst (λ (o : Option ℕ). VariableIs scope.tables.now.types o (lookup x (permanent_variables s.globals s.system))) second
    (subst
    (λ (o : Option ℕ). VariableIs scope.tables.now.types (option_or o (numbers (lookup x scope.system.now.variable_names)))
    (lookup x (permanent_variables s.globals s.system))) first (permanent_found scope s i x))
