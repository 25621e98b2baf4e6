use Rattle.std.proofs.Common.{◌≡◌, ◌∙◌, true, false, None, Some, Option, ap, subst, sym}
use Rattle.std.specs.Option.{option_or}
use Rattle.cp_model.specs.Names.{lookup}
use Rattle.cp_compile_symbols.specs.declared.systems.Component.{Component}
use Rattle.cp_compile_symbols.specs.Systems.{ComponentIs, component_among, component_of_name}
use Rattle.cp_compile_symbols.specs.Variables.{parameters_of, variables_of}
use Rattle.cp_compile_symbols.proofs.ComponentsFound.{component_found}
use Rattle.cp_compile_symbols.proofs.systems.SystemTable.component.Goals as goal

pub returns-in-Some : goal.returns-in-Some
returns-in-Some c = λ g ps vs rs table.
    let types = c.args.types.now in
    let name = c.args.name in
    let x = name.now in
    let us = parameters_of g ps in
    let ws = variables_of g vs in
    let p = lookup x c.args.self.now.parameter_names in
    let v = lookup x c.args.self.now.variable_names in
    let first : component_of_name types name true p ≡ Some c.in-Some.c =
    ap (component_of_name types name true) (sym c.find.ensures) ∙ sym c.as_component.ensures ∙ c.in-Some.is in
    subst (λ (o : Option Component). ComponentIs types us ws (option_or o (component_of_name types name false v)) (component_among us ws x)) first
    (component_found types us ws name p v (table.parameter_names x) (table.variable_names x))

pub returns-in-None : goal.returns-in-None
returns-in-None c = λ g ps vs rs table.
    let types = c.args.types.now in
    let name = c.args.name in
    let x = name.now in
    let us = parameters_of g ps in
    let ws = variables_of g vs in
    let p = lookup x c.args.self.now.parameter_names in
    let v = lookup x c.args.self.now.variable_names in
    let first : component_of_name types name true p ≡ None = ap (component_of_name types name true) (sym c.find.ensures) ∙ sym c.as_component.ensures ∙ c.in-None.is in
    let second : component_of_name types name false v ≡ c.as_component-in-None.result =
    ap (component_of_name types name false) (sym c.find-in-None.ensures) ∙ sym c.as_component-in-None.ensures in
    subst (λ (o : Option Component). ComponentIs types us ws o (component_among us ws x)) second
    (subst (λ (o : Option Component). ComponentIs types us ws (option_or o (component_of_name types name false v)) (component_among us ws x)) first
    (component_found types us ws name p v (table.parameter_names x) (table.variable_names x)))
