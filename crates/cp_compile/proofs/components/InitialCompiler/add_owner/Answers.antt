use Rattle.std.proofs.Common.{rules, ◌≡◌, ◌∷◌, ◌++◌, ◌∙◌, [], List, None, Some, false, slice_get, subst, sym, true}
use Rattle.cp_model.specs.Components.{is_component_of}
use Rattle.cp_model.specs.Erase as erase
use Rattle.cp_model_program.specs.Compile.{of_sort, owners_of}
use Rattle.cp_compile_symbols.specs.Numbering.{system_of}
use Rattle.cp_compile_symbols.specs.Representing.{row_at, system_at}
use Rattle.cp_compile.specs.declared.components.Owner.{Owner}
use Rattle.cp_compile.specs.CompiledComponents.{AreOwners}
use Rattle.cp_compile.proofs.ComponentsCompiled.{no_owner, one_put, owner_has_number, owner_has_table, owner_has_type}
use Rattle.cp_compile.proofs.components.InitialCompiler.add_owner.Goals as goal

pub returns-then-not-is_component_of : goal.returns-then-not-is_component_of
returns-then-not-is_component_of c = λ plans g firsts groups vs v before i represents are.
    let s = erase.sort_of c.args.sort in
    let other : is_component_of s v.type ≡ false = sym (c.is_component_of.ensures v.type represents) ∙ c.if-not-is_component_of.true in
    no_owner plans g firsts groups s (c.args.declared.now.name.now, v) c.args.owners.now.items before other are

pub returns : goal.returns
returns c = λ plans g firsts groups vs v before i represents are.
    let types = c.args.self.now.tables.now.types in
    let s = erase.sort_of c.args.sort in
    let own : is_component_of s v.type ≡ true = sym (c.is_component_of.ensures v.type represents) ∙ c.if-not-is_component_of.false in
    let number : system_of (row_at types c.args.declared.now.of) ≡ Some c.in-Some.number = search rules in
    let text : system_at types c.in-Some.number ≡ Some c.in-Some-system.text = search rules in
    let table : slice_get c.args.self.now.tables.now.systems.items c.in-Some.number ≡ Some c.in-Some-system-2.table.now = search rules in
    subst (λ (os : List Owner). AreOwners plans g os (before ++ owners_of firsts groups (of_sort s ((c.args.declared.now.name.now, v) ∷ [])))) (sym c.in_ok-push.ensures.items)
    (one_put plans g firsts groups s (c.args.declared.now.name.now, v) c.args.owners.now.items before c.in_ok-component.field-0 own are
    (c.in_ok-component.ensures plans g firsts groups vs v i represents number text table))

pub returns-in_default : goal.returns-in_default
returns-in_default c = λ plans g firsts groups vs v before i represents are.
    let s = erase.sort_of c.args.sort in
    let types = c.args.self.now.tables.now.types in
    let own : is_component_of s v.type ≡ true = sym (c.is_component_of.ensures v.type represents) ∙ c.if-not-is_component_of.false in
    let none : system_of (row_at types c.args.declared.now.of) ≡ None = search rules in
    absurd (owner_has_number types c.args.declared.now.of s v.type represents own none)

pub returns-in_default-system : goal.returns-in_default-system
returns-in_default-system c = λ plans g firsts groups vs v before i represents are.
    let types = c.args.self.now.tables.now.types in
    let number : system_of (row_at types c.args.declared.now.of) ≡ Some c.in-Some.number = search rules in
    let none : system_at types c.in-Some.number ≡ None = search rules in
    absurd (owner_has_type types c.args.declared.now.of c.in-Some.number v.type represents number none)

pub returns-in_default-system-2 : goal.returns-in_default-system-2
returns-in_default-system-2 c = λ plans g firsts groups vs v before i represents are.
    let of = c.args.self.now in
    let number : system_of (row_at of.tables.now.types c.args.declared.now.of) ≡ Some c.in-Some.number = search rules in
    let none : slice_get of.tables.now.systems.items c.in-Some.number ≡ None = search rules in
    absurd (owner_has_table of plans g firsts groups vs i c.args.declared.now.of c.in-Some.number v.type represents number none)
