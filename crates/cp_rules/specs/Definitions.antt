-- Definitions: what their names represent, and lists of them.
use Rattle.std.specs.Prelude.{ℕ, ℤ, List, Result, Ok, Err}
use Rattle.cp_model.specs.Syntax as s
use Rattle.cp_model.specs.declared.tree.ConstantDefinition.{ConstantDefinition}
use Rattle.cp_model.specs.declared.rules.Entity.{Entity}
use Rattle.cp_model.specs.declared.rules.Entity.TheVariants as entity
use Rattle.cp_model.specs.declared.rules.Violation.{Violation}
use Rattle.cp_model.specs.RulesEnvironment.{Environment}
use Rattle.cp_model.specs.RulesDeclarations.{Declared}
use Rattle.cp_model.specs.Rules.{define_as, define_constant, define_each, define_section}

abbrev pub constant_entity : Result (ℕ × ℤ) Violation → Entity
constant_entity (Ok c) = entity.Constant c.0 c.1
constant_entity (Err v) = entity.Broken v

abbrev pub type_entity : Result ℕ Violation → Entity
type_entity (Ok t) = entity.Type t
type_entity (Err v) = entity.Broken v

abbrev pub define_constants : Environment → List ConstantDefinition → Declared
define_constants = define_each define_constant

abbrev pub define_types : Environment → List s.TypeDefinition → Declared
define_types = define_each (λ env d. define_as env d.name d.defined)

abbrev pub define_sections : Environment → List s.Section → Declared
define_sections = define_each define_section
