-- Environments: what each name means at a place of the text.
--
-- A statement belongs to a component of some system type, and perhaps to an activation of one of
-- its routines. A name means a parameter, a variable or the result of that routine, otherwise a
-- parameter or variable of the component, otherwise a constant. A name that the outermost scope
-- defines after a system type may also be declared within that type, and the inner meaning is found
-- first.
use Rattle.std.specs.Prelude.{List, None, Option, Some, [], false, ℤ, ◌++◌, ◌∷◌}
use Rattle.cp_model.specs.Abstract.{BaseType, Name, Routine, System}
use Rattle.cp_model.specs.Names.{lookup}
use Rattle.cp_model.specs.Types.{GlobalScope, named_type}
use Rattle.cp_model.specs.Declarations.{Variable, declarations}
use Rattle.cp_model.specs.Locations.{ByName, Location, Owner, Path}

-- An activation: its owner, and the routine that is activated.
pub record Frame : Type 0 where
  pub owner : Owner
  pub routine : Routine

pub record Environment : Type 0 where
  pub globals : GlobalScope
  pub system : System
  pub component : Location
  pub frame : Option Frame

-- ---- The variables of a routine and of a component

-- A function has a variable with its own name, for its result.
abbrev pub result_variable : GlobalScope → Name → Option Name → List (Name × Variable)
result_variable g x None = []
result_variable g x (Some t) = (x, record { by_reference = false; type = named_type g t }) ∷ []

abbrev pub local_variables : GlobalScope → Routine → List (Name × Variable)
local_variables g r = declarations g r.parameters ++ (declarations g r.variables ++ result_variable g r.name r.result)

abbrev pub permanent_variables : GlobalScope → System → List (Name × Variable)
permanent_variables g s = declarations g s.parameters ++ declarations g s.variables

-- ---- What a name means

pub data Meaning : Type 0 where
  IsConstant : (base : BaseType) (ordinal : ℤ) → Meaning
  IsVariable : (at : Location) (v : Variable) → Meaning
  IsUnknown : Meaning

abbrev pub variable_or : Option Variable → Owner → Path → Name → Meaning → Meaning
variable_or (Some v) o path x else' = IsVariable (record { owner = o; path = path ++ (ByName x ∷ []) }) v
variable_or None o path x else' = else'

abbrev pub constant_or_unknown : Option (BaseType × ℤ) → Meaning
constant_or_unknown (Some c) = IsConstant c.0 c.1
constant_or_unknown None = IsUnknown

abbrev pub local_or : GlobalScope → Option Frame → Name → Meaning → Meaning
local_or g None x else' = else'
local_or g (Some f) x else' = variable_or (lookup x (local_variables g f.routine)) f.owner [] x else'

abbrev pub meaning : Environment → Name → Meaning
meaning env x =
    local_or env.globals env.frame x
    (variable_or (lookup x (permanent_variables env.globals env.system)) env.component.owner env.component.path x
    (constant_or_unknown (lookup x env.globals.constants)))
