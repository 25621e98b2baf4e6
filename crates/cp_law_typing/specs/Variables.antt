-- Where variables are, and which constants names are: what the meaning of a name says about its
-- declaration.
use Rattle.std.specs.Prelude.{◌≡◌, List, [], ◌∷◌, Option, None, Some, ℤ}
use Rattle.cp_model.specs.Abstract.{BaseType, Name}
use Rattle.cp_model.specs.Names.{lookup}
use Rattle.cp_model.specs.Types.{GlobalScope}
use Rattle.cp_model.specs.Declarations.{Variable}
use Rattle.cp_model.specs.Locations.{ByName, Location, root, under}
use Rattle.cp_model.specs.Environments.{Environment, Frame, local_variables, permanent_variables}

-- the variables of the activation, if there is one
abbrev pub frame_variables : GlobalScope → Option Frame → List (Name × Variable)
frame_variables g None = []
frame_variables g (Some f) = local_variables g f.routine

-- a variable, parameter or result of the running routine
pub record IsLocalVariable (env : Environment) (x : Name) (at : Location) (v : Variable) : Type 0 where
  pub frame : Frame
  pub running : env.frame ≡ Some frame
  pub found : lookup x (local_variables env.globals frame.routine) ≡ Some v
  pub lies : at ≡ under (root frame.owner) (ByName x ∷ [])

-- a variable or parameter of the component
pub record IsOwnVariable (env : Environment) (x : Name) (at : Location) (v : Variable) : Type 0 where
  pub no_local : lookup x (frame_variables env.globals env.frame) ≡ None
  pub found : lookup x (permanent_variables env.globals env.system) ≡ Some v
  pub lies : at ≡ under env.component (ByName x ∷ [])

pub record IsGlobalConstant (env : Environment) (x : Name) (b : BaseType) (n : ℤ) : Type 0 where
  pub no_local : lookup x (frame_variables env.globals env.frame) ≡ None
  pub no_own : lookup x (permanent_variables env.globals env.system) ≡ None
  pub found : lookup x env.globals.constants ≡ Some (b, n)
