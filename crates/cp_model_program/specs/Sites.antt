-- Sites: where code is, and what names, calls and targets are there.
use Rattle.std.specs.Prelude.{◌≡◌, ◌≤◌, ℕ, ◌+◌, Bool, true, false, List, [], ◌∷◌, Option, Some, None, slice_get}
use Rattle.cp_model.specs.Abstract as a
use Rattle.cp_model.specs.Abstract.{BaseType, Name, Process, Routine, Sort, System}
use Rattle.cp_model.specs.Types.{ComponentOf, Members, ResolvedType, base_of_type, named_type}
use Rattle.cp_model.specs.Declarations.{Variable, declarations, reported_members}
use Rattle.cp_model.specs.Environments.{Environment, Frame, IsVariable, meaning}
use Rattle.cp_model.specs.Locations.{ByName, Location, under}
use Rattle.cp_model.specs.Components.{Component, declared_monitor}
use Rattle.cp_model.specs.Calls.{Callee, callee}
use Rattle.cp_law_typing.specs.Needs.{result_words}
use Rattle.cp_law_typing.specs.StaticTypes.{is_clock}
use Rattle.cp_model_program.specs.Terms as target
use Rattle.cp_model_program.specs.Terms.{Local, Member, Root, Target, Through}
use Rattle.cp_model_program.specs.Programs.{Call, CodeUnit, Operation, Program}
use Rattle.cp_model_program.specs.Layout.{local, member, right}

-- ---- Sites

-- The part of a text that a unit is the code of. A unit is left out if it has no room, or calls one
-- that has none.
pub data UnitText : Type 0 where
  RoutineOf : (s : System) (r : Routine) → UnitText
  BodyOf : (s : System) → UnitText
  LeftOut : (s : System) → UnitText

-- A site has the program, the text of each unit, the meaning of names, the unit, and the words of
-- one activation of it.
pub record Site : Type 0 where
  pub program : Program
  pub texts : List UnitText
  pub env : Environment
  pub unit : CodeUnit
  pub words : ℕ

abbrev pub operation_at : Program → ℕ → Option Operation
operation_at program place = slice_get program.operations place

-- ---- Names

abbrev pub local_location : Frame → Name → Location
local_location f x = record { owner = f.owner; path = ByName x ∷ [] }

-- A name means the parameter or variable of the running routine that is at `at` in its
-- activation.
pub record NamesLocal (env : Environment) (x : Name) (at : ℕ) (by_reference : Bool) (t : ResolvedType) : Type 0 where
  pub frame : Frame
  pub runs : env.frame ≡ Some frame
  pub variable : Variable
  pub means : meaning env x ≡ IsVariable (local_location frame x) variable
  pub lies : local env.globals frame.routine x ≡ Some (at, variable)
  pub reference : variable.by_reference ≡ by_reference
  pub type : variable.type ≡ t

-- A name means the parameter or variable of the running component that is at `at` in it.
pub record NamesMember (env : Environment) (x : Name) (at : ℕ) (t : ResolvedType) : Type 0 where
  pub variable : Variable
  pub means : meaning env x ≡ IsVariable (under env.component (ByName x ∷ [])) variable
  pub lies : member env.globals env.system x ≡ Some (at, t)
  pub reference : variable.by_reference ≡ false
  pub type : variable.type ≡ t

abbrev pub NamesVariable : Environment → Name → Root → ResolvedType → Type 0
NamesVariable env x (Local at) t = NamesLocal env x at false t
NamesVariable env x (Member at) t = NamesMember env x at t
NamesVariable env x (Through at plus) t = (plus ≡ 0) × NamesLocal env x at true t

abbrev pub IsNoClock : a.Designator → Type 0
IsNoClock (a.Plain x) = is_clock x ≡ false
IsNoClock _ = Unit {0}

-- ---- Targets

-- A parameter of the running component is a right to a component of this type, and no member has
-- its name.
pub record RightTo (env : Environment) (n : Component) (at : ℕ) : Type 0 where
  pub variable : Variable
  pub lies : right env.globals env.system n.name ≡ Some (at, variable)
  pub inner : Members
  pub type : variable.type ≡ ComponentOf n.system inner
  pub no_member : member env.globals env.system n.name ≡ None

-- A named component is a variable of the running one, or the running one has a right to it.
abbrev pub TargetOf : Environment → Component → Sort → Bool → Target → Type 0
TargetOf env n a.Class false (target.Class at) =
    member env.globals env.system n.name ≡ Some (at, ComponentOf n.system (reported_members env.globals n.system))
TargetOf env n a.Class true (target.ClassRight at) = RightTo env n at
TargetOf env n a.Monitor false (target.Monitor m) = declared_monitor env n ≡ m
TargetOf env n a.Monitor true (target.MonitorRight at) = RightTo env n at
TargetOf env n _ _ _ = ⊥

abbrev pub TargetFor : Environment → Option Component → Target → Type 0
TargetFor env None t = t ≡ target.Own
TargetFor env (Some n) t = TargetOf env n n.system.sort n.is_parameter t

-- ---- Calls

abbrev pub system_of_callee : Environment → Option Component → System
system_of_callee env None = env.system
system_of_callee env (Some n) = n.system

-- After the activation and the first `kept` temps of the site, the unit `u` needs no more than the
-- site's own unit does.
pub record FitsBehind (site : Site) (kept : ℕ) (u : CodeUnit) : Type 0 where
  pub words : site.words + u.words ≤ site.unit.words
  pub temps : kept + u.temps ≤ site.unit.temps
  pub frames : 1 + u.frames ≤ site.unit.frames

-- The call runs the unit of text `t` after the activation of the site, and keeps `kept` temps for
-- the caller.
pub record Runs (site : Site) (t : UnitText) (kept : ℕ) (call : Call) : Type 0 where
  pub text : slice_get site.texts call.routine ≡ Some t
  pub unit : CodeUnit
  pub there : slice_get site.program.units call.routine ≡ Some unit
  pub fits : FitsBehind site kept unit
  pub words : call.words ≡ site.words
  pub temps : call.temps ≡ kept

pub record Calls (site : Site) (d : a.Designator) (c : Callee) (kept : ℕ) (call : Call) : Type 0 where
  pub means : callee site.env d ≡ Some c
  pub target : TargetFor site.env c.of call.target
  pub runs : Runs site (RoutineOf (system_of_callee site.env c.of) c.routine) kept call

abbrev pub parameters : Site → Callee → List (Name × Variable)
parameters site c = declarations site.env.globals c.routine.parameters

-- Where the first parameter is in the new activation.
abbrev pub first_parameter : Callee → ℕ
first_parameter c = result_words c.routine.result

-- The value of a function has the base type `b`.
abbrev pub Answers : Site → Callee → BaseType → Type 0
Answers site c b = (t : Name) × (c.routine.result ≡ Some t) × (base_of_type (named_type site.env.globals t) ≡ b)
