-- The compiler: the program of a text, as a function.
--
-- Units are made in text order, so that the units that a unit calls exist when it is made.
use Rattle.std.specs.Prelude.{◌≡◌, ℕ, suc, ◌+◌, List, [], ◌∷◌, ◌++◌, None, Some, filter, if◌then◌else◌, length, map, nat_lt, slice_get}
use Rattle.cp_model.specs.Abstract as a
use Rattle.cp_model.specs.Abstract.{Definition, Group, Name, Routine, Sort, Statement, System, Tree, TypeExpression, TypeName}
use Rattle.cp_model.specs.Names.{lookup}
use Rattle.cp_model.specs.Types.{ComponentOf, GlobalScope}
use Rattle.cp_model.specs.Declarations.{Variable, declarations, globals}
use Rattle.cp_model.specs.Components.{is_component_of}
use Rattle.cp_model_program.specs.Programs as code
use Rattle.cp_model_program.specs.Programs.{CodeUnit, Done, Operation, Program, Return, StartPlan}
use Rattle.cp_model_program.specs.Layout.{activation_words, component_words, most_words}
use Rattle.cp_model_program.specs.Sites.{BodyOf, LeftOut, RoutineOf, UnitText}
use Rattle.cp_model_program.specs.StatementsFor.{is_function}
use Rattle.cp_model_program.specs.IsProgramFor.{end_of, system_of_unit}
use Rattle.cp_model_program.specs.Scopes.{Scope, activation_fits, component_fits, declared_type, or_zero}
use Rattle.cp_model_program.specs.CodedStatements.{Emitted, emitted}
use Rattle.cp_model_program.specs.Plans.{plan_of_component, plan_of_routine}
use Rattle.cp_model_program.specs.CodeNeeds.{Need, need_of_all}

-- ---- Units

-- The operations and units so far.
pub record Compiled : Type 0 where
  pub operations : List Operation
  pub units : List CodeUnit

-- The operations of a unit from a place on: its last operation first, and its body after it, which
-- leads there.
abbrev pub unit_code : Scope → Operation → Statement → ℕ → Emitted
unit_code scope last s at =
    let body = emitted scope s 0 (suc at) at in
    record { operations = last ∷ body.operations; entry = body.entry }

abbrev pub code_unit : ℕ → StartPlan → Need → CodeUnit
code_unit start starts need =
    record { start = start; starts = starts; words = need.words; temps = need.temps; frames = need.frames }

abbrev pub with_code : Scope → StartPlan → Operation → Statement → Compiled → Compiled
with_code scope starts last s c =
    let e = unit_code scope last s (length c.operations) in
    record {
      operations = c.operations ++ e.operations;
      units = c.units ++ (code_unit e.entry starts (need_of_all c.units scope.words e.operations) ∷ []);
    }

-- A unit without code.
abbrev pub stub : ℕ → StartPlan → CodeUnit
stub words starts = record { start = 0; starts = starts; words = words; temps = 0; frames = 0 }

-- One for a component that has no room.
abbrev pub with_stub : Scope → StartPlan → Compiled → Compiled
with_stub scope starts c = record { operations = c.operations; units = c.units ++ (stub scope.words starts ∷ []) }

-- One whose activation has no room.
abbrev pub left_out : CodeUnit
left_out = stub most_words Done

abbrev pub with_nothing : Compiled → Compiled
with_nothing c = record { operations = c.operations; units = c.units ++ (left_out ∷ []) }

abbrev pub with_unit : Scope → StartPlan → Operation → Statement → Compiled → Compiled
with_unit scope starts last s c =
    if activation_fits scope then (if component_fits scope then with_code scope starts last s c else with_stub scope starts c)
    else with_nothing c

-- ---- System types

abbrev pub routine_scope : GlobalScope → System → List (Name × ℕ) → ℕ → Routine → Scope
routine_scope g s firsts first r =
    record { globals = g; system = s; routine = Some r; firsts = firsts; first = first; words = activation_words g r }

abbrev pub body_scope : GlobalScope → System → List (Name × ℕ) → ℕ → Scope
body_scope g s firsts first =
    record { globals = g; system = s; routine = None; firsts = firsts; first = first; words = 0 }

abbrev pub with_routine : GlobalScope → System → List (Name × ℕ) → ℕ → Routine → Compiled → Compiled
with_routine g s firsts first r c =
    with_unit (routine_scope g s firsts first r) (plan_of_routine g r) (Return (is_function r.result)) r.body c

abbrev pub with_routines : GlobalScope → System → List (Name × ℕ) → ℕ → List Routine → Compiled → Compiled
with_routines g s firsts first [] c = c
with_routines g s firsts first (r ∷ rs) c = with_routines g s firsts first rs (with_routine g s firsts first r c)

abbrev pub with_body : GlobalScope → System → List (Name × ℕ) → ℕ → Compiled → Compiled
with_body g s firsts first c = with_unit (body_scope g s firsts first) Done (end_of s.sort) s.body c

abbrev pub with_system : GlobalScope → List (Name × ℕ) → System → Compiled → Compiled
with_system g firsts s c =
    with_body g s firsts (length c.units) (with_routines g s firsts (length c.units) s.routines c)

-- ---- Definitions

-- `firsts` has the first unit of each named type, the latest type first. A type without units has
-- 0.
pub record CompiledTypes : Type 0 where
  pub compiled : Compiled
  pub firsts : List (Name × ℕ)

abbrev pub first_of_type : List (Name × ℕ) → TypeExpression → ℕ
first_of_type firsts (TypeName x) = or_zero (lookup x firsts)
first_of_type firsts _ = 0

abbrev pub with_definition : GlobalScope → Definition → CompiledTypes → CompiledTypes
with_definition g (a.SystemDef x s) m =
    record { compiled = with_system g m.firsts s m.compiled; firsts = (x, length m.compiled.units) ∷ m.firsts }
with_definition g (a.TypeDef x t) m = record m { firsts = (x, first_of_type m.firsts t) ∷ m.firsts }
with_definition g (a.EnumDef x values) m = record m { firsts = (x, 0) ∷ m.firsts }
with_definition g (a.ConstantDef x c) m = m

abbrev pub with_definitions : GlobalScope → List Definition → CompiledTypes → CompiledTypes
with_definitions g [] m = m
with_definitions g (d ∷ ds) m = with_definitions g ds (with_definition g d m)

abbrev pub nothing_compiled : CompiledTypes
nothing_compiled = record { compiled = record { operations = []; units = [] }; firsts = [] }

-- ---- Components

-- A process or a monitor: its system type, and the unit of its body.
pub record Owner : Type 0 where
  pub system : System
  pub body : ℕ

abbrev pub owner_before : List (Name × ℕ) → List Group → Name × Variable → List Owner → List Owner
owner_before firsts groups v rest = elim v.1.type [
  | ComponentOf s inner ↦
      record { system = s; body = or_zero (lookup (declared_type v.0 groups) firsts) + length s.routines } ∷ rest
  | _ ↦ rest
]

abbrev pub owners_of : List (Name × ℕ) → List Group → List (Name × Variable) → List Owner
owners_of firsts groups [] = []
owners_of firsts groups (v ∷ vs) = owner_before firsts groups v (owners_of firsts groups vs)

abbrev pub waiting_words : GlobalScope → System → ℕ
waiting_words g s = suc (length (declarations g s.parameters))

abbrev pub monitors_at : GlobalScope → ℕ → List Owner → List code.Monitor
monitors_at g at [] = []
monitors_at g at (x ∷ xs) =
    record { start = at; body = x.body; words = component_words g x.system; starts = plan_of_component g x.system }
    ∷ monitors_at g (at + component_words g x.system) xs

abbrev pub processes_at : GlobalScope → ℕ → List Owner → List code.Process
processes_at g at [] = []
processes_at g at (x ∷ xs) =
    record {
      body = x.body;
      words = component_words g x.system;
      parameters = at;
      waiting = waiting_words g x.system;
      starts = plan_of_component g x.system;
    }
    ∷ processes_at g (at + waiting_words g x.system) xs

abbrev pub sum_words : (System → ℕ) → List Owner → ℕ
sum_words f [] = 0
sum_words f (x ∷ xs) = f x.system + sum_words f xs

abbrev pub of_sort : Sort → List (Name × Variable) → List (Name × Variable)
of_sort s vs = filter (λ v. is_component_of s v.1.type) vs

-- ---- The whole

-- The shared words are those of the monitors, one after another, followed by the parameters that
-- wait.
abbrev pub program_of : GlobalScope → Compiled → List Owner → List Owner → Program
program_of g c monitors processes =
    let start = sum_words (component_words g) monitors in
    record {
      operations = c.operations;
      units = c.units;
      monitors = monitors_at g 0 monitors;
      processes = processes_at g start processes;
      shared = start + sum_words (waiting_words g) processes;
    }

abbrev pub compile : Tree → Program
compile t =
    let g = globals t in
    let types = with_definitions g t.definitions nothing_compiled in
    let all = with_system g types.firsts t.initial types.compiled in
    let variables = declarations g t.initial.variables in
    let initial = length types.compiled.units + length t.initial.routines in
    program_of g all
    (owners_of types.firsts t.initial.variables (of_sort a.Monitor variables))
    (record { system = t.initial; body = initial } ∷ owners_of types.firsts t.initial.variables (of_sort a.Process variables))

-- ---- What the units are the code of

abbrev pub system_texts : System → List UnitText
system_texts s = map (RoutineOf s) s.routines ++ (BodyOf s ∷ [])

abbrev pub definition_texts : List Definition → List UnitText
definition_texts [] = []
definition_texts (a.SystemDef x s ∷ ds) = system_texts s ++ definition_texts ds
definition_texts (_ ∷ ds) = definition_texts ds

abbrev pub all_texts : Tree → List UnitText
all_texts t = definition_texts t.definitions ++ system_texts t.initial

-- A unit that needs the greatest number of words is left out.
abbrev pub kept_text : CodeUnit → UnitText → UnitText
kept_text u t = if nat_lt u.words most_words then t else LeftOut (system_of_unit t)

abbrev pub kept_texts : List CodeUnit → List UnitText → List UnitText
kept_texts [] ts = []
kept_texts (u ∷ us) [] = []
kept_texts (u ∷ us) (t ∷ ts) = kept_text u t ∷ kept_texts us ts

abbrev pub unit_texts : Tree → List UnitText
unit_texts t = kept_texts (compile t).units (all_texts t)
