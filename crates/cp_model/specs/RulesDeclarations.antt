-- Declarations of variables, parameters and routines: what they add to the environment, and the
-- rules inside them.
use Rattle.std.specs.Prelude.{Bool, List, None, Option, Some, ℕ, [], false, if◌then◌else◌, is_some, length, map, min, nat_eq, not, replicate, suc, true, ◌&&◌, ◌*◌, ◌++◌, ◌+◌, ◌∷◌}
use Rattle.cp_model.specs.Syntax as s
use Rattle.cp_model.specs.declared.tree.Identifier.{Identifier}
use Rattle.cp_model.specs.declared.tree.Sort.{Sort}
use Rattle.cp_model.specs.declared.tree.Sort.TheVariants as sort
use Rattle.cp_model.specs.declared.rules.Rule.{Rule}
use Rattle.cp_model.specs.declared.rules.Rule.TheVariants.{C5, C7, C8, C11, C13}
use Rattle.cp_model.specs.declared.rules.Access.{Access}
use Rattle.cp_model.specs.declared.rules.Access.TheVariants as access
use Rattle.cp_model.specs.declared.rules.Entity.{Entity}
use Rattle.cp_model.specs.declared.rules.Entity.TheVariants as entity
use Rattle.cp_model.specs.declared.rules.Structure.{Structure}
use Rattle.cp_model.specs.declared.rules.Structure.TheVariants as structure
use Rattle.cp_model.specs.declared.rules.Returns.{Returns}
use Rattle.cp_model.specs.declared.rules.Returns.TheVariants as returns
use Rattle.cp_model.specs.declared.rules.RoutineRow.{RoutineRow}
use Rattle.cp_model.specs.declared.rules.ParameterRow.{ParameterRow}
use Rattle.cp_model.specs.declared.rules.SystemRow.{SystemRow}
use Rattle.cp_model.specs.declared.rules.Position.{Position}
use Rattle.cp_model.specs.declared.rules.Position.TheVariants as position
use Rattle.cp_model.specs.declared.rules.Part.{Part}
use Rattle.cp_model.specs.declared.rules.Part.TheVariants as part
use Rattle.cp_model.specs.RulesJudged.{Judged, Sound, Broken, Violations, violation, unless, breaks, also, then_judge, guard, violations_of, meaning_of}
use Rattle.cp_model.specs.RulesEnvironment.{Environment, integer, row_of, is_simple, system_row, is_process, no_routine, declare, c1_declared, entity_of}
use Rattle.cp_model.specs.RulesTypes.{named_type, type_placed, cap_words, is_within}
use Rattle.cp_model.specs.RulesStatements.{statements}
use Rattle.cp_model.specs.RulesNeeds.{need_statements}

-- the environment with what was declared, and the violations in the declarations
pub record Declared : Type 0 where
  pub env : Environment
  pub violations : Violations

-- declares each of these names in order, as the entity beside it
abbrev pub declare_each : Environment → List (Identifier × Entity) → Declared
declare_each env [] = record { env = env; violations = [] }
declare_each env (d ∷ ds) =
    let rest = declare_each (declare d.0 d.1 env) ds in
    record { env = rest.env; violations = c1_declared env d.0 ++ rest.violations }

-- declares all of these names as the same entity
abbrev pub declare_all : Environment → Entity → List Identifier → Declared
declare_all env e xs = declare_each env (map (λ x. (x, e)) xs)

-- what names represent while they are being declared, before their type is known: a variable isn't
-- a type
abbrev pub unfinished_variable : Entity
unfinished_variable = entity.Variable integer access.Own

-- ---- owners

-- there are at most 255 processes, including the initial one, and at most 255 monitors
abbrev pub one_too_many : ℕ
one_too_many = 256

-- one more, counted up to `one_too_many`
abbrev pub one_more : ℕ → ℕ
one_more n = min (suc n) one_too_many

-- the environment with one more process or monitor
abbrev pub with_owner : Environment → Sort → Environment
with_owner env sort.Process = record env { processes = one_more env.processes }
with_owner env sort.Monitor = record env { monitors = one_more env.monitors }
with_owner env sort.Class = env

-- C13: process 256, monitor 256, or an owner of more than 65,536 words
abbrev pub c13_owner : Environment → Identifier → SystemRow → Sort → Violations
c13_owner env x y sort.Process = unless (not (nat_eq (suc env.processes) one_too_many) && is_within y.words) C13 x.at
c13_owner env x y sort.Monitor = unless (not (nat_eq (suc env.monitors) one_too_many) && is_within y.words) C13 x.at
c13_owner env x y sort.Class = []

abbrev pub owners_of : Environment → SystemRow → List Identifier → Declared
owners_of env y [] = record { env = env; violations = [] }
owners_of env y (x ∷ xs) =
    let rest = owners_of (with_owner env y.sort) y xs in
    record { env = rest.env; violations = c13_owner env x y y.sort ++ rest.violations }

abbrev pub owners_in : Environment → Structure → List Identifier → Declared
owners_in env (structure.System y) xs = owners_of env (system_row env y) xs
owners_in env row xs = record { env = env; violations = [] }

-- processes and monitors exist only in the initial process
abbrev pub owners : Environment → Position → Judged ℕ → List Identifier → Declared
owners env position.InitialVariable (Sound t) xs = owners_in env (row_of env t).structure xs
owners env p j xs = record { env = env; violations = [] }

-- ---- variables

abbrev pub is_owner : Sort → Bool
is_owner sort.Class = false
is_owner y = true

-- the words that a variable takes from its owner: none for a process or a monitor, which is an
-- owner itself
abbrev pub words_in : Environment → ℕ → Structure → ℕ
words_in env words (structure.System y) = if is_owner (system_row env y).sort then 0 else words
words_in env words row = words

abbrev pub words_of : Environment → Judged ℕ → ℕ
words_of env (Sound t) = words_in env (row_of env t).words (row_of env t).structure
words_of env (Broken v vs) = 0

-- the environment with the variables, the violations in them, and their words
pub record Variables : Type 0 where
  pub env : Environment
  pub violations : Violations
  pub words : ℕ

abbrev pub own_variable : ℕ → Entity
own_variable t = entity.Variable t access.Own

abbrev pub variable_group : Environment → Position → s.Variables → Variables
variable_group env p g =
    let defined = declare_all env unfinished_variable g.names in
    let m = type_placed defined.env p g.of in
    let visible = declare_all (record m.env { names = env.names }) (entity_of own_variable m.of) g.names in
    let counted = owners visible.env p m.of g.names in
    record {
      env = counted.env;
      violations = defined.violations ++ violations_of m.of ++ counted.violations;
      words = length g.names * words_of m.env m.of;
    }

abbrev pub variables : Environment → Position → List s.Variables → Variables
variables env p [] = record { env = env; violations = []; words = 0 }
variables env p (g ∷ gs) =
    let one = variable_group env p g in
    let rest = variables one.env p gs in
    record { env = rest.env; violations = one.violations ++ rest.violations; words = one.words + rest.words }

-- ---- parameters

-- the components that a parameter may be: a monitor, and for a class also a class
abbrev pub allows_component : Sort → Sort → Bool
allows_component of sort.Monitor = true
allows_component sort.Class sort.Class = true
allows_component of y = false

abbrev pub allows_parameter : Environment → Option Sort → Structure → Bool
-- a parameter of a system type
allows_parameter env (Some of) (structure.Simple base low high) = true
allows_parameter env (Some of) (structure.System y) = allows_component of (system_row env y).sort
allows_parameter env (Some of) row = false
-- a parameter of a routine
allows_parameter env None (structure.System y) = false
allows_parameter env None row = true

-- C7: a parameter of a process or monitor type that is neither simple nor a monitor; a parameter of
-- a class type that is neither simple nor a monitor nor a class; a parameter of a routine that is
-- of a system type. C8: a parameter with queues, which breaks only C8
abbrev pub c7_c8_parameter : Environment → Option Sort → ℕ → ℕ → Judged ℕ
c7_c8_parameter env of at t =
    if (row_of env t).has_queues then breaks C8 at else guard (allows_parameter env of (row_of env t).structure) C7 at t

-- C7: `var` before a parameter of a system type. C11: `var` parameter of a function
abbrev pub var_rule : Option Sort → Bool → Option Rule
var_rule (Some of) is_function = Some C7
var_rule None true = Some C11
var_rule None false = None

abbrev pub c7_c11_var : Option Rule → Option ℕ → Violations
c7_c11_var (Some rule) (Some at) = violation rule at ∷ []
c7_c11_var rule at = []

abbrev pub parameter_access : Bool → Access
parameter_access true = access.ByReference
parameter_access false = access.Passive

-- the heading so far: the environment with its names hidden, the violations, what the names will
-- represent, their rows, and the words that they take in an activation
pub record Heading : Type 0 where
  pub env : Environment
  pub violations : Violations
  pub bound : List (Identifier × Entity)
  pub rows : List ParameterRow
  pub words : ℕ

abbrev pub parameter_entity : Bool → ℕ → Entity
parameter_entity by_reference t = entity.Variable t (parameter_access by_reference)

abbrev pub parameter_words : Environment → Bool → Judged ℕ → ℕ
parameter_words env true j = 1
parameter_words env false j = words_of env j

abbrev pub parameter_group : Environment → Option Sort → Bool → s.Parameters → Heading
parameter_group env of is_function g =
    let defined = declare_all env unfinished_variable g.names in
    let by_reference = is_some g.by_reference && not (is_some of) in
    let t = then_judge (named_type defined.env g.of) (c7_c8_parameter env of g.of.at) in
    record {
      env = (declare_all env entity.Hidden g.names).env;
      violations = defined.violations ++ c7_c11_var (var_rule of is_function) g.by_reference ++ violations_of t;
      bound = map (λ x. (x, entity_of (parameter_entity by_reference) t)) g.names;
      rows = replicate (length g.names) (record { by_reference = by_reference; of = meaning_of t });
      words = length g.names * parameter_words env by_reference t;
    }

abbrev pub heading : Environment → Option Sort → Bool → List s.Parameters → Heading
heading env of is_function [] = record { env = env; violations = []; bound = []; rows = []; words = 0 }
heading env of is_function (g ∷ gs) =
    let one = parameter_group env of is_function g in
    let rest = heading one.env of is_function gs in
    record {
      env = rest.env;
      violations = one.violations ++ rest.violations;
      bound = one.bound ++ rest.bound;
      rows = one.rows ++ rest.rows;
      words = one.words + rest.words;
    }

-- ---- routines

-- C11: a result type that isn't simple. C8: a result type with queues
abbrev pub c8_c11_result : Environment → ℕ → ℕ → Judged ℕ
c8_c11_result env at t = also (unless (not (row_of env t).has_queues) C8 at) (guard (is_simple env t) C11 at t)

abbrev pub result_type : Environment → Option Identifier → Option (Judged ℕ)
result_type env None = None
result_type env (Some x) = Some (then_judge (named_type env x) (c8_c11_result env x.at))

abbrev pub returns_of : Option (Judged ℕ) → Returns
returns_of None = returns.Nothing
returns_of (Some (Sound t)) = returns.Value t
returns_of (Some (Broken v vs)) = returns.Broken v

abbrev pub result_violations : Option (Judged ℕ) → Violations
result_violations None = []
result_violations (Some j) = violations_of j

abbrev pub result_words : Option (Judged ℕ) → ℕ
result_words None = 0
result_words (Some j) = 1

-- C5: `entry` in a process type or the initial process
abbrev pub c5_entry : Sort → Option ℕ → Violations
c5_entry y None = []
c5_entry y (Some at) = unless (not (is_process y)) C5 at

abbrev pub part_of : Option ℕ → Part
part_of None = part.Routine
part_of (Some at) = part.EntryRoutine

-- a routine of a component of this sort
abbrev pub routine : Environment → Sort → s.Routine → Declared
routine env y r =
    let head = heading (declare r.name (entity.UnfinishedRoutine no_routine) env) None (is_some r.result_type) r.parameters in
    let answer = result_type head.env r.result_type in
    let row : RoutineRow = record { entry = is_some r.entry; first = length env.parameters; count = length head.rows; returns = returns_of answer; need = 0 } in
    -- the parameters are visible from the end of the heading
    let inside = declare_each (declare r.name (entity.UnfinishedRoutine row) (record env {
      parameters = env.parameters ++ head.rows;
      region = record { sort = y; part = part_of r.entry };
    })) head.bound in
    let locals = variables inside.env position.RoutineVariable r.variables in
    let need = cap_words (1 + result_words answer + head.words + locals.words + need_statements locals.env r.body.list) in
    record {
      env = declare r.name (entity.Routine (length env.routines)) (record locals.env {
        names = env.names;
        routines = env.routines ++ record row { need = need } ∷ [];
        region = env.region;
      });
      violations = c1_declared env r.name ++ c5_entry y r.entry ++ head.violations ++ result_violations answer ++ locals.violations
          ++ statements locals.env r.body.list;
    }

abbrev pub routines : Environment → Sort → List s.Routine → Declared
routines env y [] = record { env = env; violations = [] }
routines env y (r ∷ rs) =
    let one = routine env y r in
    let rest = routines one.env y rs in
    record { env = rest.env; violations = one.violations ++ rest.violations }
