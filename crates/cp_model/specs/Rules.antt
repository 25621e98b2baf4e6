-- Definitions and the whole text: the violations of a tree, and which trees are accepted.
use Rattle.std.specs.Prelude.{◌≡◌, ℕ, suc, ◌+◌, ◌-◌, pos, false, List, [], ◌∷◌, ◌++◌, Option, None, Some, if◌then◌else◌, length, drop}
use Rattle.cp_model.specs.Syntax as s
use Rattle.cp_model.specs.declared.tree.Identifier.{Identifier}
use Rattle.cp_model.specs.declared.tree.ConstantDefinition.{ConstantDefinition}
use Rattle.cp_model.specs.declared.tree.Sort.{Sort}
use Rattle.cp_model.specs.declared.tree.Sort.TheVariants as sort
use Rattle.cp_model.specs.declared.rules.Rule.{Rule}
use Rattle.cp_model.specs.declared.rules.Rule.TheVariants.{C13}
use Rattle.cp_model.specs.declared.rules.Violation.{Violation}
use Rattle.cp_model.specs.declared.rules.Entity.{Entity}
use Rattle.cp_model.specs.declared.rules.Entity.TheVariants as entity
use Rattle.cp_model.specs.declared.rules.Structure.TheVariants as structure
use Rattle.cp_model.specs.declared.rules.TypeRow.{TypeRow}
use Rattle.cp_model.specs.declared.rules.SystemRow.{SystemRow}
use Rattle.cp_model.specs.declared.rules.Member.TheVariants as member
use Rattle.cp_model.specs.declared.rules.Position.{Position}
use Rattle.cp_model.specs.declared.rules.Position.TheVariants as position
use Rattle.cp_model.specs.declared.rules.Part.TheVariants as part
use Rattle.cp_model.specs.RulesJudged.{Violations, violation, unless, least, IsAmong, violations_of}
use Rattle.cp_model.specs.RulesEnvironment.{Environment, Text, Names, Members, simple_row, declare, c1_declared, entity_of, is_process, standard_environment}
use Rattle.cp_model.specs.RulesTypes.{constant, type_placed, add_type, cap_words, is_within}
use Rattle.cp_model.specs.RulesStatements.{statements}
use Rattle.cp_model.specs.RulesNeeds.{need_statements}
use Rattle.cp_model.specs.RulesDeclarations.{Declared, declare_each, heading, variables, routines}

-- ---- constants and enumerations

abbrev pub define_constant : Environment → ConstantDefinition → Declared
define_constant env d =
    let value = constant (declare d.name entity.UnfinishedConstant env) d.value in
    record { env = declare d.name (entity_of (λ c. entity.Constant c.0 c.1) value) env; violations = c1_declared env d.name ++ violations_of value }

-- the values of an enumeration, numbered from an ordinal
abbrev pub values : ℕ → ℕ → List Identifier → List (Identifier × Entity)
values base n [] = []
values base n (x ∷ xs) = (x, entity.Constant base (pos n)) ∷ values base (suc n) xs

-- the name that is being defined can't be the name of a value
abbrev pub define_enumeration : Environment → Identifier → List Identifier → Declared
define_enumeration env x xs =
    let t = length env.types in
    let own = add_type env (simple_row t (pos 0) (pos (length xs - 1))) in
    let defined = declare_each (declare x entity.UnfinishedType own) (values t 0 xs) in
    record {
      env = (declare_each (declare x (entity.Type t) own) (values t 0 xs)).env;
      violations = c1_declared env x ++ defined.violations;
    }

abbrev pub define_type : Environment → Identifier → s.TypeExpression → Declared
define_type env x t =
    let m = type_placed (declare x entity.UnfinishedType env) position.Definition t in
    record { env = declare x (entity_of entity.Type m.of) (record m.env { names = env.names }); violations = c1_declared env x ++ violations_of m.of }

-- ---- system types

-- the routines among these names, as members of the type
abbrev pub routine_member : Text → Entity → Members
routine_member x (entity.Routine r) = (x, member.Routine r) ∷ []
routine_member x e = []

abbrev pub routine_members : Names → Members
routine_members [] = []
routine_members (e ∷ es) = routine_member e.0 e.1 ++ routine_members es

abbrev pub variable_position : Sort → Position
variable_position sort.Monitor = position.MonitorVariable
variable_position y = position.ComponentVariable

abbrev pub define_system : Environment → Identifier → s.System → Declared
define_system env x y =
    let named = declare x entity.UnfinishedType env in
    let head = heading named (Some y.sort) false y.parameters in
    let inside = declare_each (record named {
      parameters = env.parameters ++ head.rows;
      region = record { sort = y.sort; part = part.Body };
    }) head.bound in
    let own = variables inside.env (variable_position y.sort) y.variables in
    let all = routines own.env y.sort y.routines in
    let body_need = need_statements all.env y.body.list in
    let count = length head.rows in
    let words = cap_words (1 + count + own.words + (if is_process y.sort then body_need else 0)) in
    let row : TypeRow = record { structure = structure.System (length all.env.systems); words = words; has_queues = false } in
    let system : SystemRow = record { sort = y.sort; first = length env.parameters; count = count; words = words; body_need = body_need; members = length all.env.members } in
    record {
      env = declare x (entity.Type (length all.env.types)) (record all.env {
        names = env.names;
        types = all.env.types ++ row ∷ [];
        members = all.env.members ++ routine_members (drop (length named.names) all.env.names) ∷ [];
        systems = all.env.systems ++ system ∷ [];
        region = env.region;
      });
      violations = c1_declared env x ++ head.violations ++ own.violations ++ all.violations ++ statements all.env y.body.list;
    }

-- ---- the text

abbrev pub define_as : Environment → Identifier → s.Defined → Declared
define_as env x (s.Written t) = define_type env x t
define_as env x (s.Enumeration xs) = define_enumeration env x xs
define_as env x (s.SystemType y) = define_system env x y

abbrev pub define_each : {A : Type 0} → (Environment → A → Declared) → Environment → List A → Declared
define_each f env [] = record { env = env; violations = [] }
define_each f env (d ∷ ds) =
    let one = f env d in
    let rest = define_each f one.env ds in
    record { env = rest.env; violations = one.violations ++ rest.violations }

abbrev pub define_section : Environment → s.Section → Declared
define_section env (s.Constants ds) = define_each define_constant env ds
define_section env (s.Types ds) = define_each (λ e d. define_as e d.name d.defined) env ds

-- C13: the initial process has more than 65,536 words, judged only if nothing is broken in its body
abbrev pub c13_initial : ℕ → ℕ → Violations → Violations
c13_initial at words [] = unless (is_within words) C13 at
c13_initial at words (v ∷ vs) = []

-- the violations of a tree
abbrev pub violations : s.Tree → Violations
violations t =
    let defined = define_each define_section standard_environment t.sections in
    let own = variables defined.env position.InitialVariable t.variables in
    let all = routines own.env sort.Process t.routines in
    let body = statements all.env t.body.list in
    let words = 1 + own.words + need_statements all.env t.body.list in
    defined.violations ++ own.violations ++ all.violations ++ body ++ c13_initial t.body.at words body

-- the tree breaks this rule at this place
abbrev pub IsBroken : s.Tree → Rule → ℕ → Type 0
IsBroken t rule at = IsAmong (violation rule at) (violations t)

-- the tree breaks no rule
abbrev pub Accepted : s.Tree → Type 0
Accepted t = violations t ≡ []

-- the violation that is reported: at the earliest place where a rule is broken, and there of the
-- lowest rule
abbrev pub first_violation : s.Tree → Option Violation
first_violation t = least None (violations t)
