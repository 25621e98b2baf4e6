-- Routines: the parts of their declaration.
use Rattle.std.specs.Prelude.{◌≡◌, ◌+◌, ◌++◌, ℕ, List, [], ◌∷◌, Option, None, Some, Result, Ok, Err, is_some, length}
use Rattle.cp_model.specs.Syntax as s
use Rattle.cp_model.specs.declared.tree.Identifier.{Identifier}
use Rattle.cp_model.specs.declared.tree.Sort.{Sort}
use Rattle.cp_model.specs.declared.rules.Entity.TheVariants as entity
use Rattle.cp_model.specs.declared.rules.ParameterRow.{ParameterRow}
use Rattle.cp_model.specs.declared.rules.Position.TheVariants as position
use Rattle.cp_model.specs.declared.rules.Region.{Region}
use Rattle.cp_model.specs.declared.rules.Returns.{Returns}
use Rattle.cp_model.specs.declared.rules.Returns.TheVariants as returns
use Rattle.cp_model.specs.declared.rules.RoutineRow.{RoutineRow}
use Rattle.cp_model.specs.declared.rules.Violation.{Violation}
use Rattle.cp_model.specs.RulesJudged.{Judged, Violations, least, then_judge}
use Rattle.cp_model.specs.RulesEnvironment.{Environment, c1_declared, declare, no_routine}
use Rattle.cp_model.specs.RulesTypes.{cap_words, named_type}
use Rattle.cp_model.specs.RulesStatements.{statements}
use Rattle.cp_model.specs.RulesNeeds.{need_statements}
use Rattle.cp_model.specs.RulesDeclarations as d
use Rattle.cp_rules.specs.Checking.{State, first_of, reporting, with_set}
use Rattle.cp_rules.specs.Headings.{Collected, collection, nothing, with_part}
use Rattle.cp_rules.specs.declared.headings.Heading.{Heading}

-- ---- results

abbrev pub result_judged : Environment → Identifier → Judged ℕ
result_judged env x = then_judge (named_type env x) (d.c8_c11_result env x.at)

abbrev pub first_if : Option (Judged ℕ) → Option (Result ℕ Violation)
first_if None = None
first_if (Some j) = Some (first_of j)

abbrev pub JudgesResult : State → State → Option (Result ℕ Violation) → Option (Judged ℕ) → Type 0
JudgesResult old new answer j = (new ≡ reporting old (d.result_violations j)) × (answer ≡ first_if j)

abbrev pub returns_of_result : Option (Result ℕ Violation) → Returns
returns_of_result None = returns.Nothing
returns_of_result (Some (Ok t)) = returns.Value t
returns_of_result (Some (Err v)) = returns.Broken v

abbrev pub result_words : Option (Result ℕ Violation) → ℕ
result_words None = 0
result_words (Some of) = 1

-- ---- the heading of a routine

abbrev pub heading_of : Environment → s.Routine → d.Heading
heading_of env r = d.heading (declare r.name (entity.UnfinishedRoutine no_routine) env) None (is_some r.result_type) r.parameters

abbrev pub answer_of : Environment → s.Routine → Option (Judged ℕ)
answer_of env r = d.result_type (heading_of env r).env r.result_type

abbrev pub heading_violations : Environment → Sort → s.Routine → Violations
heading_violations env y r =
    c1_declared env r.name ++ d.c5_entry y r.entry ++ (heading_of env r).violations ++ d.result_violations (answer_of env r)

-- The state in which the heading was judged, its names are removed again, and the name of the routine is visible.
abbrev pub with_name : State → Sort → s.Routine → State
with_name old y r = record {
  env = declare r.name (entity.UnfinishedRoutine no_routine) old.env;
  diagnostics = least old.diagnostics (heading_violations old.env y r);
}

-- The heading was judged and collected.
abbrev pub HeadsRoutine : State → State → Heading → Option (Result ℕ Violation) → Sort → s.Routine → Type 0
HeadsRoutine old new h answer y r =
    (new ≡ with_name old y r) × (collection h ≡ with_part nothing (heading_of old.env r)) × (answer ≡ first_if (answer_of old.env r))

-- The row of a routine, before its need is known.
abbrev pub row_as : ℕ → ℕ → Option ℕ → Option (Result ℕ Violation) → RoutineRow
row_as first count entry answer = record { entry = is_some entry; first = first; count = count; returns = returns_of_result answer; need = 0 }

-- ---- the inside of a routine or a system type

-- The environment with these parameters added, and the statements in this region.
abbrev pub enter_region : Environment → List ParameterRow → Region → Environment
enter_region env rows region = record env { parameters = env.parameters ++ rows; region = region }

abbrev pub region_of : Sort → s.Routine → Region
region_of y r = record { sort = y; part = d.part_of r.entry }

-- The environment in which the variables of a routine are declared, whose name is visible.
abbrev pub inside : Environment → Sort → s.Routine → Collected → Environment
inside env y r k = (d.declare_each (enter_region env k.rows (region_of y r)) k.bound).env

abbrev pub locals : Environment → s.Routine → d.Variables
locals env r = d.variables env position.RoutineVariable r.variables

-- Variables and a body were judged, and their words are counted up to one above the limit.
abbrev pub JudgesBody : State → State → ℕ → d.Variables → s.Body → Type 0
JudgesBody old new n v b =
    (new ≡ record { env = v.env; diagnostics = least old.diagnostics (v.violations ++ statements v.env b.list) })
    × (n ≡ cap_words (v.words + need_statements v.env b.list))

-- The state after the row of a routine was added, for which the names from a number on are.
abbrev pub with_finished : State → ℕ → Region → RoutineRow → State
with_finished s outside region row =
    with_set (record s { env = record s.env { routines = s.env.routines ++ row ∷ []; region = region } }) outside
    (entity.Routine (length s.env.routines))
