-- System types: the parts of their definition.
use Rattle.std.specs.Prelude.{◌≡◌, ◌+◌, ◌++◌, ◌∷◌, [], ℕ, false, Some, length}
use Rattle.cp_model.specs.Syntax as s
use Rattle.cp_model.specs.declared.tree.Sort.{Sort}
use Rattle.cp_model.specs.declared.tree.Sort.TheVariants as sort
use Rattle.cp_model.specs.declared.rules.Entity.TheVariants as entity
use Rattle.cp_model.specs.declared.rules.Part.TheVariants as part
use Rattle.cp_model.specs.declared.rules.Region.{Region}
use Rattle.cp_model.specs.declared.rules.Structure.TheVariants as structure
use Rattle.cp_model.specs.declared.rules.SystemRow.{SystemRow}
use Rattle.cp_model.specs.RulesJudged.{least}
use Rattle.cp_model.specs.RulesEnvironment.{Environment, Members}
use Rattle.cp_model.specs.RulesTypes.{cap_words}
use Rattle.cp_model.specs.RulesStatements.{statements}
use Rattle.cp_model.specs.RulesNeeds.{need_statements}
use Rattle.cp_model.specs.RulesDeclarations as d
use Rattle.cp_model.specs.Rules.{variable_position}
use Rattle.cp_rules.specs.Checking.{State, reporting, with_set}
use Rattle.cp_rules.specs.Headings.{Collected, collection, nothing, with_part}
use Rattle.cp_rules.specs.Routines.{enter_region}
use Rattle.cp_rules.specs.declared.headings.Heading.{Heading}

abbrev pub heading_of : Environment → s.System → d.Heading
heading_of env y = d.heading env (Some y.sort) false y.parameters

-- The heading was judged and collected, and its names are removed again.
abbrev pub HeadsSystem : State → State → Heading → s.System → Type 0
HeadsSystem old new h y =
    (new ≡ reporting old (heading_of old.env y).violations) × (collection h ≡ with_part nothing (heading_of old.env y))

abbrev pub region_of : s.System → Region
region_of y = record { sort = y.sort; part = part.Body }

-- The environment in which the variables of a system type are declared.
abbrev pub inside : Environment → s.System → Collected → Environment
inside env y k = (d.declare_each (enter_region env k.rows (region_of y)) k.bound).env

-- Its variables, and then its routines and its body.
abbrev pub parts : Environment → s.System → Collected → d.Variables
parts env y k =
    let own = d.variables (inside env y k) (variable_position y.sort) y.variables in
    let all = d.routines own.env y.sort y.routines in
    record { env = all.env; violations = own.violations ++ all.violations ++ statements all.env y.body.list; words = own.words }

abbrev pub JudgesParts : State → State → ℕ → d.Variables → Type 0
JudgesParts old new n v = (new ≡ record { env = v.env; diagnostics = least old.diagnostics v.violations }) × (n ≡ cap_words v.words)

abbrev pub words_of : Sort → ℕ → ℕ → ℕ → ℕ
words_of sort.Process count words need = cap_words (cap_words (cap_words (1 + count) + words) + need)
words_of y count words need = cap_words (cap_words (1 + count) + words)

-- The environment with one more system type.
abbrev pub added_system : Environment → SystemRow → Members → Environment
added_system env row ms = record env {
  types = env.types ++ record { structure = structure.System (length env.systems); words = row.words; has_queues = false } ∷ [];
  members = env.members ++ ms ∷ [];
  systems = env.systems ++ row ∷ [];
}

-- The state after a system type was added, for which the names from a number on are.
abbrev pub with_finished : State → ℕ → Region → SystemRow → Members → State
with_finished s outside region row ms =
    with_set (record s { env = record (added_system s.env row ms) { region = region } }) outside (entity.Type (length s.env.types))

-- The row of a system type whose parts were judged.
abbrev pub row_as : Environment → s.System → ℕ → ℕ → ℕ → SystemRow
row_as env y first count words = record {
  sort = y.sort;
  first = first;
  count = count;
  words = words_of y.sort count words (need_statements env y.body.list);
  body_need = need_statements env y.body.list;
  members = length env.members;
}
