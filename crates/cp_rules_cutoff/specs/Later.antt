-- Violations and environments in which nothing is earlier than a violation.
use Rattle.std.specs.Prelude.{Bool, List, [], not, true, ◌&&◌, ◌∷◌}
use Rattle.cp_model.specs.declared.rules.Entity.{Entity}
use Rattle.cp_model.specs.declared.rules.Entity.TheVariants as entity
use Rattle.cp_model.specs.declared.rules.Returns.{Returns}
use Rattle.cp_model.specs.declared.rules.Returns.TheVariants as returns
use Rattle.cp_model.specs.declared.rules.RoutineRow.{RoutineRow}
use Rattle.cp_model.specs.declared.rules.Violation.{Violation}
use Rattle.cp_model.specs.RulesEnvironment.{Environment, Names}
use Rattle.cp_model.specs.RulesJudged.{Judged, Violations, is_before, violations_of}

abbrev pub is_later : Violation → Violation → Bool
is_later w v = not (is_before v w)

abbrev pub returns_later : Violation → Returns → Bool
returns_later w (returns.Broken v) = is_later w v
returns_later w r = true

abbrev pub entity_later : Violation → Entity → Bool
entity_later w (entity.Broken v) = is_later w v
entity_later w (entity.UnfinishedRoutine r) = returns_later w r.returns
entity_later w e = true

abbrev pub names_later : Violation → Names → Bool
names_later w [] = true
names_later w (x ∷ xs) = entity_later w x.1 && names_later w xs

abbrev pub routines_later : Violation → List RoutineRow → Bool
routines_later w [] = true
routines_later w (r ∷ rs) = returns_later w r.returns && routines_later w rs

-- No broken declaration that is visible is broken at an earlier place: its violation is reported
-- again wherever it is used.
abbrev pub environment_later : Violation → Environment → Bool
environment_later w env = names_later w env.names && routines_later w env.routines

-- ---- What is reported

abbrev pub violations_later : Violation → Violations → Bool
violations_later w [] = true
violations_later w (v ∷ vs) = is_later w v && violations_later w vs

-- Nothing that is reported of this judgement is earlier.
abbrev pub judged_later : {A : Type 0} → Violation → Judged A → Bool
judged_later w j = violations_later w (violations_of j)
