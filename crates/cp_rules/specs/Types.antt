-- Written types: lists of index types, and the parts of arrays and records.
use Rattle.std.specs.Prelude.{◌≡◌, ◌++◌, ◌∷◌, [], ℕ, List, Result, map}
use Rattle.cp_model.specs.declared.rules.Violation.{Violation}
use Rattle.cp_model.specs.RulesJudged.{Judged, Violations, least, violations_of}
use Rattle.cp_model.specs.RulesTypes as ty
use Rattle.cp_rules.specs.Checking.{State, first_of}
use Rattle.cp_rules.specs.Records as records

abbrev pub all_violations : List (Judged ℕ) → Violations
all_violations [] = []
all_violations (j ∷ js) = violations_of j ++ all_violations js

-- Index types were judged, one after another.
abbrev pub JudgesIndices : State → State → List (Result ℕ Violation) → ty.Made (List (Judged ℕ)) → Type 0
JudgesIndices old new answers m =
    (new ≡ record { env = m.env; diagnostics = least old.diagnostics (all_violations m.of) }) × (answers ≡ map first_of m.of)

-- The state after more index types.
abbrev pub with_indices : State → ty.Made (List (Judged ℕ)) → State
with_indices old m = record { env = m.env; diagnostics = least old.diagnostics (all_violations m.of) }

-- The state after fields were judged, one group after another.
abbrev pub with_groups : State → records.Grouped → State
with_groups old g = record { env = g.env; diagnostics = least old.diagnostics g.violations }
