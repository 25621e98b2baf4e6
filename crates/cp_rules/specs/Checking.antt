-- The state of the code while it judges a part of a text, and what its results mean.
use Rattle.std.specs.Prelude.{◌≡◌, ℕ, Option, Result}
use Rattle.cp_model.specs.declared.tree.Identifier.{Identifier}
use Rattle.cp_model.specs.declared.rules.Entity.{Entity}
use Rattle.cp_model.specs.declared.rules.Violation.{Violation}
use Rattle.cp_model.specs.RulesJudged.{Judged, Violations, least, violations_of}
use Rattle.cp_model.specs.RulesEnvironment.{Environment, c1_declared, declare, with_names}
use Rattle.cp_model.specs.RulesTypes.{Made}
use Rattle.cp_model.specs.RulesDeclarations.{Declared}
use Rattle.cp_base_names.specs.Tables.{with_values_from}
pub use Rattle.cp_rules_body.specs.Reports.{first_of}

-- The environment so far, and the earliest violation that was reported.
pub record State : Type 0 where
  pub env : Environment
  pub diagnostics : Option Violation

-- ---- what is reported

-- The state after these violations were reported.
abbrev pub reporting : State → Violations → State
reporting s vs = record { env = s.env; diagnostics = least s.diagnostics vs }

-- The state after this declaration.
abbrev pub after : State → Declared → State
after s d = record { env = d.env; diagnostics = least s.diagnostics d.violations }

-- The declaration of a single name.
abbrev pub declared_name : Environment → Identifier → Entity → Declared
declared_name env x e = record { env = declare x e env; violations = c1_declared env x }

-- The state in which the names from a number on represent this entity.
abbrev pub with_set : State → ℕ → Entity → State
with_set s mark e = record s { env = with_names (with_values_from mark e s.env.names) s.env }

-- ---- what is judged

-- The answer is the meaning or the first violation, and all violations are reported.
abbrev pub Judges : {A : Type 0} → State → State → Result A Violation → Judged A → Type 0
Judges old new answer j = (new ≡ reporting old (violations_of j)) × (answer ≡ first_of j)

-- What `Judges` says, if types are made too.
abbrev pub Makes : {A : Type 0} → State → State → Result A Violation → Made (Judged A) → Type 0
Makes old new answer m =
    (new ≡ record { env = m.env; diagnostics = least old.diagnostics (violations_of m.of) }) × (answer ≡ first_of m.of)
