-- Variables of a type that was judged, and the parts of their declaration.
use Rattle.std.specs.Prelude.{◌≡◌, ℕ, Result, Ok, Err, List, []}
use Rattle.cp_model.specs.declared.tree.Identifier.{Identifier}
use Rattle.cp_model.specs.declared.rules.Entity.{Entity}
use Rattle.cp_model.specs.declared.rules.Entity.TheVariants as entity
use Rattle.cp_model.specs.declared.rules.Position.{Position}
use Rattle.cp_model.specs.declared.rules.Position.TheVariants as position
use Rattle.cp_model.specs.declared.rules.SystemRow.{SystemRow}
use Rattle.cp_model.specs.declared.rules.Violation.{Violation}
use Rattle.cp_model.specs.RulesJudged.{least}
use Rattle.cp_model.specs.RulesEnvironment.{Environment, row_of}
use Rattle.cp_model.specs.RulesTypes.{cap_words}
use Rattle.cp_model.specs.RulesDeclarations.{Declared, Variables, c13_owner, owners_in, with_owner, words_in}
use Rattle.cp_rules.specs.Checking.{State}

-- An owner was counted, with the violations in it.
abbrev pub counted_owner : Environment → SystemRow → Identifier → Declared
counted_owner env y x = record { env = with_owner env y.sort; violations = c13_owner env x y y.sort }

abbrev pub owners_of_type : Environment → Position → Result ℕ Violation → List Identifier → Declared
owners_of_type env position.InitialVariable (Ok t) xs = owners_in env (row_of env t).structure xs
owners_of_type env p of xs = record { env = env; violations = [] }

abbrev pub entity_of_type : (ℕ → Entity) → Result ℕ Violation → Entity
entity_of_type f (Ok t) = f t
entity_of_type f (Err v) = entity.Broken v

abbrev pub words_of_type : Environment → Result ℕ Violation → ℕ
words_of_type env (Ok t) = words_in env (row_of env t).words (row_of env t).structure
words_of_type env (Err v) = 0

-- ---- variables

-- The state after variables were declared, whose words are counted up to one above the limit.
abbrev pub with_variables : State → Variables → State
with_variables s v = record { env = v.env; diagnostics = least s.diagnostics v.violations }

abbrev pub Declares : State → State → ℕ → Variables → Type 0
Declares old new n v = (new ≡ with_variables old v) × (n ≡ cap_words v.words)
