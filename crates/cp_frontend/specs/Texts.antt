-- The syntax trees of texts, and why a text is refused.
use Rattle.std.specs.Prelude.{◌≡◌, ◌≤◌, ℕ, List, Some, length}
use Rattle.cp_model.specs.Syntax as s
use Rattle.cp_model.specs.Grammar.{Reads}
use Rattle.cp_model.specs.Rules.{Accepted, first_violation}
use Rattle.cp_model.specs.Spelling.{Spells}
use Rattle.cp_model.specs.Tokens.{Token}
use Rattle.cp_scan.specs.Laws.{ReportsFirstCause, longest_text}
use Rattle.cp_scan.specs.declared.refusal.ScanError.TheVariants as scan
use Rattle.cp_syntax.specs.Refusals.{Refused}
use Rattle.cp_syntax.specs.declared.refusal.SyntaxError.{SyntaxError}
use Rattle.cp_syntax.specs.declared.refusal.SyntaxError.TheVariants as syntax
use Rattle.cp_frontend.specs.declared.refusal.Refusal.{Refusal}
use Rattle.cp_frontend.specs.declared.refusal.Refusal.TheVariants as refusal

-- Tokens spell the bytes and read as this tree. A text has at most one such tree.
pub record IsTextOf (text : List ℕ) (t : s.Tree) : Type 0 where
  pub within : length text ≤ longest_text
  pub tokens : List Token
  pub spelled : Spells text tokens
  pub reads : Reads tokens t

-- The text is accepted.
pub record IsAccepted (bytes : List ℕ) (t : s.Tree) : Type 0 where
  pub text : IsTextOf bytes t
  pub accepted : Accepted t

abbrev pub RefusesTokens : List ℕ → SyntaxError → Type 0
RefusesTokens text e = (length text ≤ longest_text) × (tokens : List Token) × Spells text tokens × Refused tokens (length text) e

-- Why a text isn't accepted. Running out of memory says nothing about the text.
abbrev pub Refuses : List ℕ → Refusal → Type 0
Refuses text (refusal.Scan cause at) = ReportsFirstCause text (scan.Refused cause at)
Refuses text (refusal.Unexpected at) = RefusesTokens text (syntax.Unexpected at)
Refuses text (refusal.Unfinished at) = RefusesTokens text (syntax.Unfinished at)
Refuses text (refusal.TooDeep at) = RefusesTokens text (syntax.TooDeep at)
Refuses text (refusal.Check rule at) = (t : s.Tree) × IsTextOf text t × (first_violation t ≡ Some (record { rule = rule; at = at }))
Refuses text refusal.Memory = Unit {0}
Refuses text e = ⊥
