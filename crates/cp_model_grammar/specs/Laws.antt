-- The reading functions read exactly what the grammar allows.
use Rattle.std.specs.Prelude.{◌≡◌, ℕ, suc, ◌<◌, ◌≤◌, ◌⊎◌, true, List, [], ◌∷◌, ◌++◌, length, get_or, Ok, Err}
use Rattle.cp_model.specs.Syntax as s
use Rattle.cp_model.specs.GrammarExpressions as g
use Rattle.cp_model.specs.GrammarTypes.{type_expression}
use Rattle.cp_model.specs.GrammarStatements.{statement}
use Rattle.cp_model.specs.Grammar.{text, Begins}
use Rattle.cp_model.specs.Levels.{text_levels}
use Rattle.cp_model.specs.Tokens.{Token}
use Rattle.cp_model_grammar.specs.declared.stop.Stop.TheVariants.{Wrong, Deep}
use Rattle.cp_model_grammar.specs.Reading.{kind_at}
use Rattle.cp_model_grammar.specs.Expressions.{expression_at}
use Rattle.cp_model_grammar.specs.Types.{type_at}
use Rattle.cp_model_grammar.specs.Statements.{statement_at}
use Rattle.cp_model_grammar.specs.Text.{text_at}
use Rattle.cp_model_grammar.specs.Follows.{ends_expression, ends_type, MayFollow}

abbrev pub ExpressionsAreSound : Type 0
ExpressionsAreSound = (room : ℕ) (ts rest : List Token) (e : s.Expression) → expression_at room ts ≡ Ok (e, rest) → g.expression room e ts rest

abbrev pub ExpressionsAreComplete : Type 0
ExpressionsAreComplete = (room : ℕ) (ts rest : List Token) (e : s.Expression) → g.expression room e ts rest → ends_expression (kind_at rest) ≡ true
    → expression_at room ts ≡ Ok (e, rest)

abbrev pub StatementsAreSound : Type 0
StatementsAreSound = (room : ℕ) (ts rest : List Token) (x : s.Statement) → statement_at room ts ≡ Ok (x, rest) → statement room x ts rest

abbrev pub StatementsAreComplete : Type 0
StatementsAreComplete = (room : ℕ) (ts rest : List Token) (x : s.Statement) → statement room x ts rest → MayFollow x (kind_at rest)
    → statement_at room ts ≡ Ok (x, rest)

abbrev pub TypesAreSound : Type 0
TypesAreSound = (room : ℕ) (ts rest : List Token) (t : s.TypeExpression) → type_at room ts ≡ Ok (t, rest) → type_expression room t ts rest

abbrev pub TypesAreComplete : Type 0
TypesAreComplete = (room : ℕ) (ts rest : List Token) (t : s.TypeExpression) → type_expression room t ts rest → ends_type (kind_at rest) ≡ true
    → type_at room ts ≡ Ok (t, rest)

abbrev pub TextIsSound : Type 0
TextIsSound = (room : ℕ) (ts rest : List Token) (t : s.Tree) → text_at room ts ≡ Ok (t, rest) → text room t ts []

abbrev pub TextIsComplete : Type 0
TextIsComplete = (room : ℕ) (ts : List Token) (t : s.Tree) → text room t ts [] → text_at room ts ≡ Ok (t, [])

-- Tokens have at most one tree.
abbrev pub TreeIsUnique : Type 0
TreeIsUnique = (room : ℕ) (ts : List Token) (t u : s.Tree) → text room t ts [] → text room u ts [] → t ≡ u

-- ---- where a text is refused

-- Where reading stops, no more tokens are left than there were.
abbrev pub StopsInside : Type 0
StopsInside = (room : ℕ) (ts : List Token) (n : ℕ) → (text_at room ts ≡ Err (Wrong n)) ⊎ (text_at room ts ≡ Err (Deep n)) → n ≤ length ts

-- Some text within the levels begins with the tokens that were read before reading stopped.
abbrev pub FrontBeginsAText : Type 0
FrontBeginsAText = (room : ℕ) (front behind : List Token) → 0 < room
    → (text_at room (front ++ behind) ≡ Err (Wrong (length behind))) ⊎ (text_at room (front ++ behind) ≡ Err (Deep (length behind)))
    → (more : List Token) × (tree : s.Tree) × text room tree (front ++ more) []

-- No text of any depth begins with the tokens up to and including the wrong one.
abbrev pub WrongIsFirst : Type 0
WrongIsFirst = (room : ℕ) (front : List Token) (t : Token) (behind : List Token)
    → text_at room (front ++ t ∷ behind) ≡ Err (Wrong (suc (length behind)))
    → Begins (front ++ t ∷ []) → ⊥

-- No text within the levels begins with the tokens up to and including the one that is too deep.
abbrev pub DeepIsFirst : Type 0
DeepIsFirst = (room : ℕ) (front : List Token) (t : Token) (behind : List Token)
    → text_at room (front ++ t ∷ behind) ≡ Err (Deep (suc (length behind)))
    → (more : List Token) (tree : s.Tree) → text room tree ((front ++ t ∷ []) ++ more) [] → ⊥

-- In each text of any depth that begins with these tokens, the last of them opens the level that is
-- one too many.
abbrev pub DeepOpensTheNext : Type 0
DeepOpensTheNext = (room : ℕ) (front : List Token) (t : Token) (behind : List Token)
    → text_at room (front ++ t ∷ behind) ≡ Err (Deep (suc (length behind)))
    → (limit : ℕ) (more : List Token) (tree : s.Tree) → text limit tree ((front ++ t ∷ []) ++ more) []
    → get_or (text_levels tree) (length front) 0 ≡ suc room

-- With more levels, some text begins with the tokens up to and including the one that is too deep.
abbrev pub DeepBeginsADeeperText : Type 0
DeepBeginsADeeperText = (room : ℕ) (front : List Token) (t : Token) (behind : List Token)
    → text_at room (front ++ t ∷ behind) ≡ Err (Deep (suc (length behind)))
    → Begins (front ++ t ∷ [])

-- A tree has one level for each of its tokens.
abbrev pub LevelsAreOfTokens : Type 0
LevelsAreOfTokens = (room : ℕ) (ts : List Token) (tree : s.Tree) → text room tree ts [] → length (text_levels tree) ≡ length ts
