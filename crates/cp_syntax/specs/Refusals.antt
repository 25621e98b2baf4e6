-- What a refusal says about the tokens.
use Rattle.std.specs.Prelude.{◌≡◌, ◌<◌, ◌⊎◌, ℕ, suc, List, [], ◌∷◌, ◌++◌, length, get_or}
use Rattle.cp_model.specs.Syntax as s
use Rattle.cp_model.specs.Grammar.{Reads, Begins, BeginsWithin, text, nesting_limit}
use Rattle.cp_model.specs.Levels.{text_levels}
use Rattle.cp_model.specs.Tokens.{Token}
use Rattle.cp_model_grammar.specs.declared.stop.Stop.{Stop}
use Rattle.cp_model_grammar.specs.declared.stop.Stop.TheVariants.{Memory, Wrong, Deep}
use Rattle.cp_syntax.specs.declared.refusal.SyntaxError.{SyntaxError}
use Rattle.cp_syntax.specs.declared.refusal.SyntaxError.TheVariants as error

-- The token that begins at this place is the first of the last `left` tokens.
pub record TokenAt (tokens : List Token) (left at : ℕ) : Type 0 where
  pub front : List Token
  pub token : Token
  pub behind : List Token
  pub represents : tokens ≡ front ++ token ∷ behind
  pub counted : left ≡ suc (length behind)
  pub begins : token.span.from ≡ at

-- The tokens up to and including it.
abbrev pub up_to : {tokens : List Token} {left at : ℕ} → TokenAt tokens left at → List Token
up_to k = k.front ++ k.token ∷ []

abbrev pub HasNoTree : List Token → Type 0
HasNoTree tokens = (t : s.Tree) → Reads tokens t → ⊥

-- No text continues with this token, however deep it is nested.
abbrev pub NoTextHas : {tokens : List Token} {left at : ℕ} → TokenAt tokens left at → Type 0
NoTextHas k = Begins (up_to k) → ⊥

-- Some text continues with this token, but none within the limit of nesting, and each text that
-- does opens one level too many there.
pub record OpensTooDeep {tokens : List Token} {left at : ℕ} (k : TokenAt tokens left at) : Type 0 where
  pub begins : Begins (up_to k)
  pub within : BeginsWithin (up_to k) → ⊥
  pub beyond : (limit : ℕ) (more : List Token) (t : s.Tree) → text limit t (up_to k ++ more) []
      → get_or (text_levels t) (length k.front) 0 ≡ suc nesting_limit

-- For each error but running out of memory, the tokens have no tree. The token that is reported is
-- the first one that no text has there, or that is nested too deep. If the end is reported, some
-- text begins with the tokens.
abbrev pub Refused : List Token → ℕ → SyntaxError → Type 0
Refused tokens len (error.Unexpected at) = HasNoTree tokens × ((left : ℕ) × (k : TokenAt tokens left at) × BeginsWithin k.front × NoTextHas k)
Refused tokens len (error.Unfinished at) = HasNoTree tokens × BeginsWithin tokens × (at ≡ len)
Refused tokens len (error.TooDeep at) = HasNoTree tokens × ((left : ℕ) × (k : TokenAt tokens left at) × BeginsWithin k.front × OpensTooDeep k)
Refused tokens len error.Memory = Unit {0}

-- No token is the first of the last `left` ones.
abbrev pub NoTokenAt : List Token → ℕ → Type 0
NoTokenAt tokens left = (left ≡ 0) ⊎ (length tokens < left)

-- A refusal reports the token at which reading stopped, or the end.
abbrev pub Reports : List Token → ℕ → Stop → SyntaxError → Type 0
Reports tokens len Memory error.Memory = Unit {0}
Reports tokens len (Wrong left) (error.Unexpected at) = TokenAt tokens left at
Reports tokens len (Wrong left) (error.Unfinished at) = NoTokenAt tokens left × (at ≡ len)
Reports tokens len (Deep left) (error.TooDeep at) = TokenAt tokens left at
Reports tokens len (Deep left) (error.Unfinished at) = NoTokenAt tokens left × (at ≡ len)
Reports tokens len stop e = ⊥
