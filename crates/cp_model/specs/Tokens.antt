-- The tokens of a text as plain data.
use Rattle.std.specs.Prelude.{ℕ, List}
use Rattle.cp_model.specs.declared.token.Symbol as declared
use Rattle.cp_model.specs.declared.token.Span.{Span}

-- what a token is
pub data Kind : Type 0 where
  Name : (letters : List ℕ) → Kind
  Number : (value : ℕ) → Kind
  Character : (ordinal : ℕ) → Kind
  Symbol : (symbol : declared.Symbol) → Kind

pub record Token : Type 0 where
  pub kind : Kind
  pub span : Span
