-- What a rule requires of the reader one level deeper that it is given.
use Rattle.std.specs.Prelude.{ℕ, ◌-◌, ◌<◌, List, Result}
use Rattle.std.specs.Borrow.{Bor}
use Rattle.std.specs.declared.alloc.Global.{Global}
use Rattle.cp_model.specs.Tokens.{Token}
use Rattle.cp_model_grammar.specs.declared.stop.Stop.{Stop}
use Rattle.cp_model.specs.View as view
use Rattle.cp_model.specs.declared.tree.Expression.{Expression}
use Rattle.cp_model.specs.declared.tree.TypeExpression.{TypeExpression}
use Rattle.cp_model.specs.declared.tree.Statement.{Statement}
use Rattle.cp_model_grammar.specs.Reading.{Reader, Gives}
use Rattle.cp_model_grammar.specs.Expressions.{factor_at}
use Rattle.cp_model_grammar.specs.Types.{type_at}
use Rattle.cp_model_grammar.specs.Statements.{statement_at}

-- The reader may be called with `room`, and then its result is that of the specified reader for as
-- many levels.
pub record Nests {X Y : Type 0} (view : X → Y) (reader : ℕ → Reader Y) (room : ℕ) (pre : Global → ℕ → Bor (List Token) → Type 0)
    (post : Global → ℕ → Bor (List Token) → Result (X × Bor (List Token)) Stop → Type 0) : Type 0 where
  pub callable : (alloc : Global) (ts : Bor (List Token)) → pre alloc room ts
  pub reads : (alloc : Global) (ts : Bor (List Token)) (r : Result (X × Bor (List Token)) Stop) → post alloc room ts r
      → Gives view r (reader room ts.now)

-- One level deeper, if there is such a level.
abbrev pub Below : {X Y : Type 0} (view : X → Y) (reader : ℕ → Reader Y) (room : ℕ) (pre : Global → ℕ → Bor (List Token) → Type 0)
    (post : Global → ℕ → Bor (List Token) → Result (X × Bor (List Token)) Stop → Type 0) → Type 0
Below view reader room pre post = 0 < room → Nests view reader (room - 1) pre post

-- ---- of factors

abbrev pub FactorsAt : (room : ℕ) (pre : Global → ℕ → Bor (List Token) → Type 0)
    (post : Global → ℕ → Bor (List Token) → Result (Expression × Bor (List Token)) Stop → Type 0) → Type 0
FactorsAt = Nests view.expression factor_at

abbrev pub FactorsBelow : (room : ℕ) (pre : Global → ℕ → Bor (List Token) → Type 0)
    (post : Global → ℕ → Bor (List Token) → Result (Expression × Bor (List Token)) Stop → Type 0) → Type 0
FactorsBelow = Below view.expression factor_at

-- ---- of types

abbrev pub TypesAt : (room : ℕ) (pre : Global → ℕ → Bor (List Token) → Type 0)
    (post : Global → ℕ → Bor (List Token) → Result (TypeExpression × Bor (List Token)) Stop → Type 0) → Type 0
TypesAt = Nests view.type_expression type_at

abbrev pub TypesBelow : (room : ℕ) (pre : Global → ℕ → Bor (List Token) → Type 0)
    (post : Global → ℕ → Bor (List Token) → Result (TypeExpression × Bor (List Token)) Stop → Type 0) → Type 0
TypesBelow = Below view.type_expression type_at

-- ---- of statements

abbrev pub StatementsAt : (room : ℕ) (pre : Global → ℕ → Bor (List Token) → Type 0)
    (post : Global → ℕ → Bor (List Token) → Result (Statement × Bor (List Token)) Stop → Type 0) → Type 0
StatementsAt = Nests view.statement statement_at

abbrev pub StatementsBelow : (room : ℕ) (pre : Global → ℕ → Bor (List Token) → Type 0)
    (post : Global → ℕ → Bor (List Token) → Result (Statement × Bor (List Token)) Stop → Type 0) → Type 0
StatementsBelow = Below view.statement statement_at
