-- A whole text is read steadily, with as many levels or with more.
use Rattle.std.proofs.Common.{◌≡◌, ℕ, zero, suc, ◌+◌, ◌<◌, ◌++◌, Option, Some, None, refl, arith}
use Rattle.std.proofs.lemmas.List.{append-nil}
use Rattle.cp_model.specs.Syntax as s
use Rattle.cp_model.specs.Levels.{text_levels}
use Rattle.cp_model.specs.Tokens.{Kind}
use Rattle.cp_model.specs.declared.token.Symbol.TheVariants as symbol
use Rattle.cp_model_grammar.specs.Reading.{Reader}
use Rattle.cp_model_grammar.specs.Expressions.{inner_at}
use Rattle.cp_model_grammar.specs.Types.{inner_type_at}
use Rattle.cp_model_grammar.specs.Statements.{Deeper, deeper_at}
use Rattle.cp_model_grammar.specs.Text.{at_end, tree_of, text_of, text_at}
use Rattle.cp_model_grammar.proofs.Steady.{Cut, Mode, Equal, Wider, Anywhere, start_of, Steady, Has, then, finish, pure_steady, refuse_steady, kind_steady, expect_steady, SteadyInner}
use Rattle.cp_model_grammar.proofs.ExpressionsSteady.{Related, expression_of_steady, factor_of_steady}
use Rattle.cp_model_grammar.proofs.TypesSteady.{TypesRelated, type_of_steady}
use Rattle.cp_model_grammar.proofs.StatementsSteady.{DeeperRelated, statement_of_steady}
use Rattle.cp_model_grammar.proofs.DeclarationsSteady.{variables_steady, body_steady, routines_steady, sections_steady}

module _ {c : Cut} (m : Mode) (d d' : Option Deeper) (rd : SteadyInner c (DeeperRelated c) m 0 d d') {p q : Reader s.TypeExpression}
    (r : TypesRelated c m 0 p q) where
  tree_steady : Steady c m Anywhere (Has text_levels) (tree_of p d) (tree_of q d')
  unfolding tree_of
  tree_steady = then (sections_steady m d d' rd r)
      (λ ss. then (variables_steady r) (λ vs. then (routines_steady m d d' rd r) (λ rs. then (body_steady m d d' rd) (λ b.
      finish (λ _. record { sections = ss; variables = vs; routines = rs; body = b }) (expect_steady symbol.Dot) (λ _. refl)))))

  end_steady : (t : s.Tree) (k : Option Kind) → Steady c m (start_of k) (λ u l. (text_levels t ++ l) ≡ text_levels u) (at_end t k) (at_end t k)
  end_steady t None = pure_steady t (append-nil (text_levels t))
  end_steady t (Some k) = refuse_steady

  text_of_steady : Steady c m Anywhere (Has text_levels) (text_of p d) (text_of q d')
  unfolding text_of
  text_of_steady = then tree_steady (λ t. kind_steady (end_steady t))

-- ---- as many levels

module _ (c : Cut) where
  inner_steady : (room depth : ℕ) → SteadyInner c (Related c) Equal depth (inner_at room) (inner_at room)
  unfolding inner_at
  inner_steady zero depth = tt
  inner_steady (suc room) depth = factor_of_steady Equal (suc depth) (inner_at room) (inner_at room) (inner_steady room (suc depth))

  inner_type_steady : (room depth : ℕ) → SteadyInner c (TypesRelated c) Equal depth (inner_type_at room) (inner_type_at room)
  unfolding inner_type_at
  inner_type_steady zero depth = tt
  inner_type_steady (suc room) depth = type_of_steady Equal (suc depth) (inner_type_at room) (inner_type_at room) (inner_type_steady room (suc depth))

  deeper_steady : (room depth : ℕ) → SteadyInner c (DeeperRelated c) Equal depth (deeper_at room) (deeper_at room)
  unfolding deeper_at
  deeper_steady zero depth = tt
  deeper_steady (suc room) depth = (
    expression_of_steady (suc depth) (factor_of_steady Equal (suc depth) (inner_at room) (inner_at room) (inner_steady room (suc depth))),
    statement_of_steady Equal (suc depth) (inner_at room) (inner_at room) (inner_steady room (suc depth)) (deeper_at room) (deeper_at room)
        (deeper_steady room (suc depth)),
  )

  pub text_steady : (room : ℕ) → Steady c Equal Anywhere (Has text_levels) (text_at room) (text_at room)
  text_steady room = text_of_steady Equal (deeper_at room) (deeper_at room) (deeper_steady room 0)
      (type_of_steady Equal 0 (inner_type_at room) (inner_type_at room) (inner_type_steady room 0))

  -- ---- more levels

  inner_wider : (room wide depth : ℕ) → room < wide → suc (depth + room) ≡ c.top
      → SteadyInner c (Related c) Wider depth (inner_at room) (inner_at wide)
  unfolding inner_at
  inner_wider zero zero depth le top = absurd (omega arith)
  inner_wider zero (suc wide) depth le top = (
    omega arith,
    factor_of_steady Equal (suc depth) (inner_at wide) (inner_at wide) (inner_steady wide (suc depth)),
  )
  inner_wider (suc room) zero depth le top = absurd (omega arith)
  inner_wider (suc room) (suc wide) depth le top =
      factor_of_steady Wider (suc depth) (inner_at room) (inner_at wide) (inner_wider room wide (suc depth) (omega arith) (omega arith))

  inner_type_wider : (room wide depth : ℕ) → room < wide → suc (depth + room) ≡ c.top
      → SteadyInner c (TypesRelated c) Wider depth (inner_type_at room) (inner_type_at wide)
  unfolding inner_type_at
  inner_type_wider zero zero depth le top = absurd (omega arith)
  inner_type_wider zero (suc wide) depth le top = (
    omega arith,
    type_of_steady Equal (suc depth) (inner_type_at wide) (inner_type_at wide) (inner_type_steady wide (suc depth)),
  )
  inner_type_wider (suc room) zero depth le top = absurd (omega arith)
  inner_type_wider (suc room) (suc wide) depth le top =
      type_of_steady Wider (suc depth) (inner_type_at room) (inner_type_at wide) (inner_type_wider room wide (suc depth) (omega arith) (omega arith))

  deeper_wider : (room wide depth : ℕ) → room < wide → suc (depth + room) ≡ c.top
      → SteadyInner c (DeeperRelated c) Wider depth (deeper_at room) (deeper_at wide)
  unfolding deeper_at
  deeper_wider zero zero depth le top = absurd (omega arith)
  deeper_wider zero (suc wide) depth le top = (
    omega arith,
    (
      expression_of_steady (suc depth) (factor_of_steady Equal (suc depth) (inner_at wide) (inner_at wide) (inner_steady wide (suc depth))),
      statement_of_steady Equal (suc depth) (inner_at wide) (inner_at wide) (inner_steady wide (suc depth)) (deeper_at wide) (deeper_at wide)
          (deeper_steady wide (suc depth)),
    ),
  )
  deeper_wider (suc room) zero depth le top = absurd (omega arith)
  deeper_wider (suc room) (suc wide) depth le top =
      let inner = inner_wider room wide (suc depth) (omega arith) (omega arith) in (
        expression_of_steady (suc depth) (factor_of_steady Wider (suc depth) (inner_at room) (inner_at wide) inner),
        statement_of_steady Wider (suc depth) (inner_at room) (inner_at wide) inner (deeper_at room) (deeper_at wide)
            (deeper_wider room wide (suc depth) (omega arith) (omega arith)),
      )

  pub text_wider : (room wide : ℕ) → room < wide → suc room ≡ c.top → Steady c Wider Anywhere (Has text_levels) (text_at room) (text_at wide)
  text_wider room wide le top =
      text_of_steady Wider (deeper_at room) (deeper_at wide) (deeper_wider room wide 0 le (omega arith))
      (type_of_steady Wider 0 (inner_type_at room) (inner_type_at wide) (inner_type_wider room wide 0 le (omega arith)))
