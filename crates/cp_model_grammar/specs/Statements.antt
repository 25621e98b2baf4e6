-- Reading statements, given the readers one level deeper, if there is such a level. An `else`
-- belongs to the statement that is being read when it comes: the nearest `if` before it that has
-- none.
use Rattle.std.specs.Prelude.{ℕ, zero, suc, Bool, true, false, List, Option, Some, None}
use Rattle.cp_model.specs.Syntax as s
use Rattle.cp_model.specs.View.{LabelledStatement, expressions_of, statements_of, arms_of}
use Rattle.cp_model.specs.Tokens.{Kind}
use Rattle.cp_model.specs.Tokens as kind
use Rattle.cp_model.specs.declared.token.Symbol.TheVariants as symbol
use Rattle.cp_model.specs.declared.tree.Direction.{Direction}
use Rattle.cp_model.specs.declared.tree.Direction.TheVariants as direction
use Rattle.cp_model_grammar.specs.Kinds.{is_symbol}
use Rattle.cp_model_grammar.specs.Reading.{Reader, ◌>>=◌, pure, refuse, take_token, by_kind, expect, inside, separated_by}
use Rattle.cp_model_grammar.specs.Names.{identifier_of, constants_of}
use Rattle.cp_model_grammar.specs.Expressions.{expression_of, factor_of, designator_of, optional_arguments_of, inner_at, expression_at}

-- The readers one level deeper.
pub record Deeper : Type 0 where
  pub expression : Reader s.Expression
  pub statement : Reader s.Statement

abbrev pub direction_by : Option Kind → Reader Direction
direction_by (Some (kind.Symbol symbol.To)) = take_token >>= λ _. pure direction.Up
direction_by (Some (kind.Symbol symbol.Downto)) = take_token >>= λ _. pure direction.Down
direction_by _ = refuse

unfoldable pub direction_of : Reader Direction
direction_of = by_kind direction_by

-- One or more statements, with semicolons between them.
unfoldable pub statements_from : Reader s.Statement → Reader (List s.Statement)
statements_from statement = separated_by symbol.Semicolon statement

unfoldable pub arm_of : Reader s.Statement → Reader LabelledStatement
arm_of statement = constants_of >>= λ labels. expect symbol.Colon >>= λ _. statement >>= λ x. pure (record { labels = labels; body = x })

-- The rest of an `if` after its first branch. The flag says whether an `else` follows.
unfoldable pub else_part : Reader s.Statement → s.Expression → s.Statement → Bool → Reader s.Statement
else_part statement c x true = take_token >>= λ _. statement >>= λ y. pure (s.IfElse c x y)
else_part statement c x false = pure (s.If c x)

module _ (deeper : Option Deeper) where
  -- From a `begin` to its `end`.
  unfoldable pub block_of : Reader s.Body
  block_of = inside deeper (λ d. take_token >>= λ at. statements_from d.statement >>= λ l. expect symbol.End >>= λ _.
      pure (record { at = at; list = statements_of l }))

  unfoldable pub compound_of : Reader s.Statement
  compound_of = block_of >>= λ b. pure (s.Compound b.list)

  unfoldable pub if_of : Reader s.Statement
  if_of = inside deeper (λ d. take_token >>= λ _. d.expression >>= λ c. expect symbol.Then >>= λ _. d.statement >>= λ x.
      by_kind (λ k. else_part d.statement c x (is_symbol symbol.Else k)))

  unfoldable pub case_of : Reader s.Statement
  case_of = inside deeper (λ d. take_token >>= λ _. d.expression >>= λ e. expect symbol.Of >>= λ _.
      separated_by symbol.Semicolon (arm_of d.statement) >>= λ xs. expect symbol.End >>= λ _. pure (s.Case e (arms_of xs)))

  unfoldable pub while_of : Reader s.Statement
  while_of = inside deeper (λ d. take_token >>= λ _. d.expression >>= λ c. expect symbol.Do >>= λ _. d.statement >>= λ x. pure (s.While c x))

  unfoldable pub repeat_of : Reader s.Statement
  repeat_of = inside deeper (λ d. take_token >>= λ _. statements_from d.statement >>= λ l. expect symbol.Until >>= λ _.
      d.expression >>= λ c. pure (s.Repeat (statements_of l) c))

  unfoldable pub for_of : Reader s.Statement
  for_of = inside deeper (λ d. take_token >>= λ _. identifier_of >>= λ v. expect symbol.Assign >>= λ _. d.expression >>= λ a.
      direction_of >>= λ way. d.expression >>= λ b. expect symbol.Do >>= λ _. d.statement >>= λ x. pure (s.For v a way b x))

  unfoldable pub cycle_of : Reader s.Statement
  cycle_of = inside deeper (λ d. take_token >>= λ _. statements_from d.statement >>= λ l. expect symbol.End >>= λ _.
      pure (s.Cycle (statements_of l)))

-- `inner` reads a factor one level deeper.
module _ (inner : Option (Reader s.Expression)) where
  -- The rest of a statement that begins with a designator.
  unfoldable pub assign_or_perform : s.Designator → Bool → Reader s.Statement
  assign_or_perform d true = take_token >>= λ at. expression_of (factor_of inner) >>= λ e. pure (s.Assign d at e)
  assign_or_perform d false = optional_arguments_of inner >>= λ es. pure (s.Perform d (expressions_of es))

  unfoldable pub designated_of : Reader s.Statement
  designated_of = designator_of inner >>= λ d. by_kind (λ k. assign_or_perform d (is_symbol symbol.Assign k))

  unfoldable pub init_item_of : Reader s.InitItem
  init_item_of = identifier_of >>= λ x. optional_arguments_of inner >>= λ es. pure (record { component = x; arguments = expressions_of es })

  unfoldable pub init_of : Reader s.Statement
  init_of = take_token >>= λ at. separated_by symbol.Comma init_item_of >>= λ is. pure (s.Init at is)

module _ (inner : Option (Reader s.Expression)) (deeper : Option Deeper) where
  unfoldable pub statement_by : Option Kind → Reader s.Statement
  statement_by (Some (kind.Name name)) = designated_of inner
  statement_by (Some (kind.Symbol symbol.Begin)) = compound_of deeper
  statement_by (Some (kind.Symbol symbol.If)) = if_of deeper
  statement_by (Some (kind.Symbol symbol.Case)) = case_of deeper
  statement_by (Some (kind.Symbol symbol.While)) = while_of deeper
  statement_by (Some (kind.Symbol symbol.Repeat)) = repeat_of deeper
  statement_by (Some (kind.Symbol symbol.For)) = for_of deeper
  statement_by (Some (kind.Symbol symbol.Cycle)) = cycle_of deeper
  statement_by (Some (kind.Symbol symbol.Init)) = init_of inner
  statement_by _ = pure s.Empty

  unfoldable pub statement_of : Reader s.Statement
  statement_of = by_kind statement_by

-- The readers one level deeper. The number says how many levels may still be opened.
unfoldable pub deeper_at : ℕ → Option Deeper
deeper_at zero = None
deeper_at (suc room) = Some (record { expression = expression_at room; statement = statement_of (inner_at room) (deeper_at room) })

abbrev pub statement_at : ℕ → Reader s.Statement
statement_at room = statement_of (inner_at room) (deeper_at room)
