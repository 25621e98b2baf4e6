-- Reading expressions. Each reader takes the reader of factors that it is built on, so that only
-- one definition is recursive: that of a factor, by the number of levels that may still be opened.
use Rattle.std.specs.Prelude.{ℕ, zero, suc, Bool, true, false, if◌then◌else◌, List, [], Option, Some, None}
use Rattle.std.specs.Option.{is_some}
use Rattle.cp_model.specs.Syntax as s
use Rattle.cp_model.specs.Syntax.{chain_of}
use Rattle.cp_model.specs.View.{PlacedIndex, expressions_of, selectors_of, indices_of}
use Rattle.cp_model.specs.Tokens.{Kind}
use Rattle.cp_model.specs.Tokens as kind
use Rattle.cp_model.specs.declared.token.Symbol.TheVariants as symbol
use Rattle.cp_model.specs.declared.tree.Operator.{Operator}
use Rattle.cp_model.specs.declared.tree.Operator.TheVariants as operator
use Rattle.cp_model.specs.declared.tree.Sign.{Sign}
use Rattle.cp_model.specs.declared.tree.Sign.TheVariants as sign
use Rattle.cp_model_grammar.specs.Kinds.{is_symbol}
use Rattle.cp_model_grammar.specs.Reading.{Reader, ◌>>=◌, pure, refuse, take_token, by_kind, expect, if_some, inside, repeat_while, one_or_more, separated_by}
use Rattle.cp_model_grammar.specs.Names.{identifier_of}

-- ---- operators

abbrev pub product_operator : Option Kind → Option Operator
product_operator (Some (kind.Symbol symbol.Star)) = Some operator.Multiply
product_operator (Some (kind.Symbol symbol.Div)) = Some operator.Divide
product_operator (Some (kind.Symbol symbol.Mod)) = Some operator.Modulo
product_operator (Some (kind.Symbol symbol.Ampersand)) = Some operator.And
product_operator _ = None

abbrev pub sum_operator : Option Kind → Option Operator
sum_operator (Some (kind.Symbol symbol.Plus)) = Some operator.Add
sum_operator (Some (kind.Symbol symbol.Minus)) = Some operator.Subtract
sum_operator (Some (kind.Symbol symbol.Or)) = Some operator.Or
sum_operator _ = None

abbrev pub relation_operator : Option Kind → Option Operator
relation_operator (Some (kind.Symbol symbol.Equal)) = Some operator.Equal
relation_operator (Some (kind.Symbol symbol.Unequal)) = Some operator.Unequal
relation_operator (Some (kind.Symbol symbol.Less)) = Some operator.Less
relation_operator (Some (kind.Symbol symbol.Greater)) = Some operator.Greater
relation_operator (Some (kind.Symbol symbol.AtMost)) = Some operator.AtMost
relation_operator (Some (kind.Symbol symbol.AtLeast)) = Some operator.AtLeast
relation_operator _ = None

abbrev pub sign_of : Option Kind → Option Sign
sign_of (Some (kind.Symbol symbol.Plus)) = Some sign.Plus
sign_of (Some (kind.Symbol symbol.Minus)) = Some sign.Minus
sign_of _ = None

-- ---- chains of operands, with operators of one class between them

module _ (operators : Option Kind → Option Operator) (operand : Reader s.Expression) where
  abbrev pub proceeds : Option Kind → Bool
  proceeds k = is_some (operators k)

  -- An operator and the operand after it.
  unfoldable pub operation_of : Reader s.Operation
  operation_of = by_kind (λ k. if_some (operators k) refuse
      (λ o. take_token >>= λ at. operand >>= λ e. pure (record { operator = o; at = at; operand = e })))

  -- The operations after the first operand, grouped to the left.
  unfoldable pub chain_from : s.Expression → Reader s.Expression
  chain_from first = repeat_while proceeds operation_of [] >>= λ os. pure (chain_of first os)

-- ---- from terms to lists of expressions, given a reader of factors

module _ (factor : Reader s.Expression) where
  unfoldable pub term_of : Reader s.Expression
  term_of = factor >>= chain_from product_operator factor

  unfoldable pub signed_term : Option Sign → Reader s.Expression
  signed_term None = term_of
  signed_term (Some sign) = take_token >>= λ at. term_of >>= λ e. pure (s.Signed sign at e)

  unfoldable pub simple_of : Reader s.Expression
  simple_of = by_kind (λ k. signed_term (sign_of k)) >>= chain_from sum_operator term_of

  unfoldable pub expression_of : Reader s.Expression
  expression_of = simple_of >>= λ a. by_kind (λ k. if_some (relation_operator k) (pure a)
      (λ o. take_token >>= λ at. simple_of >>= λ b. pure (s.Binary a o at b)))

  -- One or more expressions, with commas between them.
  unfoldable pub expressions_from : Reader (List s.Expression)
  expressions_from = separated_by symbol.Comma expression_of

  -- The `[` or the `,`, and the index after it.
  unfoldable pub index_of : Reader PlacedIndex
  index_of = take_token >>= λ at. expression_of >>= λ e. pure (record { at = at; value = e })

  unfoldable pub indices_from : Reader (List PlacedIndex)
  indices_from = one_or_more (is_symbol symbol.Comma) index_of

-- ---- from selectors to factors, given a reader of factors one level deeper, if there is such a
-- level

abbrev pub begins_selector : Option Kind → Bool
begins_selector (Some (kind.Symbol symbol.Dot)) = true
begins_selector (Some (kind.Symbol symbol.OpenBracket)) = true
begins_selector _ = false

module _ (inner : Option (Reader s.Expression)) where
  unfoldable pub field_of : Reader s.Selector
  field_of = take_token >>= λ at. identifier_of >>= λ name. pure (s.Field at name)

  unfoldable pub indexed_of : Reader s.Selector
  indexed_of = inside inner (λ f. indices_from f >>= λ is. expect symbol.CloseBracket >>= λ _. pure (s.Indexed (indices_of is)))

  unfoldable pub selector_by : Option Kind → Reader s.Selector
  selector_by (Some (kind.Symbol symbol.Dot)) = field_of
  selector_by (Some (kind.Symbol symbol.OpenBracket)) = indexed_of
  selector_by _ = refuse

  unfoldable pub selector_of : Reader s.Selector
  selector_of = by_kind selector_by

  unfoldable pub designator_of : Reader s.Designator
  designator_of = identifier_of >>= λ root. repeat_while begins_selector selector_of [] >>= λ ss. pure (s.Designate root (selectors_of ss))

  unfoldable pub arguments_of : Reader (List s.Expression)
  arguments_of = inside inner (λ f. take_token >>= λ _. expressions_from f >>= λ es. expect symbol.CloseParenthesis >>= λ _. pure es)

  -- Arguments in parentheses, or none.
  unfoldable pub optional_arguments_of : Reader (List s.Expression)
  optional_arguments_of = by_kind (λ k. if is_symbol symbol.OpenParenthesis k then arguments_of else pure [])

  unfoldable pub call_or_part : s.Designator → Bool → Reader s.Expression
  call_or_part d true = arguments_of >>= λ es. pure (s.Call d (expressions_of es))
  call_or_part d false = pure (s.Designated d)

  unfoldable pub named_of : Reader s.Expression
  named_of = designator_of >>= λ d. by_kind (λ k. call_or_part d (is_symbol symbol.OpenParenthesis k))

  unfoldable pub parenthesized_of : Reader s.Expression
  parenthesized_of = inside inner (λ f. take_token >>= λ at. expression_of f >>= λ e. expect symbol.CloseParenthesis >>= λ _. pure
      (s.Parenthesized at e))

  unfoldable pub not_of : Reader s.Expression
  not_of = inside inner (λ f. take_token >>= λ at. f >>= λ e. pure (s.Not at e))

  unfoldable pub factor_by : Option Kind → Reader s.Expression
  factor_by (Some (kind.Number value)) = take_token >>= λ at. pure (s.Number at value)
  factor_by (Some (kind.Character ordinal)) = take_token >>= λ at. pure (s.Character at ordinal)
  factor_by (Some (kind.Name name)) = named_of
  factor_by (Some (kind.Symbol symbol.OpenParenthesis)) = parenthesized_of
  factor_by (Some (kind.Symbol symbol.Not)) = not_of
  factor_by _ = refuse

  unfoldable pub factor_of : Reader s.Expression
  factor_of = by_kind factor_by

-- ---- by the number of levels that may still be opened

-- A reader of factors one level deeper, if `room` isn't 0.
unfoldable pub inner_at : ℕ → Option (Reader s.Expression)
inner_at zero = None
inner_at (suc room) = Some (factor_of (inner_at room))

abbrev pub factor_at : ℕ → Reader s.Expression
factor_at room = factor_of (inner_at room)

abbrev pub expression_at : ℕ → Reader s.Expression
expression_at room = expression_of (factor_at room)

abbrev pub designator_at : ℕ → Reader s.Designator
designator_at room = designator_of (inner_at room)

abbrev pub optional_arguments_at : ℕ → Reader (List s.Expression)
optional_arguments_at room = optional_arguments_of (inner_at room)
