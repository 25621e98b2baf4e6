-- The grammar of constants and expressions. The number says how many more levels may be opened.
--   constant = [ "-" ] NUMBER | CHAR | NAME
--   desig    = NAME { "." NAME | "[" expr { "," expr } "]" }
--   args     = "(" expr { "," expr } ")"
--   expr     = simple [ ( "=" | "<>" | "<" | ">" | "<=" | ">=" ) simple ]
--   simple   = [ "+" | "-" ] term { ( "+" | "-" | "or" ) term }
--   term     = factor { ( "*" | "div" | "mod" | "&" ) factor }
--   factor   = NUMBER | CHAR | desig [ args ] | "(" expr ")" | "not" factor
-- All expressions are one type of tree, and conditions say what may be to the left and to the
-- right of an operator.
use Rattle.std.specs.Prelude.{◌≡◌, ℕ, Bool, true, false}
use Rattle.cp_model.specs.Languages.{Language, empty, never, token, anywhere, symbol, symbol_at, identifier, ◌⋅◌, ◌▸◌, opens}
use Rattle.cp_model.specs.Syntax as s
use Rattle.cp_model.specs.Tokens as kind
use Rattle.cp_model.specs.declared.token.Symbol.{Symbol}
use Rattle.cp_model.specs.declared.token.Symbol.TheVariants as symbol
use Rattle.cp_model.specs.declared.tree.Constant.{Constant}
use Rattle.cp_model.specs.declared.tree.Constant.TheVariants as written
use Rattle.cp_model.specs.declared.tree.Operator.{Operator}
use Rattle.cp_model.specs.declared.tree.Operator.TheVariants as operator
use Rattle.cp_model.specs.declared.tree.Sign.{Sign}
use Rattle.cp_model.specs.declared.tree.Sign.TheVariants as sign

-- ---- constants

abbrev pub constant : Constant → Language
constant (written.Number at value) = token (kind.Number value) at
constant (written.Negative at value) = symbol_at symbol.Minus at ⋅ anywhere (kind.Number value)
constant (written.Character at ordinal) = token (kind.Character ordinal) at
constant (written.Named x) = identifier x

-- ---- how tightly an expression binds

abbrev pub is_product : Operator → Bool
is_product operator.Multiply = true
is_product operator.Divide = true
is_product operator.Modulo = true
is_product operator.And = true
is_product _ = false

abbrev pub is_sum : Operator → Bool
is_sum operator.Add = true
is_sum operator.Subtract = true
is_sum operator.Or = true
is_sum _ = false

abbrev pub is_relation : Operator → Bool
is_relation operator.Equal = true
is_relation operator.Unequal = true
is_relation operator.Less = true
is_relation operator.Greater = true
is_relation operator.AtMost = true
is_relation operator.AtLeast = true
is_relation _ = false

abbrev pub is_factor : s.Expression → Bool
is_factor (s.Signed sign at e) = false
is_factor (s.Binary a o at b) = false
is_factor _ = true

abbrev pub is_term : s.Expression → Bool
is_term (s.Signed sign at e) = false
is_term (s.Binary a o at b) = is_product o
is_term _ = true

-- a sum, or an expression that binds more tightly
abbrev pub is_simple : s.Expression → Bool
is_simple (s.Binary a operator.Equal at b) = false
is_simple (s.Binary a operator.Unequal at b) = false
is_simple (s.Binary a operator.Less at b) = false
is_simple (s.Binary a operator.Greater at b) = false
is_simple (s.Binary a operator.AtMost at b) = false
is_simple (s.Binary a operator.AtLeast at b) = false
is_simple _ = true

-- the left operand of a product is a term, that of any other operator a sum
abbrev pub IsLeft : Operator → s.Expression → Type 0
IsLeft operator.Multiply e = is_term e ≡ true
IsLeft operator.Divide e = is_term e ≡ true
IsLeft operator.Modulo e = is_term e ≡ true
IsLeft operator.And e = is_term e ≡ true
IsLeft _ e = is_simple e ≡ true

-- the right operand of a product is a factor, that of a sum a term, that of a relation a sum
abbrev pub IsRight : Operator → s.Expression → Type 0
IsRight operator.Multiply e = is_factor e ≡ true
IsRight operator.Divide e = is_factor e ≡ true
IsRight operator.Modulo e = is_factor e ≡ true
IsRight operator.And e = is_factor e ≡ true
IsRight operator.Add e = is_term e ≡ true
IsRight operator.Subtract e = is_term e ≡ true
IsRight operator.Or e = is_term e ≡ true
IsRight _ e = is_simple e ≡ true

abbrev pub operator_symbol : Operator → Symbol
operator_symbol operator.Equal = symbol.Equal
operator_symbol operator.Unequal = symbol.Unequal
operator_symbol operator.Less = symbol.Less
operator_symbol operator.Greater = symbol.Greater
operator_symbol operator.AtMost = symbol.AtMost
operator_symbol operator.AtLeast = symbol.AtLeast
operator_symbol operator.Add = symbol.Plus
operator_symbol operator.Subtract = symbol.Minus
operator_symbol operator.Or = symbol.Or
operator_symbol operator.Multiply = symbol.Star
operator_symbol operator.Divide = symbol.Div
operator_symbol operator.Modulo = symbol.Mod
operator_symbol operator.And = symbol.Ampersand

abbrev pub sign_symbol : Sign → Symbol
sign_symbol sign.Plus = symbol.Plus
sign_symbol sign.Minus = symbol.Minus

-- ---- expressions

abbrev mutual
  pub expression : ℕ → s.Expression → Language
  expression room (s.Number at value) = token (kind.Number value) at
  expression room (s.Character at ordinal) = token (kind.Character ordinal) at
  expression room (s.Designated d) = designator room d
  expression room (s.Call d es) = designator room d ⋅ opens room (λ r. symbol symbol.OpenParenthesis ⋅ expressions r es ⋅ symbol symbol.CloseParenthesis)
  expression room (s.Parenthesized at e) = opens room (λ r. symbol_at symbol.OpenParenthesis at ⋅ expression r e ⋅ symbol symbol.CloseParenthesis)
  expression room (s.Not at e) = (is_factor e ≡ true) ▸ opens room (λ r. symbol_at symbol.Not at ⋅ expression r e)
  expression room (s.Signed sign at e) = (is_term e ≡ true) ▸ symbol_at (sign_symbol sign) at ⋅ expression room e
  expression room (s.Binary a o at b) = IsLeft o a ▸ IsRight o b ▸ expression room a ⋅ symbol_at (operator_symbol o) at ⋅ expression room b

  -- one or more, with commas between
  pub expressions : ℕ → s.Expressions → Language
  expressions room s.NoExpressions = never
  expressions room (s.MoreExpressions e es) = expression room e ⋅ more_expressions room es

  pub more_expressions : ℕ → s.Expressions → Language
  more_expressions room s.NoExpressions = empty
  more_expressions room (s.MoreExpressions e es) = symbol symbol.Comma ⋅ expression room e ⋅ more_expressions room es

  pub designator : ℕ → s.Designator → Language
  designator room (s.Designate root ss) = identifier root ⋅ selectors room ss

  pub selectors : ℕ → s.Selectors → Language
  selectors room s.NoSelectors = empty
  selectors room (s.MoreSelectors x xs) = selector room x ⋅ selectors room xs

  pub selector : ℕ → s.Selector → Language
  selector room (s.Field at name) = symbol_at symbol.Dot at ⋅ identifier name
  selector room (s.Indexed is) = opens room (λ r. indices r is ⋅ symbol symbol.CloseBracket)

  -- the `[`, then at least one index, with commas between
  pub indices : ℕ → s.Indices → Language
  indices room s.NoIndices = never
  indices room (s.MoreIndices at e is) = symbol_at symbol.OpenBracket at ⋅ expression room e ⋅ more_indices room is

  pub more_indices : ℕ → s.Indices → Language
  more_indices room s.NoIndices = empty
  more_indices room (s.MoreIndices at e is) = symbol_at symbol.Comma at ⋅ expression room e ⋅ more_indices room is

-- arguments in parentheses, or nothing
abbrev pub arguments : ℕ → s.Expressions → Language
arguments room s.NoExpressions = empty
arguments room (s.MoreExpressions e es) =
    opens room (λ r. symbol symbol.OpenParenthesis ⋅ expressions r (s.MoreExpressions e es) ⋅ symbol symbol.CloseParenthesis)
