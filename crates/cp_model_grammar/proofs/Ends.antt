-- A token that ends an expression is none of the operators and selectors that would continue it.
use Rattle.std.proofs.Common.{◌≡◌, true, false, Option, Some, None, refl}
use Rattle.cp_model.specs.GrammarExpressions.{is_product, is_sum, is_relation, operator_symbol}
use Rattle.cp_model.specs.Tokens.{Kind}
use Rattle.cp_model.specs.Tokens as kind
use Rattle.cp_model.specs.declared.token.Symbol.TheVariants as symbol
use Rattle.cp_model.specs.declared.tree.Operator.{Operator}
use Rattle.cp_model.specs.declared.tree.Operator.TheVariants as operator
use Rattle.cp_model_grammar.specs.Kinds.{is_symbol}
use Rattle.cp_model_grammar.specs.Follows.{ends_factor, ends_term, ends_simple, ends_expression}
use Rattle.cp_model_grammar.specs.Expressions.{product_operator, sum_operator, relation_operator, begins_selector}

pub term_then_factor : (k : Option Kind) → ends_term k ≡ true → ends_factor k ≡ true
term_then_factor (Some (kind.Symbol symbol.Star)) h = absurd cc
term_then_factor (Some (kind.Symbol symbol.Div)) h = absurd cc
term_then_factor (Some (kind.Symbol symbol.Mod)) h = absurd cc
term_then_factor (Some (kind.Symbol symbol.Ampersand)) h = absurd cc
term_then_factor _ h = h

pub simple_then_term : (k : Option Kind) → ends_simple k ≡ true → ends_term k ≡ true
simple_then_term (Some (kind.Symbol symbol.Plus)) h = absurd cc
simple_then_term (Some (kind.Symbol symbol.Minus)) h = absurd cc
simple_then_term (Some (kind.Symbol symbol.Or)) h = absurd cc
simple_then_term _ h = h

pub expression_then_simple : (k : Option Kind) → ends_expression k ≡ true → ends_simple k ≡ true
expression_then_simple (Some (kind.Symbol symbol.Equal)) h = absurd cc
expression_then_simple (Some (kind.Symbol symbol.Unequal)) h = absurd cc
expression_then_simple (Some (kind.Symbol symbol.Less)) h = absurd cc
expression_then_simple (Some (kind.Symbol symbol.Greater)) h = absurd cc
expression_then_simple (Some (kind.Symbol symbol.AtMost)) h = absurd cc
expression_then_simple (Some (kind.Symbol symbol.AtLeast)) h = absurd cc
expression_then_simple _ h = h

pub ends_product : (k : Option Kind) → ends_term k ≡ true → product_operator k ≡ None
ends_product (Some (kind.Symbol symbol.Star)) h = absurd cc
ends_product (Some (kind.Symbol symbol.Div)) h = absurd cc
ends_product (Some (kind.Symbol symbol.Mod)) h = absurd cc
ends_product (Some (kind.Symbol symbol.Ampersand)) h = absurd cc
ends_product _ h = refl

pub ends_sum : (k : Option Kind) → ends_simple k ≡ true → sum_operator k ≡ None
ends_sum (Some (kind.Symbol symbol.Plus)) h = absurd cc
ends_sum (Some (kind.Symbol symbol.Minus)) h = absurd cc
ends_sum (Some (kind.Symbol symbol.Or)) h = absurd cc
ends_sum _ h = refl

pub ends_relation : (k : Option Kind) → ends_expression k ≡ true → relation_operator k ≡ None
ends_relation (Some (kind.Symbol symbol.Equal)) h = absurd cc
ends_relation (Some (kind.Symbol symbol.Unequal)) h = absurd cc
ends_relation (Some (kind.Symbol symbol.Less)) h = absurd cc
ends_relation (Some (kind.Symbol symbol.Greater)) h = absurd cc
ends_relation (Some (kind.Symbol symbol.AtMost)) h = absurd cc
ends_relation (Some (kind.Symbol symbol.AtLeast)) h = absurd cc
ends_relation _ h = refl

pub ends_selectors : (k : Option Kind) → ends_factor k ≡ true → begins_selector k ≡ false
ends_selectors (Some (kind.Symbol symbol.Dot)) h = absurd cc
ends_selectors (Some (kind.Symbol symbol.OpenBracket)) h = absurd cc
ends_selectors _ h = refl

pub ends_arguments : (k : Option Kind) → ends_factor k ≡ true → is_symbol symbol.OpenParenthesis k ≡ false
unfolding is_symbol
ends_arguments (Some (kind.Symbol symbol.OpenParenthesis)) h = absurd cc
ends_arguments _ h = refl

-- ---- an operator follows its left operand

pub ends_at_operator : (o : Operator) → ends_factor (Some (kind.Symbol (operator_symbol o))) ≡ true
ends_at_operator operator.Equal = refl
ends_at_operator operator.Unequal = refl
ends_at_operator operator.Less = refl
ends_at_operator operator.Greater = refl
ends_at_operator operator.AtMost = refl
ends_at_operator operator.AtLeast = refl
ends_at_operator operator.Add = refl
ends_at_operator operator.Subtract = refl
ends_at_operator operator.Or = refl
ends_at_operator operator.Multiply = refl
ends_at_operator operator.Divide = refl
ends_at_operator operator.Modulo = refl
ends_at_operator operator.And = refl

pub ends_at_sum : (o : Operator) → is_sum o ≡ true → ends_term (Some (kind.Symbol (operator_symbol o))) ≡ true
ends_at_sum operator.Add h = refl
ends_at_sum operator.Subtract h = refl
ends_at_sum operator.Or h = refl
ends_at_sum _ h = absurd cc

pub ends_at_relation : (o : Operator) → is_relation o ≡ true → ends_simple (Some (kind.Symbol (operator_symbol o))) ≡ true
ends_at_relation operator.Equal h = refl
ends_at_relation operator.Unequal h = refl
ends_at_relation operator.Less h = refl
ends_at_relation operator.Greater h = refl
ends_at_relation operator.AtMost h = refl
ends_at_relation operator.AtLeast h = refl
ends_at_relation _ h = absurd cc

pub product_is : (o : Operator) → is_product o ≡ true → product_operator (Some (kind.Symbol (operator_symbol o))) ≡ Some o
product_is operator.Multiply h = refl
product_is operator.Divide h = refl
product_is operator.Modulo h = refl
product_is operator.And h = refl
product_is _ h = absurd cc

pub sum_is : (o : Operator) → is_sum o ≡ true → sum_operator (Some (kind.Symbol (operator_symbol o))) ≡ Some o
sum_is operator.Add h = refl
sum_is operator.Subtract h = refl
sum_is operator.Or h = refl
sum_is _ h = absurd cc

pub relation_is : (o : Operator) → is_relation o ≡ true → relation_operator (Some (kind.Symbol (operator_symbol o))) ≡ Some o
relation_is operator.Equal h = refl
relation_is operator.Unequal h = refl
relation_is operator.Less h = refl
relation_is operator.Greater h = refl
relation_is operator.AtMost h = refl
relation_is operator.AtLeast h = refl
relation_is _ h = absurd cc
