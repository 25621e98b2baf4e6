-- The operands that the operators of a class require, and the expressions that they form.
use Rattle.std.proofs.Common.{◌≡◌, ℕ, Bool, true, Option, Some, refl, ap, subst}
use Rattle.cp_model.specs.Syntax as s
use Rattle.cp_model.specs.Syntax.{chain_of}
use Rattle.cp_model.specs.GrammarExpressions.{is_product, is_sum, is_relation, is_factor, is_term, is_simple, IsLeft, IsRight, operator_symbol, sign_symbol}
use Rattle.cp_model.specs.Tokens.{Kind}
use Rattle.cp_model.specs.Tokens as kind
use Rattle.cp_model.specs.declared.token.Symbol.TheVariants as symbol
use Rattle.cp_model.specs.declared.tree.Operator.{Operator}
use Rattle.cp_model.specs.declared.tree.Operator.TheVariants as operator
use Rattle.cp_model.specs.declared.tree.Sign.{Sign}
use Rattle.cp_model.specs.declared.tree.Sign.TheVariants as sign
use Rattle.cp_model.proofs.Options.{same_some}
use Rattle.cp_model_grammar.specs.Expressions.{product_operator, sum_operator, relation_operator, sign_of}

-- ---- what the operators of a class require and form

abbrev pub IsFactor : s.Expression → Type 0
IsFactor e = is_factor e ≡ true

abbrev pub IsTerm : s.Expression → Type 0
IsTerm e = is_term e ≡ true

abbrev pub IsSimple : s.Expression → Type 0
IsSimple e = is_simple e ≡ true

pub record Table (operators : Option Kind → Option Operator) (class : Operator → Bool) (L R : s.Expression → Type 0) : Type 0 where
  pub kind : (k : Option Kind) (o : Operator) → operators k ≡ Some o → (k ≡ Some (kind.Symbol (operator_symbol o))) × (class o ≡ true)
  pub left : (o : Operator) (a : s.Expression) → class o ≡ true → L a → IsLeft o a
  pub right : (o : Operator) (b : s.Expression) → class o ≡ true → R b → IsRight o b
  pub makes : (o : Operator) (a : s.Expression) (at : ℕ) (b : s.Expression) → class o ≡ true → L (s.Binary a o at b)

abbrev Marked : (Operator → Bool) → Option Kind → Operator → Type 0
Marked class k o = (k ≡ Some (kind.Symbol (operator_symbol o))) × (class o ≡ true)

product_kind : (k : Option Kind) (o : Operator) → product_operator k ≡ Some o → Marked is_product k o
product_kind (Some (kind.Symbol symbol.Star)) o h =
    subst (Marked is_product (Some (kind.Symbol symbol.Star))) (same_some operator.Multiply o h) (refl, refl)
product_kind (Some (kind.Symbol symbol.Div)) o h =
    subst (Marked is_product (Some (kind.Symbol symbol.Div))) (same_some operator.Divide o h) (refl, refl)
product_kind (Some (kind.Symbol symbol.Mod)) o h =
    subst (Marked is_product (Some (kind.Symbol symbol.Mod))) (same_some operator.Modulo o h) (refl, refl)
product_kind (Some (kind.Symbol symbol.Ampersand)) o h =
    subst (Marked is_product (Some (kind.Symbol symbol.Ampersand))) (same_some operator.And o h) (refl, refl)
product_kind _ o h = absurd cc

sum_kind : (k : Option Kind) (o : Operator) → sum_operator k ≡ Some o → Marked is_sum k o
sum_kind (Some (kind.Symbol symbol.Plus)) o h = subst (Marked is_sum (Some (kind.Symbol symbol.Plus))) (same_some operator.Add o h) (refl, refl)
sum_kind (Some (kind.Symbol symbol.Minus)) o h = subst (Marked is_sum (Some (kind.Symbol symbol.Minus))) (same_some operator.Subtract o h) (refl, refl)
sum_kind (Some (kind.Symbol symbol.Or)) o h = subst (Marked is_sum (Some (kind.Symbol symbol.Or))) (same_some operator.Or o h) (refl, refl)
sum_kind _ o h = absurd cc

pub relation_kind : (k : Option Kind) (o : Operator) → relation_operator k ≡ Some o → Marked is_relation k o
relation_kind (Some (kind.Symbol symbol.Equal)) o h =
    subst (Marked is_relation (Some (kind.Symbol symbol.Equal))) (same_some operator.Equal o h) (refl, refl)
relation_kind (Some (kind.Symbol symbol.Unequal)) o h =
    subst (Marked is_relation (Some (kind.Symbol symbol.Unequal))) (same_some operator.Unequal o h) (refl, refl)
relation_kind (Some (kind.Symbol symbol.Less)) o h =
    subst (Marked is_relation (Some (kind.Symbol symbol.Less))) (same_some operator.Less o h) (refl, refl)
relation_kind (Some (kind.Symbol symbol.Greater)) o h =
    subst (Marked is_relation (Some (kind.Symbol symbol.Greater))) (same_some operator.Greater o h) (refl, refl)
relation_kind (Some (kind.Symbol symbol.AtMost)) o h =
    subst (Marked is_relation (Some (kind.Symbol symbol.AtMost))) (same_some operator.AtMost o h) (refl, refl)
relation_kind (Some (kind.Symbol symbol.AtLeast)) o h =
    subst (Marked is_relation (Some (kind.Symbol symbol.AtLeast))) (same_some operator.AtLeast o h) (refl, refl)
relation_kind _ o h = absurd cc

pub sign_kind : (k : Option Kind) (x : Sign) → sign_of k ≡ Some x → k ≡ Some (kind.Symbol (sign_symbol x))
sign_kind (Some (kind.Symbol symbol.Plus)) x h = ap (λ (x : Sign). Some (kind.Symbol (sign_symbol x))) (same_some sign.Plus x h)
sign_kind (Some (kind.Symbol symbol.Minus)) x h = ap (λ (x : Sign). Some (kind.Symbol (sign_symbol x))) (same_some sign.Minus x h)
sign_kind _ x h = absurd cc

product_left : (o : Operator) (a : s.Expression) → is_product o ≡ true → IsTerm a → IsLeft o a
product_left operator.Multiply a c h = h
product_left operator.Divide a c h = h
product_left operator.Modulo a c h = h
product_left operator.And a c h = h
product_left _ a c h = absurd cc

product_right : (o : Operator) (a : s.Expression) → is_product o ≡ true → IsFactor a → IsRight o a
product_right operator.Multiply a c h = h
product_right operator.Divide a c h = h
product_right operator.Modulo a c h = h
product_right operator.And a c h = h
product_right _ a c h = absurd cc

pub product_table : Table product_operator is_product IsTerm IsFactor
product_table = record { kind = product_kind; left = product_left; right = product_right; makes = λ o a at b c. c }

sum_left : (o : Operator) (a : s.Expression) → is_sum o ≡ true → IsSimple a → IsLeft o a
sum_left operator.Add a c h = h
sum_left operator.Subtract a c h = h
sum_left operator.Or a c h = h
sum_left _ a c h = absurd cc

sum_right : (o : Operator) (a : s.Expression) → is_sum o ≡ true → IsTerm a → IsRight o a
sum_right operator.Add a c h = h
sum_right operator.Subtract a c h = h
sum_right operator.Or a c h = h
sum_right _ a c h = absurd cc

sum_makes : (o : Operator) (a : s.Expression) (at : ℕ) (b : s.Expression) → is_sum o ≡ true → IsSimple (s.Binary a o at b)
sum_makes operator.Add a at b c = refl
sum_makes operator.Subtract a at b c = refl
sum_makes operator.Or a at b c = refl
sum_makes _ a at b c = absurd cc

pub sum_table : Table sum_operator is_sum IsSimple IsTerm
sum_table = record { kind = sum_kind; left = sum_left; right = sum_right; makes = sum_makes }

pub relation_sides : (o : Operator) (a b : s.Expression) → is_relation o ≡ true → IsSimple a → IsSimple b → IsLeft o a × IsRight o b
relation_sides operator.Equal a b c h g = (h, g)
relation_sides operator.Unequal a b c h g = (h, g)
relation_sides operator.Less a b c h g = (h, g)
relation_sides operator.Greater a b c h g = (h, g)
relation_sides operator.AtMost a b c h g = (h, g)
relation_sides operator.AtLeast a b c h g = (h, g)
relation_sides _ a b c h g = absurd cc

pub factor_is_term : (e : s.Expression) → IsFactor e → IsTerm e
factor_is_term (s.Signed b at e) h = h
factor_is_term (s.Binary a o at b) h = absurd cc
factor_is_term _ h = refl

pub term_is_simple : (e : s.Expression) → IsTerm e → IsSimple e
term_is_simple (s.Binary a operator.Equal at b) h = h
term_is_simple (s.Binary a operator.Unequal at b) h = h
term_is_simple (s.Binary a operator.Less at b) h = h
term_is_simple (s.Binary a operator.Greater at b) h = h
term_is_simple (s.Binary a operator.AtMost at b) h = h
term_is_simple (s.Binary a operator.AtLeast at b) h = h
term_is_simple _ h = refl
