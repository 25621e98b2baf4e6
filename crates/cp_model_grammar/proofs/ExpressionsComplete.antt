-- What the grammar allows as an expression is read.
use Rattle.std.proofs.Common.{◌≡◌, ℕ, zero, suc, ◌<◌, ◌≤◌, true, false, List, [], ◌∷◌, ◌++◌, length, Option, Some, None, Ok, refl, sym, ap, ◌∙◌, arith}
use Rattle.cp_model.specs.Languages.{symbol_at}
use Rattle.cp_model.specs.Syntax as s
use Rattle.cp_model.specs.Syntax.{chain_of}
use Rattle.cp_model.specs.GrammarExpressions.{is_product, is_sum, is_relation, is_factor, is_term, is_simple, IsLeft, IsRight, operator_symbol, sign_symbol, expression}
use Rattle.cp_model.specs.Tokens.{Token}
use Rattle.cp_model.specs.Tokens.{Kind}
use Rattle.cp_model.specs.Tokens as kind
use Rattle.cp_model.specs.declared.tree.Operator.{Operator}
use Rattle.cp_model.specs.declared.tree.Operator.TheVariants as operator
use Rattle.cp_model.specs.declared.tree.Sign.{Sign}
use Rattle.cp_model.specs.declared.tree.Sign.TheVariants as sign
use Rattle.cp_model_grammar.specs.Reading.{Outcome, Reader, and_then, ◌>>=◌, pure, kind_at, repeat}
use Rattle.cp_model_grammar.specs.Expressions.{product_operator, sum_operator, relation_operator, sign_of, proceeds, operation_of, chain_from, term_of, signed_term, simple_of, expression_of, factor_at, expression_at}
use Rattle.cp_model_grammar.proofs.Tokens.{kind_of, token_shrinks}
use Rattle.cp_model_grammar.proofs.Lists.{repeat_stops, repeat_goes}
use Rattle.cp_model_grammar.specs.Follows.{ends_factor, ends_term, ends_simple, ends_expression}
use Rattle.cp_model_grammar.proofs.Ends.{term_then_factor, simple_then_term, expression_then_simple, ends_product, ends_sum, ends_relation, ends_at_operator, ends_at_sum, ends_at_relation, product_is, sum_is, relation_is}
use Rattle.cp_model_grammar.proofs.ExpressionsShrink.{expression_shrinks}
use Rattle.cp_model_grammar.proofs.OperatorsSound.{IsFactor, IsTerm, IsSimple}
use Rattle.cp_model_grammar.proofs.ExpressionsSound.{chain_push}

-- ---- what the parts read

abbrev pub FactorReads : s.Expression → Type 0
FactorReads e = (room : ℕ) (ts rest : List Token) → expression room e ts rest → ends_factor (kind_at rest) ≡ true → factor_at room ts ≡ Ok (e, rest)

module _ (operators : Option Kind → Option Operator) (operand : Reader s.Expression) where
  -- the rest of a chain after its first operand, if these operations were found and up to n more
  -- may be read
  abbrev pub chain_after : s.Expression → ℕ → List s.Operation → Reader s.Expression
  chain_after first n os = repeat (proceeds operators operand) (operation_of operators operand) n os >>= λ os. pure (chain_of first os)

  -- the reader has read the expression, and looks for another operator
  abbrev pub Comes : Reader s.Expression → s.Expression → List Token → List Token → Type 0
  Comes reader e ts rest = (n : ℕ) × (first : s.Expression) × (os : List s.Operation) × (chain_of first os ≡ e) × (length rest ≤ n)
      × (reader ts ≡ chain_after first n os rest)

  comes_done : (reader : Reader s.Expression) (e : s.Expression) (ts rest : List Token) → operators (kind_at rest) ≡ None → Comes reader e ts rest
      → reader ts ≡ Ok (e, rest)
  comes_done reader e ts rest none c =
      let stop : proceeds operators operand (kind_at rest) ≡ false = rw none refl in
      c.5 ∙ rw (repeat_stops (proceeds operators operand) (operation_of operators operand) c.0 c.2 rest stop)
      (ap (λ (e : s.Expression). Ok (e, rest)) c.3)

  operation_reads : (o : Operator) (at : ℕ) (b : s.Expression) (ts mid rest : List Token) → symbol_at (operator_symbol o) at ts mid
      → operators (Some (kind.Symbol (operator_symbol o))) ≡ Some o
      → operand mid ≡ Ok (b, rest) → operation_of operators operand ts ≡ Ok (record { operator = o; at = at; operand = b }, rest)
  unfolding operation_of
  operation_reads o at b ts mid rest t some one = rw (t.1, some, one) refl

  comes_on : (reader : Reader s.Expression) (a : s.Expression) (o : Operator) (at : ℕ) (b : s.Expression) (ts mid last rest : List Token)
      → Comes reader a ts mid
      → symbol_at (operator_symbol o) at mid last → operators (Some (kind.Symbol (operator_symbol o))) ≡ Some o → operand last ≡ Ok (b, rest)
      → length rest < length last
      → Comes reader (s.Binary a o at b) ts rest
  comes_on reader a o at b ts mid last rest c t some one lt = turn c.0 c.4 c.5
    where
      turn : (n : ℕ) → length mid ≤ n → reader ts ≡ chain_after c.1 n c.2 mid → Comes reader (s.Binary a o at b) ts rest
      turn zero le so_far = absurd (omega (arith, token_shrinks _ at mid last t))
      turn (suc n) le so_far =
          let go : proceeds operators operand (kind_at mid) ≡ true = rw (t.1, some) refl in
          let next : s.Operation = record { operator = o; at = at; operand = b } in (
            n,
            c.1,
            c.2 ++ next ∷ [],
            chain_push c.1 c.2 next ∙ ap (λ (a : s.Expression). s.Binary a o at b) c.3,
            omega (arith, token_shrinks _ at mid last t),
            so_far ∙ ap (λ (r : Outcome (List s.Operation)). and_then r (λ os. pure (chain_of c.1 os)))
                (repeat_goes (proceeds operators operand) (operation_of operators operand) n c.2 mid rest next go
                (operation_reads o at b mid last rest t some one)),
          )

abbrev pub TermReads : s.Expression → Type 0
TermReads e = (room : ℕ) (ts rest : List Token) → expression room e ts rest → ends_factor (kind_at rest) ≡ true
    → Comes product_operator (factor_at room) (term_of (factor_at room)) e ts rest

abbrev pub SimpleReads : s.Expression → Type 0
SimpleReads e = (room : ℕ) (ts rest : List Token) → expression room e ts rest → ends_term (kind_at rest) ≡ true
    → Comes sum_operator (term_of (factor_at room)) (simple_of (factor_at room)) e ts rest

abbrev pub WholeReads : s.Expression → Type 0
WholeReads e = (room : ℕ) (ts rest : List Token) → expression room e ts rest → ends_expression (kind_at rest) ≡ true
    → expression_at room ts ≡ Ok (e, rest)

pub record Complete (e : s.Expression) : Type 0 where
  pub factor : IsFactor e → FactorReads e
  pub term : IsTerm e → TermReads e
  pub simple : IsSimple e → SimpleReads e
  pub whole : WholeReads e

sign_is : (x : Sign) → sign_of (Some (kind.Symbol (sign_symbol x))) ≡ Some x
sign_is sign.Plus = refl
sign_is sign.Minus = refl

term_done : (e : s.Expression) → TermReads e → (room : ℕ) (ts rest : List Token) → expression room e ts rest → ends_term (kind_at rest) ≡ true
    → term_of (factor_at room) ts ≡ Ok (e, rest)
term_done e reads room ts rest h ends =
    comes_done product_operator (factor_at room) (term_of (factor_at room)) e ts rest (ends_product (kind_at rest) ends)
    (reads room ts rest h (term_then_factor (kind_at rest) ends))

simple_done : (e : s.Expression) → SimpleReads e → (room : ℕ) (ts rest : List Token) → expression room e ts rest → ends_simple (kind_at rest) ≡ true
    → simple_of (factor_at room) ts ≡ Ok (e, rest)
simple_done e reads room ts rest h ends =
    comes_done sum_operator (term_of (factor_at room)) (simple_of (factor_at room)) e ts rest (ends_sum (kind_at rest) ends)
    (reads room ts rest h (simple_then_term (kind_at rest) ends))

-- a term begins with no sign
no_sign : (e : s.Expression) (room : ℕ) (ts rest : List Token) → IsTerm e → expression room e ts rest → sign_of (kind_at ts) ≡ None
no_sign (s.Number at n) room ts rest t h = rw h.1 refl
no_sign (s.Character at n) room ts rest t h = rw h.1 refl
no_sign (s.Designated (s.Designate x xs)) room ts rest t h = rw h.1.1 refl
no_sign (s.Call (s.Designate x xs) es) room ts rest t h = rw h.1.1.1 refl
no_sign (s.Parenthesized at e) zero ts rest t h = absurd h
no_sign (s.Parenthesized at e) (suc room) ts rest t h = rw h.1.1 refl
no_sign (s.Not at e) zero ts rest t h = absurd h.1
no_sign (s.Not at e) (suc room) ts rest t h = rw h.1.1.1 refl
no_sign (s.Signed x at e) room ts rest t h = absurd cc
no_sign (s.Binary a operator.Multiply at b) room ts rest t h = no_sign a room ts h.1.1.0 h.0 h.1.1.1
no_sign (s.Binary a operator.Divide at b) room ts rest t h = no_sign a room ts h.1.1.0 h.0 h.1.1.1
no_sign (s.Binary a operator.Modulo at b) room ts rest t h = no_sign a room ts h.1.1.0 h.0 h.1.1.1
no_sign (s.Binary a operator.And at b) room ts rest t h = no_sign a room ts h.1.1.0 h.0 h.1.1.1
no_sign (s.Binary a o at b) room ts rest t h = absurd cc

module _ (f : Reader s.Expression) (e : s.Expression) (ts rest : List Token) where
  term_from_factor : f ts ≡ Ok (e, rest) → term_of f ts ≡ chain_after product_operator f e (length rest) [] rest
  unfolding term_of chain_from
  term_from_factor h = rw h refl

  simple_from_term : sign_of (kind_at ts) ≡ None → term_of f ts ≡ Ok (e, rest)
      → simple_of f ts ≡ chain_after sum_operator (term_of f) e (length rest) [] rest
  unfolding simple_of signed_term chain_from
  simple_from_term none h = rw (none, h) refl

  simple_from_sign : (x : Sign) (at : ℕ) (mid : List Token) → symbol_at (sign_symbol x) at ts mid → term_of f mid ≡ Ok (e, rest)
      → simple_of f ts ≡ chain_after sum_operator (term_of f) (s.Signed x at e) (length rest) [] rest
  unfolding simple_of signed_term chain_from
  simple_from_sign x at mid t h = rw (t.1, sign_is x, h) refl

  whole_from_simple : simple_of f ts ≡ Ok (e, rest) → relation_operator (kind_at rest) ≡ None → expression_of f ts ≡ Ok (e, rest)
  unfolding expression_of
  whole_from_simple h none = rw (h, none) refl

  whole_from_relation : (o : Operator) (at : ℕ) (mid last : List Token) (b : s.Expression) → simple_of f ts ≡ Ok (e, rest)
      → symbol_at (operator_symbol o) at rest mid
      → relation_operator (Some (kind.Symbol (operator_symbol o))) ≡ Some o → simple_of f mid ≡ Ok (b, last)
      → expression_of f ts ≡ Ok (s.Binary e o at b, last)
  unfolding expression_of
  whole_from_relation o at mid last b h t some g = rw (h, t.1, some, g) refl

by_simple : (e : s.Expression) → SimpleReads e → WholeReads e
by_simple e reads room ts rest h ends =
    whole_from_simple (factor_at room) e ts rest (simple_done e reads room ts rest h (expression_then_simple (kind_at rest) ends))
    (ends_relation (kind_at rest) ends)

by_term : (e : s.Expression) → IsTerm e → TermReads e → SimpleReads e
by_term e t reads room ts rest h ends = (
  length rest,
  e,
  [],
  refl,
  omega arith,
  simple_from_term (factor_at room) e ts rest (no_sign e room ts rest t h)
      (term_done e reads room ts rest h ends),
)

by_factor : (e : s.Expression) → FactorReads e → TermReads e
by_factor e reads room ts rest h ends = (
  length rest,
  e,
  [],
  refl,
  omega arith,
  term_from_factor (factor_at room) e ts rest (reads room ts rest h ends),
)

pub complete_factor : (e : s.Expression) → IsTerm e → FactorReads e → Complete e
complete_factor e t reads = record {
  factor = λ f. reads;
  term = λ t. by_factor e reads;
  simple = λ x. by_term e t (by_factor e reads);
  whole = by_simple e (by_term e t (by_factor e reads));
}

-- ---- operators

module _ (a : s.Expression) (o : Operator) (at : ℕ) (b : s.Expression) (room : ℕ) (ts mid last rest : List Token)
    (ha : expression room a ts mid) (t : symbol_at (operator_symbol o) at mid last) (hb : expression room b last rest) where
  product_turn : is_product o ≡ true → TermReads a → FactorReads b → ends_factor (kind_at rest) ≡ true
      → Comes product_operator (factor_at room) (term_of (factor_at room)) (s.Binary a o at b) ts rest
  product_turn k ra rb ends =
      comes_on product_operator (factor_at room) (term_of (factor_at room)) a o at b ts mid last rest
      (ra room ts mid ha (rw (kind_of (kind.Symbol (operator_symbol o)) at mid last t) (ends_at_operator o))) t (product_is o k)
      (rb room last rest hb ends) (expression_shrinks b room last rest hb)

  sum_turn : is_sum o ≡ true → SimpleReads a → TermReads b → ends_term (kind_at rest) ≡ true
      → Comes sum_operator (term_of (factor_at room)) (simple_of (factor_at room)) (s.Binary a o at b) ts rest
  sum_turn k ra rb ends =
      comes_on sum_operator (term_of (factor_at room)) (simple_of (factor_at room)) a o at b ts mid last rest
      (ra room ts mid ha (rw (kind_of (kind.Symbol (operator_symbol o)) at mid last t) (ends_at_sum o k))) t (sum_is o k)
      (term_done b rb room last rest hb ends) (expression_shrinks b room last rest hb)

  relation_turn : is_relation o ≡ true → SimpleReads a → SimpleReads b → ends_expression (kind_at rest) ≡ true
      → expression_at room ts ≡ Ok (s.Binary a o at b, rest)
  relation_turn k ra rb ends =
      whole_from_relation (factor_at room) a ts mid o at last rest b
      (simple_done a ra room ts mid ha (rw (kind_of (kind.Symbol (operator_symbol o)) at mid last t) (ends_at_relation o k))) t (relation_is o k)
      (simple_done b rb room last rest hb (expression_then_simple (kind_at rest) ends))

product_complete : (a : s.Expression) (o : Operator) (at : ℕ) (b : s.Expression) → IsTerm (s.Binary a o at b) → TermReads (s.Binary a o at b)
    → Complete (s.Binary a o at b)
product_complete a o at b t reads = record {
  factor = λ f. absurd cc;
  term = λ t. reads;
  simple = λ x. by_term (s.Binary a o at b) t reads;
  whole = by_simple (s.Binary a o at b) (by_term (s.Binary a o at b) t reads);
}

sum_complete : (e : s.Expression) → is_factor e ≡ false → is_term e ≡ false → SimpleReads e → Complete e
sum_complete e f t reads = record {
  factor = λ h. absurd (let x : true ≡ false = sym h ∙ f in cc);
  term = λ h. absurd (let x : true ≡ false = sym h ∙ t in cc);
  simple = λ x. reads;
  whole = by_simple e reads;
}

relation_complete : (e : s.Expression) → is_factor e ≡ false → is_term e ≡ false → is_simple e ≡ false → WholeReads e → Complete e
relation_complete e f t i reads = record {
  factor = λ h. absurd (let x : true ≡ false = sym h ∙ f in cc);
  term = λ h. absurd (let x : true ≡ false = sym h ∙ t in cc);
  simple = λ h. absurd (let x : true ≡ false = sym h ∙ i in cc);
  whole = reads;
}

-- the operands of an operator, with what the grammar says about them
record Operands (a : s.Expression) (o : Operator) (at : ℕ) (b : s.Expression) (room : ℕ) (ts rest : List Token) : Type 0 where
  pub left : IsLeft o a
  pub right : IsRight o b
  pub mid : List Token
  pub last : List Token
  pub before : expression room a ts mid
  pub operator : symbol_at (operator_symbol o) at mid last
  pub behind : expression room b last rest

operands : (a : s.Expression) (o : Operator) (at : ℕ) (b : s.Expression) (room : ℕ) (ts rest : List Token)
    → expression room (s.Binary a o at b) ts rest → Operands a o at b room ts rest
operands a o at b room ts rest h =
    let g = h.1.1 in
    record { left = h.0; right = h.1.0; mid = g.0; last = g.2.0; before = g.1; operator = g.2.1; behind = g.2.2 }

module _ (a : s.Expression) (at : ℕ) (b : s.Expression) (ca : Complete a) (cb : Complete b) where
  product_case : (o : Operator) → is_product o ≡ true → ((r : IsLeft o a) → IsTerm a) → ((r : IsRight o b) → IsFactor b) → IsTerm (s.Binary a o at b)
      → Complete (s.Binary a o at b)
  product_case o k l r t = product_complete a o at b t (λ room ts rest h ends. let g = operands a o at b room ts rest h in
      product_turn a o at b room ts g.mid g.last rest g.before g.operator g.behind k (ca.term (l g.left)) (cb.factor (r g.right)) ends)

  sum_case : (o : Operator) → is_sum o ≡ true → ((r : IsLeft o a) → IsSimple a) → ((r : IsRight o b) → IsTerm b) → is_term (s.Binary a o at b) ≡ false
      → Complete (s.Binary a o at b)
  sum_case o k l r t = sum_complete (s.Binary a o at b) refl t (λ room ts rest h ends. let g = operands a o at b room ts rest h in
      sum_turn a o at b room ts g.mid g.last rest g.before g.operator g.behind k (ca.simple (l g.left)) (cb.term (r g.right)) ends)

  relation_case : (o : Operator) → is_relation o ≡ true → ((r : IsLeft o a) → IsSimple a) → ((r : IsRight o b) → IsSimple b)
      → is_term (s.Binary a o at b) ≡ false → is_simple (s.Binary a o at b) ≡ false
      → Complete (s.Binary a o at b)
  relation_case o k l r t i = relation_complete (s.Binary a o at b) refl t i (λ room ts rest h ends. let g = operands a o at b room ts rest h in
      relation_turn a o at b room ts g.mid g.last rest g.before g.operator g.behind k (ca.simple (l g.left)) (cb.simple (r g.right)) ends)

  pub binary_complete : (o : Operator) → Complete (s.Binary a o at b)
  binary_complete operator.Multiply = product_case operator.Multiply refl (λ h. h) (λ h. h) refl
  binary_complete operator.Divide = product_case operator.Divide refl (λ h. h) (λ h. h) refl
  binary_complete operator.Modulo = product_case operator.Modulo refl (λ h. h) (λ h. h) refl
  binary_complete operator.And = product_case operator.And refl (λ h. h) (λ h. h) refl
  binary_complete operator.Add = sum_case operator.Add refl (λ h. h) (λ h. h) refl
  binary_complete operator.Subtract = sum_case operator.Subtract refl (λ h. h) (λ h. h) refl
  binary_complete operator.Or = sum_case operator.Or refl (λ h. h) (λ h. h) refl
  binary_complete operator.Equal = relation_case operator.Equal refl (λ h. h) (λ h. h) refl refl
  binary_complete operator.Unequal = relation_case operator.Unequal refl (λ h. h) (λ h. h) refl refl
  binary_complete operator.Less = relation_case operator.Less refl (λ h. h) (λ h. h) refl refl
  binary_complete operator.Greater = relation_case operator.Greater refl (λ h. h) (λ h. h) refl refl
  binary_complete operator.AtMost = relation_case operator.AtMost refl (λ h. h) (λ h. h) refl refl
  binary_complete operator.AtLeast = relation_case operator.AtLeast refl (λ h. h) (λ h. h) refl refl

pub sign_complete : (x : Sign) (at : ℕ) (e : s.Expression) → Complete e → Complete (s.Signed x at e)
sign_complete x at e c = sum_complete (s.Signed x at e) refl refl (λ room ts rest h ends. (
  length rest,
  s.Signed x at e,
  [],
  refl,
  omega arith,
  simple_from_sign (factor_at room) e ts rest x at h.1.0 h.1.1 (term_done e (c.term h.0) room h.1.0 rest h.1.2 ends),
))
