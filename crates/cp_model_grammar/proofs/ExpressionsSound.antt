-- What is read as an expression is allowed by the grammar.
use Rattle.std.proofs.Common.{◌≡◌, ℕ, zero, suc, Bool, true, false, cond, List, [], ◌∷◌, ◌++◌, length, Option, Some, None, refl, sym, subst}
use Rattle.cp_model.specs.Languages.{symbol, symbol_at, ◌⋅◌, opens, each, each_behind, separated_list}
use Rattle.cp_model.specs.Syntax as s
use Rattle.cp_model.specs.Syntax.{chain_of}
use Rattle.cp_model.specs.View.{PlacedIndex, expressions_of, selectors_of, indices_of}
use Rattle.cp_model.specs.GrammarExpressions.{is_product, is_sum, operator_symbol, sign_symbol, expression, expressions, more_expressions, designator, selectors, selector, indices, more_indices, arguments}
use Rattle.cp_model.specs.Tokens.{Token}
use Rattle.cp_model.specs.Tokens.{Kind}
use Rattle.cp_model.specs.Tokens as kind
use Rattle.cp_model.specs.declared.token.Symbol.{Symbol}
use Rattle.cp_model.specs.declared.token.Symbol.TheVariants as symbol
use Rattle.cp_model.specs.declared.tree.Operator.{Operator}
use Rattle.cp_model.specs.declared.tree.Sign.{Sign}
use Rattle.cp_model_grammar.specs.Kinds.{is_symbol}
use Rattle.cp_model_grammar.specs.Reading.{Reader, ◌>>=◌, pure, refuse, take_token, kind_at, place_at, tail, if_some, repeat_while}
use Rattle.cp_model_grammar.specs.Expressions.{product_operator, sum_operator, relation_operator, sign_of, proceeds, operation_of, chain_from, term_of, signed_term, simple_of, expression_of, expressions_from, index_of, indices_from, begins_selector, field_of, indexed_of, selector_by, selector_of, designator_of, arguments_of, optional_arguments_of, call_or_part, named_of, parenthesized_of, not_of, factor_by, factor_of, inner_at, factor_at, expression_at}
use Rattle.cp_model_grammar.specs.Laws.{ExpressionsAreSound}
use Rattle.cp_model_grammar.proofs.Tokens.{head, head_symbol, is_symbol_refl}
use Rattle.cp_model_grammar.proofs.NamesSound.{identifier_sound}
use Rattle.cp_model_grammar.proofs.Ensures.{Ensures, Sound, ensures_then, ensures_weaker, expect_sound, SoundInner, inside_sound, repeat_sound, separated_sound, each_sound}
use Rattle.cp_model_grammar.proofs.OperatorsSound.{IsFactor, IsSimple, IsTerm, Table, factor_is_term, product_table, relation_kind, relation_sides, sign_kind, sum_table, term_is_simple}

-- ---- chains

pub chain_push : (e : s.Expression) (os : List s.Operation) (o : s.Operation)
    → chain_of e (os ++ o ∷ []) ≡ s.Binary (chain_of e os) o.operator o.at o.operand
chain_push e [] o = refl
chain_push e (x ∷ os) o = chain_push (s.Binary e x.operator x.at x.operand) os o

module _ (room : ℕ) (operators : Option Kind → Option Operator) (class : Operator → Bool) (L R : s.Expression → Type 0)
    (table : Table operators class L R)
    (operand : Reader s.Expression) (ok : (ts : List Token) → Ensures (operand ts) (λ e rest. expression room e ts rest × R e)) where
  -- an operator of the class, and an operand after it
  abbrev OperationAt : List Token → s.Operation → List Token → Type 0
  OperationAt ts o rest = (class o.operator ≡ true) × symbol_at (operator_symbol o.operator) o.at ts (tail ts)
      × expression room o.operand (tail ts) rest × R o.operand

  operation_sound : (ts : List Token) → Ensures (operation_of operators operand ts) (λ o rest. OperationAt ts o rest)
  unfolding operation_of
  operation_sound ts = go (operators (kind_at ts)) refl
    where
      go : (o : Option Operator) → operators (kind_at ts) ≡ o
          → Ensures (if_some o refuse (λ o. take_token >>= λ at. operand >>= λ e. pure (record { operator = o; at = at; operand = e })) ts)
          (λ o rest. OperationAt ts o rest)
      go None e = tt
      go (Some o) e =
          let k = table.kind (kind_at ts) o e in
          ensures_then (operand (tail ts)) (λ b. pure (record { operator = o; at = place_at ts; operand = b }))
          (λ b rest. expression room b (tail ts) rest × R b) _ (ok (tail ts))
          (λ b rest g. (k.1, head ts (kind.Symbol (operator_symbol o)) k.0, g.0, g.1))

  chain_sound : (start ts : List Token) (e : s.Expression) → expression room e start ts → L e
      → Ensures (chain_from operators operand e ts) (λ x rest. expression room x start rest × L x)
  unfolding chain_from
  chain_sound start ts e h l =
      ensures_then (repeat_while (proceeds operators operand) (operation_of operators operand) [] ts) (λ os. pure (chain_of e os))
      (λ os rest. expression room (chain_of e os) start rest × L (chain_of e os)) _
      (repeat_sound (proceeds operators operand) (operation_of operators operand)
      (λ os rest. expression room (chain_of e os) start rest × L (chain_of e os))
      (λ os at g c. ensures_weaker (operation_of operators operand at) (λ o rest. OperationAt at o rest) _ (operation_sound at)
      (λ o rest one. rw (chain_push e os o) (
        (table.left o.operator (chain_of e os) one.0 g.1, (table.right o.operator o.operand one.0 one.3, (at, g.0, (tail at, one.1, one.2)))),
        table.makes o.operator (chain_of e os) o.at o.operand one.0,
      )))
      (length ts) [] ts (h, l))
      (λ os rest g. g)

-- ---- from terms to expressions

-- the reader f of factors is sound if this many levels may be opened
abbrev pub SoundFactor : ℕ → Reader s.Expression → Type 0
SoundFactor room f = (ts : List Token) → Ensures (f ts) (λ e rest. expression room e ts rest × IsFactor e)

module _ (room : ℕ) (f : Reader s.Expression) (ok : SoundFactor room f) where
  term_sound : (ts : List Token) → Ensures (term_of f ts) (λ e rest. expression room e ts rest × IsTerm e)
  unfolding term_of
  term_sound ts = ensures_then (f ts) (chain_from product_operator f) _ _ (ok ts)
      (λ e mid h. chain_sound room product_operator is_product IsTerm IsFactor product_table f ok ts mid e h.0 (factor_is_term e h.1))

  signed_sound : (ts : List Token) (x : Option Sign) → sign_of (kind_at ts) ≡ x
      → Ensures (signed_term f x ts) (λ e rest. expression room e ts rest × IsSimple e)
  unfolding signed_term
  signed_sound ts None h = ensures_weaker (term_of f ts) _ _ (term_sound ts) (λ e rest g. (g.0, term_is_simple e g.1))
  signed_sound ts (Some x) h = ensures_then (term_of f (tail ts)) (λ e. pure (s.Signed x (place_at ts) e)) _ _ (term_sound (tail ts))
      (λ e mid g. ((g.1, (tail ts, head ts (kind.Symbol (sign_symbol x)) (sign_kind (kind_at ts) x h), g.0)), refl))

  simple_sound : (ts : List Token) → Ensures (simple_of f ts) (λ e rest. expression room e ts rest × IsSimple e)
  unfolding simple_of
  simple_sound ts = ensures_then (signed_term f (sign_of (kind_at ts)) ts) (chain_from sum_operator (term_of f)) _ _
      (signed_sound ts (sign_of (kind_at ts)) refl)
      (λ e mid h. chain_sound room sum_operator is_sum IsSimple IsTerm sum_table (term_of f) term_sound ts mid e h.0 h.1)

  relation_sound : (ts mid : List Token) (a : s.Expression) (o : Option Operator) → relation_operator (kind_at mid) ≡ o → expression room a ts mid
      → IsSimple a
      → Ensures (if_some o (pure a) (λ o. take_token >>= λ at. simple_of f >>= λ b. pure (s.Binary a o at b)) mid)
      (λ e rest. expression room e ts rest)
  relation_sound ts mid a None e h x = h
  relation_sound ts mid a (Some o) e h x =
      let k = relation_kind (kind_at mid) o e in
      ensures_then (simple_of f (tail mid)) (λ b. pure (s.Binary a o (place_at mid) b)) _ _ (simple_sound (tail mid))
      (λ b rest g. let sides = relation_sides o a b k.1 x g.1 in
      (sides.0, (sides.1, (mid, h, (tail mid, head mid (kind.Symbol (operator_symbol o)) k.0, g.0)))))

  pub expression_of_sound : Sound (expression_of f) (expression room)
  unfolding expression_of
  expression_of_sound ts = ensures_then (simple_of f ts) _ _ _ (simple_sound ts)
      (λ a mid h. relation_sound ts mid a (relation_operator (kind_at mid)) refl h.0 h.1)

-- ---- lists

pub behind_expressions : (room : ℕ) (es : List s.Expression) (ts rest : List Token) → each_behind symbol.Comma (expression room) es ts rest
    → more_expressions room (expressions_of es) ts rest
behind_expressions room [] ts rest h = h
behind_expressions room (e ∷ es) ts rest h = (h.0, h.1, (h.2.0, h.2.1, behind_expressions room es h.2.0 rest h.2.2))

pub separated_expressions : (room : ℕ) (es : List s.Expression) (ts rest : List Token) → separated_list symbol.Comma (expression room) es ts rest
    → expressions room (expressions_of es) ts rest
separated_expressions room [] ts rest h = h
separated_expressions room (e ∷ es) ts rest h = (h.0, h.1, behind_expressions room es h.0 rest h.2)

pub each_selector : (room : ℕ) (xs : List s.Selector) (ts rest : List Token) → each (selector room) xs ts rest → selectors room (selectors_of xs) ts rest
each_selector room [] ts rest h = h
each_selector room (x ∷ xs) ts rest h = (h.0, h.1, each_selector room xs h.0 rest h.2)

more_push : (room : ℕ) (is : List PlacedIndex) (i : PlacedIndex) (ts mid next rest : List Token) → more_indices room (indices_of is) ts mid
    → symbol_at symbol.Comma i.at mid next → expression room i.value next rest → more_indices room (indices_of (is ++ i ∷ [])) ts rest
more_push room [] i ts mid next rest h c e = (next, subst (λ (t : List Token). symbol_at symbol.Comma i.at t next) (sym h) c, (rest, e, refl))
more_push room (x ∷ xs) i ts mid next rest h c e = (h.0, h.1, (h.2.0, h.2.1, more_push room xs i h.2.0 mid next rest h.2.2 c e))

pub indices_push : (room : ℕ) (is : List PlacedIndex) (i : PlacedIndex) (ts mid next rest : List Token) → indices room (indices_of is) ts mid
    → symbol_at symbol.Comma i.at mid next → expression room i.value next rest → indices room (indices_of (is ++ i ∷ [])) ts rest
indices_push room [] i ts mid next rest h c e = absurd h
indices_push room (x ∷ xs) i ts mid next rest h c e = (h.0, h.1, (h.2.0, h.2.1, more_push room xs i h.2.0 mid next rest h.2.2 c e))

module _ (room : ℕ) (f : Reader s.Expression) (ok : SoundFactor room f) where
  pub expressions_sound : (ts : List Token) → Ensures (expressions_from f ts) (λ es rest. expressions room (expressions_of es) ts rest)
  unfolding expressions_from
  expressions_sound ts = ensures_weaker _ _ _ (separated_sound (expression room) symbol.Comma (expression_of f) (expression_of_sound room f ok) ts)
      (λ es rest h. separated_expressions room es ts rest h)

  -- an index after this symbol
  abbrev IndexAt : Symbol → PlacedIndex → List Token → List Token → Type 0
  IndexAt x i ts rest = symbol_at x i.at ts (tail ts) × expression room i.value (tail ts) rest

  index_sound : (x : Symbol) (ts : List Token) → is_symbol x (kind_at ts) ≡ true → Ensures (index_of f ts) (λ i rest. IndexAt x i ts rest)
  unfolding index_of
  index_sound x ts k = ensures_then (expression_of f (tail ts)) (λ e. pure (record { at = place_at ts; value = e }))
      (λ e rest. expression room e (tail ts) rest) _ (expression_of_sound room f ok (tail ts))
      (λ e rest h. (head_symbol ts x k, h))

  indices_sound : (ts : List Token) → is_symbol symbol.OpenBracket (kind_at ts) ≡ true
      → Ensures (indices_from f ts) (λ is rest. indices room (indices_of is) ts rest)
  unfolding indices_from
  indices_sound ts k = ensures_then (index_of f ts) (λ i. repeat_while (is_symbol symbol.Comma) (index_of f) (i ∷ [])) _ _
      (index_sound symbol.OpenBracket ts k)
      (λ i mid h. repeat_sound (is_symbol symbol.Comma) (index_of f) (λ is rest. indices room (indices_of is) ts rest)
      (λ is at g c. ensures_weaker (index_of f at) (λ i rest. IndexAt symbol.Comma i at rest) _ (index_sound symbol.Comma at c)
      (λ i rest one. indices_push room is i ts at (tail at) rest g one.0 one.1))
      (length mid) (i ∷ []) mid (tail ts, h.0, (mid, h.1, refl)))

-- ---- what opens a level

module _ (room : ℕ) (inner : Option (Reader s.Expression)) (ok : SoundInner SoundFactor room inner) where
  indexed_sound : (ts : List Token) → is_symbol symbol.OpenBracket (kind_at ts) ≡ true
      → Ensures (indexed_of inner ts) (λ x rest. selector room x ts rest)
  unfolding indexed_of
  indexed_sound ts k = inside_sound SoundFactor (λ room x rest. selector room x ts rest) _ ts (λ room f ok.
      ensures_then _ _ _ _ (indices_sound room f ok ts k) (λ is mid h.
      ensures_then _ _ _ _ (expect_sound symbol.CloseBracket mid)
      (λ at rest c. let made : selector (suc room) (s.Indexed (indices_of is)) ts rest = (mid, h, (at, c)) in made))) room inner ok

  pub arguments_sound : (ts : List Token) → is_symbol symbol.OpenParenthesis (kind_at ts) ≡ true
      → Ensures (arguments_of inner ts) (λ es rest. opens room
      (λ r. symbol symbol.OpenParenthesis ⋅ expressions r (expressions_of es) ⋅ symbol symbol.CloseParenthesis) ts rest)
  unfolding arguments_of
  arguments_sound ts k = inside_sound SoundFactor
      (λ room es rest. opens room (λ r. symbol symbol.OpenParenthesis ⋅ expressions r
      (expressions_of es) ⋅ symbol symbol.CloseParenthesis) ts rest) _ ts (λ room f ok.
      ensures_then _ _ _ _ (expressions_sound room f ok (tail ts)) (λ es mid h.
      ensures_then _ _ _ _ (expect_sound symbol.CloseParenthesis mid) (λ at rest c.
      let made : (symbol symbol.OpenParenthesis ⋅ expressions room (expressions_of es) ⋅ symbol symbol.CloseParenthesis) ts rest =
      (tail ts, (place_at ts, head_symbol ts symbol.OpenParenthesis k), (mid, h, (at, c))) in made))) room inner ok

  parenthesized_sound : (ts : List Token) → kind_at ts ≡ Some (kind.Symbol symbol.OpenParenthesis)
      → Ensures (parenthesized_of inner ts) (λ e rest. expression room e ts rest × IsFactor e)
  unfolding parenthesized_of
  parenthesized_sound ts k = inside_sound SoundFactor (λ room e rest. expression room e ts rest × IsFactor e) _ ts (λ room f ok.
      ensures_then _ _ _ _ (expression_of_sound room f ok (tail ts)) (λ e mid h.
      ensures_then _ _ _ _ (expect_sound symbol.CloseParenthesis mid)
      (λ at rest c. let made : expression (suc room) (s.Parenthesized (place_at ts) e) ts rest × IsFactor (s.Parenthesized (place_at ts) e) =
      ((tail ts, head ts (kind.Symbol symbol.OpenParenthesis) k, (mid, h, (at, c))), refl) in made))) room inner ok

  not_sound : (ts : List Token) → kind_at ts ≡ Some (kind.Symbol symbol.Not)
      → Ensures (not_of inner ts) (λ e rest. expression room e ts rest × IsFactor e)
  unfolding not_of
  not_sound ts k = inside_sound SoundFactor (λ room e rest. expression room e ts rest × IsFactor e) _ ts (λ room f ok.
      ensures_then _ _ (λ e rest. expression room e (tail ts) rest × IsFactor e) _ (ok (tail ts)) (λ e rest h.
      let made : expression (suc room) (s.Not (place_at ts) e) ts rest × IsFactor (s.Not (place_at ts) e) =
      ((h.1, (tail ts, head ts (kind.Symbol symbol.Not) k, h.0)), refl) in made)) room inner ok

  -- ---- designators and factors

  field_sound : (ts : List Token) → is_symbol symbol.Dot (kind_at ts) ≡ true → Ensures (field_of inner ts) (λ x rest. selector room x ts rest)
  unfolding field_of
  field_sound ts k = ensures_then _ _ _ _ (identifier_sound (tail ts))
      (λ x rest h. let made : selector room (s.Field (place_at ts) x) ts rest = (tail ts, head_symbol ts symbol.Dot k, h) in made)

  selector_by_sound : (ts : List Token) (k : Option Kind) → kind_at ts ≡ k → Ensures (selector_by inner k ts) (λ x rest. selector room x ts rest)
  unfolding selector_by
  selector_by_sound ts (Some (kind.Symbol symbol.Dot)) k = field_sound ts (rw k (is_symbol_refl symbol.Dot))
  selector_by_sound ts (Some (kind.Symbol symbol.OpenBracket)) k = indexed_sound ts (rw k (is_symbol_refl symbol.OpenBracket))
  selector_by_sound ts _ k = tt

  selectors_sound : (ts : List Token) → Ensures (repeat_while begins_selector (selector_of inner) [] ts)
      (λ xs rest. selectors room (selectors_of xs) ts rest)
  unfolding selector_of
  selectors_sound ts = ensures_weaker _ _ _ (each_sound (selector room) begins_selector (selector_of inner)
      (λ at c. selector_by_sound at (kind_at at) refl) ts)
      (λ xs rest h. each_selector room xs ts rest h)

  pub designator_sound : Sound (designator_of inner) (designator room)
  unfolding designator_of
  designator_sound ts = ensures_then _ _ _ _ (identifier_sound ts) (λ x mid h. ensures_then _ _ _ _ (selectors_sound mid) (λ xs rest g.
      let made : designator room (s.Designate x (selectors_of xs)) ts rest = (mid, h, g) in made))

  pub optional_arguments_sound : (ts : List Token) → Ensures (optional_arguments_of inner ts) (λ es rest. arguments room (expressions_of es) ts rest)
  unfolding optional_arguments_of
  optional_arguments_sound ts = go (is_symbol symbol.OpenParenthesis (kind_at ts)) refl
    where
      some_arguments : (room : ℕ) (es : List s.Expression) (rest : List Token)
          → opens room (λ r. symbol symbol.OpenParenthesis ⋅ expressions r (expressions_of es) ⋅ symbol symbol.CloseParenthesis) ts rest
          → arguments room (expressions_of es) ts rest
      some_arguments zero [] rest h = absurd h
      some_arguments (suc room) [] rest h = absurd h.2.1
      some_arguments room (e ∷ es) rest h = h

      go : (b : Bool) → is_symbol symbol.OpenParenthesis (kind_at ts) ≡ b
          → Ensures (cond b (arguments_of inner) (pure []) ts) (λ es rest. arguments room (expressions_of es) ts rest)
      go true e = ensures_weaker _ _ _ (arguments_sound ts e) (λ es rest h. some_arguments room es rest h)
      go false e = refl

  call_sound : (d : s.Designator) (ts mid : List Token) (b : Bool) → is_symbol symbol.OpenParenthesis (kind_at mid) ≡ b → designator room d ts mid
      → Ensures (call_or_part inner d b mid) (λ e rest. expression room e ts rest × IsFactor e)
  unfolding call_or_part
  call_sound d ts mid false k h = (h, refl)
  call_sound d ts mid true k h = ensures_then _ _ _ _ (arguments_sound mid k) (λ es rest g.
      let made : expression room (s.Call d (expressions_of es)) ts rest × IsFactor (s.Call d (expressions_of es)) = ((mid, h, g), refl) in made)

  named_sound : (ts : List Token) → Ensures (named_of inner ts) (λ e rest. expression room e ts rest × IsFactor e)
  unfolding named_of
  named_sound ts = ensures_then _ _ _ _ (designator_sound ts) (λ d mid h. call_sound d ts mid (is_symbol symbol.OpenParenthesis (kind_at mid)) refl h)

  factor_by_sound : (ts : List Token) (k : Option Kind) → kind_at ts ≡ k
      → Ensures (factor_by inner k ts) (λ e rest. expression room e ts rest × IsFactor e)
  unfolding factor_by
  factor_by_sound ts (Some (kind.Number value)) k = (head ts (kind.Number value) k, refl)
  factor_by_sound ts (Some (kind.Character ordinal)) k = (head ts (kind.Character ordinal) k, refl)
  factor_by_sound ts (Some (kind.Name name)) k = named_sound ts
  factor_by_sound ts (Some (kind.Symbol symbol.OpenParenthesis)) k = parenthesized_sound ts k
  factor_by_sound ts (Some (kind.Symbol symbol.Not)) k = not_sound ts k
  factor_by_sound ts _ k = tt

  pub factor_of_sound : SoundFactor room (factor_of inner)
  unfolding factor_of
  factor_of_sound ts = factor_by_sound ts (kind_at ts) refl

pub inner_sound : (room : ℕ) → SoundInner SoundFactor room (inner_at room)
unfolding inner_at
inner_sound zero = tt
inner_sound (suc room) = factor_of_sound room (inner_at room) (inner_sound room)

pub factor_sound : (room : ℕ) → SoundFactor room (factor_at room)
factor_sound room = factor_of_sound room (inner_at room) (inner_sound room)

pub expression_sound : (room : ℕ) → Sound (expression_at room) (expression room)
expression_sound room = expression_of_sound room (factor_at room) (factor_sound room)

pub expressions_are_sound : ExpressionsAreSound
expressions_are_sound room ts rest e h = rw h at (expression_sound room ts)
