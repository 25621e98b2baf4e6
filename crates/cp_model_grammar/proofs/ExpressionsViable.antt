-- A partly read expression can be completed.
use Rattle.std.proofs.Common.{◌≡◌, ℕ, zero, suc, Bool, true, false, cond, List, [], ◌∷◌, ◌++◌, Option, Some, None, Ok, Err, refl, sym, ◌∙◌}
use Rattle.cp_model.specs.Languages.{Language, symbol, symbol_at, ◌⋅◌, opens}
use Rattle.cp_model.specs.Syntax as s
use Rattle.cp_model.specs.Syntax.{chain_of}
use Rattle.cp_model.specs.View.{PlacedIndex, expressions_of, selectors_of, indices_of}
use Rattle.cp_model.specs.GrammarExpressions.{is_product, is_sum, operator_symbol, sign_symbol, expression, expressions, designator, selector, indices, arguments}
use Rattle.cp_model.specs.Tokens.{Token}
use Rattle.cp_model.specs.Tokens.{Kind}
use Rattle.cp_model.specs.Tokens as kind
use Rattle.cp_model.specs.declared.token.Symbol.{Symbol}
use Rattle.cp_model.specs.declared.token.Symbol.TheVariants as symbol
use Rattle.cp_model.specs.declared.tree.Operator.{Operator}
use Rattle.cp_model.specs.declared.tree.Sign.{Sign}
use Rattle.cp_model_grammar.specs.Kinds.{is_symbol}
use Rattle.cp_model_grammar.specs.Reading.{Outcome, Reader, and_then, ◌>>=◌, pure, refuse, take_token, kind_at, expect, if_some, repeat_while}
use Rattle.cp_model_grammar.specs.Names.{identifier_of}
use Rattle.cp_model_grammar.specs.Expressions.{product_operator, sum_operator, relation_operator, sign_of, proceeds, operation_of, chain_from, term_of, signed_term, simple_of, expression_of, expressions_from, index_of, indices_from, begins_selector, field_of, indexed_of, selector_by, selector_of, designator_of, arguments_of, optional_arguments_of, call_or_part, named_of, parenthesized_of, not_of, factor_by, factor_of, inner_at, factor_at, expression_at}
use Rattle.cp_model_grammar.proofs.Tokens.{is_symbol_is}
use Rattle.cp_model_grammar.proofs.OperatorsSound.{IsFactor, IsTerm, IsSimple, Table, product_table, sum_table, relation_kind, relation_sides, sign_kind, factor_is_term, term_is_simple}
use Rattle.cp_model_grammar.proofs.ExpressionsSound.{chain_push, separated_expressions, each_selector, indices_push}
use Rattle.cp_model_grammar.proofs.Viable.{Inhabited, ViableAt, Viable, Behind, from_start, then, then_at, finish, pure_viable, imply, kind_viable, take_at, symbol_viable, of_kind, expect_viable, ViableInner, DeepOr, inside_or, or_some, or_then, repeated_viable, separated_viable, each_viable}
use Rattle.cp_model_grammar.proofs.NamesViable.{identifier_viable}

-- an expression of a class
abbrev pub Of : ℕ → (s.Expression → Type 0) → s.Expression → Language
Of room P e ts rest = expression room e ts rest × P e

pub some_factor : (room : ℕ) → Inhabited (Of room IsFactor)
some_factor room = (of_kind (kind.Number 0) ∷ [], s.Number 0 0, λ rest. ((0, refl), refl))

-- ---- chains

module _ (room : ℕ) (operators : Option Kind → Option Operator) (class : Operator → Bool) (L R : s.Expression → Type 0)
    (table : Table operators class L R)
    {operand : Reader s.Expression} (v : Viable operand (Of room R)) where
  -- an operator of the class, and an operand after it
  abbrev OperationIs : s.Operation → Language
  OperationIs o ts rest = (class o.operator ≡ true) × (mid : List Token) × symbol_at (operator_symbol o.operator) o.at ts mid
      × expression room o.operand mid rest × R o.operand

  operation_viable : (ts : List Token) → proceeds operators operand (kind_at ts) ≡ true → ViableAt OperationIs (operation_of operators operand ts) ts
  unfolding operation_of
  operation_viable ts go = by (operators (kind_at ts)) refl
    where
      by : (o : Option Operator) → operators (kind_at ts) ≡ o
          → ViableAt OperationIs (if_some o refuse
          (λ o. take_token >>= λ at. operand >>= λ e. pure (record { operator = o; at = at; operand = e })) ts) ts
      by None e = absurd (let none : proceeds operators operand (kind_at ts) ≡ false = rw e refl in let no : true ≡ false = sym go ∙ none in cc)
      by (Some o) e =
          let k = table.kind (kind_at ts) o e in
          take_at OperationIs (kind.Symbol (operator_symbol o)) (λ at. operand >>= λ e. pure (record { operator = o; at = at; operand = e })) ts k.0
          (λ at. finish (λ e. record { operator = o; at = at; operand = e }) v (λ e mid rest h ts t. (k.1, mid, t, h.0, h.1)))

  -- the first operand and the operations after it
  abbrev Chain : s.Expression → List s.Operation → Language
  Chain e os = Of room L (chain_of e os)

  chain_grows : (e : s.Expression) (os : List s.Operation) (o : s.Operation) (ts mid rest : List Token) → Chain e os ts mid → OperationIs o mid rest
      → Chain e (os ++ o ∷ []) ts rest
  chain_grows e os o ts mid rest h l = rw (chain_push e os o) (
    (table.left o.operator (chain_of e os) l.0 h.1, (table.right o.operator o.operand l.0 l.4, (mid, h.0, (l.1, l.2, l.3)))),
    table.makes o.operator (chain_of e os) o.at o.operand l.0,
  )

  chain_viable : (e : s.Expression) → Viable (chain_from operators operand e) (Behind (Of room L) e (Of room L))
  unfolding chain_from
  chain_viable e = finish (λ os. chain_of e os)
      (repeated_viable (proceeds operators operand) (operation_of operators operand) OperationIs (Chain e) (chain_grows e) operation_viable [])
      (λ os mid rest g ts h. g ts h)

-- ---- from terms to lists

abbrev pub ViableFactor : ℕ → Reader s.Expression → Type 0
ViableFactor room f = Viable f (Of room IsFactor)

module _ (room : ℕ) {f : Reader s.Expression} (v : ViableFactor room f) where
  term_viable : Viable (term_of f) (Of room IsTerm)
  unfolding term_of
  term_viable = then v (λ e. imply (Behind (Of room IsFactor) e (Of room IsTerm))
      (chain_viable room product_operator is_product IsTerm IsFactor product_table v e)
      (λ y mid rest g ts h. g ts (h.0, factor_is_term e h.1)))

  term_as_simple : Viable (term_of f) (Of room IsSimple)
  term_as_simple = imply (Of room IsSimple) term_viable (λ e ts rest h. (h.0, term_is_simple e h.1))

  signed_viable : (ts : List Token) (x : Option Sign) → sign_of (kind_at ts) ≡ x → ViableAt (Of room IsSimple) (signed_term f x ts) ts
  unfolding signed_term
  signed_viable ts None e = term_as_simple.at ts
  signed_viable ts (Some x) e = take_at (Of room IsSimple) (kind.Symbol (sign_symbol x)) (λ at. term_of f >>= λ e. pure (s.Signed x at e)) ts
      (sign_kind (kind_at ts) x e)
      (λ at. finish (λ e. s.Signed x at e) term_viable (λ e mid rest h ts t. ((h.1, (mid, t, h.0)), refl)))

  simple_viable : Viable (simple_of f) (Of room IsSimple)
  unfolding simple_of
  simple_viable = then (kind_viable (λ k. signed_term f (sign_of k)) term_as_simple.some
      (λ ts k e. rw (sym e) (signed_viable ts (sign_of (kind_at ts)) refl)))
      (λ e. chain_viable room sum_operator is_sum IsSimple IsTerm sum_table term_viable e)

  -- after the first sum
  abbrev Related : s.Expression → s.Expression → Language
  Related a = Behind (Of room IsSimple) a (expression room)

  relation_viable : (a : s.Expression) (ts : List Token) (o : Option Operator) → relation_operator (kind_at ts) ≡ o
      → ViableAt (Related a) (if_some o (pure a) (λ o. take_token >>= λ at. simple_of f >>= λ b. pure (s.Binary a o at b)) ts) ts
  relation_viable a ts None e = ([], refl, λ rest ts h. h.0)
  relation_viable a ts (Some o) e =
      let k = relation_kind (kind_at ts) o e in
      take_at (Related a) (kind.Symbol (operator_symbol o)) (λ at. simple_of f >>= λ b. pure (s.Binary a o at b)) ts k.0
      (λ at. finish (λ b. s.Binary a o at b) simple_viable
      (λ b mid rest g m t ts h. let sides = relation_sides o a b k.1 h.1 g.1 in (sides.0, (sides.1, (m, h.0, (mid, t, g.0))))))

  pub expression_of_viable : Viable (expression_of f) (expression room)
  unfolding expression_of
  expression_of_viable = then simple_viable (λ a. kind_viable
      (λ k. if_some (relation_operator k) (pure a) (λ o. take_token >>= λ at. simple_of f >>= λ b. pure (s.Binary a o at b)))
      ([], a, λ rest ts h. h.0) (λ ts k e. rw (sym e) (relation_viable a ts (relation_operator (kind_at ts)) refl)))

  expressions_viable : Viable (expressions_from f) (λ es. expressions room (expressions_of es))
  unfolding expressions_from
  expressions_viable = imply (λ es. expressions room (expressions_of es)) (separated_viable (expression room) symbol.Comma expression_of_viable)
      (λ es ts rest h. separated_expressions room es ts rest h)

  -- an index after this symbol
  abbrev IndexIs : Symbol → PlacedIndex → Language
  IndexIs x i ts rest = (mid : List Token) × symbol_at x i.at ts mid × expression room i.value mid rest

  index_viable : (x : Symbol) (ts : List Token) → kind_at ts ≡ Some (kind.Symbol x) → ViableAt (IndexIs x) (index_of f ts) ts
  unfolding index_of
  index_viable x ts k = take_at (IndexIs x) (kind.Symbol x) (λ at. expression_of f >>= λ e. pure (record { at = at; value = e })) ts k
      (λ at. finish (λ e. record { at = at; value = e }) expression_of_viable (λ e mid rest h ts t. (mid, t, h)))

  indices_viable : (ts : List Token) → kind_at ts ≡ Some (kind.Symbol symbol.OpenBracket)
      → ViableAt (λ is. indices room (indices_of is)) (indices_from f ts) ts
  unfolding indices_from
  indices_viable ts k = then_at (IndexIs symbol.OpenBracket) (λ is. indices room (indices_of is)) (index_of f ts)
      (λ i. repeat_while (is_symbol symbol.Comma) (index_of f) (i ∷ [])) ts (index_viable symbol.OpenBracket ts k)
      (λ i. imply (Behind (IndexIs symbol.OpenBracket) i (λ is. indices room (indices_of is)))
      (repeated_viable (is_symbol symbol.Comma) (index_of f) (IndexIs symbol.Comma) (λ is. indices room (indices_of is))
      (λ is i ts mid rest h l. indices_push room is i ts mid l.0 rest h l.1 l.2)
      (λ ts e. index_viable symbol.Comma ts (is_symbol_is symbol.Comma (kind_at ts) e)) (i ∷ []))
      (λ is mid rest g ts h. g ts (h.0, h.1, (mid, h.2, refl))))

-- ---- what opens a level

-- arguments between their parentheses
abbrev Called : ℕ → List s.Expression → Language
Called room es = opens room (λ r. symbol symbol.OpenParenthesis ⋅ expressions r (expressions_of es) ⋅ symbol symbol.CloseParenthesis)

called_as_arguments : (room : ℕ) (es : List s.Expression) (ts rest : List Token) → Called room es ts rest → arguments room (expressions_of es) ts rest
called_as_arguments zero [] ts rest h = absurd h
called_as_arguments (suc room) [] ts rest h = absurd h.2.1
called_as_arguments room (e ∷ es) ts rest h = h

some_selector : (room : ℕ) → Inhabited (selector room)
some_selector room = (
  of_kind (kind.Symbol symbol.Dot) ∷ of_kind (kind.Name []) ∷ [],
  s.Field 0 (record { name = []; at = 0 }),
  λ rest. (of_kind (kind.Name []) ∷ rest, (0, refl), (0, refl)),
)

module _ (room : ℕ) (i : Option (Reader s.Expression)) (ok : ViableInner ViableFactor room i) where
  indexed_viable : (ts : List Token) → kind_at ts ≡ Some (kind.Symbol symbol.OpenBracket) → DeepOr (selector room) (indexed_of i ts) ts
  unfolding indexed_of
  indexed_viable ts k = inside_or ViableFactor (λ room. selector room)
      (λ f. indices_from f >>= λ is. expect symbol.CloseBracket >>= λ _. pure (s.Indexed (indices_of is))) ts
      (λ room f v. then_at (λ is. indices room (indices_of is)) (selector (suc room)) (indices_from f ts)
      (λ is. expect symbol.CloseBracket >>= λ _. pure (s.Indexed (indices_of is))) ts (indices_viable room v ts k)
      (λ is. finish (λ _. s.Indexed (indices_of is)) (expect_viable symbol.CloseBracket) (λ at mid rest c ts h. (mid, h, (at, c))))) room i ok

  arguments_viable : (ts : List Token) → kind_at ts ≡ Some (kind.Symbol symbol.OpenParenthesis) → DeepOr (Called room) (arguments_of i ts) ts
  unfolding arguments_of
  arguments_viable ts k = inside_or ViableFactor Called
      (λ f. take_token >>= λ _. expressions_from f >>= λ es. expect symbol.CloseParenthesis >>= λ _. pure es) ts
      (λ room f v. take_at (Called (suc room)) (kind.Symbol symbol.OpenParenthesis)
      (λ _. expressions_from f >>= λ es. expect symbol.CloseParenthesis >>= λ _. pure es) ts k
      (λ at. then (expressions_viable room v) (λ es. finish (λ _. es) (expect_viable symbol.CloseParenthesis)
      (λ place mid rest c m h ts t. (m, (at, t), (mid, h, (place, c))))))) room i ok

  pub optional_arguments_viable : Viable (optional_arguments_of i) (λ es. arguments room (expressions_of es))
  unfolding optional_arguments_of
  optional_arguments_viable = symbol_viable symbol.OpenParenthesis (λ b. cond b (arguments_of i) (pure [])) none
      (λ ts k. then_pure ts (or_then (Called room) (λ es. arguments room (expressions_of es)) (arguments_of i ts) pure ts none (arguments_viable ts k)
      (λ es. pure_viable es (λ mid ts h. called_as_arguments room es ts mid h))))
      (λ ts. ([], refl, λ rest. refl))
    where
      none : Inhabited (λ (es : List s.Expression). arguments room (expressions_of es))
      none = ([], [], λ rest. refl)

      then_pure : (ts : List Token) → ViableAt (λ es. arguments room (expressions_of es)) (and_then (arguments_of i ts) pure) ts
          → ViableAt (λ es. arguments room (expressions_of es)) (arguments_of i ts) ts
      then_pure ts h = go (arguments_of i ts) h
        where
          go : (o : Outcome (List s.Expression)) → ViableAt (λ es. arguments room (expressions_of es)) (and_then o pure) ts
              → ViableAt (λ es. arguments room (expressions_of es)) o ts
          go (Ok x) h = h
          go (Err e) h = h

  parenthesized_viable : (ts : List Token) → kind_at ts ≡ Some (kind.Symbol symbol.OpenParenthesis)
      → ViableAt (Of room IsFactor) (parenthesized_of i ts) ts
  unfolding parenthesized_of
  parenthesized_viable ts k = or_some (Of room IsFactor) _ ts (some_factor room) (inside_or ViableFactor (λ room. Of room IsFactor)
      (λ f. take_token >>= λ at. expression_of f >>= λ e. expect symbol.CloseParenthesis >>= λ _. pure (s.Parenthesized at e)) ts
      (λ room f v. take_at (Of (suc room) IsFactor) (kind.Symbol symbol.OpenParenthesis)
      (λ at. expression_of f >>= λ e. expect symbol.CloseParenthesis >>= λ _. pure (s.Parenthesized at e)) ts k
      (λ at. then (expression_of_viable room v) (λ e. finish (λ _. s.Parenthesized at e) (expect_viable symbol.CloseParenthesis)
      (λ place mid rest c m h ts t. ((m, t, (mid, h, (place, c))), refl))))) room i ok)

  not_viable : (ts : List Token) → kind_at ts ≡ Some (kind.Symbol symbol.Not) → ViableAt (Of room IsFactor) (not_of i ts) ts
  unfolding not_of
  not_viable ts k = or_some (Of room IsFactor) _ ts (some_factor room)
      (inside_or ViableFactor (λ room. Of room IsFactor) (λ f. take_token >>= λ at. f >>= λ e. pure (s.Not at e)) ts
      (λ room f v. take_at (Of (suc room) IsFactor) (kind.Symbol symbol.Not) (λ at. f >>= λ e. pure (s.Not at e)) ts k
      (λ at. finish (λ e. s.Not at e) v (λ e mid rest h ts t. ((h.1, (mid, t, h.0)), refl)))) room i ok)

  -- ---- designators and factors

  selector_by_viable : (ts : List Token) (k : Option Kind) → kind_at ts ≡ k → ViableAt (selector room) (selector_by i k ts) ts
  unfolding selector_by field_of
  selector_by_viable ts (Some (kind.Symbol symbol.Dot)) k =
      take_at (selector room) (kind.Symbol symbol.Dot) (λ at. identifier_of >>= λ name. pure (s.Field at name)) ts k
      (λ at. finish (λ name. s.Field at name) identifier_viable (λ name mid rest h ts t. (mid, t, h)))
  selector_by_viable ts (Some (kind.Symbol symbol.OpenBracket)) k =
      or_some (selector room) (indexed_of i ts) ts (some_selector room) (indexed_viable ts k)
  selector_by_viable ts _ k = from_start (selector room) (some_selector room) ts

  selector_viable : Viable (selector_of i) (selector room)
  unfolding selector_of
  selector_viable = kind_viable (selector_by i) (some_selector room) selector_by_viable

  pub designator_viable : Viable (designator_of i) (designator room)
  unfolding designator_of
  designator_viable = then identifier_viable (λ x. finish (λ xs. s.Designate x (selectors_of xs))
      (each_viable (selector room) begins_selector (selector_of i) (λ ts k. selector_viable.at ts))
      (λ xs mid rest h ts t. (mid, t, each_selector room xs mid rest h)))

  -- after a designator
  abbrev Part : s.Designator → s.Expression → Language
  Part d = Behind (designator room) d (Of room IsFactor)

  some_part : (d : s.Designator) → Inhabited (Part d)
  some_part d = ([], s.Designated d, λ rest ts h. (h, refl))

  named_viable : Viable (named_of i) (Of room IsFactor)
  unfolding named_of call_or_part
  named_viable = then designator_viable (λ d. symbol_viable symbol.OpenParenthesis (call_or_part i d) (some_part d)
      (λ ts k. or_then (Called room) (Part d) (arguments_of i ts) (λ es. pure (s.Call d (expressions_of es))) ts (some_part d) (arguments_viable ts k)
      (λ es. pure_viable (s.Call d (expressions_of es)) (λ mid m h ts t. ((m, t, h), refl))))
      (λ ts. ([], refl, λ rest ts h. (h, refl))))

  factor_by_viable : (ts : List Token) (k : Option Kind) → kind_at ts ≡ k → ViableAt (Of room IsFactor) (factor_by i k ts) ts
  unfolding factor_by
  factor_by_viable ts (Some (kind.Number value)) k =
      take_at (Of room IsFactor) (kind.Number value) (λ at. pure (s.Number at value)) ts k
      (λ at. pure_viable (s.Number at value) (λ mid ts h. (h, refl)))
  factor_by_viable ts (Some (kind.Character ordinal)) k =
      take_at (Of room IsFactor) (kind.Character ordinal) (λ at. pure (s.Character at ordinal)) ts k
      (λ at. pure_viable (s.Character at ordinal) (λ mid ts h. (h, refl)))
  factor_by_viable ts (Some (kind.Name name)) k = named_viable.at ts
  factor_by_viable ts (Some (kind.Symbol symbol.OpenParenthesis)) k = parenthesized_viable ts k
  factor_by_viable ts (Some (kind.Symbol symbol.Not)) k = not_viable ts k
  factor_by_viable ts _ k = from_start (Of room IsFactor) (some_factor room) ts

  pub factor_of_viable : ViableFactor room (factor_of i)
  unfolding factor_of
  factor_of_viable = kind_viable (factor_by i) (some_factor room) factor_by_viable

pub inner_viable : (room : ℕ) → ViableInner ViableFactor room (inner_at room)
unfolding inner_at
inner_viable zero = tt
inner_viable (suc room) = factor_of_viable room (inner_at room) (inner_viable room)

pub factor_viable : (room : ℕ) → ViableFactor room (factor_at room)
factor_viable room = factor_of_viable room (inner_at room) (inner_viable room)

pub expression_viable : (room : ℕ) → Viable (expression_at room) (expression room)
expression_viable room = expression_of_viable room (factor_viable room)
