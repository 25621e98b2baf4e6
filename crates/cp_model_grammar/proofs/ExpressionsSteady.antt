-- Expressions are read steadily.
use Rattle.std.proofs.Common.{◌≡◌, ℕ, suc, ◌<◌, cond, List, [], ◌∷◌, ◌++◌, length, Option, Some, None, refl, sym, ap, ◌∙◌, append_assoc, arith, length-append}
use Rattle.std.proofs.lemmas.List.{append-nil}
use Rattle.cp_model.specs.Syntax as s
use Rattle.cp_model.specs.Syntax.{chain_of}
use Rattle.cp_model.specs.View.{PlacedIndex, expressions_of, selectors_of, indices_of}
use Rattle.cp_model.specs.Levels.{each_levels, behind_levels, separated_levels, expression_levels, expressions_levels, more_expressions_levels, designator_levels, selectors_levels, selector_levels, indices_levels, more_indices_levels, arguments_levels}
use Rattle.cp_model.specs.Tokens.{Kind}
use Rattle.cp_model.specs.Tokens as kind
use Rattle.cp_model.specs.declared.token.Symbol.TheVariants as symbol
use Rattle.cp_model.specs.declared.tree.Operator.{Operator}
use Rattle.cp_model.specs.declared.tree.Sign.{Sign}
use Rattle.cp_model_grammar.specs.Kinds.{is_symbol}
use Rattle.cp_model_grammar.specs.Reading.{Reader, ◌>>=◌, pure, take_token, refuse, expect, if_some, repeat_while}
use Rattle.cp_model_grammar.specs.Expressions.{product_operator, sum_operator, relation_operator, sign_of, proceeds, operation_of, chain_from, term_of, signed_term, simple_of, expression_of, expressions_from, index_of, indices_from, begins_selector, field_of, indexed_of, selector_by, selector_of, designator_of, arguments_of, optional_arguments_of, call_or_part, named_of, parenthesized_of, not_of, factor_by, factor_of}
use Rattle.cp_model_grammar.proofs.Tokens.{no_symbol}
use Rattle.cp_model_grammar.proofs.Steady.{Cut, Mode, Anywhere, Before, start_of, Steady, Has, imply, before, then, then_any, finish, pure_steady, refuse_steady, take_steady, kind_steady, symbol_steady, if_some_steady, expect_steady, SteadyInner, opening_steady}
use Rattle.cp_model_grammar.proofs.SteadyLists.{repeated_steady, each_steady, SeparatedHas, separated_some}
use Rattle.cp_model_grammar.proofs.NamesSteady.{identifier_steady}

-- ---- levels of sequences

abbrev operation_levels : ℕ → s.Operation → List ℕ
operation_levels depth o = 0 ∷ expression_levels depth o.operand

chain_levels : (depth : ℕ) (e : s.Expression) (os : List s.Operation)
    → expression_levels depth (chain_of e os) ≡ expression_levels depth e ++ each_levels (operation_levels depth) os
chain_levels depth e [] = sym (append-nil (expression_levels depth e))
chain_levels depth e (o ∷ os) =
    chain_levels depth (s.Binary e o.operator o.at o.operand) os
    ∙ append_assoc (expression_levels depth e) (0 ∷ expression_levels depth o.operand) (each_levels (operation_levels depth) os)

more_are_behind : (depth : ℕ) (es : List s.Expression)
    → more_expressions_levels depth (expressions_of es) ≡ behind_levels (expression_levels depth) es
more_are_behind depth [] = refl
more_are_behind depth (e ∷ es) = ap (λ (l : List ℕ). 0 ∷ expression_levels depth e ++ l) (more_are_behind depth es)

expressions_are_separated : (depth : ℕ) (es : List s.Expression)
    → expressions_levels depth (expressions_of es) ≡ separated_levels (expression_levels depth) es
expressions_are_separated depth [] = refl
expressions_are_separated depth (e ∷ es) = ap (λ (l : List ℕ). expression_levels depth e ++ l) (more_are_behind depth es)

selectors_are_each : (depth : ℕ) (xs : List s.Selector) → selectors_levels depth (selectors_of xs) ≡ each_levels (selector_levels depth) xs
selectors_are_each depth [] = refl
selectors_are_each depth (x ∷ xs) = ap (λ (l : List ℕ). selector_levels depth x ++ l) (selectors_are_each depth xs)

abbrev index_levels : ℕ → PlacedIndex → List ℕ
index_levels depth i = 0 ∷ expression_levels depth i.value

more_push : (depth : ℕ) (is : List PlacedIndex) (i : PlacedIndex)
    → more_indices_levels depth (indices_of (is ++ i ∷ [])) ≡ more_indices_levels depth (indices_of is) ++ index_levels depth i
more_push depth [] i = ap (λ (l : List ℕ). 0 ∷ l) (append-nil (expression_levels depth i.value))
more_push depth (x ∷ xs) i =
    ap (λ (l : List ℕ). 0 ∷ expression_levels depth x.value ++ l) (more_push depth xs i)
    ∙ ap (λ (l : List ℕ). 0 ∷ l) (sym (append_assoc (expression_levels depth x.value) (more_indices_levels depth (indices_of xs))
    (index_levels depth i)))

-- the levels after the `[`
abbrev IndicesHave : ℕ → List PlacedIndex → List ℕ → Type 0
IndicesHave depth [] l = ⊥
IndicesHave depth (i ∷ is) l = (suc depth ∷ l) ≡ indices_levels depth (indices_of (i ∷ is))

indices_grow : (depth : ℕ) (is : List PlacedIndex) (l : List ℕ) (i : PlacedIndex) → IndicesHave depth is l
    → IndicesHave depth (is ++ i ∷ []) (l ++ index_levels (suc depth) i)
indices_grow depth [] l i h = absurd h
indices_grow depth (x ∷ xs) l i h =
    ap (λ (l : List ℕ). l ++ index_levels (suc depth) i) h
    ∙ ap (λ (l : List ℕ). suc depth ∷ l) (append_assoc (expression_levels (suc depth) x.value) (more_indices_levels (suc depth) (indices_of xs))
    (index_levels (suc depth) i)
    ∙ ap (λ (l : List ℕ). expression_levels (suc depth) x.value ++ l) (sym (more_push (suc depth) xs i)))

some_selector : (depth : ℕ) (x : s.Selector) → 0 < length (selector_levels depth x)
some_selector depth (s.Field at name) = omega arith
some_selector depth (s.Indexed is) = omega (arith, length-append (indices_levels depth is) (0 ∷ []))

-- ---- expressions

-- two readers of expressions
abbrev pub Related : Cut → Mode → ℕ → Reader s.Expression → Reader s.Expression → Type 0
Related c m depth f f' = Steady c m Anywhere (Has (expression_levels depth)) f f'

module _ {c : Cut} {m : Mode} (depth : ℕ) {f f' : Reader s.Expression} (r : Related c m depth f f') where
  operation_steady : (operators : Option Kind → Option Operator) → operators None ≡ None → {p p' : Reader s.Expression} → Related c m depth p p'
      → Steady c m Anywhere (Has (operation_levels depth)) (operation_of operators p) (operation_of operators p')
  unfolding operation_of
  operation_steady operators none {p} {p'} s = kind_steady by
    where
      by : (k : Option Kind) → Steady c m (start_of k) (Has (operation_levels depth))
          (if_some (operators k) refuse (λ o. take_token >>= λ at. p >>= λ e. pure (record { operator = o; at = at; operand = e })))
          (if_some (operators k) refuse (λ o. take_token >>= λ at. p' >>= λ e. pure (record { operator = o; at = at; operand = e })))
      by None = rw none refuse_steady
      by (Some k) = if_some_steady (operators (Some k)) refuse_steady
          (λ o. then (take_steady 0) (λ at. finish (λ e. record { operator = o; at = at; operand = e }) s (λ e. refl)))

  chain_steady : (operators : Option Kind → Option Operator) → operators None ≡ None → {p p' : Reader s.Expression} → Related c m depth p p'
      → (e : s.Expression)
      → Steady c m Anywhere (λ x l. (expression_levels depth e ++ l) ≡ expression_levels depth x) (chain_from operators p e)
      (chain_from operators p' e)
  unfolding chain_from
  chain_steady operators none {p} {p'} s e = finish (λ os. chain_of e os)
      (each_steady (operation_levels depth) (proceeds operators p) (rw none refl) (λ o. omega arith) (before (operation_steady operators none s)))
      (λ os. sym (chain_levels depth e os))

  term_steady : Related c m depth (term_of f) (term_of f')
  unfolding term_of
  term_steady = then r (λ e. chain_steady product_operator refl r e)

  signed_by_steady : (x : Option Sign) → Steady c m Before (Has (expression_levels depth)) (signed_term f x) (signed_term f' x)
  unfolding signed_term
  signed_by_steady None = before term_steady
  signed_by_steady (Some x) = then (take_steady 0) (λ at. finish (λ e. s.Signed x at e) term_steady (λ e. refl))

  signed_steady : (k : Option Kind) → Steady c m (start_of k) (Has (expression_levels depth)) (signed_term f (sign_of k)) (signed_term f' (sign_of k))
  unfolding signed_term
  signed_steady None = term_steady
  signed_steady (Some k) = signed_by_steady (sign_of (Some k))

  simple_steady : Related c m depth (simple_of f) (simple_of f')
  unfolding simple_of
  simple_steady = then (kind_steady signed_steady) (λ e. chain_steady sum_operator refl term_steady e)

  relation_steady : (a : s.Expression) (k : Option Kind)
      → Steady c m (start_of k) (λ x l. (expression_levels depth a ++ l) ≡ expression_levels depth x)
      (if_some (relation_operator k) (pure a) (λ o. take_token >>= λ at. simple_of f >>= λ b. pure (s.Binary a o at b)))
      (if_some (relation_operator k) (pure a) (λ o. take_token >>= λ at. simple_of f' >>= λ b. pure (s.Binary a o at b)))
  relation_steady a None = pure_steady a (append-nil (expression_levels depth a))
  relation_steady a (Some k) = if_some_steady (relation_operator (Some k)) (before (pure_steady a (append-nil (expression_levels depth a))))
      (λ o. then (take_steady 0) (λ at. finish (λ b. s.Binary a o at b) simple_steady (λ b. refl)))

  pub expression_of_steady : Related c m depth (expression_of f) (expression_of f')
  unfolding expression_of
  expression_of_steady = then simple_steady (λ a. kind_steady (relation_steady a))

  expressions_steady : Steady c m Anywhere (SeparatedHas (expression_levels depth)) (expressions_from f) (expressions_from f')
  unfolding expressions_from
  expressions_steady = separated_some (expression_levels depth) symbol.Comma expression_of_steady

  index_steady : Steady c m Before (Has (index_levels depth)) (index_of f) (index_of f')
  unfolding index_of
  index_steady = then (take_steady 0) (λ at. finish (λ e. record { at = at; value = e }) expression_of_steady (λ e. refl))

-- ---- what opens a level

-- arguments between their parentheses: at least one
abbrev Called : ℕ → List s.Expression → List ℕ → Type 0
Called depth [] l = ⊥
Called depth (e ∷ es) l = l ≡ suc depth ∷ expressions_levels (suc depth) (expressions_of (e ∷ es)) ++ 0 ∷ []

called : (depth : ℕ) (es : List s.Expression) (l : List ℕ) → SeparatedHas (expression_levels (suc depth)) es l
    → Called depth es (suc depth ∷ l ++ 0 ∷ [])
called depth [] l h = absurd h
called depth (e ∷ es) l h = ap (λ (l : List ℕ). suc depth ∷ l ++ 0 ∷ []) (h ∙ sym (expressions_are_separated (suc depth) (e ∷ es)))

called_in : (depth : ℕ) (d : s.Designator) (es : List s.Expression) (l : List ℕ) → Called depth es l
    → (designator_levels depth d ++ l) ≡ expression_levels depth (s.Call d (expressions_of es))
called_in depth d [] l h = absurd h
called_in depth d (e ∷ es) l h = ap (λ (l : List ℕ). designator_levels depth d ++ l) h

called_as_arguments : (depth : ℕ) (es : List s.Expression) (l : List ℕ) → Called depth es l → l ≡ arguments_levels depth (expressions_of es)
called_as_arguments depth [] l h = absurd h
called_as_arguments depth (e ∷ es) l h = h

indexed_has : (depth : ℕ) (is : List PlacedIndex) (l : List ℕ) → IndicesHave depth is l
    → (suc depth ∷ l ++ 0 ∷ []) ≡ selector_levels depth (s.Indexed (indices_of is))
indexed_has depth [] l h = absurd h
indexed_has depth (i ∷ is) l h = ap (λ (l : List ℕ). l ++ 0 ∷ []) h

module _ {c : Cut} (m : Mode) (depth : ℕ) (i i' : Option (Reader s.Expression)) (r : SteadyInner c (Related c) m depth i i') where
  indices_behind : (m : Mode) (f f' : Reader s.Expression) → Related c m (suc depth) f f' → (at : ℕ)
      → Steady c m Anywhere (IndicesHave depth) ((expression_of f >>= λ e. pure (record { at = at; value = e })) >>= λ i. repeat_while
      (is_symbol symbol.Comma) (index_of f) (i ∷ []))
      ((expression_of f' >>= λ e. pure (record { at = at; value = e })) >>= λ i. repeat_while (is_symbol symbol.Comma) (index_of f') (i ∷ []))
  indices_behind m f f' r at =
      then {g = λ i. expression_levels (suc depth) i.value}
      (finish (λ e. record { at = at; value = e }) (expression_of_steady (suc depth) r) (λ e. refl)) (λ i.
      repeated_steady (is_symbol symbol.Comma) (no_symbol symbol.Comma) (index_levels (suc depth)) (λ i. omega arith) (IndicesHave depth)
      (indices_grow depth) (index_of f) (index_of f')
      (index_steady (suc depth) r) (i ∷ []) (expression_levels (suc depth) i.value)
      (ap (λ (l : List ℕ). suc depth ∷ l) (sym (append-nil (expression_levels (suc depth) i.value)))))

  indexed_steady : Steady c m Before (Has (selector_levels depth)) (indexed_of i) (indexed_of i')
  unfolding indexed_of indices_from index_of
  indexed_steady = opening_steady (Has (selector_levels depth)) (Related c) depth
      (λ f at. ((expression_of f >>= λ e. pure (record { at = at; value = e })) >>= λ i. repeat_while (is_symbol symbol.Comma) (index_of f)
      (i ∷ [])) >>= λ is. expect symbol.CloseBracket >>= λ _. pure (s.Indexed (indices_of is)))
      (λ m f f' r at. then_any (indices_behind m f f' r at)
      (λ is l h. finish (λ _. s.Indexed (indices_of is)) (expect_steady symbol.CloseBracket) (λ _. indexed_has depth is l h))) m i i' r

  arguments_steady : Steady c m Before (Called depth) (arguments_of i) (arguments_of i')
  unfolding arguments_of
  arguments_steady = opening_steady (Called depth) (Related c) depth
      (λ f at. expressions_from f >>= λ es. expect symbol.CloseParenthesis >>= λ _. pure es)
      (λ m f f' r at. then_any (expressions_steady (suc depth) r)
      (λ es l h. finish (λ _. es) (expect_steady symbol.CloseParenthesis) (λ _. called depth es l h))) m i i' r

  pub optional_arguments_steady : Steady c m Anywhere (Has (λ es. arguments_levels depth (expressions_of es))) (optional_arguments_of i)
      (optional_arguments_of i')
  unfolding optional_arguments_of
  optional_arguments_steady = symbol_steady symbol.OpenParenthesis (λ b. cond b (arguments_of i) (pure [])) (λ b. cond b (arguments_of i') (pure []))
      (imply (Has (λ es. arguments_levels depth (expressions_of es))) arguments_steady (called_as_arguments depth)) (pure_steady [] refl)

  parenthesized_steady : Steady c m Before (Has (expression_levels depth)) (parenthesized_of i) (parenthesized_of i')
  unfolding parenthesized_of
  parenthesized_steady = opening_steady (Has (expression_levels depth)) (Related c) depth
      (λ f at. expression_of f >>= λ e. expect symbol.CloseParenthesis >>= λ _. pure (s.Parenthesized at e))
      (λ m f f' r at. then (expression_of_steady (suc depth) r)
      (λ e. finish (λ _. s.Parenthesized at e) (expect_steady symbol.CloseParenthesis) (λ _. refl))) m i i' r

  not_steady : Steady c m Before (Has (expression_levels depth)) (not_of i) (not_of i')
  unfolding not_of
  not_steady = opening_steady (Has (expression_levels depth)) (Related c) depth (λ f at. f >>= λ e. pure (s.Not at e))
      (λ m f f' r at. finish (λ e. s.Not at e) r (λ e. refl)) m i i' r

  -- ---- designators and factors

  field_steady : Steady c m Before (Has (selector_levels depth)) (field_of i) (field_of i')
  unfolding field_of
  field_steady = then (take_steady 0) (λ at. finish (λ name. s.Field at name) identifier_steady (λ name. refl))

  selector_by_steady : (k : Option Kind) → Steady c m (start_of k) (Has (selector_levels depth)) (selector_by i k) (selector_by i' k)
  unfolding selector_by
  selector_by_steady (Some (kind.Symbol symbol.Dot)) = field_steady
  selector_by_steady (Some (kind.Symbol symbol.OpenBracket)) = indexed_steady
  selector_by_steady _ = refuse_steady

  selector_steady : Steady c m Anywhere (Has (selector_levels depth)) (selector_of i) (selector_of i')
  unfolding selector_of
  selector_steady = kind_steady selector_by_steady

  pub designator_steady : Steady c m Anywhere (Has (designator_levels depth)) (designator_of i) (designator_of i')
  unfolding designator_of
  designator_steady = then identifier_steady (λ root. finish (λ xs. s.Designate root (selectors_of xs))
      (each_steady (selector_levels depth) begins_selector refl (some_selector depth) (before selector_steady))
      (λ xs. ap (λ (l : List ℕ). 0 ∷ l) (sym (selectors_are_each depth xs))))

  named_steady : Steady c m Anywhere (Has (expression_levels depth)) (named_of i) (named_of i')
  unfolding named_of call_or_part
  named_steady = then designator_steady (λ d. symbol_steady symbol.OpenParenthesis (call_or_part i d) (call_or_part i' d)
      (then_any arguments_steady (λ es l h. pure_steady (s.Call d (expressions_of es))
      (ap (λ (l : List ℕ). designator_levels depth d ++ l) (append-nil l) ∙ called_in depth d es l h)))
      (pure_steady (s.Designated d) (append-nil (designator_levels depth d))))

  factor_by_steady : (k : Option Kind) → Steady c m (start_of k) (Has (expression_levels depth)) (factor_by i k) (factor_by i' k)
  unfolding factor_by
  factor_by_steady (Some (kind.Number value)) = finish (λ at. s.Number at value) (take_steady 0) (λ at. refl)
  factor_by_steady (Some (kind.Character ordinal)) = finish (λ at. s.Character at ordinal) (take_steady 0) (λ at. refl)
  factor_by_steady (Some (kind.Name name)) = before named_steady
  factor_by_steady (Some (kind.Symbol symbol.OpenParenthesis)) = parenthesized_steady
  factor_by_steady (Some (kind.Symbol symbol.Not)) = not_steady
  factor_by_steady _ = refuse_steady

  pub factor_of_steady : Related c m depth (factor_of i) (factor_of i')
  unfolding factor_of
  factor_of_steady = kind_steady factor_by_steady
