-- What the grammar allows as a factor, a designator or a list of expressions is read.
use Rattle.std.proofs.Common.{◌≡◌, ℕ, zero, suc, ◌≤◌, true, false, List, [], ◌∷◌, ◌++◌, length, Option, Some, Ok, refl, sym, ap, ◌∙◌, append_assoc, arith}
use Rattle.std.proofs.lemmas.List.{append-nil}
use Rattle.cp_model.specs.Languages.{token, symbol, symbol_at, identifier, ◌⋅◌, each, each_behind, separated_list}
use Rattle.cp_model.specs.Syntax as s
use Rattle.cp_model.specs.View.{PlacedIndex, expressions_of, selectors_of, indices_of}
use Rattle.cp_model.specs.GrammarExpressions.{expression, expressions, more_expressions, designator, selectors, selector, indices, more_indices, arguments}
use Rattle.cp_model.specs.Tokens.{Token}
use Rattle.cp_model.specs.Tokens.{Kind}
use Rattle.cp_model.specs.Tokens as kind
use Rattle.cp_model.specs.declared.token.Symbol.TheVariants as symbol
use Rattle.cp_model.specs.declared.tree.Identifier.{Identifier}
use Rattle.cp_model_grammar.specs.Kinds.{is_symbol}
use Rattle.cp_model_grammar.specs.Reading.{Reader, kind_at, repeat, repeat_while}
use Rattle.cp_model_grammar.specs.Expressions.{expression_of, expressions_from, index_of, indices_from, begins_selector, field_of, indexed_of, selector_by, selector_of, designator_of, arguments_of, optional_arguments_of, call_or_part, named_of, parenthesized_of, not_of, factor_by, factor_of, inner_at, factor_at, expression_at, designator_at, optional_arguments_at}
use Rattle.cp_model_grammar.specs.Laws.{ExpressionsAreComplete}
use Rattle.cp_model_grammar.proofs.Tokens.{is_symbol_refl, kind_of, kind_of_symbol, token_shrinks, expect_reads, bracket_is_no_comma, close_is_no_comma}
use Rattle.cp_model_grammar.proofs.Lists.{Each, each_imply, ItemReads, repeat_stops, repeat_goes, separated_reads, each_reads}
use Rattle.cp_model_grammar.specs.Follows.{ends_expression}
use Rattle.cp_model_grammar.proofs.Ends.{ends_selectors, ends_arguments}
use Rattle.cp_model_grammar.proofs.NamesComplete.{identifier_reads}
use Rattle.cp_model_grammar.proofs.ExpressionsShrink.{expression_shrinks, selector_shrinks}
use Rattle.cp_model_grammar.proofs.ExpressionsComplete.{FactorReads, Complete, complete_factor, sign_complete, binary_complete}

-- ---- lists of expressions

abbrev pub listed : s.Expressions → List s.Expression
listed s.NoExpressions = []
listed (s.MoreExpressions e es) = e ∷ listed es

pub expressions_listed : (es : s.Expressions) → expressions_of (listed es) ≡ es
expressions_listed s.NoExpressions = refl
expressions_listed (s.MoreExpressions e es) = ap (s.MoreExpressions e) (expressions_listed es)

listed_behind : (room : ℕ) (es : s.Expressions) (ts rest : List Token) → more_expressions room es ts rest
    → each_behind symbol.Comma (expression room) (listed es) ts rest
listed_behind room s.NoExpressions ts rest h = h
listed_behind room (s.MoreExpressions e es) ts rest h = (h.0, h.1, (h.2.0, h.2.1, listed_behind room es h.2.0 rest h.2.2))

listed_separated : (room : ℕ) (es : s.Expressions) (ts rest : List Token) → expressions room es ts rest
    → separated_list symbol.Comma (expression room) (listed es) ts rest
listed_separated room s.NoExpressions ts rest h = h
listed_separated room (s.MoreExpressions e es) ts rest h = (h.0, h.1, listed_behind room es h.0 rest h.2)

-- no token that would continue the expression
abbrev pub Ends : s.Expression → Option Kind → Type 0
Ends e k = ends_expression k ≡ true

pub expressions_reads : (es : s.Expressions) → Each Complete (listed es) → (room : ℕ) (ts rest : List Token) → expressions room es ts rest
    → ends_expression (kind_at rest) ≡ true → is_symbol symbol.Comma (kind_at rest) ≡ false
    → expressions_from (factor_at room) ts ≡ Ok (listed es, rest)
unfolding expressions_from
expressions_reads es all room ts rest h ends stop =
    separated_reads (expression room) (expression_at room) Ends symbol.Comma (λ e. refl)
    (λ e ts rest h. omega (arith, expression_shrinks e room ts rest h)) (listed es)
    (each_imply Complete (ItemReads (expression room) (expression_at room) Ends) (λ e c ts rest h ends. c.whole room ts rest h ends)
    (listed es) all)
    ts rest (listed_separated room es ts rest h) (λ e. ends) stop

-- ---- lists of indices

abbrev placed : s.Indices → List PlacedIndex
placed s.NoIndices = []
placed (s.MoreIndices at e is) = record { at = at; value = e } ∷ placed is

indices_placed : (is : s.Indices) → indices_of (placed is) ≡ is
indices_placed s.NoIndices = refl
indices_placed (s.MoreIndices at e is) = ap (s.MoreIndices at e) (indices_placed is)

index_reads : (k : Kind) (f : Reader s.Expression) (at : ℕ) (e : s.Expression) (ts mid rest : List Token) → token k at ts mid
    → expression_of f mid ≡ Ok (e, rest) → index_of f ts ≡ Ok (record { at = at; value = e }, rest)
unfolding index_of
index_reads k f at e ts mid rest t one = rw (t.1, one) refl

abbrev AllIndices : s.Indices → Type 0
AllIndices s.NoIndices = Unit {0}
AllIndices (s.MoreIndices at e is) = Complete e × AllIndices is

more_indices_kind : (is : s.Indices) (room : ℕ) (ts rest : List Token) → more_indices room is ts rest → ends_expression (kind_at rest) ≡ true
    → ends_expression (kind_at ts) ≡ true
more_indices_kind s.NoIndices room ts rest h ends = rw h ends
more_indices_kind (s.MoreIndices at e is) room ts rest h ends = rw h.1.1 refl

more_indices_reads : (is : s.Indices) → AllIndices is → (room : ℕ) (ts rest : List Token) (n : ℕ) (found : List PlacedIndex)
    → more_indices room is ts rest → ends_expression (kind_at rest) ≡ true
    → is_symbol symbol.Comma (kind_at rest) ≡ false → length ts ≤ n
    → repeat (is_symbol symbol.Comma) (index_of (factor_at room)) n found ts ≡ Ok (found ++ placed is, rest)
more_indices_reads s.NoIndices all room ts rest n found h ends stop le =
    rw h (repeat_stops (is_symbol symbol.Comma) (index_of (factor_at room)) n found rest stop
    ∙ ap (λ (l : List PlacedIndex). Ok (l, rest)) (sym (append-nil found)))
more_indices_reads (s.MoreIndices at e is) all room ts rest zero found h ends stop le =
    absurd (omega (arith, token_shrinks (kind.Symbol symbol.Comma) at ts h.0 h.1))
more_indices_reads (s.MoreIndices at e is) all room ts rest (suc n) found h ends stop le =
    let one = index_reads (kind.Symbol symbol.Comma) (factor_at room) at e ts h.0 h.2.0 h.1
    (all.0.whole room h.0 h.2.0 h.2.1 (more_indices_kind is room h.2.0 rest h.2.2 ends)) in
    let next : PlacedIndex = record { at = at; value = e } in
    let go : is_symbol symbol.Comma (kind_at ts) ≡ true = rw h.1.1 (is_symbol_refl symbol.Comma) in
    let less : length h.2.0 ≤ n = omega (arith, token_shrinks (kind.Symbol symbol.Comma) at ts h.0 h.1, expression_shrinks e room h.0 h.2.0 h.2.1) in
    repeat_goes (is_symbol symbol.Comma) (index_of (factor_at room)) n found ts h.2.0 next go one
    ∙ more_indices_reads is all.1 room h.2.0 rest n (found ++ next ∷ []) h.2.2 ends stop less
    ∙ ap (λ (l : List PlacedIndex). Ok (l, rest)) (append_assoc found (next ∷ []) (placed is))

indices_reads : (is : s.Indices) → AllIndices is → (room : ℕ) (ts rest : List Token) → indices room is ts rest → ends_expression (kind_at rest) ≡ true
    → is_symbol symbol.Comma (kind_at rest) ≡ false
    → indices_from (factor_at room) ts ≡ Ok (placed is, rest)
unfolding indices_from
indices_reads s.NoIndices all room ts rest h ends stop = absurd h
indices_reads (s.MoreIndices at e is) all room ts rest h ends stop =
    let one = index_reads (kind.Symbol symbol.OpenBracket) (factor_at room) at e ts h.0 h.2.0 h.1
    (all.0.whole room h.0 h.2.0 h.2.1 (more_indices_kind is room h.2.0 rest h.2.2 ends)) in
    rw one (more_indices_reads is all.1 room h.2.0 rest (length h.2.0) (record { at = at; value = e } ∷ []) h.2.2 ends stop (omega arith))

-- ---- what opens a level

module _ (f : Reader s.Expression) (ts last rest : List Token) where
  indexed_reads : (close : ℕ) (is : List PlacedIndex) → kind_at ts ≡ Some (kind.Symbol symbol.OpenBracket) → indices_from f ts ≡ Ok (is, last)
      → symbol_at symbol.CloseBracket close last rest
      → selector_of (Some f) ts ≡ Ok (s.Indexed (indices_of is), rest)
  unfolding selector_of selector_by indexed_of
  indexed_reads close is k one c = rw (k, one, expect_reads symbol.CloseBracket close last rest c) refl

module _ (f : Reader s.Expression) (ts mid last rest : List Token) where
  pub arguments_reads : (at close : ℕ) (es : List s.Expression) → symbol_at symbol.OpenParenthesis at ts mid → expressions_from f mid ≡ Ok (es, last)
      → symbol_at symbol.CloseParenthesis close last rest
      → arguments_of (Some f) ts ≡ Ok (es, rest)
  unfolding arguments_of
  arguments_reads at close es t one c = rw (t.1, one, expect_reads symbol.CloseParenthesis close last rest c) refl

  parenthesized_reads : (at close : ℕ) (e : s.Expression) → symbol_at symbol.OpenParenthesis at ts mid → expression_of f mid ≡ Ok (e, last)
      → symbol_at symbol.CloseParenthesis close last rest
      → factor_of (Some f) ts ≡ Ok (s.Parenthesized at e, rest)
  unfolding factor_of factor_by parenthesized_of
  parenthesized_reads at close e t one c = rw (t.1, one, expect_reads symbol.CloseParenthesis close last rest c) refl

module _ (f : Reader s.Expression) (ts mid rest : List Token) where
  not_reads : (at : ℕ) (e : s.Expression) → symbol_at symbol.Not at ts mid → f mid ≡ Ok (e, rest) → factor_of (Some f) ts ≡ Ok (s.Not at e, rest)
  unfolding factor_of factor_by not_of
  not_reads at e t one = rw (t.1, one) refl

pub inner_suc : (room : ℕ) → inner_at (suc room) ≡ Some (factor_at room)
unfolding inner_at
inner_suc room = refl

parenthesized_complete : (at : ℕ) (e : s.Expression) → Complete e → FactorReads (s.Parenthesized at e)
parenthesized_complete at e c zero ts rest h ends = absurd h
parenthesized_complete at e c (suc room) ts rest h ends =
    rw (inner_suc room) (parenthesized_reads (factor_at room) ts h.0 h.2.0 rest at h.2.2.0 e h.1
    (c.whole room h.0 h.2.0 h.2.1 (rw h.2.2.1.1 refl)) h.2.2.1)

not_complete : (at : ℕ) (e : s.Expression) → Complete e → FactorReads (s.Not at e)
not_complete at e c zero ts rest h ends = absurd h.1
not_complete at e c (suc room) ts rest h ends =
    rw (inner_suc room) (not_reads (factor_at room) ts h.1.0 rest at e h.1.1 (c.factor h.0 room h.1.0 rest h.1.2 ends))

-- ---- designators

abbrev pub SelectorReads : s.Selector → Type 0
SelectorReads x = (room : ℕ) (ts rest : List Token) → selector room x ts rest → selector_of (inner_at room) ts ≡ Ok (x, rest)

field_reads : (inner : Option (Reader s.Expression)) (at : ℕ) (x : Identifier) (ts mid rest : List Token) → symbol_at symbol.Dot at ts mid
    → identifier x mid rest → selector_of inner ts ≡ Ok (s.Field at x, rest)
unfolding selector_of selector_by field_of
field_reads inner at x ts mid rest d t = rw (d.1, identifier_reads x mid rest t) refl

field_complete : (at : ℕ) (x : Identifier) → SelectorReads (s.Field at x)
field_complete at x room ts rest h = field_reads (inner_at room) at x ts h.0 rest h.1 h.2

indices_begin : (is : s.Indices) (room : ℕ) (ts rest : List Token) → indices room is ts rest → kind_at ts ≡ Some (kind.Symbol symbol.OpenBracket)
indices_begin s.NoIndices room ts rest h = absurd h
indices_begin (s.MoreIndices at e is) room ts rest h = rw h.1.1 refl

indexed_complete : (is : s.Indices) → AllIndices is → SelectorReads (s.Indexed is)
indexed_complete is all zero ts rest h = absurd h
indexed_complete is all (suc room) ts rest h =
    rw (inner_suc room)
    (indexed_reads (factor_at room) ts h.0 rest h.2.0 (placed is) (indices_begin is room ts h.0 h.1)
    (indices_reads is all room ts h.0 h.1 (rw h.2.1.1 refl) (rw h.2.1.1 bracket_is_no_comma)) h.2.1
    ∙ ap (λ (is : s.Indices). Ok (s.Indexed is, rest)) (indices_placed is))

abbrev listed_selectors : s.Selectors → List s.Selector
listed_selectors s.NoSelectors = []
listed_selectors (s.MoreSelectors x xs) = x ∷ listed_selectors xs

selectors_listed : (xs : s.Selectors) → selectors_of (listed_selectors xs) ≡ xs
selectors_listed s.NoSelectors = refl
selectors_listed (s.MoreSelectors x xs) = ap (s.MoreSelectors x) (selectors_listed xs)

listed_each : (room : ℕ) (xs : s.Selectors) (ts rest : List Token) → selectors room xs ts rest → each (selector room) (listed_selectors xs) ts rest
listed_each room s.NoSelectors ts rest h = h
listed_each room (s.MoreSelectors x xs) ts rest h = (h.0, h.1, listed_each room xs h.0 rest h.2)

selector_begins : (room : ℕ) (x : s.Selector) (ts rest : List Token) → selector room x ts rest → begins_selector (kind_at ts) ≡ true
selector_begins room (s.Field at x) ts rest h = rw h.1.1 refl
selector_begins zero (s.Indexed is) ts rest h = absurd h
selector_begins (suc room) (s.Indexed is) ts rest h = rw (indices_begin is room ts h.0 h.1) refl

abbrev Anything : s.Selector → Option Kind → Type 0
Anything x k = Unit {0}

abbrev pub DesignatorReads : s.Designator → Type 0
DesignatorReads d = (room : ℕ) (ts rest : List Token) → designator room d ts rest → begins_selector (kind_at rest) ≡ false
    → designator_at room ts ≡ Ok (d, rest)

designator_reads : (inner : Option (Reader s.Expression)) (x : Identifier) (xs : List s.Selector) (ts mid rest : List Token) → identifier x ts mid
    → repeat_while begins_selector (selector_of inner) [] mid ≡ Ok (xs, rest)
    → designator_of inner ts ≡ Ok (s.Designate x (selectors_of xs), rest)
unfolding designator_of
designator_reads inner x xs ts mid rest t h = rw (identifier_reads x ts mid t, h) refl

designator_complete : (x : Identifier) (xs : s.Selectors) → Each SelectorReads (listed_selectors xs) → DesignatorReads (s.Designate x xs)
designator_complete x xs all room ts rest h stop =
    designator_reads (inner_at room) x (listed_selectors xs) ts h.0 rest h.1
    (each_reads (selector room) (selector_of (inner_at room)) Anything begins_selector (selector_begins room) (λ x k go. tt)
    (λ x ts rest h. selector_shrinks x room ts rest h) (listed_selectors xs)
    (each_imply SelectorReads (ItemReads (selector room) (selector_of (inner_at room)) Anything) (λ x r ts rest h u. r room ts rest h)
    (listed_selectors xs) all)
    h.0 rest (listed_each room xs h.0 rest h.2) (λ x. tt) stop)
    ∙ ap (λ (xs : s.Selectors). Ok (s.Designate x xs, rest)) (selectors_listed xs)

-- ---- factors

pub name_begins : (d : s.Designator) (room : ℕ) (ts rest : List Token) → designator room d ts rest → (name : List ℕ)
    × (kind_at ts ≡ Some (kind.Name name))
name_begins (s.Designate x xs) room ts rest h = (x.name, kind_of (kind.Name x.name) x.at ts h.0 h.1)

module _ (inner : Option (Reader s.Expression)) (name : List ℕ) (d : s.Designator) (ts mid : List Token) (n : kind_at ts ≡ Some (kind.Name name))
    (one : designator_of inner ts ≡ Ok (d, mid)) where
  part_reads : is_symbol symbol.OpenParenthesis (kind_at mid) ≡ false → factor_of inner ts ≡ Ok (s.Designated d, mid)
  unfolding factor_of factor_by named_of call_or_part
  part_reads stop = rw (n, one, stop) refl

  call_reads : (es : List s.Expression) (rest : List Token) → is_symbol symbol.OpenParenthesis (kind_at mid) ≡ true
      → arguments_of inner mid ≡ Ok (es, rest) → factor_of inner ts ≡ Ok (s.Call d (expressions_of es), rest)
  unfolding factor_of factor_by named_of call_or_part
  call_reads es rest go all = rw (n, one, go, all) refl

part_complete : (d : s.Designator) → DesignatorReads d → FactorReads (s.Designated d)
part_complete d c room ts rest h ends =
    let name = name_begins d room ts rest h in
    part_reads (inner_at room) name.0 d ts rest name.1 (c room ts rest h (ends_selectors (kind_at rest) ends)) (ends_arguments (kind_at rest) ends)

-- arguments between their parentheses
some_arguments : (es : s.Expressions) → Each Complete (listed es) → (room : ℕ) (ts rest : List Token)
    → (symbol symbol.OpenParenthesis ⋅ expressions room es ⋅ symbol symbol.CloseParenthesis) ts rest
    → arguments_of (inner_at (suc room)) ts ≡ Ok (listed es, rest)
some_arguments es all room ts rest h =
    rw (inner_suc room) (arguments_reads (factor_at room) ts h.0 h.2.0 rest h.1.0 h.2.2.0 (listed es) h.1.1
    (expressions_reads es all room h.0 h.2.0 h.2.1 (rw h.2.2.1.1 refl) (rw h.2.2.1.1 close_is_no_comma)) h.2.2.1)

call_complete : (d : s.Designator) (es : s.Expressions) → DesignatorReads d → Each Complete (listed es) → FactorReads (s.Call d es)
call_complete d es c all zero ts rest h ends = absurd h.2
call_complete d es c all (suc room) ts rest h ends =
    let g = h.2 in
    let name = name_begins d (suc room) ts h.0 h.1 in
    let go : is_symbol symbol.OpenParenthesis (kind_at h.0) ≡ true =
    rw (kind_of_symbol symbol.OpenParenthesis h.0 g.0 g.1) (is_symbol_refl symbol.OpenParenthesis) in
    call_reads (inner_at (suc room)) name.0 d ts h.0 name.1 (c (suc room) ts h.0 h.1 (rw (kind_of_symbol symbol.OpenParenthesis h.0 g.0 g.1) refl))
    (listed es) rest go (some_arguments es all room h.0 rest g)
    ∙ ap (λ (es : s.Expressions). Ok (s.Call d es, rest)) (expressions_listed es)

number_complete : (at n : ℕ) → FactorReads (s.Number at n)
unfolding factor_of factor_by
number_complete at n room ts rest h ends = rw h.1 refl

character_complete : (at n : ℕ) → FactorReads (s.Character at n)
unfolding factor_of factor_by
character_complete at n room ts rest h ends = rw h.1 refl

-- ---- all trees

mutual
  complete : (e : s.Expression) → Complete e
  complete (s.Number at n) = complete_factor (s.Number at n) refl (number_complete at n)
  complete (s.Character at n) = complete_factor (s.Character at n) refl (character_complete at n)
  complete (s.Designated d) = complete_factor (s.Designated d) refl (part_complete d (designators_complete d))
  complete (s.Call d es) = complete_factor (s.Call d es) refl (call_complete d es (designators_complete d) (all_complete es))
  complete (s.Parenthesized at e) = complete_factor (s.Parenthesized at e) refl (parenthesized_complete at e (complete e))
  complete (s.Not at e) = complete_factor (s.Not at e) refl (not_complete at e (complete e))
  complete (s.Signed x at e) = sign_complete x at e (complete e)
  complete (s.Binary a o at b) = binary_complete a at b (complete a) (complete b) o

  pub all_complete : (es : s.Expressions) → Each Complete (listed es)
  all_complete s.NoExpressions = tt
  all_complete (s.MoreExpressions e es) = (complete e, all_complete es)

  pub designators_complete : (d : s.Designator) → DesignatorReads d
  designators_complete (s.Designate x xs) = designator_complete x xs (selectors_complete xs)

  selectors_complete : (xs : s.Selectors) → Each SelectorReads (listed_selectors xs)
  selectors_complete s.NoSelectors = tt
  selectors_complete (s.MoreSelectors x xs) = (selector_complete x, selectors_complete xs)

  selector_complete : (x : s.Selector) → SelectorReads x
  selector_complete (s.Field at x) = field_complete at x
  selector_complete (s.Indexed is) = indexed_complete is (indices_complete is)

  indices_complete : (is : s.Indices) → AllIndices is
  indices_complete s.NoIndices = tt
  indices_complete (s.MoreIndices at e is) = (complete e, indices_complete is)

pub expression_complete : (room : ℕ) (ts rest : List Token) (e : s.Expression) → expression room e ts rest → ends_expression (kind_at rest) ≡ true
    → expression_at room ts ≡ Ok (e, rest)
expression_complete room ts rest e = (complete e).whole room ts rest

-- ---- arguments, or none

module _ (inner : Option (Reader s.Expression)) (ts : List Token) where
  arguments_go : (es : List s.Expression) (rest : List Token) → is_symbol symbol.OpenParenthesis (kind_at ts) ≡ true
      → arguments_of inner ts ≡ Ok (es, rest) → optional_arguments_of inner ts ≡ Ok (es, rest)
  unfolding optional_arguments_of
  arguments_go es rest go all = rw go all

  arguments_stop : is_symbol symbol.OpenParenthesis (kind_at ts) ≡ false → optional_arguments_of inner ts ≡ Ok ([], ts)
  unfolding optional_arguments_of
  arguments_stop stop = rw stop refl

pub arguments_complete : (es : s.Expressions) (room : ℕ) (ts rest : List Token) → arguments room es ts rest
    → is_symbol symbol.OpenParenthesis (kind_at rest) ≡ false
    → optional_arguments_at room ts ≡ Ok (listed es, rest)
arguments_complete s.NoExpressions room ts rest h stop = rw h (arguments_stop (inner_at room) rest stop)
arguments_complete (s.MoreExpressions e es) zero ts rest h stop = absurd h
arguments_complete (s.MoreExpressions e es) (suc room) ts rest h stop =
    arguments_go (inner_at (suc room)) ts (listed (s.MoreExpressions e es)) rest
    (rw (kind_of_symbol symbol.OpenParenthesis ts h.0 h.1) (is_symbol_refl symbol.OpenParenthesis))
    (some_arguments (s.MoreExpressions e es) (all_complete (s.MoreExpressions e es)) room ts rest h)

pub expressions_are_complete : ExpressionsAreComplete
expressions_are_complete room ts rest e h stops = expression_complete room ts rest e h stops
