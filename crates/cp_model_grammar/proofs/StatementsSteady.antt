-- Statements are read steadily.
use Rattle.std.proofs.Common.{◌≡◌, ℕ, suc, List, [], ◌∷◌, ◌++◌, Option, Some, None, refl, sym, ap, ◌∙◌, append_assoc}
use Rattle.std.proofs.lemmas.List.{append-nil}
use Rattle.cp_model.specs.Syntax as s
use Rattle.cp_model.specs.View.{LabelledStatement, expressions_of, statements_of, arms_of}
use Rattle.cp_model.specs.Levels.{behind_levels, separated_levels, constants_levels, expression_levels, init_item_levels, statement_levels, statements_levels, more_statements_levels, arms_levels, more_arms_levels}
use Rattle.cp_model.specs.Tokens.{Kind}
use Rattle.cp_model.specs.Tokens as kind
use Rattle.cp_model.specs.declared.token.Symbol.TheVariants as symbol
use Rattle.cp_model.specs.declared.tree.Direction.TheVariants as direction
use Rattle.cp_model_grammar.specs.Kinds.{is_symbol}
use Rattle.cp_model_grammar.specs.Reading.{Reader, ◌>>=◌, pure, by_kind, expect, separated_by}
use Rattle.cp_model_grammar.specs.Names.{identifier_of}
use Rattle.cp_model_grammar.specs.Statements.{Deeper, direction_by, direction_of, statements_from, arm_of, else_part, block_of, compound_of, if_of, case_of, while_of, repeat_of, for_of, cycle_of, assign_or_perform, designated_of, init_item_of, init_of, statement_by, statement_of}
use Rattle.cp_model_grammar.proofs.Steady.{Cut, Mode, Anywhere, Before, start_of, Steady, Has, imply, before, then, finish, pure_steady, refuse_steady, take_steady, kind_steady, symbol_steady, expect_steady, SteadyInner, opening_steady}
use Rattle.cp_model_grammar.proofs.SteadyLists.{separated_steady}
use Rattle.cp_model_grammar.proofs.NamesSteady.{identifier_steady, constants_steady}
use Rattle.cp_model_grammar.proofs.ExpressionsSteady.{Related, expression_of_steady, factor_of_steady, designator_steady, optional_arguments_steady}

-- ---- levels of sequences

more_are_behind : (depth : ℕ) (xs : List s.Statement) → more_statements_levels depth (statements_of xs) ≡ behind_levels (statement_levels depth) xs
more_are_behind depth [] = refl
more_are_behind depth (x ∷ xs) = ap (λ (l : List ℕ). 0 ∷ statement_levels depth x ++ l) (more_are_behind depth xs)

statements_are_separated : (depth : ℕ) (xs : List s.Statement)
    → statements_levels depth (statements_of xs) ≡ separated_levels (statement_levels depth) xs
statements_are_separated depth [] = refl
statements_are_separated depth (x ∷ xs) = ap (λ (l : List ℕ). statement_levels depth x ++ l) (more_are_behind depth xs)

abbrev arm_levels : ℕ → LabelledStatement → List ℕ
arm_levels depth a = constants_levels a.labels ++ (0 ∷ statement_levels depth a.body)

more_arms_are_behind : (depth : ℕ) (xs : List LabelledStatement) → more_arms_levels depth (arms_of xs) ≡ behind_levels (arm_levels depth) xs
more_arms_are_behind depth [] = refl
more_arms_are_behind depth (a ∷ xs) =
    ap (λ (l : List ℕ). 0 ∷ (constants_levels a.labels ++ (0 ∷ (statement_levels depth a.body ++ l)))) (more_arms_are_behind depth xs)
    ∙ ap (λ (l : List ℕ). 0 ∷ l) (sym (append_assoc (constants_levels a.labels) (0 ∷ statement_levels depth a.body)
    (behind_levels (arm_levels depth) xs)))

arms_are_separated : (depth : ℕ) (xs : List LabelledStatement) → arms_levels depth (arms_of xs) ≡ separated_levels (arm_levels depth) xs
arms_are_separated depth [] = refl
arms_are_separated depth (a ∷ xs) =
    ap (λ (l : List ℕ). constants_levels a.labels ++ (0 ∷ (statement_levels depth a.body ++ l))) (more_arms_are_behind depth xs)
    ∙ sym (append_assoc (constants_levels a.labels) (0 ∷ statement_levels depth a.body) (behind_levels (arm_levels depth) xs))

-- ---- statements

-- two readers of statements
abbrev pub StatementsRelated : Cut → Mode → ℕ → Reader s.Statement → Reader s.Statement → Type 0
StatementsRelated c m depth p q = Steady c m Anywhere (Has (statement_levels depth)) p q

abbrev pub DeeperRelated : Cut → Mode → ℕ → Deeper → Deeper → Type 0
DeeperRelated c m depth d d' = Related c m depth d.expression d'.expression × StatementsRelated c m depth d.statement d'.statement

direction_by_steady : {c : Cut} {m : Mode} (k : Option Kind) → Steady c m (start_of k) (Has (λ d. 0 ∷ [])) (direction_by k) (direction_by k)
direction_by_steady (Some (kind.Symbol symbol.To)) = finish (λ _. direction.Up) (take_steady 0) (λ _. refl)
direction_by_steady (Some (kind.Symbol symbol.Downto)) = finish (λ _. direction.Down) (take_steady 0) (λ _. refl)
direction_by_steady _ = refuse_steady

direction_steady : {c : Cut} {m : Mode} → Steady c m Anywhere (Has (λ d. 0 ∷ [])) direction_of direction_of
unfolding direction_of
direction_steady = kind_steady direction_by_steady

module _ {c : Cut} {m : Mode} (depth : ℕ) {p q : Reader s.Statement} (r : StatementsRelated c m depth p q) where
  list_steady : Steady c m Anywhere (Has (λ xs. statements_levels depth (statements_of xs))) (statements_from p) (statements_from q)
  unfolding statements_from
  list_steady = imply (Has (λ xs. statements_levels depth (statements_of xs))) (separated_steady (statement_levels depth) symbol.Semicolon r)
      (λ xs l h. h ∙ sym (statements_are_separated depth xs))

  arm_steady : Steady c m Anywhere (Has (arm_levels depth)) (arm_of p) (arm_of q)
  unfolding arm_of
  arm_steady = then constants_steady (λ labels. then (expect_steady symbol.Colon)
      (λ _. finish (λ x. record { labels = labels; body = x }) r (λ x. refl)))

  arms_steady : Steady c m Anywhere (Has (λ xs. arms_levels depth (arms_of xs))) (separated_by symbol.Semicolon (arm_of p))
      (separated_by symbol.Semicolon (arm_of q))
  arms_steady = imply (Has (λ xs. arms_levels depth (arms_of xs))) (separated_steady (arm_levels depth) symbol.Semicolon arm_steady)
      (λ xs l h. h ∙ sym (arms_are_separated depth xs))

abbrev block_levels : ℕ → s.Body → List ℕ
block_levels depth b = suc depth ∷ (statements_levels (suc depth) b.list ++ (0 ∷ []))

module _ {c : Cut} (m : Mode) (depth : ℕ) (i i' : Option Deeper) (r : SteadyInner c (DeeperRelated c) m depth i i') where
  pub block_steady : Steady c m Before (Has (block_levels depth)) (block_of i) (block_of i')
  unfolding block_of
  block_steady = opening_steady (Has (block_levels depth)) (DeeperRelated c) depth
      (λ d at. statements_from d.statement >>= λ l. expect symbol.End >>= λ _. pure (record { at = at; list = statements_of l }))
      (λ m d d' r at. then (list_steady (suc depth) r.1)
      (λ l. finish (λ _. record { at = at; list = statements_of l }) (expect_steady symbol.End) (λ _. refl))) m i i' r

  compound_steady : Steady c m Before (Has (statement_levels depth)) (compound_of i) (compound_of i')
  unfolding compound_of
  compound_steady = finish (λ b. s.Compound b.list) block_steady (λ b. refl)

  if_steady : Steady c m Before (Has (statement_levels depth)) (if_of i) (if_of i')
  unfolding if_of else_part
  if_steady = opening_steady (Has (statement_levels depth)) (DeeperRelated c) depth
      (λ d _. d.expression >>= λ e. expect symbol.Then >>= λ _. d.statement >>= λ x. by_kind
      (λ k. else_part d.statement e x (is_symbol symbol.Else k)))
      (λ m d d' r _. then r.0 (λ e. then (expect_steady symbol.Then)
      (λ _. then r.1 (λ x. symbol_steady symbol.Else (else_part d.statement e x) (else_part d'.statement e x)
      (then (take_steady 0) (λ _. finish (λ y. s.IfElse e x y) r.1 (λ y. refl)))
      (pure_steady (s.If e x) (ap (λ (l : List ℕ). suc depth ∷ (expression_levels (suc depth) e ++ (0 ∷ l)))
      (append-nil (statement_levels (suc depth) x)))))))) m i i' r

  case_steady : Steady c m Before (Has (statement_levels depth)) (case_of i) (case_of i')
  unfolding case_of
  case_steady = opening_steady (Has (statement_levels depth)) (DeeperRelated c) depth
      (λ d _. d.expression >>= λ e. expect symbol.Of >>= λ _. separated_by symbol.Semicolon
      (arm_of d.statement) >>= λ xs. expect symbol.End >>= λ _. pure (s.Case e (arms_of xs)))
      (λ m d d' r _. then r.0 (λ e. then (expect_steady symbol.Of)
      (λ _. then (arms_steady (suc depth) r.1) (λ xs. finish (λ _. s.Case e (arms_of xs)) (expect_steady symbol.End) (λ _. refl))))) m i i' r

  while_steady : Steady c m Before (Has (statement_levels depth)) (while_of i) (while_of i')
  unfolding while_of
  while_steady = opening_steady (Has (statement_levels depth)) (DeeperRelated c) depth
      (λ d _. d.expression >>= λ e. expect symbol.Do >>= λ _. d.statement >>= λ x. pure (s.While e x))
      (λ m d d' r _. then r.0 (λ e. then (expect_steady symbol.Do) (λ _. finish (λ x. s.While e x) r.1 (λ x. refl)))) m i i' r

  repeat_steady : Steady c m Before (Has (statement_levels depth)) (repeat_of i) (repeat_of i')
  unfolding repeat_of
  repeat_steady = opening_steady (Has (statement_levels depth)) (DeeperRelated c) depth
      (λ d _. statements_from d.statement >>= λ l. expect symbol.Until >>= λ _. d.expression >>= λ e. pure (s.Repeat (statements_of l) e))
      (λ m d d' r _. then (list_steady (suc depth) r.1)
      (λ l. then (expect_steady symbol.Until) (λ _. finish (λ e. s.Repeat (statements_of l) e) r.0 (λ e. refl)))) m i i' r

  for_steady : Steady c m Before (Has (statement_levels depth)) (for_of i) (for_of i')
  unfolding for_of
  for_steady = opening_steady (Has (statement_levels depth)) (DeeperRelated c) depth
      (λ d _. identifier_of >>= λ v. expect symbol.Assign >>= λ _. d.expression >>= λ a. direction_of >>= λ way. d.expression >>= λ b.
      expect symbol.Do >>= λ _. d.statement >>= λ x. pure (s.For v a way b x))
      (λ m d d' r _. then identifier_steady (λ v. then (expect_steady symbol.Assign)
      (λ _. then r.0 (λ a. then direction_steady (λ way. then r.0 (λ b. then (expect_steady symbol.Do) (λ _.
      finish (λ x. s.For v a way b x) r.1 (λ x. refl)))))))) m i i' r

  cycle_steady : Steady c m Before (Has (statement_levels depth)) (cycle_of i) (cycle_of i')
  unfolding cycle_of
  cycle_steady = opening_steady (Has (statement_levels depth)) (DeeperRelated c) depth
      (λ d _. statements_from d.statement >>= λ l. expect symbol.End >>= λ _. pure (s.Cycle (statements_of l)))
      (λ m d d' r _. then (list_steady (suc depth) r.1)
      (λ l. finish (λ _. s.Cycle (statements_of l)) (expect_steady symbol.End) (λ _. refl))) m i i' r

-- ---- what begins with a name, and `init`

module _ {c : Cut} (m : Mode) (depth : ℕ) (i i' : Option (Reader s.Expression)) (r : SteadyInner c (Related c) m depth i i') where
  designated_steady : Steady c m Anywhere (Has (statement_levels depth)) (designated_of i) (designated_of i')
  unfolding designated_of assign_or_perform
  designated_steady = then (designator_steady m depth i i' r) (λ d. symbol_steady symbol.Assign (assign_or_perform i d) (assign_or_perform i' d)
      (then (take_steady 0) (λ at. finish (λ e. s.Assign d at e) (expression_of_steady depth (factor_of_steady m depth i i' r)) (λ e. refl)))
      (finish (λ es. s.Perform d (expressions_of es)) (optional_arguments_steady m depth i i' r) (λ es. refl)))

  init_item_steady : Steady c m Anywhere (Has (init_item_levels depth)) (init_item_of i) (init_item_of i')
  unfolding init_item_of
  init_item_steady = then identifier_steady (λ x. finish (λ es. record { component = x; arguments = expressions_of es })
      (optional_arguments_steady m depth i i' r) (λ es. refl))

  init_steady : Steady c m Before (Has (statement_levels depth)) (init_of i) (init_of i')
  unfolding init_of
  init_steady = then (take_steady 0) (λ at. finish (λ is. s.Init at is) (separated_steady (init_item_levels depth) symbol.Comma init_item_steady)
      (λ is. refl))

  module _ (d d' : Option Deeper) (rd : SteadyInner c (DeeperRelated c) m depth d d') where
    statement_by_steady : (k : Option Kind) → Steady c m (start_of k) (Has (statement_levels depth)) (statement_by i d k) (statement_by i' d' k)
    unfolding statement_by
    statement_by_steady (Some (kind.Name name)) = before designated_steady
    statement_by_steady (Some (kind.Symbol symbol.Begin)) = compound_steady m depth d d' rd
    statement_by_steady (Some (kind.Symbol symbol.If)) = if_steady m depth d d' rd
    statement_by_steady (Some (kind.Symbol symbol.Case)) = case_steady m depth d d' rd
    statement_by_steady (Some (kind.Symbol symbol.While)) = while_steady m depth d d' rd
    statement_by_steady (Some (kind.Symbol symbol.Repeat)) = repeat_steady m depth d d' rd
    statement_by_steady (Some (kind.Symbol symbol.For)) = for_steady m depth d d' rd
    statement_by_steady (Some (kind.Symbol symbol.Cycle)) = cycle_steady m depth d d' rd
    statement_by_steady (Some (kind.Symbol symbol.Init)) = init_steady
    statement_by_steady None = pure_steady s.Empty refl
    statement_by_steady _ = before (pure_steady s.Empty refl)

    pub statement_of_steady : StatementsRelated c m depth (statement_of i d) (statement_of i' d')
    unfolding statement_of
    statement_of_steady = kind_steady statement_by_steady
