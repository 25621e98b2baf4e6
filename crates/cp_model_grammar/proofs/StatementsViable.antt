-- A partly read statement can be completed.
use Rattle.std.proofs.Common.{◌≡◌, ℕ, zero, suc, Bool, true, false, List, [], ◌∷◌, Option, Some, Ok, Err, refl}
use Rattle.cp_model.specs.Languages.{Language, token, symbol, symbol_at}
use Rattle.cp_model.specs.Syntax as s
use Rattle.cp_model.specs.View.{expressions_of, statements_of, arms_of}
use Rattle.cp_model.specs.GrammarExpressions.{expression, designator}
use Rattle.cp_model.specs.GrammarStatements.{ends_open, direction_symbol, init_item, statement, statements, arms}
use Rattle.cp_model.specs.Grammar.{body}
use Rattle.cp_model.specs.Tokens.{Token}
use Rattle.cp_model.specs.Tokens.{Kind}
use Rattle.cp_model.specs.Tokens as kind
use Rattle.cp_model.specs.declared.token.Symbol.TheVariants as symbol
use Rattle.cp_model.specs.declared.tree.Direction.{Direction}
use Rattle.cp_model.specs.declared.tree.Direction.TheVariants as direction
use Rattle.cp_model_grammar.specs.declared.stop.Stop.TheVariants.{Memory, Wrong, Deep}
use Rattle.cp_model_grammar.specs.Kinds.{is_symbol}
use Rattle.cp_model_grammar.specs.Reading.{Outcome, Reader, and_then, ◌>>=◌, pure, take_token, by_kind, kind_at, expect, separated_by}
use Rattle.cp_model_grammar.specs.Names.{identifier_of}
use Rattle.cp_model_grammar.specs.Expressions.{expression_of, factor_of, optional_arguments_of, inner_at}
use Rattle.cp_model_grammar.specs.Statements.{Deeper, direction_by, direction_of, statements_from, arm_of, else_part, block_of, compound_of, if_of, case_of, while_of, repeat_of, for_of, cycle_of, assign_or_perform, designated_of, init_item_of, init_of, statement_by, statement_of, deeper_at}
use Rattle.cp_model_grammar.proofs.Tokens.{is_symbol_is}
use Rattle.cp_model_grammar.proofs.Ensures.{Ensures}
use Rattle.cp_model_grammar.proofs.StatementsSound.{IsRead, SoundStatement, arm, separated_statements, separated_arms, compound_from_body, statement_sound}
use Rattle.cp_model_grammar.proofs.Viable.{Inhabited, ViableAt, Viable, Behind, from_start, then, then_ok, stopped_then, some_then, finish, pure_viable, imply, kind_viable, take_at, symbol_viable, of_kind, expect_viable, ViableInner, DeepOr, inside_or, or_some, or_then, separated_viable}
use Rattle.cp_model_grammar.proofs.NamesViable.{identifier_viable, constants_viable}
use Rattle.cp_model_grammar.proofs.ExpressionsViable.{ViableFactor, expression_of_viable, factor_of_viable, designator_viable, optional_arguments_viable, inner_viable, expression_viable}

some_statement : (room : ℕ) → Inhabited (statement room)
some_statement room = ([], s.Empty, λ rest. refl)

-- the readers one level deeper. The statement before an `else` is known to be closed, since it was
-- read like that.
abbrev pub ViableDeeper : ℕ → Deeper → Type 0
ViableDeeper room d = Viable d.expression (expression room) × Viable d.statement (statement room) × SoundStatement room d.statement

-- ---- lists

module _ (room : ℕ) {p : Reader s.Statement} (v : Viable p (statement room)) where
  list_viable : Viable (statements_from p) (λ xs. statements room (statements_of xs))
  unfolding statements_from
  list_viable = imply (λ xs. statements room (statements_of xs)) (separated_viable (statement room) symbol.Semicolon v)
      (λ xs ts rest h. separated_statements room xs ts rest h)

  arm_viable : Viable (arm_of p) (arm room)
  unfolding arm_of
  arm_viable = then constants_viable (λ labels. then (expect_viable symbol.Colon)
      (λ at. finish (λ x. record { labels = labels; body = x }) v (λ x mid rest h m c ts l. (m, l, (mid, (at, c), h)))))

  arms_viable : Viable (separated_by symbol.Semicolon (arm_of p)) (λ xs. arms room (arms_of xs))
  arms_viable = imply (λ xs. arms room (arms_of xs)) (separated_viable (arm room) symbol.Semicolon arm_viable)
      (λ xs ts rest h. separated_arms room xs ts rest h)

-- ---- what opens a level

abbrev Way : Direction → Language
Way d = symbol (direction_symbol d)

some_way : Inhabited Way
some_way = (of_kind (kind.Symbol symbol.To) ∷ [], direction.Up, λ rest. (0, (0, refl)))

direction_by_viable : (ts : List Token) (k : Option Kind) → kind_at ts ≡ k → ViableAt Way (direction_by k ts) ts
direction_by_viable ts (Some (kind.Symbol symbol.To)) e =
    take_at Way (kind.Symbol symbol.To) (λ _. pure direction.Up) ts e (λ at. pure_viable direction.Up (λ mid ts h. (at, h)))
direction_by_viable ts (Some (kind.Symbol symbol.Downto)) e =
    take_at Way (kind.Symbol symbol.Downto) (λ _. pure direction.Down) ts e (λ at. pure_viable direction.Down (λ mid ts h. (at, h)))
direction_by_viable ts _ e = from_start Way some_way ts

direction_viable : Viable direction_of Way
unfolding direction_of
direction_viable = kind_viable direction_by some_way direction_by_viable

-- after `if`, a condition and `then`
module _ (room : ℕ) (d : Deeper) (v : ViableDeeper room d) (at place : ℕ) (c : s.Expression) where
  abbrev Branches : s.Statement → Language
  Branches = Behind (symbol_at symbol.Then) place (Behind (expression room) c (Behind (token (kind.Symbol symbol.If)) at (statement (suc room))))

  some_branch : (x : s.Statement) → Inhabited (Behind (statement room) x Branches)
  some_branch x = ([], s.If c x, λ rest m2 h2 m1 h1 m0 h0 ts t. (m0, (at, t), (m1, h0, (m2, (place, h1), h2))))

  else_viable : (x : s.Statement) (ts : List Token) (b : Bool) → is_symbol symbol.Else (kind_at ts) ≡ b
      → (is_symbol symbol.Else (kind_at ts) ≡ true → ends_open x ≡ false)
      → ViableAt (Behind (statement room) x Branches) (else_part d.statement c x b ts) ts
  unfolding else_part some_branch
  else_viable x ts false e closed = ([], refl, (some_branch x).2)
  else_viable x ts true e closed = take_at (Behind (statement room) x Branches) (kind.Symbol symbol.Else)
      (λ _. d.statement >>= λ y. pure (s.IfElse c x y)) ts (is_symbol_is symbol.Else (kind_at ts) e)
      (λ p. finish (λ y. s.IfElse c x y) v.1 (λ y m4 rest h m3 h3 m2 h2 m1 h1 m0 h0 ts t.
      (closed e, (m0, (at, t), (m1, h0, (m2, (place, h1), (m3, h2, (m4, (p, h3), h))))))))

  branches_at : (o : Outcome s.Statement) (ts : List Token) → ViableAt (statement room) o ts → Ensures o (λ x rest. IsRead room x ts rest)
      → ViableAt Branches (and_then o (λ x. by_kind (λ k. else_part d.statement c x (is_symbol symbol.Else k)))) ts
  branches_at (Ok x) ts h g = then_ok (statement room) Branches
      (else_part d.statement c x.0 (is_symbol symbol.Else (kind_at x.1)) x.1) x.0 h.0 x.1 ts h.1 h.2
      (else_viable x.0 x.1 (is_symbol symbol.Else (kind_at x.1)) refl g.1)
  branches_at (Err Memory) ts h g = tt
  branches_at (Err (Wrong n)) ts h g = stopped_then (statement room) Branches n ts h some_branch
  branches_at (Err (Deep n)) ts h g = stopped_then (statement room) Branches n ts h some_branch

  branches_viable : Viable (d.statement >>= λ x. by_kind (λ k. else_part d.statement c x (is_symbol symbol.Else k))) Branches
  branches_viable = record {
    some = some_then (statement room) Branches v.1.some some_branch;
    at = λ ts. branches_at (d.statement ts) ts (v.1.at ts) (v.2 ts);
  }

module _ (room : ℕ) (i : Option Deeper) (ok : ViableInner ViableDeeper room i) where
  pub block_viable : (ts : List Token) → kind_at ts ≡ Some (kind.Symbol symbol.Begin) → DeepOr (body room) (block_of i ts) ts
  unfolding block_of
  block_viable ts k = inside_or ViableDeeper (λ room. body room)
      (λ d. take_token >>= λ at. statements_from d.statement >>= λ l. expect symbol.End >>= λ _. pure (record { at = at; list = statements_of l })) ts
      (λ room d v. take_at (body (suc room)) (kind.Symbol symbol.Begin)
      (λ at. statements_from d.statement >>= λ l. expect symbol.End >>= λ _. pure (record { at = at; list = statements_of l })) ts k
      (λ at. then (list_viable room v.1) (λ l. finish (λ _. record { at = at; list = statements_of l }) (expect_viable symbol.End)
      (λ p m1 rest h m0 h0 ts t. (m0, t, (m1, h0, (p, h))))))) room i ok

  compound_viable : (ts : List Token) → kind_at ts ≡ Some (kind.Symbol symbol.Begin) → ViableAt (statement room) (compound_of i ts) ts
  unfolding compound_of
  compound_viable ts k = or_then (body room) (statement room) (block_of i ts) (λ b. pure (s.Compound b.list)) ts (some_statement room)
      (block_viable ts k)
      (λ b. pure_viable (s.Compound b.list) (λ mid ts h. compound_from_body room b ts mid h))

  if_viable : (ts : List Token) → kind_at ts ≡ Some (kind.Symbol symbol.If) → ViableAt (statement room) (if_of i ts) ts
  unfolding if_of
  if_viable ts k = or_some (statement room) _ ts (some_statement room) (inside_or ViableDeeper (λ room. statement room)
      (λ d. take_token >>= λ _. d.expression >>= λ c. expect symbol.Then >>= λ _. d.statement >>= λ x. by_kind
      (λ k. else_part d.statement c x (is_symbol symbol.Else k))) ts
      (λ room d v. take_at (statement (suc room)) (kind.Symbol symbol.If)
      (λ _. d.expression >>= λ c. expect symbol.Then >>= λ _. d.statement >>= λ x. by_kind
      (λ k. else_part d.statement c x (is_symbol symbol.Else k))) ts k
      (λ at. then v.0 (λ c. then (expect_viable symbol.Then) (λ place. branches_viable room d v at place c)))) room i ok)

  case_viable : (ts : List Token) → kind_at ts ≡ Some (kind.Symbol symbol.Case) → ViableAt (statement room) (case_of i ts) ts
  unfolding case_of
  case_viable ts k = or_some (statement room) _ ts (some_statement room) (inside_or ViableDeeper (λ room. statement room)
      (λ d. take_token >>= λ _. d.expression >>= λ e. expect symbol.Of >>= λ _. separated_by symbol.Semicolon
      (arm_of d.statement) >>= λ xs. expect symbol.End >>= λ _. pure (s.Case e (arms_of xs))) ts
      (λ room d v. take_at (statement (suc room)) (kind.Symbol symbol.Case)
      (λ _. d.expression >>= λ e. expect symbol.Of >>= λ _. separated_by symbol.Semicolon
      (arm_of d.statement) >>= λ xs. expect symbol.End >>= λ _. pure (s.Case e (arms_of xs))) ts k
      (λ at. then v.0 (λ e. then (expect_viable symbol.Of) (λ p. then (arms_viable room v.1) (λ xs.
      finish (λ _. s.Case e (arms_of xs)) (expect_viable symbol.End)
      (λ q m3 rest h m2 h2 m1 h1 m0 h0 ts t. (m0, (at, t), (m1, h0, (m2, (p, h1), (m3, h2, (q, h))))))))))) room i ok)

  while_viable : (ts : List Token) → kind_at ts ≡ Some (kind.Symbol symbol.While) → ViableAt (statement room) (while_of i ts) ts
  unfolding while_of
  while_viable ts k = or_some (statement room) _ ts (some_statement room) (inside_or ViableDeeper (λ room. statement room)
      (λ d. take_token >>= λ _. d.expression >>= λ c. expect symbol.Do >>= λ _. d.statement >>= λ x. pure (s.While c x)) ts
      (λ room d v. take_at (statement (suc room)) (kind.Symbol symbol.While)
      (λ _. d.expression >>= λ c. expect symbol.Do >>= λ _. d.statement >>= λ x. pure (s.While c x)) ts k
      (λ at. then v.0 (λ c. then (expect_viable symbol.Do)
      (λ p. finish (λ x. s.While c x) v.1 (λ x m2 rest h m1 h1 m0 h0 ts t. (m0, (at, t), (m1, h0, (m2, (p, h1), h)))))))) room i ok)

  repeat_viable : (ts : List Token) → kind_at ts ≡ Some (kind.Symbol symbol.Repeat) → ViableAt (statement room) (repeat_of i ts) ts
  unfolding repeat_of
  repeat_viable ts k = or_some (statement room) _ ts (some_statement room) (inside_or ViableDeeper (λ room. statement room)
      (λ d. take_token >>= λ _. statements_from d.statement >>= λ l. expect symbol.Until >>= λ _. d.expression >>= λ c. pure
      (s.Repeat (statements_of l) c)) ts
      (λ room d v. take_at (statement (suc room)) (kind.Symbol symbol.Repeat)
      (λ _. statements_from d.statement >>= λ l. expect symbol.Until >>= λ _. d.expression >>= λ c. pure (s.Repeat (statements_of l) c)) ts k
      (λ at. then (list_viable room v.1) (λ l. then (expect_viable symbol.Until)
      (λ p. finish (λ c. s.Repeat (statements_of l) c) v.0
      (λ c m2 rest h m1 h1 m0 h0 ts t. (m0, (at, t), (m1, h0, (m2, (p, h1), h)))))))) room i ok)

  for_viable : (ts : List Token) → kind_at ts ≡ Some (kind.Symbol symbol.For) → ViableAt (statement room) (for_of i ts) ts
  unfolding for_of
  for_viable ts k = or_some (statement room) _ ts (some_statement room) (inside_or ViableDeeper (λ room. statement room)
      (λ d. take_token >>= λ _. identifier_of >>= λ v. expect symbol.Assign >>= λ _. d.expression >>= λ a. direction_of >>= λ way.
      d.expression >>= λ b. expect symbol.Do >>= λ _. d.statement >>= λ x. pure (s.For v a way b x)) ts
      (λ room d v. take_at (statement (suc room)) (kind.Symbol symbol.For)
      (λ _. identifier_of >>= λ v. expect symbol.Assign >>= λ _. d.expression >>= λ a. direction_of >>= λ way. d.expression >>= λ b.
      expect symbol.Do >>= λ _. d.statement >>= λ x. pure (s.For v a way b x)) ts k
      (λ at. then identifier_viable (λ x. then (expect_viable symbol.Assign)
      (λ p2. then v.0 (λ a. then direction_viable (λ way. then v.0 (λ b. then (expect_viable symbol.Do) (λ p6.
      finish (λ y. s.For x a way b y) v.1 (λ y m6 rest h m5 h5 m4 h4 m3 h3 m2 h2 m1 h1 m0 h0 ts t.
      (m0, (at, t), (m1, h0, (m2, (p2, h1), (m3, h2, (m4, h3, (m5, h4, (m6, (p6, h5), h))))))))))))))))
      room i ok)

  cycle_viable : (ts : List Token) → kind_at ts ≡ Some (kind.Symbol symbol.Cycle) → ViableAt (statement room) (cycle_of i ts) ts
  unfolding cycle_of
  cycle_viable ts k = or_some (statement room) _ ts (some_statement room) (inside_or ViableDeeper (λ room. statement room)
      (λ d. take_token >>= λ _. statements_from d.statement >>= λ l. expect symbol.End >>= λ _. pure (s.Cycle (statements_of l))) ts
      (λ room d v. take_at (statement (suc room)) (kind.Symbol symbol.Cycle)
      (λ _. statements_from d.statement >>= λ l. expect symbol.End >>= λ _. pure (s.Cycle (statements_of l))) ts k
      (λ at. then (list_viable room v.1) (λ l. finish (λ _. s.Cycle (statements_of l)) (expect_viable symbol.End)
      (λ p m1 rest h m0 h0 ts t. (m0, (at, t), (m1, h0, (p, h))))))) room i ok)

-- ---- what begins with a name, and `init`

module _ (room : ℕ) (i : Option (Reader s.Expression)) (ok : ViableInner ViableFactor room i) where
  -- after a designator
  abbrev Designated : s.Designator → s.Statement → Language
  Designated d = Behind (designator room) d (statement room)

  perform_viable : (d : s.Designator) → Viable (optional_arguments_of i >>= λ es. pure (s.Perform d (expressions_of es))) (Designated d)
  perform_viable d = finish (λ es. s.Perform d (expressions_of es)) (optional_arguments_viable room i ok) (λ es mid rest h ts t. (mid, t, h))

  designated_viable : Viable (designated_of i) (statement room)
  unfolding designated_of assign_or_perform
  designated_viable = then (designator_viable room i ok) (λ d. symbol_viable symbol.Assign (assign_or_perform i d) (perform_viable d).some
      (λ ts k. take_at (Designated d) (kind.Symbol symbol.Assign) (λ at. expression_of (factor_of i) >>= λ e. pure (s.Assign d at e)) ts k
      (λ at. finish (λ e. s.Assign d at e) (expression_of_viable room (factor_of_viable room i ok))
      (λ e m1 rest h m0 h0 ts t. (m0, t, (m1, h0, h)))))
      (λ ts. (perform_viable d).at ts))

  init_item_viable : Viable (init_item_of i) (init_item room)
  unfolding init_item_of
  init_item_viable = then identifier_viable (λ x. finish (λ es. record { component = x; arguments = expressions_of es })
      (optional_arguments_viable room i ok) (λ es mid rest h ts t. (mid, t, h)))

  init_viable : (ts : List Token) → kind_at ts ≡ Some (kind.Symbol symbol.Init) → ViableAt (statement room) (init_of i ts) ts
  unfolding init_of
  init_viable ts k = take_at (statement room) (kind.Symbol symbol.Init)
      (λ at. separated_by symbol.Comma (init_item_of i) >>= λ is. pure (s.Init at is)) ts k
      (λ at. finish (λ is. s.Init at is) (separated_viable (init_item room) symbol.Comma init_item_viable) (λ is mid rest h ts t. (mid, t, h)))

  module _ (d : Option Deeper) (okd : ViableInner ViableDeeper room d) where
    statement_by_viable : (ts : List Token) (k : Option Kind) → kind_at ts ≡ k → ViableAt (statement room) (statement_by i d k ts) ts
    unfolding statement_by
    statement_by_viable ts (Some (kind.Name name)) k = designated_viable.at ts
    statement_by_viable ts (Some (kind.Symbol symbol.Begin)) k = compound_viable room d okd ts k
    statement_by_viable ts (Some (kind.Symbol symbol.If)) k = if_viable room d okd ts k
    statement_by_viable ts (Some (kind.Symbol symbol.Case)) k = case_viable room d okd ts k
    statement_by_viable ts (Some (kind.Symbol symbol.While)) k = while_viable room d okd ts k
    statement_by_viable ts (Some (kind.Symbol symbol.Repeat)) k = repeat_viable room d okd ts k
    statement_by_viable ts (Some (kind.Symbol symbol.For)) k = for_viable room d okd ts k
    statement_by_viable ts (Some (kind.Symbol symbol.Cycle)) k = cycle_viable room d okd ts k
    statement_by_viable ts (Some (kind.Symbol symbol.Init)) k = init_viable ts k
    statement_by_viable ts _ k = ([], refl, λ rest. refl)

    statement_of_viable : Viable (statement_of i d) (statement room)
    unfolding statement_of
    statement_of_viable = kind_viable (statement_by i d) (some_statement room) statement_by_viable

pub deeper_viable : (room : ℕ) → ViableInner ViableDeeper room (deeper_at room)
unfolding deeper_at
deeper_viable zero = tt
deeper_viable (suc room) = (
  expression_viable room,
  statement_of_viable room (inner_at room) (inner_viable room) (deeper_at room) (deeper_viable room),
  statement_sound room,
)
