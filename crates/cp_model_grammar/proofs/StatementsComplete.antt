-- What the grammar allows as a statement is read.
use Rattle.std.proofs.Common.{◌≡◌, ℕ, zero, suc, true, false, List, Option, Some, Ok, refl, sym, ap, ◌∙◌}
use Rattle.cp_model.specs.Languages.{symbol_at, identifier}
use Rattle.cp_model.specs.Syntax as s
use Rattle.cp_model.specs.View.{LabelledStatement, expressions_of, statements_of, arms_of}
use Rattle.cp_model.specs.GrammarExpressions.{arguments}
use Rattle.cp_model.specs.GrammarStatements.{direction_symbol, init_item}
use Rattle.cp_model.specs.Tokens.{Token}
use Rattle.cp_model.specs.Tokens.{Kind}
use Rattle.cp_model.specs.Tokens as kind
use Rattle.cp_model.specs.declared.token.Symbol.TheVariants as symbol
use Rattle.cp_model.specs.declared.tree.Identifier.{Identifier}
use Rattle.cp_model.specs.declared.tree.Direction.{Direction}
use Rattle.cp_model.specs.declared.tree.Direction.TheVariants as direction
use Rattle.cp_model_grammar.specs.Kinds.{is_symbol}
use Rattle.cp_model_grammar.specs.Reading.{Reader, pure, kind_at, separated_by}
use Rattle.cp_model_grammar.specs.Expressions.{expression_of, factor_of, begins_selector, designator_of, optional_arguments_of, inner_at, expression_at}
use Rattle.cp_model_grammar.specs.Statements.{Deeper, direction_of, statements_from, arm_of, else_part, block_of, compound_of, if_of, case_of, while_of, repeat_of, for_of, cycle_of, assign_or_perform, designated_of, init_item_of, init_of, statement_by, statement_of, deeper_at, statement_at}
use Rattle.cp_model_grammar.specs.Follows.{ends_expression, ends_statement}
use Rattle.cp_model_grammar.specs.Laws.{StatementsAreComplete}
use Rattle.cp_model_grammar.proofs.Tokens.{is_symbol_refl, kind_of, kind_of_symbol, expect_reads, end_is_no_semicolon}
use Rattle.cp_model_grammar.proofs.Lists.{Each, each_of, ItemReads, separated_reads}
use Rattle.cp_model_grammar.proofs.NamesComplete.{identifier_reads}
use Rattle.cp_model_grammar.proofs.FactorsComplete.{listed, expressions_listed, designators_complete, expression_complete, arguments_complete, name_begins}
use Rattle.cp_model_grammar.proofs.StatementsShrink.{init_item_shrinks}
use Rattle.cp_model_grammar.proofs.StatementListsComplete.{ArmReads, StatementReads, Stops, argument_is_no_assign, arms_listed, arms_reads, comma_is_no_argument, end_follows, listed_arms, listed_statements, statement_stops, statement_then_expression, statements_listed, statements_reads, until_follows, until_is_no_semicolon}

-- ---- what opens a level

direction_reads : (d : Direction) (at : ℕ) (ts rest : List Token) → symbol_at (direction_symbol d) at ts rest → direction_of ts ≡ Ok (d, rest)
unfolding direction_of
direction_reads direction.Up at ts rest h = rw h.1 refl
direction_reads direction.Down at ts rest h = rw h.1 refl

module _ (inner : Option (Reader s.Expression)) (d : Deeper) (at place : ℕ) (ts mid last rest : List Token) where
  compound_reads : (l : List s.Statement) → symbol_at symbol.Begin at ts mid → statements_from d.statement mid ≡ Ok (l, last)
      → symbol_at symbol.End place last rest
      → statement_of inner (Some d) ts ≡ Ok (s.Compound (statements_of l), rest)
  unfolding statement_of statement_by compound_of block_of
  compound_reads l t one k = rw (t.1, one, expect_reads symbol.End place last rest k) refl

  cycle_reads : (l : List s.Statement) → symbol_at symbol.Cycle at ts mid → statements_from d.statement mid ≡ Ok (l, last)
      → symbol_at symbol.End place last rest
      → statement_of inner (Some d) ts ≡ Ok (s.Cycle (statements_of l), rest)
  unfolding statement_of statement_by cycle_of
  cycle_reads l t one k = rw (t.1, one, expect_reads symbol.End place last rest k) refl

module _ (inner : Option (Reader s.Expression)) (d : Deeper) (at place : ℕ) (ts mid last behind rest : List Token) where
  while_reads : (c : s.Expression) (x : s.Statement) → symbol_at symbol.While at ts mid → d.expression mid ≡ Ok (c, last)
      → symbol_at symbol.Do place last behind → d.statement behind ≡ Ok (x, rest)
      → statement_of inner (Some d) ts ≡ Ok (s.While c x, rest)
  unfolding statement_of statement_by while_of
  while_reads c x t one k two = rw (t.1, one, expect_reads symbol.Do place last behind k, two) refl

  repeat_reads : (l : List s.Statement) (c : s.Expression) → symbol_at symbol.Repeat at ts mid → statements_from d.statement mid ≡ Ok (l, last)
      → symbol_at symbol.Until place last behind → d.expression behind ≡ Ok (c, rest)
      → statement_of inner (Some d) ts ≡ Ok (s.Repeat (statements_of l) c, rest)
  unfolding statement_of statement_by repeat_of
  repeat_reads l c t one k two = rw (t.1, one, expect_reads symbol.Until place last behind k, two) refl

  if_reads : (c : s.Expression) (x : s.Statement) → symbol_at symbol.If at ts mid → d.expression mid ≡ Ok (c, last)
      → symbol_at symbol.Then place last behind → d.statement behind ≡ Ok (x, rest)
      → is_symbol symbol.Else (kind_at rest) ≡ false → statement_of inner (Some d) ts ≡ Ok (s.If c x, rest)
  unfolding statement_of statement_by if_of else_part
  if_reads c x t one k two stop = rw (t.1, one, expect_reads symbol.Then place last behind k, two, stop) refl

  if_else_reads : (c : s.Expression) (x y : s.Statement) (e : ℕ) (other final : List Token) → symbol_at symbol.If at ts mid
      → d.expression mid ≡ Ok (c, last) → symbol_at symbol.Then place last behind
      → d.statement behind ≡ Ok (x, other) → symbol_at symbol.Else e other final → d.statement final ≡ Ok (y, rest)
      → statement_of inner (Some d) ts ≡ Ok (s.IfElse c x y, rest)
  unfolding statement_of statement_by if_of else_part
  if_else_reads c x y e other final t one k two z three =
      rw (
        t.1,
        one,
        expect_reads symbol.Then place last behind k,
        two,
        kind_of (kind.Symbol symbol.Else) e other final z,
        is_symbol_refl symbol.Else,
        z.1,
        three,
      ) refl

  case_reads : (e : s.Expression) (a : List LabelledStatement) (end : ℕ) (other : List Token) → symbol_at symbol.Case at ts mid
      → d.expression mid ≡ Ok (e, last) → symbol_at symbol.Of place last behind
      → separated_by symbol.Semicolon (arm_of d.statement) behind ≡ Ok (a, other) → symbol_at symbol.End end other rest
      → statement_of inner (Some d) ts ≡ Ok (s.Case e (arms_of a), rest)
  unfolding statement_of statement_by case_of
  case_reads e a end other t one k two z = rw (
    t.1,
    one,
    expect_reads symbol.Of place last behind k,
    two,
    expect_reads symbol.End end other rest z,
  ) refl

module _ (inner : Option (Reader s.Expression)) (d : Deeper) (ts t1 t2 t3 t4 t5 t6 t7 rest : List Token) where
  for_reads : (v : Identifier) (a b : s.Expression) (way : Direction) (x : s.Statement) (p1 p2 p3 p4 : ℕ) → symbol_at symbol.For p1 ts t1
      → identifier v t1 t2 → symbol_at symbol.Assign p2 t2 t3
      → d.expression t3 ≡ Ok (a, t4) → symbol_at (direction_symbol way) p3 t4 t5 → d.expression t5 ≡ Ok (b, t6) → symbol_at symbol.Do p4 t6 t7
      → d.statement t7 ≡ Ok (x, rest)
      → statement_of inner (Some d) ts ≡ Ok (s.For v a way b x, rest)
  unfolding statement_of statement_by for_of
  for_reads v a b way x p1 p2 p3 p4 h1 h2 h3 h4 h5 h6 h7 h8 =
      rw (
        h1.1,
        identifier_reads v t1 t2 h2,
        expect_reads symbol.Assign p2 t2 t3 h3,
        h4,
        direction_reads way p3 t4 t5 h5,
        h6,
        expect_reads symbol.Do p4 t6 t7 h7,
        h8,
      ) refl

abbrev pub readers : ℕ → Deeper
readers room = record { expression = expression_at room; statement = statement_at room }

pub deeper_suc : (room : ℕ) → deeper_at (suc room) ≡ Some (readers room)
unfolding deeper_at
deeper_suc room = refl

compound_complete : (l : s.Statements) → Each StatementReads (listed_statements l) → StatementReads (s.Compound l)
compound_complete l all zero ts rest h follows = absurd h
compound_complete l all (suc room) ts rest h follows =
    let e = h.2.2 in
    rw (deeper_suc room)
    (compound_reads (inner_at (suc room)) (readers room) h.1.0 e.0 ts h.0 h.2.0 rest (listed_statements l) h.1.1
    (statements_reads l all room h.0 h.2.0 h.2.1 (rw (kind_of_symbol symbol.End h.2.0 rest e) end_follows)
    (rw (kind_of_symbol symbol.End h.2.0 rest e) end_is_no_semicolon)) e.1
    ∙ ap (λ (l : s.Statements). Ok (s.Compound l, rest)) (statements_listed l))

cycle_complete : (l : s.Statements) → Each StatementReads (listed_statements l) → StatementReads (s.Cycle l)
cycle_complete l all zero ts rest h follows = absurd h
cycle_complete l all (suc room) ts rest h follows =
    let e = h.2.2 in
    rw (deeper_suc room)
    (cycle_reads (inner_at (suc room)) (readers room) h.1.0 e.0 ts h.0 h.2.0 rest (listed_statements l) h.1.1
    (statements_reads l all room h.0 h.2.0 h.2.1 (rw (kind_of_symbol symbol.End h.2.0 rest e) end_follows)
    (rw (kind_of_symbol symbol.End h.2.0 rest e) end_is_no_semicolon)) e.1
    ∙ ap (λ (l : s.Statements). Ok (s.Cycle l, rest)) (statements_listed l))

while_complete : (c : s.Expression) (x : s.Statement) → StatementReads x → StatementReads (s.While c x)
while_complete c x r zero ts rest h follows = absurd h
while_complete c x r (suc room) ts rest h follows =
    let g = h.2.2 in
    rw (deeper_suc room)
    (while_reads (inner_at (suc room)) (readers room) h.1.0 g.1.0 ts h.0 h.2.0 g.0 rest c x h.1.1
    (expression_complete room h.0 h.2.0 c h.2.1 (rw g.1.1.1 refl)) g.1.1 (r room g.0 rest g.2 follows))

repeat_complete : (l : s.Statements) (c : s.Expression) → Each StatementReads (listed_statements l) → StatementReads (s.Repeat l c)
repeat_complete l c all zero ts rest h follows = absurd h
repeat_complete l c all (suc room) ts rest h follows =
    let g = h.2.2 in
    rw (deeper_suc room)
    (repeat_reads (inner_at (suc room)) (readers room) h.1.0 g.1.0 ts h.0 h.2.0 g.0 rest (listed_statements l) c h.1.1
    (statements_reads l all room h.0 h.2.0 h.2.1 (rw (kind_of_symbol symbol.Until h.2.0 g.0 g.1) until_follows)
    (rw (kind_of_symbol symbol.Until h.2.0 g.0 g.1) until_is_no_semicolon)) g.1.1
    (expression_complete room g.0 rest c g.2 (statement_then_expression (kind_at rest) follows.0))
    ∙ ap (λ (l : s.Statements). Ok (s.Repeat l c, rest)) (statements_listed l))

if_complete : (c : s.Expression) (x : s.Statement) → StatementReads x → StatementReads (s.If c x)
if_complete c x r zero ts rest h follows = absurd h
if_complete c x r (suc room) ts rest h follows =
    let g = h.2.2 in
    rw (deeper_suc room)
    (if_reads (inner_at (suc room)) (readers room) h.1.0 g.1.0 ts h.0 h.2.0 g.0 rest c x h.1.1
    (expression_complete room h.0 h.2.0 c h.2.1 (rw g.1.1.1 refl)) g.1.1
    (r room g.0 rest g.2 (follows.0, λ o. follows.1 refl)) (follows.1 refl))

if_else_complete : (c : s.Expression) (x y : s.Statement) → StatementReads x → StatementReads y → StatementReads (s.IfElse c x y)
if_else_complete c x y r q zero ts rest h follows = absurd h.1
if_else_complete c x y r q (suc room) ts rest h follows =
    let w = h.1 in let g = w.2.2 in let v = g.2 in let z = v.2 in
    rw (deeper_suc room)
    (if_else_reads (inner_at (suc room)) (readers room) w.1.0 g.1.0 ts w.0 w.2.0 g.0 rest c x y z.1.0 v.0 z.0 w.1.1
    (expression_complete room w.0 w.2.0 c w.2.1 (rw g.1.1.1 refl)) g.1.1
    (r room g.0 v.0 v.1 (rw z.1.1.1 refl, λ o. absurd (let n : true ≡ false = sym o ∙ h.0 in cc))) z.1.1 (q room z.0 rest z.2 follows))

case_complete : (e : s.Expression) (a : s.Arms) → Each ArmReads (listed_arms a) → StatementReads (s.Case e a)
case_complete e a all zero ts rest h follows = absurd h
case_complete e a all (suc room) ts rest h follows =
    let g = h.2.2 in let v = g.2.2 in
    rw (deeper_suc room)
    (case_reads (inner_at (suc room)) (readers room) h.1.0 g.1.0 ts h.0 h.2.0 g.0 rest e (listed_arms a) v.0 g.2.0 h.1.1
    (expression_complete room h.0 h.2.0 e h.2.1 (rw g.1.1.1 refl)) g.1.1
    (arms_reads a all room g.0 g.2.0 g.2.1 (rw (kind_of_symbol symbol.End g.2.0 rest v) (λ x. end_follows x.body))
    (rw (kind_of_symbol symbol.End g.2.0 rest v) end_is_no_semicolon)) v.1
    ∙ ap (λ (a : s.Arms). Ok (s.Case e a, rest)) (arms_listed a))

ends_at_direction : (d : Direction) → ends_expression (Some (kind.Symbol (direction_symbol d))) ≡ true
ends_at_direction direction.Up = refl
ends_at_direction direction.Down = refl

for_complete : (v : Identifier) (a : s.Expression) (d : Direction) (b : s.Expression) (x : s.Statement) → StatementReads x
    → StatementReads (s.For v a d b x)
for_complete v a d b x r zero ts rest h follows = absurd h
for_complete v a d b x r (suc room) ts rest h follows =
    let h1 = h.2 in let h2 = h1.2 in let h3 = h2.2 in let h4 = h3.2 in let h5 = h4.2 in let h6 = h5.2 in
    rw (deeper_suc room)
    (for_reads (inner_at (suc room)) (readers room) ts h.0 h1.0 h2.0 h3.0 h4.0 h5.0 h6.0 rest v a b d x h.1.0 h2.1.0 h4.1.0 h6.1.0 h.1.1 h1.1 h2.1.1
    (expression_complete room h2.0 h3.0 a h3.1 (rw (kind_of_symbol (direction_symbol d) h3.0 h4.0 h4.1) (ends_at_direction d))) h4.1.1
    (expression_complete room h4.0 h5.0 b h5.1 (rw h6.1.1.1 refl)) h6.1.1 (r room h6.0 rest h6.2 follows))

-- ---- what begins with a name, and `init`

module _ (inner : Option (Reader s.Expression)) (deeper : Option Deeper) (name : List ℕ) (d : s.Designator) (ts mid : List Token)
    (n : kind_at ts ≡ Some (kind.Name name)) (one : designator_of inner ts ≡ Ok (d, mid)) where
  assign_reads : (at : ℕ) (last rest : List Token) (e : s.Expression) → symbol_at symbol.Assign at mid last
      → expression_of (factor_of inner) last ≡ Ok (e, rest) → statement_of inner deeper ts ≡ Ok (s.Assign d at e, rest)
  unfolding statement_of statement_by designated_of assign_or_perform
  assign_reads at last rest e t two = rw (n, one, kind_of (kind.Symbol symbol.Assign) at mid last t, is_symbol_refl symbol.Assign, t.1, two) refl

  perform_reads : (rest : List Token) (es : List s.Expression) → is_symbol symbol.Assign (kind_at mid) ≡ false
      → optional_arguments_of inner mid ≡ Ok (es, rest) → statement_of inner deeper ts ≡ Ok (s.Perform d (expressions_of es), rest)
  unfolding statement_of statement_by designated_of assign_or_perform
  perform_reads rest es stop two = rw (n, one, stop, two) refl

assign_complete : (d : s.Designator) (at : ℕ) (e : s.Expression) → StatementReads (s.Assign d at e)
assign_complete d at e room ts rest h follows =
    let name = name_begins d room ts h.0 h.1 in
    assign_reads (inner_at room) (deeper_at room) name.0 d ts h.0 name.1
    (designators_complete d room ts h.0 h.1 (rw h.2.1.1 refl)) at h.2.0 rest e h.2.1
    (expression_complete room h.2.0 rest e h.2.2 (statement_then_expression (kind_at rest) follows.0))

arguments_stop : (es : s.Expressions) (room : ℕ) (ts rest : List Token) → arguments room es ts rest → Stops (kind_at rest)
    → (begins_selector (kind_at ts) ≡ false) × (is_symbol symbol.Assign (kind_at ts) ≡ false)
arguments_stop s.NoExpressions room ts rest h stops = rw h (stops.selector, stops.assign)
arguments_stop (s.MoreExpressions e es) zero ts rest h stops = absurd h
arguments_stop (s.MoreExpressions e es) (suc room) ts rest h stops =
    rw (kind_of_symbol symbol.OpenParenthesis ts h.0 h.1) (refl, argument_is_no_assign)

perform_complete : (d : s.Designator) (es : s.Expressions) → StatementReads (s.Perform d es)
perform_complete d es room ts rest h follows =
    let stops = statement_stops (kind_at rest) follows.0 in
    let stop = arguments_stop es room h.0 rest h.2 stops in
    let name = name_begins d room ts h.0 h.1 in
    perform_reads (inner_at room) (deeper_at room) name.0 d ts h.0 name.1 (designators_complete d room ts h.0 h.1 stop.0) rest (listed es) stop.1
    (arguments_complete es room h.0 rest h.2 stops.argument)
    ∙ ap (λ (es : s.Expressions). Ok (s.Perform d es, rest)) (expressions_listed es)

item_reads : (inner : Option (Reader s.Expression)) (x : Identifier) (es : List s.Expression) (ts mid rest : List Token) → identifier x ts mid
    → optional_arguments_of inner mid ≡ Ok (es, rest)
    → init_item_of inner ts ≡ Ok (record { component = x; arguments = expressions_of es }, rest)
unfolding init_item_of
item_reads inner x es ts mid rest t one = rw (identifier_reads x ts mid t, one) refl

abbrev NoArgument : s.InitItem → Option Kind → Type 0
NoArgument i k = is_symbol symbol.OpenParenthesis k ≡ false

item_complete : (room : ℕ) (i : s.InitItem) → ItemReads (init_item room) (init_item_of (inner_at room)) NoArgument i
item_complete room i ts rest h stop =
    item_reads (inner_at room) i.component (listed i.arguments) ts h.0 rest h.1 (arguments_complete i.arguments room h.0 rest h.2 stop)
    ∙ ap (λ (es : s.Expressions). Ok (record { component = i.component; arguments = es }, rest)) (expressions_listed i.arguments)

init_reads : (inner : Option (Reader s.Expression)) (deeper : Option Deeper) (at : ℕ) (is : List s.InitItem) (ts mid rest : List Token)
    → symbol_at symbol.Init at ts mid
    → separated_by symbol.Comma (init_item_of inner) mid ≡ Ok (is, rest) → statement_of inner deeper ts ≡ Ok (s.Init at is, rest)
unfolding statement_of statement_by init_of
init_reads inner deeper at is ts mid rest t one = rw (t.1, one) refl

init_complete : (at : ℕ) (is : List s.InitItem) → StatementReads (s.Init at is)
init_complete at is room ts rest h follows =
    let stops = statement_stops (kind_at rest) follows.0 in
    init_reads (inner_at room) (deeper_at room) at is ts h.0 rest h.1
    (separated_reads (init_item room) (init_item_of (inner_at room)) NoArgument symbol.Comma (λ i. comma_is_no_argument) (init_item_shrinks room) is
    (each_of (ItemReads (init_item room) (init_item_of (inner_at room)) NoArgument) (item_complete room) is) h.0 rest h.2
    (λ i. stops.argument) stops.comma)

-- ---- all statements

empty_by : (inner : Option (Reader s.Expression)) (deeper : Option Deeper) (k : Option Kind) → ends_statement k ≡ true
    → statement_by inner deeper k ≡ pure s.Empty
unfolding statement_by
empty_by inner deeper (Some (kind.Symbol symbol.Semicolon)) h = refl
empty_by inner deeper (Some (kind.Symbol symbol.End)) h = refl
empty_by inner deeper (Some (kind.Symbol symbol.Until)) h = refl
empty_by inner deeper (Some (kind.Symbol symbol.Else)) h = refl
empty_by inner deeper _ h = absurd cc

empty_complete : StatementReads s.Empty
unfolding statement_of
empty_complete room ts rest h follows = rw h (ap (λ (p : Reader s.Statement). p rest)
    (empty_by (inner_at room) (deeper_at room) (kind_at rest) follows.0))

mutual
  pub statement_complete : (x : s.Statement) → StatementReads x
  statement_complete s.Empty = empty_complete
  statement_complete (s.Assign d at e) = assign_complete d at e
  statement_complete (s.Perform d es) = perform_complete d es
  statement_complete (s.Compound l) = compound_complete l (all_complete l)
  statement_complete (s.If c x) = if_complete c x (statement_complete x)
  statement_complete (s.IfElse c x y) = if_else_complete c x y (statement_complete x) (statement_complete y)
  statement_complete (s.Case e a) = case_complete e a (arms_complete a)
  statement_complete (s.While c x) = while_complete c x (statement_complete x)
  statement_complete (s.Repeat l c) = repeat_complete l c (all_complete l)
  statement_complete (s.For v a d b x) = for_complete v a d b x (statement_complete x)
  statement_complete (s.Cycle l) = cycle_complete l (all_complete l)
  statement_complete (s.Init at is) = init_complete at is

  pub all_complete : (xs : s.Statements) → Each StatementReads (listed_statements xs)
  all_complete s.NoStatements = tt
  all_complete (s.MoreStatements x xs) = (statement_complete x, all_complete xs)

  arms_complete : (a : s.Arms) → Each ArmReads (listed_arms a)
  arms_complete s.NoArms = tt
  arms_complete (s.MoreArms labels x a) = (statement_complete x, arms_complete a)

pub statements_are_complete : StatementsAreComplete
statements_are_complete room ts rest x h follows = statement_complete x room ts rest h follows
