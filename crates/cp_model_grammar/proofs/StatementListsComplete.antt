-- What the grammar allows as a list of statements or arms is read.
use Rattle.std.proofs.Common.{◌≡◌, ℕ, ◌≤◌, true, false, List, [], ◌∷◌, length, Option, Some, Ok, refl, ap, arith}
use Rattle.cp_model.specs.Languages.{symbol_at, each_behind, separated_list}
use Rattle.cp_model.specs.Syntax as s
use Rattle.cp_model.specs.View.{LabelledStatement, statements_of, arms_of}
use Rattle.cp_model.specs.GrammarStatements.{statement, statements, more_statements, arms, more_arms}
use Rattle.cp_model.specs.Tokens.{Token}
use Rattle.cp_model.specs.Tokens.{Kind}
use Rattle.cp_model.specs.Tokens as kind
use Rattle.cp_model.specs.declared.token.Symbol.TheVariants as symbol
use Rattle.cp_model.specs.declared.tree.Constant.{Constant}
use Rattle.cp_model_grammar.specs.Kinds.{is_symbol}
use Rattle.cp_model_grammar.specs.Reading.{Reader, kind_at, separated_by}
use Rattle.cp_model_grammar.specs.Names.{constants_of}
use Rattle.cp_model_grammar.specs.Expressions.{begins_selector}
use Rattle.cp_model_grammar.specs.Statements.{statements_from, arm_of, statement_at}
use Rattle.cp_model_grammar.specs.Follows.{ends_expression, ends_statement, MayFollow}
use Rattle.cp_model_grammar.proofs.Tokens.{kind_of_symbol, symbol_shrinks, expect_reads, colon_is_no_comma}
use Rattle.cp_model_grammar.proofs.Lists.{Each, each_imply, ItemReads, separated_reads}
use Rattle.cp_model_grammar.proofs.NamesComplete.{constants_reads, constants_shrink}
use Rattle.cp_model_grammar.proofs.StatementsSound.{arm}
use Rattle.cp_model_grammar.proofs.StatementsShrink.{statement_shrinks}

-- ---- what may follow

pub statement_then_expression : (k : Option Kind) → ends_statement k ≡ true → ends_expression k ≡ true
statement_then_expression (Some (kind.Symbol symbol.Semicolon)) h = refl
statement_then_expression (Some (kind.Symbol symbol.End)) h = refl
statement_then_expression (Some (kind.Symbol symbol.Until)) h = refl
statement_then_expression (Some (kind.Symbol symbol.Else)) h = refl
statement_then_expression _ h = absurd cc

-- what follows a statement continues nothing inside it
pub record Stops (k : Option Kind) : Type 0 where
  pub selector : begins_selector k ≡ false
  pub assign : is_symbol symbol.Assign k ≡ false
  pub argument : is_symbol symbol.OpenParenthesis k ≡ false
  pub comma : is_symbol symbol.Comma k ≡ false

pub statement_stops : (k : Option Kind) → ends_statement k ≡ true → Stops k
unfolding is_symbol
statement_stops (Some (kind.Symbol symbol.Semicolon)) h = record { selector = refl; assign = refl; argument = refl; comma = refl }
statement_stops (Some (kind.Symbol symbol.End)) h = record { selector = refl; assign = refl; argument = refl; comma = refl }
statement_stops (Some (kind.Symbol symbol.Until)) h = record { selector = refl; assign = refl; argument = refl; comma = refl }
statement_stops (Some (kind.Symbol symbol.Else)) h = record { selector = refl; assign = refl; argument = refl; comma = refl }
statement_stops _ h = absurd cc

semicolon_follows : (x : s.Statement) → MayFollow x (Some (kind.Symbol symbol.Semicolon))
unfolding is_symbol
semicolon_follows x = (refl, λ o. refl)

pub end_follows : (x : s.Statement) → MayFollow x (Some (kind.Symbol symbol.End))
unfolding is_symbol
end_follows x = (refl, λ o. refl)

pub until_follows : (x : s.Statement) → MayFollow x (Some (kind.Symbol symbol.Until))
unfolding is_symbol
until_follows x = (refl, λ o. refl)

pub until_is_no_semicolon : is_symbol symbol.Semicolon (Some (kind.Symbol symbol.Until)) ≡ false
unfolding is_symbol
until_is_no_semicolon = refl

pub comma_is_no_argument : is_symbol symbol.OpenParenthesis (Some (kind.Symbol symbol.Comma)) ≡ false
unfolding is_symbol
comma_is_no_argument = refl

pub argument_is_no_assign : is_symbol symbol.Assign (Some (kind.Symbol symbol.OpenParenthesis)) ≡ false
unfolding is_symbol
argument_is_no_assign = refl

abbrev pub StatementReads : s.Statement → Type 0
StatementReads x = (room : ℕ) (ts rest : List Token) → statement room x ts rest → MayFollow x (kind_at rest) → statement_at room ts ≡ Ok (x, rest)

-- ---- lists of statements and arms

abbrev pub listed_statements : s.Statements → List s.Statement
listed_statements s.NoStatements = []
listed_statements (s.MoreStatements x xs) = x ∷ listed_statements xs

pub statements_listed : (xs : s.Statements) → statements_of (listed_statements xs) ≡ xs
statements_listed s.NoStatements = refl
statements_listed (s.MoreStatements x xs) = ap (s.MoreStatements x) (statements_listed xs)

listed_behind : (room : ℕ) (xs : s.Statements) (ts rest : List Token) → more_statements room xs ts rest
    → each_behind symbol.Semicolon (statement room) (listed_statements xs) ts rest
listed_behind room s.NoStatements ts rest h = h
listed_behind room (s.MoreStatements x xs) ts rest h = (h.0, h.1, (h.2.0, h.2.1, listed_behind room xs h.2.0 rest h.2.2))

listed_separated : (room : ℕ) (xs : s.Statements) (ts rest : List Token) → statements room xs ts rest
    → separated_list symbol.Semicolon (statement room) (listed_statements xs) ts rest
listed_separated room s.NoStatements ts rest h = h
listed_separated room (s.MoreStatements x xs) ts rest h = (h.0, h.1, listed_behind room xs h.0 rest h.2)

pub statements_reads : (xs : s.Statements) → Each StatementReads (listed_statements xs) → (room : ℕ) (ts rest : List Token)
    → statements room xs ts rest
    → ((x : s.Statement) → MayFollow x (kind_at rest)) → is_symbol symbol.Semicolon (kind_at rest) ≡ false
    → statements_from (statement_at room) ts ≡ Ok (listed_statements xs, rest)
unfolding statements_from
statements_reads xs all room ts rest h follows stop =
    separated_reads (statement room) (statement_at room) MayFollow symbol.Semicolon semicolon_follows
    (λ x ts rest h. statement_shrinks x room ts rest h) (listed_statements xs)
    (each_imply StatementReads (ItemReads (statement room) (statement_at room) MayFollow) (λ x r ts rest h follows. r room ts rest h follows)
    (listed_statements xs) all)
    ts rest (listed_separated room xs ts rest h) follows stop

abbrev pub listed_arms : s.Arms → List LabelledStatement
listed_arms s.NoArms = []
listed_arms (s.MoreArms labels x a) = record { labels = labels; body = x } ∷ listed_arms a

pub arms_listed : (a : s.Arms) → arms_of (listed_arms a) ≡ a
arms_listed s.NoArms = refl
arms_listed (s.MoreArms labels x a) = ap (s.MoreArms labels x) (arms_listed a)

arms_behind : (room : ℕ) (a : s.Arms) (ts rest : List Token) → more_arms room a ts rest
    → each_behind symbol.Semicolon (arm room) (listed_arms a) ts rest
arms_behind room s.NoArms ts rest h = h
arms_behind room (s.MoreArms labels x a) ts rest h =
    let f = h.2 in let g = f.2 in (h.0, h.1, (g.2.0, (f.0, f.1, (g.0, g.1, g.2.1)), arms_behind room a g.2.0 rest g.2.2))

arms_separated : (room : ℕ) (a : s.Arms) (ts rest : List Token) → arms room a ts rest → separated_list symbol.Semicolon (arm room) (listed_arms a) ts rest
arms_separated room s.NoArms ts rest h = h
arms_separated room (s.MoreArms labels x a) ts rest h = let g = h.2 in (g.2.0, (h.0, h.1, (g.0, g.1, g.2.1)), arms_behind room a g.2.0 rest g.2.2)

abbrev pub ArmReads : LabelledStatement → Type 0
ArmReads a = StatementReads a.body

abbrev ArmFollows : LabelledStatement → Option Kind → Type 0
ArmFollows a k = MayFollow a.body k

arm_reads : (p : Reader s.Statement) (labels : List Constant) (x : s.Statement) (at : ℕ) (ts mid last rest : List Token)
    → constants_of ts ≡ Ok (labels, mid) → symbol_at symbol.Colon at mid last → p last ≡ Ok (x, rest)
    → arm_of p ts ≡ Ok (record { labels = labels; body = x }, rest)
unfolding arm_of
arm_reads p labels x at ts mid last rest one c two = rw (one, expect_reads symbol.Colon at mid last c, two) refl

arm_complete : (room : ℕ) (a : LabelledStatement) → ArmReads a → ItemReads (arm room) (arm_of (statement_at room)) ArmFollows a
arm_complete room a r ts rest h follows =
    let c = h.2.1 in
    arm_reads (statement_at room) a.labels a.body c.0 ts h.0 h.2.0 rest
    (constants_reads a.labels ts h.0 h.1 (rw (kind_of_symbol symbol.Colon h.0 h.2.0 c) colon_is_no_comma)) c.1 (r room h.2.0 rest h.2.2 follows)

arm_shrinks : (room : ℕ) (a : LabelledStatement) (ts rest : List Token) → arm room a ts rest → length rest ≤ length ts
arm_shrinks room a ts rest h =
    let g = h.2 in
    omega (arith, constants_shrink a.labels ts h.0 h.1, symbol_shrinks symbol.Colon h.0 g.0 g.1, statement_shrinks a.body room g.0 rest g.2)

pub arms_reads : (a : s.Arms) → Each ArmReads (listed_arms a) → (room : ℕ) (ts rest : List Token) → arms room a ts rest
    → ((x : LabelledStatement) → ArmFollows x (kind_at rest))
    → is_symbol symbol.Semicolon (kind_at rest) ≡ false → separated_by symbol.Semicolon (arm_of (statement_at room)) ts ≡ Ok (listed_arms a, rest)
arms_reads a all room ts rest h follows stop =
    separated_reads (arm room) (arm_of (statement_at room)) ArmFollows symbol.Semicolon (λ x. semicolon_follows x.body) (arm_shrinks room)
    (listed_arms a)
    (each_imply ArmReads (ItemReads (arm room) (arm_of (statement_at room)) ArmFollows) (arm_complete room) (listed_arms a) all)
    ts rest (arms_separated room a ts rest h) follows stop
