-- A statement consists of no more tokens than there are.
use Rattle.std.proofs.Common.{ℕ, zero, suc, ◌≤◌, length, arith, List}
use Rattle.cp_model.specs.Languages.{separated_list}
use Rattle.cp_model.specs.Syntax as s
use Rattle.cp_model.specs.GrammarStatements.{direction_symbol, init_item, statement, statements, more_statements, arms, more_arms}
use Rattle.cp_model.specs.Tokens.{Token}
use Rattle.cp_model.specs.Tokens as kind
use Rattle.cp_model.specs.declared.token.Symbol.TheVariants as symbol
use Rattle.cp_model_grammar.proofs.Tokens.{token_shrinks, symbol_shrinks}
use Rattle.cp_model_grammar.proofs.Lists.{separated_shrinks}
use Rattle.cp_model_grammar.proofs.NamesComplete.{identifier_shrinks, constants_shrink}
use Rattle.cp_model_grammar.proofs.ExpressionsShrink.{expression_shrinks, designator_shrinks, arguments_shrink}

pub init_item_shrinks : (room : ℕ) (i : s.InitItem) (ts rest : List Token) → init_item room i ts rest → length rest ≤ length ts
init_item_shrinks room i ts rest h = omega (arith, identifier_shrinks i.component ts h.0 h.1, arguments_shrink i.arguments room h.0 rest h.2)

init_items_shrink : (room : ℕ) (is : List s.InitItem) (ts rest : List Token) → separated_list symbol.Comma (init_item room) is ts rest
    → length rest ≤ length ts
init_items_shrink room is ts rest h = separated_shrinks (init_item room) symbol.Comma (init_item_shrinks room) is ts rest h

mutual
  pub statement_shrinks : (x : s.Statement) (room : ℕ) (ts rest : List Token) → statement room x ts rest → length rest ≤ length ts
  statement_shrinks s.Empty room ts rest h = rw h (omega arith)
  statement_shrinks (s.Assign d at e) room ts rest h =
      omega (
        arith,
        designator_shrinks d room ts h.0 h.1,
        token_shrinks (kind.Symbol symbol.Assign) at h.0 h.2.0 h.2.1,
        expression_shrinks e room h.2.0 rest h.2.2,
      )
  statement_shrinks (s.Perform d es) room ts rest h = omega (arith, designator_shrinks d room ts h.0 h.1, arguments_shrink es room h.0 rest h.2)
  statement_shrinks (s.Compound l) zero ts rest h = absurd h
  statement_shrinks (s.Compound l) (suc room) ts rest h =
      omega (arith, symbol_shrinks symbol.Begin ts h.0 h.1, statements_shrink l room h.0 h.2.0 h.2.1, symbol_shrinks symbol.End h.2.0 rest h.2.2)
  statement_shrinks (s.If c x) zero ts rest h = absurd h
  statement_shrinks (s.If c x) (suc room) ts rest h =
      let g = h.2.2 in
      omega (
        arith,
        symbol_shrinks symbol.If ts h.0 h.1,
        expression_shrinks c room h.0 h.2.0 h.2.1,
        symbol_shrinks symbol.Then h.2.0 g.0 g.1,
        statement_shrinks x room g.0 rest g.2,
      )
  statement_shrinks (s.IfElse c x y) zero ts rest h = absurd h.1
  statement_shrinks (s.IfElse c x y) (suc room) ts rest h =
      let w = h.1 in let g = w.2.2 in let v = g.2 in
      omega (
        arith,
        symbol_shrinks symbol.If ts w.0 w.1,
        expression_shrinks c room w.0 w.2.0 w.2.1,
        symbol_shrinks symbol.Then w.2.0 g.0 g.1,
        statement_shrinks x room g.0 v.0 v.1,
        symbol_shrinks symbol.Else v.0 v.2.0 v.2.1,
        statement_shrinks y room v.2.0 rest v.2.2,
      )
  statement_shrinks (s.Case e a) zero ts rest h = absurd h
  statement_shrinks (s.Case e a) (suc room) ts rest h =
      let g = h.2.2 in
      omega (
        arith,
        symbol_shrinks symbol.Case ts h.0 h.1,
        expression_shrinks e room h.0 h.2.0 h.2.1,
        symbol_shrinks symbol.Of h.2.0 g.0 g.1,
        arms_shrink a room g.0 g.2.0 g.2.1,
        symbol_shrinks symbol.End g.2.0 rest g.2.2,
      )
  statement_shrinks (s.While c x) zero ts rest h = absurd h
  statement_shrinks (s.While c x) (suc room) ts rest h =
      let g = h.2.2 in
      omega (
        arith,
        symbol_shrinks symbol.While ts h.0 h.1,
        expression_shrinks c room h.0 h.2.0 h.2.1,
        symbol_shrinks symbol.Do h.2.0 g.0 g.1,
        statement_shrinks x room g.0 rest g.2,
      )
  statement_shrinks (s.Repeat l c) zero ts rest h = absurd h
  statement_shrinks (s.Repeat l c) (suc room) ts rest h =
      let g = h.2.2 in
      omega (
        arith,
        symbol_shrinks symbol.Repeat ts h.0 h.1,
        statements_shrink l room h.0 h.2.0 h.2.1,
        symbol_shrinks symbol.Until h.2.0 g.0 g.1,
        expression_shrinks c room g.0 rest g.2,
      )
  statement_shrinks (s.For v a d b x) zero ts rest h = absurd h
  statement_shrinks (s.For v a d b x) (suc room) ts rest h =
      let h1 = h.2 in let h2 = h1.2 in let h3 = h2.2 in let h4 = h3.2 in let h5 = h4.2 in let h6 = h5.2 in
      omega (
        arith,
        symbol_shrinks symbol.For ts h.0 h.1,
        identifier_shrinks v h.0 h1.0 h1.1,
        symbol_shrinks symbol.Assign h1.0 h2.0 h2.1,
        expression_shrinks a room h2.0 h3.0 h3.1,
        symbol_shrinks (direction_symbol d) h3.0 h4.0 h4.1,
        expression_shrinks b room h4.0 h5.0 h5.1,
        symbol_shrinks symbol.Do h5.0 h6.0 h6.1,
        statement_shrinks x room h6.0 rest h6.2,
      )
  statement_shrinks (s.Cycle l) zero ts rest h = absurd h
  statement_shrinks (s.Cycle l) (suc room) ts rest h =
      omega (arith, symbol_shrinks symbol.Cycle ts h.0 h.1, statements_shrink l room h.0 h.2.0 h.2.1, symbol_shrinks symbol.End h.2.0 rest h.2.2)
  statement_shrinks (s.Init at is) room ts rest h =
      omega (arith, token_shrinks (kind.Symbol symbol.Init) at ts h.0 h.1, init_items_shrink room is h.0 rest h.2)

  pub statements_shrink : (xs : s.Statements) (room : ℕ) (ts rest : List Token) → statements room xs ts rest → length rest ≤ length ts
  statements_shrink s.NoStatements room ts rest h = absurd h
  statements_shrink (s.MoreStatements x xs) room ts rest h =
      omega (arith, statement_shrinks x room ts h.0 h.1, more_statements_shrink xs room h.0 rest h.2)

  more_statements_shrink : (xs : s.Statements) (room : ℕ) (ts rest : List Token) → more_statements room xs ts rest → length rest ≤ length ts
  more_statements_shrink s.NoStatements room ts rest h = rw h (omega arith)
  more_statements_shrink (s.MoreStatements x xs) room ts rest h =
      omega (
        arith,
        symbol_shrinks symbol.Semicolon ts h.0 h.1,
        statement_shrinks x room h.0 h.2.0 h.2.1,
        more_statements_shrink xs room h.2.0 rest h.2.2,
      )

  arms_shrink : (a : s.Arms) (room : ℕ) (ts rest : List Token) → arms room a ts rest → length rest ≤ length ts
  arms_shrink s.NoArms room ts rest h = absurd h
  arms_shrink (s.MoreArms labels x a) room ts rest h =
      let g = h.2 in
      omega (
        arith,
        constants_shrink labels ts h.0 h.1,
        symbol_shrinks symbol.Colon h.0 g.0 g.1,
        statement_shrinks x room g.0 g.2.0 g.2.1,
        more_arms_shrink a room g.2.0 rest g.2.2,
      )

  more_arms_shrink : (a : s.Arms) (room : ℕ) (ts rest : List Token) → more_arms room a ts rest → length rest ≤ length ts
  more_arms_shrink s.NoArms room ts rest h = rw h (omega arith)
  more_arms_shrink (s.MoreArms labels x a) room ts rest h =
      let f = h.2 in let g = f.2 in
      omega (
        arith,
        symbol_shrinks symbol.Semicolon ts h.0 h.1,
        constants_shrink labels h.0 f.0 f.1,
        symbol_shrinks symbol.Colon f.0 g.0 g.1,
        statement_shrinks x room g.0 g.2.0 g.2.1,
        more_arms_shrink a room g.2.0 rest g.2.2,
      )
