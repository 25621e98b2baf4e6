-- An expression consists of at least one token.
use Rattle.std.proofs.Common.{ℕ, zero, suc, ◌<◌, ◌≤◌, length, arith, List}
use Rattle.cp_model.specs.Syntax as s
use Rattle.cp_model.specs.GrammarExpressions.{operator_symbol, sign_symbol, expression, expressions, more_expressions, designator, selectors, selector, indices, more_indices, arguments}
use Rattle.cp_model.specs.Tokens.{Token}
use Rattle.cp_model.specs.Tokens as kind
use Rattle.cp_model.specs.declared.token.Symbol.TheVariants as symbol
use Rattle.cp_model_grammar.proofs.Tokens.{token_shrinks, symbol_shrinks}
use Rattle.cp_model_grammar.proofs.NamesComplete.{identifier_shrinks}

mutual
  pub expression_shrinks : (e : s.Expression) (room : ℕ) (ts rest : List Token) → expression room e ts rest → length rest < length ts
  expression_shrinks (s.Number at value) room ts rest h = token_shrinks (kind.Number value) at ts rest h
  expression_shrinks (s.Character at ordinal) room ts rest h = token_shrinks (kind.Character ordinal) at ts rest h
  expression_shrinks (s.Designated d) room ts rest h = designator_shrinks d room ts rest h
  expression_shrinks (s.Call d es) zero ts rest h = absurd h.2
  expression_shrinks (s.Call d es) (suc room) ts rest h =
      let g = h.2 in
      omega (
        arith,
        designator_shrinks d (suc room) ts h.0 h.1,
        symbol_shrinks symbol.OpenParenthesis h.0 g.0 g.1,
        expressions_shrink es room g.0 g.2.0 g.2.1,
        symbol_shrinks symbol.CloseParenthesis g.2.0 rest g.2.2,
      )
  expression_shrinks (s.Parenthesized at e) zero ts rest h = absurd h
  expression_shrinks (s.Parenthesized at e) (suc room) ts rest h =
      omega (
        arith,
        token_shrinks (kind.Symbol symbol.OpenParenthesis) at ts h.0 h.1,
        expression_shrinks e room h.0 h.2.0 h.2.1,
        symbol_shrinks symbol.CloseParenthesis h.2.0 rest h.2.2,
      )
  expression_shrinks (s.Not at e) zero ts rest h = absurd h.1
  expression_shrinks (s.Not at e) (suc room) ts rest h =
      omega (arith, token_shrinks (kind.Symbol symbol.Not) at ts h.1.0 h.1.1, expression_shrinks e room h.1.0 rest h.1.2)
  expression_shrinks (s.Signed x at e) room ts rest h =
      omega (arith, token_shrinks (kind.Symbol (sign_symbol x)) at ts h.1.0 h.1.1, expression_shrinks e room h.1.0 rest h.1.2)
  expression_shrinks (s.Binary a o at b) room ts rest h =
      let g = h.1.1 in omega (
        arith,
        expression_shrinks a room ts g.0 g.1,
        token_shrinks (kind.Symbol (operator_symbol o)) at g.0 g.2.0 g.2.1,
        expression_shrinks b room g.2.0 rest g.2.2,
      )

  pub expressions_shrink : (es : s.Expressions) (room : ℕ) (ts rest : List Token) → expressions room es ts rest → length rest < length ts
  expressions_shrink s.NoExpressions room ts rest h = absurd h
  expressions_shrink (s.MoreExpressions e es) room ts rest h =
      omega (arith, expression_shrinks e room ts h.0 h.1, more_expressions_shrink es room h.0 rest h.2)

  more_expressions_shrink : (es : s.Expressions) (room : ℕ) (ts rest : List Token) → more_expressions room es ts rest → length rest ≤ length ts
  more_expressions_shrink s.NoExpressions room ts rest h = rw h (omega arith)
  more_expressions_shrink (s.MoreExpressions e es) room ts rest h =
      omega (
        arith,
        symbol_shrinks symbol.Comma ts h.0 h.1,
        expression_shrinks e room h.0 h.2.0 h.2.1,
        more_expressions_shrink es room h.2.0 rest h.2.2,
      )

  pub designator_shrinks : (d : s.Designator) (room : ℕ) (ts rest : List Token) → designator room d ts rest → length rest < length ts
  designator_shrinks (s.Designate x xs) room ts rest h = omega (arith, identifier_shrinks x ts h.0 h.1, selectors_shrink xs room h.0 rest h.2)

  selectors_shrink : (xs : s.Selectors) (room : ℕ) (ts rest : List Token) → selectors room xs ts rest → length rest ≤ length ts
  selectors_shrink s.NoSelectors room ts rest h = rw h (omega arith)
  selectors_shrink (s.MoreSelectors x xs) room ts rest h = omega (arith, selector_shrinks x room ts h.0 h.1, selectors_shrink xs room h.0 rest h.2)

  pub selector_shrinks : (x : s.Selector) (room : ℕ) (ts rest : List Token) → selector room x ts rest → length rest < length ts
  selector_shrinks (s.Field at x) room ts rest h =
      omega (arith, token_shrinks (kind.Symbol symbol.Dot) at ts h.0 h.1, identifier_shrinks x h.0 rest h.2)
  selector_shrinks (s.Indexed is) zero ts rest h = absurd h
  selector_shrinks (s.Indexed is) (suc room) ts rest h =
      omega (arith, indices_shrink is room ts h.0 h.1, symbol_shrinks symbol.CloseBracket h.0 rest h.2)

  indices_shrink : (is : s.Indices) (room : ℕ) (ts rest : List Token) → indices room is ts rest → length rest < length ts
  indices_shrink s.NoIndices room ts rest h = absurd h
  indices_shrink (s.MoreIndices at e is) room ts rest h =
      omega (
        arith,
        token_shrinks (kind.Symbol symbol.OpenBracket) at ts h.0 h.1,
        expression_shrinks e room h.0 h.2.0 h.2.1,
        more_indices_shrink is room h.2.0 rest h.2.2,
      )

  pub more_indices_shrink : (is : s.Indices) (room : ℕ) (ts rest : List Token) → more_indices room is ts rest → length rest ≤ length ts
  more_indices_shrink s.NoIndices room ts rest h = rw h (omega arith)
  more_indices_shrink (s.MoreIndices at e is) room ts rest h =
      omega (
        arith,
        token_shrinks (kind.Symbol symbol.Comma) at ts h.0 h.1,
        expression_shrinks e room h.0 h.2.0 h.2.1,
        more_indices_shrink is room h.2.0 rest h.2.2,
      )

pub arguments_shrink : (es : s.Expressions) (room : ℕ) (ts rest : List Token) → arguments room es ts rest → length rest ≤ length ts
arguments_shrink s.NoExpressions room ts rest h = rw h (omega arith)
arguments_shrink (s.MoreExpressions e es) zero ts rest h = absurd h
arguments_shrink (s.MoreExpressions e es) (suc room) ts rest h =
    omega (
      arith,
      symbol_shrinks symbol.OpenParenthesis ts h.0 h.1,
      expressions_shrink (s.MoreExpressions e es) room h.0 h.2.0 h.2.1,
      symbol_shrinks symbol.CloseParenthesis h.2.0 rest h.2.2,
    )
