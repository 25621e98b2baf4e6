-- What may follow an expression, a statement or a type, so that it is read to its end and no
-- further.
use Rattle.std.specs.Prelude.{◌≡◌, Bool, true, false, Option, Some}
use Rattle.cp_model.specs.Syntax as s
use Rattle.cp_model.specs.GrammarStatements.{ends_open}
use Rattle.cp_model.specs.Tokens.{Kind}
use Rattle.cp_model.specs.Tokens as kind
use Rattle.cp_model.specs.declared.token.Symbol.TheVariants as symbol
use Rattle.cp_model_grammar.specs.Kinds.{is_symbol}

-- ---- expressions: no token that would continue it

abbrev pub ends_factor : Option Kind → Bool
ends_factor (Some (kind.Symbol symbol.Dot)) = false
ends_factor (Some (kind.Symbol symbol.OpenBracket)) = false
ends_factor (Some (kind.Symbol symbol.OpenParenthesis)) = false
ends_factor _ = true

abbrev pub ends_term : Option Kind → Bool
ends_term (Some (kind.Symbol symbol.Star)) = false
ends_term (Some (kind.Symbol symbol.Div)) = false
ends_term (Some (kind.Symbol symbol.Mod)) = false
ends_term (Some (kind.Symbol symbol.Ampersand)) = false
ends_term k = ends_factor k

abbrev pub ends_simple : Option Kind → Bool
ends_simple (Some (kind.Symbol symbol.Plus)) = false
ends_simple (Some (kind.Symbol symbol.Minus)) = false
ends_simple (Some (kind.Symbol symbol.Or)) = false
ends_simple k = ends_term k

abbrev pub ends_expression : Option Kind → Bool
ends_expression (Some (kind.Symbol symbol.Equal)) = false
ends_expression (Some (kind.Symbol symbol.Unequal)) = false
ends_expression (Some (kind.Symbol symbol.Less)) = false
ends_expression (Some (kind.Symbol symbol.Greater)) = false
ends_expression (Some (kind.Symbol symbol.AtMost)) = false
ends_expression (Some (kind.Symbol symbol.AtLeast)) = false
ends_expression k = ends_simple k

-- ---- statements

abbrev pub ends_statement : Option Kind → Bool
ends_statement (Some (kind.Symbol symbol.Semicolon)) = true
ends_statement (Some (kind.Symbol symbol.End)) = true
ends_statement (Some (kind.Symbol symbol.Until)) = true
ends_statement (Some (kind.Symbol symbol.Else)) = true
ends_statement _ = false

-- An `else` that follows belongs to no `if` inside the statement.
abbrev pub MayFollow : s.Statement → Option Kind → Type 0
MayFollow x k = (ends_statement k ≡ true) × (ends_open x ≡ true → is_symbol symbol.Else k ≡ false)

-- ---- types: after a name, `..` would continue it

abbrev pub ends_type : Option Kind → Bool
ends_type (Some (kind.Symbol symbol.DotDot)) = false
ends_type _ = true
