-- The token at the head of a list: which one it is, and that it is a single token.
use Rattle.std.proofs.Common.{◌≡◌, ℕ, ◌<◌, true, false, List, [], ◌∷◌, length, get_or, Option, Some, None, Ok, refl, sym, ap, ◌∙◌, arith}
use Rattle.std.proofs.lemmas.Bool.{eqb-true}
use Rattle.cp_model.specs.Languages.{token, symbol, symbol_at}
use Rattle.cp_model.specs.Tokens.{Token}
use Rattle.cp_model.specs.Tokens.{Kind}
use Rattle.cp_model.specs.Tokens as kind
use Rattle.cp_model.specs.declared.token.Symbol.{Symbol}
use Rattle.cp_model.specs.declared.token.Symbol.TheVariants as symbol
use Rattle.cp_model_grammar.specs.Kinds.{code, is_symbol}
use Rattle.cp_model_grammar.specs.Reading.{kind_at, place_at, tail, expect}

-- ---- a symbol is identified by its number

symbols : List Symbol
symbols =
    symbol.Array ∷ symbol.Begin ∷ symbol.Case ∷ symbol.Class ∷ symbol.Const ∷ symbol.Cycle ∷ symbol.Div ∷ symbol.Do
    ∷ symbol.Downto ∷ symbol.Else ∷ symbol.End ∷ symbol.Entry ∷ symbol.For ∷ symbol.Function ∷ symbol.If ∷ symbol.In
    ∷ symbol.Init ∷ symbol.Mod ∷ symbol.Monitor ∷ symbol.Not ∷ symbol.Of ∷ symbol.Or ∷ symbol.Procedure ∷ symbol.Process
    ∷ symbol.Program ∷ symbol.Record ∷ symbol.Repeat ∷ symbol.Set ∷ symbol.Then ∷ symbol.To ∷ symbol.Type ∷ symbol.Univ
    ∷ symbol.Until ∷ symbol.Var ∷ symbol.While ∷ symbol.With ∷ symbol.Plus ∷ symbol.Minus ∷ symbol.Star
    ∷ symbol.Ampersand ∷ symbol.Equal ∷ symbol.Unequal ∷ symbol.Less ∷ symbol.Greater ∷ symbol.AtMost ∷ symbol.AtLeast
    ∷ symbol.OpenParenthesis ∷ symbol.CloseParenthesis ∷ symbol.OpenBracket ∷ symbol.CloseBracket ∷ symbol.Comma
    ∷ symbol.Semicolon ∷ symbol.Colon ∷ symbol.Assign ∷ symbol.Dot ∷ symbol.DotDot ∷ []

decode : ℕ → Symbol
unfolding symbols
decode n = get_or symbols n symbol.Array

decode_code : (x : Symbol) → decode (code x) ≡ x
unfolding decode symbols
decode_code symbol.Array = refl
decode_code symbol.Begin = refl
decode_code symbol.Case = refl
decode_code symbol.Class = refl
decode_code symbol.Const = refl
decode_code symbol.Cycle = refl
decode_code symbol.Div = refl
decode_code symbol.Do = refl
decode_code symbol.Downto = refl
decode_code symbol.Else = refl
decode_code symbol.End = refl
decode_code symbol.Entry = refl
decode_code symbol.For = refl
decode_code symbol.Function = refl
decode_code symbol.If = refl
decode_code symbol.In = refl
decode_code symbol.Init = refl
decode_code symbol.Mod = refl
decode_code symbol.Monitor = refl
decode_code symbol.Not = refl
decode_code symbol.Of = refl
decode_code symbol.Or = refl
decode_code symbol.Procedure = refl
decode_code symbol.Process = refl
decode_code symbol.Program = refl
decode_code symbol.Record = refl
decode_code symbol.Repeat = refl
decode_code symbol.Set = refl
decode_code symbol.Then = refl
decode_code symbol.To = refl
decode_code symbol.Type = refl
decode_code symbol.Univ = refl
decode_code symbol.Until = refl
decode_code symbol.Var = refl
decode_code symbol.While = refl
decode_code symbol.With = refl
decode_code symbol.Plus = refl
decode_code symbol.Minus = refl
decode_code symbol.Star = refl
decode_code symbol.Ampersand = refl
decode_code symbol.Equal = refl
decode_code symbol.Unequal = refl
decode_code symbol.Less = refl
decode_code symbol.Greater = refl
decode_code symbol.AtMost = refl
decode_code symbol.AtLeast = refl
decode_code symbol.OpenParenthesis = refl
decode_code symbol.CloseParenthesis = refl
decode_code symbol.OpenBracket = refl
decode_code symbol.CloseBracket = refl
decode_code symbol.Comma = refl
decode_code symbol.Semicolon = refl
decode_code symbol.Colon = refl
decode_code symbol.Assign = refl
decode_code symbol.Dot = refl
decode_code symbol.DotDot = refl

pub is_symbol_is : (x : Symbol) (k : Option Kind) → is_symbol x k ≡ true → k ≡ Some (kind.Symbol x)
unfolding is_symbol
is_symbol_is x (Some (kind.Symbol seen)) h =
    ap (λ (y : Symbol). Some (kind.Symbol y)) (sym (decode_code seen) ∙ ap decode (eqb-true (code seen) (code x) h) ∙ decode_code x)
is_symbol_is x (Some (kind.Name name)) h = absurd cc
is_symbol_is x (Some (kind.Number value)) h = absurd cc
is_symbol_is x (Some (kind.Character ordinal)) h = absurd cc
is_symbol_is x None h = absurd cc

pub is_symbol_refl : (x : Symbol) → is_symbol x (Some (kind.Symbol x)) ≡ true
unfolding is_symbol
is_symbol_refl symbol.Array = refl
is_symbol_refl symbol.Begin = refl
is_symbol_refl symbol.Case = refl
is_symbol_refl symbol.Class = refl
is_symbol_refl symbol.Const = refl
is_symbol_refl symbol.Cycle = refl
is_symbol_refl symbol.Div = refl
is_symbol_refl symbol.Do = refl
is_symbol_refl symbol.Downto = refl
is_symbol_refl symbol.Else = refl
is_symbol_refl symbol.End = refl
is_symbol_refl symbol.Entry = refl
is_symbol_refl symbol.For = refl
is_symbol_refl symbol.Function = refl
is_symbol_refl symbol.If = refl
is_symbol_refl symbol.In = refl
is_symbol_refl symbol.Init = refl
is_symbol_refl symbol.Mod = refl
is_symbol_refl symbol.Monitor = refl
is_symbol_refl symbol.Not = refl
is_symbol_refl symbol.Of = refl
is_symbol_refl symbol.Or = refl
is_symbol_refl symbol.Procedure = refl
is_symbol_refl symbol.Process = refl
is_symbol_refl symbol.Program = refl
is_symbol_refl symbol.Record = refl
is_symbol_refl symbol.Repeat = refl
is_symbol_refl symbol.Set = refl
is_symbol_refl symbol.Then = refl
is_symbol_refl symbol.To = refl
is_symbol_refl symbol.Type = refl
is_symbol_refl symbol.Univ = refl
is_symbol_refl symbol.Until = refl
is_symbol_refl symbol.Var = refl
is_symbol_refl symbol.While = refl
is_symbol_refl symbol.With = refl
is_symbol_refl symbol.Plus = refl
is_symbol_refl symbol.Minus = refl
is_symbol_refl symbol.Star = refl
is_symbol_refl symbol.Ampersand = refl
is_symbol_refl symbol.Equal = refl
is_symbol_refl symbol.Unequal = refl
is_symbol_refl symbol.Less = refl
is_symbol_refl symbol.Greater = refl
is_symbol_refl symbol.AtMost = refl
is_symbol_refl symbol.AtLeast = refl
is_symbol_refl symbol.OpenParenthesis = refl
is_symbol_refl symbol.CloseParenthesis = refl
is_symbol_refl symbol.OpenBracket = refl
is_symbol_refl symbol.CloseBracket = refl
is_symbol_refl symbol.Comma = refl
is_symbol_refl symbol.Semicolon = refl
is_symbol_refl symbol.Colon = refl
is_symbol_refl symbol.Assign = refl
is_symbol_refl symbol.Dot = refl
is_symbol_refl symbol.DotDot = refl

pub no_symbol : (x : Symbol) → is_symbol x None ≡ false
unfolding is_symbol
no_symbol x = refl

-- ---- some symbols that aren't each other

pub bracket_is_no_comma : is_symbol symbol.Comma (Some (kind.Symbol symbol.CloseBracket)) ≡ false
unfolding is_symbol
bracket_is_no_comma = refl

pub colon_is_no_comma : is_symbol symbol.Comma (Some (kind.Symbol symbol.Colon)) ≡ false
unfolding is_symbol
colon_is_no_comma = refl

pub close_is_no_comma : is_symbol symbol.Comma (Some (kind.Symbol symbol.CloseParenthesis)) ≡ false
unfolding is_symbol
close_is_no_comma = refl

pub end_is_no_semicolon : is_symbol symbol.Semicolon (Some (kind.Symbol symbol.End)) ≡ false
unfolding is_symbol
end_is_no_semicolon = refl

-- ---- the head and those after it

pub head : (ts : List Token) (k : Kind) → kind_at ts ≡ Some k → token k (place_at ts) ts (tail ts)
head [] k e = absurd cc
head (t ∷ ts) k e = let same : t.kind ≡ k = cc in (t.span.to, ap (λ (x : Kind). record { kind = x; span = t.span } ∷ ts) same)

pub head_symbol : (ts : List Token) (x : Symbol) → is_symbol x (kind_at ts) ≡ true → symbol_at x (place_at ts) ts (tail ts)
head_symbol ts x h = head ts (kind.Symbol x) (is_symbol_is x (kind_at ts) h)

pub kind_of : (k : Kind) (at : ℕ) (ts rest : List Token) → token k at ts rest → kind_at ts ≡ Some k
kind_of k at ts rest h = ap kind_at h.1

pub kind_of_symbol : (x : Symbol) (ts rest : List Token) → symbol x ts rest → kind_at ts ≡ Some (kind.Symbol x)
kind_of_symbol x ts rest h = kind_of (kind.Symbol x) h.0 ts rest h.1

pub token_shrinks : (k : Kind) (at : ℕ) (ts rest : List Token) → token k at ts rest → length rest < length ts
token_shrinks k at ts rest h = rw h.1 (omega arith)

pub symbol_shrinks : (x : Symbol) (ts rest : List Token) → symbol x ts rest → length rest < length ts
symbol_shrinks x ts rest h = token_shrinks (kind.Symbol x) h.0 ts rest h.1

-- ---- it is taken

pub expect_reads : (x : Symbol) (at : ℕ) (ts rest : List Token) → symbol_at x at ts rest → expect x ts ≡ Ok (at, rest)
unfolding expect
expect_reads x at ts rest h = rw (h.1, is_symbol_refl x) refl
