-- The kind of the next token.
use Rattle.std.specs.Prelude.{ℕ, Bool, true, false, ◌==◌, Option, Some}
use Rattle.cp_model.specs.Tokens.{Kind}
use Rattle.cp_model.specs.Tokens as kind
use Rattle.cp_model.specs.declared.token.Symbol.{Symbol}
use Rattle.cp_model.specs.declared.token.Symbol.TheVariants as symbol

-- A number for each symbol, in the order of the type `Symbol`.
abbrev pub code : Symbol → ℕ
code symbol.Array = 0
code symbol.Begin = 1
code symbol.Case = 2
code symbol.Class = 3
code symbol.Const = 4
code symbol.Cycle = 5
code symbol.Div = 6
code symbol.Do = 7
code symbol.Downto = 8
code symbol.Else = 9
code symbol.End = 10
code symbol.Entry = 11
code symbol.For = 12
code symbol.Function = 13
code symbol.If = 14
code symbol.In = 15
code symbol.Init = 16
code symbol.Mod = 17
code symbol.Monitor = 18
code symbol.Not = 19
code symbol.Of = 20
code symbol.Or = 21
code symbol.Procedure = 22
code symbol.Process = 23
code symbol.Program = 24
code symbol.Record = 25
code symbol.Repeat = 26
code symbol.Set = 27
code symbol.Then = 28
code symbol.To = 29
code symbol.Type = 30
code symbol.Univ = 31
code symbol.Until = 32
code symbol.Var = 33
code symbol.While = 34
code symbol.With = 35
code symbol.Plus = 36
code symbol.Minus = 37
code symbol.Star = 38
code symbol.Ampersand = 39
code symbol.Equal = 40
code symbol.Unequal = 41
code symbol.Less = 42
code symbol.Greater = 43
code symbol.AtMost = 44
code symbol.AtLeast = 45
code symbol.OpenParenthesis = 46
code symbol.CloseParenthesis = 47
code symbol.OpenBracket = 48
code symbol.CloseBracket = 49
code symbol.Comma = 50
code symbol.Semicolon = 51
code symbol.Colon = 52
code symbol.Assign = 53
code symbol.Dot = 54
code symbol.DotDot = 55

-- Whether the kind is this symbol.
unfoldable pub is_symbol : Symbol → Option Kind → Bool
is_symbol x (Some (kind.Symbol seen)) = code seen == code x
is_symbol x _ = false

abbrev pub is_name : Option Kind → Bool
is_name (Some (kind.Name name)) = true
is_name _ = false
