-- The number of a symbol is the tag that its comparison reads.
use Rattle.std.proofs.Common.{◌≡◌, refl}
use denote.Enum.Declared.{tag_of}
use Rattle.cp_model.specs.contracts.token.Symbol.{the_type}
use Rattle.cp_model.specs.declared.token.Symbol.{Symbol}
use Rattle.cp_model.specs.declared.token.Symbol.TheVariants as symbol
use Rattle.cp_model_grammar.specs.Kinds.{code}

pub tag_is_code : (x : Symbol) → tag_of the_type x ≡ code x
tag_is_code symbol.Array = refl
tag_is_code symbol.Begin = refl
tag_is_code symbol.Case = refl
tag_is_code symbol.Class = refl
tag_is_code symbol.Const = refl
tag_is_code symbol.Cycle = refl
tag_is_code symbol.Div = refl
tag_is_code symbol.Do = refl
tag_is_code symbol.Downto = refl
tag_is_code symbol.Else = refl
tag_is_code symbol.End = refl
tag_is_code symbol.Entry = refl
tag_is_code symbol.For = refl
tag_is_code symbol.Function = refl
tag_is_code symbol.If = refl
tag_is_code symbol.In = refl
tag_is_code symbol.Init = refl
tag_is_code symbol.Mod = refl
tag_is_code symbol.Monitor = refl
tag_is_code symbol.Not = refl
tag_is_code symbol.Of = refl
tag_is_code symbol.Or = refl
tag_is_code symbol.Procedure = refl
tag_is_code symbol.Process = refl
tag_is_code symbol.Program = refl
tag_is_code symbol.Record = refl
tag_is_code symbol.Repeat = refl
tag_is_code symbol.Set = refl
tag_is_code symbol.Then = refl
tag_is_code symbol.To = refl
tag_is_code symbol.Type = refl
tag_is_code symbol.Univ = refl
tag_is_code symbol.Until = refl
tag_is_code symbol.Var = refl
tag_is_code symbol.While = refl
tag_is_code symbol.With = refl
tag_is_code symbol.Plus = refl
tag_is_code symbol.Minus = refl
tag_is_code symbol.Star = refl
tag_is_code symbol.Ampersand = refl
tag_is_code symbol.Equal = refl
tag_is_code symbol.Unequal = refl
tag_is_code symbol.Less = refl
tag_is_code symbol.Greater = refl
tag_is_code symbol.AtMost = refl
tag_is_code symbol.AtLeast = refl
tag_is_code symbol.OpenParenthesis = refl
tag_is_code symbol.CloseParenthesis = refl
tag_is_code symbol.OpenBracket = refl
tag_is_code symbol.CloseBracket = refl
tag_is_code symbol.Comma = refl
tag_is_code symbol.Semicolon = refl
tag_is_code symbol.Colon = refl
tag_is_code symbol.Assign = refl
tag_is_code symbol.Dot = refl
tag_is_code symbol.DotDot = refl
