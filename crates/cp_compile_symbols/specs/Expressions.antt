-- The types of the values of expressions.
use Rattle.std.specs.Prelude.{◌≡◌, Bool, true, false, Option, None, Some}
use Rattle.cp_model.specs.Erase as erase
use Rattle.cp_model.specs.Syntax as syntax
use Rattle.cp_model.specs.Types.{ResolvedType, Simple}
use Rattle.cp_law_typing.specs.StaticTypes.{expression_type}
use Rattle.cp_model_program.specs.Scopes as code
use Rattle.cp_model_program.specs.Scopes.{environment}
use Rattle.cp_compile_symbols.specs.declared.types.Simple as plain
use Rattle.cp_compile_symbols.specs.Representing.{simple_of}

abbrev pub is_simple : ResolvedType → Bool
is_simple (Simple b low high start) = true
is_simple t = false

-- `Some` has the simple type `t`, and `None` means that `t` isn't simple.
abbrev pub SimpleIs : Option plain.Simple → ResolvedType → Type 0
SimpleIs (Some s) t = simple_of s ≡ t
SimpleIs None t = is_simple t ≡ false

-- `of` describes the type of the value of the expression `e`.
abbrev pub ValueIs : code.Scope → Option plain.Simple → syntax.Expression → Type 0
ValueIs s of e = SimpleIs of (expression_type (environment s) (erase.expression e))
