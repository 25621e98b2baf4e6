-- The grammar of written types. The number says how many more levels may be opened.
--   type   = NAME | constant ".." constant
--          | "array" "[" type { "," type } "]" "of" type
--          | "record" fields { ";" fields } "end"
--   fields = NAME { "," NAME } ":" type
use Rattle.std.specs.Prelude.{ℕ, List}
use Rattle.cp_model.specs.Languages.{Language, empty, never, symbol, symbol_at, identifier, ◌⋅◌, opens, separated_list}
use Rattle.cp_model.specs.GrammarExpressions.{constant}
use Rattle.cp_model.specs.Syntax as s
use Rattle.cp_model.specs.declared.token.Symbol.TheVariants as symbol
use Rattle.cp_model.specs.declared.tree.Identifier.{Identifier}

-- one name or more
abbrev pub names : List Identifier → Language
names = separated_list symbol.Comma identifier

abbrev mutual
  pub type_expression : ℕ → s.TypeExpression → Language
  type_expression room (s.Named x) = identifier x
  type_expression room (s.Subrange low high) = constant low ⋅ symbol symbol.DotDot ⋅ constant high
  type_expression room (s.Array at is e) =
      opens room (λ r. symbol_at symbol.Array at ⋅ symbol symbol.OpenBracket ⋅ types r is ⋅ symbol symbol.CloseBracket ⋅ symbol symbol.Of ⋅ type_expression r e)
  type_expression room (s.Record at gs) = opens room (λ r. symbol_at symbol.Record at ⋅ fields r gs ⋅ symbol symbol.End)

  -- one or more, with commas between
  pub types : ℕ → s.TypeExpressions → Language
  types room s.NoTypes = never
  types room (s.MoreTypes t ts) = type_expression room t ⋅ more_types room ts

  pub more_types : ℕ → s.TypeExpressions → Language
  more_types room s.NoTypes = empty
  more_types room (s.MoreTypes t ts) = symbol symbol.Comma ⋅ type_expression room t ⋅ more_types room ts

  -- one group or more, with semicolons between
  pub fields : ℕ → s.FieldGroups → Language
  fields room s.NoFields = never
  fields room (s.MoreFields xs t gs) = names xs ⋅ symbol symbol.Colon ⋅ type_expression room t ⋅ more_fields room gs

  pub more_fields : ℕ → s.FieldGroups → Language
  more_fields room s.NoFields = empty
  more_fields room (s.MoreFields xs t gs) = symbol symbol.Semicolon ⋅ names xs ⋅ symbol symbol.Colon ⋅ type_expression room t ⋅ more_fields room gs
