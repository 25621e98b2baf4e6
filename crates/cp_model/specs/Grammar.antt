-- The grammar of declarations and of a whole text, and what it says about lists of tokens.
--   text    = { consts | types } [ vars ] { routine } body "."
--   consts  = "const" NAME "=" constant ";" { NAME "=" constant ";" }
--   types   = "type" typedef ";" { typedef ";" }
--   typedef = NAME "=" ( type | enum | system )
--   enum    = "(" NAME { "," NAME } ")"
--   system  = ( "process" | "monitor" | "class" ) [ params ] ";" [ vars ] { routine } body
--   params  = "(" group { ";" group } ")"
--   group   = [ "var" ] NAME { "," NAME } ":" NAME
--   vars    = "var" fields ";" { fields ";" }
--   routine = ( "procedure" [ "entry" ] NAME [ params ]
--             | "function" [ "entry" ] NAME [ params ] ":" NAME ) ";" [ vars ] body ";"
--   body    = "begin" list "end"
-- No level is open between declarations, so each declaration has the whole limit.
use Rattle.std.specs.Prelude.{ℕ, List, [], ◌∷◌, ◌++◌, Option, Some, None}
use Rattle.cp_model.specs.Languages.{Language, empty, never, symbol, symbol_at, identifier, ◌⋅◌, opens, optional, each, separated_list}
use Rattle.cp_model.specs.GrammarExpressions.{constant}
use Rattle.cp_model.specs.GrammarTypes.{names, type_expression}
use Rattle.cp_model.specs.GrammarStatements.{statements}
use Rattle.cp_model.specs.Syntax as s
use Rattle.cp_model.specs.Tokens.{Token}
use Rattle.cp_model.specs.declared.token.Symbol.{Symbol}
use Rattle.cp_model.specs.declared.token.Symbol.TheVariants as symbol
use Rattle.cp_model.specs.declared.tree.Identifier.{Identifier}
use Rattle.cp_model.specs.declared.tree.ConstantDefinition.{ConstantDefinition}
use Rattle.cp_model.specs.declared.tree.Sort.{Sort}
use Rattle.cp_model.specs.declared.tree.Sort.TheVariants as sort

abbrev pub body : ℕ → s.Body → Language
body limit b = opens limit (λ r. symbol_at symbol.Begin b.at ⋅ statements r b.list ⋅ symbol symbol.End)

abbrev pub variable_group : ℕ → s.Variables → Language
variable_group limit g = names g.names ⋅ symbol symbol.Colon ⋅ type_expression limit g.of ⋅ symbol symbol.Semicolon

abbrev pub variables : ℕ → List s.Variables → Language
variables limit [] = empty
variables limit (g ∷ gs) = symbol symbol.Var ⋅ each (variable_group limit) (g ∷ gs)

abbrev pub parameter_group : s.Parameters → Language
parameter_group p = optional symbol.Var p.by_reference ⋅ names p.names ⋅ symbol symbol.Colon ⋅ identifier p.of

abbrev pub parameters : List s.Parameters → Language
parameters [] = empty
parameters (p ∷ ps) = symbol symbol.OpenParenthesis ⋅ separated_list symbol.Semicolon parameter_group (p ∷ ps) ⋅ symbol symbol.CloseParenthesis

-- a routine with a result type is a function
abbrev pub routine_word : Option Identifier → Language
routine_word None = symbol symbol.Procedure
routine_word (Some t) = symbol symbol.Function

abbrev pub result_type : Option Identifier → Language
result_type None = empty
result_type (Some t) = symbol symbol.Colon ⋅ identifier t

abbrev pub routine : ℕ → s.Routine → Language
routine limit r =
    routine_word r.result_type ⋅ optional symbol.Entry r.entry ⋅ identifier r.name ⋅ parameters r.parameters ⋅ result_type r.result_type
    ⋅ symbol symbol.Semicolon ⋅ variables limit r.variables ⋅ body limit r.body ⋅ symbol symbol.Semicolon

abbrev pub sort_symbol : Sort → Symbol
sort_symbol sort.Process = symbol.Process
sort_symbol sort.Monitor = symbol.Monitor
sort_symbol sort.Class = symbol.Class

abbrev pub system : ℕ → s.System → Language
system limit y =
    symbol (sort_symbol y.sort) ⋅ parameters y.parameters ⋅ symbol symbol.Semicolon
    ⋅ variables limit y.variables ⋅ each (routine limit) y.routines ⋅ body limit y.body

abbrev pub definition : ℕ → s.Defined → Language
definition limit (s.Written t) = type_expression limit t
definition limit (s.Enumeration values) = symbol symbol.OpenParenthesis ⋅ names values ⋅ symbol symbol.CloseParenthesis
definition limit (s.SystemType y) = system limit y

abbrev pub constant_definition : ConstantDefinition → Language
constant_definition d = identifier d.name ⋅ symbol symbol.Equal ⋅ constant d.value ⋅ symbol symbol.Semicolon

abbrev pub type_definition : ℕ → s.TypeDefinition → Language
type_definition limit d = identifier d.name ⋅ symbol symbol.Equal ⋅ definition limit d.defined ⋅ symbol symbol.Semicolon

-- at least one definition after the word
abbrev pub definitions : {A : Type 0} → Symbol → (A → Language) → List A → Language
definitions word f [] = never
definitions word f (d ∷ ds) = symbol word ⋅ each f (d ∷ ds)

abbrev pub section : ℕ → s.Section → Language
section limit (s.Constants ds) = definitions symbol.Const constant_definition ds
section limit (s.Types ds) = definitions symbol.Type (type_definition limit) ds

abbrev pub text : ℕ → s.Tree → Language
text limit t =
    each (section limit) t.sections ⋅ variables limit t.variables ⋅ each (routine limit) t.routines ⋅ body limit t.body ⋅ symbol symbol.Dot

-- the deepest nesting that a text may have
abbrev pub nesting_limit : ℕ
nesting_limit = 200

-- the tokens are those of this tree, within the limit of nesting
abbrev pub Reads : List Token → s.Tree → Type 0
Reads tokens t = text nesting_limit t tokens []

-- some text begins with these tokens, however deep its nesting
abbrev pub Begins : List Token → Type 0
Begins tokens = (limit : ℕ) × (more : List Token) × (t : s.Tree) × text limit t (tokens ++ more) []

-- some text within the limit of nesting begins with these tokens
abbrev pub BeginsWithin : List Token → Type 0
BeginsWithin tokens = (more : List Token) × (t : s.Tree) × Reads (tokens ++ more) t
