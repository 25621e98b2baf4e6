-- Reading declarations, given a reader of types and the readers one level deeper for bodies.
use Rattle.std.specs.Prelude.{ℕ, Bool, true, false, if◌then◌else◌, List, [], Option, Some, None}
use Rattle.cp_model.specs.Syntax as s
use Rattle.cp_model.specs.Tokens.{Kind}
use Rattle.cp_model.specs.Tokens as kind
use Rattle.cp_model.specs.declared.token.Symbol.TheVariants as symbol
use Rattle.cp_model.specs.declared.tree.Identifier.{Identifier}
use Rattle.cp_model.specs.declared.tree.ConstantDefinition.{ConstantDefinition}
use Rattle.cp_model.specs.declared.tree.Sort.{Sort}
use Rattle.cp_model.specs.declared.tree.Sort.TheVariants as sort
use Rattle.cp_model_grammar.specs.Kinds.{is_symbol, is_name}
use Rattle.cp_model_grammar.specs.Reading.{Reader, ◌>>=◌, pure, refuse, take_token, by_kind, expect, optional_symbol, repeat_while, one_or_more, separated_by}
use Rattle.cp_model_grammar.specs.Names.{identifier_of, names_of, constant_of}
use Rattle.cp_model_grammar.specs.Types.{group_of}
use Rattle.cp_model_grammar.specs.Statements.{Deeper, block_of}

-- ---- constants

unfoldable pub constant_definition_of : Reader ConstantDefinition
constant_definition_of = identifier_of >>= λ x. expect symbol.Equal >>= λ _. constant_of >>= λ c. expect symbol.Semicolon >>= λ _.
    pure (record { name = x; value = c })

-- ---- parameters and headings

unfoldable pub parameter_group_of : Reader s.Parameters
parameter_group_of = optional_symbol symbol.Var >>= λ v. names_of >>= λ xs. expect symbol.Colon >>= λ _. identifier_of >>= λ t.
    pure (record { by_reference = v; names = xs; of = t })

unfoldable pub some_parameters_of : Reader (List s.Parameters)
some_parameters_of = take_token >>= λ _. separated_by symbol.Semicolon parameter_group_of >>= λ ps. expect symbol.CloseParenthesis >>= λ _. pure ps

-- Parameters in parentheses, or none.
unfoldable pub parameters_of : Reader (List s.Parameters)
parameters_of = by_kind (λ k. if is_symbol symbol.OpenParenthesis k then some_parameters_of else pure [])

-- The result type of a function. A procedure has none.
unfoldable pub result_type_of : Bool → Reader (Option Identifier)
result_type_of true = expect symbol.Colon >>= λ _. identifier_of >>= λ t. pure (Some t)
result_type_of false = pure None

-- A routine up to the `;` before its variables.
pub record Heading : Type 0 where
  pub entry : Option ℕ
  pub name : Identifier
  pub parameters : List s.Parameters
  pub result_type : Option Identifier

-- The flag says whether the routine is a function.
unfoldable pub heading_from : Bool → Reader Heading
heading_from is_function = take_token >>= λ _. optional_symbol symbol.Entry >>= λ e. identifier_of >>= λ x. parameters_of >>= λ ps.
    result_type_of is_function >>= λ t. expect symbol.Semicolon >>= λ _. pure (record { entry = e; name = x; parameters = ps; result_type = t })

unfoldable pub heading_of : Reader Heading
heading_of = by_kind (λ k. heading_from (is_symbol symbol.Function k))

-- ---- variables, bodies and routines

abbrev pub begins_routine : Option Kind → Bool
begins_routine (Some (kind.Symbol symbol.Procedure)) = true
begins_routine (Some (kind.Symbol symbol.Function)) = true
begins_routine _ = false

module _ (type_reader : Reader s.TypeExpression) where
  unfoldable pub variable_group_of : Reader s.Variables
  variable_group_of = group_of type_reader >>= λ g. expect symbol.Semicolon >>= λ _. pure g

  unfoldable pub some_variables_of : Reader (List s.Variables)
  some_variables_of = take_token >>= λ _. one_or_more is_name variable_group_of

  -- Variables after the word `var`, or none.
  unfoldable pub variables_of : Reader (List s.Variables)
  variables_of = by_kind (λ k. if is_symbol symbol.Var k then some_variables_of else pure [])

unfoldable pub body_of : Option Deeper → Reader s.Body
body_of deeper = by_kind (λ k. if is_symbol symbol.Begin k then block_of deeper else refuse)

module _ (type_reader : Reader s.TypeExpression) (deeper : Option Deeper) where
  unfoldable pub routine_of : Reader s.Routine
  routine_of = heading_of >>= λ h. variables_of type_reader >>= λ vs. body_of deeper >>= λ b. expect symbol.Semicolon >>= λ _.
      pure (record { entry = h.entry; name = h.name; parameters = h.parameters; result_type = h.result_type; variables = vs; body = b })

  unfoldable pub routines_of : Reader (List s.Routine)
  routines_of = repeat_while begins_routine routine_of []

  -- ---- types

  unfoldable pub system_from : Sort → Reader s.System
  system_from sort = take_token >>= λ _. parameters_of >>= λ ps. expect symbol.Semicolon >>= λ _. variables_of type_reader >>= λ vs.
      routines_of >>= λ rs. body_of deeper >>= λ b. pure (record { sort = sort; parameters = ps; variables = vs; routines = rs; body = b })

  unfoldable pub system_type : Sort → Reader s.Defined
  system_type sort = system_from sort >>= λ y. pure (s.SystemType y)

  unfoldable pub enumeration_of : Reader s.Defined
  enumeration_of = take_token >>= λ _. names_of >>= λ xs. expect symbol.CloseParenthesis >>= λ _. pure (s.Enumeration xs)

  unfoldable pub written_type : Reader s.Defined
  written_type = type_reader >>= λ t. pure (s.Written t)

  unfoldable pub defined_by : Option Kind → Reader s.Defined
  defined_by (Some (kind.Symbol symbol.Process)) = system_type sort.Process
  defined_by (Some (kind.Symbol symbol.Monitor)) = system_type sort.Monitor
  defined_by (Some (kind.Symbol symbol.Class)) = system_type sort.Class
  defined_by (Some (kind.Symbol symbol.OpenParenthesis)) = enumeration_of
  defined_by _ = written_type

  unfoldable pub defined_of : Reader s.Defined
  defined_of = by_kind defined_by

  unfoldable pub type_definition_of : Reader s.TypeDefinition
  type_definition_of = identifier_of >>= λ x. expect symbol.Equal >>= λ _. defined_of >>= λ d. expect symbol.Semicolon >>= λ _.
      pure (record { name = x; defined = d })

  -- ---- sections

  unfoldable pub section_by : Option Kind → Reader s.Section
  section_by (Some (kind.Symbol symbol.Const)) = take_token >>= λ _. one_or_more is_name constant_definition_of >>= λ ds. pure (s.Constants ds)
  section_by (Some (kind.Symbol symbol.Type)) = take_token >>= λ _. one_or_more is_name type_definition_of >>= λ ds. pure (s.Types ds)
  section_by _ = refuse

  unfoldable pub section_of : Reader s.Section
  section_of = by_kind section_by

abbrev pub begins_section : Option Kind → Bool
begins_section (Some (kind.Symbol symbol.Const)) = true
begins_section (Some (kind.Symbol symbol.Type)) = true
begins_section _ = false
