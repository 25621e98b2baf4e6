-- The abstract syntax of a syntax tree: what is left when places and parentheses are removed.
-- Statement lists become `Seq` and `Nothing`, `init a, b` becomes two statements, `v[i, j]` becomes
-- `v[i][j]`, and `array [a, b] of t` becomes an array of arrays.
use Rattle.std.specs.Prelude.{Bool, true, false, List, [], ◌∷◌, ◌++◌, Option, None, Some, map, is_some}
use Rattle.cp_model.specs.Syntax as s
use Rattle.cp_model.specs.Abstract as a
use Rattle.cp_model.specs.declared.tree.Identifier.{Identifier}
use Rattle.cp_model.specs.declared.tree.Constant.{Constant}
use Rattle.cp_model.specs.declared.tree.Constant.TheVariants as written
use Rattle.cp_model.specs.declared.tree.ConstantDefinition.{ConstantDefinition}
use Rattle.cp_model.specs.declared.tree.Operator.{Operator}
use Rattle.cp_model.specs.declared.tree.Operator.TheVariants as operator
use Rattle.cp_model.specs.declared.tree.Sign.{Sign}
use Rattle.cp_model.specs.declared.tree.Sign.TheVariants as sign
use Rattle.cp_model.specs.declared.tree.Direction.{Direction}
use Rattle.cp_model.specs.declared.tree.Direction.TheVariants as direction
use Rattle.cp_model.specs.declared.tree.Sort.{Sort}
use Rattle.cp_model.specs.declared.tree.Sort.TheVariants as sort

abbrev pub name : Identifier → a.Name
name x = x.name

-- ---- types

abbrev pub constant : Constant → a.Constant
constant (written.Number at n) = a.Number n
constant (written.Negative at n) = a.Minus n
constant (written.Character at n) = a.Character n
constant (written.Named x) = a.Named x.name

-- an array of arrays, one level for each index type
abbrev pub arrays : List a.TypeExpression → a.TypeExpression → a.TypeExpression
arrays [] element = element
arrays (i ∷ is) element = a.Array i (arrays is element)

abbrev mutual
  pub type_expression : s.TypeExpression → a.TypeExpression
  type_expression (s.Named x) = a.TypeName x.name
  type_expression (s.Subrange low high) = a.Range (constant low) (constant high)
  type_expression (s.Array at is e) = arrays (type_expressions is) (type_expression e)
  type_expression (s.Record at gs) = a.Record (fields gs)

  pub type_expressions : s.TypeExpressions → List a.TypeExpression
  type_expressions s.NoTypes = []
  type_expressions (s.MoreTypes t ts) = type_expression t ∷ type_expressions ts

  pub fields : s.FieldGroups → a.Fields
  fields s.NoFields = a.NoFields
  fields (s.MoreFields xs t gs) = a.MoreFields (map name xs) (type_expression t) (fields gs)

-- ---- expressions

abbrev pub operator_of : Operator → a.Operator
operator_of operator.Equal = a.Equal
operator_of operator.Unequal = a.Unequal
operator_of operator.Less = a.Less
operator_of operator.Greater = a.Greater
operator_of operator.AtMost = a.AtMost
operator_of operator.AtLeast = a.AtLeast
operator_of operator.Add = a.Add
operator_of operator.Subtract = a.Subtract
operator_of operator.Or = a.Or
operator_of operator.Multiply = a.Multiply
operator_of operator.Divide = a.Divide
operator_of operator.Modulo = a.Modulo
operator_of operator.And = a.And

abbrev pub with_sign : Sign → a.Expression → a.Expression
with_sign sign.Plus e = a.Positive e
with_sign sign.Minus e = a.Negative e

-- a call without arguments, which no text contains, becomes a bare name
abbrev pub call_or_name : a.Designator → a.Expressions → a.Expression
call_or_name d a.NoExpression = a.Use d
call_or_name d es = a.Call d es

abbrev mutual
  pub expression : s.Expression → a.Expression
  expression (s.Number at n) = a.Literal n
  expression (s.Character at n) = a.Letter n
  expression (s.Designated d) = a.Use (designator d)
  expression (s.Call d es) = call_or_name (designator d) (expressions es)
  expression (s.Parenthesized at e) = expression e
  expression (s.Not at e) = a.Not (expression e)
  expression (s.Signed sign at e) = with_sign sign (expression e)
  expression (s.Binary l o at r) = a.Binary (operator_of o) (expression l) (expression r)

  pub expressions : s.Expressions → a.Expressions
  expressions s.NoExpressions = a.NoExpression
  expressions (s.MoreExpressions e es) = a.MoreExpressions (expression e) (expressions es)

  pub designator : s.Designator → a.Designator
  designator (s.Designate x ss) = with_selectors (a.Plain x.name) ss

  pub with_selectors : a.Designator → s.Selectors → a.Designator
  with_selectors d s.NoSelectors = d
  with_selectors d (s.MoreSelectors y ys) = with_selectors (select d y) ys

  pub select : a.Designator → s.Selector → a.Designator
  select d (s.Field at x) = a.Part d x.name
  select d (s.Indexed is) = with_indices d is

  pub with_indices : a.Designator → s.Indices → a.Designator
  with_indices d s.NoIndices = d
  with_indices d (s.MoreIndices at e is) = with_indices (a.At d (expression e)) is

-- ---- statements

abbrev pub is_down : Direction → Bool
is_down direction.Up = false
is_down direction.Down = true

abbrev pub items : List s.InitItem → a.Statement
items [] = a.Nothing
items (i ∷ is) = a.Seq (a.Init i.component.name (expressions i.arguments)) (items is)

abbrev mutual
  pub statement : s.Statement → a.Statement
  statement s.Empty = a.Nothing
  statement (s.Assign d at e) = a.Assign (designator d) (expression e)
  statement (s.Perform d es) = a.Perform (designator d) (expressions es)
  statement (s.Compound l) = statements l
  statement (s.If e x) = a.If (expression e) (statement x) a.Nothing
  statement (s.IfElse e x y) = a.If (expression e) (statement x) (statement y)
  statement (s.Case e arms') = a.Case (expression e) (arms arms')
  statement (s.While e x) = a.While (expression e) (statement x)
  statement (s.Repeat l e) = a.Repeat (statements l) (expression e)
  statement (s.For v from d to x) = a.For v.name (is_down d) (expression from) (expression to) (statement x)
  statement (s.Cycle l) = a.Cycle (statements l)
  statement (s.Init at is) = items is

  pub statements : s.Statements → a.Statement
  statements s.NoStatements = a.Nothing
  statements (s.MoreStatements x xs) = a.Seq (statement x) (statements xs)

  pub arms : s.Arms → a.Arms
  arms s.NoArms = a.NoArm
  arms (s.MoreArms cs x rest) = a.MoreArms (map constant cs) (statement x) (arms rest)

-- ---- declarations

abbrev pub name_if : Option Identifier → Option a.Name
name_if None = None
name_if (Some x) = Some x.name

abbrev pub variable_group : s.Variables → a.Group
variable_group g = record { by_reference = false; names = map name g.names; type = type_expression g.of }

abbrev pub parameter_group : s.Parameters → a.Group
parameter_group p = record { by_reference = is_some p.by_reference; names = map name p.names; type = a.TypeName p.of.name }

abbrev pub routine : s.Routine → a.Routine
routine r = record {
  name = r.name.name;
  entry = is_some r.entry;
  parameters = map parameter_group r.parameters;
  result = name_if r.result_type;
  variables = map variable_group r.variables;
  body = statements r.body.list;
}

abbrev pub sort_of : Sort → a.Sort
sort_of sort.Process = a.Process
sort_of sort.Monitor = a.Monitor
sort_of sort.Class = a.Class

abbrev pub system : s.System → a.System
system y = record {
  sort = sort_of y.sort;
  parameters = map parameter_group y.parameters;
  variables = map variable_group y.variables;
  routines = map routine y.routines;
  body = statements y.body.list;
}

abbrev pub definition : Identifier → s.Defined → a.Definition
definition x (s.Written t) = a.TypeDef x.name (type_expression t)
definition x (s.Enumeration values) = a.EnumDef x.name (map name values)
definition x (s.SystemType y) = a.SystemDef x.name (system y)

abbrev pub constant_definition : ConstantDefinition → a.Definition
constant_definition d = a.ConstantDef d.name.name (constant d.value)

abbrev pub type_definition : s.TypeDefinition → a.Definition
type_definition d = definition d.name d.defined

abbrev pub section : s.Section → List a.Definition
section (s.Constants ds) = map constant_definition ds
section (s.Types ds) = map type_definition ds

abbrev pub sections : List s.Section → List a.Definition
sections [] = []
sections (x ∷ xs) = section x ++ sections xs

-- the outermost text is the initial process, a process without parameters
abbrev pub abstract : s.Tree → a.Tree
abstract t = record {
  definitions = sections t.sections;
  initial = record {
    sort = a.Process;
    parameters = [];
    variables = map variable_group t.variables;
    routines = map routine t.routines;
    body = statements t.body.list;
  };
}
