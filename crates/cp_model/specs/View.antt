-- The code's syntax tree as plain data. A sequence becomes a list, and a chain of operands becomes
-- the expression that it groups to.
use Rattle.std.specs.Prelude.{ℕ, List, [], ◌∷◌, map}
use Rattle.cp_model.specs.Syntax as s
use Rattle.cp_model.specs.Syntax.{chain_of}
use Rattle.cp_model.specs.declared.tree.Constant.{Constant}
use Rattle.cp_model.specs.declared.tree.TypeExpression.{TypeExpression}
use Rattle.cp_model.specs.declared.tree.Fields.{Fields}
use Rattle.cp_model.specs.declared.tree.TypeExpression.TheOpen.{TypeExpression-F, Fields-F}
use Rattle.cp_model.specs.declared.tree.TypeExpression.TheFolds.{fold-TypeExpression, fold-Fields}
use Rattle.cp_model.specs.declared.tree.Expression.{Expression}
use Rattle.cp_model.specs.declared.tree.Operation.{Operation}
use Rattle.cp_model.specs.declared.tree.Designator.{Designator}
use Rattle.cp_model.specs.declared.tree.Selector.{Selector}
use Rattle.cp_model.specs.declared.tree.Index.{Index}
use Rattle.cp_model.specs.declared.tree.Expression.TheOpen.{Expression-F, Operation-F, Designator-F, Selector-F, Index-F}
use Rattle.cp_model.specs.declared.tree.Expression.TheFolds.{fold-Expression, fold-Operation, fold-Designator, fold-Selector, fold-Index}
use Rattle.cp_model.specs.declared.tree.Statement.{Statement}
use Rattle.cp_model.specs.declared.tree.Arm.{Arm}
use Rattle.cp_model.specs.declared.tree.Statement.TheOpen.{Statement-F, Arm-F}
use Rattle.cp_model.specs.declared.tree.Statement.TheFolds.{fold-Statement, fold-Arm}
use Rattle.cp_model.specs.declared.tree.InitItem.{InitItem}
use Rattle.cp_model.specs.declared.tree.Body.{Body}
use Rattle.cp_model.specs.declared.tree.Parameters.{Parameters}
use Rattle.cp_model.specs.declared.tree.Routine.{Routine}
use Rattle.cp_model.specs.declared.tree.System.{System}
use Rattle.cp_model.specs.declared.tree.Defined.{Defined}
use Rattle.cp_model.specs.declared.tree.Defined.TheVariants as defined
use Rattle.cp_model.specs.declared.tree.TypeDefinition.{TypeDefinition}
use Rattle.cp_model.specs.declared.tree.Section.{Section}
use Rattle.cp_model.specs.declared.tree.Section.TheVariants as section
use Rattle.cp_model.specs.declared.tree.Tree.{Tree}

-- ---- types

abbrev pub types_of : List s.TypeExpression → s.TypeExpressions
types_of [] = s.NoTypes
types_of (t ∷ ts) = s.MoreTypes t (types_of ts)

abbrev pub fields_of : List s.Variables → s.FieldGroups
fields_of [] = s.NoFields
fields_of (g ∷ gs) = s.MoreFields g.names g.of (fields_of gs)

abbrev pub type_layer : TypeExpression-F s.TypeExpression s.Variables → s.TypeExpression
type_layer (TypeExpression-F.Named name) = s.Named name
type_layer (TypeExpression-F.Subrange bounds) = s.Subrange bounds.value.0 bounds.value.1
type_layer (TypeExpression-F.Array at indices element) = s.Array at (types_of indices.value.items) element.value
type_layer (TypeExpression-F.Record at groups) = s.Record at (fields_of groups.value.items)

abbrev pub fields_layer : Fields-F s.TypeExpression s.Variables → s.Variables
fields_layer g = record { names = g.names.items; of = g.of }

abbrev pub type_expression : TypeExpression → s.TypeExpression
type_expression = fold-TypeExpression s.TypeExpression s.Variables type_layer fields_layer

abbrev pub variables : Fields → s.Variables
variables = fold-Fields s.TypeExpression s.Variables type_layer fields_layer

-- ---- expressions

abbrev pub expressions_of : List s.Expression → s.Expressions
expressions_of [] = s.NoExpressions
expressions_of (e ∷ es) = s.MoreExpressions e (expressions_of es)

abbrev pub selectors_of : List s.Selector → s.Selectors
selectors_of [] = s.NoSelectors
selectors_of (x ∷ xs) = s.MoreSelectors x (selectors_of xs)

-- an index and the place of the token before it
pub record PlacedIndex : Type 0 where
  pub at : ℕ
  pub value : s.Expression

abbrev pub indices_of : List PlacedIndex → s.Indices
indices_of [] = s.NoIndices
indices_of (i ∷ is) = s.MoreIndices i.at i.value (indices_of is)

abbrev pub expression_layer : Expression-F s.Expression s.Selector s.Designator PlacedIndex s.Operation → s.Expression
expression_layer (Expression-F.Number at value) = s.Number at value
expression_layer (Expression-F.Character at ordinal) = s.Character at ordinal
expression_layer (Expression-F.Designated d) = s.Designated d
expression_layer (Expression-F.Call d arguments) = s.Call d.value (expressions_of arguments.items)
expression_layer (Expression-F.Parenthesized at inner) = s.Parenthesized at inner.value
expression_layer (Expression-F.Not at operand) = s.Not at operand.value
expression_layer (Expression-F.Signed sign at operand) = s.Signed sign at operand.value
expression_layer (Expression-F.Chain first rest) = chain_of first.value rest.items

abbrev pub operation_layer : Operation-F s.Expression s.Selector s.Designator PlacedIndex s.Operation → s.Operation
operation_layer o = record { operator = o.operator; at = o.at; operand = o.operand }

abbrev pub designator_layer : Designator-F s.Expression s.Selector s.Designator PlacedIndex s.Operation → s.Designator
designator_layer d = s.Designate d.root (selectors_of d.selectors.items)

abbrev pub selector_layer : Selector-F s.Expression s.Selector s.Designator PlacedIndex s.Operation → s.Selector
selector_layer (Selector-F.Field at name) = s.Field at name
selector_layer (Selector-F.Indexed indices) = s.Indexed (indices_of indices.items)

abbrev pub index_layer : Index-F s.Expression s.Selector s.Designator PlacedIndex s.Operation → PlacedIndex
index_layer i = record { at = i.at; value = i.value }

abbrev pub expression : Expression → s.Expression
expression = fold-Expression s.Expression s.Selector s.Designator PlacedIndex s.Operation expression_layer selector_layer designator_layer index_layer operation_layer

abbrev pub operation : Operation → s.Operation
operation = fold-Operation s.Expression s.Selector s.Designator PlacedIndex s.Operation expression_layer selector_layer designator_layer index_layer operation_layer

abbrev pub designator : Designator → s.Designator
designator = fold-Designator s.Expression s.Selector s.Designator PlacedIndex s.Operation expression_layer selector_layer designator_layer index_layer operation_layer

abbrev pub selector : Selector → s.Selector
selector = fold-Selector s.Expression s.Selector s.Designator PlacedIndex s.Operation expression_layer selector_layer designator_layer index_layer operation_layer

abbrev pub index : Index → PlacedIndex
index = fold-Index s.Expression s.Selector s.Designator PlacedIndex s.Operation expression_layer selector_layer designator_layer index_layer operation_layer

-- ---- statements

abbrev pub statements_of : List s.Statement → s.Statements
statements_of [] = s.NoStatements
statements_of (x ∷ xs) = s.MoreStatements x (statements_of xs)

-- one labelled statement of a `case`
pub record LabelledStatement : Type 0 where
  pub labels : List Constant
  pub body : s.Statement

abbrev pub arms_of : List LabelledStatement → s.Arms
arms_of [] = s.NoArms
arms_of (a ∷ as') = s.MoreArms a.labels a.body (arms_of as')

abbrev pub init_item : InitItem → s.InitItem
init_item i = record { component = i.component; arguments = expressions_of (map expression i.arguments.items) }

abbrev pub statement_layer : Statement-F s.Statement LabelledStatement → s.Statement
statement_layer Statement-F.Empty = s.Empty
statement_layer (Statement-F.Assign a) = s.Assign (designator a.value.target) a.value.at (expression a.value.value)
statement_layer (Statement-F.Call c) = s.Perform (designator c.value.procedure) (expressions_of (map expression c.value.arguments.items))
statement_layer (Statement-F.Compound list) = s.Compound (statements_of list.value.items)
statement_layer (Statement-F.If condition body) = s.If (expression condition.value) body.value
statement_layer (Statement-F.IfElse condition branches) = s.IfElse (expression condition.value) branches.value.0 branches.value.1
statement_layer (Statement-F.Case selector arms) = s.Case (expression selector.value) (arms_of arms.value.items)
statement_layer (Statement-F.While condition body) = s.While (expression condition.value) body.value
statement_layer (Statement-F.Repeat list condition) = s.Repeat (statements_of list.value.items) (expression condition.value)
statement_layer (Statement-F.For h body) = s.For h.value.variable (expression h.value.from) h.value.direction (expression h.value.last) body.value
statement_layer (Statement-F.Cycle list) = s.Cycle (statements_of list.value.items)
statement_layer (Statement-F.Init at items) = s.Init at (map init_item items.value.items)

abbrev pub arm_layer : Arm-F s.Statement LabelledStatement → LabelledStatement
arm_layer a = record { labels = a.labels.items; body = a.body }

abbrev pub statement : Statement → s.Statement
statement = fold-Statement s.Statement LabelledStatement statement_layer arm_layer

abbrev pub arm : Arm → LabelledStatement
arm = fold-Arm s.Statement LabelledStatement statement_layer arm_layer

-- ---- declarations

abbrev pub body : Body → s.Body
body b = record { at = b.at; list = statements_of (map statement b.statements.items) }

abbrev pub parameters : Parameters → s.Parameters
parameters p = record { by_reference = p.by_reference; names = p.names.items; of = p.of }

abbrev pub routine : Routine → s.Routine
routine r = record {
  entry = r.entry;
  name = r.name;
  parameters = map parameters r.parameters.items;
  result_type = r.result_type;
  variables = map variables r.variables.items;
  body = body r.body;
}

abbrev pub system : System → s.System
system y = record {
  sort = y.sort;
  parameters = map parameters y.parameters.items;
  variables = map variables y.variables.items;
  routines = map routine y.routines.items;
  body = body y.body;
}

abbrev pub defined_type : Defined → s.Defined
defined_type (defined.Written t) = s.Written (type_expression t)
defined_type (defined.Enumeration values) = s.Enumeration values.items
defined_type (defined.System y) = s.SystemType (system y)

abbrev pub type_definition : TypeDefinition → s.TypeDefinition
type_definition d = record { name = d.name; defined = defined_type d.defined }

abbrev pub section_of : Section → s.Section
section_of (section.Constants ds) = s.Constants ds.items
section_of (section.Types ds) = s.Types (map type_definition ds.items)

abbrev pub tree : Tree → s.Tree
tree t = record {
  sections = map section_of t.sections.items;
  variables = map variables t.variables.items;
  routines = map routine t.routines.items;
  body = body t.body;
}
