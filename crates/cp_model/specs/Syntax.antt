-- The syntax tree as plain data: what the grammar and the rules of the language refer to. It has
-- the place of each token that a rule names. `View` makes it from the code's tree, folding its
-- sequences into lists of its own.
use Rattle.std.specs.Prelude.{ℕ, List, [], ◌∷◌, Option}
use Rattle.cp_model.specs.declared.tree.Identifier.{Identifier}
use Rattle.cp_model.specs.declared.tree.Constant.{Constant}
use Rattle.cp_model.specs.declared.tree.Operator.{Operator}
use Rattle.cp_model.specs.declared.tree.Sign.{Sign}
use Rattle.cp_model.specs.declared.tree.Direction.{Direction}
use Rattle.cp_model.specs.declared.tree.Sort.{Sort}
use Rattle.cp_model.specs.declared.tree.ConstantDefinition.{ConstantDefinition}

-- ---- types

mutual
  pub data TypeExpression : Type 0 where
    Named : (name : Identifier) → TypeExpression
    Subrange : (low high : Constant) → TypeExpression
    Array : (at : ℕ) (indices : TypeExpressions) (element : TypeExpression) → TypeExpression
    Record : (at : ℕ) (fields : FieldGroups) → TypeExpression

  pub data TypeExpressions : Type 0 where
    NoTypes : TypeExpressions
    MoreTypes : (first : TypeExpression) (rest : TypeExpressions) → TypeExpressions

  -- the fields of a record, as groups of one type each
  pub data FieldGroups : Type 0 where
    NoFields : FieldGroups
    MoreFields : (names : List Identifier) (of : TypeExpression) (rest : FieldGroups) → FieldGroups

-- ---- expressions

mutual
  pub data Expression : Type 0 where
    Number : (at value : ℕ) → Expression
    Character : (at ordinal : ℕ) → Expression
    Designated : (d : Designator) → Expression
    Call : (d : Designator) (arguments : Expressions) → Expression
    Parenthesized : (at : ℕ) (inner : Expression) → Expression
    Not : (at : ℕ) (operand : Expression) → Expression
    Signed : (sign : Sign) (at : ℕ) (operand : Expression) → Expression
    Binary : (left : Expression) (operator : Operator) (at : ℕ) (right : Expression) → Expression

  pub data Expressions : Type 0 where
    NoExpressions : Expressions
    MoreExpressions : (first : Expression) (rest : Expressions) → Expressions

  pub data Designator : Type 0 where
    Designate : (root : Identifier) (selectors : Selectors) → Designator

  pub data Selectors : Type 0 where
    NoSelectors : Selectors
    MoreSelectors : (first : Selector) (rest : Selectors) → Selectors

  pub data Selector : Type 0 where
    Field : (at : ℕ) (name : Identifier) → Selector
    Indexed : (indices : Indices) → Selector

  -- each index with the place of the `[` or the `,` before it
  pub data Indices : Type 0 where
    NoIndices : Indices
    MoreIndices : (at : ℕ) (value : Expression) (rest : Indices) → Indices

-- an operator, its place and its right operand
pub record Operation : Type 0 where
  pub operator : Operator
  pub at : ℕ
  pub operand : Expression

-- operands with operators between them, grouped to the left
abbrev pub chain_of : Expression → List Operation → Expression
chain_of e [] = e
chain_of e (o ∷ os) = chain_of (Binary e o.operator o.at o.operand) os

-- ---- statements

pub record InitItem : Type 0 where
  pub component : Identifier
  pub arguments : Expressions

mutual
  pub data Statement : Type 0 where
    Empty : Statement
    Assign : (target : Designator) (at : ℕ) (value : Expression) → Statement
    Perform : (d : Designator) (arguments : Expressions) → Statement
    Compound : (list : Statements) → Statement
    If : (condition : Expression) (then : Statement) → Statement
    IfElse : (condition : Expression) (then otherwise : Statement) → Statement
    Case : (selector : Expression) (arms : Arms) → Statement
    While : (condition : Expression) (body : Statement) → Statement
    Repeat : (list : Statements) (condition : Expression) → Statement
    For : (variable : Identifier) (first : Expression) (direction : Direction) (last : Expression) (body : Statement) → Statement
    Cycle : (list : Statements) → Statement
    Init : (at : ℕ) (items : List InitItem) → Statement

  pub data Statements : Type 0 where
    NoStatements : Statements
    MoreStatements : (first : Statement) (rest : Statements) → Statements

  pub data Arms : Type 0 where
    NoArms : Arms
    MoreArms : (labels : List Constant) (body : Statement) (rest : Arms) → Arms

-- ---- declarations

-- the statements between a `begin` and its `end`
pub record Body : Type 0 where
  pub at : ℕ
  pub list : Statements

-- variables of one type
pub record Variables : Type 0 where
  pub names : List Identifier
  pub of : TypeExpression

-- parameters of one type, and the place of the `var` before them, if there is one
pub record Parameters : Type 0 where
  pub by_reference : Option ℕ
  pub names : List Identifier
  pub of : Identifier

-- a routine has the place of its `entry`, if there is one, and the type of a function's result
pub record Routine : Type 0 where
  pub entry : Option ℕ
  pub name : Identifier
  pub parameters : List Parameters
  pub result_type : Option Identifier
  pub variables : List Variables
  pub body : Body

pub record System : Type 0 where
  pub sort : Sort
  pub parameters : List Parameters
  pub variables : List Variables
  pub routines : List Routine
  pub body : Body

pub data Defined : Type 0 where
  Written : (t : TypeExpression) → Defined
  Enumeration : (values : List Identifier) → Defined
  SystemType : (s : System) → Defined

pub record TypeDefinition : Type 0 where
  pub name : Identifier
  pub defined : Defined

-- the definitions after one word `const` or `type`
pub data Section : Type 0 where
  Constants : (definitions : List ConstantDefinition) → Section
  Types : (definitions : List TypeDefinition) → Section

-- the variables, routines and body are those of the initial process
pub record Tree : Type 0 where
  pub sections : List Section
  pub variables : List Variables
  pub routines : List Routine
  pub body : Body
