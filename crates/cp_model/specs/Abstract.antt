-- The abstract syntax of a text: its tree, by names and without places.
--
-- The meaning refers only to this tree. `Erase` makes it from the tree that the parser returns, so
-- no step of a program can depend on where something is written.
use Rattle.std.specs.Prelude.{Bool, List, Option, ℕ, ℤ}

-- A name is the list of its bytes, in lower case.
abbrev pub Name : Type 0
Name = List ℕ

-- ---- Constants and types

-- A constant as it is written: a number, a number after `-`, a character by its code, or a name.
pub data Constant : Type 0 where
  Number : (n : ℕ) → Constant
  Minus : (n : ℕ) → Constant
  Character : (code : ℕ) → Constant
  Named : (name : Name) → Constant

-- A type as it is written. `array [a, b] of t` is `Array a (Array b t)`.
mutual
  pub data TypeExpression : Type 0 where
    TypeName : (name : Name) → TypeExpression
    Range : (low high : Constant) → TypeExpression
    Array : (index element : TypeExpression) → TypeExpression
    Record : (fields : Fields) → TypeExpression

  pub data Fields : Type 0 where
    NoFields : Fields
    MoreFields : (names : List Name) (type : TypeExpression) (rest : Fields) → Fields

-- ---- Expressions

-- The base types. An enumeration has a name and the ordinal of its last value.
pub data BaseType : Type 0 where
  Integer Char Boolean : BaseType
  Enumeration : (name : Name) (last : ℕ) → BaseType

pub data Operator : Type 0 where
  Add Subtract Multiply Divide Modulo And Or Equal Unequal Less Greater AtMost AtLeast : Operator

-- `Use` is a designator without arguments: a constant, a variable or a call. `Known` is the value
-- of a call that has been made. No text contains it: it takes the place of the call while the
-- statement waits to be executed.
mutual
  pub data Expression : Type 0 where
    Literal : (n : ℕ) → Expression
    Letter : (code : ℕ) → Expression
    Use : (d : Designator) → Expression
    Call : (d : Designator) (arguments : Expressions) → Expression
    Not : (e : Expression) → Expression
    Negative : (e : Expression) → Expression
    Positive : (e : Expression) → Expression
    Binary : (o : Operator) (a b : Expression) → Expression
    Known : (base : BaseType) (ordinal : ℤ) → Expression

  pub data Designator : Type 0 where
    Plain : (name : Name) → Designator
    Part : (d : Designator) (field : Name) → Designator
    At : (d : Designator) (index : Expression) → Designator

  pub data Expressions : Type 0 where
    NoExpression : Expressions
    MoreExpressions : (e : Expression) (rest : Expressions) → Expressions

-- ---- Statements

-- A list of statements is built from `Seq` and `Nothing`. `Perform` is a procedure statement.
-- `Init` is one item of an `init`: `init a, b` in a text is a `Seq` of two.
mutual
  pub data Statement : Type 0 where
    Nothing : Statement
    Seq : (a b : Statement) → Statement
    Assign : (d : Designator) (e : Expression) → Statement
    Perform : (d : Designator) (arguments : Expressions) → Statement
    If : (e : Expression) (yes no : Statement) → Statement
    Case : (e : Expression) (arms : Arms) → Statement
    While : (e : Expression) (s : Statement) → Statement
    Repeat : (s : Statement) (e : Expression) → Statement
    For : (v : Name) (down : Bool) (a b : Expression) (s : Statement) → Statement
    Cycle : (s : Statement) → Statement
    Init : (name : Name) (arguments : Expressions) → Statement

  pub data Arms : Type 0 where
    NoArm : Arms
    MoreArms : (labels : List Constant) (s : Statement) (rest : Arms) → Arms

-- ---- Declarations

-- Variables, or parameters, of one type.
pub record Group : Type 0 where
  pub by_reference : Bool
  pub names : List Name
  pub type : TypeExpression

-- A procedure, or a function if it has a result type.
pub record Routine : Type 0 where
  pub name : Name
  pub entry : Bool
  pub parameters : List Group
  pub result : Option Name
  pub variables : List Group
  pub body : Statement

-- The kind of component that a system type declares.
pub data Sort : Type 0 where
  Process Monitor Class : Sort

-- A system type.
pub record System : Type 0 where
  pub sort : Sort
  pub parameters : List Group
  pub variables : List Group
  pub routines : List Routine
  pub body : Statement

pub data Definition : Type 0 where
  ConstantDef : (name : Name) (c : Constant) → Definition
  TypeDef : (name : Name) (t : TypeExpression) → Definition
  EnumDef : (name : Name) (values : List Name) → Definition
  SystemDef : (name : Name) (s : System) → Definition

-- The initial process has the variables, routines and body of the outermost text, and no parameters.
pub record Tree : Type 0 where
  pub definitions : List Definition
  pub initial : System
