-- Programs as plain data, with one operation for each step of the meaning.
--
-- The place of an operation is its index in the program's list. An operation names the place to
-- which it leads, so lists of statements, `begin` and `end` need no operations of their own.
use Rattle.std.specs.Prelude.{ℕ, ℤ, Bool, List, Option}
use Rattle.cp_model_program.specs.Terms.{Argument, Root, PlaceExpression, Target, Term}

-- ---- Operations

-- A call of a unit. The new activation begins `words` words after the start of the caller's, and
-- the arguments are put there. Its temps come after the first `temps` temps of the caller, which
-- hold the values that the caller still needs.
pub record Call : Type 0 where
  pub routine : ℕ
  pub target : Target
  pub arguments : List Argument
  pub words : ℕ
  pub temps : ℕ

pub record Arm : Type 0 where
  pub label : ℤ
  pub place : ℕ

-- Where a `case` leads: a place for each number from the lowest label to the highest, or a list of
-- labels.
pub data Table : Type 0 where
  Dense : (low : ℤ) (places : List (Option ℕ)) → Table
  Sparse : (arms : List Arm) → Table

-- A `for`. Two temps hold its counter and its last value.
pub record Counting : Type 0 where
  pub variable : Root
  pub low : ℤ
  pub high : ℤ
  pub down : Bool
  pub temp : ℕ
  pub body : ℕ
  pub next : ℕ

-- The bounds are those of the type of the variable that is written. `Function` puts the value of
-- the call into a temp. `Return` and `Continue` say whether the routine is a function.
pub data Operation : Type 0 where
  Set : (to : PlaceExpression) (low high : ℤ) (value : Term) (next : ℕ) → Operation
  SetResult : (low high : ℤ) (value : Term) (next : ℕ) → Operation
  CopyWords : (to from : PlaceExpression) (size next : ℕ) → Operation
  Test : (value : Term) (yes no : ℕ) → Operation
  Case : (value : Term) (table : Table) → Operation
  For : (counting : Counting) (first last : Term) → Operation
  ForNext : (counting : Counting) → Operation
  Cycle : (body : ℕ) → Operation
  Procedure : (call : Call) (next : ℕ) → Operation
  Function : (call : Call) (into next : ℕ) → Operation
  Return : (function : Bool) → Operation
  InitClass : (call : Call) (next : ℕ) → Operation
  InitMonitor : (call : Call) (next : ℕ) → Operation
  InitProcess : (process : ℕ) (arguments : List Argument) (words next : ℕ) → Operation
  EndBody : Operation
  End : Operation
  Display : (value : Term) (as_byte : Bool) (next : ℕ) → Operation
  Accept : (to : PlaceExpression) (low high : ℤ) (next : ℕ) → Operation
  Delay : (queue : PlaceExpression) (next : ℕ) → Operation
  Continue : (queue : PlaceExpression) (function : Bool) → Operation
  Wait : (next : ℕ) → Operation

-- ---- Units

-- How words start, piece by piece: `count` words with one value; `count` blocks of `size` words that
-- all equal the first one, which is there already; or a part, whose plan counts from its first word.
pub data StartPlan : Type 0 where
  Done : StartPlan
  Fill : (at count : ℕ) (value : ℤ) (rest : StartPlan) → StartPlan
  Repeat : (at size count : ℕ) (rest : StartPlan) → StartPlan
  Part : (at : ℕ) (plan rest : StartPlan) → StartPlan

-- The code of a routine, or of the body of a system type: the place of its first operation, how the
-- words of an activation start, and how many words, temps and frames it needs with everything that
-- it calls.
pub record CodeUnit : Type 0 where
  pub start : ℕ
  pub starts : StartPlan
  pub words : ℕ
  pub temps : ℕ
  pub frames : ℕ

-- ---- Components

-- A monitor has its words among the shared words, from `start` on. The words that `starts` doesn't
-- write start as 0.
pub record Monitor : Type 0 where
  pub start : ℕ
  pub body : ℕ
  pub words : ℕ
  pub starts : StartPlan

-- A process has words of its own. What is passed to it waits among the shared words, from
-- `parameters` on, until the process begins.
pub record Process : Type 0 where
  pub body : ℕ
  pub words : ℕ
  pub parameters : ℕ
  pub waiting : ℕ
  pub starts : StartPlan

-- Monitors and processes are numbered from 1, and the initial process is the first.
pub record Program : Type 0 where
  pub operations : List Operation
  pub units : List CodeUnit
  pub monitors : List Monitor
  pub processes : List Process
  pub shared : ℕ
