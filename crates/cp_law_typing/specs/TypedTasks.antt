-- Typed tasks: what a process has left to do, typed at the place of its statements.
use Rattle.std.specs.Prelude.{◌≡◌, None}
use Rattle.cp_model.specs.Abstract.{BaseType, Boolean, Expression, Name, Plain, Statement}
use Rattle.cp_model.specs.Types.{full_range}
use Rattle.cp_model.specs.Continuations.{Do, ForNext, RepeatTest, Task, WhileTest}
use Rattle.cp_model.specs.Calls.{UserCall, callee}
use Rattle.cp_law_typing.specs.StaticTypes.{answer_type, expression_type, place_type}
use Rattle.cp_law_typing.specs.Judgement.{Called, IsChangeable, IsFunction, IsOfBase, IsSimple, NamesVariable, Place, TypedExpression, TypedExpressions, TypedStatement}

-- a condition
abbrev pub TypedTest : Place → Expression → Type 0
TypedTest p e = TypedExpression p e × IsOfBase Boolean (expression_type p.env e)

-- what is left of a `for`: its variable and its statement
pub record TypedLoop (p : Place) (v : Name) (s : Statement) : Type 0 where
  pub variable : NamesVariable p.env v
  pub no_call : callee p.env (Plain v) ≡ None
  pub changeable : IsChangeable p.env (Plain v)
  pub simple : IsSimple (place_type p.env (Plain v))
  pub body : TypedStatement p s

-- an end mark has nothing to be typed
abbrev pub TypedTask : Place → Task → Type 0
TypedTask p (Do s env) = (env ≡ p.env) × TypedStatement p s
TypedTask p (WhileTest now e s env) = (env ≡ p.env) × TypedTest p now × TypedTest p e × TypedStatement p s
TypedTask p (RepeatTest now s e env) = (env ≡ p.env) × TypedTest p now × TypedStatement p s × TypedTest p e
TypedTask p (ForNext v down counter last s env) = (env ≡ p.env) × TypedLoop p v s
TypedTask p _ = Unit {0}

-- a call that is to be made: of a function that may be called here, with typed arguments that fit
pub record TypedCall (p : Place) (u : UserCall) : Type 0 where
  pub here : u.environment ≡ p.env
  pub called : Called p u.callee u.arguments
  pub function : IsFunction u.callee.routine
  pub arguments : TypedExpressions p u.arguments

-- the result of the call is of this base
abbrev pub Answers : Place → UserCall → BaseType → Type 0
Answers p u b = answer_type p.env.globals u.callee.routine.result ≡ full_range b
