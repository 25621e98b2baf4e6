-- User calls: which routine a designator names, and the first call of a task.
--
-- The user calls in the expressions of a statement are made first, leftmost and innermost first,
-- each by steps of its own. The value of a call then takes its place in the statement. A test makes
-- its calls again each time.
use Rattle.std.specs.Prelude.{Bool, None, Option, Some, false, find, true, ◌++◌, is_some}
use Rattle.cp_model.specs.Abstract.{Assign, At, Binary, Call, Case, Designator, Expression, Expressions, For, If, Init, Monitor, MoreExpressions, Name, Negative, NoExpression, Not, Part, Perform, Plain, Positive, Routine, Statement, System, Use}
use Rattle.cp_model.specs.Names.{lookup}
use Rattle.std.specs.Str.{bytes_eq}
use Rattle.cp_model.specs.Types.{GlobalScope}
use Rattle.cp_model.specs.Declarations.{declarations}
use Rattle.cp_model.specs.Environments.{Environment, Frame}
use Rattle.cp_model.specs.Continuations.{Do, RepeatTest, Task, WhileTest}
use Rattle.cp_model.specs.Components.{Component, component_named, same_sort}

-- ---- Routines

-- The routine that is called: a routine of the running component, or an entry of a component that
-- is named before the `.`.
pub record Callee : Type 0 where
  pub routine : Routine
  pub of : Option Component

abbrev pub routine_named : Name → System → Option Routine
routine_named x s = find (λ r. bytes_eq x r.name) s.routines

-- A parameter or variable of a routine may have the name of a routine that is declared later. Such
-- a name isn't a call.
abbrev pub is_local : GlobalScope → Option Frame → Name → Bool
is_local g None x = false
is_local g (Some f) x = is_some (lookup x (declarations g f.routine.parameters ++ declarations g f.routine.variables))

abbrev pub own_routine : Bool → Name → System → Option Routine
own_routine true x s = None
own_routine false x s = routine_named x s

abbrev pub callee : Environment → Designator → Option Callee
callee env (Plain f) =
    elim (own_routine (is_local env.globals env.frame f) f env.system) [
      | None ↦ None
      | Some r ↦ Some (record { routine = r; of = None })
    ]
callee env (Part (Plain x) f) =
    elim (component_named env x) [
      | None ↦ None
      | Some c ↦ elim (routine_named f c.system) [ None ↦ None | Some r ↦ Some (record { routine = r; of = Some c }) ]
    ]
callee env _ = None

abbrev pub is_monitor_call : Callee → Bool
is_monitor_call c = elim c.of [ None ↦ false | Some n ↦ same_sort Monitor n.system.sort ]

-- ---- The first call

pub record UserCall : Type 0 where
  pub callee : Callee
  pub arguments : Expressions
  pub environment : Environment

-- A call, and what contains it, with a value in place of the call.
abbrev pub Found : Type 0 → Type 0
Found A = Option (UserCall × A)

abbrev pub in_context : {A B : Type 0} → (A → B) → Found A → Found B
in_context f None = None
in_context f (Some (u, a)) = Some (u, f a)

abbrev pub or_else : {A : Type 0} → Found A → Found A → Found A
or_else None y = y
or_else (Some x) y = Some x

abbrev pub user_call : Environment → Designator → Expressions → Expression → Found Expression
user_call env d arguments v = elim (callee env d) [ None ↦ None | Some c ↦ Some (record { callee = c; arguments = arguments; environment = env }, v) ]

abbrev mutual
  pub first_call : Environment → Expression → Expression → Found Expression
  first_call env v (Use d) = or_else (in_context Use (call_in_designator env v d)) (user_call env d NoExpression v)
  first_call env v (Call d arguments) =
      or_else (in_context (Call d) (call_in_arguments env v arguments)) (user_call env d arguments v)
  first_call env v (Not e) = in_context Not (first_call env v e)
  first_call env v (Negative e) = in_context Negative (first_call env v e)
  first_call env v (Positive e) = in_context Positive (first_call env v e)
  first_call env v (Binary o a b) =
      or_else (in_context (λ x. Binary o x b) (first_call env v a)) (in_context (Binary o a) (first_call env v b))
  first_call env v _ = None

  pub call_in_designator : Environment → Expression → Designator → Found Designator
  call_in_designator env v (Plain x) = None
  call_in_designator env v (Part d x) = in_context (λ y. Part y x) (call_in_designator env v d)
  call_in_designator env v (At d e) =
      or_else (in_context (λ y. At y e) (call_in_designator env v d)) (in_context (At d) (first_call env v e))

  pub call_in_arguments : Environment → Expression → Expressions → Found Expressions
  call_in_arguments env v NoExpression = None
  call_in_arguments env v (MoreExpressions e es) =
      or_else
      (in_context (λ y. MoreExpressions y es) (first_call env v e))
      (in_context (MoreExpressions e) (call_in_arguments env v es))

-- Left before right. The tests of `while` and `repeat` are tasks of their own.
abbrev pub call_in_statement : Environment → Expression → Statement → Found Statement
call_in_statement env v (Assign d e) =
    or_else (in_context (λ y. Assign y e) (call_in_designator env v d)) (in_context (Assign d) (first_call env v e))
call_in_statement env v (Perform d arguments) = in_context (Perform d) (call_in_arguments env v arguments)
call_in_statement env v (If e a b) = in_context (λ y. If y a b) (first_call env v e)
call_in_statement env v (Case e arms) = in_context (λ y. Case y arms) (first_call env v e)
call_in_statement env v (For x down a b s) =
    or_else
    (in_context (λ y. For x down y b s) (first_call env v a))
    (in_context (λ y. For x down a y s) (first_call env v b))
call_in_statement env v (Init x arguments) = in_context (Init x) (call_in_arguments env v arguments)
call_in_statement env v _ = None

abbrev pub call_in_task : Expression → Task → Found Task
call_in_task v (Do s env) = in_context (λ y. Do y env) (call_in_statement env v s)
call_in_task v (WhileTest now e s env) = in_context (λ y. WhileTest y e s env) (first_call env v now)
call_in_task v (RepeatTest now s e env) = in_context (λ y. RepeatTest y s e env) (first_call env v now)
call_in_task v _ = None

-- The call that a procedure statement makes of a user's procedure, once its arguments contain no
-- call.
abbrev pub procedure_call : Task → Option UserCall
procedure_call (Do (Perform d arguments) env) =
    elim (callee env d) [
      | None ↦ None
      | Some c ↦ Some (record { callee = c; arguments = arguments; environment = env })
    ]
procedure_call _ = None
