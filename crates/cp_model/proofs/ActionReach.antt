-- The next action of a continuation is within the reach of the continuation.
use Rattle.std.specs.Prelude.{Bool, List, None, Option, Some, [], ◌∷◌}
use Rattle.cp_model.specs.Abstract.{Assign, At, Binary, Call, Case, Cycle, Designator, Expression, Expressions, For, If, Init, Known, Letter, Literal, MoreExpressions, Negative, NoExpression, Not, Nothing, Part, Perform, Plain, Positive, Repeat, Seq, Statement, Use, While}
use Rattle.cp_model.specs.Locations.{Owner}
use Rattle.cp_model.specs.Environments.{Environment}
use Rattle.cp_model.specs.Continuations.{Do, EndBody, EndCall, EndProcess, ForNext, RepeatTest, Task, WhileTest}
use Rattle.cp_model.specs.Calls.{Callee, Found, UserCall, call_in_arguments, call_in_designator, call_in_statement, call_in_task, callee, first_call, in_context, or_else, procedure_call, user_call}
use Rattle.cp_model.specs.Actions.{Action, Acts, Calls, Rests, action}
use Rattle.cp_model.specs.Invariant.{EnvironmentIn, TaskIn}

abbrev pub ContinuationIn : (Owner → Bool) → List Task → Type 0
ContinuationIn t [] = Unit {0}
ContinuationIn t (i ∷ k) = TaskIn t i × ContinuationIn t k

abbrev pub ActionIn : (Owner → Bool) → Action → Type 0
ActionIn t Rests = Unit {0}
ActionIn t (Calls u k) = EnvironmentIn t u.environment
ActionIn t (Acts i k) = TaskIn t i × ContinuationIn t k

abbrev pub FoundIn : {A : Type 0} → (Owner → Bool) → Found A → Type 0
FoundIn t None = Unit {0}
FoundIn t (Some f) = EnvironmentIn t f.0.environment

in_context_in : {A B : Type 0} (t : Owner → Bool) (f : A → B) (x : Found A) → FoundIn t x → FoundIn t (in_context f x)
in_context_in t f None h = tt
in_context_in t f (Some x) h = h

or_else_in : {A : Type 0} (t : Owner → Bool) (x y : Found A) → FoundIn t x → FoundIn t y → FoundIn t (or_else x y)
or_else_in t None y h k = k
or_else_in t (Some x) y h k = h

user_call_in : (t : Owner → Bool) (env : Environment) (d : Designator) (arguments : Expressions) (v : Expression)
    → EnvironmentIn t env → FoundIn t (user_call env d arguments v)
user_call_in t env d arguments v s = go (callee env d)
  where
    go : (o : Option Callee) → FoundIn t (elim o as (λ x. Found Expression) [ None ↦ None | Some c ↦ Some (record { callee = c; arguments = arguments; environment = env }, v) ])
    go None = tt
    go (Some c) = s

module _ (t : Owner → Bool) (env : Environment) (v : Expression) (s : EnvironmentIn t env) where
  mutual
    first_call_in : (e : Expression) → FoundIn t (first_call env v e)
    first_call_in (Use d) = or_else_in t (in_context Use (call_in_designator env v d)) (user_call env d NoExpression v)
        (in_context_in t Use (call_in_designator env v d) (call_in_designator_in d)) (user_call_in t env d NoExpression v s)
    first_call_in (Call d arguments) = or_else_in t (in_context (Call d) (call_in_arguments env v arguments))
        (user_call env d arguments v) (in_context_in t (Call d) (call_in_arguments env v arguments)
        (call_in_arguments_in arguments)) (user_call_in t env d arguments v s)
    first_call_in (Not e) = in_context_in t Not (first_call env v e) (first_call_in e)
    first_call_in (Negative e) = in_context_in t Negative (first_call env v e) (first_call_in e)
    first_call_in (Positive e) = in_context_in t Positive (first_call env v e) (first_call_in e)
    first_call_in (Binary o x y) =
        or_else_in t (in_context (λ z. Binary o z y) (first_call env v x)) (in_context (Binary o x) (first_call env v y))
        (in_context_in t (λ z. Binary o z y) (first_call env v x) (first_call_in x)) (in_context_in t (Binary o x) (first_call env v y) (first_call_in y))
    first_call_in (Literal n) = tt
    first_call_in (Letter n) = tt
    first_call_in (Known k n) = tt

    call_in_designator_in : (d : Designator) → FoundIn t (call_in_designator env v d)
    call_in_designator_in (Plain x) = tt
    call_in_designator_in (Part d x) = in_context_in t
        (λ y. Part y x) (call_in_designator env v d) (call_in_designator_in d)
    call_in_designator_in (At d e) =
        or_else_in t (in_context (λ y. At y e) (call_in_designator env v d)) (in_context (At d) (first_call env v e))
        (in_context_in t (λ y. At y e) (call_in_designator env v d) (call_in_designator_in d)) (in_context_in t (At d) (first_call env v e) (first_call_in e))

    call_in_arguments_in : (es : Expressions) → FoundIn t (call_in_arguments env v es)
    call_in_arguments_in NoExpression = tt
    call_in_arguments_in (MoreExpressions e es) =
        or_else_in t (in_context (λ y. MoreExpressions y es) (first_call env v e)) (in_context (MoreExpressions e) (call_in_arguments env v es))
        (in_context_in t (λ y. MoreExpressions y es) (first_call env v e) (first_call_in e)) (in_context_in t (MoreExpressions e) (call_in_arguments env v es) (call_in_arguments_in es))

  call_in_statement_in : (x : Statement) → FoundIn t (call_in_statement env v x)
  call_in_statement_in (Assign d e) =
      or_else_in t (in_context (λ y. Assign y e) (call_in_designator env v d)) (in_context (Assign d) (first_call env v e))
      (in_context_in t (λ y. Assign y e) (call_in_designator env v d) (call_in_designator_in d)) (in_context_in t (Assign d) (first_call env v e) (first_call_in e))
  call_in_statement_in (Perform d arguments) = in_context_in t (Perform d) (call_in_arguments env v arguments)
      (call_in_arguments_in arguments)
  call_in_statement_in (If e x y) = in_context_in t (λ z. If z x y) (first_call env v e) (first_call_in e)
  call_in_statement_in (Case e arms) = in_context_in t (λ z. Case z arms) (first_call env v e) (first_call_in e)
  call_in_statement_in (For x down e f y) =
      or_else_in t (in_context (λ z. For x down z f y) (first_call env v e)) (in_context (λ z. For x down e z y) (first_call env v f))
      (in_context_in t (λ z. For x down z f y) (first_call env v e) (first_call_in e)) (in_context_in t (λ z. For x down e z y) (first_call env v f) (first_call_in f))
  call_in_statement_in (Init x arguments) = in_context_in t (Init x) (call_in_arguments env v arguments)
      (call_in_arguments_in arguments)
  call_in_statement_in Nothing = tt
  call_in_statement_in (Seq x y) = tt
  call_in_statement_in (While e x) = tt
  call_in_statement_in (Repeat x e) = tt
  call_in_statement_in (Cycle x) = tt

pub call_in_task_in : (t : Owner → Bool) (v : Expression) (i : Task) → TaskIn t i → FoundIn t (call_in_task v i)
call_in_task_in t v (Do x env) h = in_context_in t
    (λ y. Do y env) (call_in_statement env v x) (call_in_statement_in t env v h x)
call_in_task_in t v (WhileTest now e x env) h = in_context_in t
    (λ y. WhileTest y e x env) (first_call env v now) (first_call_in t env v h now)
call_in_task_in t v (RepeatTest now x e env) h = in_context_in t
    (λ y. RepeatTest y x e env) (first_call env v now) (first_call_in t env v h now)
call_in_task_in t v (ForNext x down n last y env) h = tt
call_in_task_in t v (EndCall env gate) h = tt
call_in_task_in t v (EndBody gate) h = tt
call_in_task_in t v EndProcess h = tt

abbrev MaybeIn : (Owner → Bool) → Option UserCall → Type 0
MaybeIn t None = Unit {0}
MaybeIn t (Some u) = EnvironmentIn t u.environment

procedure_call_in : (t : Owner → Bool) (i : Task) → TaskIn t i → MaybeIn t (procedure_call i)
procedure_call_in t (Do (Perform d arguments) env) h = go (callee env d)
  where
    go : (o : Option Callee) → MaybeIn t (elim o as (λ x. Option UserCall) [ None ↦ None | Some c ↦ Some (record { callee = c; arguments = arguments; environment = env }) ])
    go None = tt
    go (Some c) = h
procedure_call_in t _ h = tt

pub action_in : (t : Owner → Bool) (k : List Task) → ContinuationIn t k → ActionIn t (action k)
action_in t [] h = tt
action_in t (i ∷ k) h = go (call_in_task (Literal 0) i) (call_in_task_in t (Literal 0) i h.0)
  where
    by_procedure : (o : Option UserCall) → MaybeIn t o
        → ActionIn t (elim o as (λ x. Action) [ Some u ↦ Calls u k | None ↦ Acts i k ])
    by_procedure None g = h
    by_procedure (Some u) g = g

    go : (o : Found Task) → FoundIn t o → ActionIn t (elim o
        as (λ x. Action) [ Some f ↦ Calls f.0 (i ∷ k) | None ↦ elim (procedure_call i) as (λ x. Action) [ Some u ↦ Calls u k | None ↦ Acts i k ] ])
    go None g = by_procedure (procedure_call i) (procedure_call_in t i h.0)
    go (Some f) g = g
