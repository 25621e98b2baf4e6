-- A private step has no effect on gates.
use Rattle.std.specs.Prelude.{Bool, List, None, Option, Some, [], codes, false, if◌then◌else◌, not, true, ℕ, ℤ, ◌∷◌, ◌≡◌}
use Rattle.std.proofs.Common.{arith}
use Rattle.cp_model.specs.Abstract.{Assign, Case, Char, Class, Cycle, Designator, Expression, Expressions, For, If, Init, Integer, Literal, Monitor, MoreExpressions, Name, NoExpression, Nothing, Perform, Plain, Process, Repeat, Seq, Sort, Statement, While}
use Rattle.std.specs.Str.{bytes_eq}
use Rattle.cp_model.specs.Declarations.{declarations}
use Rattle.cp_model.specs.Locations.{Location, OfActivation}
use Rattle.cp_model.specs.Integers.{same_integer}
use Rattle.cp_model.specs.Stores.{put_all}
use Rattle.cp_model.specs.Outcomes.{Fault, Gives, Outcome, and_then}
use Rattle.cp_model.specs.Environments.{Environment}
use Rattle.cp_model.specs.Places.{ordinal_of, simple_value}
use Rattle.cp_model.specs.Expressions.{name_of, place, value}
use Rattle.cp_model.specs.Continuations.{Do, EndBody, EndCall, EndProcess, ForNext, RepeatTest, Task, WhileTest, depth, marked_monitors, push}
use Rattle.cp_model.specs.Components.{Component, class_location, component_named, same_sort}
use Rattle.cp_model.specs.Calls.{Found, UserCall, call_in_task, is_monitor_call, procedure_call}
use Rattle.cp_model.specs.Actions.{Action, Acts, Calls, Rests, action, is_kernel_action}
use Rattle.cp_model.specs.Configurations.{Configuration, Context, Effect, Ends, Own, StepResult, Waits, own_step}
use Rattle.cp_model.specs.Assignments.{writes_of}
use Rattle.cp_model.specs.Arguments.{argument_writes, bind, designator_of}
use Rattle.cp_model.specs.CallSteps.{call, called_configuration, component_target, entering, innermost_call, is_initialised, returns, target}
use Rattle.cp_model.specs.StandardCalls.{continue, delay, next_input, standard_procedure, standard_statement}
use Rattle.cp_model.specs.Initialisation.{init_arguments, init_component}
use Rattle.cp_model.specs.StatementSteps.{chosen_arm, execute, for_step, is_past, next_counter}
use Rattle.cp_model.specs.Step.{run_task, step_of, take_action}
use Rattle.cp_model.proofs.ExpressionReach.{IfGives}

abbrev pub IsQuiet : Effect → Type 0
IsQuiet Own = Unit {0}
IsQuiet Ends = Unit {0}
IsQuiet Waits = Unit {0}
IsQuiet _ = ⊥

abbrev pub Quietly : StepResult → Type 0
Quietly o = IfGives (λ x. IsQuiet x.1) o

pub then_quiet : {A : Type 0} (o : Outcome A) (f : A → StepResult) → ((x : A) → Quietly (f x)) → Quietly (and_then o f)
then_quiet (Fault n) f h = tt
then_quiet (Gives x) f h = h x

pub if_quiet : (x : Bool) (o u : StepResult) → Quietly o → Quietly u → Quietly (if x then o else u)
if_quiet true o u h k = h
if_quiet false o u h k = k

-- A part of a list without gates has none.
pub no_gates-tail : (i : Task) (k : List Task) → marked_monitors (i ∷ k) ≡ [] → marked_monitors k ≡ []
no_gates-tail (Do s env) k h = h
no_gates-tail (WhileTest now e s env) k h = h
no_gates-tail (RepeatTest now s e env) k h = h
no_gates-tail (ForNext v down n last s env) k h = h
no_gates-tail (EndCall env None) k h = h
no_gates-tail (EndCall env (Some m)) k h = Prim.grind arith
no_gates-tail (EndBody None) k h = h
no_gates-tail (EndBody (Some m)) k h = Prim.grind arith
no_gates-tail EndProcess k h = h

delay_quiet : (p : ℕ) (config : Configuration) (k : List Task) (q : Location) (ms : List ℕ) → ms ≡ []
    → Quietly (delay p config k q ms)
delay_quiet p config k q [] h = tt
delay_quiet p config k q (m ∷ ms) h = absurd (Prim.grind arith)

continue_quiet : (config : Configuration) (q : Location) (k : List Task) → marked_monitors k ≡ []
    → Quietly (continue config q (innermost_call k))
continue_quiet config q [] h = tt
continue_quiet config q (EndCall env None ∷ k) h = tt
continue_quiet config q (EndCall env (Some m) ∷ k) h = absurd (Prim.grind arith)
continue_quiet config q (Do s env ∷ k) h = continue_quiet config q k h
continue_quiet config q (WhileTest now e s env ∷ k) h = continue_quiet config q k h
continue_quiet config q (RepeatTest now s e env ∷ k) h = continue_quiet config q k h
continue_quiet config q (ForNext v down n last s env ∷ k) h = continue_quiet config q k h
continue_quiet config q (EndBody None ∷ k) h = continue_quiet config q k h
continue_quiet config q (EndBody (Some m) ∷ k) h = absurd (Prim.grind arith)
continue_quiet config q (EndProcess ∷ k) h = continue_quiet config q k h

module _ (w : Context) (config : Configuration) where
  call_quiet : (u : UserCall) (k : List Task) → is_monitor_call u.callee ≡ false → Quietly (call w config u k)
  call_quiet u k h =
      if_quiet (target w config.store u.environment u.callee.of).is_callable _ (Fault 6)
      (then_quiet (bind (argument_writes w.clock u.environment config.store)
      (record { owner = OfActivation w.process (depth k); path = [] })
      (declarations u.environment.globals u.callee.routine.parameters) u.arguments)
      (λ ws. Gives (called_configuration config u k (target w config.store u.environment u.callee.of) (OfActivation w.process (depth k)) ws)) (λ ws. by_component u.callee.of h))
      tt
    where
      by_component : (o : Option Component) → (elim o
          as (λ x. Bool) [ None ↦ false | Some n ↦ same_sort Monitor n.system.sort ]) ≡ false
          → IsQuiet (entering (target w config.store u.environment o).gate)
      by_component None h = tt
      by_component (Some n) h = by_sort n.system.sort h
        where
          by_sort : (x : Sort) → same_sort Monitor x ≡ false
              → IsQuiet (entering (component_target w u.environment config.store x n).gate)
          by_sort Class h = tt
          by_sort Monitor h = absurd (Prim.grind arith)
          by_sort Process h = tt

  standard_procedure_quiet : (env : Environment) (k : List Task) (x : Name) (e : Expression) → marked_monitors k ≡ []
      → Quietly (standard_procedure w config env k x e)
  standard_procedure_quiet env k x e h =
      if_quiet (bytes_eq x (codes "display")) _ _ (then_quiet (value w.clock env config.store e) _ (λ v. tt))
      (if_quiet (bytes_eq x (codes "accept")) _ _
      (then_quiet (place w.clock env config.store (designator_of e)) _
      (λ p. then_quiet (writes_of p.at p.type (simple_value Char (next_input w.input config.consumed))) _ (λ ws. tt)))
      (if_quiet (bytes_eq x (codes "delay")) _ _
      (then_quiet (place w.clock env config.store (designator_of e)) _
      (λ p. delay_quiet w.process config k p.at (marked_monitors k) h))
      (then_quiet (place w.clock env config.store (designator_of e)) _ (λ p. continue_quiet config p.at k h))))

  standard_statement_quiet : (env : Environment) (k : List Task) (d : Designator) (arguments : Expressions)
      → marked_monitors k ≡ [] → Quietly (standard_statement w config env k d arguments)
  standard_statement_quiet env k d NoExpression h = tt
  standard_statement_quiet env k d (MoreExpressions e es) h = standard_procedure_quiet env k (name_of d) e h

  for_step_quiet : (env : Environment) (k : List Task) (v : Name) (down : Bool) (n last : ℤ) (x : Statement)
      → Quietly (for_step w config env k v down n last x)
  for_step_quiet env k v down n last x =
      then_quiet (place w.clock env config.store (Plain v))
      (λ p. and_then (writes_of p.at p.type (simple_value Integer n)) (λ ws. own_step (record config { store = put_all ws config.store; continuation = push x env (ForNext v down n last x env ∷ k) })))
      (λ p. then_quiet (writes_of p.at p.type (simple_value Integer n)) (λ ws. own_step (record config { store = put_all ws config.store; continuation = push x env (ForNext v down n last x env ∷ k) })) (λ ws. tt))

  execute_quiet : (x : Statement) (env : Environment) (k : List Task) → marked_monitors k ≡ []
      → is_kernel_action (Acts (Do x env) k) ≡ false → Quietly (execute w config env k x)
  execute_quiet Nothing env k g h = tt
  execute_quiet (Seq x y) env k g h = tt
  execute_quiet (While e x) env k g h = tt
  execute_quiet (Repeat x e) env k g h = tt
  execute_quiet (Cycle x) env k g h = tt
  execute_quiet (Assign d e) env k g h =
      then_quiet (place w.clock env config.store d) _
      (λ p. then_quiet (value w.clock env config.store e) _ (λ v. then_quiet (writes_of p.at p.type v) _ (λ ws. tt)))
  execute_quiet (Perform d arguments) env k g h = standard_statement_quiet env k d arguments g
  execute_quiet (If e x y) env k g h = then_quiet (value w.clock env config.store e) _ (λ v. tt)
  execute_quiet (Case e arms) env k g h = then_quiet (value w.clock env config.store e) _
      (λ v. go (chosen_arm env.globals (ordinal_of v) arms))
    where
      go : (o : Option Statement) → Quietly (elim o
          as (λ x. StepResult) [ None ↦ Fault 8 | Some x ↦ own_step (record config { continuation = push x env k }) ])
      go None = tt
      go (Some x) = tt
  execute_quiet (For v down e f x) env k g h =
      then_quiet (value w.clock env config.store e) _ (λ y. then_quiet (value w.clock env config.store f) _ (λ z.
      if_quiet (is_past down (ordinal_of y) (ordinal_of z)) _ _ tt
      (for_step_quiet env k v down (ordinal_of y) (ordinal_of z) x)))
  execute_quiet (Init x arguments) env k g h = go (component_named env x) h
    where
      by_sort : (n : Component) (x : Sort) → not (same_sort Class x) ≡ false
          → Quietly (init_component x w config env k arguments n)
      by_sort n Class h = if_quiet (is_initialised (config.store (class_location env config.store n))) (Fault 7) _ tt
          (then_quiet (init_arguments w config env arguments n (class_location env config.store n)) _ (λ ws. tt))
      by_sort n Monitor h = absurd (Prim.grind arith)
      by_sort n Process h = absurd (Prim.grind arith)

      go : (o : Option Component) → not (elim o as (λ y. Bool) [ None ↦ true | Some c ↦ same_sort Class c.system.sort ]) ≡ false
          → Quietly (elim o as (λ y. StepResult) [ None ↦ own_step (record config { continuation = k }) | Some n ↦ init_component n.system.sort w config env k arguments n ])
      go None h = tt
      go (Some n) h = by_sort n n.system.sort h

  run_task_quiet : (i : Task) (k : List Task) → marked_monitors (i ∷ k) ≡ [] → is_kernel_action (Acts i k) ≡ false
      → Quietly (run_task w config i k)
  run_task_quiet (Do x env) k g h = execute_quiet x env k g h
  run_task_quiet (WhileTest now e x env) k g h = then_quiet (value w.clock env config.store now) _ (λ v. tt)
  run_task_quiet (RepeatTest now x e env) k g h = then_quiet (value w.clock env config.store now) _ (λ v. tt)
  run_task_quiet (ForNext v down n last x env) k g h = if_quiet (same_integer n last) _ _ tt
      (for_step_quiet env k v down (next_counter down n) last x)
  run_task_quiet (EndCall env None) k g h = then_quiet (returns config env k) _ (λ r. tt)
  run_task_quiet (EndCall env (Some m)) k g h = absurd (Prim.grind arith)
  run_task_quiet (EndBody None) k g h = tt
  run_task_quiet (EndBody (Some m)) k g h = absurd (Prim.grind arith)
  run_task_quiet EndProcess k g h = tt

-- The list after the next action.
abbrev GatesIn : Action → Type 0
GatesIn Rests = Unit {0}
GatesIn (Calls u k) = Unit {0}
GatesIn (Acts i k) = marked_monitors (i ∷ k) ≡ []

action_without_gates : (k : List Task) → marked_monitors k ≡ [] → GatesIn (action k)
action_without_gates [] h = tt
action_without_gates (i ∷ k) h = go (call_in_task (Literal 0) i)
  where
    by_procedure : (o : Option UserCall) → GatesIn (elim o as (λ x. Action) [ Some u ↦ Calls u k | None ↦ Acts i k ])
    by_procedure None = h
    by_procedure (Some u) = tt

    go : (o : Found Task) → GatesIn (elim o as (λ x. Action) [ Some f ↦ Calls f.0 (i ∷ k) | None ↦ elim (procedure_call i) as (λ x. Action) [ Some u ↦ Calls u k | None ↦ Acts i k ] ])
    go None = by_procedure (procedure_call i)
    go (Some f) = tt

take_action_quiet : (w : Context) (config : Configuration) (x : Action) → GatesIn x → is_kernel_action x ≡ false
    → Quietly (take_action w config x)
take_action_quiet w config Rests g h = tt
take_action_quiet w config (Calls u k) g h = call_quiet w config u k h
take_action_quiet w config (Acts i k) g h = run_task_quiet w config i k g h

pub private_is_quiet : (w : Context) (config : Configuration) → marked_monitors config.continuation ≡ []
    → is_kernel_action (action config.continuation) ≡ false → Quietly (step_of w config)
private_is_quiet w config g h = take_action_quiet w config (action config.continuation)
    (action_without_gates config.continuation g) h
