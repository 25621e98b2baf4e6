-- If an action starts no process, neither does what it leaves to the kernel.
use Rattle.std.proofs.Common.{◌≡◌, ℕ, ℤ, List, [], ◌∷◌, Bool, true, false, Option, Some, None}
use Rattle.std.specs.Prelude.{codes, if◌then◌else◌}
use Rattle.std.specs.Str.{bytes_eq}
use Rattle.std.proofs.lemmas.Bool.{true≢false}
use Rattle.cp_model.specs.Abstract as a
use Rattle.cp_model.specs.Actions.{Action, Acts, Calls, Rests}
use Rattle.cp_model.specs.Arguments.{argument_writes, bind, designator_of}
use Rattle.cp_model.specs.Assignments.{writes_of}
use Rattle.cp_model.specs.Calls.{UserCall}
use Rattle.cp_model.specs.CallSteps.{call, called_configuration, entering, innermost_call, is_initialised, leaving, returns, target}
use Rattle.cp_model.specs.Components.{Component, class_location, component_named, monitor_location, monitor_number, same_sort}
use Rattle.cp_model.specs.Configurations.{Configuration, Context, Effect, Starts, StepResult, own_step, with_continuation, with_writes}
use Rattle.cp_model.specs.Continuations.{Do, EndBody, EndCall, EndProcess, ForNext, RepeatTest, Task, WhileTest, depth, marked_monitors, push}
use Rattle.cp_model.specs.Declarations.{declarations}
use Rattle.cp_model.specs.Environments.{Environment}
use Rattle.cp_model.specs.Expressions.{name_of, place, value}
use Rattle.cp_model.specs.Initialisation.{init_arguments, init_component}
use Rattle.cp_model.specs.Integers.{same_integer}
use Rattle.cp_model.specs.Locations.{Location, OfActivation, root}
use Rattle.cp_model.specs.Outcomes.{Fault, Gives, Outcome, and_then}
use Rattle.cp_model.specs.Places.{ordinal_of, simple_value}
use Rattle.cp_model.specs.StandardCalls.{continue, delay, enqueue, next_input, process_in_queue, standard_procedure}
use Rattle.cp_model.specs.StatementSteps.{chosen_arm, execute, for_step, is_past, next_counter}
use Rattle.cp_model.specs.Step.{take_action}
use Rattle.cp_model.specs.Stores.{QueueHolds, Writes, put}
use Rattle.cp_model.proofs.ExpressionReach.{IfGives}
use Rattle.cp_model_machine.proofs.StartsNone.{starts}

abbrev pub StartsNobody : Effect → Type 0
StartsNobody (Starts r k) = ⊥
StartsNobody _ = Unit {0}

abbrev pub Nobody : StepResult → Type 0
Nobody o = IfGives (λ x. StartsNobody x.1) o

then_nobody : {A : Type 0} (o : Outcome A) (f : A → StepResult) → ((x : A) → Nobody (f x)) → Nobody (and_then o f)
then_nobody (Fault n) f h = tt
then_nobody (Gives x) f h = h x

if_nobody : (b : Bool) (o u : StepResult) → Nobody o → Nobody u → Nobody (if b then o else u)
if_nobody true o u h k = h
if_nobody false o u h k = k

entering_nobody : (gate : Option ℕ) → StartsNobody (entering gate)
entering_nobody None = tt
entering_nobody (Some m) = tt

leaving_nobody : (gate : Option ℕ) → StartsNobody (leaving gate)
leaving_nobody None = tt
leaving_nobody (Some m) = tt

delay_nobody : (p : ℕ) (config : Configuration) (k : List Task) (q : Location) (ms : List ℕ) → Nobody (delay p config k q ms)
delay_nobody p config k q [] = tt
delay_nobody p config k q (m ∷ ms) = by (process_in_queue (config.store q))
  where
    by : (x : Option ℕ) → Nobody (enqueue p config k q m x)
    by None = tt
    by (Some r) = tt

continue_nobody : (config : Configuration) (q : Location) (x : Option (Environment × Option ℕ × List Task)) → Nobody (continue config q x)
continue_nobody config q None = tt
continue_nobody config q (Some (env, None, k)) = tt
continue_nobody config q (Some (env, Some m, k)) = then_nobody (returns (record config { store = put q (QueueHolds None) config.store }) env k) _ (λ after. tt)

module _ (c : Context) (config : Configuration) where
  call_nobody : (u : UserCall) (k : List Task) → Nobody (call c config u k)
  call_nobody u k =
      let t = target c config.store u.environment u.callee.of in
      if_nobody t.is_callable _ (Fault 6)
      (then_nobody (bind (argument_writes c.clock u.environment config.store) (root (OfActivation c.process (depth k))) (declarations u.environment.globals u.callee.routine.parameters) u.arguments)
      (λ ws. Gives (called_configuration config u k t (OfActivation c.process (depth k)) ws)) (λ ws. entering_nobody t.gate)) tt

  standard_nobody : (env : Environment) (k : List Task) (x : a.Name) (e : a.Expression) → Nobody (standard_procedure c config env k x e)
  standard_nobody env k x e =
      if_nobody (bytes_eq x (codes "display")) _ _ (then_nobody (value c.clock env config.store e) _ (λ v. tt))
      (if_nobody (bytes_eq x (codes "accept")) _ _
      (then_nobody (place c.clock env config.store (designator_of e)) _ (λ p. then_nobody (writes_of p.at p.type (simple_value a.Char (next_input c.input config.consumed))) _ (λ ws. tt)))
      (if_nobody (bytes_eq x (codes "delay")) _ _
      (then_nobody (place c.clock env config.store (designator_of e)) _ (λ p. delay_nobody c.process config k p.at (marked_monitors k)))
      (then_nobody (place c.clock env config.store (designator_of e)) _ (λ p. continue_nobody config p.at (innermost_call k)))))

  for_nobody : (env : Environment) (k : List Task) (v : a.Name) (down : Bool) (n last : ℤ) (st : a.Statement) → Nobody (for_step c config env k v down n last st)
  for_nobody env k v down n last st =
      then_nobody (place c.clock env config.store (a.Plain v)) (λ p. and_then (writes_of p.at p.type (simple_value a.Integer n)) goes)
      (λ p. then_nobody (writes_of p.at p.type (simple_value a.Integer n)) goes (λ ws. tt))
    where
      goes : Writes → StepResult
      goes ws = own_step (with_writes config ws (push st env (ForNext v down n last st env ∷ k)))

  init_nobody : (env : Environment) (k : List Task) (es : a.Expressions) (n : Component) (z : a.Sort) → same_sort a.Process z ≡ false → Nobody (init_component z c config env k es n)
  init_nobody env k es n a.Class h =
      if_nobody (is_initialised (config.store (class_location env config.store n))) (Fault 7) _ tt (then_nobody (init_arguments c config env es n (class_location env config.store n)) _ (λ ws. tt))
  init_nobody env k es n a.Monitor h =
      if_nobody (c.is_set (monitor_number env config.store n)) (Fault 7) _ tt (then_nobody (init_arguments c config env es n (monitor_location (monitor_number env config.store n))) _ (λ ws. tt))
  init_nobody env k es n a.Process h = absurd (true≢false h)

  execute_nobody : (st : a.Statement) (env : Environment) (k : List Task) → starts (Acts (Do st env) k) ≡ false → Nobody (execute c config env k st)
  execute_nobody (a.Assign d e) env k h =
      then_nobody (place c.clock env config.store d) _ (λ p. then_nobody (value c.clock env config.store e) _ (λ v. then_nobody (writes_of p.at p.type v) _ (λ ws. tt)))
  execute_nobody (a.Perform d a.NoExpression) env k h = tt
  execute_nobody (a.Perform d (a.MoreExpressions e es)) env k h = standard_nobody env k (name_of d) e
  execute_nobody (a.If e t u) env k h = then_nobody (value c.clock env config.store e) _ (λ v. tt)
  execute_nobody (a.Case e arms) env k h = then_nobody (value c.clock env config.store e) _ (λ v. by (chosen_arm env.globals (ordinal_of v) arms))
    where
      by : (o : Option a.Statement) → Nobody (elim o as (λ x. StepResult) [ None ↦ Fault 8 | Some st ↦ own_step (with_continuation config (push st env k)) ])
      by None = tt
      by (Some st) = tt
  execute_nobody (a.For x down e g st) env k h =
      then_nobody (value c.clock env config.store e) _ (λ y. then_nobody (value c.clock env config.store g) _ (λ z.
      if_nobody (is_past down (ordinal_of y) (ordinal_of z)) _ _ tt (for_nobody env k x down (ordinal_of y) (ordinal_of z) st)))
  execute_nobody (a.Cycle st) env k h = tt
  execute_nobody (a.Init x es) env k h = by (component_named env x) h
    where
      by : (o : Option Component) → (elim o as (λ y. Bool) [ None ↦ false | Some n ↦ same_sort a.Process n.system.sort ]) ≡ false
          → Nobody (elim o as (λ y. StepResult) [ None ↦ own_step (with_continuation config k) | Some n ↦ init_component n.system.sort c config env k es n ])
      by None h = tt
      by (Some n) h = init_nobody env k es n n.system.sort h
  execute_nobody a.Nothing env k h = tt
  execute_nobody (a.Seq t u) env k h = tt
  execute_nobody (a.While e st) env k h = tt
  execute_nobody (a.Repeat st e) env k h = tt

  pub action_nobody : (x : Action) → starts x ≡ false → Nobody (take_action c config x)
  action_nobody Rests h = tt
  action_nobody (Calls u k) h = call_nobody u k
  action_nobody (Acts (Do st env) k) h = execute_nobody st env k h
  action_nobody (Acts (WhileTest now e st env) k) h = then_nobody (value c.clock env config.store now) _ (λ v. tt)
  action_nobody (Acts (RepeatTest now st e env) k) h = then_nobody (value c.clock env config.store now) _ (λ v. tt)
  action_nobody (Acts (ForNext x down n last st env) k) h = if_nobody (same_integer n last) _ _ tt (for_nobody env k x down (next_counter down n) last st)
  action_nobody (Acts (EndCall env gate) k) h = then_nobody (returns config env k) _ (λ after. leaving_nobody gate)
  action_nobody (Acts (EndBody gate) k) h = leaving_nobody gate
  action_nobody (Acts EndProcess k) h = tt
