-- Only the end mark of a process ends it.
use Rattle.std.proofs.Common.{Bool, List, None, Option, Some, [], false, true, ℕ, ℤ, ◌∷◌}
use Rattle.std.specs.Prelude.{codes, if◌then◌else◌}
use Rattle.std.specs.Str.{bytes_eq}
use Rattle.cp_model.specs.Abstract as a
use Rattle.cp_model.specs.Abstract.{Class, Designator, Expressions, Monitor, MoreExpressions, Name, NoExpression, Process, Sort, Statement}
use Rattle.cp_model.specs.Actions.{Action, Acts, Calls, Rests}
use Rattle.cp_model.specs.Arguments.{argument_writes, bind, designator_of}
use Rattle.cp_model.specs.Assignments.{writes_of}
use Rattle.cp_model.specs.CallSteps.{called_configuration, entering, innermost_call, is_initialised, leaving, returns, target}
use Rattle.cp_model.specs.Components.{Component, class_location, component_named, monitor_location, monitor_number, process_location, process_number}
use Rattle.cp_model.specs.Configurations.{Configuration, Context, Effect, Ends, StepResult, own_step, with_continuation, with_writes}
use Rattle.cp_model.specs.Continuations.{Do, EndBody, EndCall, EndProcess, ForNext, RepeatTest, Task, WhileTest, depth, marked_monitors, push}
use Rattle.cp_model.specs.Declarations.{declarations}
use Rattle.cp_model.specs.Environments.{Environment}
use Rattle.cp_model.specs.Expressions.{name_of, place, value}
use Rattle.cp_model.specs.Initialisation.{init_arguments, init_component}
use Rattle.cp_model.specs.Integers.{same_integer}
use Rattle.cp_model.specs.Locations.{Location, OfActivation, root}
use Rattle.cp_model.specs.Outcomes.{Fault, Gives, Outcome, and_then}
use Rattle.cp_model.specs.Places.{ordinal_of, simple_value}
use Rattle.cp_model.specs.StandardCalls.{continue, delay, enqueue, next_input, process_in_queue, standard_statement}
use Rattle.cp_model.specs.StatementSteps.{chosen_arm, execute, for_step, is_past, next_counter}
use Rattle.cp_model.specs.Step.{take_action}
use Rattle.cp_model.specs.Stores.{Writes}
use Rattle.cp_model.proofs.ExpressionReach.{IfGives}

abbrev pub DoesNotEnd : Effect → Type 0
DoesNotEnd Ends = ⊥
DoesNotEnd _ = Unit {0}

abbrev pub Endless : StepResult → Type 0
Endless x = IfGives (λ y. DoesNotEnd y.1) x

then_endless : {A : Type 0} (o : Outcome A) (f : A → StepResult) → ((x : A) → Endless (f x)) → Endless (and_then o f)
then_endless (Fault n) f h = tt
then_endless (Gives x) f h = h x

either_endless : (b : Bool) (x y : StepResult) → Endless x → Endless y → Endless (if b then x else y)
either_endless true x y h k = h
either_endless false x y h k = k

gate_enters : (gate : Option ℕ) → DoesNotEnd (entering gate)
gate_enters None = tt
gate_enters (Some m) = tt

gate_leaves : (gate : Option ℕ) → DoesNotEnd (leaving gate)
gate_leaves None = tt
gate_leaves (Some m) = tt

abbrev pub IsEnd : Action → Type 0
IsEnd (Acts EndProcess k) = Unit {0}
IsEnd _ = ⊥

module _ (c : Context) (config : Configuration) where
  delayed : (k : List Task) (q : Location) (ms : List ℕ) → Endless (delay c.process config k q ms)
  delayed k q [] = tt
  delayed k q (m ∷ ms) = by (process_in_queue (config.store q))
    where
      by : (x : Option ℕ) → Endless (enqueue c.process config k q m x)
      by None = tt
      by (Some r) = tt

  continued : (q : Location) (x : Option (Environment × Option ℕ × List Task)) → Endless (continue config q x)
  continued q None = tt
  continued q (Some (env, None, rest)) = tt
  continued q (Some (env, Some m, rest)) = then_endless (returns _ env rest) _ (λ after. tt)

  performed : (env : Environment) (k : List Task) (d : Designator) (es : Expressions) → Endless (standard_statement c config env k d es)
  performed env k d NoExpression = tt
  performed env k d (MoreExpressions e es) =
      either_endless (bytes_eq (name_of d) (codes "display")) _ _ (then_endless (value c.clock env config.store e) _ (λ v. tt))
      (either_endless (bytes_eq (name_of d) (codes "accept")) _ _
      (then_endless (place c.clock env config.store (designator_of e)) _ (λ at. then_endless (writes_of at.at at.type (simple_value a.Char (next_input c.input config.consumed))) _ (λ ws. tt)))
      (either_endless (bytes_eq (name_of d) (codes "delay")) _ _
      (then_endless (place c.clock env config.store (designator_of e)) _ (λ at. delayed k at.at (marked_monitors k)))
      (then_endless (place c.clock env config.store (designator_of e)) _ (λ at. continued at.at (innermost_call k)))))

  counted : (env : Environment) (k : List Task) (x : Name) (down : Bool) (n last : ℤ) (s : Statement) → Endless (for_step c config env k x down n last s)
  counted env k x down n last s =
      then_endless (place c.clock env config.store (a.Plain x)) (λ at. and_then (writes_of at.at at.type (simple_value a.Integer n)) after)
      (λ at. then_endless (writes_of at.at at.type (simple_value a.Integer n)) after (λ ws. tt))
    where
      after : Writes → StepResult
      after ws = own_step (with_writes config ws (push s env (ForNext x down n last s env ∷ k)))

  initialised : (env : Environment) (k : List Task) (es : Expressions) (n : Component) (z : Sort) → Endless (init_component z c config env k es n)
  initialised env k es n Class =
      let at = class_location env config.store n in
      either_endless (is_initialised (config.store at)) _ _ tt (then_endless (init_arguments c config env es n at) _ (λ ws. tt))
  initialised env k es n Monitor =
      let m = monitor_number env config.store n in
      either_endless (c.is_set m) _ _ tt (then_endless (init_arguments c config env es n (monitor_location m)) _ (λ ws. tt))
  initialised env k es n Process =
      let r = process_number env n in
      either_endless (c.is_started r) _ _ tt (then_endless (init_arguments c config env es n (process_location r)) _ (λ ws. tt))

  executed : (env : Environment) (k : List Task) (s : Statement) → Endless (execute c config env k s)
  executed env k (a.Assign d e) =
      then_endless (place c.clock env config.store d) _ (λ at. then_endless (value c.clock env config.store e) _ (λ v. then_endless (writes_of at.at at.type v) _ (λ ws. tt)))
  executed env k (a.Perform d es) = performed env k d es
  executed env k (a.If e s t) = then_endless (value c.clock env config.store e) _ (λ v. tt)
  executed env k (a.Case e arms) = then_endless (value c.clock env config.store e) _ (λ v. by (chosen_arm env.globals (ordinal_of v) arms))
    where
      by : (x : Option Statement) → Endless (elim x as (λ y. StepResult) [ None ↦ Fault 8 | Some s ↦ own_step (with_continuation config (push s env k)) ])
      by None = tt
      by (Some s) = tt
  executed env k (a.For x down e f s) =
      then_endless (value c.clock env config.store e) _ (λ v. then_endless (value c.clock env config.store f) _ (λ y.
      either_endless (is_past down (ordinal_of v) (ordinal_of y)) _ _ tt (counted env k x down (ordinal_of v) (ordinal_of y) s)))
  executed env k (a.Cycle s) = tt
  executed env k (a.Init x es) = by (component_named env x)
    where
      by : (y : Option Component) → Endless (elim y as (λ z. StepResult) [ None ↦ own_step (with_continuation config k) | Some n ↦ init_component n.system.sort c config env k es n ])
      by None = tt
      by (Some n) = initialised env k es n n.system.sort
  executed env k a.Nothing = tt
  executed env k (a.Seq s t) = tt
  executed env k (a.While e s) = tt
  executed env k (a.Repeat s e) = tt

  pub action_endless : (x : Action) → (IsEnd x → ⊥) → Endless (take_action c config x)
  action_endless Rests h = tt
  action_endless (Calls u k) h =
      either_endless (target c config.store u.environment u.callee.of).is_callable _ _
      (then_endless (bind (argument_writes c.clock u.environment config.store) (root (OfActivation c.process (depth k))) (declarations u.environment.globals u.callee.routine.parameters) u.arguments)
      (λ ws. Gives (called_configuration config u k (target c config.store u.environment u.callee.of) (OfActivation c.process (depth k)) ws))
      (λ ws. gate_enters (target c config.store u.environment u.callee.of).gate))
      tt
  action_endless (Acts (Do s env) k) h = executed env k s
  action_endless (Acts (WhileTest now e s env) k) h = then_endless (value c.clock env config.store now) _ (λ v. tt)
  action_endless (Acts (RepeatTest now s e env) k) h = then_endless (value c.clock env config.store now) _ (λ v. tt)
  action_endless (Acts (ForNext x down n last s env) k) h = either_endless (same_integer n last) _ _ tt (counted env k x down (next_counter down n) last s)
  action_endless (Acts (EndCall env gate) k) h = then_endless (returns config env k) _ (λ after. gate_leaves gate)
  action_endless (Acts (EndBody gate) k) h = gate_leaves gate
  action_endless (Acts EndProcess k) h = absurd (h tt)
