-- A step of a calm process leaves all processes calm, and nobody waits for the clock after it.
--
-- What is left to do comes from the statement, from a routine or body of the text, or from an older task.
-- Only `wait` has the effect of waiting.
use Rattle.std.specs.Prelude.{Bool, List, None, Option, Some, [], codes, false, if◌then◌else◌, nat_eq, refl, slice_get, true, ℕ, ℤ, ◌∷◌, ◌≡◌, ◌≢◌, ◌⊎◌}
use Rattle.std.proofs.Common.{arith, inl, inr, subst}
use Rattle.std.specs.Str.{bytes_eq}
use Rattle.cp_model.specs.Abstract.{Arms, Assign, Case, Char, Class, Cycle, Designator, Expression, Expressions, For, If, Init, Integer, Known, Monitor, MoreArms, MoreExpressions, Name, NoArm, NoExpression, Nothing, Perform, Plain, Process, Repeat, Seq, Sort, Statement, While}
use Rattle.cp_model.specs.Types.{base_of_type, named_type}
use Rattle.cp_model.specs.Declarations.{declarations}
use Rattle.cp_model.specs.Integers.{same_integer}
use Rattle.cp_model.specs.Locations.{Location, OfActivation, Owner, root}
use Rattle.cp_model.specs.Stores.{Absent, ClassRight, Initialised, MonitorRight, Ordinal, QueueHolds, Reference, Value, forget, put, put_all}
use Rattle.cp_model.specs.Outcomes.{Fault, Gives, Outcome, and_then}
use Rattle.cp_model.specs.Environments.{Environment, Frame}
use Rattle.cp_model.specs.Places.{ordinal_of, simple_value}
use Rattle.cp_model.specs.Expressions.{name_of, place, value}
use Rattle.cp_model.specs.Continuations.{Do, EndBody, EndCall, EndProcess, ForNext, RepeatTest, Task, WhileTest, depth, marked_monitors, push}
use Rattle.cp_model.specs.Components.{Component, class_location, component_named, monitor_location, monitor_number, process_location, process_number}
use Rattle.cp_model.specs.Calls.{Callee, UserCall, callee, procedure_call}
use Rattle.cp_model.specs.Actions.{Action, Acts, Calls, Rests, action}
use Rattle.cp_model.specs.Assignments.{writes_of}
use Rattle.cp_model.specs.Arguments.{argument_writes, bind, designator_of}
use Rattle.cp_model.specs.Configurations.{Asking, Configuration, Context, Continues, Delayed, Delays, Effect, Ended, Ends, Enters, Faulted, Fresh, Leaves, Opens, Own, Ready, Starts, Status, StepResult, Unstarted, Waiting, Waits, own_step}
use Rattle.cp_model.specs.CallSteps.{Target, activation_environment, call, called_configuration, component_target, entering, innermost_call, is_initialised, leaving, result_location, return_value, returns, target}
use Rattle.cp_model.specs.StandardCalls.{continue, delay, enqueue, next_input, process_in_queue, standard_procedure}
use Rattle.cp_model.specs.Initialisation.{body_environment, init_arguments, init_component}
use Rattle.cp_model.specs.StatementSteps.{chosen_arm, execute, for_step, has_label, is_past, is_true, next_counter}
use Rattle.cp_model.specs.Step.{run_task, step_of, take_action}
use Rattle.cp_model.specs.States.{Free, HeldBy, Holder, Setup, State, Unset, configuration, context, set_status, with_configuration}
use Rattle.cp_model.specs.Gates.{apply_effect, enter, made_ready, make_ready, pass_to, resume, set_gate, start_process}
use Rattle.cp_model.specs.Turns.{after_step, step}
use Rattle.cp_model.proofs.Options.{same_some}
use Rattle.cp_model.proofs.ExpressionReach.{IfGives}
use Rattle.cp_law_gates.specs.InOrder.{AllFit, Here, InOrder, IsOrdered, World}
use Rattle.cp_law_gates.proofs.Found.{IsCallable}
use Rattle.cp_law_gates.proofs.Steps.{ActionFits, action_fits}
use Rattle.cp_law_calls.proofs.Calm.{AllCalm, ArmsCalm, Calm, EndCalm, TaskCalm, answer_calm, end_calm, push_calm}
use Rattle.cp_law_calls.proofs.Known.{before}
use Rattle.cp_law_calls.proofs.Unclocked.{ActionCalm, action_calm}

-- The bodies and routines of the text are calm.
pub record IsCalmWorld (w : World) : Type 0 where
  pub bodies : (env : Environment) → env.globals ≡ w.globals → w.IsInner env.system → env.frame ≡ None → Calm env env.system.body
  pub routines : (env : Environment) (f : Frame) (j : ℕ) → env.globals ≡ w.globals → (env.system ≡ w.initial) ⊎ w.IsInner env.system
      → slice_get env.system.routines j ≡ Some f.routine → env.frame ≡ Some f → Calm env f.routine.body

abbrev pub EffectCalm : Effect → Type 0
EffectCalm Waits = ⊥
EffectCalm (Starts r k) = AllCalm k
EffectCalm _ = Unit {0}

abbrev pub StepCalm : Configuration × Effect → Type 0
StepCalm x = AllCalm x.0.continuation × EffectCalm x.1

then_calm : {A : Type 0} (o : Outcome A) (f : A → StepResult) → ((x : A) → IfGives StepCalm (f x)) → IfGives StepCalm (and_then o f)
then_calm (Fault n) f h = tt
then_calm (Gives x) f h = h x

if_calm : (b : Bool) (x y : StepResult) → IfGives StepCalm x → IfGives StepCalm y → IfGives StepCalm (if b then x else y)
if_calm true x y h k = h
if_calm false x y h k = k

-- ---- Returns

abbrev AfterCalm : Configuration → Type 0
AfterCalm r = AllCalm r.continuation

value_calm : (config : Configuration) (env : Environment) (o : Owner) (k : List Task) (t : Name) (v : Value) → AllCalm k → IfGives AfterCalm (return_value config env o k t v)
value_calm config env o k t (Ordinal n) h = answer_calm (Known (base_of_type (named_type env.globals t)) n) refl k h
value_calm config env o k t Absent h = tt
value_calm config env o k t (QueueHolds x) h = tt
value_calm config env o k t (MonitorRight m) h = tt
value_calm config env o k t (ClassRight l) h = tt
value_calm config env o k t (Reference l) h = tt
value_calm config env o k t (Initialised b) h = tt

returns_calm : (config : Configuration) (env : Environment) (k : List Task) → AllCalm config.continuation → AllCalm k → IfGives AfterCalm (returns config env k)
returns_calm config env k old h = by env.frame
  where
    of : (f : Frame) (r : Option Name)
        → IfGives AfterCalm (elim r as (λ x. Outcome Configuration) [ None ↦ Gives (record config { store = forget f.owner config.store; continuation = k }) | Some t ↦ return_value config env f.owner k t (config.store (result_location f)) ])
    of f None = h
    of f (Some t) = value_calm config env f.owner k t (config.store (result_location f)) h

    by : (f : Option Frame)
        → IfGives AfterCalm (elim f as (λ x. Outcome Configuration) [ None ↦ Gives config | Some f ↦ elim f.routine.result as (λ x. Outcome Configuration) [ None ↦ Gives (record config { store = forget f.owner config.store; continuation = k }) | Some t ↦ return_value config env f.owner k t (config.store (result_location f)) ] ])
    by None = old
    by (Some f) = of f f.routine.result

returned_calm : (o : Outcome Configuration) (g : Configuration → Effect) → ((r : Configuration) → EffectCalm (g r)) → IfGives AfterCalm o → IfGives StepCalm (and_then o (λ r. Gives (r, g r)))
returned_calm (Fault n) g e h = tt
returned_calm (Gives r) g e h = (h, e r)

leaving_calm : (gate : Option ℕ) → EffectCalm (leaving gate)
leaving_calm None = tt
leaving_calm (Some m) = tt

entering_calm : (gate : Option ℕ) → EffectCalm (entering gate)
entering_calm None = tt
entering_calm (Some m) = tt

-- ---- Statements

module _ (w : World) (O : IsOrdered w) (C : IsCalmWorld w) (c : Context) (config : Configuration) (old : AllCalm config.continuation) where
  inner : (env : Environment) (x : Name) (n : Component) → Here w env → component_named env x ≡ Some n → w.IsInner n.system
  inner env x n H is = elim H.kind [ inl o ↦ (O.initial_bare env x n H.scope o.0 is).1 | inr i ↦ (O.inner_components env x n H.scope i is).1 ]

  delay_calm : (p : ℕ) (k : List Task) (q : Location) (ms : List ℕ) → AllCalm k → IfGives StepCalm (delay p config k q ms)
  delay_calm p k q [] h = (old, tt)
  delay_calm p k q (m ∷ ms) h = by (process_in_queue (config.store q))
    where
      by : (o : Option ℕ) → IfGives StepCalm (enqueue p config k q m o)
      by None = (h, tt)
      by (Some r) = tt

  continue_calm : (q : Location) (o : Option (Environment × Option ℕ × List Task)) → EndCalm o → IfGives StepCalm (continue config q o)
  continue_calm q None h = (old, tt)
  continue_calm q (Some (env, None, k)) h = (old, tt)
  continue_calm q (Some (env, Some m, k)) h =
      returned_calm (returns (record config { store = put q (QueueHolds None) config.store }) env k) (λ r. Continues m (process_in_queue (config.store q))) (λ r. tt)
      (returns_calm (record config { store = put q (QueueHolds None) config.store }) env k old h)

  standard_calm : (env : Environment) (k : List Task) (x : Name) (e : Expression) → AllCalm k → IfGives StepCalm (standard_procedure c config env k x e)
  standard_calm env k x e h =
      if_calm (bytes_eq x (codes "display")) _ _ (then_calm (value c.clock env config.store e) _ (λ v. (h, tt)))
      (if_calm (bytes_eq x (codes "accept")) _ _
      (then_calm (place c.clock env config.store (designator_of e)) _ (λ p. then_calm (writes_of p.at p.type (simple_value Char (next_input c.input config.consumed))) _ (λ ws. (h, tt))))
      (if_calm (bytes_eq x (codes "delay")) _ _
      (then_calm (place c.clock env config.store (designator_of e)) _ (λ p. delay_calm c.process k p.at (marked_monitors k) h))
      (then_calm (place c.clock env config.store (designator_of e)) _ (λ p. continue_calm p.at (innermost_call k) (end_calm k h)))))

  for_calm : (env : Environment) (k : List Task) (v : Name) (down : Bool) (n last : ℤ) (x : Statement) → Calm env x → AllCalm k → IfGives StepCalm (for_step c config env k v down n last x)
  for_calm env k v down n last x h o =
      then_calm (place c.clock env config.store (Plain v))
      (λ p. and_then (writes_of p.at p.type (simple_value Integer n)) (λ ws. own_step (record config { store = put_all ws config.store; continuation = push x env (ForNext v down n last x env ∷ k) })))
      (λ p. then_calm (writes_of p.at p.type (simple_value Integer n)) (λ ws. own_step (record config { store = put_all ws config.store; continuation = push x env (ForNext v down n last x env ∷ k) }))
      (λ ws. (push_calm x env (ForNext v down n last x env ∷ k) h (h, o), tt)))

  arm_calm : (env : Environment) (n : ℤ) (arms : Arms) → ArmsCalm env arms → (x : Statement) → chosen_arm env.globals n arms ≡ Some x → Calm env x
  arm_calm env n NoArm h x e = absurd (grind arith)
  arm_calm env n (MoreArms ls s rest) h x e = by (has_label env.globals n ls) e (arm_calm env n rest h.1 x)
    where
      by : (b : Bool) → (if b then Some s else chosen_arm env.globals n rest) ≡ Some x → (chosen_arm env.globals n rest ≡ Some x → Calm env x) → Calm env x
      by true y more = subst (Calm env) (same_some s x y) h.0
      by false y more = more y

  init_calm : (y : Sort) (env : Environment) (k : List Task) (x : Name) (n : Component) (es : Expressions) → Here w env → component_named env x ≡ Some n → AllCalm k
      → IfGives StepCalm (init_component y c config env k es n)
  init_calm Class env k x n es H is h =
      if_calm (is_initialised (config.store (class_location env config.store n))) (Fault 7) _ tt
      (then_calm (init_arguments c config env es n (class_location env config.store n)) _
      (λ ws. (
        push_calm n.system.body (body_environment env n.system (class_location env config.store n)) (EndBody None ∷ k)
            (C.bodies (body_environment env n.system (class_location env config.store n)) H.scope (inner env x n H is) refl) (tt, h),
        tt,
      )))
  init_calm Monitor env k x n es H is h =
      if_calm (c.is_set (monitor_number env config.store n)) (Fault 7) _ tt
      (then_calm (init_arguments c config env es n (monitor_location (monitor_number env config.store n))) _
      (λ ws. (
        push_calm n.system.body (body_environment env n.system (monitor_location (monitor_number env config.store n))) (EndBody (Some (monitor_number env config.store n)) ∷ k)
            (C.bodies (body_environment env n.system (monitor_location (monitor_number env config.store n))) H.scope (inner env x n H is) refl) (tt, h),
        tt,
      )))
  init_calm Process env k x n es H is h =
      if_calm (c.is_started (process_number env n)) (Fault 7) _ tt
      (then_calm (init_arguments c config env es n (process_location (process_number env n))) _
      (λ ws. (
        h,
        push_calm n.system.body (body_environment env n.system (process_location (process_number env n))) (EndProcess ∷ [])
            (C.bodies (body_environment env n.system (process_location (process_number env n))) H.scope (inner env x n H is) refl) (tt, tt),
      )))

  no_callee : (d : Designator) (es : Expressions) (env : Environment) → procedure_call (Do (Perform d es) env) ≡ None → callee env d ≡ None
  no_callee d es env p = by (callee env d) p
    where
      by : (f : Option Callee) → (elim f as (λ x. Option UserCall) [ None ↦ None | Some z ↦ Some (record { callee = z; arguments = es; environment = env }) ]) ≡ None → f ≡ None
      by None y = refl
      by (Some z) y = absurd (grind arith)

  execute_calm : (x : Statement) (env : Environment) (k : List Task) → Here w env → Calm env x → AllCalm k → procedure_call (Do x env) ≡ None → IfGives StepCalm (execute c config env k x)
  execute_calm Nothing env k H h o p = (o, tt)
  execute_calm (Seq a b) env k H h o p = (o, tt)
  execute_calm (While e s) env k H h o p = (o, tt)
  execute_calm (Repeat s e) env k H h o p = (o, tt)
  execute_calm (Cycle s) env k H h o p = (push_calm s env (Do (Cycle s) env ∷ k) h (h, o), tt)
  execute_calm (Assign d e) env k H h o p =
      then_calm (place c.clock env config.store d) _ (λ at. then_calm (value c.clock env config.store e) _ (λ v. then_calm (writes_of at.at at.type v) _ (λ ws. (o, tt))))
  execute_calm (Perform d NoExpression) env k H h o p = absurd (h.1 (no_callee d NoExpression env p))
  execute_calm (Perform d (MoreExpressions e es)) env k H h o p = standard_calm env k (name_of d) e o
  execute_calm (If e a b) env k H h o p = then_calm (value c.clock env config.store e) _ (λ v. by (is_true v))
    where
      by : (b' : Bool) → StepCalm (record config { continuation = if b' then push a env k else push b env k }, Own)
      by true = (push_calm a env k h.1 o, tt)
      by false = (push_calm b env k h.2 o, tt)
  execute_calm (Case e arms) env k H h o p = then_calm (value c.clock env config.store e) _ (λ v. by (chosen_arm env.globals (ordinal_of v) arms) (arm_calm env (ordinal_of v) arms h.1))
    where
      by : (z : Option Statement) → ((x : Statement) → z ≡ Some x → Calm env x)
          → IfGives StepCalm (elim z as (λ y. StepResult) [ None ↦ Fault 8 | Some x ↦ own_step (record config { continuation = push x env k }) ])
      by None y = tt
      by (Some x) y = (push_calm x env k (y x refl) o, tt)
  execute_calm (For v down a b s) env k H h o p =
      then_calm (value c.clock env config.store a) _ (λ y. then_calm (value c.clock env config.store b) _ (λ z.
      if_calm (is_past down (ordinal_of y) (ordinal_of z)) _ _ (o, tt) (for_calm env k v down (ordinal_of y) (ordinal_of z) s h.2 o)))
  execute_calm (Init x es) env k H h o p = by (component_named env x) refl
    where
      by : (z : Option Component) → component_named env x ≡ z
          → IfGives StepCalm (elim z as (λ y. StepResult) [ None ↦ own_step (record config { continuation = k }) | Some n ↦ init_component n.system.sort c config env k es n ])
      by None is = (o, tt)
      by (Some n) is = init_calm n.system.sort env k x n es H is o

  run_calm : (i : Task) (k : List Task) → AllFit w (i ∷ k) → TaskCalm i → AllCalm k → procedure_call i ≡ None → IfGives StepCalm (run_task c config i k)
  run_calm (Do x env) k F h o p = execute_calm x env k F.0.0.here h o p
  run_calm (WhileTest now e x env) k F h o p = then_calm (value c.clock env config.store now) _ (λ v. by (is_true v))
    where
      by : (b : Bool) → StepCalm (record config { continuation = if b then push x env (WhileTest e e x env ∷ k) else k }, Own)
      by true = (push_calm x env (WhileTest e e x env ∷ k) h.2 ((h.1, h.1, h.2), o), tt)
      by false = (o, tt)
  run_calm (RepeatTest now x e env) k F h o p = then_calm (value c.clock env config.store now) _ (λ v. by (is_true v))
    where
      by : (b : Bool) → StepCalm (record config { continuation = if b then k else push x env (RepeatTest e x e env ∷ k) }, Own)
      by true = (o, tt)
      by false = (push_calm x env (RepeatTest e x e env ∷ k) h.2 ((h.1, h.1, h.2), o), tt)
  run_calm (ForNext v down n last x env) k F h o p = if_calm (same_integer n last) _ _ (o, tt) (for_calm env k v down (next_counter down n) last x h o)
  run_calm (EndCall env gate) k F h o p = returned_calm (returns config env k) (λ r. leaving gate) (λ r. leaving_calm gate) (returns_calm config env k old o)
  run_calm (EndBody gate) k F h o p = (o, leaving_calm gate)
  run_calm EndProcess k F h o p = (o, tt)

  call_calm : (u : UserCall) (k : List Task) → Here w u.environment → IsCallable u.environment u.callee.routine u.callee.of → AllCalm k → IfGives StepCalm (call c config u k)
  call_calm u k H K o = by u.callee.of K
    where
      tested : (t : Target) (j : ℕ) → (t.system ≡ w.initial) ⊎ w.IsInner t.system → slice_get t.system.routines j ≡ Some u.callee.routine
          → IfGives StepCalm (if t.is_callable then and_then (bind (argument_writes c.clock u.environment config.store) (root (OfActivation c.process (depth k))) (declarations u.environment.globals u.callee.routine.parameters) u.arguments)
          (λ ws. Gives (called_configuration config u k t (OfActivation c.process (depth k)) ws)) else Fault 6)
      tested t j kind found =
          if_calm t.is_callable _ (Fault 6)
          (then_calm (bind (argument_writes c.clock u.environment config.store) (root (OfActivation c.process (depth k))) (declarations u.environment.globals u.callee.routine.parameters) u.arguments) _
          (λ ws. (
            push_calm u.callee.routine.body (activation_environment u t (OfActivation c.process (depth k))) (EndCall (activation_environment u t (OfActivation c.process (depth k))) t.gate ∷ k)
                (C.routines (activation_environment u t (OfActivation c.process (depth k))) (record { owner = OfActivation c.process (depth k); routine = u.callee.routine }) j H.scope kind found refl) (tt, o),
            entering_calm t.gate,
          ))) tt

      own_kind : (u.environment.system ≡ w.initial) ⊎ w.IsInner u.environment.system
      own_kind = elim H.kind [ inl a ↦ inl a.0 | inr a ↦ inr a ]

      by : (n : Option Component) → IsCallable u.environment u.callee.routine n
          → IfGives StepCalm (if (target c config.store u.environment n).is_callable then and_then (bind (argument_writes c.clock u.environment config.store) (root (OfActivation c.process (depth k))) (declarations u.environment.globals u.callee.routine.parameters) u.arguments)
          (λ ws. Gives (called_configuration config u k (target c config.store u.environment n) (OfActivation c.process (depth k)) ws)) else Fault 6)
      by None K = tested (target c config.store u.environment None) K.0 own_kind K.1
      by (Some n) K = by_sort n.system.sort
        where
          by_sort : (y : Sort)
              → IfGives StepCalm (if (component_target c u.environment config.store y n).is_callable then and_then (bind (argument_writes c.clock u.environment config.store) (root (OfActivation c.process (depth k))) (declarations u.environment.globals u.callee.routine.parameters) u.arguments)
              (λ ws. Gives (called_configuration config u k (component_target c u.environment config.store y n) (OfActivation c.process (depth k)) ws)) else Fault 6)
          by_sort Class = tested (component_target c u.environment config.store Class n) K.2.0 (inr (inner u.environment K.0 n H K.1)) K.2.1
          by_sort Monitor = tested (component_target c u.environment config.store Monitor n) K.2.0 (inr (inner u.environment K.0 n H K.1)) K.2.1
          by_sort Process = tt

-- ---- States

-- All that is left to do is calm, and nobody waits for the clock.
pub record CalmState (s : State) : Type 0 where
  pub tasks : (q : ℕ) → AllCalm (s.continuation q)
  pub awake : (q : ℕ) → s.status q ≢ Waiting

made_awake : (x : Status) → x ≢ Waiting → made_ready x ≢ Waiting
made_awake Unstarted h e = h e
made_awake Fresh h e = h e
made_awake Ready h e = h e
made_awake Ended h e = h e
made_awake Waiting h e = h e
made_awake (Asking m) h e = absurd (grind arith)
made_awake (Delayed m l) h e = absurd (grind arith)
made_awake (Faulted n) h e = h e

status_calm : (p : ℕ) (x : Status) (u : State) → x ≢ Waiting → CalmState u → CalmState (set_status p x u)
status_calm p x u h c = record { tasks = c.tasks; awake = λ q. by q (nat_eq p q) }
  where
    by : (q : ℕ) (b : Bool) → (if b then x else u.status q) ≢ Waiting
    by q true = h
    by q false = c.awake q

ready_calm : (r : ℕ) (u : State) → CalmState u → CalmState (make_ready r u)
ready_calm r u c = status_calm r (made_ready (u.status r)) u (made_awake (u.status r) (c.awake r)) c

gate_calm : (m : ℕ) (h : Holder) (askers : List ℕ) (u : State) → CalmState u → CalmState (set_gate m h askers u)
gate_calm m h askers u c = record { tasks = c.tasks; awake = c.awake }

pass_calm : (m : ℕ) (askers : List ℕ) (u : State) → CalmState u → CalmState (pass_to m askers u)
pass_calm m [] u c = gate_calm m Free [] u c
pass_calm m (r ∷ rs) u c = ready_calm r (set_gate m (HeldBy r) rs u) (gate_calm m (HeldBy r) rs u c)

asking_awake : (m : ℕ) → Asking m ≢ Waiting
asking_awake m e = grind arith

enter_calm : (p m : ℕ) (h : Holder) (u : State) → CalmState u → CalmState (enter p m h u)
enter_calm p m Unset u c = gate_calm m (HeldBy p) (u.gates m).askers u c
enter_calm p m Free u c = gate_calm m (HeldBy p) (u.gates m).askers u c
enter_calm p m (HeldBy q) u c = status_calm p (Asking m) _ (asking_awake m) (gate_calm m (HeldBy q) _ u c)

resume_calm : (m : ℕ) (o : Option ℕ) (u : State) → CalmState u → CalmState (resume m o u)
resume_calm m None u c = pass_calm m (u.gates m).askers u c
resume_calm m (Some r) u c = ready_calm r (set_gate m (HeldBy r) (u.gates m).askers u) (gate_calm m (HeldBy r) (u.gates m).askers u c)

start_calm : (r : ℕ) (k : List Task) (x : Status) (u : State) → AllCalm k → CalmState u → CalmState (start_process r k x u)
start_calm r k Unstarted u h c = status_calm r Fresh _ fresh_awake (record { tasks = λ q. by q (nat_eq r q); awake = c.awake })
  where
    fresh_awake : Fresh ≢ Waiting
    fresh_awake e = grind arith

    by : (q : ℕ) (b : Bool) → AllCalm (if b then k else u.continuation q)
    by q true = h
    by q false = c.tasks q
start_calm r k Fresh u h c = c
start_calm r k Ready u h c = c
start_calm r k Ended u h c = c
start_calm r k Waiting u h c = c
start_calm r k (Asking m) u h c = c
start_calm r k (Delayed m l) u h c = c
start_calm r k (Faulted n) u h c = c

effect_calm : (p : ℕ) (e : Effect) (u : State) → EffectCalm e → CalmState u → CalmState (apply_effect p e u)
effect_calm p Own u h c = c
effect_calm p Ends u h c = status_calm p Ended u ended_awake c
  where
    ended_awake : Ended ≢ Waiting
    ended_awake e = grind arith
effect_calm p Waits u h c = absurd h
effect_calm p (Enters m) u h c = enter_calm p m (u.gates m).holder u c
effect_calm p (Leaves m) u h c = pass_calm m (u.gates m).askers u c
effect_calm p (Delays m l) u h c = pass_calm m (u.gates m).askers (set_status p (Delayed m l) u) (status_calm p (Delayed m l) u delayed_awake c)
  where
    delayed_awake : Delayed m l ≢ Waiting
    delayed_awake e = grind arith
effect_calm p (Continues m o) u h c = resume_calm m o u c
effect_calm p (Opens m) u h c = gate_calm m (HeldBy p) [] u c
effect_calm p (Starts r k) u h c = start_calm r k (u.status r) u h c

module _ (w : World) (O : IsOrdered w) (C : IsCalmWorld w) (setup : Setup) (s : State) (p : ℕ) (i : InOrder w s) (h : CalmState s) where
  outcome_calm : IfGives StepCalm (step_of (context setup s p) (configuration s p))
  outcome_calm =
      by (action (s.continuation p)) (action_fits w (context setup s p) (configuration s p) (before w O setup s p i) (s.continuation p) (i.fits p) refl)
      (action_calm (s.continuation p) (h.tasks p))
    where
      by : (a : Action) → ActionFits w (context setup s p) (configuration s p) (before w O setup s p i) a → ActionCalm a
          → IfGives StepCalm (take_action (context setup s p) (configuration s p) a)
      by Rests f c = (h.tasks p, tt)
      by (Calls u k) f c = call_calm w O C (context setup s p) (configuration s p) (h.tasks p) u k f.0.0.here f.0.1 c.1
      by (Acts a k) f c = run_calm w O C (context setup s p) (configuration s p) (h.tasks p) a k f.0 c.0 c.1 f.2

  pub step_keeps_calm : CalmState (step setup s p)
  step_keeps_calm = by (step_of (context setup s p) (configuration s p)) outcome_calm
    where
      faulted_awake : (n : ℕ) → Faulted n ≢ Waiting
      faulted_awake n e = grind arith

      by : (o : StepResult) → IfGives StepCalm o → CalmState (after_step s p o)
      by (Fault n) c = status_calm p (Faulted n) s (faulted_awake n) h
      by (Gives (r, e)) c = effect_calm p e (with_configuration s p r) c.1 (record { tasks = λ q. at q (nat_eq p q); awake = h.awake })
        where
          at : (q : ℕ) (b : Bool) → AllCalm (if b then r.continuation else s.continuation q)
          at q true = c.0
          at q false = h.tasks q
