-- A step reads and writes only what is in its reach: it commutes with any change of the store elsewhere.
use Rattle.std.specs.Prelude.{Bool, List, None, Option, Some, [], codes, false, if◌then◌else◌, not, refl, true, ℕ, ℤ, ◌∷◌, ◌≡◌}
use Rattle.std.proofs.Common.{ap, ◌∙◌}
use Rattle.cp_model.specs.Abstract.{Assign, Case, Char, Class, Cycle, Designator, Expression, Expressions, For, If, Init, Integer, Monitor, MoreExpressions, Name, NoExpression, Nothing, Perform, Plain, Process, Repeat, Seq, Sort, Statement, While}
use Rattle.std.specs.Str.{bytes_eq}
use Rattle.cp_model.specs.Types.{ArrayOf, ComponentOf, NoType, Queue, RecordOf, ResolvedType, Simple}
use Rattle.cp_model.specs.Declarations.{Variable, declarations}
use Rattle.cp_model.specs.Locations.{Location, OfActivation, OfMonitor, OfProcess, Owner}
use Rattle.cp_model.specs.Integers.{same_integer}
use Rattle.cp_model.specs.Stores.{Initialised, QueueHolds, Store, Writes, forget, put, put_all}
use Rattle.cp_model.specs.Outcomes.{Fault, Gives, Outcome, and_then}
use Rattle.cp_model.specs.Environments.{Environment}
use Rattle.cp_model.specs.Places.{Place, TypedValue, ordinal_of, simple_value}
use Rattle.cp_model.specs.Expressions.{name_of, place, value}
use Rattle.cp_model.specs.Continuations.{Do, EndBody, EndCall, EndProcess, ForNext, RepeatTest, Task, WhileTest, depth, marked_monitors, push}
use Rattle.cp_model.specs.Components.{Component, class_location, class_or_here, component_named, monitor_location, monitor_number, name_location, process_location, process_number, same_sort}
use Rattle.cp_model.specs.Calls.{UserCall, is_monitor_call}
use Rattle.cp_model.specs.Actions.{Action, Acts, Calls, Rests, action, is_kernel_action}
use Rattle.cp_model.specs.Configurations.{Configuration, Context, Continues, Effect, Starts, StepResult, own_step}
use Rattle.cp_model.specs.Assignments.{starting_writes, writes_of}
use Rattle.cp_model.specs.Arguments.{argument_writes, bind, designator_of, init_argument_writes, named_right_writes, reference_writes, right_writes}
use Rattle.cp_model.specs.CallSteps.{Target, call, called_configuration, component_target, innermost_call, is_initialised, leaving, returns, target}
use Rattle.cp_model.specs.StandardCalls.{continue, delay, enqueue, next_input, process_in_queue, standard_procedure, standard_statement}
use Rattle.cp_model.specs.Initialisation.{body_environment, init_arguments, init_component}
use Rattle.cp_model.specs.StatementSteps.{chosen_arm, execute, for_step, is_past, next_counter}
use Rattle.cp_model.specs.Step.{run_task, step_of, take_action}
use Rattle.cp_model.specs.Start.{start}
use Rattle.cp_model.specs.Invariant.{EnvironmentIn, TaskIn}
use Rattle.cp_model.proofs.MixedStores.{IsClosed, class_or_here_in, forget_mix, get_mix, mix, put_mix}
use Rattle.cp_model.proofs.ExpressionReach.{IfGives, PlaceIn, anything, place_in, place_same, then_gives, value_same}
use Rattle.cp_model.proofs.WriteReach.{WritesIn, bind_in, bind_same, put_all_mix, starting_writes_in, writes_in}
use Rattle.cp_model.proofs.ActionReach.{ActionIn, ContinuationIn, action_in}
use Rattle.cp_model.proofs.ReturnReach.{configuration_moved, if_moved, result_mixed, returns_same, then_moved, with_mixed_store}

module _ (t : Owner → Bool) (b : Store) (w : Context) (f g : ℕ → Bool) (config : Configuration)
    (closed : IsClosed t config.store) (activations_pass : (d : ℕ) → t (OfActivation w.process d) ≡ true) where
  abbrev mixed_config : Configuration
  mixed_config = with_mixed_store t b config

  -- The same process, while others may have been started, and other gates set.
  abbrev other_context : Context
  other_context = record w { is_started = f; is_set = g }

  -- What else a kernel step needs: its inits write within reach, and nothing else was started or
  -- set.
  pub record KernelIn : Type 0 where
    pub monitors : (m : ℕ) → t (OfMonitor m) ≡ true
    pub processes : (r : ℕ) → w.is_started r ≡ false → t (OfProcess r) ≡ true
    pub same_started : f ≡ w.is_started
    pub same_set : g ≡ w.is_set

  class_location_in : (env : Environment) (n : Component) → EnvironmentIn t env
      → t (class_location env config.store n).owner ≡ true
  class_location_in env n s = go n.is_parameter
    where
      go : (x : Bool) → t (if x then class_or_here (name_location env n) (config.store (name_location env n)) else
          name_location env n).owner ≡ true
      go true = class_or_here_in t config.store closed (name_location env n) (config.store (name_location env n)) s.component refl
      go false = s.component

  class_location_same : (env : Environment) (n : Component) → EnvironmentIn t env
      → class_location env (mix t config.store b) n ≡ class_location env config.store n
  class_location_same env n s = rw (s.component) refl

  monitor_number_same : (env : Environment) (n : Component) → EnvironmentIn t env
      → monitor_number env (mix t config.store b) n ≡ monitor_number env config.store n
  monitor_number_same env n s = rw (s.component) refl

  target_same : (env : Environment) (o : Option Component) → EnvironmentIn t env
      → ((elim o as (λ x. Bool) [ None ↦ false | Some n ↦ same_sort Monitor n.system.sort ]) ≡ true → KernelIn)
      → target other_context (mix t config.store b) env o ≡ target w config.store env o
  target_same env None s h = refl
  target_same env (Some n) s h = go n.system.sort h
    where
      go : (x : Sort) → (same_sort Monitor x ≡ true → KernelIn)
          → component_target other_context env (mix t config.store b) x n ≡ component_target w env config.store x n
      go Class h = rw (class_location_same env n s, class_location_in env n s) refl
      go Monitor h = rw (monitor_number_same env n s, (h refl).same_set) refl
      go Process h = refl

  argument_same : (env : Environment) → EnvironmentIn t env → (l : Location) (v : Variable) (e : Expression)
      → argument_writes w.clock env (mix t config.store b) l v e ≡ argument_writes w.clock env config.store l v e
  argument_same env s l v e =
      rw (
        place_same t config.store b w.clock env closed s (designator_of e),
        value_same t config.store b w.clock env closed
            s e,
      ) refl

  argument_in : (env : Environment) → EnvironmentIn t env → (l : Location) (v : Variable) (e : Expression)
      → t l.owner ≡ true
      → IfGives (WritesIn t) (argument_writes w.clock env config.store l v e)
  argument_in env s l v e h = go v.by_reference
    where
      go : (x : Bool) → IfGives (WritesIn t) (if x then reference_writes l
          (place w.clock env config.store (designator_of e)) else and_then (value w.clock env config.store e)
          (writes_of l v.type))
      go true = then_gives (λ p. Unit {0}) (WritesIn t) (place w.clock env config.store (designator_of e)) _ (anything (place w.clock env config.store (designator_of e))) (λ p u. (h, tt))
      go false = then_gives (λ p. Unit {0}) (WritesIn t) (value w.clock env config.store e) _ (anything (value w.clock env config.store e)) (λ v' u. writes_in t l v.type v' h)

  called_configuration_same : (u : UserCall) (k : List Task) (g : Target) (d : ℕ) (ws : Writes) → WritesIn t ws
      → called_configuration mixed_config u k g (OfActivation w.process d) ws
      ≡ (
        with_mixed_store t b (called_configuration config u k g (OfActivation w.process d) ws).0,
        (called_configuration config u k g (OfActivation w.process d) ws).1,
      )
  called_configuration_same u k g d ws h =
      let o = OfActivation w.process d in
      rw (
        forget_mix t o config.store b (activations_pass d),
        put_all_mix t ws (forget o config.store) b h,
        put_all_mix t (starting_writes (record { owner = o; path = [] })
            (declarations u.environment.globals u.callee.routine.variables)) (put_all ws (forget o config.store)) b
            (starting_writes_in t (record { owner = o; path = [] })
            (declarations u.environment.globals u.callee.routine.variables) (activations_pass d)),
      )
      refl

  call_same : (u : UserCall) (k : List Task) → EnvironmentIn t u.environment → (is_monitor_call u.callee ≡ true → KernelIn)
      → call other_context mixed_config u k ≡ result_mixed t b (call w config u k)
  call_same u k s h = rw (target_same u.environment u.callee.of s h) (go (target w config.store u.environment u.callee.of))
    where
      go : (g : Target)
          → (if g.is_callable then and_then (bind (argument_writes w.clock u.environment (mix t config.store b))
          (record { owner = OfActivation w.process (depth k); path = [] })
          (declarations u.environment.globals u.callee.routine.parameters) u.arguments)
          (λ ws. Gives (called_configuration (with_mixed_store t b config) u k g (OfActivation w.process (depth k)) ws)) else Fault 6)
          ≡ result_mixed t b (if g.is_callable then and_then
          (bind (argument_writes w.clock u.environment config.store)
          (record { owner = OfActivation w.process (depth k); path = [] })
          (declarations u.environment.globals u.callee.routine.parameters) u.arguments)
          (λ ws. Gives (called_configuration config u k g (OfActivation w.process (depth k)) ws)) else Fault 6)
      go g = if_moved t b g.is_callable _ _ (Fault 6) (Fault 6)
          (then_moved t b (WritesIn t) _ (bind (argument_writes w.clock u.environment config.store)
          (record { owner = OfActivation w.process (depth k); path = [] })
          (declarations u.environment.globals u.callee.routine.parameters) u.arguments) _ _
          (bind_same _ _ (argument_same u.environment s) (record { owner = OfActivation w.process (depth k); path = [] })
          (declarations u.environment.globals u.callee.routine.parameters) u.arguments)
          (bind_in t (argument_writes w.clock u.environment config.store) (argument_in u.environment s)
          (record { owner = OfActivation w.process (depth k); path = [] })
          (declarations u.environment.globals u.callee.routine.parameters) u.arguments (activations_pass (depth k)))
          (λ ws h. ap (λ x. Gives x) (called_configuration_same u k g (depth k) ws h)))
          refl

  -- ---- Init

  right_same : (env : Environment) (to : Sort) (at : Location) (x : Sort) (n : Component) → EnvironmentIn t env
      → right_writes env (mix t config.store b) to at x n ≡ right_writes env config.store to at x n
  right_same env Class at Class n s = rw (class_location_same env n s) refl
  right_same env Class at Monitor n s = rw (monitor_number_same env n s) refl
  right_same env Class at Process n s = refl
  right_same env Monitor at Class n s = refl
  right_same env Monitor at Monitor n s = rw (monitor_number_same env n s) refl
  right_same env Monitor at Process n s = refl
  right_same env Process at Class n s = refl
  right_same env Process at Monitor n s = rw (monitor_number_same env n s) refl
  right_same env Process at Process n s = refl

  right_in : (env : Environment) (to : Sort) (at : Location) (x : Sort) (n : Component) → t at.owner ≡ true
      → WritesIn t (right_writes env config.store to at x n)
  right_in env Class at Class n h = (h, tt)
  right_in env Class at Monitor n h = (h, tt)
  right_in env Class at Process n h = tt
  right_in env Monitor at Class n h = tt
  right_in env Monitor at Monitor n h = (h, tt)
  right_in env Monitor at Process n h = tt
  right_in env Process at Class n h = tt
  right_in env Process at Monitor n h = (h, tt)
  right_in env Process at Process n h = tt

  named_right_same : (env : Environment) (to : Sort) (at : Location) (o : Option Component) → EnvironmentIn t env
      → named_right_writes env (mix t config.store b) to at o ≡ named_right_writes env config.store to at o
  named_right_same env to at None s = refl
  named_right_same env to at (Some n) s = right_same env to at n.system.sort n s

  named_right_in : (env : Environment) (to : Sort) (at : Location) (o : Option Component) → t at.owner ≡ true
      → WritesIn t (named_right_writes env config.store to at o)
  named_right_in env to at None h = tt
  named_right_in env to at (Some n) h = right_in env to at n.system.sort n h

  init_argument_same : (to : Sort) (env : Environment) → EnvironmentIn t env
      → (l : Location) (x : ResolvedType) (e : Expression)
      → init_argument_writes to w.clock env (mix t config.store b) l x e ≡ init_argument_writes to w.clock env config.store
      l x e
  init_argument_same to env s l (ComponentOf y i) e = ap
      (λ ws. Gives ws) (named_right_same env to l (component_named env (name_of (designator_of e))) s)
  init_argument_same to env s l (Simple base low high start) e = rw (value_same t config.store b w.clock env closed s e)
      refl
  init_argument_same to env s l (ArrayOf low high x) e = rw (value_same t config.store b w.clock env closed s e) refl
  init_argument_same to env s l (RecordOf ps) e = rw (value_same t config.store b w.clock env closed s e) refl
  init_argument_same to env s l Queue e = rw (value_same t config.store b w.clock env closed s e) refl
  init_argument_same to env s l NoType e = rw (value_same t config.store b w.clock env closed s e) refl

  stored_in : (env : Environment) (l : Location) (x : ResolvedType) (e : Expression) → t l.owner ≡ true
      → IfGives (WritesIn t) (and_then (value w.clock env config.store e) (writes_of l x))
  stored_in env l x e h = then_gives (λ p. Unit {0}) (WritesIn t) (value w.clock env config.store e) _ (anything (value w.clock env config.store e)) (λ v u. writes_in t l x v h)

  init_argument_in : (to : Sort) (env : Environment) (l : Location) (x : ResolvedType) (e : Expression) → t l.owner ≡ true
      → IfGives (WritesIn t) (init_argument_writes to w.clock env config.store l x e)
  init_argument_in to env l (ComponentOf y i) e h = named_right_in env to l
      (component_named env (name_of (designator_of e))) h
  init_argument_in to env l (Simple base low high start) e h = stored_in env l (Simple base low high start) e h
  init_argument_in to env l (ArrayOf low high x) e h = stored_in env l (ArrayOf low high x) e h
  init_argument_in to env l (RecordOf ps) e h = stored_in env l (RecordOf ps) e h
  init_argument_in to env l Queue e h = stored_in env l Queue e h
  init_argument_in to env l NoType e h = stored_in env l NoType e h

  init_arguments_same : (env : Environment) (arguments : Expressions) (n : Component) (at : Location) → EnvironmentIn t env
      → init_arguments other_context mixed_config env arguments n at ≡ init_arguments w config env arguments n at
  init_arguments_same env arguments n at s = bind_same _ _
      (λ l v e. init_argument_same n.system.sort env s l v.type e) at (declarations env.globals n.system.parameters) arguments

  init_arguments_in : (env : Environment) (arguments : Expressions) (n : Component) (at : Location) → t at.owner ≡ true
      → IfGives (WritesIn t) (init_arguments w config env arguments n at)
  init_arguments_in env arguments n at h = bind_in t _
      (λ l v e g. init_argument_in n.system.sort env l v.type e g) at (declarations env.globals n.system.parameters) arguments h

  init_component_same : (x : Sort) (env : Environment) (k : List Task) (arguments : Expressions) (n : Component)
      → EnvironmentIn t env → (same_sort Class x ≡ false → KernelIn)
      → init_component x other_context mixed_config env k arguments n
      ≡ result_mixed t b (init_component x w config env k arguments n)
  init_component_same Class env k arguments n s h =
      let l = class_location env config.store n in
      rw (class_location_same env n s, get_mix t config.store b l (class_location_in env n s))
      (if_moved t b (is_initialised (config.store l)) (Fault 7) (Fault 7) _ _ refl
      (then_moved t b (WritesIn t) _ (init_arguments w config env arguments n l) _ _
      (init_arguments_same env arguments n l s) (init_arguments_in env arguments n l (class_location_in env n s))
      (λ ws g. rw (put_all_mix t ws config.store b g, put_mix t l (Initialised true) (put_all ws config.store) b (class_location_in env n s)) refl)))
  init_component_same Monitor env k arguments n s h =
      let m = monitor_number env config.store n in
      rw (monitor_number_same env n s, (h refl).same_set)
      (if_moved t b (w.is_set m) (Fault 7) (Fault 7) _ _ refl
      (then_moved t b (WritesIn t) _ (init_arguments w config env arguments n (monitor_location m)) _ _
      (init_arguments_same env arguments n (monitor_location m) s)
      (init_arguments_in env arguments n (monitor_location m) ((h refl).monitors m))
      (λ ws g. rw (put_all_mix t ws config.store b g) refl)))
  init_component_same Process env k arguments n s h = rw ((h refl).same_started)
      (go (w.is_started (process_number env n)) refl)
    where
      go : (x : Bool) → w.is_started (process_number env n) ≡ x
          → (if x then Fault 7 else and_then (init_arguments other_context mixed_config env arguments n
          (process_location (process_number env n)))
          (λ ws. Gives (record mixed_config { store = put_all ws (mix t config.store b); continuation = k }, Starts (process_number env n) (push n.system.body (body_environment env n.system (process_location (process_number env n))) (EndProcess ∷ [])))))
          ≡ result_mixed t b (if x then Fault 7 else and_then
          (init_arguments w config env arguments n (process_location (process_number env n)))
          (λ ws. Gives (record config { store = put_all ws config.store; continuation = k }, Starts (process_number env n) (push n.system.body (body_environment env n.system (process_location (process_number env n))) (EndProcess ∷ [])))))
      go true e = refl
      go false e =
          then_moved t b (WritesIn t) _ (init_arguments w config env arguments n (process_location (process_number env n)))
          _ _ (init_arguments_same env arguments n (process_location (process_number env n)) s)
          (init_arguments_in env arguments n (process_location (process_number env n))
          ((h refl).processes (process_number env n) e))
          (λ ws g. rw (put_all_mix t ws config.store b g) refl)

  -- ---- Statements

  at_place : (env : Environment) (d : Designator) (f g : Place → StepResult) → EnvironmentIn t env
      → ((p : Place) → PlaceIn t p → f p ≡ result_mixed t b (g p))
      → and_then (place w.clock env (mix t config.store b) d) f
      ≡ result_mixed t b (and_then (place w.clock env config.store d) g)
  at_place env d f g s h =
      then_moved t b (PlaceIn t) _ (place w.clock env config.store d) f g
      (place_same t config.store b w.clock env closed s d) (place_in t config.store b w.clock env closed s d) h

  at_value : (env : Environment) (e : Expression) (f g : TypedValue → StepResult) → EnvironmentIn t env
      → ((v : TypedValue) → f v ≡ result_mixed t b (g v))
      → and_then (value w.clock env (mix t config.store b) e) f
      ≡ result_mixed t b (and_then (value w.clock env config.store e) g)
  at_value env e f g s h =
      then_moved t b (λ v. Unit {0}) _ (value w.clock env config.store e) f g (value_same t config.store b w.clock env closed s e) (anything (value w.clock env config.store e)) (λ v u. h v)

  stores : (l : Location) (x : ResolvedType) (v : TypedValue) (f g : Writes → StepResult) → t l.owner ≡ true
      → ((ws : Writes) → WritesIn t ws → f ws ≡ result_mixed t b (g ws))
      → and_then (writes_of l x v) f ≡ result_mixed t b (and_then (writes_of l x v) g)
  stores l x v f g h k = then_moved t b (WritesIn t) _ (writes_of l x v) f g refl (writes_in t l x v h) k

  delay_same : (k : List Task) (q : Location) (ms : List ℕ) → t q.owner ≡ true → delay w.process mixed_config k q ms
      ≡ result_mixed t b (delay w.process config k q ms)
  delay_same k q [] h = refl
  delay_same k q (m ∷ ms) h = rw (get_mix t config.store b q h, delay) (go (process_in_queue (config.store q)))
    where
      go : (o : Option ℕ) → enqueue w.process mixed_config k q m o ≡ result_mixed t b (enqueue w.process config k q m o)
      go None = rw (put_mix t q (QueueHolds (Some w.process)) config.store b h) refl
      go (Some r) = refl

  abbrev EndIn : Option (Environment × Option ℕ × List Task) → Type 0
  EndIn None = Unit {0}
  EndIn (Some e) = EnvironmentIn t e.0

  end_in : (k : List Task) → ContinuationIn t k → EndIn (innermost_call k)
  end_in [] h = tt
  end_in (EndCall env gate ∷ k) h = h.0
  end_in (Do s env ∷ k) h = end_in k h.1
  end_in (WhileTest now e s env ∷ k) h = end_in k h.1
  end_in (RepeatTest now s e env ∷ k) h = end_in k h.1
  end_in (ForNext v down n last s env ∷ k) h = end_in k h.1
  end_in (EndBody gate ∷ k) h = end_in k h.1
  end_in (EndProcess ∷ k) h = end_in k h.1

  then_configuration_moved : (o u : Outcome Configuration) (g : Configuration → Effect)
      → ((r : Configuration) → g (with_mixed_store t b r) ≡ g r) → o ≡ configuration_moved t b u
      → and_then o (λ r. Gives (r, g r)) ≡ result_mixed t b (and_then u (λ r. Gives (r, g r)))
  then_configuration_moved o (Fault n) g i e = ap (λ x. and_then x (λ r. Gives (r, g r))) e
  then_configuration_moved o (Gives x) g i e = ap (λ x. and_then x (λ r. Gives (r, g r))) e ∙ ap (λ y. Gives (with_mixed_store t b x, y)) (i x)

  continue_same : (q : Location) (o : Option (Environment × Option ℕ × List Task)) → EndIn o → t q.owner ≡ true
      → continue mixed_config q o ≡ result_mixed t b (continue config q o)
  continue_same q None s h = refl
  continue_same q (Some (env, None, k)) s h = refl
  continue_same q (Some (env, Some m, k)) s h =
      rw (get_mix t config.store b q h, put_mix t q (QueueHolds None) config.store b h)
      (then_configuration_moved _ (returns (record config { store = put q (QueueHolds None) config.store }) env k)
      (λ r. Continues m (process_in_queue (config.store q))) (λ r. refl)
      (returns_same t b (record config { store = put q (QueueHolds None) config.store }) env k s.frame))

  standard_procedure_same : (env : Environment) (k : List Task) (x : Name) (e : Expression) → EnvironmentIn t env
      → ContinuationIn t k
      → standard_procedure other_context mixed_config env k x e ≡ result_mixed t b (standard_procedure w config env k x e)
  standard_procedure_same env k x e s l =
      if_moved t b (bytes_eq x (codes "display")) _ _ _ _ (at_value env e _ _ s (λ v. refl))
      (if_moved t b (bytes_eq x (codes "accept")) _ _ _ _
      (at_place env (designator_of e) _ _ s (λ p h. stores p.at p.type (simple_value Char (next_input w.input config.consumed)) _ _ h (λ ws g. rw (put_all_mix t ws config.store b g) refl)))
      (if_moved t b (bytes_eq x (codes "delay")) _ _ _ _
      (at_place env (designator_of e) _ _ s (λ p h. delay_same k p.at (marked_monitors k) h))
      (at_place env (designator_of e) _ _ s (λ p h. continue_same p.at (innermost_call k) (end_in k l) h))))

  standard_statement_same : (env : Environment) (k : List Task) (d : Designator) (arguments : Expressions)
      → EnvironmentIn t env → ContinuationIn t k
      → standard_statement other_context mixed_config env k d arguments
      ≡ result_mixed t b (standard_statement w config env k d arguments)
  standard_statement_same env k d NoExpression s l = refl
  standard_statement_same env k d (MoreExpressions e es) s l = standard_procedure_same env k (name_of d) e s l

  for_step_same : (env : Environment) (k : List Task) (v : Name) (down : Bool) (n last : ℤ) (x : Statement)
      → EnvironmentIn t env
      → for_step other_context mixed_config env k v down n last x
      ≡ result_mixed t b (for_step w config env k v down n last x)
  for_step_same env k v down n last x s =
      at_place env (Plain v) _ (λ p. and_then (writes_of p.at p.type (simple_value Integer n)) (λ ws. own_step (record config { store = put_all ws config.store; continuation = push x env (ForNext v down n last x env ∷ k) }))) s
      (λ p h. stores p.at p.type (simple_value Integer n) _ (λ ws. own_step (record config { store = put_all ws config.store; continuation = push x env (ForNext v down n last x env ∷ k) })) h (λ ws g.
      ap (λ st. own_step (record config { store = st; continuation = push x env (ForNext v down n last x env ∷ k) })) (put_all_mix t ws config.store b g)))

  execute_same : (x : Statement) (env : Environment) (k : List Task) → EnvironmentIn t env → ContinuationIn t k
      → (is_kernel_action (Acts (Do x env) k) ≡ true → KernelIn)
      → execute other_context mixed_config env k x ≡ result_mixed t b (execute w config env k x)
  execute_same Nothing env k s l h = refl
  execute_same (Seq x y) env k s l h = refl
  execute_same (While e x) env k s l h = refl
  execute_same (Repeat x e) env k s l h = refl
  execute_same (Cycle x) env k s l h = refl
  execute_same (Assign d e) env k s l h =
      at_place env d _ _ s (λ p i. at_value env e _ _ s (λ v. stores p.at p.type v _ _ i (λ ws g. rw (put_all_mix t ws config.store b g) refl)))
  execute_same (Perform d arguments) env k s l h = standard_statement_same env k d arguments s l
  execute_same (If e x y) env k s l h = at_value env e _ _ s (λ v. refl)
  execute_same (Case e arms) env k s l h = at_value env e _ _ s (λ v. go (chosen_arm env.globals (ordinal_of v) arms))
    where
      go : (o : Option Statement) → (elim o as (λ x. StepResult) [ None ↦ Fault 8 | Some x ↦ own_step (record mixed_config { continuation = push x env k }) ])
          ≡ result_mixed t b (elim o as (λ x. StepResult) [ None ↦ Fault 8 | Some x ↦ own_step (record config { continuation = push x env k }) ])
      go None = refl
      go (Some x) = refl
  execute_same (For v down e f x) env k s l h =
      at_value env e _ _ s (λ y. at_value env f _ _ s (λ z.
      if_moved t b (is_past down (ordinal_of y) (ordinal_of z)) _ _ _ _ refl
      (for_step_same env k v down (ordinal_of y) (ordinal_of z) x s)))
  execute_same (Init x arguments) env k s l h = go (component_named env x) h
    where
      go : (o : Option Component)
          → (not (elim o as (λ y. Bool) [ None ↦ true | Some c ↦ same_sort Class c.system.sort ]) ≡ true → KernelIn)
          → (elim o as (λ y. StepResult) [ None ↦ own_step (record mixed_config { continuation = k }) | Some n ↦ init_component n.system.sort other_context mixed_config env k arguments n ])
          ≡ result_mixed t b (elim o as (λ y. StepResult) [ None ↦ own_step (record config { continuation = k }) | Some n ↦ init_component n.system.sort w config env k arguments n ])
      go None h = refl
      go (Some n) h = init_component_same n.system.sort env k arguments n s (λ e. h (ap (λ y. not y) e))

  run_task_same : (i : Task) (k : List Task) → TaskIn t i → ContinuationIn t k
      → (is_kernel_action (Acts i k) ≡ true → KernelIn)
      → run_task other_context mixed_config i k ≡ result_mixed t b (run_task w config i k)
  run_task_same (Do x env) k s l h = execute_same x env k s l h
  run_task_same (WhileTest now e x env) k s l h = at_value env now _ _ s (λ v. refl)
  run_task_same (RepeatTest now x e env) k s l h = at_value env now _ _ s (λ v. refl)
  run_task_same (ForNext v down n last x env) k s l h =
      if_moved t b (same_integer n last) _ _ _ _ refl (for_step_same env k v down (next_counter down n) last x s)
  run_task_same (EndCall env gate) k s l h = then_configuration_moved _ (returns config env k)
      (λ r. leaving gate) (λ r. refl) (returns_same t b config env k s.frame)
  run_task_same (EndBody gate) k s l h = refl
  run_task_same EndProcess k s l h = refl

  action_same : (x : Action) → ActionIn t x → (is_kernel_action x ≡ true → KernelIn)
      → take_action other_context mixed_config x ≡ result_mixed t b (take_action w config x)
  action_same Rests h k = refl
  action_same (Calls u l) h k = call_same u l h k
  action_same (Acts i l) h k = run_task_same i l h.0 h.1 k

-- A step commutes with a change outside its reach.
pub step_same : (t : Owner → Bool) (b : Store) (w : Context) (f g : ℕ → Bool) (config : Configuration)
    (closed : IsClosed t config.store) (activations_pass : (d : ℕ) → t (OfActivation w.process d) ≡ true)
    → ContinuationIn t config.continuation
    → (is_kernel_action (action config.continuation) ≡ true → KernelIn t b w f g config closed activations_pass)
    → step_of (record w { is_started = f; is_set = g }) (with_mixed_store t b config) ≡ result_mixed t b (step_of w config)
step_same t b w f g config closed activations_pass continuation kernel = action_same t b w f g config closed
    activations_pass (action config.continuation) (action_in t config.continuation continuation) kernel
