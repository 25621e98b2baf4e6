-- A statement in which no call is left keeps the invariant.
use Rattle.std.specs.Prelude.{Bool, List, None, Option, Some, [], codes, false, if◌then◌else◌, refl, true, ℕ, ℤ, ◌++◌, ◌∷◌, ◌≡◌}
use Rattle.std.proofs.Common.{ap, arith, subst, sym, ◌∙◌}
use Rattle.std.proofs.lemmas.Bool.{eq-eqb}
use Rattle.cp_model.specs.Abstract.{Assign, Case, Char, Class, Cycle, Designator, Expression, Expressions, For, If, Init, Integer, Monitor, MoreExpressions, Name, NoExpression, Nothing, Perform, Plain, Process, Repeat, Seq, Sort, Statement, While}
use Rattle.std.specs.Str.{bytes_eq}
use Rattle.cp_model.specs.Types.{ArrayOf, ComponentOf, NoType, Queue, RecordOf, ResolvedType, Simple}
use Rattle.cp_model.specs.Declarations.{Variable, declarations}
use Rattle.cp_model.specs.Locations.{ByName, Location, OfProcess, under}
use Rattle.cp_model.specs.Integers.{same_integer}
use Rattle.cp_model.specs.Stores.{Absent, ClassRight, Initialised, MonitorRight, Ordinal, QueueHolds, Reference, Value, Writes, put, put_all}
use Rattle.cp_model.specs.Outcomes.{Fault, Gives, Outcome, and_then}
use Rattle.cp_model.specs.Environments.{Environment}
use Rattle.cp_model.specs.Places.{TypedValue, ordinal_of, simple_value}
use Rattle.cp_model.specs.Expressions.{name_of, place, value}
use Rattle.cp_model.specs.Continuations.{Do, EndBody, EndCall, EndProcess, ForNext, RepeatTest, Task, WhileTest, marked_monitors, is_in_monitor, push}
use Rattle.cp_model.specs.Components.{Component, class_location, class_or_here, component_named, monitor_location, monitor_number, name_location, process_location, process_number, same_sort}
use Rattle.cp_model.specs.Configurations.{Configuration, Context, Effect, Ends, Own, StepResult, Waits, own_step}
use Rattle.cp_model.specs.Assignments.{writes_of}
use Rattle.cp_model.specs.Arguments.{bind, designator_of, init_argument_writes, named_right_writes, right_writes}
use Rattle.cp_model.specs.CallSteps.{innermost_call, is_initialised, leaving, returns}
use Rattle.cp_model.specs.StandardCalls.{continue, delay, enqueue, next_input, next_place, process_in_queue, standard_procedure, standard_statement}
use Rattle.cp_model.specs.Initialisation.{body_environment, init_arguments, init_component}
use Rattle.cp_model.specs.StatementSteps.{chosen_arm, execute, for_step, is_past, is_true, next_counter}
use Rattle.cp_model.specs.Step.{run_task}
use Rattle.cp_model.specs.Start.{start}
use Rattle.cp_model.specs.Reach.{in_reach}
use Rattle.cp_model.specs.Invariant.{ContinuationInvariant, EnvironmentIn, FrameIn, StoreInvariant}
use Rattle.cp_model.proofs.ExpressionReach.{IfGives, anything, then_gives}
use Rattle.cp_model.proofs.StoreInvariants.{AllKeepStore, continuation_keeps_store, push_continuation, push_keeps, put_all_no_new_reference, put_all_store, writes_keep_store}
use Rattle.cp_model.proofs.ReturnInvariant.{CallEndInvariant, ConfigurationInvariant, EffectInvariant, StartedContinuation, StepInvariant, call_end, continuation_tail, returns_configuration}
use Rattle.cp_model.proofs.Lists.{in_head}

-- ---- Statements that store

module _ (w : Context) (config : Configuration) (s : StoreInvariant config.store) where
  stored : (k : List Task) (n : ℕ) (transcript : List ℕ) (ws : Writes) → AllKeepStore ws
      → ContinuationInvariant w.process config.store k
      → StepInvariant w.process (
        record {
          store = put_all ws config.store;
          continuation = k;
          transcript = transcript;
          consumed = n;
        },
        Own,
      )
  stored k n transcript ws h o = record {
    store = put_all_store ws config.store h s;
    ok = continuation_keeps_store w.process
        config.store (put_all ws config.store) k (put_all_no_new_reference ws config.store h) o;
    effect = tt;
  }

  proceeds : (k : List Task) (transcript : List ℕ) (e : Effect) → EffectInvariant k e
      → ContinuationInvariant w.process config.store k
      → StepInvariant w.process (record config { continuation = k; transcript = transcript }, e)
  proceeds k transcript e h o = record { store = s; ok = o; effect = h }

  then_after : {A : Type 0} (o : Outcome A) (f : A → StepResult) → ((x : A) → IfGives (StepInvariant w.process) (f x))
      → IfGives (StepInvariant w.process) (and_then o f)
  then_after (Fault n) f h = tt
  then_after (Gives x) f h = h x

  then_store : (l : Location) (x : ResolvedType) (v : TypedValue) (f : Writes → StepResult)
      → ((ws : Writes) → AllKeepStore ws → IfGives (StepInvariant w.process) (f ws))
      → IfGives (StepInvariant w.process) (and_then (writes_of l x v) f)
  then_store l x v f h = then_gives AllKeepStore (StepInvariant w.process) (writes_of l x v) f (writes_keep_store l x v) h

  pub if_after : (x : Bool) (o u : StepResult) → IfGives (StepInvariant w.process) o → IfGives (StepInvariant w.process) u
      → IfGives (StepInvariant w.process) (if x then o else u)
  if_after true o u h k = h
  if_after false o u h k = k

  has_gate : (k : List Task) (m : ℕ) (ms : List ℕ) → marked_monitors k ≡ m ∷ ms → is_in_monitor k ≡ true
  has_gate k m ms h = ap (λ x. elim x as (λ y. Bool) [ [] ↦ false | n ∷ ns ↦ true ]) h

  delay_after : (k : List Task) (q : Location) (ms : List ℕ) → marked_monitors k ≡ ms
      → ContinuationInvariant w.process config.store k → ContinuationInvariant w.process config.store config.continuation
      → IfGives (StepInvariant w.process) (delay w.process config k q ms)
  delay_after k q [] h o l = record { store = s; ok = l; effect = tt }
  delay_after k q (m ∷ ms) h o l = go (process_in_queue (config.store q))
    where
      go : (x : Option ℕ) → IfGives (StepInvariant w.process) (enqueue w.process config k q m x)
      go (Some r) = tt
      go None =
          let a = stored k config.consumed config.transcript ((q, QueueHolds (Some w.process)) ∷ []) (tt, tt) o in
          record { store = a.store; ok = a.ok; effect = has_gate k m ms h }

  continue_after : (k : List Task) (q : Location) → ContinuationInvariant w.process config.store k
      → ContinuationInvariant w.process config.store config.continuation
      → IfGives (StepInvariant w.process) (continue config q (innermost_call k))
  continue_after k q o l = go (innermost_call k) (call_end w.process (put q (QueueHolds None) config.store) k
      (continuation_keeps_store w.process config.store (put q (QueueHolds None) config.store) k
      (put_all_no_new_reference ((q, QueueHolds None) ∷ []) config.store (tt, tt)) o))
    where
      go : (e : Option (Environment × Option ℕ × List Task))
          → CallEndInvariant w.process (put q (QueueHolds None) config.store) e
          → IfGives (StepInvariant w.process) (continue config q e)
      go None h = record { store = s; ok = l; effect = tt }
      go (Some (env, None, r)) h = record { store = s; ok = l; effect = tt }
      go (Some (env, Some m, r)) h =
          then_gives (ConfigurationInvariant w.process) (StepInvariant w.process)
          (returns (record config { store = put q (QueueHolds None) config.store }) env r) _
          (returns_configuration w.process (record config { store = put q (QueueHolds None) config.store }) env (Some m) r
          (put_all_store ((q, QueueHolds None) ∷ []) config.store (tt, tt) s) h)
          (λ x y. record { store = y.store; ok = y.ok; effect = tt })

  standard_procedure_after : (env : Environment) (k : List Task) (x : Name) (e : Expression)
      → ContinuationInvariant w.process config.store k → ContinuationInvariant w.process config.store config.continuation
      → IfGives (StepInvariant w.process) (standard_procedure w config env k x e)
  standard_procedure_after env k x e o l =
      if_after (bytes_eq x (codes "display")) _ _ (then_after (value w.clock env config.store e) _
      (λ v. proceeds k _ Own tt o))
      (if_after (bytes_eq x (codes "accept")) _ _
      (then_after (place w.clock env config.store (designator_of e)) _
      (λ at. then_store at.at at.type (simple_value Char (next_input w.input config.consumed)) _ (λ ws h. stored k (next_place w.input config.consumed) config.transcript ws h o)))
      (if_after (bytes_eq x (codes "delay")) _ _
      (then_after (place w.clock env config.store (designator_of e)) _ (λ at. delay_after k at.at (marked_monitors k) refl o l))
      (then_after (place w.clock env config.store (designator_of e)) _ (λ at. continue_after k at.at o l))))

  standard_statement_after : (env : Environment) (k : List Task) (d : Designator) (arguments : Expressions)
      → ContinuationInvariant w.process config.store k → ContinuationInvariant w.process config.store config.continuation
      → IfGives (StepInvariant w.process) (standard_statement w config env k d arguments)
  standard_statement_after env k d NoExpression o l = proceeds k config.transcript Waits tt o
  standard_statement_after env k d (MoreExpressions e es) o l = standard_procedure_after env k (name_of d) e o l

  for_next_continuation : (env : Environment) (k : List Task) (v : Name) (down : Bool) (n last : ℤ) (x : Statement)
      → EnvironmentIn (in_reach w.process (marked_monitors k)) env → ContinuationInvariant w.process config.store k
      → ContinuationInvariant w.process config.store (push x env (ForNext v down n last x env ∷ k))
  for_next_continuation env k v down n last x h o = push_continuation w.process config.store x env
      (ForNext v down n last x env ∷ k) h (record { tasks = (h, o.tasks); frames = o.frames; beyond = o.beyond })

  for_step_after : (env : Environment) (k : List Task) (v : Name) (down : Bool) (n last : ℤ) (x : Statement)
      → EnvironmentIn (in_reach w.process (marked_monitors k)) env → ContinuationInvariant w.process config.store k
      → IfGives (StepInvariant w.process) (for_step w config env k v down n last x)
  for_step_after env k v down n last x h o =
      then_after (place w.clock env config.store (Plain v))
      (λ at. and_then (writes_of at.at at.type (simple_value Integer n)) (λ ws. own_step (record config { store = put_all ws config.store; continuation = push x env (ForNext v down n last x env ∷ k) })))
      (λ at. then_store at.at at.type (simple_value Integer n) (λ ws. own_step (record config { store = put_all ws config.store; continuation = push x env (ForNext v down n last x env ∷ k) }))
      (λ ws g. stored (push x env (ForNext v down n last x env ∷ k)) config.consumed config.transcript ws g (for_next_continuation env k v down n last x h o)))

  -- ---- Init

  class_owner : (l : Location) (v : Value) → config.store l ≡ v → (class_or_here l v).owner ≡ l.owner
  class_owner l (ClassRight j) e = s.classes l j e
  class_owner l Absent e = refl
  class_owner l (Ordinal n) e = refl
  class_owner l (QueueHolds x) e = refl
  class_owner l (MonitorRight m) e = refl
  class_owner l (Reference j) e = refl
  class_owner l (Initialised b) e = refl

  pub class_location_owner : (env : Environment) (n : Component) → (class_location env config.store n).owner
      ≡ env.component.owner
  class_location_owner env n = go n.is_parameter
    where
      go : (b : Bool) → (if b then class_or_here (name_location env n) (config.store (name_location env n)) else
          name_location env n).owner ≡ env.component.owner
      go true = class_owner (name_location env n) (config.store (name_location env n)) refl
      go false = refl

  right_keeps : (env : Environment) (to : Sort) (at : Location) (x : Sort) (n : Component)
      → (same_sort Class to ≡ true → at.owner ≡ env.component.owner)
      → AllKeepStore (right_writes env config.store to at x n)
  right_keeps env Class at Class n h = (class_location_owner env n ∙ sym (h refl), tt)
  right_keeps env Class at Monitor n h = (tt, tt)
  right_keeps env Class at Process n h = tt
  right_keeps env Monitor at Class n h = tt
  right_keeps env Monitor at Monitor n h = (tt, tt)
  right_keeps env Monitor at Process n h = tt
  right_keeps env Process at Class n h = tt
  right_keeps env Process at Monitor n h = (tt, tt)
  right_keeps env Process at Process n h = tt

  init_argument_keeps : (to : Sort) (env : Environment) (l : Location) (x : ResolvedType) (e : Expression)
      → (same_sort Class to ≡ true → l.owner ≡ env.component.owner)
      → IfGives AllKeepStore (init_argument_writes to w.clock env config.store l x e)
  init_argument_keeps to env l (ComponentOf y i) e h = declared_group (component_named env (name_of (designator_of e)))
    where
      declared_group : (o : Option Component) → AllKeepStore (named_right_writes env config.store to l o)
      declared_group None = tt
      declared_group (Some n) = right_keeps env to l n.system.sort n h
  init_argument_keeps to env l (Simple base low high start) e h = then_gives
      (λ v. Unit {0}) AllKeepStore (value w.clock env config.store e) _ (anything (value w.clock env config.store e)) (λ v u. writes_keep_store l (Simple base low high start) v)
  init_argument_keeps to env l (ArrayOf low high x) e h = then_gives
      (λ v. Unit {0}) AllKeepStore (value w.clock env config.store e) _ (anything (value w.clock env config.store e)) (λ v u. writes_keep_store l (ArrayOf low high x) v)
  init_argument_keeps to env l (RecordOf ps) e h = then_gives
      (λ v. Unit {0}) AllKeepStore (value w.clock env config.store e) _ (anything (value w.clock env config.store e)) (λ v u. writes_keep_store l (RecordOf ps) v)
  init_argument_keeps to env l Queue e h = then_gives
      (λ v. Unit {0}) AllKeepStore (value w.clock env config.store e) _ (anything (value w.clock env config.store e)) (λ v u. writes_keep_store l Queue v)
  init_argument_keeps to env l NoType e h = then_gives
      (λ v. Unit {0}) AllKeepStore (value w.clock env config.store e) _ (anything (value w.clock env config.store e)) (λ v u. writes_keep_store l NoType v)

  append_keep : (ws vs : Writes) → AllKeepStore ws → AllKeepStore vs → AllKeepStore (ws ++ vs)
  append_keep [] vs h k = k
  append_keep (x ∷ ws) vs h k = (h.0, append_keep ws vs h.1 k)

  bind_keeps : (one : Location → Variable → Expression → Outcome Writes) (at : Location) (ps : List (Name × Variable))
      (es : Expressions)
      → ((l : Location) (v : Variable) (e : Expression) → l.owner ≡ at.owner → IfGives AllKeepStore (one l v e))
      → IfGives AllKeepStore (bind one at ps es)
  bind_keeps one at [] es h = tt
  bind_keeps one at (q ∷ qs) NoExpression h = tt
  bind_keeps one at (q ∷ qs) (MoreExpressions e es) h =
      then_gives AllKeepStore AllKeepStore (one (under at (ByName q.0 ∷ [])) q.1 e) _
      (h (under at (ByName q.0 ∷ [])) q.1 e refl) (λ ws i.
      then_gives AllKeepStore AllKeepStore (bind one at qs es) _ (bind_keeps one at qs es h)
      (λ vs j. append_keep ws vs i j))

  init_arguments_keep : (env : Environment) (arguments : Expressions) (n : Component) (at : Location)
      → (same_sort Class n.system.sort ≡ true → at.owner ≡ env.component.owner)
      → IfGives AllKeepStore (init_arguments w config env arguments n at)
  init_arguments_keep env arguments n at h =
      bind_keeps (λ l v e. init_argument_writes n.system.sort w.clock env config.store l v.type e) at (declarations env.globals n.system.parameters) arguments
      (λ l v e g. init_argument_keeps n.system.sort env l v.type e (λ x. g ∙ h x))

  start_ok : (r : ℕ) (x : Statement) (env : Environment) → env.component.owner ≡ OfProcess r → env.frame ≡ None
      → StartedContinuation r (push x env (EndProcess ∷ []))
  start_ok r x env h f =
      let in_scope : (ms : List ℕ) → EnvironmentIn (in_reach r ms)
      env = λ ms. record { component = rw h (eq-eqb r r refl); frame = subst (λ y. FrameIn (in_reach r ms) y) (sym f) tt } in
      push_keeps (StartedContinuation r) env
      (λ y k o. record { tasks = (in_scope _, o.tasks); deep = o.deep; frames = o.frames })
      (λ a b y k o. record { tasks = (in_scope _, o.tasks); deep = o.deep; frames = o.frames })
      (λ a b y k o. record { tasks = (in_scope _, o.tasks); deep = o.deep; frames = o.frames })
      x (EndProcess ∷ []) (record { tasks = (tt, tt); deep = refl; frames = λ st. tt })

  body_ok : (x : Statement) (env : Environment) (gate : Option ℕ) (k : List Task)
      → EnvironmentIn (in_reach w.process (marked_monitors (EndBody gate ∷ k))) env
      → ContinuationInvariant w.process config.store k
      → ContinuationInvariant w.process config.store (push x env (EndBody gate ∷ k))
  body_ok x env gate k h o = push_continuation w.process config.store x env (EndBody gate ∷ k) h
      (record { tasks = (tt, o.tasks); frames = o.frames; beyond = o.beyond })

  init_after : (y : Sort) (env : Environment) (k : List Task) (arguments : Expressions) (n : Component) → n.system.sort ≡ y
      → EnvironmentIn (in_reach w.process (marked_monitors k)) env → ContinuationInvariant w.process config.store k
      → IfGives (StepInvariant w.process) (init_component y w config env k arguments n)
  init_after Class env k arguments n e h o =
      let l = class_location env config.store n in
      if_after (is_initialised (config.store l)) (Fault 7) _ tt
      (then_gives AllKeepStore (StepInvariant w.process) (init_arguments w config env arguments n l) _
      (init_arguments_keep env arguments n l (λ x. class_location_owner env n))
      (λ ws g.
      let a = put_all_store ((l, Initialised true) ∷ []) (put_all ws config.store) (tt, tt)
      (put_all_store ws config.store g s) in
      record {
        store = a;
        ok = continuation_keeps_store w.process config.store (put l (Initialised true) (put_all ws config.store)) _
            (λ x j f. put_all_no_new_reference ws config.store g x j (put_all_no_new_reference ((l, Initialised true) ∷ []) (put_all ws config.store) (tt, tt) x j f))
            (body_ok n.system.body (body_environment env n.system l) None k
            (record { component = rw (class_location_owner env n) h.component; frame = tt }) o);
        effect = tt;
      }))
  init_after Monitor env k arguments n e h o =
      let m = monitor_number env config.store n in
      if_after (w.is_set m) (Fault 7) _ tt
      (then_gives AllKeepStore (StepInvariant w.process) (init_arguments w config env arguments n (monitor_location m)) _
      (init_arguments_keep env arguments n (monitor_location m)
      (λ x. absurd (no_class (sym (ap (λ z. same_sort Class z) e) ∙ x))))
      (λ ws g. record {
        store = put_all_store ws config.store g s;
        ok = continuation_keeps_store w.process config.store (put_all ws config.store) _
            (put_all_no_new_reference ws config.store g)
            (body_ok n.system.body (body_environment env n.system (monitor_location m)) (Some m) k
            (record { component = in_head m (marked_monitors k); frame = tt }) o);
        effect = tt;
      }))
    where
      no_class : false ≡ true → ⊥
      no_class x = Prim.grind arith
  init_after Process env k arguments n e h o =
      let r = process_number env n in
      if_after (w.is_started r) (Fault 7) _ tt
      (then_gives AllKeepStore (StepInvariant w.process) (init_arguments w config env arguments n (process_location r)) _
      (init_arguments_keep env arguments n (process_location r)
      (λ x. absurd (no_class (sym (ap (λ z. same_sort Class z) e) ∙ x))))
      (λ ws g. record {
        store = put_all_store ws config.store g s;
        ok = continuation_keeps_store w.process config.store (put_all ws config.store) k
            (put_all_no_new_reference ws config.store g) o;
        effect = start_ok r n.system.body (body_environment env n.system (process_location r)) refl refl;
      }))
    where
      no_class : false ≡ true → ⊥
      no_class x = Prim.grind arith

  -- ---- Tasks

  execute_after : (x : Statement) (env : Environment) (k : List Task) → EnvironmentIn (in_reach w.process (marked_monitors k)) env
      → ContinuationInvariant w.process config.store k → ContinuationInvariant w.process config.store config.continuation
      → IfGives (StepInvariant w.process) (execute w config env k x)
  execute_after Nothing env k h o l = proceeds k config.transcript Own tt o
  execute_after (Seq x y) env k h o l = proceeds k config.transcript Own tt o
  execute_after (While e x) env k h o l = proceeds k config.transcript Own tt o
  execute_after (Repeat x e) env k h o l = proceeds k config.transcript Own tt o
  execute_after (Cycle x) env k h o l =
      proceeds _ config.transcript Own tt (push_continuation w.process config.store x env (Do (Cycle x) env ∷ k) h
      (record { tasks = (h, o.tasks); frames = o.frames; beyond = o.beyond }))
  execute_after (Assign d e) env k h o l =
      then_after (place w.clock env config.store d) _
      (λ at. then_after (value w.clock env config.store e) _ (λ v. then_store at.at at.type v _ (λ ws g. stored k config.consumed config.transcript ws g o)))
  execute_after (Perform d arguments) env k h o l = standard_statement_after env k d arguments o l
  execute_after (If e x y) env k h o l = then_after (value w.clock env config.store e) _ (λ v. go (is_true v))
    where
      go : (b : Bool) → StepInvariant w.process (
        record config { continuation = if b then push x env k else push y env k },
        Own,
      )
      go true = proceeds (push x env k) config.transcript Own tt (push_continuation w.process config.store x env k h o)
      go false = proceeds (push y env k) config.transcript Own tt (push_continuation w.process config.store y env k h o)
  execute_after (Case e arms) env k h o l = then_after (value w.clock env config.store e) _
      (λ v. go (chosen_arm env.globals (ordinal_of v) arms))
    where
      go : (c : Option Statement) → IfGives (StepInvariant w.process)
          (elim c as (λ y. StepResult) [ None ↦ Fault 8 | Some x ↦ own_step (record config { continuation = push x env k }) ])
      go None = tt
      go (Some x) = proceeds (push x env k) config.transcript Own tt (push_continuation w.process config.store x env k h o)
  execute_after (For v down e f x) env k h o l =
      then_after (value w.clock env config.store e) _ (λ y. then_after (value w.clock env config.store f) _ (λ z.
      if_after (is_past down (ordinal_of y) (ordinal_of z)) _ _ (proceeds k config.transcript Own tt o)
      (for_step_after env k v down (ordinal_of y) (ordinal_of z) x h o)))
  execute_after (Init x arguments) env k h o l = go (component_named env x)
    where
      go : (c : Option Component) → IfGives (StepInvariant w.process)
          (elim c as (λ y. StepResult) [ None ↦ own_step (record config { continuation = k }) | Some n ↦ init_component n.system.sort w config env k arguments n ])
      go None = proceeds k config.transcript Own tt o
      go (Some n) = init_after n.system.sort env k arguments n refl h o

  pub run_task_after : (i : Task) (k : List Task) → ContinuationInvariant w.process config.store (i ∷ k)
      → ContinuationInvariant w.process config.store config.continuation
      → IfGives (StepInvariant w.process) (run_task w config i k)
  run_task_after (Do x env) k o l = execute_after x env k o.tasks.0
      (continuation_tail w.process config.store (Do x env) k tt o) l
  run_task_after (WhileTest now e x env) k o l = then_after (value w.clock env config.store now) _ (λ v. go (is_true v))
    where
      go : (b : Bool) → StepInvariant w.process (
        record config
            { continuation = if b then push x env (WhileTest e e x env ∷ k) else k },
        Own,
      )
      go true = proceeds _ config.transcript Own tt (push_continuation w.process config.store x env (WhileTest e e x env ∷ k)
          o.tasks.0 (record { tasks = (o.tasks.0, o.tasks.1); frames = o.frames; beyond = o.beyond }))
      go false = proceeds k config.transcript Own tt
          (continuation_tail w.process config.store (WhileTest now e x env) k tt o)
  run_task_after (RepeatTest now x e env) k o l = then_after (value w.clock env config.store now) _ (λ v. go (is_true v))
    where
      go : (b : Bool) → StepInvariant w.process (
        record config
            { continuation = if b then k else push x env (RepeatTest e x e env ∷ k) },
        Own,
      )
      go true = proceeds k config.transcript Own tt (continuation_tail w.process config.store (RepeatTest now x e env) k tt
          o)
      go false = proceeds _ config.transcript Own tt (push_continuation w.process config.store x env
          (RepeatTest e x e env ∷ k) o.tasks.0 (record
          { tasks = (o.tasks.0, o.tasks.1); frames = o.frames; beyond = o.beyond }))
  run_task_after (ForNext v down n last x env) k o l =
      if_after (same_integer n last) _ _ (proceeds k config.transcript Own tt
      (continuation_tail w.process config.store (ForNext v down n last x env) k tt o))
      (for_step_after env k v down (next_counter down n) last x o.tasks.0
      (continuation_tail w.process config.store (ForNext v down n last x env) k tt o))
  run_task_after (EndCall env gate) k o l =
      then_gives (ConfigurationInvariant w.process) (StepInvariant w.process) (returns config env k) _
      (returns_configuration w.process config env gate k s o)
      (λ x y. record { store = y.store; ok = y.ok; effect = go x.continuation gate })
    where
      go : (k : List Task) (g : Option ℕ) → EffectInvariant k (leaving g)
      go k None = tt
      go k (Some m) = tt
  run_task_after (EndBody gate) k o l = proceeds k config.transcript (leaving gate) (go k gate)
      (continuation_tail w.process config.store (EndBody gate) k tt o)
    where
      go : (k : List Task) (g : Option ℕ) → EffectInvariant k (leaving g)
      go k None = tt
      go k (Some m) = tt
  run_task_after EndProcess k o l = proceeds k config.transcript Ends tt
      (continuation_tail w.process config.store EndProcess k tt o)
