-- A step of a calm process does the same at any time.
--
-- Only `realtime` reads the clock. So each value, each place and each list of writes is the same.
use Rattle.std.specs.Prelude.{Bool, List, None, Option, Some, [], codes, false, if◌then◌else◌, neg_ℤ, not, pos, refl, true, ℤ, ◌++◌, ◌∷◌, ◌≡◌}
use Rattle.std.proofs.Common.{ap, sym, ◌∙◌}
use Rattle.std.proofs.lemmas.Bool.{true≢false}
use Rattle.std.specs.Str.{bytes_eq}
use Rattle.cp_model.specs.Abstract.{Assign, At, Binary, Call, Case, Class, Cycle, Designator, Expression, Expressions, For, If, Init, Known, Letter, Literal, Monitor, MoreExpressions, Name, Negative, NoExpression, Not, Nothing, Part, Perform, Plain, Positive, Process, Repeat, Seq, Sort, Statement, Use, While}
use Rattle.cp_model.specs.Types.{ArrayOf, ComponentOf, NoType, Queue, RecordOf, ResolvedType, Simple}
use Rattle.cp_model.specs.Declarations.{Variable, declarations}
use Rattle.cp_model.specs.Integers.{same_integer}
use Rattle.cp_model.specs.Locations.{ByName, Location, OfActivation, under}
use Rattle.cp_model.specs.Stores.{Initialised, Store, Writes, put, put_all}
use Rattle.cp_model.specs.Outcomes.{Fault, Gives, Outcome, and_then}
use Rattle.cp_model.specs.Environments.{Environment}
use Rattle.cp_model.specs.Places.{Place, TypedValue, indexed_place, field_place, ordinal_of, read, truth_value}
use Rattle.cp_model.specs.Operators.{Clock, apply_operator, integer_result, standard_function}
use Rattle.cp_model.specs.Expressions.{first_argument, name_of, place, value, value_of_name}
use Rattle.cp_model.specs.Continuations.{Do, EndBody, EndCall, EndProcess, ForNext, RepeatTest, Task, WhileTest, depth, push}
use Rattle.cp_model.specs.Components.{Component, class_location, component_named, monitor_location, monitor_number, process_location, process_number}
use Rattle.cp_model.specs.Calls.{Found, UserCall, call_in_task, procedure_call, callee, Callee}
use Rattle.cp_model.specs.Actions.{Action, Acts, Calls, Rests, action}
use Rattle.cp_model.specs.Assignments.{writes_of}
use Rattle.cp_model.specs.Arguments.{argument_writes, bind, designator_of, init_argument_writes, reference_writes}
use Rattle.cp_model.specs.Configurations.{Configuration, Context, StepResult, own_step}
use Rattle.cp_model.specs.CallSteps.{Target, call, called_configuration, component_target, is_initialised, target}
use Rattle.cp_model.specs.StandardCalls.{standard_procedure}
use Rattle.cp_model.specs.Initialisation.{body_environment, init_arguments, init_component}
use Rattle.cp_model.specs.StatementSteps.{execute, for_step, next_counter}
use Rattle.cp_model.specs.Step.{run_task, step_of, take_action}
use Rattle.cp_law_calls.specs.Clocks.{designator_is_timeless, expression_is_timeless, expressions_are_timeless, use_is_timeless}
use Rattle.cp_law_calls.proofs.Calm.{AllCalm, Calm, FoundCalm, TaskCalm, both, task_calm}

-- ---- Outcomes

then_same : {A B : Type 0} (o u : Outcome A) (f g : A → Outcome B) → o ≡ u → ((x : A) → f x ≡ g x) → and_then o f ≡ and_then u g
then_same o u f g e h = λ i. and_then (e i) (λ x. h x i)

if_same : {A : Type 0} (b : Bool) (x y z w : A) → x ≡ z → y ≡ w → (if b then x else y) ≡ (if b then z else w)
if_same b x y z w e f = λ i. if b then e i else f i

not_true : (b : Bool) → not b ≡ true → b ≡ false
not_true true h = absurd (true≢false (sym h))
not_true false h = refl

module _ (t c : Clock) (env : Environment) (store : Store) where
  named : (b : Bool) (x : Name) → b ≡ false → bytes_eq x (codes "realtime") ≡ b → value_of_name t env store x ≡ value_of_name c env store x
  named true x h e = absurd (true≢false h)
  named false x h e = rw e refl

  mutual
    pub value_same : (e : Expression) → expression_is_timeless e ≡ true → value t env store e ≡ value c env store e
    value_same (Literal n) h = refl
    value_same (Letter n) h = refl
    value_same (Use (Plain x)) h = named (bytes_eq x (codes "realtime")) x (not_true (bytes_eq x (codes "realtime")) h) refl
    value_same (Use (Part d x)) h = ap (λ o. and_then o (λ p. Gives (read store p))) (place_same (Part d x) h)
    value_same (Use (At d e)) h = ap (λ o. and_then o (λ p. Gives (read store p))) (place_same (At d e) h)
    value_same (Call d es) h = ap (λ o. and_then o (λ v. standard_function (name_of d) v)) (first_same es (both (designator_is_timeless d) (expressions_are_timeless es) h).1)
    value_same (Not e) h = ap (λ o. and_then o (λ v. Gives (truth_value (same_integer (ordinal_of v) (pos 0))))) (value_same e h)
    value_same (Negative e) h = ap (λ o. and_then o (λ v. integer_result (neg_ℤ (ordinal_of v)))) (value_same e h)
    value_same (Positive e) h = value_same e h
    value_same (Binary o a b) h =
        let e = both (expression_is_timeless a) (expression_is_timeless b) h in
        let x = value_same a e.0 in
        let y = value_same b e.1 in
        λ i. and_then (x i) (λ v. and_then (y i) (λ w. apply_operator o v w))
    value_same (Known b n) h = refl

    pub place_same : (d : Designator) → designator_is_timeless d ≡ true → place t env store d ≡ place c env store d
    place_same (Plain x) h = refl
    place_same (Part d x) h = ap (λ o. and_then o (λ p. Gives (field_place x p))) (place_same d h)
    place_same (At d e) h =
        let b = both (designator_is_timeless d) (expression_is_timeless e) h in
        let x = place_same d b.0 in
        let y = value_same e b.1 in
        λ i. and_then (x i) (λ p. and_then (y i) (λ v. indexed_place p (ordinal_of v)))

    pub first_same : (es : Expressions) → expressions_are_timeless es ≡ true → first_argument t env store es ≡ first_argument c env store es
    first_same NoExpression h = refl
    first_same (MoreExpressions e es) h = value_same e (both (expression_is_timeless e) (expressions_are_timeless es) h).0

  use_place : (d : Designator) → use_is_timeless d ≡ true → designator_is_timeless d ≡ true
  use_place (Plain x) h = refl
  use_place (Part d x) h = h
  use_place (At d e) h = h

  place_of : (e : Expression) → expression_is_timeless e ≡ true → designator_is_timeless (designator_of e) ≡ true
  place_of (Use d) h = use_place d h
  place_of (Literal n) h = refl
  place_of (Letter n) h = refl
  place_of (Call d es) h = refl
  place_of (Not e) h = refl
  place_of (Negative e) h = refl
  place_of (Positive e) h = refl
  place_of (Binary o a b) h = refl
  place_of (Known b n) h = refl

  pub designated_same : (e : Expression) → expression_is_timeless e ≡ true → place t env store (designator_of e) ≡ place c env store (designator_of e)
  designated_same e h = place_same (designator_of e) (place_of e h)

  -- ---- Arguments

  argument_same : (l : Location) (v : Variable) (e : Expression) → expression_is_timeless e ≡ true → argument_writes t env store l v e ≡ argument_writes c env store l v e
  argument_same l v e h =
      if_same v.by_reference _ _ _ _ (ap (reference_writes l) (designated_same e h)) (ap (λ o. and_then o (writes_of l v.type)) (value_same e h))

  init_argument_same : (to : Sort) (l : Location) (v : Variable) (e : Expression) → expression_is_timeless e ≡ true
      → init_argument_writes to t env store l v.type e ≡ init_argument_writes to c env store l v.type e
  init_argument_same to l v e h = by v.type
    where
      by : (x : ResolvedType) → init_argument_writes to t env store l x e ≡ init_argument_writes to c env store l x e
      by (ComponentOf s inner) = refl
      by (Simple b low high start) = ap (λ o. and_then o (writes_of l (Simple b low high start))) (value_same e h)
      by (ArrayOf low high x) = ap (λ o. and_then o (writes_of l (ArrayOf low high x))) (value_same e h)
      by (RecordOf ps) = ap (λ o. and_then o (writes_of l (RecordOf ps))) (value_same e h)
      by Queue = ap (λ o. and_then o (writes_of l Queue)) (value_same e h)
      by NoType = ap (λ o. and_then o (writes_of l NoType)) (value_same e h)

bind_same : (f g : Location → Variable → Expression → Outcome Writes) → ((l : Location) (v : Variable) (e : Expression) → expression_is_timeless e ≡ true → f l v e ≡ g l v e)
    → (at : Location) (ps : List (Name × Variable)) (es : Expressions) → expressions_are_timeless es ≡ true → bind f at ps es ≡ bind g at ps es
bind_same f g h at [] es k = refl
bind_same f g h at (p ∷ ps) NoExpression k = refl
bind_same f g h at (p ∷ ps) (MoreExpressions e es) k =
    let b = both (expression_is_timeless e) (expressions_are_timeless es) k in
    let x = h (under at (ByName p.0 ∷ [])) p.1 e b.0 in
    let y = bind_same f g h at ps es b.1 in
    λ i. and_then (x i) (λ ws. and_then (y i) (λ more. Gives (ws ++ more)))

-- ---- Steps

module _ (w : Context) (t : Clock) (config : Configuration) where
  abbrev later : Context
  later = record w { clock = t }

  target_same : (env : Environment) (o : Option Component) → target later config.store env o ≡ target w config.store env o
  target_same env None = refl
  target_same env (Some n) = by n.system.sort
    where
      by : (x : Sort) → component_target later env config.store x n ≡ component_target w env config.store x n
      by Class = refl
      by Monitor = refl
      by Process = refl

  call_same : (u : UserCall) (k : List Task) → expressions_are_timeless u.arguments ≡ true → call later config u k ≡ call w config u k
  call_same u k h =
      ap (λ (g : Target). if g.is_callable then and_then (bind (argument_writes t u.environment config.store) (record { owner = OfActivation w.process (depth k); path = [] }) (declarations u.environment.globals u.callee.routine.parameters) u.arguments)
      (λ ws. Gives (called_configuration config u k g (OfActivation w.process (depth k)) ws)) else Fault 6) (target_same u.environment u.callee.of)
      ∙ ap (λ o. if (target w config.store u.environment u.callee.of).is_callable then and_then o
      (λ ws. Gives (called_configuration config u k (target w config.store u.environment u.callee.of) (OfActivation w.process (depth k)) ws)) else Fault 6)
      (bind_same _ _ (λ l v e m. argument_same t w.clock u.environment config.store l v e m) (record { owner = OfActivation w.process (depth k); path = [] })
      (declarations u.environment.globals u.callee.routine.parameters) u.arguments h)

  arguments_same : (env : Environment) (es : Expressions) (n : Component) (at : Location) → expressions_are_timeless es ≡ true
      → init_arguments later config env es n at ≡ init_arguments w config env es n at
  arguments_same env es n at h =
      bind_same _ _ (λ l v e m. init_argument_same t w.clock env config.store n.system.sort l v e m) at (declarations env.globals n.system.parameters) es h

  init_same : (x : Sort) (env : Environment) (k : List Task) (es : Expressions) (n : Component) → expressions_are_timeless es ≡ true
      → init_component x later config env k es n ≡ init_component x w config env k es n
  init_same Class env k es n h =
      if_same (is_initialised (config.store (class_location env config.store n))) _ _ _ _ refl
      (ap (λ o. and_then o (λ ws. own_step (record config { store = put (class_location env config.store n) (Initialised true) (put_all ws config.store); continuation = push n.system.body (body_environment env n.system (class_location env config.store n)) (EndBody None ∷ k) })))
      (arguments_same env es n (class_location env config.store n) h))
  init_same Monitor env k es n h =
      if_same (w.is_set (monitor_number env config.store n)) _ _ _ _ refl
      (then_same _ _ _ _ (arguments_same env es n (monitor_location (monitor_number env config.store n)) h) (λ ws. refl))
  init_same Process env k es n h =
      if_same (w.is_started (process_number env n)) _ _ _ _ refl
      (then_same _ _ _ _ (arguments_same env es n (process_location (process_number env n)) h) (λ ws. refl))

  at_place : {A : Type 0} (env : Environment) (d : Designator) (f g : Place → Outcome A) → designator_is_timeless d ≡ true → ((p : Place) → f p ≡ g p)
      → and_then (place t env config.store d) f ≡ and_then (place w.clock env config.store d) g
  at_place env d f g h k = then_same (place t env config.store d) (place w.clock env config.store d) f g (place_same t w.clock env config.store d h) k

  at_value : {A : Type 0} (env : Environment) (e : Expression) (f g : TypedValue → Outcome A) → expression_is_timeless e ≡ true → ((v : TypedValue) → f v ≡ g v)
      → and_then (value t env config.store e) f ≡ and_then (value w.clock env config.store e) g
  at_value env e f g h k = then_same (value t env config.store e) (value w.clock env config.store e) f g (value_same t w.clock env config.store e h) k

  at_designated : {A : Type 0} (env : Environment) (e : Expression) (f g : Place → Outcome A) → expression_is_timeless e ≡ true → ((p : Place) → f p ≡ g p)
      → and_then (place t env config.store (designator_of e)) f ≡ and_then (place w.clock env config.store (designator_of e)) g
  at_designated env e f g h k = then_same _ _ f g (designated_same t w.clock env config.store e h) k

  standard_same : (env : Environment) (k : List Task) (x : Name) (e : Expression) → expression_is_timeless e ≡ true
      → standard_procedure later config env k x e ≡ standard_procedure w config env k x e
  standard_same env k x e h =
      if_same (bytes_eq x (codes "display")) _ _ _ _ (at_value env e _ _ h (λ v. refl))
      (if_same (bytes_eq x (codes "accept")) _ _ _ _ (at_designated env e _ _ h (λ p. refl))
      (if_same (bytes_eq x (codes "delay")) _ _ _ _ (at_designated env e _ _ h (λ p. refl)) (at_designated env e _ _ h (λ p. refl))))

  for_same : (env : Environment) (k : List Task) (v : Name) (down : Bool) (n last : ℤ) (x : Statement)
      → for_step later config env k v down n last x ≡ for_step w config env k v down n last x
  for_same env k v down n last x = refl

  execute_same : (x : Statement) (env : Environment) (k : List Task) → Calm env x → execute later config env k x ≡ execute w config env k x
  execute_same Nothing env k h = refl
  execute_same (Seq a b) env k h = refl
  execute_same (While e s) env k h = refl
  execute_same (Repeat s e) env k h = refl
  execute_same (Cycle s) env k h = refl
  execute_same (Assign d e) env k h = at_place env d _ _ h.0 (λ p. at_value env e _ _ h.1 (λ v. refl))
  execute_same (Perform d NoExpression) env k h = refl
  execute_same (Perform d (MoreExpressions e es)) env k h = standard_same env k (name_of d) e (both (expression_is_timeless e) (expressions_are_timeless es) h.0).0
  execute_same (If e a b) env k h = at_value env e _ _ h.0 (λ v. refl)
  execute_same (Case e arms) env k h = at_value env e _ _ h.0 (λ v. refl)
  execute_same (For v down a b s) env k h =
      at_value env a _ _ h.0 (λ y. at_value env b _ _ h.1 (λ z. refl))
  execute_same (Init x es) env k h = by (component_named env x)
    where
      by : (o : Option Component)
          → (elim o as (λ y. StepResult) [ None ↦ own_step (record config { continuation = k }) | Some n ↦ init_component n.system.sort later config env k es n ])
          ≡ (elim o as (λ y. StepResult) [ None ↦ own_step (record config { continuation = k }) | Some n ↦ init_component n.system.sort w config env k es n ])
      by None = refl
      by (Some n) = init_same n.system.sort env k es n h

  run_same : (i : Task) (k : List Task) → TaskCalm i → run_task later config i k ≡ run_task w config i k
  run_same (Do x env) k h = execute_same x env k h
  run_same (WhileTest now e s env) k h = at_value env now _ _ h.0 (λ v. refl)
  run_same (RepeatTest now s e env) k h = at_value env now _ _ h.0 (λ v. refl)
  run_same (ForNext v down n last s env) k h = if_same (same_integer n last) _ _ _ _ refl (for_same env k v down (next_counter down n) last s)
  run_same (EndCall env gate) k h = refl
  run_same (EndBody gate) k h = refl
  run_same EndProcess k h = refl

-- ---- The next action

abbrev pub ActionCalm : Action → Type 0
ActionCalm Rests = Unit {0}
ActionCalm (Calls u k) = (expressions_are_timeless u.arguments ≡ true) × AllCalm k
ActionCalm (Acts i k) = TaskCalm i × AllCalm k

pub action_calm : (k : List Task) → AllCalm k → ActionCalm (action k)
action_calm [] h = tt
action_calm (i ∷ k) h = by (call_in_task (Literal 0) i) (task_calm (Literal 0) refl i h.0)
  where
    in_perform : (d : Designator) (es : Expressions) (env : Environment) → expressions_are_timeless es ≡ true → TaskCalm (Do (Perform d es) env)
        → ActionCalm (elim (procedure_call (Do (Perform d es) env)) as (λ x. Action) [ Some u ↦ Calls u k | None ↦ Acts (Do (Perform d es) env) k ])
    in_perform d es env e c = on (callee env d)
      where
        on : (o : Option Callee)
            → ActionCalm (elim (elim o as (λ x. Option UserCall) [ None ↦ None | Some z ↦ Some (record { callee = z; arguments = es; environment = env }) ]) as (λ x. Action) [ Some u ↦ Calls u k | None ↦ Acts (Do (Perform d es) env) k ])
        on None = (c, h.1)
        on (Some z) = (e, h.1)

    procedure : (i : Task) → TaskCalm i → ActionCalm (elim (procedure_call i) as (λ x. Action) [ Some u ↦ Calls u k | None ↦ Acts i k ])
    procedure (Do (Perform d es) env) c = in_perform d es env c.0 c
    procedure (Do Nothing env) c = (c, h.1)
    procedure (Do (Seq a b) env) c = (c, h.1)
    procedure (Do (Assign d e) env) c = (c, h.1)
    procedure (Do (If e a b) env) c = (c, h.1)
    procedure (Do (Case e arms) env) c = (c, h.1)
    procedure (Do (While e s) env) c = (c, h.1)
    procedure (Do (Repeat s e) env) c = (c, h.1)
    procedure (Do (For v down a b s) env) c = (c, h.1)
    procedure (Do (Cycle s) env) c = (c, h.1)
    procedure (Do (Init x es) env) c = (c, h.1)
    procedure (WhileTest now e s env) c = (c, h.1)
    procedure (RepeatTest now s e env) c = (c, h.1)
    procedure (ForNext v down n last s env) c = (c, h.1)
    procedure (EndCall env gate) c = (c, h.1)
    procedure (EndBody gate) c = (c, h.1)
    procedure EndProcess c = (c, h.1)

    by : (o : Found Task) → FoundCalm TaskCalm o
        → ActionCalm (elim o as (λ x. Action) [ Some f ↦ Calls f.0 (i ∷ k) | None ↦ elim (procedure_call i) as (λ x. Action) [ Some u ↦ Calls u k | None ↦ Acts i k ] ])
    by None f = procedure i h.0
    by (Some x) f = (f.0, h)

pub step_same : (w : Context) (t : Clock) (config : Configuration) → AllCalm config.continuation → step_of (record w { clock = t }) config ≡ step_of w config
step_same w t config h = by (action config.continuation) (action_calm config.continuation h)
  where
    by : (a : Action) → ActionCalm a → take_action (record w { clock = t }) config a ≡ take_action w config a
    by Rests c = refl
    by (Calls u k) c = call_same w t config u k c.0
    by (Acts i k) c = run_same w t config i k c.0
