-- A step keeps the tasks, the rights and the end marks in order, and its effect fits: by what the
-- process does next, a call, or the first of its tasks.
use Rattle.std.proofs.Common.{◌≡◌, ℕ, ℤ, List, [], ◌∷◌, Bool, true, false, Option, Some, None, refl, ap, sym, subst, ◌∙◌, arith}
use Rattle.std.specs.Prelude.{if◌then◌else◌}
use Rattle.cp_model.proofs.Options.{same_some}
use Rattle.cp_model.specs.Abstract.{Integer, Arms, Assign, Case, Cycle, For, If, Init, Literal, MoreArms, Name, NoArm, Nothing, Perform, Plain, Repeat, Seq, Statement, While}
use Rattle.cp_model.specs.Stores.{put_all}
use Rattle.cp_model.specs.Environments.{Environment, Frame}
use Rattle.cp_model.specs.Places.{ordinal_of, simple_value}
use Rattle.cp_model.specs.Outcomes.{Fault, and_then}
use Rattle.cp_model.specs.Expressions.{place, value}
use Rattle.cp_model.specs.Continuations.{Do, EndBody, EndCall, EndProcess, ForNext, RepeatTest, Task, WhileTest, marked_monitors, push}
use Rattle.cp_model.specs.Components.{Component, component_named}
use Rattle.cp_model.specs.Calls.{Callee, Found, UserCall, call_in_task, callee, procedure_call}
use Rattle.cp_model.specs.Actions.{Action, Acts, Calls, Rests, action}
use Rattle.cp_model.specs.Configurations.{Configuration, Context, Own, StepResult, own_step}
use Rattle.cp_model.specs.Integers.{same_integer}
use Rattle.cp_model.specs.Assignments.{writes_of}
use Rattle.cp_model.specs.CallSteps.{leaving, returns}
use Rattle.cp_model.specs.Initialisation.{init_component}
use Rattle.cp_model.specs.StatementSteps.{chosen_arm, execute, for_step, has_label, is_past, is_true, next_counter}
use Rattle.cp_model.specs.Step.{run_task, step_of, take_action}
use Rattle.cp_model.proofs.ExpressionReach.{IfGives, then_gives}
use Rattle.cp_law_gates.specs.Hierarchy.{Descends}
use Rattle.cp_law_gates.specs.InOrder.{AllFit, ArmsKeep, CallEndsNext, Fits, FrameFits, InitOf, Keeps, OwnerFits, World}
use Rattle.cp_law_gates.proofs.Lists.{descends_rest}
use Rattle.cp_law_gates.proofs.Found.{FoundIs, IsCallable, callee_is, do_is, repeat_is, while_is}
use Rattle.cp_law_gates.proofs.Stepping.{IsBefore}
use Rattle.cp_law_gates.proofs.Stepping.{StepFits, either, proceeds, pushed, stays, then_fits, then_writes}
use Rattle.cp_law_gates.proofs.QueueSteps.{Returned, returned, standard}
use Rattle.cp_law_gates.proofs.CallSteps.{call_step}
use Rattle.cp_law_gates.proofs.InitSteps.{init_step}

module _ (w : World) (c : Context) (config : Configuration) (S : IsBefore w c config) where
  -- ---- Statements and tasks

  pub for_fits : (env : Environment) (k : List Task) (v : Name) (down : Bool) (n last : ℤ) (x : Statement) → Fits w env k → Keeps w env x → AllFit w k → marked_monitors k ≡ marked_monitors config.continuation
      → IfGives (StepFits w c config S) (for_step c config env k v down n last x)
  for_fits env k v down n last x F h o e =
      then_fits w c config S (place c.clock env config.store (Plain v)) (λ at. and_then (writes_of at.at at.type (simple_value Integer n)) (λ ws. own_step (record config { store = put_all ws config.store; continuation = push x env (ForNext v down n last x env ∷ k) })))
      (λ at. then_writes w c config S at.at at.type (simple_value Integer n) (λ ws. own_step (record config { store = put_all ws config.store; continuation = push x env (ForNext v down n last x env ∷ k) })) (λ ws t. pushed w c config S x env (ForNext v down n last x env ∷ k) config.transcript config.consumed ws t (record { here = F.here; owner = F.owner; frame = later env.frame F.frame }) h ((F, h), o) e))
    where
      later : (f : Option Frame) → FrameFits f k → FrameFits f (ForNext v down n last x env ∷ k)
      later None z = tt
      later (Some f) z = z

  pub arm_keeps : (env : Environment) (n : ℤ) (as' : Arms) (x : Statement) → ArmsKeep w env as' → chosen_arm env.globals n as' ≡ Some x → Keeps w env x
  arm_keeps env n NoArm x h e = absurd (grind arith)
  arm_keeps env n (MoreArms ls s rest) x h e = by (has_label env.globals n ls) e (arm_keeps env n rest x h.1)
    where
      by : (b : Bool) → (if b then Some s else chosen_arm env.globals n rest) ≡ Some x → (chosen_arm env.globals n rest ≡ Some x → Keeps w env x) → Keeps w env x
      by true y more = subst (Keeps w env) (same_some s x y) h.0
      by false y more = more y

  pub execute_fits : (x : Statement) (env : Environment) (k : List Task) → Fits w env k → Keeps w env x → AllFit w k → marked_monitors k ≡ marked_monitors config.continuation → procedure_call (Do x env) ≡ None → IfGives (StepFits w c config S) (execute c config env k x)
  execute_fits Nothing env k F h o e p = proceeds w c config S k config.transcript config.consumed [] tt o e
  execute_fits (Seq a b) env k F h o e p = proceeds w c config S k config.transcript config.consumed [] tt o e
  execute_fits (While t s) env k F h o e p = proceeds w c config S k config.transcript config.consumed [] tt o e
  execute_fits (Repeat s t) env k F h o e p = proceeds w c config S k config.transcript config.consumed [] tt o e
  execute_fits (Cycle s) env k F h o e p = pushed w c config S s env (Do (Cycle s) env ∷ k) config.transcript config.consumed [] tt (record { here = F.here; owner = F.owner; frame = later env.frame F.frame }) h ((F, h), o) e
    where
      later : (f : Option Frame) → FrameFits f k → FrameFits f (Do (Cycle s) env ∷ k)
      later None z = tt
      later (Some f) z = z
  execute_fits (Assign d t) env k F h o e p =
      then_fits w c config S (place c.clock env config.store d) _ (λ at. then_fits w c config S (value c.clock env config.store t) _ (λ v. then_writes w c config S at.at at.type v _ (λ ws z. proceeds w c config S k config.transcript config.consumed ws z o e)))
  execute_fits (Perform d es) env k F h o e p = standard w c config S env k d es F o e (h (no_callee (callee env d) p))
    where
      no_callee : (f : Option Callee) → (elim f as (λ x. Option UserCall) [ None ↦ None | Some z ↦ Some (record { callee = z; arguments = es; environment = env }) ]) ≡ None → f ≡ None
      no_callee None y = refl
      no_callee (Some z) y = absurd (grind arith)
  execute_fits (If t a b) env k F h o e p = then_fits w c config S (value c.clock env config.store t) _ (λ v. by (is_true v))
    where
      by : (z : Bool) → StepFits w c config S (record config { continuation = if z then push a env k else push b env k }, Own)
      by true = pushed w c config S a env k config.transcript config.consumed [] tt F h.0 o e
      by false = pushed w c config S b env k config.transcript config.consumed [] tt F h.1 o e
  execute_fits (Case t as') env k F h o e p = then_fits w c config S (value c.clock env config.store t) _ (λ v. by (chosen_arm env.globals (ordinal_of v) as') (λ x y. arm_keeps env (ordinal_of v) as' x h y))
    where
      by : (z : Option Statement) → ((x : Statement) → z ≡ Some x → Keeps w env x) → IfGives (StepFits w c config S) (elim z as (λ y. StepResult) [ None ↦ Fault 8 | Some x ↦ own_step (record config { continuation = push x env k }) ])
      by None y = tt
      by (Some x) y = pushed w c config S x env k config.transcript config.consumed [] tt F (y x refl) o e
  execute_fits (For v down a b s) env k F h o e p =
      then_fits w c config S (value c.clock env config.store a) _ (λ y. then_fits w c config S (value c.clock env config.store b) _ (λ z.
      either w c config S (is_past down (ordinal_of y) (ordinal_of z)) _ _ (λ q. proceeds w c config S k config.transcript config.consumed [] tt o e) (λ q. for_fits env k v down (ordinal_of y) (ordinal_of z) s F h o e)))
  execute_fits (Init x es) env k F h o e p = by (component_named env x) refl h.1
    where
      by : (z : Option Component) → component_named env x ≡ z → InitOf w env z es
          → IfGives (StepFits w c config S) (elim z as (λ y. StepResult) [ None ↦ own_step (record config { continuation = k }) | Some n ↦ init_component n.system.sort c config env k es n ])
      by None y q = proceeds w c config S k config.transcript config.consumed [] tt o e
      by (Some n) y q = init_step w c config S n.system.sort env k x n es refl F o e y q.0 q.1

  pub run_fits : (i : Task) (k : List Task) → AllFit w (i ∷ k) → marked_monitors (i ∷ k) ≡ marked_monitors config.continuation → procedure_call i ≡ None → IfGives (StepFits w c config S) (run_task c config i k)
  run_fits (Do x env) k o e p = execute_fits x env k o.0.0 o.0.1 o.1 e p
  run_fits (WhileTest now t x env) k o e p = then_fits w c config S (value c.clock env config.store now) _ (λ v. by (is_true v))
    where
      later : (f : Option Frame) → FrameFits f k → FrameFits f (WhileTest t t x env ∷ k)
      later None z = tt
      later (Some f) z = z

      by : (b : Bool) → StepFits w c config S (record config { continuation = if b then push x env (WhileTest t t x env ∷ k) else k }, Own)
      by true = pushed w c config S x env (WhileTest t t x env ∷ k) config.transcript config.consumed [] tt (record { here = o.0.0.here; owner = o.0.0.owner; frame = later env.frame o.0.0.frame }) o.0.1 (o.0, o.1) e
      by false = proceeds w c config S k config.transcript config.consumed [] tt o.1 e
  run_fits (RepeatTest now x t env) k o e p = then_fits w c config S (value c.clock env config.store now) _ (λ v. by (is_true v))
    where
      later : (f : Option Frame) → FrameFits f k → FrameFits f (RepeatTest t x t env ∷ k)
      later None z = tt
      later (Some f) z = z

      by : (b : Bool) → StepFits w c config S (record config { continuation = if b then k else push x env (RepeatTest t x t env ∷ k) }, Own)
      by true = proceeds w c config S k config.transcript config.consumed [] tt o.1 e
      by false = pushed w c config S x env (RepeatTest t x t env ∷ k) config.transcript config.consumed [] tt (record { here = o.0.0.here; owner = o.0.0.owner; frame = later env.frame o.0.0.frame }) o.0.1 (o.0, o.1) e
  run_fits (ForNext v down n last x env) k o e p =
      either w c config S (same_integer n last) _ _ (λ q. proceeds w c config S k config.transcript config.consumed [] tt o.1 e) (λ q. for_fits env k v down (next_counter down n) last x o.0.0 o.0.1 o.1 e)
  run_fits (EndCall env gate) k o e p =
      then_gives (Returned w c config S k config.store) (StepFits w c config S) (returns config env k) _ (returned w c config S config env k o.0 o.1 S.rights) (λ after z. by gate e after z)
    where
      by : (g : Option ℕ) → marked_monitors (EndCall env g ∷ k) ≡ marked_monitors config.continuation → (after : Configuration) → Returned w c config S k config.store after → StepFits w c config S (after, leaving g)
      by None e after z = record { rights = z.rights; fits = z.fits; descends = subst (Descends w.place) (sym (z.marks_are ∙ e)) S.descends; effect = (z.marks_are ∙ e, z.queues); starts = tt }
      by (Some m) e after z = record {
        rights = z.rights;
        fits = z.fits;
        descends = subst (Descends w.place) (sym z.marks_are) (descends_rest w.place m (marked_monitors k) (subst (Descends w.place) (sym e) S.descends));
        effect = (sym e ∙ ap (λ ms. m ∷ ms) (sym z.marks_are), z.queues);
        starts = tt;
      }
  run_fits (EndBody gate) k o e p = by gate e
    where
      by : (g : Option ℕ) → marked_monitors (EndBody g ∷ k) ≡ marked_monitors config.continuation → StepFits w c config S (record config { continuation = k }, leaving g)
      by None e = record { rights = S.rights; fits = o.1; descends = subst (Descends w.place) (sym e) S.descends; effect = (e, (λ l r x. x)); starts = tt }
      by (Some m) e = record {
        rights = S.rights;
        fits = o.1;
        descends = descends_rest w.place m (marked_monitors k) (subst (Descends w.place) (sym e) S.descends);
        effect = (sym e, (λ l r x. x));
        starts = tt;
      }
  run_fits EndProcess k o e p = record { rights = S.rights; fits = o.1; descends = subst (Descends w.place) (sym e) S.descends; effect = (e, (λ l r x. x)); starts = tt }

  -- ---- The next action

  abbrev pub CallIs : List Task → UserCall → Type 0
  CallIs k u = Fits w u.environment k × IsCallable u.environment u.callee.routine u.callee.of

  pub over_fits : (i : Task) (env : Environment) (k : List Task) → marked_monitors (i ∷ k) ≡ marked_monitors k → (CallEndsNext k → CallEndsNext (i ∷ k)) → Fits w env k → Fits w env (i ∷ k)
  over_fits i env k e n F = record { here = F.here; owner = subst (OwnerFits env.component.owner) (sym e) F.owner; frame = later env.frame F.frame }
    where
      later : (f : Option Frame) → FrameFits f k → FrameFits f (i ∷ k)
      later None z = tt
      later (Some f) z = n z

  pub found_fits : (i : Task) (k : List Task) → AllFit w (i ∷ k) → FoundIs (CallIs (i ∷ k)) (call_in_task (Literal 0) i)
  found_fits (Do x env) k o = do_is (CallIs (Do x env ∷ k)) env (Literal 0) (λ d es f h. (over_fits (Do x env) env k refl (λ n. n) o.0.0, callee_is env d f h)) x
  found_fits (WhileTest now t x env) k o = while_is (CallIs (WhileTest now t x env ∷ k)) env (Literal 0) (λ d es f h. (over_fits (WhileTest now t x env) env k refl (λ n. n) o.0.0, callee_is env d f h)) now t x
  found_fits (RepeatTest now x t env) k o = repeat_is (CallIs (RepeatTest now x t env ∷ k)) env (Literal 0) (λ d es f h. (over_fits (RepeatTest now x t env) env k refl (λ n. n) o.0.0, callee_is env d f h)) now x t
  found_fits (ForNext v down n last x env) k o = tt
  found_fits (EndCall env gate) k o = tt
  found_fits (EndBody gate) k o = tt
  found_fits EndProcess k o = tt

  abbrev pub ActionFits : Action → Type 0
  ActionFits Rests = Unit {0}
  ActionFits (Calls u k) = CallIs k u × AllFit w k × (marked_monitors k ≡ marked_monitors config.continuation)
  ActionFits (Acts i k) = AllFit w (i ∷ k) × (marked_monitors (i ∷ k) ≡ marked_monitors config.continuation) × (procedure_call i ≡ None)

  pub action_fits : (k : List Task) → AllFit w k → marked_monitors k ≡ marked_monitors config.continuation → ActionFits (action k)
  action_fits [] o e = tt
  action_fits (i ∷ k) o e = by (call_in_task (Literal 0) i) (found_fits i k o)
    where
      in_do : (x : Statement) (env : Environment) → AllFit w (Do x env ∷ k) → marked_monitors k ≡ marked_monitors config.continuation → (u : UserCall) → procedure_call (Do x env) ≡ Some u → ActionFits (Calls u k)
      in_do (Perform d es) env o e u h = of (callee env d) refl h
        where
          of : (f : Option Callee) → callee env d ≡ f → (elim f as (λ x. Option UserCall) [ None ↦ None | Some z ↦ Some (record { callee = z; arguments = es; environment = env }) ]) ≡ Some u → ActionFits (Calls u k)
          of None y h = absurd (grind arith)
          of (Some z) y h = subst (λ q. ActionFits (Calls q k)) (same_some (record { callee = z; arguments = es; environment = env }) u h) ((o.0.0, callee_is env d z y), o.1, e)
      in_do Nothing env o e u h = absurd (grind arith)
      in_do (Seq a b) env o e u h = absurd (grind arith)
      in_do (Assign d t) env o e u h = absurd (grind arith)
      in_do (If t a b) env o e u h = absurd (grind arith)
      in_do (Case t as') env o e u h = absurd (grind arith)
      in_do (While t s) env o e u h = absurd (grind arith)
      in_do (Repeat s t) env o e u h = absurd (grind arith)
      in_do (For v down a b s) env o e u h = absurd (grind arith)
      in_do (Cycle s) env o e u h = absurd (grind arith)
      in_do (Init x es) env o e u h = absurd (grind arith)

      procedure : (i : Task) → AllFit w (i ∷ k) → marked_monitors (i ∷ k) ≡ marked_monitors config.continuation → (u : UserCall) → procedure_call i ≡ Some u → ActionFits (Calls u k)
      procedure (Do x env) o e u h = in_do x env o e u h
      procedure (WhileTest now t x env) o e u h = absurd (grind arith)
      procedure (RepeatTest now x t env) o e u h = absurd (grind arith)
      procedure (ForNext v down n last x env) o e u h = absurd (grind arith)
      procedure (EndCall env gate) o e u h = absurd (grind arith)
      procedure (EndBody gate) o e u h = absurd (grind arith)
      procedure EndProcess o e u h = absurd (grind arith)

      by_procedure : (u : Option UserCall) → procedure_call i ≡ u → ActionFits (elim u as (λ x. Action) [ Some u ↦ Calls u k | None ↦ Acts i k ])
      by_procedure None h = (o, e, h)
      by_procedure (Some u) h = procedure i o e u h

      by : (f : Found Task) → FoundIs (CallIs (i ∷ k)) f
          → ActionFits (elim f as (λ x. Action) [ Some f ↦ Calls f.0 (i ∷ k) | None ↦ elim (procedure_call i) as (λ x. Action) [ Some u ↦ Calls u k | None ↦ Acts i k ] ])
      by None h = by_procedure (procedure_call i) refl
      by (Some f) h = (h, o, e)

  -- S.fits step keeps all in order.
  pub step_fits : IfGives (StepFits w c config S) (step_of c config)
  step_fits = by (action config.continuation) (action_fits config.continuation S.fits refl)
    where
      by : (a : Action) → ActionFits a → IfGives (StepFits w c config S) (take_action c config a)
      by Rests h = stays w c config S
      by (Calls u k) h = call_step w c config S u k h.0.0 h.1 h.2 h.0.1
      by (Acts i k) h = run_fits i k h.0 h.1 h.2
