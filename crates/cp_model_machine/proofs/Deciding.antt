-- The next private step is that of the meaning, for each kind of task and of operation.
--
-- Either the code has a call next, and the step is that of the call, or all calls are made: then
-- the next operation is the task's own, and the lemma on its kind of operation applies.
use Rattle.std.proofs.Common.{Bool, List, None, Option, Some, [], ap, false, refl, subst, sym, true, ℕ, ℤ, ◌∙◌, ◌∷◌, ◌≡◌}
use Rattle.std.specs.Prelude.{length, not, slice_get}
use Rattle.std.proofs.lemmas.Bool.{eq-eqb}
use Rattle.cp_model.specs.Abstract as a
use Rattle.cp_model.specs.Abstract.{Name}
use Rattle.cp_model.specs.Actions.{Acts, action}
use Rattle.cp_model.specs.Calls.{call_in_statement, in_context}
use Rattle.cp_model.specs.Components.{Component, same_sort}
use Rattle.cp_model.specs.Configurations as stage
use Rattle.cp_model.specs.Continuations.{Do, EndBody, EndCall, EndProcess, ForNext, RepeatTest, Task, WhileTest, marked_monitors}
use Rattle.cp_model.specs.Environments.{Environment, Frame}
use Rattle.cp_model.specs.Invariant.{EnvironmentIn, Invariant, TaskIn, TasksInReach}
use Rattle.cp_model.specs.Locations.{OfActivation, Owner}
use Rattle.cp_model.specs.Reach.{in_reach}
use Rattle.cp_model.specs.States.{State}
use Rattle.cp_model.specs.Turns.{after_step}
use Rattle.cp_model.proofs.StoreInvariants.{references_in_reach}
use Rattle.cp_model_program.specs.Programs as op
use Rattle.cp_model_program.specs.Programs.{Operation}
use Rattle.cp_model_program.specs.Layout.{local}
use Rattle.cp_model_program.specs.Sites.{operation_at}
use Rattle.cp_model_program.specs.IsProgramFor.{IsProgramFor, UnitRepresents}
use Rattle.cp_model_program.specs.TermsFor.{Knowns}
use Rattle.cp_model_program.specs.StatementsFor.{AssignsBy, InitsBy, PerformsBy}
use Rattle.cp_model_machine.specs.PrivateStates as machine
use Rattle.cp_model_machine.specs.PrivateStates.{StepContext, PrivateState}
use Rattle.cp_model_machine.specs.Steps.{act, is_kernel_operation, is_start_operation}
use Rattle.cp_model_machine.specs.Addresses.{Ground, activations, in_sight, scope}
use Rattle.cp_model_machine.specs.Remaining.{Remaining, Loop, Repeat, Running, Runs, While, held_below, innermost_gate, kept_below, site}
use Rattle.cp_model_machine.specs.PartOf.{PartOf, RunsOn}
use Rattle.cp_model_machine.proofs.AssignCalls.{StatementAdvances}
use Rattle.cp_model_machine.proofs.Assigning.{set_steps}
use Rattle.cp_model_machine.proofs.CallSteps.{UnitsRepresent, function_steps, procedure_steps}
use Rattle.cp_model_machine.proofs.Choosing.{case_steps}
use Rattle.cp_model_machine.proofs.ContinueSteps.{continue_steps}
use Rattle.cp_model_machine.proofs.CopySteps.{copy_steps}
use Rattle.cp_model_machine.proofs.Counting.{for_next_steps, for_steps}
use Rattle.cp_model_machine.proofs.Declared.{no_local_result}
use Rattle.cp_model_machine.proofs.Declares.{Declares, runs_declares}
use Rattle.cp_model_machine.proofs.Delaying.{delay_in_monitor}
use Rattle.cp_model_machine.proofs.Doing.{Ready, acts_itself, executed, known}
use Rattle.cp_model_machine.proofs.Ending.{body_ends, process_ends}
use Rattle.cp_model_machine.proofs.FirstCalls.{TermAdvances, term_next}
use Rattle.cp_model_machine.proofs.GatesHeld.{gate_is_held}
use Rattle.cp_model_machine.proofs.Heres.{Sees}
use Rattle.cp_model_machine.proofs.InitMonitors.{monitor_inits}
use Rattle.cp_model_machine.proofs.InitSteps.{init_steps}
use Rattle.cp_model_machine.proofs.RemainingKept.{held_within, left_kept}
use Rattle.cp_model_machine.proofs.Loops.{AtTest, left_at_test, loop_task, made_at_test, sees_at_test, test_left}
use Rattle.cp_model_machine.proofs.NextCalls.{AllMade, Calling}
use Rattle.cp_model_machine.proofs.ProcessRights.{no_class_rights}
use Rattle.cp_model_machine.proofs.ProcessSteps.{process_effect, process_inits}
use Rattle.cp_model_machine.proofs.ResultSteps.{result_steps}
use Rattle.cp_model_machine.proofs.Returning.{return_steps, text_is}
use Rattle.cp_model_machine.proofs.Standards.{By, accept_steps, delay_steps, display_steps, one, wait_steps}
use Rattle.cp_model_machine.proofs.StatementCalls.{own_place, statement_next}
use Rattle.cp_model_machine.proofs.Stepping.{Around, AroundAll, IfPlaced, Now, Stepped, kernel_step}
use Rattle.cp_model_machine.proofs.Testing.{cycle_steps, if_steps, loop_steps}
use Rattle.cp_model_program.specs.Terms.{PlaceExpression}
use Rattle.cp_model_machine.proofs.Effects.{EffectAgrees}
use Rattle.cp_model_machine.proofs.InitProcesses.{InitOfProcess}
use Rattle.cp_model_machine.proofs.Queues.{activations_none, queues_shared}

-- The end mark of a routine belongs to the environment that runs.
pub end_environment : (G : Ground) (temps : List ℤ) (limit : ℕ) (K : Knowns) (R : Running) (fs : List machine.Frame) (place low : ℕ) (env : Environment) (gate : Option ℕ) (k : List Task)
    → Remaining G temps limit K R fs place low (EndCall env gate ∷ k) → env ≡ R.env
end_environment G temps limit K R [] place low env gate k h = absurd h
end_environment G temps limit K R (f ∷ fs) place low env gate k h = h.0

abbrev SameSort : a.Sort → a.Sort → Type 0
SameSort a.Class a.Class = Unit {0}
SameSort a.Monitor a.Monitor = Unit {0}
SameSort a.Process a.Process = Unit {0}
SameSort _ _ = ⊥

other_sort : (z y : a.Sort) → z ≡ y → SameSort z z → SameSort z y
other_sort z y e h = subst (SameSort z) e h

-- What the process may reach in the meaning is among the words in reach.
abbrev pub Reaches : Ground → State → Type 0
Reaches G s = (o : Owner) → in_reach G.p (marked_monitors (s.continuation G.p)) o ≡ true → in_sight G o ≡ true

module _ (G : Ground) (s : State) (w : StepContext) (before : List ℕ) (o : PrivateState) (F : IsProgramFor G.program G.setup) (texts : F.texts ≡ G.texts) (part : PartOf G s before o) (I : Invariant s)
    (around : Around G s w) (reaches : Reaches G s) where
  pub units : UnitsRepresent G
  units = (
    F.typed.words,
    λ n u t unit text. subst (λ ts. UnitRepresents G.program ts (scope G) u t) texts (F.units n u t unit (ap (λ ts. slice_get ts n) texts ∙ text)),
  )

  pub now_of : (i : Task) (k : List Task) (R : RunsOn G s.store o (i ∷ k)) → s.continuation G.p ≡ i ∷ k → s.status G.p ≡ stage.Ready
      → IfPlaced i (Sees G (in_sight G) s.store R.running.env) → Now G s w before o i k
  now_of i k R left ready sees = record { part = part; on = R; left = left; ready = ready; around = around; sees = sees }

  -- No parameter or variable of a function has the function's name.
  names : (R : Running) → Runs G (length o.temps) o.limit R o.frames → (f : Frame) (t : Name) → R.env.frame ≡ Some f → f.routine.result ≡ Some t
      → local (scope G) f.routine f.routine.name ≡ None
  names R runs f t is result =
      let y = text_is R.text R.env.frame f is runs.frame in
      let represents = subst (UnitRepresents G.program G.texts (scope G) R.unit) y.1 (units.1 R.number R.unit R.text runs.unit runs.text) in
      no_local_result (scope G) y.0 f.routine t represents.2 result

  pub declares_here : (R : Running) → Runs G (length o.temps) o.limit R o.frames → Declares G R.env
  declares_here R runs = runs_declares G F texts (length o.temps) o.limit R o.frames runs

  -- ---- statements

  -- `delay` does nothing outside all monitors.
  delays : (x : Name) (env : Environment) (k : List Task) (d : a.Designator) (Y : Ready G s w before o (a.Perform (a.Plain x) (one (a.Use d))) env k) (queue : PlaceExpression) (n : ℕ)
      → By G s w before o x env k (one (a.Use d)) Y (op.Delay queue n) → Stepped G s w before o
  delays x env k d Y queue n h = by (marked_monitors k) refl
    where
      by : (ms : List ℕ) → marked_monitors k ≡ ms → Stepped G s w before o
      by [] e = delay_steps G s w before o x env k (ap marked_monitors Y.now.left ∙ e, Y.now.on.gate ∙ ap innermost_gate e) d Y queue n h
      by (m ∷ ms) e = delay_in_monitor G s w before o x env k m ms (gate_is_held G s.store o (Do (a.Perform (a.Plain x) (one (a.Use d))) env ∷ k) m ms Y.now.on e) e d Y queue n h
          (λ K. queues_shared G F.typed (activations o.base o.frames (Do (a.Perform (a.Plain x) (one (a.Use d))) env ∷ k))
          (activations_none G units o.temps o.limit o.base _ Y.now.on.running o.frames o.counter Y.now.on.running.unit.temps (Do (a.Perform (a.Plain x) (one (a.Use d))) env ∷ k) Y.now.on.runs Y.now.on.left))

  assigns : (d : a.Designator) (e : a.Expression) (env : Environment) (k : List Task) (Y : Ready G s w before o (a.Assign d e) env k) (x : Operation) → operation_at G.program o.counter ≡ Some x
      → AssignsBy (site G Y.now.on.running) (known G s w before o (Do (a.Assign d e) env) k Y.now) d e x o.counter Y.now.on.left.2.3.0 Y.now.on.left.2.0 Y.now.on.left.2.1
      → Stepped G s w before o
  assigns d e env k Y (op.Set to lower upper c n) there h = set_steps G s w before o d e env k Y to lower upper c n there h
  assigns (a.Plain x) e env k Y (op.SetResult lower upper c n) there h = result_steps G s w before o x e env k F Y lower upper c n there h
  assigns d (a.Use e) env k Y (op.CopyWords to from size n) there h = copy_steps G s w before o d e env k Y to from size n there h
  assigns d e env k Y _ there h = absurd h

  performs : (d : a.Designator) (es : a.Expressions) (env : Environment) (k : List Task) (Y : Ready G s w before o (a.Perform d es) env k) (x : Operation) → operation_at G.program o.counter ≡ Some x
      → PerformsBy (site G Y.now.on.running) (known G s w before o (Do (a.Perform d es) env) k Y.now) d es x o.counter Y.now.on.left.2.3.0 Y.now.on.left.2.0 Y.now.on.left.2.1
      → Stepped G s w before o
  performs d es env k Y (op.Procedure call n) there h = procedure_steps G s w before o d es env k I.store units Y call n there h (declares_here Y.now.on.running Y.now.on.runs)
  performs (a.Plain x) (a.MoreExpressions e a.NoExpression) env k Y (op.Display c as_byte n) there h = display_steps G s w before o x env k e Y c as_byte n (there, h)
  performs (a.Plain x) (a.MoreExpressions (a.Use d) a.NoExpression) env k Y (op.Accept to lower upper n) there h = accept_steps G s w before o x env k d Y to lower upper n (there, h)
  performs (a.Plain x) (a.MoreExpressions (a.Use d) a.NoExpression) env k Y (op.Delay queue n) there h = delays x env k d Y queue n (there, h)
  performs (a.Plain x) (a.MoreExpressions (a.Use d) a.NoExpression) env k Y (op.Continue queue function) there h = continue_steps G s w before o x env k d Y queue function (there, h) (names Y.now.on.running Y.now.on.runs)
  performs (a.Plain x) a.NoExpression env k Y (op.Wait n) there h = wait_steps G s w before o x env k Y n (there, h)
  performs d es env k Y _ there h = absurd h

  -- The `init` of a monitor or a process is a kernel step.
  inits_by_kernel : (x : Name) (es : a.Expressions) (env : Environment) (k : List Task) (Y : Ready G s w before o (a.Init x es) env k) (y : Operation) → operation_at G.program o.counter ≡ Some y
      → is_kernel_operation y ≡ true → (Y.now.on.left.2.3.2.system.sort ≡ a.Class → ⊥) → same_sort a.Process Y.now.on.left.2.3.2.system.sort ≡ is_start_operation y
      → (AroundAll G s w → PartOf G (after_step s G.p (executed G s w before o (a.Init x es) env k Y)) before (act G.program w o y).0)
      → (AroundAll G s w → EffectAgrees G w.own (executed G s w before o (a.Init x es) env k Y) (act G.program w o y).1)
      → Stepped G s w before o
  inits_by_kernel x es env k Y y there own no_class starts shown effect =
      kernel_step G s w before o (Do (a.Init x es) env) k Y.now (Acts (Do (a.Init x es) here) k) y
      (ap (λ e. action (Do (a.Init x es) e ∷ k)) Y.now.on.left.0 ∙ acts_itself (Do (a.Init x es) here) k (ap (in_context (λ z. Do z here)) Y.none) refl)
      (ap (λ (z : Option Component). not (elim z as (λ y. Bool) [ None ↦ true | Some c ↦ same_sort a.Class c.system.sort ])) Y.now.on.left.2.3.4 ∙ by Y.now.on.left.2.3.2.system.sort no_class)
      there own
      (ap (λ (z : Option Component). elim z as (λ y. Bool) [ None ↦ false | Some c ↦ same_sort a.Process c.system.sort ]) Y.now.on.left.2.3.4 ∙ starts)
      shown effect
    where
      here : Environment
      here = Y.now.on.running.env

      by : (z : a.Sort) → (z ≡ a.Class → ⊥) → not (same_sort a.Class z) ≡ true
      by a.Class h = absurd (h refl)
      by a.Monitor h = refl
      by a.Process h = refl

  inits : (x : Name) (es : a.Expressions) (env : Environment) (k : List Task) (Y : Ready G s w before o (a.Init x es) env k) (y : Operation) → operation_at G.program o.counter ≡ Some y
      → InitsBy (site G Y.now.on.running) (known G s w before o (Do (a.Init x es) env) k Y.now) Y.now.on.left.2.3.2 es y o.counter Y.now.on.left.2.3.0 Y.now.on.left.2.0 Y.now.on.left.2.1
      → Stepped G s w before o
  inits x es env k Y (op.InitClass call m) there h = init_steps G s w before o x es env k I.store units Y call m there h (no_class_rights G F.typed) (declares_here Y.now.on.running Y.now.on.runs)
  inits x es env k Y (op.InitMonitor call m) there h =
      inits_by_kernel x es env k Y (op.InitMonitor call m) there refl (λ e. other_sort a.Class a.Monitor (sym e ∙ h.0) tt)
      (ap (same_sort a.Process) h.0)
      (λ K. (opened K).0) (λ K. (opened K).1)
    where
      opened : (K : AroundAll G s w) → PartOf G (after_step s G.p (executed G s w before o (a.Init x es) env k Y)) before (act G.program w o (op.InitMonitor call m)).0
          × EffectAgrees G w.own (executed G s w before o (a.Init x es) env k Y) (act G.program w o (op.InitMonitor call m)).1
      opened K = monitor_inits G s w before o x es env k I.store units K Y call m h (no_class_rights G F.typed) (declares_here Y.now.on.running Y.now.on.runs)
  inits x es env k Y (op.InitProcess r xs count m) there h =
      inits_by_kernel x es env k Y (op.InitProcess r xs count m) there refl (λ e. other_sort a.Class a.Process (sym e ∙ h.0) tt)
      (ap (same_sort a.Process) h.0)
      (λ K. process_inits (starting K)) (λ K. process_effect (starting K))
    where
      starting : AroundAll G s w → InitOfProcess G s w before o
      starting K = record {
        represents = F;
        texts = texts;
        stored = I.store;
        around = K;
        name = x;
        given = es;
        env = env;
        rest = k;
        ready = Y;
        declares = declares_here Y.now.on.running Y.now.on.runs;
        number = r;
        passes = xs;
        words = count;
        next = m;
        by = h;
      }
  inits x es env k Y _ there h = absurd h

  statement_steps : (st : a.Statement) (env : Environment) (k : List Task) → Ready G s w before o st env k → Stepped G s w before o
  statement_steps (a.Assign d e) env k Y =
      assigns d e env k Y Y.now.on.left.2.3.1 (ap (operation_at G.program) Y.counter ∙ Y.now.on.left.2.3.2) Y.now.on.left.2.3.3
  statement_steps (a.Perform d es) env k Y =
      performs d es env k Y Y.now.on.left.2.3.1 (ap (operation_at G.program) Y.counter ∙ Y.now.on.left.2.3.2) Y.now.on.left.2.3.3
  statement_steps (a.If e t u) env k Y = if_steps G s w before o e t u env k Y
  statement_steps (a.Case e arms) env k Y = case_steps G s w before o e arms env k Y
  statement_steps (a.For x down e f st) env k Y = for_steps G s w before o x down e f st env k Y
  statement_steps (a.Cycle st) env k Y = cycle_steps G s w before o st env k Y
  statement_steps (a.Init x es) env k Y =
      inits x es env k Y Y.now.on.left.2.3.1 (ap (operation_at G.program) Y.counter ∙ Y.now.on.left.2.3.3) Y.now.on.left.2.3.5
  statement_steps a.Nothing env k Y = absurd Y.now.on.left.1
  statement_steps (a.Seq t u) env k Y = absurd Y.now.on.left.1
  statement_steps (a.While e st) env k Y = absurd Y.now.on.left.1
  statement_steps (a.Repeat st e) env k Y = absurd Y.now.on.left.1

  do_steps : (st : a.Statement) (env : Environment) (k : List Task) → Now G s w before o (Do st env) k → Stepped G s w before o
  do_steps st env k N =
      by (statement_next (site G N.on.running) (known G s w before o (Do st env) k N) st o.counter N.on.left.2.0 N.on.left.2.1 N.on.left.1 N.on.left.2.3)
    where
      by : StatementAdvances (site G N.on.running) (known G s w before o (Do st env) k N) st o.counter
          (own_place (site G N.on.running) (known G s w before o (Do st env) k N) st o.counter N.on.left.2.0 N.on.left.2.1 N.on.left.2.3) N.on.left.2.0 N.on.left.2.1
          → Stepped G s w before o
      by (AllMade p q r) = statement_steps st env k (record { now = N; counter = p; none = q (a.Literal 0) })
      by (Calling C) =
          function_steps G s w before o (Do st env) k N N.sees I.store units C.user C.temp C.after C.base C.ready (Do (C.fill (a.Literal 0)) env)
          (ap (λ e. in_context (λ y. Do y env) (call_in_statement e (a.Literal 0) st)) N.on.left.0 ∙ ap (in_context (λ y. Do y env)) (C.found (a.Literal 0)))
          (let h = N.on.left in
          left_kept G o.temps o.temps o.limit refl (known G s w before o (Do st env) k N) (kept_below C.ready.low N.on.live o.temps N.on.running.temp) N.on.running o.frames o.counter C.ready.low (Do st env ∷ k)
          (held_within o.temps N.on.running.temp C.ready.low N.on.live) (λ n q. refl) (h.0, h.1, (h.2.0, h.2.1, C.keeps, h.2.3, h.2.4))) (declares_here N.on.running N.on.runs)

  loop_does : (loop : Loop) (now e : a.Expression) (st : a.Statement) (env : Environment) (k : List Task) → Now G s w before o (loop_task loop now e st env) k → Stepped G s w before o
  loop_does loop now e st env k N =
      by (term_next (site G N.on.running) (known G s w before o task k N) now h.1.3.term h.1.3.base o.counter h.1.3.last h.1.1 N.on.running.unit.temps h.1.3.rest)
    where
      task : Task
      task = loop_task loop now e st env

      h : AtTest loop G o.temps o.limit (known G s w before o task k N) N.on.running o.frames o.counter N.on.running.unit.temps now e st env k
      h = test_left G o.temps o.limit (known G s w before o task k N) N.on.running o.frames o.counter N.on.running.unit.temps now e st env k loop N.on.left

      by : TermAdvances (site G N.on.running) (known G s w before o task k N) now h.1.3.term h.1.3.base o.counter h.1.3.last h.1.1 N.on.running.unit.temps → Stepped G s w before o
      by (AllMade p q r) = loop_steps G s w before o loop now e st env k N h p (q (a.Literal 0))
      by (Calling C) =
          function_steps G s w before o task k N (sees_at_test now e st env loop _ N.sees) I.store units C.user C.temp C.after C.base C.ready (loop_task loop (C.fill (a.Literal 0)) e st env)
          (made_at_test now e st env loop (a.Literal 0) N.on.running.env h.0 C.user (C.fill (a.Literal 0)) (C.found (a.Literal 0)))
          (left_kept G o.temps o.temps o.limit refl (known G s w before o task k N) (kept_below C.ready.low N.on.live o.temps N.on.running.temp) N.on.running o.frames o.counter C.ready.low (task ∷ k)
          (held_within o.temps N.on.running.temp C.ready.low N.on.live) (λ n q. refl)
          (left_at_test G o.temps o.limit (known G s w before o task k N) N.on.running o.frames o.counter C.ready.low now e st env k loop (h.0, (h.1.0, h.1.1, C.keeps, h.1.3, h.1.4))))
          (declares_here N.on.running N.on.runs)

  -- ---- tasks

  return_does : (env : Environment) (gate : Option ℕ) (k : List Task) → Now G s w before o (EndCall env gate) k → Stepped G s w before o
  return_does env gate k N =
      return_steps G s w before o env gate k N (λ f t is result. names N.on.running N.on.runs f t (ap (λ (y : Environment). y.frame) (sym here) ∙ is) result)
    where
      here : env ≡ N.on.running.env
      here = end_environment G o.temps o.limit (held_below N.on.live o.temps N.on.running.temp) N.on.running o.frames o.counter N.on.running.unit.temps env gate k N.on.left

  -- What the process may see in the environment of its task.
  pub sees_in : (R : Running) (env : Environment) (k : List Task) → env ≡ R.env → s.continuation G.p ≡ k → EnvironmentIn (in_reach G.p (marked_monitors k)) env → Sees G (in_sight G) s.store R.env
  sees_in R env k is left there = record {
    component =
        reaches R.env.component.owner
        (ap (λ z. in_reach G.p (marked_monitors z) R.env.component.owner) left
        ∙ (ap (λ (y : Environment). in_reach G.p (marked_monitors k) y.component.owner) (sym is) ∙ there.component));
    activations = λ d. reaches (OfActivation G.p d) (eq-eqb G.p G.p refl);
    references = λ l j d owner holds. reaches j.owner (references_in_reach s G.p d l j I owner holds);
  }

  -- Each kind of task of a ready process.
  pub ready_steps : (k : List Task) → s.continuation G.p ≡ k → s.status G.p ≡ stage.Ready → RunsOn G s.store o k → Stepped G s w before o
  ready_steps [] left ready R = absurd R.left
  ready_steps (i ∷ k) left ready R = by i R left ((subst (TasksInReach G.p) left (I.continuations G.p).tasks).0)
    where
      by : (i : Task) (R : RunsOn G s.store o (i ∷ k)) → s.continuation G.p ≡ i ∷ k → TaskIn (in_reach G.p (marked_monitors (i ∷ k))) i → Stepped G s w before o
      by (Do st env) R left there = do_steps st env k (now_of (Do st env) k R left ready (sees_in R.running env (Do st env ∷ k) R.left.0 left there))
      by (WhileTest now e st env) R left there = loop_does While now e st env k (now_of (WhileTest now e st env) k R left ready (sees_in R.running env (WhileTest now e st env ∷ k) R.left.0 left there))
      by (RepeatTest now st e env) R left there = loop_does Repeat now e st env k (now_of (RepeatTest now st e env) k R left ready (sees_in R.running env (RepeatTest now st e env ∷ k) R.left.0 left there))
      by (ForNext x down n last st env) R left there =
          for_next_steps G s w before o x down n last st env k (now_of (ForNext x down n last st env) k R left ready (sees_in R.running env (ForNext x down n last st env ∷ k) R.left.0 left there))
      by (EndCall env gate) R left there =
          return_does env gate k
          (now_of (EndCall env gate) k R left ready
          (sees_in R.running env (EndCall env gate ∷ k) (end_environment G o.temps o.limit (held_below R.live o.temps R.running.temp) R.running o.frames o.counter R.running.unit.temps env gate k R.left) left there))
      by (EndBody gate) R left there = body_ends G s w before o gate k (now_of (EndBody gate) k R left ready tt)
      by EndProcess R left there = process_ends G s w before o k (now_of EndProcess k R left ready tt)
