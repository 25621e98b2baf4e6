-- Each step changes no words but the process's own and those of monitors, or starts another
-- process.
--
-- This goes through all tasks and statements once more, as in `Deciding`, but looks only at where
-- each operation writes. Each place that is written is one where the meaning's variable is, and
-- what is passed is after the running activation.
use Rattle.std.proofs.Common.{◌≡◌, ℕ, ◌+◌, ℤ, List, [], ◌∷◌, Bool, true, false, Option, Some, None, refl, ap, subst, ◌∙◌, arith}
use Rattle.std.specs.Prelude.{if◌then◌else◌}
use Rattle.cp_model.specs.Integers.{same_integer}
use Rattle.cp_model.specs.StatementSteps.{next_counter}
use Rattle.cp_model_program.specs.Starts.{unset, word}
use Rattle.cp_model_program.specs.Tables.{place_in}
use Rattle.cp_model.specs.Abstract as a
use Rattle.cp_model.specs.Abstract.{Name}
use Rattle.cp_model.specs.Actions.{Acts, action}
use Rattle.cp_model.specs.Calls.{Callee, UserCall, call_in_statement, call_in_task, in_context}
use Rattle.cp_model.specs.Components.{Component, same_sort}
use Rattle.cp_model.specs.Configurations as stage
use Rattle.cp_model.specs.Continuations.{Do, EndBody, EndCall, EndProcess, ForNext, RepeatTest, Task, WhileTest, marked_monitors}
use Rattle.cp_model.specs.Environments.{Environment}
use Rattle.cp_model.specs.Invariant.{EnvironmentIn, Invariant, TaskIn, TasksInReach}
use Rattle.cp_model.specs.Reach.{in_reach}
use Rattle.cp_model.specs.declared.state.Fault.TheVariants as fault
use Rattle.cp_model.specs.States.{State}
use Rattle.cp_model_program.specs.Programs as op
use Rattle.cp_model_program.specs.Programs.{Call, Operation}
use Rattle.cp_model_program.specs.Layout.{activation_words, locals_words}
use Rattle.cp_model_program.specs.Sites.{RoutineOf, first_parameter, operation_at, parameters, system_of_callee}
use Rattle.cp_model.specs.Declarations.{declarations}
use Rattle.cp_model_program.specs.Sites as sites
use Rattle.cp_model_program.specs.IsProgramFor.{IsProgramFor, UnitRepresents}
use Rattle.cp_model_program.specs.StatementsFor.{AssignsBy, InitsBy, PerformsBy, is_function}
use Rattle.cp_model_program.specs.TermsFor.{ArgumentsFor, Knowns}
use Rattle.cp_model_machine.specs.PrivateStates as machine
use Rattle.cp_model_machine.specs.PrivateStates.{StepContext, PrivateState, fault_in, go_to, set_temp, private_outcome, view_of}
use Rattle.cp_model_machine.specs.Values.{value_of}
use Rattle.cp_model_machine.specs.Calling.{Back, call_step, gate_effect, leave, return_with, with_frame}
use Rattle.cp_model_machine.specs.Steps.{act, count_to, go_to_arm}
use Rattle.cp_model_machine.specs.Addresses.{Ground, in_sight, scope}
use Rattle.cp_model_machine.specs.Remaining.{Remaining, Loop, Repeat, Running, While, at_true, held_below, site}
use Rattle.cp_model_machine.proofs.Heres.{Sees}
use Rattle.cp_model_machine.specs.PartOf.{PartOf, RunsOn}
use Rattle.cp_model_machine.proofs.AssignCalls.{StatementAdvances}
use Rattle.cp_model_machine.proofs.Deciding.{Reaches, declares_here, end_environment, now_of, sees_in, units}
use Rattle.cp_model_machine.proofs.Doing.{Ready, acts_itself, known}
use Rattle.cp_model_machine.proofs.InitProcesses.{InitOfProcess, here}
use Rattle.cp_model_machine.proofs.FirstCalls.{TermAdvances, term_next}
use Rattle.cp_model_machine.proofs.Loops.{AtTest, loop_task, made_at_test, test_left}
use Rattle.cp_model_machine.proofs.NextCalls.{AllMade, CallReady, Calling}
use Rattle.cp_model_machine.proofs.Invoking.{locals_two}
use Rattle.cp_model_machine.proofs.PassedWords.{arguments_below}
use Rattle.cp_model_machine.proofs.Spares.{Spares, result_spares}
use Rattle.cp_model_machine.proofs.SparingCalls.{call_spares}
use Rattle.cp_model_machine.proofs.SparingInits.{class_is_spared, monitor_is_spared}
use Rattle.cp_model_machine.proofs.SparingStatements.{accept_spares, continue_spares, copy_is_spared, delay_spares, for_spares, counts_spare, result_is_spared, set_spares}
use Rattle.cp_model_machine.proofs.Standards.{one}
use Rattle.cp_model_machine.proofs.Stacks.{own_in_whole}
use Rattle.cp_model_machine.proofs.StartsNone.{call_starts, starts, task_starts}
use Rattle.cp_model_machine.proofs.StatementCalls.{own_place, statement_next}
use Rattle.cp_model_machine.proofs.Stepping.{Around, AroundAll, IfPlaced, Now}

-- What a step does to words that belong neither to the process nor to a monitor: nothing, or it
-- gives another process its parameters.
pub data Sparing (G : Ground) (s : State) (w : StepContext) (before : List ℕ) (o : PrivateState) : Type 0 where
  SparesAll : (y : Operation) → operation_at G.program o.counter ≡ Some y → starts (action (s.continuation G.p)) ≡ false → Spares G o.words (act G.program w o y).0.words → Sparing G s w before o
  StartsOne : (Z : InitOfProcess G s w before o) → operation_at G.program o.counter ≡ Some (op.InitProcess Z.number Z.passes Z.words Z.next)
      → action (s.continuation G.p) ≡ Acts (Do (a.Init Z.name Z.given) (here Z)) Z.rest → Sparing G s w before o

module _ (G : Ground) (s : State) (w : StepContext) (before : List ℕ) (o : PrivateState) (F : IsProgramFor G.program G.setup) (texts : F.texts ≡ G.texts) (part : PartOf G s before o) (I : Invariant s)
    (around : Around G s w) (reaches : Reaches G s) (K : AroundAll G s w) where
  -- ---- calls

  -- The callee has its words after the running activation.
  call_spared : (i : Task) (k : List Task) (N : Now G s w before o i k) (call : Call) (back : Back) (kept : ℕ) (c : Callee) (L : Knowns) (es : a.Expressions) (at from last low high : ℕ)
      → (C : sites.Runs (site G N.on.running) (RoutineOf (system_of_callee N.on.running.env c.of) c.routine) kept call)
      → ArgumentsFor (site G N.on.running) L (parameters (site G N.on.running) c) es call.arguments at from last low high → at ≡ first_parameter c
      → Spares G o.words (call_step G.program w o call back).0.words
  call_spared i k N call back kept c L es at from last low high C arguments first =
      call_spares G w o call back (system_of_callee N.on.running.env c.of) c.routine C.unit C.there represents
      (omega (arith, N.on.base, N.on.runs.words_fit, C.fits.words, C.words)) (omega (arith, N.on.count, own_in_whole G))
      (arguments_below (site G N.on.running) L (parameters (site G N.on.running) c) es call.arguments at from last low high (activation_words (scope G) c.routine) arguments
      (omega (arith, first, globals, locals_two (scope G) (declarations (scope G) c.routine.parameters) (declarations (scope G) c.routine.variables))))
    where
      represents : UnitRepresents G.program G.texts (scope G) C.unit (RoutineOf (system_of_callee N.on.running.env c.of) c.routine)
      represents = (units G s w before o F texts part I around reaches).1 call.routine C.unit (RoutineOf (system_of_callee N.on.running.env c.of) c.routine) C.there C.text

      globals : locals_words N.on.running.env.globals (parameters (site G N.on.running) c) ≡ locals_words (scope G) (declarations (scope G) c.routine.parameters)
      globals = ap (λ g. locals_words g (declarations g c.routine.parameters)) N.on.runs.globals

  -- A function that is called in a task.
  function_spared : (i : Task) (k : List Task) (N : Now G s w before o i k) (v : UserCall) (temp after : ℕ) (base : a.BaseType)
      → CallReady (site G N.on.running) (known G s w before o i k N) v o.counter temp after base → (j : Task) → call_in_task (a.Literal 0) i ≡ Some (v, j) → Sparing G s w before o
  function_spared i k N v temp after base C j found =
      SparesAll (op.Function C.call temp after) C.op (ap (λ l. starts (action l)) N.left ∙ call_starts i k (v, j) found)
      (call_spared i k N C.call (record { counter = after; into = temp }) C.low v.callee _ v.arguments _ C.from o.counter C.low C.high C.calls.runs C.arguments refl)

  -- ---- statements

  starts_none : (x : Name) (es : a.Expressions) (env : Environment) (k : List Task) (Y : Ready G s w before o (a.Init x es) env k) (z : a.Sort) → same_sort a.Process z ≡ false → Y.now.on.left.2.3.2.system.sort ≡ z
      → starts (Acts (Do (a.Init x es) env) k) ≡ false
  starts_none x es env k Y z other sort =
      ap (λ e. starts (Acts (Do (a.Init x es) e) k)) Y.now.on.left.0
      ∙ (ap (λ (c : Option Component). elim c as (λ y. Bool) [ None ↦ false | Some n ↦ same_sort a.Process n.system.sort ]) Y.now.on.left.2.3.4
      ∙ (ap (same_sort a.Process) sort ∙ other))

  done : (i : Task) (k : List Task) → Now G s w before o i k → (y : Operation) → operation_at G.program o.counter ≡ Some y → starts (Acts i k) ≡ false → Spares G o.words (act G.program w o y).0.words
      → Sparing G s w before o
  done i k N y there none spares = SparesAll y there (ap (λ l. starts (action l)) N.left ∙ task_starts i k none) spares

  assigned : (d : a.Designator) (e : a.Expression) (env : Environment) (k : List Task) (Y : Ready G s w before o (a.Assign d e) env k) (x : Operation) → operation_at G.program o.counter ≡ Some x
      → AssignsBy (site G Y.now.on.running) (known G s w before o (Do (a.Assign d e) env) k Y.now) d e x o.counter Y.now.on.left.2.3.0 Y.now.on.left.2.0 Y.now.on.left.2.1
      → Sparing G s w before o
  assigned d e env k Y (op.Set to lower upper c n) there h = done (Do (a.Assign d e) env) k Y.now (op.Set to lower upper c n) there refl (set_spares G s w before o env k d e Y to lower upper c n h)
  assigned (a.Plain x) e env k Y (op.SetResult lower upper c n) there h =
      done (Do (a.Assign (a.Plain x) e) env) k Y.now (op.SetResult lower upper c n) there refl (result_is_spared G s w before o env k x e Y lower upper c n h)
  assigned d (a.Use e) env k Y (op.CopyWords to from size n) there h =
      done (Do (a.Assign d (a.Use e)) env) k Y.now (op.CopyWords to from size n) there refl (copy_is_spared G s w before o env k d e Y to from size n h)
  assigned d e env k Y _ there h = absurd h

  performed : (d : a.Designator) (es : a.Expressions) (env : Environment) (k : List Task) (Y : Ready G s w before o (a.Perform d es) env k) (x : Operation) → operation_at G.program o.counter ≡ Some x
      → PerformsBy (site G Y.now.on.running) (known G s w before o (Do (a.Perform d es) env) k Y.now) d es x o.counter Y.now.on.left.2.3.0 Y.now.on.left.2.0 Y.now.on.left.2.1
      → Sparing G s w before o
  performed d es env k Y (op.Procedure call n) there h =
      done (Do (a.Perform d es) env) k Y.now (op.Procedure call n) there refl
      (call_spared (Do (a.Perform d es) env) k Y.now call (record { counter = n; into = 0 }) Y.now.on.left.2.1 h.0 _ es _ o.counter Y.now.on.left.2.3.0 Y.now.on.left.2.1 h.1 h.2.runs h.6 refl)
  performed (a.Plain x) (a.MoreExpressions e a.NoExpression) env k Y (op.Display c as_byte n) there h =
      done (Do (a.Perform (a.Plain x) (one e)) env) k Y.now (op.Display c as_byte n) there refl (result_spares G o (value_of (view_of w o) c) _ (λ v is i spared. refl))
  performed (a.Plain x) (a.MoreExpressions (a.Use d) a.NoExpression) env k Y (op.Accept to lower upper n) there h =
      done (Do (a.Perform (a.Plain x) (one (a.Use d))) env) k Y.now (op.Accept to lower upper n) there refl (accept_spares G s w before o x env k d Y to lower upper n (there, h))
  performed (a.Plain x) (a.MoreExpressions (a.Use d) a.NoExpression) env k Y (op.Delay queue n) there h =
      done (Do (a.Perform (a.Plain x) (one (a.Use d))) env) k Y.now (op.Delay queue n) there refl (delay_spares G s w before o x env k d Y queue n (there, h))
  performed (a.Plain x) (a.MoreExpressions (a.Use d) a.NoExpression) env k Y (op.Continue queue function) there h =
      done (Do (a.Perform (a.Plain x) (one (a.Use d))) env) k Y.now (op.Continue queue function) there refl (continue_spares G s w before o x env k d Y queue function (there, h))
  performed (a.Plain x) a.NoExpression env k Y (op.Wait n) there h = done (Do (a.Perform (a.Plain x) a.NoExpression) env) k Y.now (op.Wait n) there refl (λ i spared. refl)
  performed d es env k Y _ there h = absurd h

  initialised : (x : Name) (es : a.Expressions) (env : Environment) (k : List Task) (Y : Ready G s w before o (a.Init x es) env k) (y : Operation) → operation_at G.program o.counter ≡ Some y
      → InitsBy (site G Y.now.on.running) (known G s w before o (Do (a.Init x es) env) k Y.now) Y.now.on.left.2.3.2 es y o.counter Y.now.on.left.2.3.0 Y.now.on.left.2.0 Y.now.on.left.2.1
      → Sparing G s w before o
  initialised x es env k Y (op.InitClass call m) there h =
      done (Do (a.Init x es) env) k Y.now (op.InitClass call m) there (starts_none x es env k Y a.Class refl h.0)
      (class_is_spared G s w before o x es env k I.store (units G s w before o F texts part I around reaches) Y call m h)
  initialised x es env k Y (op.InitMonitor call m) there h =
      done (Do (a.Init x es) env) k Y.now (op.InitMonitor call m) there (starts_none x es env k Y a.Monitor refl h.0)
      (monitor_is_spared G s w before o x es env k I.store (units G s w before o F texts part I around reaches) Y call m h (declares_here G s w before o F texts part I around reaches Y.now.on.running Y.now.on.runs))
  initialised x es env k Y (op.InitProcess r xs count m) there h =
      StartsOne (record {
        represents = F;
        texts = texts;
        stored = I.store;
        around = K;
        name = x;
        given = es;
        env = env;
        rest = k;
        ready = Y;
        declares = declares_here G s w before o F texts part I around reaches Y.now.on.running Y.now.on.runs;
        number = r;
        passes = xs;
        words = count;
        next = m;
        by = h;
      }) there
      (ap action Y.now.left ∙ (ap (λ e. action (Do (a.Init x es) e ∷ k)) Y.now.on.left.0 ∙ acts_itself (Do (a.Init x es) Y.now.on.running.env) k (ap (in_context (λ z. Do z Y.now.on.running.env)) Y.none) refl))
  initialised x es env k Y _ there h = absurd h

  statement_spared : (st : a.Statement) (env : Environment) (k : List Task) → Ready G s w before o st env k → Sparing G s w before o
  statement_spared (a.Assign d e) env k Y = assigned d e env k Y Y.now.on.left.2.3.1 (ap (operation_at G.program) Y.counter ∙ Y.now.on.left.2.3.2) Y.now.on.left.2.3.3
  statement_spared (a.Perform d es) env k Y = performed d es env k Y Y.now.on.left.2.3.1 (ap (operation_at G.program) Y.counter ∙ Y.now.on.left.2.3.2) Y.now.on.left.2.3.3
  statement_spared (a.If e t u) env k Y =
      let h = Y.now.on.left.2.3 in
      done (Do (a.If e t u) env) k Y.now (op.Test h.1 h.3 h.4) (ap (operation_at G.program) Y.counter ∙ h.5) refl (result_spares G o (value_of (view_of w o) h.1) _ (λ v is i spared. refl))
  statement_spared (a.Case e arms) env k Y =
      let h = Y.now.on.left.2.3 in
      done (Do (a.Case e arms) env) k Y.now (op.Case h.1 h.3) (ap (operation_at G.program) Y.counter ∙ h.4) refl (result_spares G o (value_of (view_of w o) h.1) _ (λ v is. to_arm (place_in h.3 v)))
    where
      to_arm : (z : Option ℕ) → Spares G o.words (go_to_arm o z).0.words
      to_arm None = λ i spared. refl
      to_arm (Some place) = λ i spared. refl
  statement_spared (a.For x down e f st) env k Y =
      let h = Y.now.on.left.2.3 in
      done (Do (a.For x down e f st) env) k Y.now (op.For h.1 h.2 h.3) (ap (operation_at G.program) Y.counter ∙ h.8) refl (for_spares G s w before o env k x down e f st Y)
  statement_spared (a.Cycle st) env k Y =
      let h = Y.now.on.left.2.3 in done (Do (a.Cycle st) env) k Y.now (op.Cycle h.0) (ap (operation_at G.program) Y.counter ∙ h.1) refl (λ i spared. refl)
  statement_spared (a.Init x es) env k Y = initialised x es env k Y Y.now.on.left.2.3.1 (ap (operation_at G.program) Y.counter ∙ Y.now.on.left.2.3.3) Y.now.on.left.2.3.5
  statement_spared a.Nothing env k Y = absurd Y.now.on.left.1
  statement_spared (a.Seq t u) env k Y = absurd Y.now.on.left.1
  statement_spared (a.While e st) env k Y = absurd Y.now.on.left.1
  statement_spared (a.Repeat st e) env k Y = absurd Y.now.on.left.1

  do_spared : (st : a.Statement) (env : Environment) (k : List Task) → Now G s w before o (Do st env) k → Sparing G s w before o
  do_spared st env k N =
      by (statement_next (site G N.on.running) (known G s w before o (Do st env) k N) st o.counter N.on.left.2.0 N.on.left.2.1 N.on.left.1 N.on.left.2.3)
    where
      by : StatementAdvances (site G N.on.running) (known G s w before o (Do st env) k N) st o.counter
          (own_place (site G N.on.running) (known G s w before o (Do st env) k N) st o.counter N.on.left.2.0 N.on.left.2.1 N.on.left.2.3) N.on.left.2.0 N.on.left.2.1
          → Sparing G s w before o
      by (AllMade p q r) = statement_spared st env k (record { now = N; counter = p; none = q (a.Literal 0) })
      by (Calling C) =
          function_spared (Do st env) k N C.user C.temp C.after C.base C.ready (Do (C.fill (a.Literal 0)) env)
          (ap (λ e. in_context (λ y. Do y env) (call_in_statement e (a.Literal 0) st)) N.on.left.0 ∙ ap (in_context (λ y. Do y env)) (C.found (a.Literal 0)))

  -- ---- tasks

  loop_starts_none : (loop : Loop) (now e : a.Expression) (st : a.Statement) (env : Environment) (k : List Task) → starts (Acts (loop_task loop now e st env) k) ≡ false
  loop_starts_none While now e st env k = refl
  loop_starts_none Repeat now e st env k = refl

  loop_spared : (loop : Loop) (now e : a.Expression) (st : a.Statement) (env : Environment) (k : List Task) → Now G s w before o (loop_task loop now e st env) k → Sparing G s w before o
  loop_spared loop now e st env k N =
      by (term_next (site G N.on.running) (known G s w before o task k N) now h.1.3.term h.1.3.base o.counter h.1.3.last h.1.1 N.on.running.unit.temps h.1.3.rest)
    where
      task : Task
      task = loop_task loop now e st env

      h : AtTest loop G o.temps o.limit (known G s w before o task k N) N.on.running o.frames o.counter N.on.running.unit.temps now e st env k
      h = test_left G o.temps o.limit (known G s w before o task k N) N.on.running o.frames o.counter N.on.running.unit.temps now e st env k loop N.on.left

      by : TermAdvances (site G N.on.running) (known G s w before o task k N) now h.1.3.term h.1.3.base o.counter h.1.3.last h.1.1 N.on.running.unit.temps → Sparing G s w before o
      by (AllMade p q r) =
          let W = h.1.3 in
          done task k N (op.Test W.term (at_true loop W.way h.1.0) (at_true loop h.1.0 W.way)) (ap (operation_at G.program) p ∙ W.test) (loop_starts_none loop now e st env k)
          (result_spares G o (value_of (view_of w o) W.term) _ (λ v is i spared. refl))
      by (Calling C) =
          function_spared task k N C.user C.temp C.after C.base C.ready (loop_task loop (C.fill (a.Literal 0)) e st env)
          (made_at_test now e st env loop (a.Literal 0) N.on.running.env h.0 C.user (C.fill (a.Literal 0)) (C.found (a.Literal 0)))

  for_next_spared : (x : Name) (down : Bool) (n last : ℤ) (st : a.Statement) (env : Environment) (k : List Task) → Now G s w before o (ForNext x down n last st env) k → Sparing G s w before o
  for_next_spared x down counter last st env k N =
      let W = N.on.left.1.3 in
      done (ForNext x down counter last st env) k N (op.ForNext W.counting) W.test refl
      (by (word o.temps (o.temp + W.counting.temp)) (word o.temps (o.temp + W.counting.temp + 1)) (same_integer (word o.temps (o.temp + W.counting.temp)) (word o.temps (o.temp + W.counting.temp + 1))))
    where
      c : op.Counting
      c = N.on.left.1.3.counting

      by : (n m : ℤ) (b : Bool) → Spares G o.words (if b then private_outcome (go_to c.next o) else count_to w o c (next_counter c.down n) m).0.words
      by n m true = λ i spared. refl
      by n m false =
          counts_spare G s w before o (ForNext x down counter last st env) k N N.sees x down c N.on.left.1.0 N.on.left.1.1 (next_counter c.down n) m N.on.left.1.3.counts

  return_there : (temps : List ℤ) (limit : ℕ) (L : Knowns) (R : Running) (fs : List machine.Frame) (place low : ℕ) (env : Environment) (gate : Option ℕ) (k : List Task)
      → Remaining G temps limit L R fs place low (EndCall env gate ∷ k) → (function : Bool) × (operation_at G.program place ≡ Some (op.Return function))
  return_there temps limit L R [] place low env gate k h = absurd h
  return_there temps limit L R (f ∷ fs) place low env gate k h = (is_function h.1.frame.routine.result, h.1.return)

  end_there : (temps : List ℤ) (limit : ℕ) (L : Knowns) (R : Running) (fs : List machine.Frame) (place low : ℕ) (gate : Option ℕ) (k : List Task)
      → Remaining G temps limit L R fs place low (EndBody gate ∷ k) → operation_at G.program place ≡ Some op.EndBody
  end_there temps limit L R [] place low gate k h = absurd h
  end_there temps limit L R (f ∷ fs) place low gate k h = h.1

  -- A return writes temps alone.
  returned : (function : Bool) → Spares G o.words (act G.program w o (op.Return function)).0.words
  returned function = by o.frames
    where
      inner : (b : Bool) (f : machine.Frame) (fs : List machine.Frame) (e : machine.Effect) → Spares G o.words (return_with o o f fs b e).0.words
      inner false f fs e = λ i spared. refl
      inner true f fs e = last (same_integer (word o.words o.base) unset)
        where
          last : (b : Bool) → Spares G o.words (if b then fault_in o fault.NoResult else (leave (set_temp o (f.temp + f.into) (word o.words o.base)) f fs, e)).0.words
          last true = λ i spared. refl
          last false = λ i spared. refl

      by : (fs : List machine.Frame) → Spares G o.words (with_frame o fs (λ f gs. return_with o o f gs function (gate_effect f.gate machine.Leaves))).0.words
      by [] = λ i spared. refl
      by (f ∷ fs) = inner function f fs (gate_effect f.gate machine.Leaves)

  ended : Spares G o.words (act G.program w o op.EndBody).0.words
  ended = by o.frames
    where
      by : (fs : List machine.Frame) → Spares G o.words (with_frame o fs (λ f gs. (leave o f gs, gate_effect f.gate machine.Leaves))).0.words
      by [] = λ i spared. refl
      by (f ∷ fs) = λ i spared. refl

  -- Each kind of task of a ready process.
  pub ready_spares : (k : List Task) → s.continuation G.p ≡ k → s.status G.p ≡ stage.Ready → RunsOn G s.store o k → Sparing G s w before o
  ready_spares [] left ready R = absurd R.left
  ready_spares (i ∷ k) left ready R = by i R left ((subst (TasksInReach G.p) left (I.continuations G.p).tasks).0)
    where
      now : (i : Task) (R : RunsOn G s.store o (i ∷ k)) → s.continuation G.p ≡ i ∷ k → IfPlaced i (Sees G (in_sight G) s.store R.running.env) → Now G s w before o i k
      now i R left sees = now_of G s w before o F texts part I around reaches i k R left ready sees

      sees : (i : Task) (R : RunsOn G s.store o (i ∷ k)) (env : Environment) → env ≡ R.running.env → s.continuation G.p ≡ i ∷ k → EnvironmentIn (in_reach G.p (marked_monitors (i ∷ k))) env
          → Sees G (in_sight G) s.store R.running.env
      sees i R env is left there = sees_in G s w before o F texts part I around reaches R.running env (i ∷ k) is left there

      by : (i : Task) (R : RunsOn G s.store o (i ∷ k)) → s.continuation G.p ≡ i ∷ k → TaskIn (in_reach G.p (marked_monitors (i ∷ k))) i → Sparing G s w before o
      by (Do st env) R left there = do_spared st env k (now (Do st env) R left (sees (Do st env) R env R.left.0 left there))
      by (WhileTest t e st env) R left there = loop_spared While t e st env k (now (WhileTest t e st env) R left (sees (WhileTest t e st env) R env R.left.0 left there))
      by (RepeatTest t st e env) R left there = loop_spared Repeat t e st env k (now (RepeatTest t st e env) R left (sees (RepeatTest t st e env) R env R.left.0 left there))
      by (ForNext x down n last st env) R left there = for_next_spared x down n last st env k (now (ForNext x down n last st env) R left (sees (ForNext x down n last st env) R env R.left.0 left there))
      by (EndCall env gate) R left there =
          let K = held_below R.live o.temps R.running.temp in
          let r = return_there o.temps o.limit K R.running o.frames o.counter R.running.unit.temps env gate k R.left in
          done (EndCall env gate) k
          (now (EndCall env gate) R left (sees (EndCall env gate) R env (end_environment G o.temps o.limit K R.running o.frames o.counter R.running.unit.temps env gate k R.left) left there))
          (op.Return r.0) r.1 refl (returned r.0)
      by (EndBody gate) R left there =
          done (EndBody gate) k (now (EndBody gate) R left tt) op.EndBody
          (end_there o.temps o.limit (held_below R.live o.temps R.running.temp) R.running o.frames o.counter R.running.unit.temps gate k R.left) refl ended
      by EndProcess R left there = done EndProcess k (now EndProcess R left tt) op.End R.left.3 refl (λ i spared. refl)
