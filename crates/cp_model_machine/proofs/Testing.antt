-- Whole private steps of tests: `if`, and those of `while` and `repeat`.
use Rattle.std.proofs.Common.{◌≡◌, ℕ, ℤ, pos, List, ◌∷◌, Bool, true, false, None, Result, Ok, Err, refl, ap, sym, subst, ◌∙◌, arith}
use Rattle.std.specs.Prelude.{if◌then◌else◌}
use Rattle.cp_model.specs.Abstract as a
use Rattle.cp_model.specs.Abstract.{BaseType}
use Rattle.cp_model.specs.Actions.{Acts, action}
use Rattle.cp_model.specs.Calls.{first_call, in_context}
use Rattle.cp_model.specs.Configurations.{own_step, with_continuation}
use Rattle.cp_model.specs.Continuations.{Do, Task, push}
use Rattle.cp_model.specs.Environments.{Environment}
use Rattle.cp_model.specs.Integers.{same_integer}
use Rattle.cp_model.specs.Outcomes.{Fault, Gives, Outcome, and_then}
use Rattle.cp_model.specs.Places.{TypedValue}
use Rattle.cp_model.specs.StatementSteps.{is_true}
use Rattle.cp_model.specs.States.{State, configuration, context}
use Rattle.cp_model.specs.Turns.{after_step}
use Rattle.cp_model.specs.declared.state.Fault as fault
use Rattle.cp_model.proofs.QuietSteps.{Quietly, then_quiet}
use Rattle.cp_model_program.specs.Programs as op
use Rattle.cp_model_program.specs.Programs.{Operation}
use Rattle.cp_model_program.specs.Sites.{operation_at}
use Rattle.cp_model_program.specs.TermsFor.{Agrees, nothing_known}
use Rattle.cp_model_machine.specs.PrivateStates.{StepContext, PrivateState, go_to, private_outcome, with_result}
use Rattle.cp_model_machine.specs.Addresses.{Ground}
use Rattle.cp_model_machine.specs.Remaining.{Remaining, Loop, LoopRemaining, at_true, site}
use Rattle.cp_model_machine.specs.PartOf.{PartOf, RunsOn}
use Rattle.cp_model_machine.proofs.Loops.{AtTest, activations_at_test, call_at_test, either_way, left_at_test, loop_task, marks_at_test, means_at_test, no_procedure, runs_test, sees_at_test, test_is_private, whole_loop}
use Rattle.cp_model_machine.proofs.Doing.{Ready, acts_itself, known, quietly, statement_steps, value_here}
use Rattle.cp_model_machine.proofs.Evaluates.{ordinal_is}
use Rattle.cp_model_machine.proofs.Finding.{in_context_none}
use Rattle.cp_model_machine.proofs.RunningOn.{runs_moved, runs_pushed}
use Rattle.cp_model_machine.proofs.Stepping.{Now, Stepped, both_step, clock_of, does, faulted, went}
use Rattle.cp_model_machine.proofs.Effects.{quiet_agrees}
use Rattle.cp_model_machine.proofs.QuietOperations.{operation_quiet}
use Rattle.cp_model_machine.specs.Steps.{act}
use Rattle.cp_model.specs.Expressions.{value}

module _ (G : Ground) (s : State) (w : StepContext) (before : List ℕ) (o : PrivateState) (i : Task) (k : List Task) (N : Now G s w before o i k) where
  -- What the two outcomes of a test lead to.
  pub tested : (b : BaseType) (yes' no' : ℕ) (j l : List Task) → RunsOn G s.store (go_to yes' o) j → RunsOn G s.store (go_to no' o) l
      → (O : Outcome TypedValue) (r : Result ℤ fault.Fault) → Agrees b O r
      → PartOf G (after_step s G.p (and_then O (λ v. own_step (with_continuation (configuration s G.p) (if is_true v then j else l))))) before
      (with_result o r (λ n. private_outcome (go_to (if same_integer n (pos 1) then yes' else no') o))).0
  tested b yes' no' j l A B (Gives v) (Ok n) h =
      subst (λ z. PartOf G (after_step s G.p (own_step (with_continuation (configuration s G.p) (if same_integer z (pos 1) then j else l)))) before (go_to (if same_integer n (pos 1) then yes' else no') o))
      (sym (ordinal_is v n h.1)) (by (same_integer n (pos 1)))
    where
      by : (x : Bool) → PartOf G (after_step s G.p (own_step (with_continuation (configuration s G.p) (if x then j else l)))) before (go_to (if x then yes' else no') o)
      by true = went G s before o N.part s.store (go_to yes' o) j A record { number = refl; input = refl; consumed = refl; output = refl; activity = refl }
      by false = went G s before o N.part s.store (go_to no' o) l B record { number = refl; input = refl; consumed = refl; output = refl; activity = refl }
  tested b yes' no' j l A B (Fault n) (Err f) h = faulted G s w before o i k N n f h
  tested b yes' no' j l A B (Gives v) (Err f) h = absurd h
  tested b yes' no' j l A B (Fault n) (Ok m) h = absurd h

pub if_steps : (G : Ground) (s : State) (w : StepContext) (before : List ℕ) (o : PrivateState) (e : a.Expression) (t u : a.Statement) (env : Environment) (k : List Task)
    → Ready G s w before o (a.If e t u) env k → Stepped G s w before o
if_steps G s w before o e t u env k Y =
    let N = Y.now in
    let left = N.on.left in
    let h = left.2.3 in
    statement_steps G s w before o (a.If e t u) env k Y (op.Test h.1 h.3 h.4) refl refl (ap (operation_at G.program) Y.counter ∙ h.5) refl
    (tested G s w before o (Do (a.If e t u) env) k N h.2 h.3 h.4 (push t N.on.running.env k) (push u N.on.running.env k)
    (runs_pushed G s.store o (Do (a.If e t u) env ∷ k) k t h.3 left.2.0 left.2.1 N.on refl refl refl h.7 left.2.4 left.2.2)
    (runs_pushed G s.store o (Do (a.If e t u) env ∷ k) k u h.4 left.2.0 left.2.1 N.on refl refl refl h.8 left.2.4 left.2.2)
    _ _ (value_here G s w before o (Do (a.If e t u) env) k N N.sees e h.1 h.2 o.counter h.0 left.2.1 N.on.running.unit.temps h.6
    (in_context_none (λ y. a.If y t u) (first_call N.on.running.env (a.Literal 0) e) Y.none)))
    (quietly G s w before o (a.If e t u) env k Y (op.Test h.1 h.3 h.4) tt tt)

-- The test of a loop. Where it continues, the body and the whole test again are left before the rest.
pub loop_steps : (G : Ground) (s : State) (w : StepContext) (before : List ℕ) (o : PrivateState) (loop : Loop) (now e : a.Expression) (st : a.Statement) (env : Environment) (k : List Task)
    → (N : Now G s w before o (loop_task loop now e st env) k) (h : AtTest loop G o.temps o.limit (known G s w before o (loop_task loop now e st env) k N) N.on.running o.frames o.counter N.on.running.unit.temps now e st env k)
    → o.counter ≡ h.1.3.last → first_call N.on.running.env (a.Literal 0) now ≡ None → Stepped G s w before o
loop_steps G s w before o loop now e st env k N h at none =
    both_step G s w before o task k N (Acts acting k) test
    (ap (λ y. action (loop_task loop now e st y ∷ k)) h.0
    ∙ acts_itself acting k (call_at_test now e st here loop (a.Literal 0) ∙ ap (in_context (λ y. loop_task loop y e st here)) none) (no_procedure now e st here loop))
    (test_is_private now e st here k loop) (ap (operation_at G.program) at ∙ W.test) refl
    (subst (λ O. PartOf G (after_step s G.p O) before (act G.program w o test).0) (sym does_is)
    (tested G s w before o task k N W.base (at_true loop W.way next) (at_true loop next W.way) (at_true loop again k) (at_true loop k again)
    (either_way loop (λ n l. RunsOn G s.store (go_to n o) l) W.way next again k proceeds ends)
    (either_way loop (λ n l. RunsOn G s.store (go_to n o) l) next W.way k again ends proceeds)
    _ _ (value_here G s w before o task k N (sees_at_test now e st env loop _ N.sees) now W.term W.base o.counter W.last low N.on.running.unit.temps W.rest none)))
    (λ all. quiet_agrees G w.own (does G s (Acts acting k)) (act G.program w o test).1
    (subst Quietly (sym does_is) (then_quiet (value (clock_of G s) here s.store now) _ (λ v. tt))) (operation_quiet G.program w o test tt))
  where
    W : LoopRemaining loop (site G N.on.running) (known G s w before o (loop_task loop now e st env) k N) now e st o.counter h.1.0 h.1.1
    W = h.1.3

    task : Task
    task = loop_task loop now e st env

    here : Environment
    here = N.on.running.env

    acting : Task
    acting = loop_task loop now e st here

    next : ℕ
    next = h.1.0

    low : ℕ
    low = h.1.1

    test : Operation
    test = op.Test W.term (at_true loop W.way next) (at_true loop next W.way)

    whole : List Task
    whole = loop_task loop e e st here ∷ k

    again : List Task
    again = push st here whole

    does_is : does G s (Acts acting k) ≡ and_then (value (clock_of G s) here s.store now) (λ v. own_step (with_continuation (configuration s G.p) (if is_true v then at_true loop again k else at_true loop k again)))
    does_is = runs_test now e st here k loop (context G.setup s G.p) (configuration s G.p)

    left_anew : Remaining G o.temps o.limit nothing_known N.on.running o.frames W.start low whole
    left_anew = left_at_test G o.temps o.limit nothing_known N.on.running o.frames W.start low e e st here k loop
        (refl, (next, low, omega arith, whole_loop loop (site G N.on.running) _ now e st o.counter next low W, h.1.4))

    proceeds : RunsOn G s.store (go_to W.way o) again
    proceeds = runs_pushed G s.store o (task ∷ k) whole st W.way W.start low N.on
        (activations_at_test e e st here k loop o.base o.frames ∙ sym (activations_at_test now e st env k loop o.base o.frames))
        (means_at_test e e st here k loop G s.store o.words o.base o.frames ∙ sym (means_at_test now e st env k loop G s.store o.words o.base o.frames))
        (marks_at_test e e st here k loop ∙ sym (marks_at_test now e st env k loop)) W.again left_anew h.1.2

    ends : RunsOn G s.store (go_to next o) k
    ends = runs_moved G s.store o (task ∷ k) k next low N.on (sym (activations_at_test now e st env k loop o.base o.frames))
        (sym (means_at_test now e st env k loop G s.store o.words o.base o.frames)) (sym (marks_at_test now e st env k loop)) h.1.4 h.1.2

pub cycle_steps : (G : Ground) (s : State) (w : StepContext) (before : List ℕ) (o : PrivateState) (st : a.Statement) (env : Environment) (k : List Task)
    → Ready G s w before o (a.Cycle st) env k → Stepped G s w before o
cycle_steps G s w before o st env k Y =
    let N = Y.now in
    let left = N.on.left in
    let h = left.2.3 in
    let here = N.on.running.env in
    let stays : Remaining G o.temps o.limit nothing_known N.on.running o.frames o.counter left.2.1 (Do (a.Cycle st) here ∷ k)
    = (refl, tt, (left.2.0, left.2.1, omega arith, h, left.2.4)) in
    statement_steps G s w before o (a.Cycle st) env k Y (op.Cycle h.0) refl refl h.1 refl
    (went G s before o N.part s.store (go_to h.0 o) (push st here (Do (a.Cycle st) here ∷ k))
    (runs_pushed G s.store o (Do (a.Cycle st) env ∷ k) (Do (a.Cycle st) here ∷ k) st h.0 o.counter left.2.1 N.on refl refl refl h.2 stays left.2.2)
    record { number = refl; input = refl; consumed = refl; output = refl; activity = refl })
    (quietly G s w before o (a.Cycle st) env k Y (op.Cycle h.0) tt tt)
