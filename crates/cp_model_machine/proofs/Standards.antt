-- Whole private steps of the standard procedures except `continue`. Outside all monitors, `delay`
-- does nothing.
use Rattle.std.proofs.Common.{Bool, Err, List, None, Ok, Option, Result, Some, [], ap, false, pos, refl, subst, sym, true, ℕ, ℤ, ◌++◌, ◌∙◌, ◌∷◌, ◌≡◌}
use Rattle.std.specs.Prelude.{codes, if◌then◌else◌, int_le, length, nat_lt}
use Rattle.std.specs.Str.{bytes_eq}
use Rattle.cp_model.specs.Abstract as a
use Rattle.cp_model.specs.Abstract.{BaseType, Boolean, Char, Integer, Name}
use Rattle.cp_model.specs.Arguments.{designator_of}
use Rattle.cp_model.specs.Assignments.{writes_of}
use Rattle.cp_model.specs.Calls.{Callee, UserCall, call_in_designator, callee, first_call, in_context, or_else, procedure_call, user_call}
use Rattle.cp_model.specs.CallSteps.{innermost_call}
use Rattle.cp_model.specs.Configurations as stage
use Rattle.cp_model.specs.Configurations.{Configuration, Context, StepResult, designation, evaluation, Waits, own_step, with_continuation, with_writes}
use Rattle.cp_model.specs.Continuations.{Do, Task, marked_monitors}
use Rattle.cp_model.specs.Decimal.{decimal}
use Rattle.cp_model.specs.Environments.{Environment}
use Rattle.cp_model.specs.Expressions.{place, value}
use Rattle.cp_model.specs.Outcomes.{Fault, Gives, Outcome, and_then}
use Rattle.cp_model.specs.Parts.{private_status}
use Rattle.cp_model.specs.Places.{Place, TypedValue, simple_value}
use Rattle.cp_model.specs.StandardCalls as calls
use Rattle.cp_model.specs.StandardCalls.{byte, delay, display_text, next_input, next_place, standard_procedure}
use Rattle.cp_model.specs.States.{State, configuration, context}
use Rattle.cp_model.specs.Stores.{Ordinal, Store, Writes, put}
use Rattle.cp_model.specs.Turns.{after_step}
use Rattle.cp_model.specs.Types.{Queue, Simple}
use Rattle.cp_model.specs.declared.state.Fault as machine
use Rattle.cp_model.specs.declared.state.Fault.TheVariants as faults
use Rattle.cp_model.proofs.StateMaps.{with_at_here}
use Rattle.cp_model_program.specs.Terms.{PlaceExpression, Term}
use Rattle.cp_model_program.specs.Programs as op
use Rattle.cp_model_program.specs.Sites.{operation_at}
use Rattle.cp_model_program.specs.TermsFor.{Agrees}
use Rattle.cp_model_program.specs.StatementsFor.{IsByte, PerformsBy}
use Rattle.cp_model_machine.specs.PrivateStates as private
use Rattle.cp_model_machine.specs.PrivateStates.{Activity, StepContext, PrivateState, go_to, private_outcome, guard, set_word, view_of, with_result}
use Rattle.cp_model_machine.specs.Steps as steps
use Rattle.cp_model_machine.specs.Means.{PlaceAgrees}
use Rattle.cp_model_machine.specs.Addresses.{Ground, activations, in_sight, lies_in_sight}
use Rattle.cp_model_machine.specs.Remaining.{site}
use Rattle.cp_model_machine.specs.PartOf.{PartOf, RunsOn, status_of}
use Rattle.cp_model_machine.proofs.Assigning.{stores}
use Rattle.cp_model_machine.proofs.Doing.{Ready, goes_next, known, place_here, statement_steps, value_here}
use Rattle.cp_model_machine.proofs.Evaluates.{ordinal_is}
use Rattle.cp_model_machine.proofs.Finding.{in_context_none, or_else_none}
use Rattle.cp_model_machine.proofs.RunningOn.{runs_moved, runs_written}
use Rattle.cp_model_machine.proofs.Stepping.{IsFree, Now, Stepped, clock_of, faulted, went}
use Rattle.cp_model_machine.proofs.Effects.{quiet_agrees}
use Rattle.cp_model_machine.proofs.QuietOperations.{operation_quiet, with_result_quiet}
use Rattle.cp_model.proofs.QuietSteps.{Quietly, then_quiet}
use Rattle.cp_model_machine.specs.Values.{place_of}
use Rattle.cp_model_program.specs.Starts.{word}

-- The process runs on, whatever it displayed, took from the input or waited for.
abbrev runs_beside : (G : Ground) (store : Store) (o : PrivateState) (k : List Task) (x : Activity) (output : List ℕ) (consumed : ℕ)
    → RunsOn G store o k → RunsOn G store (record o { activity = x; output = output; consumed = consumed }) k
runs_beside G store o k x output consumed R = record { at = R.at; words_mean = R.words_mean }

-- The private state is right after the step, if the process runs on in the state that is reached.
pub arrived : (G : Ground) (before : List ℕ) (u : State) (after : PrivateState) → after.number ≡ G.p → after.input ≡ G.setup.inputs G.p → after.consumed ≡ u.consumed G.p
    → u.transcript G.p ≡ before ++ after.output → private_status (u.status G.p) ≡ status_of after.activity → RunsOn G u.store after (u.continuation G.p)
    → PartOf G u before after
arrived G before u after number input consumed transcript status R = record {
  number = number;
  input = input;
  consumed = consumed;
  transcript = transcript;
  status = status;
  count = R.count;
  data_means = λ begun. R.data_means;
  runs_on = λ goes. R;
}

pub not_called : (env : Environment) (d : a.Designator) (es : a.Expressions) → callee env d ≡ None → procedure_call (Do (a.Perform d es) env) ≡ None
not_called env d es none =
    ap (λ (x : Option Callee). elim x as (λ y. Option UserCall) [
      | None ↦ None
      | Some c ↦ Some (record { callee = c; arguments = es; environment = env })
    ]) none

append_more : (a b c : List ℕ) → (a ++ b) ++ c ≡ a ++ (b ++ c)
append_more [] b c = refl
append_more (x ∷ a) b c = ap (λ y. x ∷ y) (append_more a b c)

abbrev pub one : a.Expression → a.Expressions
one e = a.MoreExpressions e a.NoExpression

-- ---- which standard procedure it is

where_true : (b : Bool) (x y : StepResult) → b ≡ true → (if b then x else y) ≡ x
where_true b x y h = ap (λ z. if z then x else y) h

where_false : (b : Bool) (x y : StepResult) → b ≡ false → (if b then x else y) ≡ y
where_false b x y h = ap (λ z. if z then x else y) h

displays : (context : Context) (config : Configuration) (env : Environment) (k : List Task) (x : Name) (e : a.Expression) → bytes_eq x (codes "display") ≡ true
    → standard_procedure context config env k x e
    ≡ and_then (evaluation context config env e) (λ v. own_step (record config { continuation = k; transcript = config.transcript ++ display_text v }))
displays context config env k x e h = where_true _ _ _ h

accepts : (context : Context) (config : Configuration) (env : Environment) (k : List Task) (x : Name) (e : a.Expression)
    → bytes_eq x (codes "display") ≡ false → bytes_eq x (codes "accept") ≡ true
    → standard_procedure context config env k x e
    ≡ and_then (designation context config env (designator_of e)) (λ at.
    and_then (writes_of at.at at.type (simple_value Char (next_input context.input config.consumed))) (λ ws.
    own_step (record (with_writes config ws k) { consumed = next_place context.input config.consumed })))
accepts context config env k x e h g = where_false _ _ _ h ∙ where_true _ _ _ g

pub delays : (context : Context) (config : Configuration) (env : Environment) (k : List Task) (x : Name) (e : a.Expression)
    → bytes_eq x (codes "display") ≡ false → bytes_eq x (codes "accept") ≡ false → bytes_eq x (codes "delay") ≡ true
    → standard_procedure context config env k x e
    ≡ and_then (designation context config env (designator_of e)) (λ at. delay context.process config k at.at (marked_monitors k))
delays context config env k x e h g f = where_false _ _ _ h ∙ (where_false _ _ _ g ∙ where_true _ _ _ f)

pub continues : (context : Context) (config : Configuration) (env : Environment) (k : List Task) (x : Name) (e : a.Expression)
    → bytes_eq x (codes "display") ≡ false → bytes_eq x (codes "accept") ≡ false → bytes_eq x (codes "delay") ≡ false
    → standard_procedure context config env k x e
    ≡ and_then (designation context config env (designator_of e)) (λ at. calls.continue config at.at (innermost_call k))
continues context config env k x e h g f = where_false _ _ _ h ∙ (where_false _ _ _ g ∙ where_false _ _ _ f)

module _ (G : Ground) (s : State) (w : StepContext) (before : List ℕ) (o : PrivateState) (x : Name) (env : Environment) (k : List Task) where
  -- No call is left in the one argument.
  pub argument_none : (here : Environment) (e : a.Expression) → in_context (a.Perform (a.Plain x)) (or_else (in_context (λ y. a.MoreExpressions y a.NoExpression) (first_call here (a.Literal 0) e)) None) ≡ None
      → first_call here (a.Literal 0) e ≡ None
  argument_none here e h =
      in_context_none (λ y. a.MoreExpressions y a.NoExpression) (first_call here (a.Literal 0) e)
      (or_else_none (in_context (λ y. a.MoreExpressions y a.NoExpression) (first_call here (a.Literal 0) e)) None
      (in_context_none (a.Perform (a.Plain x)) (or_else (in_context (λ y. a.MoreExpressions y a.NoExpression) (first_call here (a.Literal 0) e)) None) h)).0

  pub used_none : (here : Environment) (d : a.Designator) → first_call here (a.Literal 0) (a.Use d) ≡ None → call_in_designator here (a.Literal 0) d ≡ None
  used_none here d h =
      in_context_none a.Use (call_in_designator here (a.Literal 0) d)
      (or_else_none (in_context a.Use (call_in_designator here (a.Literal 0) d)) (user_call here d a.NoExpression (a.Literal 0)) h).0

  abbrev pub By : (es : a.Expressions) → Ready G s w before o (a.Perform (a.Plain x) es) env k → op.Operation → Type 0
  By es Y y =
      (operation_at G.program o.counter ≡ Some y)
      × PerformsBy (site G Y.now.on.running) (known G s w before o (Do (a.Perform (a.Plain x) es) env) k Y.now) (a.Plain x) es y o.counter Y.now.on.left.2.3.0 Y.now.on.left.2.0 Y.now.on.left.2.1

  pub display_steps : (e : a.Expression) (Y : Ready G s w before o (a.Perform (a.Plain x) (one e)) env k) (c : Term) (as_byte : Bool) (n : ℕ)
      → By (one e) Y (op.Display c as_byte n) → Stepped G s w before o
  display_steps e Y c as_byte n h =
      let N = Y.now in
      statement_steps G s w before o (a.Perform (a.Plain x) (one e)) env k Y (op.Display c as_byte n) (not_called N.on.running.env (a.Plain x) (one e) h.1.1.0) refl h.0 refl
      (subst (λ z. PartOf G (after_step s G.p z) before (steps.with_value w o c (λ m. steps.display o m as_byte n)).0) (sym (displays (context G.setup s G.p) (configuration s G.p) N.on.running.env k x e h.1.1.1))
      (by _ _ (value_here G s w before o (Do (a.Perform (a.Plain x) (one e)) env) k N N.sees e c h.1.0 o.counter N.on.left.2.3.0 N.on.left.2.1 N.on.running.unit.temps h.1.4
      (argument_none N.on.running.env e Y.none))))
      (λ all. quiet_agrees G w.own _ (steps.with_value w o c (λ m. steps.display o m as_byte n)).1
      (subst Quietly (sym (displays (context G.setup s G.p) (configuration s G.p) N.on.running.env k x e h.1.1.1)) (then_quiet (value (clock_of G s) N.on.running.env s.store e) shown (λ v. tt)))
      (operation_quiet G.program w o (op.Display c as_byte n) tt))
    where
      shown : TypedValue → StepResult
      shown v = own_step (record (configuration s G.p) { continuation = k; transcript = s.transcript G.p ++ display_text v })

      text_is : (b : BaseType) (y : Bool) (m : ℤ) → IsByte b y → (elim b [ Char ↦ byte m ∷ [] | _ ↦ decimal m ]) ≡ (if y then byte m ∷ [] else decimal m)
      text_is Char y m h = ap (λ z. if z then byte m ∷ [] else decimal m) (sym h)
      text_is Integer y m h = ap (λ z. if z then byte m ∷ [] else decimal m) (sym h)
      text_is Boolean y m h = ap (λ z. if z then byte m ∷ [] else decimal m) (sym h)
      text_is (a.Enumeration z l) y m h = ap (λ z. if z then byte m ∷ [] else decimal m) (sym h)

      by : (O : Outcome TypedValue) (r : Result ℤ machine.Fault) → Agrees h.1.0 O r
          → PartOf G (after_step s G.p (and_then O shown)) before (with_result o r (λ m. steps.display o m as_byte n)).0
      by (Gives v) (Ok m) g =
          let text : display_text v ≡ (if as_byte then byte m ∷ [] else decimal m)
          = (λ i. elim (g.0 i) as (λ x. List ℕ) [ Char ↦ byte (ordinal_is v m g.1 i) ∷ [] | _ ↦ decimal (ordinal_is v m g.1 i) ]) ∙ text_is h.1.0 as_byte m h.1.3 in
          arrived G before (after_step s G.p (shown v)) (record (go_to n o) { output = o.output ++ (if as_byte then byte m ∷ [] else decimal m) })
          Y.now.part.number Y.now.part.input (Y.now.part.consumed ∙ sym (with_at_here G.p (s.consumed G.p) s.consumed))
          (with_at_here G.p (s.transcript G.p ++ display_text v) s.transcript
          ∙ ((λ i. Y.now.part.transcript i ++ text i) ∙ append_more before o.output (if as_byte then byte m ∷ [] else decimal m)))
          Y.now.part.status
          (subst (RunsOn G s.store (record (go_to n o) { output = o.output ++ (if as_byte then byte m ∷ [] else decimal m) })) (sym (with_at_here G.p k s.continuation))
          (runs_beside G s.store (go_to n o) k o.activity (o.output ++ (if as_byte then byte m ∷ [] else decimal m)) o.consumed
          (subst (λ z. RunsOn G s.store (go_to z o) k) (sym h.1.2) (goes_next G s w before o (a.Perform (a.Plain x) (one e)) env k Y))))
      by (Fault i) (Err f) g = faulted G s w before o (Do (a.Perform (a.Plain x) (one e)) env) k Y.now i f g
      by (Gives v) (Err f) g = absurd g
      by (Fault i) (Ok m) g = absurd g

  pub accept_steps : (d : a.Designator) (Y : Ready G s w before o (a.Perform (a.Plain x) (one (a.Use d))) env k) (to : PlaceExpression) (lower upper : ℤ) (n : ℕ)
      → By (one (a.Use d)) Y (op.Accept to lower upper n) → Stepped G s w before o
  accept_steps d Y to lower upper n h =
      let N = Y.now in
      statement_steps G s w before o (a.Perform (a.Plain x) (one (a.Use d))) env k Y (op.Accept to lower upper n) (not_called N.on.running.env (a.Plain x) (one (a.Use d)) h.1.1.0) refl h.0 refl
      (subst (λ z. PartOf G (after_step s G.p z) before (steps.with_place w o to (λ at. steps.accept o at lower upper n)).0) (sym (accepts (context G.setup s G.p) (configuration s G.p) N.on.running.env k x (a.Use d) h.1.1.1 h.1.1.2))
      (subst (λ z. PartOf G (after_step s G.p (and_then (place (clock_of G s) N.on.running.env s.store d) (taking z (s.consumed G.p)))) before (steps.with_place w o to (λ at. steps.accept o at lower upper n)).0) N.part.input
      (subst (λ z. PartOf G (after_step s G.p (and_then (place (clock_of G s) N.on.running.env s.store d) (taking o.input z))) before (steps.with_place w o to (λ at. steps.accept o at lower upper n)).0) N.part.consumed
      (by _ _ (place_here G s w before o (Do (a.Perform (a.Plain x) (one (a.Use d))) env) k N N.sees d to (Simple Char lower upper h.1.0) o.counter N.on.left.2.3.0 N.on.left.2.1 N.on.running.unit.temps h.1.4
      (used_none N.on.running.env d (argument_none N.on.running.env (a.Use d) Y.none)))))))
      (λ all. quiet_agrees G w.own _ (steps.with_place w o to (λ at. steps.accept o at lower upper n)).1
      (subst Quietly (sym (accepts (context G.setup s G.p) (configuration s G.p) N.on.running.env k x (a.Use d) h.1.1.1 h.1.1.2))
      (then_quiet (place (clock_of G s) N.on.running.env s.store d) (taking (G.setup.inputs G.p) (s.consumed G.p))
      (λ at. then_quiet (writes_of at.at at.type (simple_value Char (next_input (G.setup.inputs G.p) (s.consumed G.p)))) (writing (G.setup.inputs G.p) (s.consumed G.p)) (λ ws. tt))))
      (operation_quiet G.program w o (op.Accept to lower upper n) tt))
    where
      writing : List ℕ → ℕ → Writes → StepResult
      writing input c ws = own_step (record (with_writes (configuration s G.p) ws k) { consumed = next_place input c })

      taking : List ℕ → ℕ → Place → StepResult
      taking input c at = and_then (writes_of at.at at.type (simple_value Char (next_input input c))) (writing input c)

      by : (P : Outcome Place) (r : Result ℕ machine.Fault) → PlaceAgrees (lies_in_sight (in_sight G) G (activations o.base o.frames (Do (a.Perform (a.Plain x) (one (a.Use d))) env ∷ k))) (Simple Char lower upper h.1.0) P r
          → PartOf G (after_step s G.p (and_then P (taking o.input o.consumed))) before (with_result o r (λ at. steps.accept o at lower upper n)).0
      by (Gives p) (Ok at) g =
          let v = next_input o.input o.consumed in
          let taken = record (set_word o at v) { consumed = next_place o.input o.consumed } in
          stores G s w before o (Do (a.Perform (a.Plain x) (one (a.Use d))) env) k Y.now (go_to n taken) (writing o.input o.consumed) Char Char lower upper h.1.0 at v (Gives p) g (simple_value Char v) (refl, refl)
          (λ l own is.
          arrived G before (after_step s G.p (writing o.input o.consumed ((l, Ordinal v) ∷ []))) (go_to n taken)
          Y.now.part.number Y.now.part.input (sym (with_at_here G.p (next_place o.input o.consumed) s.consumed))
          (with_at_here G.p (s.transcript G.p) s.transcript ∙ Y.now.part.transcript)
          Y.now.part.status
          (subst (RunsOn G (put l (Ordinal v) s.store) (go_to n taken)) (sym (with_at_here G.p k s.continuation))
          (runs_beside G (put l (Ordinal v) s.store) (go_to n (set_word o at v)) k o.activity o.output (next_place o.input o.consumed)
          (subst (λ z. RunsOn G (put l (Ordinal v) s.store) (go_to z (set_word o at v)) k) (sym h.1.2)
          (runs_moved G (put l (Ordinal v) s.store) (set_word o at v) (Do (a.Perform (a.Plain x) (one (a.Use d))) env ∷ k) k Y.now.on.left.2.0 Y.now.on.left.2.1
          (runs_written G s.store o (Do (a.Perform (a.Plain x) (one (a.Use d))) env ∷ k) Y.now.on l at Char lower upper h.1.0 v own is) refl refl refl Y.now.on.left.2.4 Y.now.on.left.2.2)))))
      by (Fault i) (Err f) g = faulted G s w before o (Do (a.Perform (a.Plain x) (one (a.Use d))) env) k Y.now i f g
      by (Gives v) (Err f) g = absurd g
      by (Fault i) (Ok m) g = absurd g

  -- If nothing happens.
  pub rests : (i : Task) (l : List Task) → Now G s w before o i l → PartOf G (after_step s G.p (own_step (configuration s G.p))) before o
  rests i l N =
      went G s before o N.part s.store o (s.continuation G.p) (subst (RunsOn G s.store o) (sym N.left) N.on)
      record { number = refl; input = refl; consumed = refl; output = refl; activity = refl }

  free_rests : (i : Task) (l : List Task) → IsFree G s o → Now G s w before o i l → (y : private.Acting) → PartOf G (after_step s G.p (own_step (configuration s G.p))) before (steps.in_monitor o y).0
  free_rests i l free N y =
      subst (λ g. PartOf G (after_step s G.p (own_step (configuration s G.p))) before (if steps.is_held g then y else private_outcome o).0) (sym free.1) (rests i l N)

  -- A designator of a queue is evaluated, and then nothing happens.
  queue_rests : IsFree G s o → (d : a.Designator) (Y : Ready G s w before o (a.Perform (a.Plain x) (one (a.Use d))) env k) (go : Place → StepResult) (act : ℕ → private.Acting)
      → ((at : Place) → go at ≡ own_step (configuration s G.p))
      → (P : Outcome Place) (r : Result ℕ machine.Fault) → PlaceAgrees (lies_in_sight (in_sight G) G (activations o.base o.frames (Do (a.Perform (a.Plain x) (one (a.Use d))) env ∷ k))) Queue P r
      → PartOf G (after_step s G.p (and_then P go)) before (with_result o r (λ at. steps.in_monitor o (act at))).0
  queue_rests free d Y go act same (Gives p) (Ok at) g =
      subst (λ z. PartOf G (after_step s G.p z) before (steps.in_monitor o (act at)).0) (sym (same p))
      (free_rests (Do (a.Perform (a.Plain x) (one (a.Use d))) env) k free Y.now (act at))
  queue_rests free d Y go act same (Fault i) (Err f) g = faulted G s w before o (Do (a.Perform (a.Plain x) (one (a.Use d))) env) k Y.now i f g
  queue_rests free d Y go act same (Gives v) (Err f) g = absurd g
  queue_rests free d Y go act same (Fault i) (Ok m) g = absurd g

  pub delay_steps : IsFree G s o → (d : a.Designator) (Y : Ready G s w before o (a.Perform (a.Plain x) (one (a.Use d))) env k) (queue : PlaceExpression) (n : ℕ)
      → By (one (a.Use d)) Y (op.Delay queue n) → Stepped G s w before o
  delay_steps free d Y queue n h =
      let N = Y.now in
      statement_steps G s w before o (a.Perform (a.Plain x) (one (a.Use d))) env k Y (op.Delay queue n) (not_called N.on.running.env (a.Plain x) (one (a.Use d)) h.1.0.0) refl h.0 refl
      (subst (λ z. PartOf G (after_step s G.p z) before (steps.with_place w o queue (λ at. steps.delay o at n)).0)
      (sym (delays (context G.setup s G.p) (configuration s G.p) N.on.running.env k x (a.Use d) h.1.0.1 h.1.0.2 h.1.0.3))
      (queue_rests free d Y (λ at. delay G.p (configuration s G.p) k at.at (marked_monitors k)) _ (λ at. ap (delay G.p (configuration s G.p) k at.at) (ap marked_monitors (sym N.left) ∙ free.0)) _ _
      (place_here G s w before o (Do (a.Perform (a.Plain x) (one (a.Use d))) env) k N N.sees d queue Queue o.counter N.on.left.2.3.0 N.on.left.2.1 N.on.running.unit.temps h.1.3
      (used_none N.on.running.env d (argument_none N.on.running.env (a.Use d) Y.none)))))
      (λ all. quiet_agrees G w.own _ (steps.with_place w o queue (λ at. steps.delay o at n)).1
      (subst Quietly (sym (delays (context G.setup s G.p) (configuration s G.p) N.on.running.env k x (a.Use d) h.1.0.1 h.1.0.2 h.1.0.3))
      (then_quiet (place (clock_of G s) N.on.running.env s.store d) (λ at. delay G.p (configuration s G.p) k at.at (marked_monitors k))
      (λ at. subst (λ ms. Quietly (delay G.p (configuration s G.p) k at.at ms)) (sym (ap marked_monitors (sym N.left) ∙ free.0)) tt)))
      (with_result_quiet o (place_of (view_of w o) queue) (λ at. steps.delay o at n) (λ at. unheld at)))
    where
      unheld : (at : ℕ) → (steps.delay o at n).1 ≡ private.NoEffect
      unheld at = ap (λ g. (if steps.is_held g then held_delay at else private_outcome o).1) free.1
        where
          held_delay : ℕ → private.Acting
          held_delay at =
              if nat_lt at (length o.words)
              then guard (int_le (word o.words at) (pos 0)) o faults.QueueTaken (go_to n (set_word o at (pos o.number)), private.Delays o.gate at)
              else private_outcome o

  pub wait_steps : (Y : Ready G s w before o (a.Perform (a.Plain x) a.NoExpression) env k) (n : ℕ) → By a.NoExpression Y (op.Wait n) → Stepped G s w before o
  wait_steps Y n h =
      let N = Y.now in
      statement_steps G s w before o (a.Perform (a.Plain x) a.NoExpression) env k Y (op.Wait n) (not_called N.on.running.env (a.Plain x) a.NoExpression h.1.0) refl h.0 refl
      (arrived G before (after_step s G.p (Gives (with_continuation (configuration s G.p) k, Waits))) (go_to n (record o { activity = private.Waiting }))
      N.part.number N.part.input (N.part.consumed ∙ sym (with_at_here G.p (s.consumed G.p) s.consumed))
      (with_at_here G.p (s.transcript G.p) s.transcript ∙ N.part.transcript)
      (ap private_status (with_at_here G.p stage.Waiting s.status))
      (subst (RunsOn G s.store (go_to n (record o { activity = private.Waiting }))) (sym (with_at_here G.p k s.continuation))
      (runs_beside G s.store (go_to n o) k private.Waiting o.output o.consumed
      (subst (λ z. RunsOn G s.store (go_to z o) k) (sym h.1.1) (goes_next G s w before o (a.Perform (a.Plain x) a.NoExpression) env k Y)))))
      (λ all. tt)
