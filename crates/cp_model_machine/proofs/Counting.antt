-- Whole private steps of `for`: its first test and the next ones.
--
-- The counter and the last value are in two temps after those in use, so what else is left to do
-- stays as it is. The variable is stored as by an assignment, and the same body is left on both
-- sides.
use Rattle.std.proofs.Common.{◌≡◌, ◌≢◌, ℕ, ◌+◌, ℤ, pos, List, ◌∷◌, length, Bool, true, false, Some, Result, Ok, Err, refl, ap, sym, subst, ◌∙◌, arith}
use Rattle.std.specs.Prelude.{if◌then◌else◌, slice_set}
use Rattle.std.proofs.lemmas.List.{get_or-set_other, get_or-set_same, length-set}
use Rattle.cp_model.specs.Abstract as a
use Rattle.cp_model.specs.Abstract.{Integer, Name}
use Rattle.cp_model.specs.Actions.{Acts, action}
use Rattle.cp_model.specs.Calls.{first_call, in_context}
use Rattle.cp_model.specs.Configurations.{StepResult, own_step, with_continuation, with_writes}
use Rattle.cp_model.specs.Continuations.{Do, ForNext, Task, marked_monitors, push}
use Rattle.cp_model.specs.Environments.{Environment}
use Rattle.cp_model.specs.Expressions.{place}
use Rattle.cp_model.specs.Integers.{same_integer}
use Rattle.cp_model.specs.Outcomes.{Fault, Gives, Outcome, and_then}
use Rattle.cp_model.specs.Places.{TypedValue, ordinal_of, simple_value}
use Rattle.cp_model.specs.StatementSteps.{for_step, is_past, next_counter}
use Rattle.cp_model.specs.States.{State, configuration, context}
use Rattle.cp_model.specs.Stores.{Ordinal, Store, put}
use Rattle.cp_model.specs.Turns.{after_step}
use Rattle.cp_model.specs.Types.{Simple}
use Rattle.cp_model.specs.declared.state.Fault as machine
use Rattle.cp_model.proofs.QuietSteps.{if_quiet}
use Rattle.cp_model_program.specs.Terms.{Rooted}
use Rattle.cp_model_program.specs.Programs as op
use Rattle.cp_model_program.specs.Sites.{operation_at}
use Rattle.cp_model_program.specs.Starts.{word}
use Rattle.cp_model_program.specs.TermsFor.{Agrees, nothing_known}
use Rattle.cp_model_program.specs.StatementsFor.{CodeFor, Counts}
use Rattle.cp_model_machine.specs.PrivateStates.{StepContext, PrivateState, go_to, private_outcome, set_temp, set_word, with_result}
use Rattle.cp_model_machine.specs.Steps.{act, count_to, first_count}
use Rattle.cp_model_machine.specs.Values.{root_place}
use Rattle.cp_model_machine.specs.Addresses.{Ground, activations, in_sight}
use Rattle.cp_model_machine.specs.Remaining.{ForRemaining, Remaining, Runs, innermost_gate, site}
use Rattle.cp_model_machine.specs.PartOf.{ActivationsMean, PartOf, RunsOn}
use Rattle.cp_model_machine.proofs.Assigning.{stores}
use Rattle.cp_model_machine.proofs.Doing.{Ready, acts_itself, place_here, quietly, statement_steps, value_here, view}
use Rattle.cp_model_machine.proofs.Evaluates.{ordinal_is}
use Rattle.cp_model_machine.proofs.Finding.{in_context_none, or_else_none}
use Rattle.cp_model_machine.proofs.Heres.{Sees}
use Rattle.cp_model_machine.proofs.RemainingKept.{SameBelow, left_kept}
use Rattle.cp_model_machine.proofs.Pushing.{marks_push, push_left}
use Rattle.cp_model_machine.proofs.RunningOn.{left_afresh, runs_moved, runs_written, words_moved, words_pushed}
use Rattle.cp_model_machine.proofs.Stepping.{Now, Stepped, both_step, clock_of, does, faulted, went}
use Rattle.cp_model_machine.proofs.Effects.{quiet_agrees}
use Rattle.cp_model_machine.proofs.QuietOperations.{for_quiet, operation_quiet}

-- The counter and the last value are put into their temps, and the body is left to do before the
-- next test.
pub counted_on : (G : Ground) (store : Store) (o : PrivateState) (i k : List Task) (R : RunsOn G store o i) (x : Name) (down : Bool) (st : a.Statement) (c : op.Counting) (next low test : ℕ) (n last : ℤ)
    → activations o.base o.frames k ≡ activations o.base o.frames i → ActivationsMean G store o.words o.base o.frames k ≡ ActivationsMean G store o.words o.base o.frames i → marked_monitors k ≡ marked_monitors i
    → Counts (site G R.running) x down c next low → operation_at G.program test ≡ Some (op.ForNext c) → CodeFor (site G R.running) nothing_known st c.body test (low + 2)
    → Remaining G o.temps o.limit nothing_known R.running o.frames next low k
    → RunsOn G store (go_to c.body (set_temp (set_temp o (o.temp + c.temp) n) (o.temp + c.temp + 1) last)) (push st R.running.env (ForNext x down n last st R.running.env ∷ k))
counted_on G store o i k R x down st c next low test n last same means marks counts there code left = record {
  at = record {
    running = R.running;
    runs = subst (λ z. Runs G z o.limit R.running o.frames) (sym len) R.runs;
    base = R.base;
    temp = R.temp;
    component = R.component;
    gate = R.gate ∙ ap innermost_gate (sym (marks_push st R.running.env (ForNext x down n last st R.running.env ∷ k) ∙ marks));
    live = 0;
    left = left_afresh G us o.limit 0 R.running o.frames c.body (low + 2) j counts.room
        (push_left G us o.limit R.running o.frames st c.body test (low + 2) (ForNext x down n last st R.running.env ∷ k) code (
          refl,
          (
            next,
            low,
            omega arith,
            record { counting = c; test = there; counts = counts; counter = first; last_is = second; again = code },
            left_kept G o.temps us o.limit (sym len) nothing_known nothing_known R.running o.frames next low k (λ s m z. z) below left,
          ),
        ));
    next_value = λ c n m e. omega arith;
  };
  words_mean = words_pushed G store o.words o.base o.component o.frames st R.running.env (ForNext x down n last st R.running.env ∷ k)
      (words_moved G store o.words o.base o.component o.frames i (ForNext x down n last st R.running.env ∷ k) same means R.words_mean);
}
  where
    j : List Task
    j = push st R.running.env (ForNext x down n last st R.running.env ∷ k)

    vs : List ℤ
    vs = slice_set o.temps (o.temp + c.temp) n

    us : List ℤ
    us = slice_set vs (o.temp + c.temp + 1) last

    len : length us ≡ length o.temps
    len = length-set vs (o.temp + c.temp + 1) last ∙ length-set o.temps (o.temp + c.temp) n

    other : (i : ℕ) → i ≢ o.temp + c.temp + 1 → word us i ≡ word vs i
    other i d = get_or-set_other vs (o.temp + c.temp + 1) i last (pos 0) d

    other2 : (i : ℕ) → i ≢ o.temp + c.temp → word vs i ≡ word o.temps i
    other2 i d = get_or-set_other o.temps (o.temp + c.temp) i n (pos 0) d

    first : word us (R.running.temp + low) ≡ n
    first =
        ap (word us) (omega (arith, R.temp, counts.temp))
        ∙ (other (o.temp + c.temp) (λ e. absurd (omega (arith, e)))
        ∙ get_or-set_same o.temps (o.temp + c.temp) n (pos 0) (omega (arith, R.temp, counts.temp, counts.room, R.runs.temps_fit)))

    second : word us (R.running.temp + (low + 1)) ≡ last
    second =
        ap (word us) (omega (arith, R.temp, counts.temp))
        ∙ get_or-set_same vs (o.temp + c.temp + 1) last (pos 0) (omega (arith, R.temp, counts.temp, counts.room, R.runs.temps_fit, length-set o.temps (o.temp + c.temp) n))

    below : SameBelow (R.running.temp + low) o.temps us
    below i q = other i (λ e. absurd (omega (arith, q, e, R.temp, counts.temp))) ∙ other2 i (λ e. absurd (omega (arith, q, e, R.temp, counts.temp)))

module _ (G : Ground) (s : State) (w : StepContext) (before : List ℕ) (o : PrivateState) (i : Task) (k : List Task) (N : Now G s w before o i k) where
  -- The counter is stored, on both sides.
  pub counts_to : Sees G (in_sight G) s.store N.on.running.env → (x : Name) (down : Bool) (st : a.Statement) (c : op.Counting) (next low test : ℕ) (n last : ℤ)
      → activations o.base o.frames k ≡ activations o.base o.frames (i ∷ k)
      → ((store : Store) (words : List ℤ) → ActivationsMean G store words o.base o.frames k ≡ ActivationsMean G store words o.base o.frames (i ∷ k)) → marked_monitors k ≡ marked_monitors (i ∷ k)
      → Counts (site G N.on.running) x down c next low → operation_at G.program test ≡ Some (op.ForNext c) → CodeFor (site G N.on.running) nothing_known st c.body test (low + 2)
      → Remaining G o.temps o.limit nothing_known N.on.running o.frames next low k
      → PartOf G (after_step s G.p (for_step (context G.setup s G.p) (configuration s G.p) N.on.running.env k x down n last st)) before (count_to w o c n last).0
  counts_to sees x down st c next low test n last same means marks counts there code left =
      let at = root_place (view G s w before o i k N) c.variable in
      let after = go_to c.body (set_temp (set_temp (set_word o at n) (o.temp + c.temp) n) (o.temp + c.temp + 1) last) in
      stores G s w before o i k N after (λ ws. own_step (with_writes (configuration s G.p) ws j)) counts.base Integer c.low c.high counts.start at n (place (clock_of G s) N.on.running.env s.store (a.Plain x))
      (place_here G s w before o i k N sees (a.Plain x) (Rooted c.variable) (Simple counts.base c.low c.high counts.start) test test low low (refl, counts.variable) refl)
      (simple_value Integer n) (refl, refl)
      (λ l own is. went G s before o N.part (put l (Ordinal n) s.store) after j
      (counted_on G (put l (Ordinal n) s.store) (set_word o at n) (i ∷ k) k (runs_written G s.store o (i ∷ k) N.on l at counts.base c.low c.high counts.start n own is)
      x down st c next low test n last same (means (put l (Ordinal n) s.store) (slice_set o.words at n)) marks counts there code left)
      record { number = refl; input = refl; consumed = refl; output = refl; activity = refl })
    where
      j : List Task
      j = push st N.on.running.env (ForNext x down n last st N.on.running.env ∷ k)

-- The first test of a `for`.
pub for_steps : (G : Ground) (s : State) (w : StepContext) (before : List ℕ) (o : PrivateState) (x : Name) (down : Bool) (e f : a.Expression) (st : a.Statement) (env : Environment) (k : List Task)
    → Ready G s w before o (a.For x down e f st) env k → Stepped G s w before o
for_steps G s w before o x down e f st env k Y =
    let N = Y.now in
    let here = N.on.running.env in
    let h = N.on.left.2.3 in
    let none = or_else_none (in_context (λ y. a.For x down y f st) (first_call here (a.Literal 0) e)) (in_context (λ y. a.For x down e y st) (first_call here (a.Literal 0) f)) Y.none in
    statement_steps G s w before o (a.For x down e f st) env k Y (op.For h.1 h.2 h.3) refl refl (ap (operation_at G.program) Y.counter ∙ h.8) refl
    (by _ _ _ _
    (value_here G s w before o (Do (a.For x down e f st) env) k N N.sees e h.2 h.4 o.counter h.5 N.on.left.2.1 h.6 h.13 (in_context_none (λ y. a.For x down y f st) (first_call here (a.Literal 0) e) none.0))
    (value_here G s w before o (Do (a.For x down e f st) env) k N N.sees f h.3 h.4 h.5 h.0 h.6 N.on.running.unit.temps h.14 (in_context_none (λ y. a.For x down e y st) (first_call here (a.Literal 0) f) none.1)))
    (quietly G s w before o (a.For x down e f st) env k Y (op.For h.1 h.2 h.3) tt tt)
  where
    here : Environment
    here = Y.now.on.running.env

    c : op.Counting
    c = Y.now.on.left.2.3.1

    counts : Counts (site G Y.now.on.running) x down c Y.now.on.left.2.0 Y.now.on.left.2.1
    counts = Y.now.on.left.2.3.10

    defined : ℤ → ℤ → StepResult
    defined n m = if is_past down n m then own_step (with_continuation (configuration s G.p) k) else for_step (context G.setup s G.p) (configuration s G.p) here k x down n m st

    computed : Bool → ℤ → ℤ → PrivateState
    computed way n l = (if is_past way n l then private_outcome (go_to c.next o) else count_to w o c n l).0

    both : (n l : ℤ) (b : Bool)
        → PartOf G (after_step s G.p (if b then own_step (with_continuation (configuration s G.p) k) else for_step (context G.setup s G.p) (configuration s G.p) here k x down n l st)) before
        (if b then private_outcome (go_to c.next o) else count_to w o c n l).0
    both n l true =
        went G s before o Y.now.part s.store (go_to c.next o) k
        (subst (λ z. RunsOn G s.store (go_to z o) k) (sym counts.next_is)
        (runs_moved G s.store o (Do (a.For x down e f st) env ∷ k) k Y.now.on.left.2.0 Y.now.on.left.2.1 Y.now.on refl refl refl Y.now.on.left.2.4 Y.now.on.left.2.2))
        record { number = refl; input = refl; consumed = refl; output = refl; activity = refl }
    both n l false =
        counts_to G s w before o (Do (a.For x down e f st) env) k Y.now Y.now.sees x down st c Y.now.on.left.2.0 Y.now.on.left.2.1 Y.now.on.left.2.3.7 n l refl (λ store words. refl) refl
        counts Y.now.on.left.2.3.9 Y.now.on.left.2.3.15 Y.now.on.left.2.4

    by : (O : Outcome TypedValue) (r : Result ℤ machine.Fault) (P : Outcome TypedValue) (q : Result ℤ machine.Fault) → Agrees Y.now.on.left.2.3.4 O r → Agrees Y.now.on.left.2.3.4 P q
        → PartOf G (after_step s G.p (and_then O (λ v. and_then P (λ w. defined (ordinal_of v) (ordinal_of w))))) before
        (with_result o r (λ n. with_result o q (λ l. first_count w o c n l))).0
    by (Fault i) (Err j) P q g r2 = faulted G s w before o (Do (a.For x down e f st) env) k Y.now i j g
    by (Fault i) (Ok n) P q g r2 = absurd g
    by (Gives v) (Err f) P q g r2 = absurd g
    by (Gives v) (Ok n) (Fault i) (Err j) g r2 = faulted G s w before o (Do (a.For x down e f st) env) k Y.now i j r2
    by (Gives v) (Ok n) (Fault i) (Ok l) g r2 = absurd r2
    by (Gives v) (Ok n) (Gives u) (Err f) g r2 = absurd r2
    by (Gives v) (Ok n) (Gives u) (Ok l) g r2 =
        subst (λ z. PartOf G (after_step s G.p (defined z (ordinal_of u))) before (computed c.down n l)) (sym (ordinal_is v n g.1))
        (subst (λ z. PartOf G (after_step s G.p (defined n z)) before (computed c.down n l)) (sym (ordinal_is u l r2.1))
        (subst (λ z. PartOf G (after_step s G.p (defined n l)) before (computed z n l)) (sym counts.way)
        (both n l (is_past down n l))))

-- The next tests of a `for`.
pub for_next_steps : (G : Ground) (s : State) (w : StepContext) (before : List ℕ) (o : PrivateState) (x : Name) (down : Bool) (n last : ℤ) (st : a.Statement) (env : Environment) (k : List Task)
    → Now G s w before o (ForNext x down n last st env) k → Stepped G s w before o
for_next_steps G s w before o x down n last st env k N =
    let F = N.on.left.1.3 in
    both_step G s w before o (ForNext x down n last st env) k N (Acts (ForNext x down n last st N.on.running.env) k) (op.ForNext F.counting)
    (ap (λ e. action (ForNext x down n last st e ∷ k)) N.on.left.0 ∙ acts_itself (ForNext x down n last st N.on.running.env) k refl refl)
    refl F.test refl
    (subst (PartOf G (after_step s G.p (defined (same_integer n last))) before)
    (sym (ap (λ z. computed F.counting.down z (word o.temps (o.temp + F.counting.temp + 1))) (ap (word o.temps) (omega (arith, N.on.temp, F.counts.temp)) ∙ F.counter)
    ∙ (ap (computed F.counting.down n) (ap (word o.temps) (omega (arith, N.on.temp, F.counts.temp)) ∙ F.last_is)
    ∙ ap (λ z. computed z n last) F.counts.way)))
    (by (same_integer n last)))
    (λ all. quiet_agrees G w.own (does G s (Acts (ForNext x down n last st N.on.running.env) k)) (act G.program w o (op.ForNext F.counting)).1
    (if_quiet (same_integer n last) _ _ tt (for_quiet (context G.setup s G.p) (configuration s G.p) N.on.running.env k x down (next_counter down n) last st))
    (operation_quiet G.program w o (op.ForNext F.counting) tt))
  where
    F : ForRemaining (site G N.on.running) o.temps N.on.running.temp x down n last st o.counter N.on.left.1.0 N.on.left.1.1
    F = N.on.left.1.3

    defined : Bool → StepResult
    defined b =
        if b then own_step (with_continuation (configuration s G.p) k)
        else for_step (context G.setup s G.p) (configuration s G.p) N.on.running.env k x down (next_counter down n) last st

    computed : Bool → ℤ → ℤ → PrivateState
    computed way n last =
        (if same_integer n last then private_outcome (go_to F.counting.next o) else count_to w o F.counting (next_counter way n) last).0

    by : (b : Bool) → PartOf G (after_step s G.p (defined b)) before
        (if b then private_outcome (go_to F.counting.next o) else count_to w o F.counting (next_counter down n) last).0
    by true =
        went G s before o N.part s.store (go_to F.counting.next o) k
        (subst (λ z. RunsOn G s.store (go_to z o) k) (sym F.counts.next_is)
        (runs_moved G s.store o (ForNext x down n last st env ∷ k) k N.on.left.1.0 N.on.left.1.1 N.on refl refl refl N.on.left.1.4 (omega (arith, N.on.left.1.2))))
        record { number = refl; input = refl; consumed = refl; output = refl; activity = refl }
    by false =
        counts_to G s w before o (ForNext x down n last st env) k N N.sees x down st F.counting N.on.left.1.0 N.on.left.1.1 o.counter (next_counter down n) last refl (λ store words. refl) refl
        F.counts F.test F.again N.on.left.1.4
