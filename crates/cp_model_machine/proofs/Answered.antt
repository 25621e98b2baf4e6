-- The value of a call takes the place of the call in the task that waits for it.
--
-- The code at the call was shown to represent its task whatever value the call has, if the call's
-- temp holds it (`Next`). That temp comes after those in use, so what is known of the others
-- stays known.
use Rattle.std.proofs.Common.{◌≡◌, ◌≢◌, inl, inr, ℕ, ◌+◌, ◌≤◌, ℤ, pos, List, [], ◌∷◌, length, Option, Some, None, refl, ap, sym, subst, ◌∙◌, arith}
use Rattle.std.specs.Prelude.{slice_get, slice_set}
use Rattle.std.proofs.lemmas.List.{get_or-set_other, get_or-set_same, length-set}
use Rattle.cp_model.specs.Abstract as a
use Rattle.cp_model.specs.Abstract.{BaseType, Name, System}
use Rattle.cp_model.specs.Calls.{Found, UserCall, call_in_statement, first_call, in_context}
use Rattle.cp_model.specs.CallSteps.{with_answer}
use Rattle.cp_model.specs.Continuations.{Do, EndBody, EndCall, EndProcess, ForNext, RepeatTest, Task, WhileTest}
use Rattle.cp_model.specs.Environments.{Environment}
use Rattle.cp_model.specs.Types.{base_of_type, named_type}
use Rattle.cp_model.proofs.Options.{same_some}
use Rattle.cp_model_program.specs.Programs as op
use Rattle.cp_model_program.specs.Programs.{Call, Operation}
use Rattle.cp_model_program.specs.Sites.{RoutineOf, UnitText, operation_at}
use Rattle.cp_model_program.specs.Starts.{word}
use Rattle.cp_model_program.specs.TermsFor.{Knowns, TermFor, nothing_known}
use Rattle.cp_model_program.specs.StatementsFor.{CodeFor}
use Rattle.cp_model_machine.specs.PrivateStates as machine
use Rattle.cp_model_machine.specs.Addresses.{Ground}
use Rattle.cp_model_machine.specs.Remaining.{IsTask, Remaining, Loop, LoopRemaining, Repeat, Running, While, held_below, kept_below, site}
use Rattle.cp_model_machine.specs.PartOf.{CallsBehind}
use Rattle.cp_model_machine.proofs.NextCalls.{AllMade, Calling, Follows, Learns, Next}
use Rattle.cp_model_machine.proofs.FirstCalls.{TermAdvances, term_next}
use Rattle.cp_model_machine.proofs.AssignCalls.{StatementAdvances}
use Rattle.cp_model_machine.proofs.StatementCalls.{IsFunction, own_no_function, own_place, statement_next}
use Rattle.cp_model_machine.proofs.Loops.{AtTest, left_at_test, loop_task, made_at_test}
use Rattle.cp_model_machine.proofs.RemainingKept.{SameBelow, left_kept}

abbrev call_or : Call → Option Operation → Call
call_or d (Some (op.Function c into next)) = c
call_or d _ = d

abbrev into_or : ℕ → Option Operation → ℕ
into_or d (Some (op.Function c into next)) = into
into_or d _ = d

abbrev next_or : ℕ → Option Operation → ℕ
next_or d (Some (op.Function c into next)) = next
next_or d _ = d

abbrev routine_of : a.Routine → UnitText → a.Routine
routine_of d (RoutineOf s r) = r
routine_of d _ = d

module _ (G : Ground) (temps : List ℤ) (limit : ℕ) (R : Running) (fs : List machine.Frame) (live place : ℕ) (call : Call) (into next : ℕ)
    (at : operation_at G.program place ≡ Some (op.Function call into next)) (room : R.temp + R.unit.temps ≤ length temps) (behind : live ≤ into) where
  -- What is known while the call is made, and after its value is put into its temp.
  abbrev pub Known : Knowns
  Known = kept_below call.temps live temps R.temp

  abbrev pub answered_temps : ℤ → List ℤ
  answered_temps n = slice_set temps (R.temp + into) n

  abbrev pub Learnt : ℤ → Knowns
  Learnt n = held_below (into + 1) (answered_temps n) R.temp

  other : (n : ℤ) (i : ℕ) → i ≢ R.temp + into → word (answered_temps n) i ≡ word temps i
  other n i d = get_or-set_other temps (R.temp + into) i n (pos 0) d

  -- The base type of the value, whichever routine is called.
  abbrev pub BaseIs : BaseType → Type 0
  BaseIs base =
      (s : System) (r : a.Routine) (t : Name) → slice_get G.texts call.routine ≡ Some (RoutineOf s r) → r.result ≡ Some t
      → base ≡ base_of_type (named_type R.env.globals t)

  -- What follows a call that is found here.
  record Answer {A : Type 0} (find : a.Expression → Found A) (For : Knowns → A → ℕ → Type 0) (last low : ℕ) : Type 0 where
    base : BaseType
    user : UserCall
    fill : a.Expression → A
    found : (v : a.Expression) → find v ≡ Some (user, fill v)
    base_is : BaseIs base
    lower : low ≤ into
    code : (n : ℤ) → For (Learnt n) (fill (a.Known base n)) next
    below : (n : ℤ) → SameBelow (R.temp + low) temps (answered_temps n)
    follows : (IsFunction (operation_at G.program last) → ⊥) → CallsBehind G (into + 1) next

  by_next : {A : Type 0} (find : a.Expression → Found A) (For : Knowns → A → ℕ → Type 0) (last low : ℕ)
      → Next (site G R) Known find For place last low R.unit.temps → Answer find For last low
  by_next find For last low N = record {
    base = N.base;
    user = N.user;
    fill = N.fill;
    found = N.found;
    base_is = λ s r t there result.
        let same : RoutineOf s r ≡ RoutineOf _ N.user.callee.routine =
        same_some _ _ (sym there ∙ (ap (λ (c : Call). slice_get G.texts c.routine) call_is ∙ N.ready.calls.runs.text)) in
        let routines : r ≡ N.user.callee.routine = ap (routine_of r) same in
        let names : t ≡ N.ready.answers.0 = same_some t N.ready.answers.0 (sym result ∙ (ap (λ (y : a.Routine). y.result) routines ∙ N.ready.answers.1)) in
        sym N.ready.answers.2 ∙ ap (λ y. base_of_type (named_type R.env.globals y)) (sym names);
    lower = omega (arith, N.lower, temp_is);
    code = λ n. subst (For (Learnt n) (N.fill (a.Known N.base n))) (sym next_is) (N.answered n (Learnt n) (learns n) (knows n));
    below = λ n i q. other n i (λ e. absurd (omega (arith, q, e, N.lower, temp_is)));
    follows = λ none. behind_next none N.follows;
  }
    where
      call_is : call ≡ N.ready.call
      call_is = ap (call_or call) (sym at ∙ N.ready.op)

      temp_is : into ≡ N.temp
      temp_is = ap (into_or 0) (sym at ∙ N.ready.op)

      next_is : next ≡ N.after
      next_is = ap (next_or 0) (sym at ∙ N.ready.op)

      kept_is : call.temps ≡ N.ready.low
      kept_is = ap (λ (c : Call). c.temps) call_is ∙ N.ready.calls.runs.temps

      learns : (n : ℤ) → Learns Known (Learnt n) N.ready.low N.temp
      learns n s m (inl q) w =
          (omega (arith, w.0, behind), other n (R.temp + s) (λ e. absurd (omega (arith, e, w.0, behind))) ∙ w.1 (omega (arith, q, kept_is)))
      learns n s m (inr q) w = absurd (omega (arith, q, w.0, behind, temp_is))

      knows : (n : ℤ) → Learnt n N.temp n
      knows n = (
        omega (arith, temp_is),
        ap (λ z. word (answered_temps n) (R.temp + z)) (sym temp_is)
            ∙ get_or-set_same temps (R.temp + into) n (pos 0) (omega (arith, room, N.upper, temp_is)),
      )

      behind_next : (IsFunction (operation_at G.program last) → ⊥) → Follows (site G R) N.temp N.after last
          → CallsBehind G (into + 1) next
      behind_next none (inl e) c t m is = absurd (none (subst IsFunction (sym is ∙ ap (operation_at G.program) (next_is ∙ e)) tt))
      behind_next none (inr f) c t m is =
          let same : t ≡ f.1 = ap (into_or 0) (sym is ∙ (ap (operation_at G.program) next_is ∙ f.3)) in
          omega (arith, same, f.4, temp_is)

  -- What is left to do, with the value in the place of the call.
  abbrev pub RemainingAnswered : List Task → Type 0
  RemainingAnswered k =
      (base : BaseType) × BaseIs base × CallsBehind G (into + 1) next
      × ((n : ℤ) → Remaining G (answered_temps n) limit (Learnt n) R fs next R.unit.temps (with_answer (a.Known base n) k))

  rest_kept : (n : ℤ) (place low : ℕ) (k : List Task) → SameBelow (R.temp + low) temps (answered_temps n)
      → Remaining G temps limit nothing_known R fs place low k → Remaining G (answered_temps n) limit nothing_known R fs place low k
  rest_kept n place low k below h =
      left_kept G temps (answered_temps n) limit (sym (length-set temps (R.temp + into) n)) nothing_known nothing_known R fs place low k (λ s m z. z) below h

  statement_answered : (s : a.Statement) (env : Environment) (k : List Task)
      → Remaining G temps limit Known R fs place R.unit.temps (Do s env ∷ k) → RemainingAnswered (Do s env ∷ k)
  statement_answered s env k h = by (statement_next (site G R) Known s place h.2.0 h.2.1 h.1 h.2.3)
    where
      last : ℕ
      last = own_place (site G R) Known s place h.2.0 h.2.1 h.2.3

      none : IsFunction (operation_at G.program last) → ⊥
      none = own_no_function (site G R) Known s place h.2.0 h.2.1 h.2.3 h.1

      by : StatementAdvances (site G R) Known s place last h.2.0 h.2.1 → RemainingAnswered (Do s env ∷ k)
      by (AllMade p q r) = absurd (none (subst IsFunction (sym at ∙ ap (operation_at G.program) p) tt))
      by (Calling N) =
          let X = by_next (λ v. call_in_statement R.env v s) (λ L x after. CodeFor (site G R) L x after h.2.0 h.2.1 × IsTask x) last h.2.1 N in (
            X.base,
            X.base_is,
            X.follows none,
            λ n. subst (λ z. Remaining G (answered_temps n) limit (Learnt n) R fs next R.unit.temps z) (sym (answer X (a.Known X.base n)))
                (h.0, (X.code n).1, (h.2.0, h.2.1, h.2.2, (X.code n).0, rest_kept n h.2.0 h.2.1 k (X.below n) h.2.4)),
          )
        where
          answer : (X : Answer (λ v. call_in_statement R.env v s) (λ L x after. CodeFor (site G R) L x after h.2.0 h.2.1 × IsTask x) last h.2.1) (v : a.Expression)
              → with_answer v (Do s env ∷ k) ≡ Do (X.fill v) env ∷ k
          answer X v =
              (λ i. elim (in_context (λ y. Do y env) (call_in_statement (h.0 i) v s)) [ None ↦ Do s env ∷ k | Some f ↦ f.1 ∷ k ])
              ∙ (λ i. elim (in_context (λ y. Do y env) (X.found v i)) [ None ↦ Do s env ∷ k | Some f ↦ f.1 ∷ k ])

  loop_answered : (loop : Loop) (now e : a.Expression) (s : a.Statement) (env : Environment) (k : List Task)
      → AtTest loop G temps limit Known R fs place R.unit.temps now e s env k → RemainingAnswered (loop_task loop now e s env ∷ k)
  loop_answered loop now e s env k h = by (term_next (site G R) Known now W.term W.base place W.last h.1.1 R.unit.temps W.rest)
    where
      W : LoopRemaining loop (site G R) Known now e s place h.1.0 h.1.1
      W = h.1.3

      none : IsFunction (operation_at G.program W.last) → ⊥
      none f = subst IsFunction W.test f

      learnt : (n : ℤ) (x : a.Expression) → TermFor (site G R) (Learnt n) x W.term W.base next W.last h.1.1 R.unit.temps → LoopRemaining loop (site G R) (Learnt n) x e s next h.1.0 h.1.1
      learnt n x rest = record {
        start = W.start;
        last = W.last;
        way = W.way;
        term = W.term;
        base = W.base;
        test = W.test;
        rest = rest;
        whole = W.whole;
        again = W.again;
      }

      answer : (v x : a.Expression) (u : UserCall) → first_call R.env v now ≡ Some (u, x) → with_answer v (loop_task loop now e s env ∷ k) ≡ loop_task loop x e s env ∷ k
      answer v x u found =
          ap (λ (z : Found Task). elim z as (λ y. List Task) [ None ↦ loop_task loop now e s env ∷ k | Some f ↦ f.1 ∷ k ])
          (made_at_test now e s env loop v R.env h.0 u x found)

      by : TermAdvances (site G R) Known now W.term W.base place W.last h.1.1 R.unit.temps → RemainingAnswered (loop_task loop now e s env ∷ k)
      by (AllMade p q r) = absurd (none (subst IsFunction (sym at ∙ ap (operation_at G.program) p) tt))
      by (Calling N) =
          let X = by_next (λ v. first_call R.env v now) (λ L x after. TermFor (site G R) L x W.term W.base after W.last h.1.1 R.unit.temps) W.last h.1.1 N in (
            X.base,
            X.base_is,
            X.follows none,
            λ n. subst (λ z. Remaining G (answered_temps n) limit (Learnt n) R fs next R.unit.temps z) (sym (answer (a.Known X.base n) (X.fill (a.Known X.base n)) X.user (X.found (a.Known X.base n))))
                (left_at_test G (answered_temps n) limit (Learnt n) R fs next R.unit.temps (X.fill (a.Known X.base n)) e s env k loop
                (h.0, (h.1.0, h.1.1, h.1.2, learnt n (X.fill (a.Known X.base n)) (X.code n), rest_kept n h.1.0 h.1.1 k (X.below n) h.1.4))),
          )

  no_function : {A : Type 0} (place' : ℕ) (o : Operation) → place ≡ place' → operation_at G.program place' ≡ Some o → (IsFunction (Some o) → ⊥) → A
  no_function place' o e is none = absurd (none (subst IsFunction (sym at ∙ (ap (operation_at G.program) e ∙ is)) tt))

  pub task_answered : (k : List Task) → Remaining G temps limit Known R fs place R.unit.temps k → RemainingAnswered k
  task_answered [] h = absurd h
  task_answered (Do s env ∷ k) h = statement_answered s env k h
  task_answered (WhileTest now e s env ∷ k) h = loop_answered While now e s env k h
  task_answered (RepeatTest now s e env ∷ k) h = loop_answered Repeat now e s env k h
  task_answered (ForNext x down n last s env ∷ k) h = no_function place _ refl h.1.3.test (λ f. f)
  task_answered (EndCall env gate ∷ k) h = by fs h
    where
      by : (gs : List machine.Frame) → Remaining G temps limit Known R gs place R.unit.temps (EndCall env gate ∷ k) → RemainingAnswered (EndCall env gate ∷ k)
      by [] h = absurd h
      by (f ∷ gs) h = no_function place _ refl h.1.return (λ f. f)
  task_answered (EndBody gate ∷ k) h = by fs h
    where
      by : (gs : List machine.Frame) → Remaining G temps limit Known R gs place R.unit.temps (EndBody gate ∷ k) → RemainingAnswered (EndBody gate ∷ k)
      by [] h = absurd h
      by (f ∷ gs) h = no_function place _ refl h.1 (λ f. f)
  task_answered (EndProcess ∷ k) h = no_function place _ refl h.3 (λ f. f)
