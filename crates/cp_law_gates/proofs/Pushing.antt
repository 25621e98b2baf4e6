-- Statements that are put before what is left, and calls that are replaced by their values, keep
-- the tasks in order.
use Rattle.std.proofs.Common.{◌≡◌, ℕ, List, [], ◌∷◌, true, Option, Some, None, refl, ap, sym, subst, ◌∙◌}
use Rattle.cp_model.specs.Abstract.{Class, Monitor, Process, Sort, Assign, At, Binary, Call, Case, Cycle, Designator, Expression, Expressions, For, If, Init, Known, Letter, Literal, MoreExpressions, Name, Negative, NoExpression, Not, Nothing, Part, Perform, Plain, Positive, Repeat, Seq, Statement, Use, While}
use Rattle.cp_model.specs.Types.{ArrayOf, ComponentOf, NoType, Queue, RecordOf, ResolvedType, Simple}
use Rattle.cp_model.specs.Declarations.{Variable, declarations}
use Rattle.cp_model.specs.Expressions.{name_of}
use Rattle.cp_model.specs.Environments.{Environment, Frame, meaning}
use Rattle.cp_model.specs.Continuations.{Do, EndBody, EndCall, EndProcess, ForNext, RepeatTest, Task, WhileTest, marked_monitors, push}
use Rattle.cp_model.specs.Components.{Component, component_named, declared_monitor}
use Rattle.cp_model.specs.Calls.{Found, call_in_arguments, call_in_designator, call_in_statement, callee, first_call, in_context, or_else, user_call}
use Rattle.cp_model.specs.CallSteps.{with_answer}
use Rattle.cp_law_typing.specs.PassedRights.{AllPassEarlier, PassesEarlier}
use Rattle.cp_law_gates.specs.InOrder.{AllFit, CallEndsNext, Fits, FrameFits, InitFits, InitOf, Keeps, OwnQueue, OwnVariable, StandardFits, World, first_name, is_of_queues}

module _ (w : World) where
  -- A list with more tasks but the same end marks.
  pub record Put (before after : List Task) : Type 0 where
    pub marks : marked_monitors after ≡ marked_monitors before
    pub next : CallEndsNext before → CallEndsNext after
    pub fits : AllFit w after

  pub fits_before : (env : Environment) (k l : List Task) → Put k l → Fits w env k → Fits w env l
  fits_before env k l P F = record { here = F.here; owner = subst (Rattle.cp_law_gates.specs.InOrder.OwnerFits env.component.owner) (sym P.marks) F.owner; frame = by env.frame F.frame }
    where
      by : (f : Option Frame) → FrameFits f k → FrameFits f l
      by None h = h
      by (Some f) h = P.next h

  then_put : (a b c : List Task) → Put a b → Put b c → Put a c
  then_put a b c P Q = record { marks = Q.marks ∙ P.marks; next = λ h. Q.next (P.next h); fits = Q.fits }

  pub push_fits : (x : Statement) (env : Environment) (k : List Task) → Fits w env k → Keeps w env x → AllFit w k → Put k (push x env k)
  push_fits Nothing env k F h o = record { marks = refl; next = λ n. n; fits = o }
  push_fits (Seq a b) env k F h o =
      let B = push_fits b env k F h.1 o in
      let A = push_fits a env (push b env k) (fits_before env k (push b env k) B F) h.0 B.fits in
      then_put k (push b env k) (push a env (push b env k)) B A
  push_fits (While e x) env k F h o = record { marks = refl; next = λ n. n; fits = ((F, h), o) }
  push_fits (Repeat x e) env k F h o =
      let T : Put k (RepeatTest e x e env ∷ k) = record { marks = refl; next = λ n. n; fits = ((F, h), o) } in
      then_put k (RepeatTest e x e env ∷ k) (push x env (RepeatTest e x e env ∷ k)) T
      (push_fits x env (RepeatTest e x e env ∷ k) (fits_before env k (RepeatTest e x e env ∷ k) T F) h T.fits)
  push_fits (Assign d e) env k F h o = record { marks = refl; next = λ n. n; fits = ((F, h), o) }
  push_fits (Perform d es) env k F h o = record { marks = refl; next = λ n. n; fits = ((F, h), o) }
  push_fits (If e a b) env k F h o = record { marks = refl; next = λ n. n; fits = ((F, h), o) }
  push_fits (Case e arms) env k F h o = record { marks = refl; next = λ n. n; fits = ((F, h), o) }
  push_fits (For v down a b s) env k F h o = record { marks = refl; next = λ n. n; fits = ((F, h), o) }
  push_fits (Cycle s) env k F h o = record { marks = refl; next = λ n. n; fits = ((F, h), o) }
  push_fits (Init x es) env k F h o = record { marks = refl; next = λ n. n; fits = ((F, h), o) }

  -- ---- Calls that are replaced

  IfFound : {A : Type 0} → (A → Type 0) → Found A → Type 0
  IfFound Q None = Unit {0}
  IfFound Q (Some f) = Q f.1

  context_found : {A B : Type 0} (Q : A → Type 0) (R : B → Type 0) (f : A → B) (x : Found A) → ((a : A) → Q a → R (f a)) → IfFound Q x → IfFound R (in_context f x)
  unfolding IfFound
  context_found Q R f None h o = tt
  context_found Q R f (Some x) h o = h x.1 o

  or_found : {A : Type 0} (Q : A → Type 0) (x y : Found A) → IfFound Q x → IfFound Q y → IfFound Q (or_else x y)
  unfolding IfFound
  or_found Q None y h k = k
  or_found Q (Some x) y h k = h

  anything_found : {A : Type 0} (x : Found A) → IfFound (λ a. Unit {0}) x
  unfolding IfFound
  anything_found None = tt
  anything_found (Some x) = tt

  module _ (env : Environment) (v : Expression) where
    SameName : Designator → Designator → Type 0
    SameName d c = first_name c ≡ first_name d

    same_name : (d : Designator) → IfFound (SameName d) (call_in_designator env v d)
    unfolding IfFound SameName
    same_name (Plain x) = tt
    same_name (Part d x) = context_found (SameName d) (SameName (Part d x)) (λ y. Part y x) (call_in_designator env v d) (λ a h. h) (same_name d)
    same_name (At d e) =
        or_found (SameName (At d e)) (in_context (λ y. At y e) (call_in_designator env v d)) (in_context (At d) (first_call env v e))
        (context_found (SameName d) (SameName (At d e)) (λ y. At y e) (call_in_designator env v d) (λ a h. h) (same_name d))
        (context_found (λ a. Unit {0}) (SameName (At d e)) (At d) (first_call env v e) (λ a h. refl) (anything_found (first_call env v e)))

    no_call : (d : Designator) → callee env d ≡ None → user_call env d NoExpression v ≡ None
    no_call d h = ap (λ x. elim x as (λ y. Found Expression) [ None ↦ None | Some c ↦ Some (record { callee = c; arguments = NoExpression; environment = env }, v) ]) h

    -- A designator in which a call was replaced calls nothing itself.
    calls_nothing : (d : Designator) → IfFound (λ c. callee env c ≡ None) (call_in_designator env v d)
    unfolding IfFound
    calls_nothing (Plain x) = tt
    calls_nothing (Part (Plain x) y) = tt
    calls_nothing (Part (Part d x) y) = twice (call_in_designator env v d)
      where
        twice : (o : Found Designator) → IfFound (λ c. callee env c ≡ None) (in_context (λ z. Part z y) (in_context (λ z. Part z x) o))
        twice None = tt
        twice (Some f) = refl
    calls_nothing (Part (At d e) y) = twice (call_in_designator env v d) (first_call env v e)
      where
        twice : (o : Found Designator) (q : Found Expression) → IfFound (λ c. callee env c ≡ None) (in_context (λ z. Part z y) (or_else (in_context (λ z. At z e) o) (in_context (At d) q)))
        twice None None = tt
        twice None (Some f) = refl
        twice (Some f) q = refl
    calls_nothing (At d e) = twice (call_in_designator env v d) (first_call env v e)
      where
        twice : (o : Found Designator) (q : Found Expression) → IfFound (λ c. callee env c ≡ None) (or_else (in_context (λ z. At z e) o) (in_context (At d) q))
        twice None None = tt
        twice None (Some f) = refl
        twice (Some f) q = refl

    both_found : (o : Found Designator) (d : Designator) → IfFound (SameName d) o → IfFound (λ c. callee env c ≡ None) o → OwnVariable env (meaning env (first_name d))
        → IfFound (OwnQueue env) (in_context Use o)
    unfolding IfFound SameName
    both_found None d h k m = tt
    both_found (Some f) d h k m = (k, subst (λ x. OwnVariable env (meaning env x)) (sym h) m)

    queue_kept : (e : Expression) → OwnQueue env e → IfFound (OwnQueue env) (first_call env v e)
    unfolding IfFound
    queue_kept (Use d) h =
        or_found (OwnQueue env) (in_context Use (call_in_designator env v d)) (user_call env d NoExpression v)
        (both_found (call_in_designator env v d) d (same_name d) (calls_nothing d) h.1)
        (subst (IfFound (OwnQueue env)) (sym (no_call d h.0)) tt)
    queue_kept (Literal n) h = absurd h
    queue_kept (Letter n) h = absurd h
    queue_kept (Call d es) h = absurd h
    queue_kept (Not e) h = absurd h
    queue_kept (Negative e) h = absurd h
    queue_kept (Positive e) h = absurd h
    queue_kept (Binary o a b) h = absurd h
    queue_kept (Known b n) h = absurd h

    PerformKeeps : Designator → Expressions → Type 0
    PerformKeeps d es = callee env d ≡ None → StandardFits env d es

    perform_kept : (d : Designator) (es : Expressions) → PerformKeeps d es → IfFound (PerformKeeps d) (call_in_arguments env v es)
    unfolding IfFound PerformKeeps
    perform_kept d NoExpression h = tt
    perform_kept d (MoreExpressions e es) h =
        or_found (PerformKeeps d) (in_context (λ y. MoreExpressions y es) (first_call env v e)) (in_context (MoreExpressions e) (call_in_arguments env v es))
        (first (first_call env v e) (λ n q. queue_kept e (h n q).2))
        (context_found (λ a. Unit {0}) (PerformKeeps d) (MoreExpressions e) (call_in_arguments env v es) (λ a u. h) (anything_found (call_in_arguments env v es)))
      where
        first : (o : Found Expression) → (callee env d ≡ None → is_of_queues (name_of d) ≡ true → IfFound (OwnQueue env) o)
            → IfFound (PerformKeeps d) (in_context (λ y. MoreExpressions y es) o)
        first None k = tt
        first (Some f) k = λ n q. ((h n q).0, (h n q).1, k n q)

    right_kept : (n : ℕ) (t : ResolvedType) (e : Expression) → PassesEarlier w.place env n t e → IfFound (PassesEarlier w.place env n t) (first_call env v e)
    unfolding IfFound
    right_kept n (ComponentOf s inner) (Use (Plain x)) h = subst (IfFound (PassesEarlier w.place env n (ComponentOf s inner))) (sym (no_call (Plain x) h.0)) tt
    right_kept n (ComponentOf s inner) (Use (Part d x)) h = absurd h
    right_kept n (ComponentOf s inner) (Use (At d e)) h = absurd h
    right_kept n (ComponentOf s inner) (Literal k) h = absurd h
    right_kept n (ComponentOf s inner) (Letter k) h = absurd h
    right_kept n (ComponentOf s inner) (Call d es) h = absurd h
    right_kept n (ComponentOf s inner) (Not e) h = absurd h
    right_kept n (ComponentOf s inner) (Negative e) h = absurd h
    right_kept n (ComponentOf s inner) (Positive e) h = absurd h
    right_kept n (ComponentOf s inner) (Binary o a b) h = absurd h
    right_kept n (ComponentOf s inner) (Known b k) h = absurd h
    right_kept n (Simple b low high start) e h = anything_found (first_call env v e)
    right_kept n (ArrayOf low high t) e h = anything_found (first_call env v e)
    right_kept n (RecordOf ps) e h = anything_found (first_call env v e)
    right_kept n Queue e h = anything_found (first_call env v e)
    right_kept n NoType e h = anything_found (first_call env v e)

    rights_kept : (n : ℕ) (vs : List (Name × Variable)) (es : Expressions) → AllPassEarlier w.place env n vs es → IfFound (AllPassEarlier w.place env n vs) (call_in_arguments env v es)
    unfolding IfFound
    rights_kept n vs NoExpression h = tt
    rights_kept n [] (MoreExpressions e es) h = any (or_else (in_context (λ y. MoreExpressions y es) (first_call env v e)) (in_context (MoreExpressions e) (call_in_arguments env v es)))
      where
        any : (o : Found Expressions) → IfFound (AllPassEarlier w.place env n []) o
        any None = tt
        any (Some f) = tt
    rights_kept n (x ∷ vs) (MoreExpressions e es) h =
        or_found (AllPassEarlier w.place env n (x ∷ vs)) (in_context (λ y. MoreExpressions y es) (first_call env v e)) (in_context (MoreExpressions e) (call_in_arguments env v es))
        (context_found (PassesEarlier w.place env n x.1.type) (AllPassEarlier w.place env n (x ∷ vs)) (λ y. MoreExpressions y es) (first_call env v e) (λ a k. (k, h.1)) (right_kept n x.1.type e h.0))
        (context_found (AllPassEarlier w.place env n vs) (AllPassEarlier w.place env n (x ∷ vs)) (MoreExpressions e) (call_in_arguments env v es) (λ a k. (h.0, k)) (rights_kept n vs es h.1))

    init_kept : (o : Option Component) (es : Expressions) → InitOf w env o es → IfFound (InitOf w env o) (call_in_arguments env v es)
    unfolding IfFound
    init_kept None es h = any (call_in_arguments env v es)
      where
        any : (o : Found Expressions) → IfFound (InitOf w env None) o
        any None = tt
        any (Some f) = tt
    init_kept (Some c) es h = by c.system.sort refl
      where
        keep : (o : Found Expressions) → IfFound (InitFits c.system.sort w env c) o → IfFound (InitOf w env (Some c)) o
        keep None k = tt
        keep (Some f) k = (h.0, k)

        fits : (s : Sort) → InitFits s w env c es → IfFound (InitFits s w env c) (call_in_arguments env v es)
        fits Class k = any (call_in_arguments env v es)
          where
            any : (o : Found Expressions) → IfFound (InitFits Class w env c) o
            any None = tt
            any (Some f) = tt
        fits Process k = any (call_in_arguments env v es)
          where
            any : (o : Found Expressions) → IfFound (InitFits Process w env c) o
            any None = tt
            any (Some f) = tt
        fits Monitor k = over (call_in_arguments env v es) (rights_kept (w.place (declared_monitor env c)) (declarations env.globals c.system.parameters) es k.3)
          where
            over : (o : Found Expressions) → IfFound (AllPassEarlier w.place env (w.place (declared_monitor env c)) (declarations env.globals c.system.parameters)) o → IfFound (InitFits Monitor w env c) o
            over None r = tt
            over (Some f) r = (k.0, k.1, k.2, r)

        by : (s : Sort) → c.system.sort ≡ s → IfFound (InitOf w env (Some c)) (call_in_arguments env v es)
        by s e = keep (call_in_arguments env v es) (fits c.system.sort h.1)

    statement_kept : (x : Statement) → Keeps w env x → IfFound (Keeps w env) (call_in_statement env v x)
    unfolding IfFound PerformKeeps
    statement_kept (Assign d e) h = any (or_else (in_context (λ y. Assign y e) (call_in_designator env v d)) (in_context (Assign d) (first_call env v e)))
        (or_found IsAssign (in_context (λ y. Assign y e) (call_in_designator env v d)) (in_context (Assign d) (first_call env v e))
        (context_found (λ a. Unit {0}) IsAssign (λ y. Assign y e) (call_in_designator env v d) (λ a u. tt) (anything_found (call_in_designator env v d)))
        (context_found (λ a. Unit {0}) IsAssign (Assign d) (first_call env v e) (λ a u. tt) (anything_found (first_call env v e))))
      where
        IsAssign : Statement → Type 0
        IsAssign (Assign d e) = Unit {0}
        IsAssign _ = ⊥

        any : (o : Found Statement) → IfFound IsAssign o → IfFound (Keeps w env) o
        any None k = tt
        any (Some (u, Assign d e)) k = tt
        any (Some (u, Nothing)) k = absurd k
        any (Some (u, Seq a b)) k = absurd k
        any (Some (u, Perform d es)) k = absurd k
        any (Some (u, If e a b)) k = absurd k
        any (Some (u, Case e arms)) k = absurd k
        any (Some (u, While e s)) k = absurd k
        any (Some (u, Repeat s e)) k = absurd k
        any (Some (u, For x down a b s)) k = absurd k
        any (Some (u, Cycle s)) k = absurd k
        any (Some (u, Init x es)) k = absurd k
    statement_kept (Perform d es) h = context_found (PerformKeeps d) (Keeps w env) (Perform d) (call_in_arguments env v es) (λ a k. k) (perform_kept d es h)
    statement_kept (If e a b) h = context_found (λ z. Unit {0}) (Keeps w env) (λ y. If y a b) (first_call env v e) (λ z u. h) (anything_found (first_call env v e))
    statement_kept (Case e arms) h = context_found (λ z. Unit {0}) (Keeps w env) (λ y. Case y arms) (first_call env v e) (λ z u. h) (anything_found (first_call env v e))
    statement_kept (For x down a b s) h =
        or_found (Keeps w env) (in_context (λ y. For x down y b s) (first_call env v a)) (in_context (λ y. For x down a y s) (first_call env v b))
        (context_found (λ z. Unit {0}) (Keeps w env) (λ y. For x down y b s) (first_call env v a) (λ z u. h) (anything_found (first_call env v a)))
        (context_found (λ z. Unit {0}) (Keeps w env) (λ y. For x down a y s) (first_call env v b) (λ z u. h) (anything_found (first_call env v b)))
    statement_kept (Init x es) h =
        context_found (InitOf w env (component_named env x)) (Keeps w env) (Init x) (call_in_arguments env v es) (λ a k. (h.0, k)) (init_kept (component_named env x) es h.1)
    statement_kept Nothing h = tt
    statement_kept (Seq a b) h = tt
    statement_kept (While e s) h = tt
    statement_kept (Repeat s e) h = tt
    statement_kept (Cycle s) h = tt

  -- With a value in place of its first call, the next task fits as before.
  pub answer_put : (v : Expression) (k : List Task) → AllFit w k → Put k (with_answer v k)
  unfolding IfFound
  answer_put v [] o = record { marks = refl; next = λ n. n; fits = o }
  answer_put v (Do x env ∷ k) o = by (call_in_statement env v x) (statement_kept env v x o.0.1)
    where
      by : (f : Found Statement) → IfFound (Keeps w env) f
          → Put (Do x env ∷ k) (elim (in_context (λ y. Do y env) f) as (λ z. List Task) [ None ↦ Do x env ∷ k | Some g ↦ g.1 ∷ k ])
      by None h = record { marks = refl; next = λ n. n; fits = o }
      by (Some g) h = record { marks = refl; next = λ n. n; fits = ((o.0.0, h), o.1) }
  answer_put v (WhileTest now e x env ∷ k) o = by (first_call env v now)
    where
      by : (f : Found Expression) → Put (WhileTest now e x env ∷ k) (elim (in_context (λ y. WhileTest y e x env) f) as (λ z. List Task) [ None ↦ WhileTest now e x env ∷ k | Some g ↦ g.1 ∷ k ])
      by None = record { marks = refl; next = λ n. n; fits = o }
      by (Some g) = record { marks = refl; next = λ n. n; fits = o }
  answer_put v (RepeatTest now x e env ∷ k) o = by (first_call env v now)
    where
      by : (f : Found Expression) → Put (RepeatTest now x e env ∷ k) (elim (in_context (λ y. RepeatTest y x e env) f) as (λ z. List Task) [ None ↦ RepeatTest now x e env ∷ k | Some g ↦ g.1 ∷ k ])
      by None = record { marks = refl; next = λ n. n; fits = o }
      by (Some g) = record { marks = refl; next = λ n. n; fits = o }
  answer_put v (ForNext x down n last s env ∷ k) o = record { marks = refl; next = λ n. n; fits = o }
  answer_put v (EndCall env gate ∷ k) o = record { marks = refl; next = λ n. n; fits = o }
  answer_put v (EndBody gate ∷ k) o = record { marks = refl; next = λ n. n; fits = o }
  answer_put v (EndProcess ∷ k) o = record { marks = refl; next = λ n. n; fits = o }
