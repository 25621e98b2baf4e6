-- Statements and tasks that don't use the clock are calm, and stay so.
--
-- A calm task has calm calls in it. It is calm with a value in place of a call, it unfolds to calm
-- tasks, and what is left after a return is calm.
use Rattle.std.specs.Prelude.{Bool, List, None, Option, Some, [], false, if◌then◌else◌, refl, true, ℕ, ◌∷◌, ◌≡◌}
use Rattle.std.proofs.Common.{sym}
use Rattle.std.proofs.lemmas.Bool.{true≢false}
use Rattle.cp_model.specs.Abstract.{Arms, Assign, At, Binary, Call, Case, Cycle, Designator, Expression, Expressions, For, If, Init, Known, Letter, Literal, MoreArms, MoreExpressions, Negative, NoArm, NoExpression, Not, Nothing, Part, Perform, Plain, Positive, Repeat, Seq, Statement, Use, While}
use Rattle.cp_model.specs.Environments.{Environment}
use Rattle.cp_model.specs.Continuations.{Do, EndBody, EndCall, EndProcess, ForNext, RepeatTest, Task, WhileTest, push}
use Rattle.cp_model.specs.Calls.{Callee, Found, call_in_arguments, call_in_designator, call_in_statement, call_in_task, callee, first_call, in_context, or_else, user_call}
use Rattle.cp_model.specs.CallSteps.{innermost_call, with_answer}
use Rattle.cp_law_calls.specs.Clocks.{designator_is_timeless, expression_is_timeless, expressions_are_timeless, use_is_timeless}

pub both : (a b : Bool) → (if a then b else false) ≡ true → (a ≡ true) × (b ≡ true)
both true b h = (refl, h)
both false b h = absurd (true≢false (sym h))

pub together : (a b : Bool) → a ≡ true → b ≡ true → (if a then b else false) ≡ true
together true b h k = k
together false b h k = absurd (true≢false (sym h))

-- ---- Statements and tasks

-- A statement without arguments calls a procedure, and doesn't wait.
abbrev pub MayPerform : Environment → Designator → Expressions → Type 0
MayPerform env d NoExpression = callee env d ≡ None → ⊥
MayPerform env d (MoreExpressions e es) = Unit {0}

abbrev mutual
  pub Calm : Environment → Statement → Type 0
  Calm env Nothing = Unit {0}
  Calm env (Seq a b) = Calm env a × Calm env b
  Calm env (Assign d e) = (designator_is_timeless d ≡ true) × (expression_is_timeless e ≡ true)
  Calm env (Perform d es) = (expressions_are_timeless es ≡ true) × MayPerform env d es
  Calm env (If e a b) = (expression_is_timeless e ≡ true) × Calm env a × Calm env b
  Calm env (Case e arms) = (expression_is_timeless e ≡ true) × ArmsCalm env arms
  Calm env (While e s) = (expression_is_timeless e ≡ true) × Calm env s
  Calm env (Repeat s e) = (expression_is_timeless e ≡ true) × Calm env s
  Calm env (For v down a b s) = (expression_is_timeless a ≡ true) × (expression_is_timeless b ≡ true) × Calm env s
  Calm env (Cycle s) = Calm env s
  Calm env (Init x es) = expressions_are_timeless es ≡ true

  pub ArmsCalm : Environment → Arms → Type 0
  ArmsCalm env NoArm = Unit {0}
  ArmsCalm env (MoreArms ls s rest) = Calm env s × ArmsCalm env rest

abbrev pub TaskCalm : Task → Type 0
TaskCalm (Do s env) = Calm env s
TaskCalm (WhileTest now e s env) = (expression_is_timeless now ≡ true) × (expression_is_timeless e ≡ true) × Calm env s
TaskCalm (RepeatTest now s e env) = (expression_is_timeless now ≡ true) × (expression_is_timeless e ≡ true) × Calm env s
TaskCalm (ForNext v down n last s env) = Calm env s
TaskCalm (EndCall env gate) = Unit {0}
TaskCalm (EndBody gate) = Unit {0}
TaskCalm EndProcess = Unit {0}

abbrev pub AllCalm : List Task → Type 0
AllCalm [] = Unit {0}
AllCalm (i ∷ k) = TaskCalm i × AllCalm k

pub push_calm : (x : Statement) (env : Environment) (k : List Task) → Calm env x → AllCalm k → AllCalm (push x env k)
push_calm Nothing env k h o = o
push_calm (Seq a b) env k h o = push_calm a env (push b env k) h.0 (push_calm b env k h.1 o)
push_calm (While e s) env k h o = ((h.0, h.0, h.1), o)
push_calm (Repeat s e) env k h o = push_calm s env (RepeatTest e s e env ∷ k) h.1 ((h.0, h.0, h.1), o)
push_calm (Assign d e) env k h o = (h, o)
push_calm (Perform d es) env k h o = (h, o)
push_calm (If e a b) env k h o = (h, o)
push_calm (Case e arms) env k h o = (h, o)
push_calm (For v down a b s) env k h o = (h, o)
push_calm (Cycle s) env k h o = (h, o)
push_calm (Init x es) env k h o = (h, o)

-- ---- Calls in them

-- The arguments of the call are timeless, and so is what has a value in its place.
abbrev pub FoundCalm : {A : Type 0} → (A → Type 0) → Found A → Type 0
FoundCalm R None = Unit {0}
FoundCalm R (Some f) = (expressions_are_timeless f.0.arguments ≡ true) × R f.1

context_calm : {A B : Type 0} (R : A → Type 0) (Q : B → Type 0) (f : A → B) (x : Found A) → ((a : A) → R a → Q (f a)) → FoundCalm R x → FoundCalm Q (in_context f x)
context_calm R Q f None h o = tt
context_calm R Q f (Some x) h o = (o.0, h x.1 o.1)

or_calm : {A : Type 0} (R : A → Type 0) (x y : Found A) → FoundCalm R x → FoundCalm R y → FoundCalm R (or_else x y)
or_calm R None y h k = k
or_calm R (Some x) y h k = h

module _ (env : Environment) (v : Expression) (known : expression_is_timeless v ≡ true) where
  abbrev IsCalm : Expression → Type 0
  IsCalm e = expression_is_timeless e ≡ true

  abbrev UseCalm : Designator → Type 0
  UseCalm d = use_is_timeless d ≡ true

  abbrev PlaceCalm : Designator → Type 0
  PlaceCalm d = designator_is_timeless d ≡ true

  abbrev ArgumentsCalm : Expressions → Type 0
  ArgumentsCalm es = expressions_are_timeless es ≡ true

  user_calm : (d : Designator) (es : Expressions) → expressions_are_timeless es ≡ true → FoundCalm (λ e. expression_is_timeless e ≡ true) (user_call env d es v)
  user_calm d es h = by (callee env d)
    where
      by : (o : Option Callee)
          → FoundCalm (λ e. expression_is_timeless e ≡ true) (elim o as (λ x. Found Expression) [ None ↦ None | Some c ↦ Some (record { callee = c; arguments = es; environment = env }, v) ])
      by None = tt
      by (Some c) = (h, known)

  mutual
    pub first_calm : (e : Expression) → expression_is_timeless e ≡ true → FoundCalm IsCalm (first_call env v e)
    first_calm (Use d) h =
        or_calm IsCalm (in_context Use (call_in_designator env v d)) (user_call env d NoExpression v)
        (context_calm UseCalm IsCalm Use (call_in_designator env v d) (λ a k. k) (use_calm d h)) (user_calm d NoExpression refl)
    first_calm (Call d es) h =
        let e = both (designator_is_timeless d) (expressions_are_timeless es) h in
        or_calm IsCalm (in_context (Call d) (call_in_arguments env v es)) (user_call env d es v)
        (context_calm ArgumentsCalm IsCalm (Call d) (call_in_arguments env v es) (λ a k. together (designator_is_timeless d) (expressions_are_timeless a) e.0 k) (arguments_calm es e.1))
        (user_calm d es e.1)
    first_calm (Not e) h = context_calm IsCalm IsCalm Not (first_call env v e) (λ a k. k) (first_calm e h)
    first_calm (Negative e) h = context_calm IsCalm IsCalm Negative (first_call env v e) (λ a k. k) (first_calm e h)
    first_calm (Positive e) h = context_calm IsCalm IsCalm Positive (first_call env v e) (λ a k. k) (first_calm e h)
    first_calm (Binary o x y) h =
        let e = both (expression_is_timeless x) (expression_is_timeless y) h in
        or_calm IsCalm (in_context (λ z. Binary o z y) (first_call env v x)) (in_context (Binary o x) (first_call env v y))
        (context_calm IsCalm IsCalm (λ z. Binary o z y) (first_call env v x) (λ a k. together (expression_is_timeless a) (expression_is_timeless y) k e.1) (first_calm x e.0))
        (context_calm IsCalm IsCalm (Binary o x) (first_call env v y) (λ a k. together (expression_is_timeless x) (expression_is_timeless a) e.0 k) (first_calm y e.1))
    first_calm (Literal n) h = tt
    first_calm (Letter n) h = tt
    first_calm (Known b n) h = tt

    use_calm : (d : Designator) → use_is_timeless d ≡ true → FoundCalm UseCalm (call_in_designator env v d)
    use_calm (Plain x) h = tt
    use_calm (Part d x) h = context_calm PlaceCalm UseCalm (λ y. Part y x) (call_in_designator env v d) (λ a k. k) (designator_calm d h)
    use_calm (At d e) h =
        let b = both (designator_is_timeless d) (expression_is_timeless e) h in
        or_calm UseCalm (in_context (λ y. At y e) (call_in_designator env v d)) (in_context (At d) (first_call env v e))
        (context_calm PlaceCalm UseCalm (λ y. At y e) (call_in_designator env v d) (λ a k. together (designator_is_timeless a) (expression_is_timeless e) k b.1) (designator_calm d b.0))
        (context_calm IsCalm UseCalm (At d) (first_call env v e) (λ a k. together (designator_is_timeless d) (expression_is_timeless a) b.0 k) (first_calm e b.1))

    designator_calm : (d : Designator) → designator_is_timeless d ≡ true → FoundCalm PlaceCalm (call_in_designator env v d)
    designator_calm (Plain x) h = tt
    designator_calm (Part d x) h = context_calm PlaceCalm PlaceCalm (λ y. Part y x) (call_in_designator env v d) (λ a k. k) (designator_calm d h)
    designator_calm (At d e) h =
        let b = both (designator_is_timeless d) (expression_is_timeless e) h in
        or_calm PlaceCalm (in_context (λ y. At y e) (call_in_designator env v d)) (in_context (At d) (first_call env v e))
        (context_calm PlaceCalm PlaceCalm (λ y. At y e) (call_in_designator env v d) (λ a k. together (designator_is_timeless a) (expression_is_timeless e) k b.1) (designator_calm d b.0))
        (context_calm IsCalm PlaceCalm (At d) (first_call env v e) (λ a k. together (designator_is_timeless d) (expression_is_timeless a) b.0 k) (first_calm e b.1))

    arguments_calm : (es : Expressions) → expressions_are_timeless es ≡ true → FoundCalm ArgumentsCalm (call_in_arguments env v es)
    arguments_calm NoExpression h = tt
    arguments_calm (MoreExpressions e es) h =
        let b = both (expression_is_timeless e) (expressions_are_timeless es) h in
        or_calm ArgumentsCalm (in_context (λ y. MoreExpressions y es) (first_call env v e)) (in_context (MoreExpressions e) (call_in_arguments env v es))
        (context_calm IsCalm ArgumentsCalm (λ y. MoreExpressions y es) (first_call env v e) (λ a k. together (expression_is_timeless a) (expressions_are_timeless es) k b.1) (first_calm e b.0))
        (context_calm ArgumentsCalm ArgumentsCalm (MoreExpressions e) (call_in_arguments env v es) (λ a k. together (expression_is_timeless e) (expressions_are_timeless a) b.0 k) (arguments_calm es b.1))

  abbrev PerformCalm : Designator → Expressions → Type 0
  PerformCalm d es = (expressions_are_timeless es ≡ true) × MayPerform env d es

  perform_calm : (d : Designator) (es : Expressions) → expressions_are_timeless es ≡ true → FoundCalm (PerformCalm d) (call_in_arguments env v es)
  perform_calm d NoExpression h = tt
  perform_calm d (MoreExpressions e es) h =
      let b = both (expression_is_timeless e) (expressions_are_timeless es) h in
      or_calm (PerformCalm d) (in_context (λ y. MoreExpressions y es) (first_call env v e)) (in_context (MoreExpressions e) (call_in_arguments env v es))
      (context_calm IsCalm (PerformCalm d) (λ y. MoreExpressions y es) (first_call env v e) (λ a k. (together (expression_is_timeless a) (expressions_are_timeless es) k b.1, tt)) (first_calm e b.0))
      (context_calm ArgumentsCalm (PerformCalm d) (MoreExpressions e) (call_in_arguments env v es) (λ a k. (together (expression_is_timeless e) (expressions_are_timeless a) b.0 k, tt)) (arguments_calm es b.1))

  statement_calm : (x : Statement) → Calm env x → FoundCalm (Calm env) (call_in_statement env v x)
  statement_calm (Assign d e) h =
      or_calm (Calm env) (in_context (λ y. Assign y e) (call_in_designator env v d)) (in_context (Assign d) (first_call env v e))
      (context_calm PlaceCalm (Calm env) (λ y. Assign y e) (call_in_designator env v d) (λ a k. (k, h.1)) (designator_calm d h.0))
      (context_calm IsCalm (Calm env) (Assign d) (first_call env v e) (λ a k. (h.0, k)) (first_calm e h.1))
  statement_calm (Perform d es) h = context_calm (PerformCalm d) (Calm env) (Perform d) (call_in_arguments env v es) (λ a k. k) (perform_calm d es h.0)
  statement_calm (If e x y) h = context_calm IsCalm (Calm env) (λ z. If z x y) (first_call env v e) (λ a k. (k, h.1, h.2)) (first_calm e h.0)
  statement_calm (Case e arms) h = context_calm IsCalm (Calm env) (λ z. Case z arms) (first_call env v e) (λ a k. (k, h.1)) (first_calm e h.0)
  statement_calm (For x down e f y) h =
      or_calm (Calm env) (in_context (λ z. For x down z f y) (first_call env v e)) (in_context (λ z. For x down e z y) (first_call env v f))
      (context_calm IsCalm (Calm env) (λ z. For x down z f y) (first_call env v e) (λ a k. (k, h.1, h.2)) (first_calm e h.0))
      (context_calm IsCalm (Calm env) (λ z. For x down e z y) (first_call env v f) (λ a k. (h.0, k, h.2)) (first_calm f h.1))
  statement_calm (Init x es) h = context_calm ArgumentsCalm (Calm env) (Init x) (call_in_arguments env v es) (λ a k. k) (arguments_calm es h)
  statement_calm Nothing h = tt
  statement_calm (Seq x y) h = tt
  statement_calm (While e x) h = tt
  statement_calm (Repeat x e) h = tt
  statement_calm (Cycle x) h = tt

pub task_calm : (v : Expression) → expression_is_timeless v ≡ true → (i : Task) → TaskCalm i → FoundCalm TaskCalm (call_in_task v i)
task_calm v known (Do x env) h = context_calm (Calm env) TaskCalm (λ y. Do y env) (call_in_statement env v x) (λ a k. k) (statement_calm env v known x h)
task_calm v known (WhileTest now e x env) h =
    context_calm (λ y. expression_is_timeless y ≡ true) TaskCalm (λ y. WhileTest y e x env) (first_call env v now) (λ a k. (k, h.1, h.2)) (first_calm env v known now h.0)
task_calm v known (RepeatTest now x e env) h =
    context_calm (λ y. expression_is_timeless y ≡ true) TaskCalm (λ y. RepeatTest y x e env) (first_call env v now) (λ a k. (k, h.1, h.2)) (first_calm env v known now h.0)
task_calm v known (ForNext x down n last s env) h = tt
task_calm v known (EndCall env gate) h = tt
task_calm v known (EndBody gate) h = tt
task_calm v known EndProcess h = tt

-- ---- Returns

pub answer_calm : (v : Expression) → expression_is_timeless v ≡ true → (k : List Task) → AllCalm k → AllCalm (with_answer v k)
answer_calm v known [] o = o
answer_calm v known (i ∷ k) o = by (call_in_task v i) (task_calm v known i o.0)
  where
    by : (f : Found Task) → FoundCalm TaskCalm f → AllCalm (elim f as (λ x. List Task) [ None ↦ i ∷ k | Some f ↦ f.1 ∷ k ])
    by None h = o
    by (Some f) h = (h.1, o.1)

abbrev pub EndCalm : Option (Environment × Option ℕ × List Task) → Type 0
EndCalm None = Unit {0}
EndCalm (Some e) = AllCalm e.2

pub end_calm : (k : List Task) → AllCalm k → EndCalm (innermost_call k)
end_calm [] h = tt
end_calm (EndCall env gate ∷ k) h = h.1
end_calm (Do s env ∷ k) h = end_calm k h.1
end_calm (WhileTest now e s env ∷ k) h = end_calm k h.1
end_calm (RepeatTest now s e env ∷ k) h = end_calm k h.1
end_calm (ForNext v down n last s env ∷ k) h = end_calm k h.1
end_calm (EndBody gate ∷ k) h = end_calm k h.1
end_calm (EndProcess ∷ k) h = end_calm k h.1
