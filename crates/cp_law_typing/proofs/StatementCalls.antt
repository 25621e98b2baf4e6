-- Statements and tasks stay typed when a call gets its value.
use Rattle.std.proofs.Common.{◌≡◌, ◌⊎◌, inl, inr, ℤ, Bool, List, [], ◌∷◌, Some, ap, sym, subst, ◌∙◌}
use Rattle.cp_model.specs.Abstract.{Assign, BaseType, Boolean, Case, Cycle, Designator, Expression, Expressions, For, If, Init, MoreExpressions, Name, NoExpression, Nothing, Perform, Plain, Repeat, Seq, Statement, Use, While}
use Rattle.cp_model.specs.Types.{ArrayOf, ComponentOf, NoType, Queue, RecordOf, ResolvedType, Simple}
use Rattle.cp_model.specs.Declarations.{Variable}
use Rattle.cp_model.specs.Calls.{UserCall, call_in_arguments, call_in_designator, call_in_statement, call_in_task, callee, first_call, in_context}
use Rattle.cp_model.specs.Continuations.{Do, EndBody, EndCall, EndProcess, ForNext, RepeatTest, Task, WhileTest}
use Rattle.cp_law_typing.specs.StaticTypes.{expression_type, place_type}
use Rattle.cp_law_typing.specs.Judgement.{Agree, AllInitFit, InitFits, IsOfBase, Place, TypedStatement, has_queues}
use Rattle.cp_law_typing.specs.Laws.{TasksStayTyped}
use Rattle.cp_law_typing.specs.TypedTasks.{Answers, TypedCall, TypedTask, TypedTest}
use Rattle.cp_law_typing.proofs.CallsKept.{DesignatorKept, arguments_call, changeable, designator_call, expression_call, known, procedure_kept}
use Rattle.cp_law_typing.proofs.FoundCalls.{found_either, found_inside, not_called}

module _ (p : Place) (b : BaseType) (n : ℤ) where
  abbrev value : Expression
  value = known p b n

  abbrev StatementResult : UserCall → Statement → Type 0
  StatementResult u x = TypedCall p u × (Answers p u b → TypedStatement p x)

  -- ---- init

  abbrev InitResult : List (Name × Variable) → UserCall → Expressions → Type 0
  InitResult vs u fs = TypedCall p u × (Answers p u b → AllInitFit p vs fs)

  -- a component that is passed on isn't a call
  init_one : (t : ResolvedType) (e : Expression) (u : UserCall) (f : Expression) → first_call p.env value e ≡ Some (u, f) → InitFits p t e → TypedCall p u × (Answers p u b → InitFits p t f)
  init_one (ComponentOf s inner) (Use (Plain x)) u f h fits = absurd (not_called p.env (Plain x) NoExpression value (u, f) fits.0 h)
  init_one (ComponentOf s inner) _ u f h fits = absurd fits
  init_one (Simple c low high start) e u f h fits = let r = expression_call p b n e u f h fits.0 in (r.0, λ a. ((r.1 a).typed, subst (Agree _) (sym (r.1 a).type) fits.1))
  init_one (ArrayOf low high t) e u f h fits = let r = expression_call p b n e u f h fits.0 in (r.0, λ a. ((r.1 a).typed, subst (Agree _) (sym (r.1 a).type) fits.1))
  init_one (RecordOf ps) e u f h fits = let r = expression_call p b n e u f h fits.0 in (r.0, λ a. ((r.1 a).typed, subst (Agree _) (sym (r.1 a).type) fits.1))
  init_one Queue e u f h fits = let r = expression_call p b n e u f h fits.0 in (r.0, λ a. ((r.1 a).typed, subst (Agree _) (sym (r.1 a).type) fits.1))
  init_one NoType e u f h fits = let r = expression_call p b n e u f h fits.0 in (r.0, λ a. ((r.1 a).typed, subst (Agree _) (sym (r.1 a).type) fits.1))

  init_call : (vs : List (Name × Variable)) (es : Expressions) (u : UserCall) (fs : Expressions) → call_in_arguments p.env value es ≡ Some (u, fs) → AllInitFit p vs es → InitResult vs u fs
  init_call vs NoExpression u fs h fits = absurd (cc)
  init_call [] (MoreExpressions e es) u fs h fits = absurd fits
  init_call (v ∷ vs) (MoreExpressions e es) u fs h fits =
      go (init_call vs es u)
      (found_either (in_context (λ y. MoreExpressions y es) (first_call p.env value e)) (in_context (MoreExpressions e) (call_in_arguments p.env value es)) (u, fs) h)
    where
      go : ((gs : Expressions) → call_in_arguments p.env value es ≡ Some (u, gs) → AllInitFit p vs es → InitResult vs u gs)
          → (in_context (λ y. MoreExpressions y es) (first_call p.env value e) ≡ Some (u, fs)) ⊎ (in_context (MoreExpressions e) (call_in_arguments p.env value es) ≡ Some (u, fs))
          → InitResult (v ∷ vs) u fs
      go rest (inl g) =
          let k : (f : Expression) × (first_call p.env value e ≡ Some (u, f)) × (MoreExpressions f es ≡ fs) = found_inside (λ y. MoreExpressions y es) (first_call p.env value e) u fs g in
          let r = init_one v.1.type e u k.0 k.1 fits.0 in
          (r.0, λ a. subst (AllInitFit p (v ∷ vs)) k.2 (r.1 a, fits.1))
      go rest (inr g) =
          let k : (gs : Expressions) × (call_in_arguments p.env value es ≡ Some (u, gs)) × (MoreExpressions e gs ≡ fs) = found_inside (MoreExpressions e) (call_in_arguments p.env value es) u fs g in
          let r : InitResult vs u k.0 = rest k.0 k.1 fits.1 in
          (r.0, λ a. subst (AllInitFit p (v ∷ vs)) k.2 (fits.0, r.1 a))

  -- ---- statements

  assign_call : (d : Designator) (e : Expression) (u : UserCall) (x : Statement)
      → (in_context (λ y. Assign y e) (call_in_designator p.env value d) ≡ Some (u, x)) ⊎ (in_context (Assign d) (first_call p.env value e) ≡ Some (u, x))
      → TypedStatement p (Assign d e) → StatementResult u x
  assign_call d e u x (inl g) t =
      let k : (y : Designator) × (call_in_designator p.env value d ≡ Some (u, y)) × (Assign y e ≡ x) = found_inside (λ y. Assign y e) (call_in_designator p.env value d) u x g in
      let r = designator_call p b n d u k.0 k.1 t.0 in (
        r.0,
        λ a.
            let m : DesignatorKept p b n d k.0 = r.1 a in
            subst (TypedStatement p) k.2
            (m.typed, t.1, subst (λ z. Agree z (expression_type p.env e)) (sym m.type) t.2, changeable p b n d k.0 m.shape t.3, ap has_queues m.type ∙ t.4),
      )
  assign_call d e u x (inr g) t =
      let k : (f : Expression) × (first_call p.env value e ≡ Some (u, f)) × (Assign d f ≡ x) = found_inside (Assign d) (first_call p.env value e) u x g in
      let r = expression_call p b n e u k.0 k.1 t.1 in
      (r.0, λ a. subst (TypedStatement p) k.2 (t.0, (r.1 a).typed, subst (Agree (place_type p.env d)) (sym (r.1 a).type) t.2, t.3, t.4))

  for_call : (v : Name) (down : Bool) (e f : Expression) (s : Statement) (u : UserCall) (x : Statement)
      → (in_context (λ y. For v down y f s) (first_call p.env value e) ≡ Some (u, x)) ⊎ (in_context (λ y. For v down e y s) (first_call p.env value f) ≡ Some (u, x))
      → TypedStatement p (For v down e f s) → StatementResult u x
  for_call v down e f s u x (inl g) t =
      let k : (y : Expression) × (first_call p.env value e ≡ Some (u, y)) × (For v down y f s ≡ x) = found_inside (λ y. For v down y f s) (first_call p.env value e) u x g in
      let r = expression_call p b n e u k.0 k.1 t.4 in
      (r.0, λ a. subst (TypedStatement p) k.2 (t.0, t.1, t.2, (t.3.0, t.3.1, subst (IsOfBase t.3.0) (sym (r.1 a).type) t.3.2, t.3.3), (r.1 a).typed, t.5, t.6))
  for_call v down e f s u x (inr g) t =
      let k : (y : Expression) × (first_call p.env value f ≡ Some (u, y)) × (For v down e y s ≡ x) = found_inside (λ y. For v down e y s) (first_call p.env value f) u x g in
      let r = expression_call p b n f u k.0 k.1 t.5 in
      (r.0, λ a. subst (TypedStatement p) k.2 (t.0, t.1, t.2, (t.3.0, t.3.1, t.3.2, subst (IsOfBase t.3.0) (sym (r.1 a).type) t.3.3), t.4, (r.1 a).typed, t.6))

  statement_call : (s : Statement) (u : UserCall) (x : Statement) → call_in_statement p.env value s ≡ Some (u, x) → TypedStatement p s → StatementResult u x
  statement_call (Assign d e) u x h t =
      assign_call d e u x (found_either (in_context (λ y. Assign y e) (call_in_designator p.env value d)) (in_context (Assign d) (first_call p.env value e)) (u, x) h) t
  statement_call (Perform d es) u x h t =
      let k : (fs : Expressions) × (call_in_arguments p.env value es ≡ Some (u, fs)) × (Perform d fs ≡ x) = found_inside (Perform d) (call_in_arguments p.env value es) u x h in
      let r = arguments_call p b n es u k.0 k.1 t.0 in
      (r.0, λ a. subst (TypedStatement p) k.2 ((r.1 a).typed, procedure_kept p b n (callee p.env d) d es k.0 (r.1 a) t.1))
  statement_call (If e s w) u x h t =
      let k : (f : Expression) × (first_call p.env value e ≡ Some (u, f)) × (If f s w ≡ x) = found_inside (λ y. If y s w) (first_call p.env value e) u x h in
      let r = expression_call p b n e u k.0 k.1 t.0 in
      (r.0, λ a. subst (TypedStatement p) k.2 ((r.1 a).typed, subst (IsOfBase Boolean) (sym (r.1 a).type) t.1, t.2, t.3))
  statement_call (Case e arms) u x h t =
      let k : (f : Expression) × (first_call p.env value e ≡ Some (u, f)) × (Case f arms ≡ x) = found_inside (λ y. Case y arms) (first_call p.env value e) u x h in
      let r = expression_call p b n e u k.0 k.1 t.0 in
      (r.0, λ a. subst (TypedStatement p) k.2 ((r.1 a).typed, t.1, subst (IsOfBase t.1) (sym (r.1 a).type) t.2, t.3))
  statement_call (For v down e f s) u x h t =
      for_call v down e f s u x (found_either (in_context (λ y. For v down y f s) (first_call p.env value e)) (in_context (λ y. For v down e y s) (first_call p.env value f)) (u, x) h) t
  statement_call (Init z es) u x h t =
      let k : (fs : Expressions) × (call_in_arguments p.env value es ≡ Some (u, fs)) × (Init z fs ≡ x) = found_inside (Init z) (call_in_arguments p.env value es) u x h in
      let r = init_call _ es u k.0 k.1 t.fit in (
        r.0,
        λ a. subst (TypedStatement p) k.2
            (record { component = t.component; named = t.named; own = t.own; outside = t.outside; place = t.place; defined = t.defined; fit = r.1 a }),
      )
  statement_call Nothing u x h t = absurd (cc)
  statement_call (Seq s w) u x h t = absurd (cc)
  statement_call (While e s) u x h t = absurd (cc)
  statement_call (Repeat s e) u x h t = absurd (cc)
  statement_call (Cycle s) u x h t = absurd (cc)

  -- ---- tasks

  test_call : (e : Expression) (u : UserCall) (f : Expression) → first_call p.env value e ≡ Some (u, f) → TypedTest p e → TypedCall p u × (Answers p u b → TypedTest p f)
  test_call e u f h t = let r = expression_call p b n e u f h t.0 in (r.0, λ a. ((r.1 a).typed, subst (IsOfBase Boolean) (sym (r.1 a).type) t.1))

  pub task_call : (s : Task) (u : UserCall) (x : Task) → TypedTask p s → call_in_task value s ≡ Some (u, x) → TypedCall p u × (Answers p u b → TypedTask p x)
  task_call (Do s env) u x t h =
      let k : (y : Statement) × (call_in_statement env value s ≡ Some (u, y)) × (Do y env ≡ x) = found_inside (λ y. Do y env) (call_in_statement env value s) u x h in
      let r : StatementResult u k.0 = statement_call s u k.0 (sym (ap (λ z. call_in_statement z value s) t.0) ∙ k.1) t.1 in
      (r.0, λ a. subst (TypedTask p) k.2 (t.0, r.1 a))
  task_call (WhileTest now e s env) u x t h =
      let k : (y : Expression) × (first_call env value now ≡ Some (u, y)) × (WhileTest y e s env ≡ x) = found_inside (λ y. WhileTest y e s env) (first_call env value now) u x h in
      let r = test_call now u k.0 (sym (ap (λ z. first_call z value now) t.0) ∙ k.1) t.1 in
      (r.0, λ a. subst (TypedTask p) k.2 (t.0, r.1 a, t.2, t.3))
  task_call (RepeatTest now s e env) u x t h =
      let k : (y : Expression) × (first_call env value now ≡ Some (u, y)) × (RepeatTest y s e env ≡ x) = found_inside (λ y. RepeatTest y s e env) (first_call env value now) u x h in
      let r = test_call now u k.0 (sym (ap (λ z. first_call z value now) t.0) ∙ k.1) t.1 in
      (r.0, λ a. subst (TypedTask p) k.2 (t.0, r.1 a, t.2, t.3))
  task_call (ForNext v down c l s env) u x t h = absurd (cc)
  task_call (EndCall env gate) u x t h = absurd (cc)
  task_call (EndBody gate) u x t h = absurd (cc)
  task_call EndProcess u x t h = absurd (cc)

pub tasks_stay_typed : TasksStayTyped
tasks_stay_typed p b n task u after typed h = task_call p b n task u after typed h
