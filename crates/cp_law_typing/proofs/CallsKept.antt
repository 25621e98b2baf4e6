-- A call gets its value: what is typed stays typed when the value of its first call takes the place
-- of that call.
--
-- All static types stay the same, since a call has exactly the type of the `Known` that takes its
-- place. What is required of a variable also stays: a designator keeps its first name and the type
-- of its place, and a designator that contains a call isn't a call itself.
use Rattle.std.proofs.Common.{◌≡◌, ◌⊎◌, inl, inr, ℤ, Bool, true, false, List, [], ◌∷◌, Option, Some, None, refl, ap, sym, subst, ◌∙◌}
use Rattle.cp_model.specs.Abstract.{At, BaseType, Binary, Boolean, Call, Designator, Expression, Expressions, Integer, Operator, Known, Letter, Literal, MoreExpressions, Name, Negative, NoExpression, Not, Part, Plain, Positive, Use}
use Rattle.cp_model.specs.Types.{ResolvedType, full_range}
use Rattle.cp_model.specs.Declarations.{Variable}
use Rattle.cp_model.specs.Places.{field_type}
use Rattle.cp_model.specs.Expressions.{name_of}
use Rattle.cp_model.specs.Calls.{Callee, UserCall, call_in_arguments, call_in_designator, callee, first_call, in_context, user_call}
use Rattle.cp_law_typing.specs.StaticTypes.{called_type, element_type, expression_type, first_type, own_value_type, place_type, standard_type}
use Rattle.cp_law_typing.specs.Judgement.{IsUsedAs, Abs, Agree, AllFit, Chr, Empty, HasField, IsArray, IsFunctionCall, IsProcedureCall, IsSimple, IsStandardCall, IsStandardStatement, OperandsFit, Ord, Pred, StandardFunction, Succ, Called, Fits, FitsBy, IsChangeable, IsCharVariable, IsFunction, IsOfBase, IsQueueArgument, IsVariableArgument, Place, StandardFits, TypedExpression, TypedExpressions, TypedPlace, TypedUse, first_name}
use Rattle.cp_law_typing.specs.TypedTasks.{Answers, TypedCall}
use Rattle.cp_law_typing.proofs.FoundCalls.{found_inside, found_either, called_here}

module _ (p : Place) (b : BaseType) (n : ℤ) where
  abbrev pub known : Expression
  known = Known b n

  -- ---- designators

  -- a designator that contains a call isn't a call, neither before nor after
  pub record Shape (d e : Designator) : Type 0 where
    pub before : callee p.env d ≡ None
    pub after : callee p.env e ≡ None
    pub first : first_name e ≡ first_name d
    pub is_place : TypedUse p d → TypedPlace p d
    pub is_use : TypedPlace p e → TypedUse p e
    pub own : place_type p.env e ≡ place_type p.env d → own_value_type p.env e ≡ own_value_type p.env d

  field_shape : (d : Designator) (x : Name) (u : UserCall) (e : Designator) → call_in_designator p.env known d ≡ Some (u, e) → first_name e ≡ first_name d → Shape (Part d x) (Part e x)
  field_shape (Plain z) x u e h f = absurd (cc)
  field_shape (Part d z) x u e h f =
      let k : (y : Designator) × (call_in_designator p.env known d ≡ Some (u, y)) × (Part y z ≡ e) = found_inside (λ y. Part y z) (call_in_designator p.env known d) u e h in
      subst (λ w. Shape (Part (Part d z) x) (Part w x)) k.2
      (record { before = refl; after = refl; first = ap first_name k.2 ∙ f; is_place = λ t. t; is_use = λ t. t; own = λ t. t })
  field_shape (At d i) x u e h f = go (found_either (in_context (λ y. At y i) (call_in_designator p.env known d)) (in_context (At d) (first_call p.env known i)) (u, e) h)
    where
      at : (w : Designator) (j : Expression) → At w j ≡ e → Shape (Part (At d i) x) (Part e x)
      at w j is = subst (λ z. Shape (Part (At d i) x) (Part z x)) is
          (record { before = refl; after = refl; first = ap first_name is ∙ f; is_place = λ t. t; is_use = λ t. t; own = λ t. t })

      go : (in_context (λ y. At y i) (call_in_designator p.env known d) ≡ Some (u, e)) ⊎ (in_context (At d) (first_call p.env known i) ≡ Some (u, e)) → Shape (Part (At d i) x) (Part e x)
      go (inl g) = let k = found_inside (λ y. At y i) (call_in_designator p.env known d) u e g in at k.0 i k.2
      go (inr g) = let k = found_inside (At d) (first_call p.env known i) u e g in at d k.0 k.2

  -- what is kept
  pub record DesignatorKept (d e : Designator) : Type 0 where
    pub shape : Shape d e
    pub type : place_type p.env e ≡ place_type p.env d
    pub typed : TypedPlace p e

  pub record ExpressionKept (e f : Expression) : Type 0 where
    pub typed : TypedExpression p f
    pub type : expression_type p.env f ≡ expression_type p.env e
    pub variable : (t : ResolvedType) → IsVariableArgument p.env e t → IsVariableArgument p.env f t
    pub queue : IsQueueArgument p.env e → IsQueueArgument p.env f
    pub char : IsCharVariable p.env e → IsCharVariable p.env f

  pub changeable : (d e : Designator) → Shape d e → IsChangeable p.env d → IsChangeable p.env e
  changeable d e k h = subst (λ x. IsChangeable p.env (Plain x)) (sym k.first) h

  -- a designator that is used as a value
  use_kept : (d e : Designator) → DesignatorKept d e → ExpressionKept (Use d) (Use e)
  use_kept d e k = record {
    typed = subst (λ o. IsUsedAs p o e) (sym k.shape.after) (k.shape.is_use k.typed);
    type = ap (λ o. called_type p.env.globals o (own_value_type p.env e)) k.shape.after ∙ k.shape.own k.type
        ∙ sym (ap (λ o. called_type p.env.globals o (own_value_type p.env d)) k.shape.before);
    variable = λ t h. (k.shape.after, k.type ∙ h.1, changeable d e k.shape h.2);
    queue = λ h. (k.shape.after, k.type ∙ h.1, h.2);
    char = λ h. (k.shape.after, subst (IsOfBase _) (sym k.type) h.1, changeable d e k.shape h.2);
  }

  shape_of : (d : Designator) (u : UserCall) (e : Designator) → call_in_designator p.env known d ≡ Some (u, e) → Shape d e
  shape_of (Plain x) u e h = absurd (cc)
  shape_of (Part d x) u e h =
      let k : (y : Designator) × (call_in_designator p.env known d ≡ Some (u, y)) × (Part y x ≡ e) = found_inside (λ y. Part y x) (call_in_designator p.env known d) u e h in
      subst (Shape (Part d x)) k.2 (field_shape d x u k.0 k.1 (shape_of d u k.0 k.1).first)
  shape_of (At d i) u e h = go (found_either (in_context (λ y. At y i) (call_in_designator p.env known d)) (in_context (At d) (first_call p.env known i)) (u, e) h) (shape_of d u)
    where
      at : (w : Designator) (j : Expression) → At w j ≡ e → first_name w ≡ first_name d → Shape (At d i) e
      at w j is f = subst (Shape (At d i)) is (record { before = refl; after = refl; first = f; is_place = λ t. t; is_use = λ t. t; own = λ t. t })

      go : (in_context (λ y. At y i) (call_in_designator p.env known d) ≡ Some (u, e)) ⊎ (in_context (At d) (first_call p.env known i) ≡ Some (u, e))
          → ((y : Designator) → call_in_designator p.env known d ≡ Some (u, y) → Shape d y) → Shape (At d i) e
      go (inl g) rec = let k = found_inside (λ y. At y i) (call_in_designator p.env known d) u e g in at k.0 i k.2 (rec k.0 k.1).first
      go (inr g) rec = let k = found_inside (At d) (first_call p.env known i) u e g in at d k.0 k.2 refl

  -- the call itself is replaced by its value
  answered : (e : Expression) → expression_type p.env e ≡ full_range b → ((t : ResolvedType) → IsVariableArgument p.env e t → ⊥) → (IsQueueArgument p.env e → ⊥)
      → (IsCharVariable p.env e → ⊥) → ExpressionKept e known
  answered e type variable queue char =
      record { typed = tt; type = sym type; variable = λ t h. absurd (variable t h); queue = λ h. absurd (queue h); char = λ h. absurd (char h) }

  -- an expression that isn't a designator isn't a variable
  computed_kept : (e f : Expression) → TypedExpression p f → expression_type p.env f ≡ expression_type p.env e → ((t : ResolvedType) → IsVariableArgument p.env e t → ⊥)
      → (IsQueueArgument p.env e → ⊥) → (IsCharVariable p.env e → ⊥) → ExpressionKept e f
  computed_kept e f typed type variable queue char =
      record { typed = typed; type = type; variable = λ t h. absurd (variable t h); queue = λ h. absurd (queue h); char = λ h. absurd (char h) }

  -- ---- arguments

  pub record ArgumentsKept (es fs : Expressions) : Type 0 where
    pub typed : TypedExpressions p fs
    pub first : first_type p.env fs ≡ first_type p.env es
    pub fit : (vs : List (Name × Variable)) → AllFit p.env vs es → AllFit p.env vs fs
    pub function : (d : Designator) → IsStandardCall p.env d es → IsStandardCall p.env d fs
    pub statement : (d : Designator) → IsStandardStatement p d es → IsStandardStatement p d fs

  fits_kept : (v : Variable) (e f : Expression) → ExpressionKept e f → Fits p.env v e → Fits p.env v f
  fits_kept v e f k h = go v.by_reference h
    where
      go : (c : Bool) → FitsBy c p.env v.type e → FitsBy c p.env v.type f
      go true h = k.variable v.type h
      go false h = subst (Agree v.type) (sym k.type) h

  standard_kept : (e f : Expression) → ExpressionKept e f → (w : StandardFunction) → StandardFits p.env w e → StandardFits p.env w f
  standard_kept e f k Abs h = subst (IsOfBase Integer) (sym k.type) h
  standard_kept e f k Chr h = subst (IsOfBase Integer) (sym k.type) h
  standard_kept e f k Empty h = k.queue h
  standard_kept e f k Succ h = subst IsSimple (sym k.type) h
  standard_kept e f k Pred h = subst IsSimple (sym k.type) h
  standard_kept e f k Ord h = subst IsSimple (sym k.type) h

  head_kept : (e f : Expression) (es : Expressions) → ExpressionKept e f → TypedExpressions p es → ArgumentsKept (MoreExpressions e es) (MoreExpressions f es)
  head_kept e f es k typed = record { typed = (k.typed, typed); first = k.type; fit = fit; function = function es; statement = statement es }
    where
      fit : (vs : List (Name × Variable)) → AllFit p.env vs (MoreExpressions e es) → AllFit p.env vs (MoreExpressions f es)
      fit [] h = absurd h
      fit (v ∷ vs) h = (fits_kept v.1 e f k h.0, h.1)

      function : (es : Expressions) (d : Designator) → IsStandardCall p.env d (MoreExpressions e es) → IsStandardCall p.env d (MoreExpressions f es)
      function NoExpression (Plain x) h = (h.0, h.1, standard_kept e f k h.0 h.2)
      function NoExpression (Part d x) h = absurd h
      function NoExpression (At d i) h = absurd h
      function (MoreExpressions g gs) (Plain x) h = absurd h
      function (MoreExpressions g gs) (Part d x) h = absurd h
      function (MoreExpressions g gs) (At d i) h = absurd h

      statement : (es : Expressions) (d : Designator) → IsStandardStatement p d (MoreExpressions e es) → IsStandardStatement p d (MoreExpressions f es)
      statement NoExpression (Plain x) (inl h) = inl (h.0, subst IsSimple (sym k.type) h.1)
      statement NoExpression (Plain x) (inr (inl h)) = inr (inl (h.0, k.char h.1))
      statement NoExpression (Plain x) (inr (inr (inl h))) = inr (inr (inl (h.0, k.queue h.1)))
      statement NoExpression (Plain x) (inr (inr (inr h))) = inr (inr (inr (h.0, k.queue h.1, h.2)))
      statement NoExpression (Part d x) h = absurd h
      statement NoExpression (At d i) h = absurd h
      statement (MoreExpressions g gs) (Plain x) h = absurd h
      statement (MoreExpressions g gs) (Part d x) h = absurd h
      statement (MoreExpressions g gs) (At d i) h = absurd h

  -- no standard routine has two arguments
  tail_kept : (e g : Expression) (gs fs : Expressions) → TypedExpression p e → ArgumentsKept (MoreExpressions g gs) fs
      → ArgumentsKept (MoreExpressions e (MoreExpressions g gs)) (MoreExpressions e fs)
  tail_kept e g gs fs typed k = record { typed = (typed, k.typed); first = refl; fit = fit; function = function; statement = statement }
    where
      fit : (vs : List (Name × Variable)) → AllFit p.env vs (MoreExpressions e (MoreExpressions g gs)) → AllFit p.env vs (MoreExpressions e fs)
      fit [] h = absurd h
      fit (v ∷ vs) h = (h.0, k.fit vs h.1)

      function : (d : Designator) → IsStandardCall p.env d (MoreExpressions e (MoreExpressions g gs)) → IsStandardCall p.env d (MoreExpressions e fs)
      function (Plain x) h = absurd h
      function (Part d x) h = absurd h
      function (At d i) h = absurd h

      statement : (d : Designator) → IsStandardStatement p d (MoreExpressions e (MoreExpressions g gs)) → IsStandardStatement p d (MoreExpressions e fs)
      statement (Plain x) h = absurd h
      statement (Part d x) h = absurd h
      statement (At d i) h = absurd h

  function_kept : (o : Option Callee) (d : Designator) (es fs : Expressions) → ArgumentsKept es fs → IsFunctionCall p o d es → IsFunctionCall p o d fs
  function_kept (Some c) d es fs k h = (record { may = h.0.may; fit = k.fit _ h.0.fit }, h.1)
  function_kept None d es fs k h = k.function d h

  pub procedure_kept : (o : Option Callee) (d : Designator) (es fs : Expressions) → ArgumentsKept es fs → IsProcedureCall p o d es → IsProcedureCall p o d fs
  procedure_kept (Some c) d es fs k h = (record { may = h.0.may; fit = k.fit _ h.0.fit }, h.1)
  procedure_kept None d es fs k h = k.statement d h

  -- ---- the first call

  abbrev DesignatorResult : Designator → UserCall → Designator → Type 0
  DesignatorResult d u e = TypedCall p u × (Answers p u b → DesignatorKept d e)

  abbrev ExpressionResult : Expression → UserCall → Expression → Type 0
  ExpressionResult e u f = TypedCall p u × (Answers p u b → ExpressionKept e f)

  abbrev ArgumentsResult : Expressions → UserCall → Expressions → Type 0
  ArgumentsResult es u fs = TypedCall p u × (Answers p u b → ArgumentsKept es fs)

  -- the call of a name
  name_call : (d : Designator) (u : UserCall) (f : Expression) → user_call p.env d NoExpression known ≡ Some (u, f) → TypedExpression p (Use d) → ExpressionResult (Use d) u f
  name_call d u f h typed =
      let k = called_here p.env d NoExpression known u f h in
      let c : Callee = k.0 in
      let t : Called p c NoExpression × IsFunction c.routine = subst (λ o. IsUsedAs p o d) k.1 typed in (
        subst (TypedCall p) k.2 (record { here = refl; called = t.0; function = t.1; arguments = tt }),
        λ answers. subst (ExpressionKept (Use d)) k.3
            (answered (Use d) (ap (λ o. called_type p.env.globals o (own_value_type p.env d)) k.1 ∙ subst (λ w. Answers p w b) (sym k.2) answers)
            (λ t h. cc (h.0, k.1)) (λ h. cc (h.0, k.1)) (λ h. cc (h.0, k.1))),
      )

  -- the call of a name with arguments in which no call is left
  whole_call : (d : Designator) (es : Expressions) (u : UserCall) (f : Expression) → user_call p.env d es known ≡ Some (u, f) → TypedExpression p (Call d es) → ExpressionResult (Call d es) u f
  whole_call d es u f h typed =
      let k = called_here p.env d es known u f h in
      let c : Callee = k.0 in
      let t : Called p c es × IsFunction c.routine = subst (λ o. IsFunctionCall p o d es) k.1 typed.1 in (
        subst (TypedCall p) k.2 (record { here = refl; called = t.0; function = t.1; arguments = typed.0 }),
        λ answers. subst (ExpressionKept (Call d es)) k.3
            (answered (Call d es) (ap (λ o. called_type p.env.globals o (standard_type (name_of d) (first_type p.env es))) k.1 ∙ subst (λ w. Answers p w b) (sym k.2) answers)
            (λ t h. h) (λ h. h) (λ h. h)),
      )

  -- ---- one place or another

  at_call : (d : Designator) (i : Expression) (u : UserCall) (e : Designator) → call_in_designator p.env known (At d i) ≡ Some (u, e) → TypedPlace p (At d i)
      → ((y : Designator) → call_in_designator p.env known d ≡ Some (u, y) → TypedPlace p d → DesignatorResult d u y)
      → ((f : Expression) → first_call p.env known i ≡ Some (u, f) → TypedExpression p i → ExpressionResult i u f)
      → (in_context (λ y. At y i) (call_in_designator p.env known d) ≡ Some (u, e)) ⊎ (in_context (At d) (first_call p.env known i) ≡ Some (u, e)) → DesignatorResult (At d i) u e
  at_call d i u e h typed left right (inl g) =
      let k : (y : Designator) × (call_in_designator p.env known d ≡ Some (u, y)) × (At y i ≡ e) = found_inside (λ y. At y i) (call_in_designator p.env known d) u e g in
      let r : DesignatorResult d u k.0 = left k.0 k.1 typed.0 in (
        r.0,
        λ answers.
            let m : DesignatorKept d k.0 = r.1 answers in
            record {
              shape = shape_of (At d i) u e h;
              type = subst (λ z. place_type p.env z ≡ place_type p.env (At d i)) k.2 (ap element_type m.type);
              typed = subst (TypedPlace p) k.2 (m.typed, typed.1, subst IsArray (sym m.type) typed.2, typed.3);
            },
      )
  at_call d i u e h typed left right (inr g) =
      let k : (f : Expression) × (first_call p.env known i ≡ Some (u, f)) × (At d f ≡ e) = found_inside (At d) (first_call p.env known i) u e g in
      let r : ExpressionResult i u k.0 = right k.0 k.1 typed.1 in (
        r.0,
        λ answers.
            let m : ExpressionKept i k.0 = r.1 answers in
            record {
              shape = shape_of (At d i) u e h;
              type = subst (λ z. place_type p.env z ≡ place_type p.env (At d i)) k.2 refl;
              typed = subst (TypedPlace p) k.2 (typed.0, m.typed, typed.2, subst IsSimple (sym m.type) typed.3);
            },
      )

  use_call : (d : Designator) (u : UserCall) (f : Expression) → TypedExpression p (Use d)
      → ((y : Designator) → call_in_designator p.env known d ≡ Some (u, y) → TypedPlace p d → DesignatorResult d u y)
      → (in_context Use (call_in_designator p.env known d) ≡ Some (u, f)) ⊎ (user_call p.env d NoExpression known ≡ Some (u, f)) → ExpressionResult (Use d) u f
  use_call d u f typed inner (inl g) =
      let k : (y : Designator) × (call_in_designator p.env known d ≡ Some (u, y)) × (Use y ≡ f) = found_inside Use (call_in_designator p.env known d) u f g in
      let shape : Shape d k.0 = shape_of d u k.0 k.1 in
      let r : DesignatorResult d u k.0 = inner k.0 k.1 (shape.is_place (subst (λ o. IsUsedAs p o d) shape.before typed)) in
      (r.0, λ answers. subst (ExpressionKept (Use d)) k.2 (use_kept d k.0 (r.1 answers)))
  use_call d u f typed inner (inr g) = name_call d u f g typed

  call_call : (d : Designator) (es : Expressions) (u : UserCall) (f : Expression) → TypedExpression p (Call d es)
      → ((fs : Expressions) → call_in_arguments p.env known es ≡ Some (u, fs) → TypedExpressions p es → ArgumentsResult es u fs)
      → (in_context (Call d) (call_in_arguments p.env known es) ≡ Some (u, f)) ⊎ (user_call p.env d es known ≡ Some (u, f)) → ExpressionResult (Call d es) u f
  call_call d es u f typed inner (inl g) =
      let k : (fs : Expressions) × (call_in_arguments p.env known es ≡ Some (u, fs)) × (Call d fs ≡ f) = found_inside (Call d) (call_in_arguments p.env known es) u f g in
      let r : ArgumentsResult es u k.0 = inner k.0 k.1 typed.0 in (
        r.0,
        λ answers.
            let m : ArgumentsKept es k.0 = r.1 answers in
            subst (ExpressionKept (Call d es)) k.2
            (computed_kept (Call d es) (Call d k.0) (m.typed, function_kept (callee p.env d) d es k.0 m typed.1)
            (ap (λ t. called_type p.env.globals (callee p.env d) (standard_type (name_of d) t)) m.first) (λ t h. h) (λ h. h) (λ h. h)),
      )
  call_call d es u f typed inner (inr g) = whole_call d es u f g typed

  operands_kept : (o : Operator) (x y z w : Expression) → expression_type p.env z ≡ expression_type p.env x → expression_type p.env w ≡ expression_type p.env y
      → OperandsFit o (expression_type p.env x) (expression_type p.env y) → OperandsFit o (expression_type p.env z) (expression_type p.env w)
  operands_kept o x y z w e f h = subst (λ t. OperandsFit o t (expression_type p.env w)) (sym e) (subst (OperandsFit o (expression_type p.env x)) (sym f) h)

  binary_call : (o : Operator) (x y : Expression) (u : UserCall) (f : Expression) → TypedExpression p (Binary o x y)
      → ((z : Expression) → first_call p.env known x ≡ Some (u, z) → TypedExpression p x → ExpressionResult x u z)
      → ((z : Expression) → first_call p.env known y ≡ Some (u, z) → TypedExpression p y → ExpressionResult y u z)
      → (in_context (λ z. Binary o z y) (first_call p.env known x) ≡ Some (u, f)) ⊎ (in_context (Binary o x) (first_call p.env known y) ≡ Some (u, f)) → ExpressionResult (Binary o x y) u f
  binary_call o x y u f typed left right (inl g) =
      let k : (z : Expression) × (first_call p.env known x ≡ Some (u, z)) × (Binary o z y ≡ f) = found_inside (λ z. Binary o z y) (first_call p.env known x) u f g in
      let r : ExpressionResult x u k.0 = left k.0 k.1 typed.0 in (
        r.0,
        λ answers. subst (ExpressionKept (Binary o x y)) k.2
            (computed_kept (Binary o x y) (Binary o k.0 y) ((r.1 answers).typed, typed.1, operands_kept o x y k.0 y (r.1 answers).type refl typed.2) refl (λ t h. h) (λ h. h) (λ h. h)),
      )
  binary_call o x y u f typed left right (inr g) =
      let k : (z : Expression) × (first_call p.env known y ≡ Some (u, z)) × (Binary o x z ≡ f) = found_inside (Binary o x) (first_call p.env known y) u f g in
      let r : ExpressionResult y u k.0 = right k.0 k.1 typed.1 in (
        r.0,
        λ answers. subst (ExpressionKept (Binary o x y)) k.2
            (computed_kept (Binary o x y) (Binary o x k.0) (typed.0, (r.1 answers).typed, operands_kept o x y x k.0 refl (r.1 answers).type typed.2) refl (λ t h. h) (λ h. h) (λ h. h)),
      )

  more_call : (e : Expression) (es : Expressions) (u : UserCall) (fs : Expressions) → TypedExpressions p (MoreExpressions e es)
      → ((f : Expression) → first_call p.env known e ≡ Some (u, f) → TypedExpression p e → ExpressionResult e u f)
      → ((gs : Expressions) → call_in_arguments p.env known es ≡ Some (u, gs) → TypedExpressions p es → ArgumentsResult es u gs)
      → (in_context (λ y. MoreExpressions y es) (first_call p.env known e) ≡ Some (u, fs)) ⊎ (in_context (MoreExpressions e) (call_in_arguments p.env known es) ≡ Some (u, fs))
      → ArgumentsResult (MoreExpressions e es) u fs
  more_call e es u fs typed left right (inl g) =
      let k : (f : Expression) × (first_call p.env known e ≡ Some (u, f)) × (MoreExpressions f es ≡ fs) = found_inside (λ y. MoreExpressions y es) (first_call p.env known e) u fs g in
      let r : ExpressionResult e u k.0 = left k.0 k.1 typed.0 in
      (r.0, λ answers. subst (ArgumentsKept (MoreExpressions e es)) k.2 (head_kept e k.0 es (r.1 answers) typed.1))
  more_call e NoExpression u fs typed left right (inr g) =
      let k = found_inside (MoreExpressions e) (call_in_arguments p.env known NoExpression) u fs g in absurd (cc k.1)
  more_call e (MoreExpressions q qs) u fs typed left right (inr g) =
      let k : (gs : Expressions) × (call_in_arguments p.env known (MoreExpressions q qs) ≡ Some (u, gs)) × (MoreExpressions e gs ≡ fs) =
      found_inside (MoreExpressions e) (call_in_arguments p.env known (MoreExpressions q qs)) u fs g in
      let r : ArgumentsResult (MoreExpressions q qs) u k.0 = right k.0 k.1 typed.1 in
      (r.0, λ answers. subst (ArgumentsKept (MoreExpressions e (MoreExpressions q qs))) k.2 (tail_kept e q qs k.0 typed.0 (r.1 answers)))

  mutual
    pub designator_call : (d : Designator) (u : UserCall) (e : Designator) → call_in_designator p.env known d ≡ Some (u, e) → TypedPlace p d → DesignatorResult d u e
    designator_call (Plain x) u e h typed = absurd (cc)
    designator_call (Part d x) u e h typed =
        let k : (y : Designator) × (call_in_designator p.env known d ≡ Some (u, y)) × (Part y x ≡ e) = found_inside (λ y. Part y x) (call_in_designator p.env known d) u e h in
        let r : DesignatorResult d u k.0 = designator_call d u k.0 k.1 typed.0 in (
          r.0,
          λ answers.
              let m : DesignatorKept d k.0 = r.1 answers in
              record {
                shape = shape_of (Part d x) u e h;
                type = subst (λ z. place_type p.env z ≡ place_type p.env (Part d x)) k.2 (ap (field_type x) m.type);
                typed = subst (TypedPlace p) k.2 (m.typed, subst (HasField x) (sym m.type) typed.1);
              },
        )
    designator_call (At d i) u e h typed =
        at_call d i u e h typed (designator_call d u) (expression_call i u)
        (found_either (in_context (λ y. At y i) (call_in_designator p.env known d)) (in_context (At d) (first_call p.env known i)) (u, e) h)

    pub expression_call : (e : Expression) (u : UserCall) (f : Expression) → first_call p.env known e ≡ Some (u, f) → TypedExpression p e → ExpressionResult e u f
    expression_call (Literal k) u f h typed = absurd (cc)
    expression_call (Letter k) u f h typed = absurd (cc)
    expression_call (Known c k) u f h typed = absurd (cc)
    expression_call (Use d) u f h typed =
        use_call d u f typed (designator_call d u)
        (found_either (in_context Use (call_in_designator p.env known d)) (user_call p.env d NoExpression known) (u, f) h)
    expression_call (Call d es) u f h typed =
        call_call d es u f typed (arguments_call es u)
        (found_either (in_context (Call d) (call_in_arguments p.env known es)) (user_call p.env d es known) (u, f) h)
    expression_call (Not e) u f h typed =
        let k = found_inside Not (first_call p.env known e) u f h in
        let r : ExpressionResult e u k.0 = expression_call e u k.0 k.1 typed.0 in (
          r.0,
          λ answers. subst (ExpressionKept (Not e)) k.2
              (computed_kept (Not e) (Not k.0) ((r.1 answers).typed, subst (IsOfBase Boolean) (sym (r.1 answers).type) typed.1) refl (λ t h. h) (λ h. h) (λ h. h)),
        )
    expression_call (Negative e) u f h typed =
        let k = found_inside Negative (first_call p.env known e) u f h in
        let r : ExpressionResult e u k.0 = expression_call e u k.0 k.1 typed.0 in (
          r.0,
          λ answers. subst (ExpressionKept (Negative e)) k.2
              (computed_kept (Negative e) (Negative k.0) ((r.1 answers).typed, subst (IsOfBase Integer) (sym (r.1 answers).type) typed.1) refl (λ t h. h) (λ h. h) (λ h. h)),
        )
    expression_call (Positive e) u f h typed =
        let k = found_inside Positive (first_call p.env known e) u f h in
        let r : ExpressionResult e u k.0 = expression_call e u k.0 k.1 typed.0 in (
          r.0,
          λ answers. subst (ExpressionKept (Positive e)) k.2
              (computed_kept (Positive e) (Positive k.0) ((r.1 answers).typed, subst (IsOfBase Integer) (sym (r.1 answers).type) typed.1) (r.1 answers).type (λ t h. h) (λ h. h) (λ h. h)),
        )
    expression_call (Binary o x y) u f h typed =
        binary_call o x y u f typed (expression_call x u) (expression_call y u)
        (found_either (in_context (λ z. Binary o z y) (first_call p.env known x)) (in_context (Binary o x) (first_call p.env known y)) (u, f) h)

    pub arguments_call : (es : Expressions) (u : UserCall) (fs : Expressions) → call_in_arguments p.env known es ≡ Some (u, fs) → TypedExpressions p es → ArgumentsResult es u fs
    arguments_call NoExpression u fs h typed = absurd (cc)
    arguments_call (MoreExpressions e es) u fs h typed =
        more_call e es u fs typed (expression_call e u) (arguments_call es u)
        (found_either (in_context (λ y. MoreExpressions y es) (first_call p.env known e)) (in_context (MoreExpressions e) (call_in_arguments p.env known es)) (u, fs) h)
