-- What is called, and what a place or a right is, by the names of a statement.
use Rattle.std.proofs.Common.{◌≡◌, ℕ, suc, ◌<◌, ◌≤◌, List, [], ◌∷◌, Bool, true, false, Option, Some, None, find, refl, ap, sym, subst, ◌∙◌, ◌⊎◌, inl, inr, arith}
use Rattle.std.specs.Prelude.{if◌then◌else◌, slice_get}
use Rattle.std.specs.Str.{bytes_eq}
use Rattle.cp_model.proofs.Options.{same_some}
use Rattle.cp_model.specs.Abstract.{Assign, At, Binary, Call, Case, Class, Cycle, Designator, Expression, Expressions, For, If, Init, Known, Letter, Literal, Monitor, MoreExpressions, Name, Negative, NoExpression, Not, Nothing, Part, Perform, Plain, Positive, Repeat, Routine, Seq, Statement, Use, While}
use Rattle.cp_model.specs.Types.{ResolvedType}
use Rattle.cp_model.specs.Locations.{Location, OfActivation, OfMonitor, OfProcess, Owner}
use Rattle.cp_model.specs.Stores.{Absent, ClassRight, Initialised, MonitorRight, Ordinal, QueueHolds, Reference, Store, Value}
use Rattle.cp_model.specs.Environments.{Environment, IsConstant, IsUnknown, IsVariable, Meaning, meaning}
use Rattle.cp_model.specs.Places.{Place, element_place, within}
use Rattle.cp_model.specs.Outcomes.{Fault, Gives, Outcome, and_then, guard}
use Rattle.cp_model.specs.Operators.{Clock}
use Rattle.cp_model.specs.Expressions.{place, value}
use Rattle.cp_model.specs.Continuations.{Do, RepeatTest, Task, WhileTest}
use Rattle.cp_model.specs.Components.{Component, component_named, declared_monitor, monitor_number, monitor_right, name_location}
use Rattle.cp_model.specs.Calls.{Callee, Found, UserCall, call_in_arguments, call_in_designator, call_in_statement, call_in_task, callee, first_call, in_context, is_local, or_else, own_routine, routine_named, user_call}
use Rattle.cp_model.proofs.ExpressionReach.{IfGives}
use Rattle.cp_law_gates.specs.InOrder.{Fits, IsOrdered, IsOutermost, OwnVariable, RightsDescend, World, first_name}

-- ---- The calls of a task

module _ (P : UserCall → Type 0) where
  abbrev pub FoundIs : {A : Type 0} → Found A → Type 0
  FoundIs None = Unit {0}
  FoundIs (Some f) = P f.0

  context_is : {A B : Type 0} (f : A → B) (x : Found A) → FoundIs x → FoundIs (in_context f x)
  context_is f None h = tt
  context_is f (Some x) h = h

  or_is : {A : Type 0} (x y : Found A) → FoundIs x → FoundIs y → FoundIs (or_else x y)
  or_is None y h k = k
  or_is (Some x) y h k = h

  module _ (env : Environment) (v : Expression) (H : (d : Designator) (es : Expressions) (c : Callee) → callee env d ≡ Some c → P (record { callee = c; arguments = es; environment = env })) where
    user_is : (d : Designator) (es : Expressions) → FoundIs (user_call env d es v)
    user_is d es = by (callee env d) refl
      where
        by : (o : Option Callee) → callee env d ≡ o → FoundIs (elim o as (λ x. Found Expression) [ None ↦ None | Some c ↦ Some (record { callee = c; arguments = es; environment = env }, v) ])
        by None e = tt
        by (Some c) e = H d es c e

    mutual
      first_is : (e : Expression) → FoundIs (first_call env v e)
      first_is (Use d) = or_is (in_context Use (call_in_designator env v d)) (user_call env d NoExpression v) (context_is Use (call_in_designator env v d) (designator_is d)) (user_is d NoExpression)
      first_is (Call d es) = or_is (in_context (Call d) (call_in_arguments env v es)) (user_call env d es v) (context_is (Call d) (call_in_arguments env v es) (arguments_is es)) (user_is d es)
      first_is (Not e) = context_is Not (first_call env v e) (first_is e)
      first_is (Negative e) = context_is Negative (first_call env v e) (first_is e)
      first_is (Positive e) = context_is Positive (first_call env v e) (first_is e)
      first_is (Binary o x y) =
          or_is (in_context (λ z. Binary o z y) (first_call env v x)) (in_context (Binary o x) (first_call env v y))
          (context_is (λ z. Binary o z y) (first_call env v x) (first_is x)) (context_is (Binary o x) (first_call env v y) (first_is y))
      first_is (Literal n) = tt
      first_is (Letter n) = tt
      first_is (Known k n) = tt

      designator_is : (d : Designator) → FoundIs (call_in_designator env v d)
      designator_is (Plain x) = tt
      designator_is (Part d x) = context_is (λ y. Part y x) (call_in_designator env v d) (designator_is d)
      designator_is (At d e) =
          or_is (in_context (λ y. At y e) (call_in_designator env v d)) (in_context (At d) (first_call env v e))
          (context_is (λ y. At y e) (call_in_designator env v d) (designator_is d)) (context_is (At d) (first_call env v e) (first_is e))

      arguments_is : (es : Expressions) → FoundIs (call_in_arguments env v es)
      arguments_is NoExpression = tt
      arguments_is (MoreExpressions e es) =
          or_is (in_context (λ y. MoreExpressions y es) (first_call env v e)) (in_context (MoreExpressions e) (call_in_arguments env v es))
          (context_is (λ y. MoreExpressions y es) (first_call env v e) (first_is e)) (context_is (MoreExpressions e) (call_in_arguments env v es) (arguments_is es))

    statement_is : (x : Statement) → FoundIs (call_in_statement env v x)
    statement_is (Assign d e) =
        or_is (in_context (λ y. Assign y e) (call_in_designator env v d)) (in_context (Assign d) (first_call env v e))
        (context_is (λ y. Assign y e) (call_in_designator env v d) (designator_is d)) (context_is (Assign d) (first_call env v e) (first_is e))
    statement_is (Perform d es) = context_is (Perform d) (call_in_arguments env v es) (arguments_is es)
    statement_is (If e x y) = context_is (λ z. If z x y) (first_call env v e) (first_is e)
    statement_is (Case e arms) = context_is (λ z. Case z arms) (first_call env v e) (first_is e)
    statement_is (For x down e f y) =
        or_is (in_context (λ z. For x down z f y) (first_call env v e)) (in_context (λ z. For x down e z y) (first_call env v f))
        (context_is (λ z. For x down z f y) (first_call env v e) (first_is e)) (context_is (λ z. For x down e z y) (first_call env v f) (first_is f))
    statement_is (Init x es) = context_is (Init x) (call_in_arguments env v es) (arguments_is es)
    statement_is Nothing = tt
    statement_is (Seq x y) = tt
    statement_is (While e x) = tt
    statement_is (Repeat x e) = tt
    statement_is (Cycle x) = tt

    pub do_is : (x : Statement) → FoundIs (call_in_task v (Do x env))
    do_is x = context_is (λ y. Do y env) (call_in_statement env v x) (statement_is x)

    pub while_is : (now e : Expression) (x : Statement) → FoundIs (call_in_task v (WhileTest now e x env))
    while_is now e x = context_is (λ y. WhileTest y e x env) (first_call env v now) (first_is now)

    pub repeat_is : (now : Expression) (x : Statement) (e : Expression) → FoundIs (call_in_task v (RepeatTest now x e env))
    repeat_is now x e = context_is (λ y. RepeatTest y x e env) (first_call env v now) (first_is now)

-- ---- Callees

-- The routine belongs to the running component, or to a component that a name means.
abbrev pub IsCallable : Environment → Routine → Option Component → Type 0
IsCallable env r None = (j : ℕ) × (slice_get env.system.routines j ≡ Some r)
IsCallable env r (Some n) = (x : Name) × (component_named env x ≡ Some n) × ((j : ℕ) × (slice_get n.system.routines j ≡ Some r))

found_at : (f : Routine → Bool) (rs : List Routine) (r : Routine) → find f rs ≡ Some r → (j : ℕ) × (slice_get rs j ≡ Some r)
found_at f [] r e = absurd (grind arith)
found_at f (q ∷ rs) r e = by (f q) refl e (found_at f rs r)
  where
    by : (b : Bool) → f q ≡ b → find f (q ∷ rs) ≡ Some r → (find f rs ≡ Some r → (j : ℕ) × (slice_get rs j ≡ Some r)) → (j : ℕ) × (slice_get (q ∷ rs) j ≡ Some r)
    by true x e more = (0, sym (ap (λ b. if b then Some q else find f rs) x) ∙ e)
    by false x e more = let m = more (sym (ap (λ b. if b then Some q else find f rs) x) ∙ e) in (suc m.0, m.1)

pub callee_is : (env : Environment) (d : Designator) (c : Callee) → callee env d ≡ Some c → IsCallable env c.routine c.of
callee_is env (Plain f) c e = by (own_routine (is_local env.globals env.frame f) f env.system) refl e
  where
    own : (b : Bool) (r : Routine) → own_routine b f env.system ≡ Some r → (j : ℕ) × (slice_get env.system.routines j ≡ Some r)
    own true r e = absurd (grind arith)
    own false r e = found_at (λ r. bytes_eq f r.name) env.system.routines r e

    by : (o : Option Routine) → own_routine (is_local env.globals env.frame f) f env.system ≡ o
        → (elim o as (λ x. Option Callee) [ None ↦ None | Some r ↦ Some (record { routine = r; of = None }) ]) ≡ Some c → IsCallable env c.routine c.of
    by None x h = absurd (grind arith)
    by (Some r) x h = subst (λ z. IsCallable env z.routine z.of) (same_some (record { routine = r; of = None }) c h) (own (is_local env.globals env.frame f) r x)
callee_is env (Part (Plain x) f) c e = by (component_named env x) refl e
  where
    at : (n : Component) → component_named env x ≡ Some n → (o : Option Routine) → routine_named f n.system ≡ o
        → (elim o as (λ x. Option Callee) [ None ↦ None | Some r ↦ Some (record { routine = r; of = Some n }) ]) ≡ Some c → IsCallable env c.routine c.of
    at n is None y h = absurd (grind arith)
    at n is (Some r) y h = subst (λ z. IsCallable env z.routine z.of) (same_some (record { routine = r; of = Some n }) c h) (x, is, found_at (λ r. bytes_eq f r.name) n.system.routines r y)

    by : (o : Option Component) → component_named env x ≡ o
        → (elim o as (λ z. Option Callee) [ None ↦ None | Some n ↦ elim (routine_named f n.system) as (λ x. Option Callee) [ None ↦ None | Some r ↦ Some (record { routine = r; of = Some n }) ] ]) ≡ Some c → IsCallable env c.routine c.of
    by None y h = absurd (grind arith)
    by (Some n) y h = at n y (routine_named f n.system) refl h
callee_is env (Part (Part d y) x) c e = absurd (grind arith)
callee_is env (Part (At d y) x) c e = absurd (grind arith)
callee_is env (At d y) c e = absurd (grind arith)

-- ---- Places

-- A designator that begins with a variable of the component itself is there.
pub own_place : (clock : Clock) (env : Environment) (store : Store) (d : Designator) → OwnVariable env (meaning env (first_name d))
    → IfGives (λ (p : Place). p.at.owner ≡ env.component.owner) (place clock env store d)
own_place clock env store (Plain x) h = by (meaning env x) h
  where
    direct : (b : Bool) (at : Location) → b ≡ false → at.owner ≡ env.component.owner → (if b then Rattle.cp_model.specs.Places.referent at (store at) else at).owner ≡ env.component.owner
    direct true at e k = absurd (grind arith)
    direct false at e k = k

    by : (m : Meaning) → OwnVariable env m → (Rattle.cp_model.specs.Places.place_of_meaning env store m).at.owner ≡ env.component.owner
    by (IsVariable at v) k = direct v.by_reference at k.1 k.0
    by (IsConstant b n) k = refl
    by IsUnknown k = refl
own_place clock env store (Part d x) h = by (place clock env store d) (own_place clock env store d h)
  where
    by : (o : Outcome Place) → IfGives (λ (p : Place). p.at.owner ≡ env.component.owner) o
        → IfGives (λ (p : Place). p.at.owner ≡ env.component.owner) (and_then o (λ p. Gives (Rattle.cp_model.specs.Places.field_place x p)))
    by (Fault n) k = tt
    by (Gives p) k = k
own_place clock env store (At d e) h = by (place clock env store d) (own_place clock env store d h) (value clock env store e)
  where
    element : (at : Location) (t : ResolvedType) (i : Rattle.std.specs.Prelude.ℤ) → at.owner ≡ env.component.owner → IfGives (λ (p : Place). p.at.owner ≡ env.component.owner) (element_place at t i)
    element at (Rattle.cp_model.specs.Types.ArrayOf low high t) i k = guarded (within low high i)
      where
        guarded : (b : Bool) → IfGives (λ (p : Place). p.at.owner ≡ env.component.owner) (guard b 2 (record { at = Rattle.cp_model.specs.Locations.under at (Rattle.cp_model.specs.Locations.ByIndex i ∷ []); type = t }))
        guarded true = k
        guarded false = tt
    element at (Rattle.cp_model.specs.Types.Simple b low high start) i k = tt
    element at (Rattle.cp_model.specs.Types.RecordOf ps) i k = tt
    element at Rattle.cp_model.specs.Types.Queue i k = tt
    element at (Rattle.cp_model.specs.Types.ComponentOf s ps) i k = tt
    element at Rattle.cp_model.specs.Types.NoType i k = tt

    by : (o : Outcome Place) → IfGives (λ (p : Place). p.at.owner ≡ env.component.owner) o → (v : Outcome Rattle.cp_model.specs.Places.TypedValue)
        → IfGives (λ (p : Place). p.at.owner ≡ env.component.owner) (and_then o (λ p. and_then v (λ x. Rattle.cp_model.specs.Places.indexed_place p (Rattle.cp_model.specs.Places.ordinal_of x))))
    by (Fault n) k v = tt
    by (Gives p) k (Fault n) = tt
    by (Gives p) k (Gives x) = element p.at p.type (Rattle.cp_model.specs.Places.ordinal_of x) k

-- ---- Monitors

pub process_no_monitor : (p m : ℕ) → OfProcess p ≡ OfMonitor m → ⊥
process_no_monitor p m e = grind arith

-- In a monitor, a name means only monitors of earlier types.
module _ (w : World) (O : IsOrdered w) (store : Store) (R : RightsDescend w.place store) where
  pub number_earlier : (env : Environment) (k : List Task) (x : Name) (n : Component) (m : ℕ) → Fits w env k → component_named env x ≡ Some n → n.system.sort ≡ Monitor
      → env.component.owner ≡ OfMonitor m → 1 ≤ m → m ≤ w.monitors → w.place (monitor_number env store n) < w.place m
  number_earlier env k x n m F e sort own low high = by F.here.kind
    where
      right : (v : Value) → store (name_location env n) ≡ v → w.place (monitor_right v) < w.place m
      right (MonitorRight j) h = R (name_location env n) m j own h
      right Absent h = O.zero_first m low high
      right (Ordinal j) h = O.zero_first m low high
      right (QueueHolds j) h = O.zero_first m low high
      right (ClassRight j) h = O.zero_first m low high
      right (Reference j) h = O.zero_first m low high
      right (Initialised j) h = O.zero_first m low high

      no_class : Monitor ≡ Class → ⊥
      no_class e = grind arith

      by_parameter : (b : Bool) → (b ≡ false → n.system.sort ≡ Class) → w.place (if b then monitor_right (store (name_location env n)) else declared_monitor env n) < w.place m
      by_parameter true h = right (store (name_location env n)) refl
      by_parameter false h = absurd (no_class (sym sort ∙ h refl))

      by : IsOutermost w env ⊎ w.IsInner env.system → w.place (monitor_number env store n) < w.place m
      by (inl o) = absurd (process_no_monitor 1 m (sym (ap (λ (l : Location). l.owner) o.1) ∙ own))
      by (inr i) = by_parameter n.is_parameter (O.inner_components env x n F.here.scope i e).0
