-- What follows from the typing of a text, and from the meaning of names.
use Rattle.std.proofs.Common.{◌≡◌, ◌<◌, ◌≤◌, ◌⊎◌, inl, inr, ℕ, zero, suc, ℤ, Bool, true, false, List, [], ◌∷◌, ◌++◌, Option, Some, None, if◌then◌else◌, slice_get, take, bytes_eq, codes, refl, ap, sym, subst, ◌∙◌, arith, append_assoc, is_some}
use Rattle.std.proofs.lemmas.Bool.{true≢false}
use Rattle.cp_model.specs.Abstract.{Add, Divide, Modulo, Multiply, Subtract, At, BaseType, Binary, Call, Designator, Expression, Expressions, Integer, Known, Letter, Literal, Monitor, Name, Negative, Not, Operator, Part, Plain, Positive, Process, Sort, Use, Routine, NoExpression}
use Rattle.cp_model.specs.Names.{lookup}
use Rattle.cp_model.specs.Types.{GlobalScope, ResolvedType, full_range, named_type}
use Rattle.cp_model.specs.Declarations.{Variable, globals, declarations}
use Rattle.cp_model.specs.Locations.{ByName, Location, root, under}
use Rattle.cp_model.specs.Environments.{Environment, Frame, IsConstant, IsVariable, Meaning, constant_or_unknown, local_or, local_variables, meaning, permanent_variables, variable_or, result_variable}
use Rattle.cp_model.specs.Components.{count_before, is_component_of}
use Rattle.cp_model.specs.Calls.{Callee, callee, own_routine}
use Rattle.cp_model.specs.States.{count_components, initial_variables}
use Rattle.cp_model.specs.Expressions.{name_of}
use Rattle.cp_law_typing.specs.StaticTypes.{answer_type, called_type, expression_type, is_clock, named_value_type, own_value_type, place_type, standard_type, first_type, place_type_meant, value_type_meant}
use Rattle.cp_law_typing.specs.Judgement.{IsUsedAs, Place, TypedPlace, TypedUse, is_structured, Called, IsFunction}
use Rattle.cp_law_typing.specs.WellTyped.{TypedRoutine, TypedSystem, text_systems, routine_place}
use Rattle.cp_law_typing.specs.Variables.{IsGlobalConstant, IsLocalVariable, IsOwnVariable, frame_variables}
use Rattle.cp_law_typing.specs.Declared.{Distinct}
use Rattle.cp_law_typing.specs.Laws.{CalleesAreDefinedBefore, ConstantsAreGlobal, MonitorsAreNumbered, ProcessesAreNumbered, StructuredValuesAreVariables, VariablesLieWhereDeclared, ResultsAreAssignedAlone}
use Rattle.cp_law_typing.proofs.Visible.{some_same}
use Rattle.cp_law_typing.proofs.Names.{lookup_later, bytes_eq-refl, bytes_same}

-- ---- names

-- the constant that a meaning is, if it is one
abbrev constant_in : BaseType × ℤ → Meaning → BaseType × ℤ
constant_in c (IsConstant b n) = (b, n)
constant_in c _ = c

variable_same : (l k : Location) (v w : Variable) → IsVariable l v ≡ IsVariable k w → (l ≡ k) × (v ≡ w)
variable_same l k v w h = (cc, cc)

module _ (env : Environment) (x : Name) where
  abbrev below : Meaning
  below = variable_or (lookup x (permanent_variables env.globals env.system)) env.component.owner env.component.path x (constant_or_unknown (lookup x env.globals.constants))

  no_constant : (o : Option (BaseType × ℤ)) (at : Location) (v : Variable) → constant_or_unknown o ≡ IsVariable at v → ⊥
  no_constant (Some c) at v h = cc
  no_constant None at v h = cc

  own_variable : (at : Location) (v : Variable) → lookup x (frame_variables env.globals env.frame) ≡ None → below ≡ IsVariable at v → IsOwnVariable env x at v
  own_variable at v none h = go (lookup x (permanent_variables env.globals env.system)) refl h
    where
      go : (o : Option Variable) → lookup x (permanent_variables env.globals env.system) ≡ o
          → variable_or o env.component.owner env.component.path x (constant_or_unknown (lookup x env.globals.constants)) ≡ IsVariable at v → IsOwnVariable env x at v
      go (Some w) is h =
          let same = variable_same (under env.component (ByName x ∷ [])) at w v h in
          record { no_local = none; found = is ∙ ap (λ z. Some z) same.1; lies = sym same.0 }
      go None is h = absurd (no_constant (lookup x env.globals.constants) at v h)

  own_constant : (b : BaseType) (n : ℤ) → lookup x (frame_variables env.globals env.frame) ≡ None → below ≡ IsConstant b n → IsGlobalConstant env x b n
  own_constant b n none h = go (lookup x (permanent_variables env.globals env.system)) refl h
    where
      among : (o : Option (BaseType × ℤ)) → constant_or_unknown o ≡ IsConstant b n → o ≡ Some (b, n)
      among (Some c) g = ap (λ m. Some (constant_in c m)) g
      among None g = absurd (cc)

      go : (o : Option Variable) → lookup x (permanent_variables env.globals env.system) ≡ o
          → variable_or o env.component.owner env.component.path x (constant_or_unknown (lookup x env.globals.constants)) ≡ IsConstant b n → IsGlobalConstant env x b n
      go (Some w) is h = absurd (cc)
      go None is h = record { no_local = none; no_own = is; found = among (lookup x env.globals.constants) h }

  local_variable : (o : Option Frame) (at : Location) (v : Variable) → env.frame ≡ o → local_or env.globals o x below ≡ IsVariable at v
      → IsLocalVariable env x at v ⊎ IsOwnVariable env x at v
  local_variable None at v is h = inr (own_variable at v (ap (λ o. lookup x (frame_variables env.globals o)) is) h)
  local_variable (Some f) at v is h = go (lookup x (local_variables env.globals f.routine)) refl h
    where
      go : (o : Option Variable) → lookup x (local_variables env.globals f.routine) ≡ o → variable_or o f.owner [] x below ≡ IsVariable at v
          → IsLocalVariable env x at v ⊎ IsOwnVariable env x at v
      go (Some w) found h =
          let same = variable_same (under (root f.owner) (ByName x ∷ [])) at w v h in
          inl (record { frame = f; running = is; found = found ∙ ap (λ z. Some z) same.1; lies = sym same.0 })
      go None found h = inr (own_variable at v (ap (λ o. lookup x (frame_variables env.globals o)) is ∙ found) h)

  local_constant : (o : Option Frame) (b : BaseType) (n : ℤ) → env.frame ≡ o → local_or env.globals o x below ≡ IsConstant b n → IsGlobalConstant env x b n
  local_constant None b n is h = own_constant b n (ap (λ o. lookup x (frame_variables env.globals o)) is) h
  local_constant (Some f) b n is h = go (lookup x (local_variables env.globals f.routine)) refl h
    where
      go : (o : Option Variable) → lookup x (local_variables env.globals f.routine) ≡ o → variable_or o f.owner [] x below ≡ IsConstant b n → IsGlobalConstant env x b n
      go (Some w) found h = absurd (cc)
      go None found h = own_constant b n (ap (λ o. lookup x (frame_variables env.globals o)) is ∙ found) h

pub variables_lie : VariablesLieWhereDeclared
variables_lie env x at v h = local_variable env x env.frame at v refl h

pub constants_are_global : ConstantsAreGlobal
constants_are_global env x b n h = local_constant env x env.frame b n refl h

-- ---- values of arrays and records

plain_answer : (g : GlobalScope) (o : Option Name) → is_structured (answer_type g o) ≡ true → ⊥
plain_answer g None h = true≢false (sym h)
plain_answer g (Some t) h = true≢false (sym h)

plain_standard : (f : Name) (t : ResolvedType) → is_structured (standard_type f t) ≡ true → ⊥
plain_standard f t h = true≢false (sym h ∙ plain_if (bytes_eq f (codes "abs")) _ _ refl (plain_if (bytes_eq f (codes "succ")) _ _ refl (plain_if (bytes_eq f (codes "pred")) _ _ refl
    (plain_if (bytes_eq f (codes "ord")) _ _ refl (plain_if (bytes_eq f (codes "empty")) _ _ refl refl)))))
  where
    plain_if : (b : Bool) (t u : ResolvedType) → is_structured t ≡ false → is_structured u ≡ false → is_structured (if b then t else u) ≡ false
    plain_if true t u h k = h
    plain_if false t u h k = k

plain_operator : (o : Operator) (p : Place) (x y : Expression) → is_structured (expression_type p.env (Binary o x y)) ≡ true → ⊥
plain_operator Add p x y h = true≢false (sym h)
plain_operator Subtract p x y h = true≢false (sym h)
plain_operator Multiply p x y h = true≢false (sym h)
plain_operator Divide p x y h = true≢false (sym h)
plain_operator Modulo p x y h = true≢false (sym h)
plain_operator _ p x y h = true≢false (sym h)

plain_call : (p : Place) (d : Designator) (es : Expressions) (o : Option Callee)
    → is_structured (called_type p.env.globals o (standard_type (name_of d) (first_type p.env es))) ≡ true → ⊥
plain_call p d es (Some c) h = plain_answer p.env.globals c.routine.result h
plain_call p d es None h = plain_standard (name_of d) (first_type p.env es) h

-- a bare name that isn't a call
plain_used : (p : Place) (x : Name) → TypedUse p (Plain x) → is_structured (named_value_type p.env x) ≡ true → TypedPlace p (Plain x) × (named_value_type p.env x ≡ place_type p.env (Plain x))
plain_used p x (inl is) h = absurd (true≢false (sym h ∙ ap (λ b. is_structured (if b then full_range Integer else value_type_meant (meaning p.env x))) (ap is_clock is)))
plain_used p x (inr (inl c)) h =
    absurd (true≢false (sym h ∙ ap (λ b. is_structured (if b then full_range Integer else value_type_meant (meaning p.env x))) c.0 ∙ ap (λ m. is_structured (value_type_meant m)) c.1.2))
plain_used p x (inr (inr v)) h =
    (v.1, ap (λ b. if b then full_range Integer else value_type_meant (meaning p.env x)) v.0 ∙ ap value_type_meant v.1.2 ∙ sym (ap place_type_meant v.1.2))

place_used : (p : Place) (d : Designator) → TypedUse p d → is_structured (own_value_type p.env d) ≡ true → TypedPlace p d × (own_value_type p.env d ≡ place_type p.env d)
place_used p (Plain x) t h = plain_used p x t h
place_used p (Part d x) t h = (t, refl)
place_used p (At d i) t h = (t, refl)

used : (p : Place) (d : Designator) (o : Option Callee) → callee p.env d ≡ o → IsUsedAs p o d → is_structured (called_type p.env.globals o (own_value_type p.env d)) ≡ true
    → (e : Designator) × (Use d ≡ Use e) × (callee p.env e ≡ None) × TypedPlace p e × (place_type p.env e ≡ expression_type p.env (Use d))
used p d (Some c) is t h = absurd (plain_answer p.env.globals c.routine.result h)
used p d None is t h =
    let k : TypedPlace p d × (own_value_type p.env d ≡ place_type p.env d) = place_used p d t h in
    (d, refl, is, k.0, sym (ap (λ z. called_type p.env.globals z (own_value_type p.env d)) is ∙ k.1))

pub structured_values : StructuredValuesAreVariables
structured_values p (Literal n) t h = absurd (true≢false (sym h))
structured_values p (Letter n) t h = absurd (true≢false (sym h))
structured_values p (Not e) t h = absurd (true≢false (sym h))
structured_values p (Negative e) t h = absurd (true≢false (sym h))
structured_values p (Known b n) t h = absurd (true≢false (sym h))
structured_values p (Binary o x y) t h = absurd (plain_operator o p x y h)
structured_values p (Positive e) t h = absurd (true≢false (sym h ∙ ap is_structured t.1.is))
structured_values p (Call d es) t h = absurd (plain_call p d es (callee p.env d) h)
structured_values p (Use d) t h = used p d (callee p.env d) refl t h

-- ---- calls

pub taken : {A : Type 0} (xs : List A) (i j : ℕ) (x : A) → slice_get (take i xs) j ≡ Some x → (j < i) × (slice_get xs j ≡ Some x)
taken xs zero j x h = absurd (cc)
taken [] (suc i) j x h = absurd (cc)
taken (y ∷ xs) (suc i) zero x h = (omega arith, h)
taken (y ∷ xs) (suc i) (suc j) x h = let k : (j < i) × (slice_get xs j ≡ Some x) = taken xs i j x h in (omega (arith, k.0), k.1)

pub callees_before : CalleesAreDefinedBefore
callees_before setup i p r m typed systems may =
    let k : (may.0 < i) × (slice_get (text_systems setup) may.0 ≡ Some m.system) =
    taken (text_systems setup) i may.0 m.system (sym (ap (λ l. slice_get l may.0) systems) ∙ may.2) in
    let system : TypedSystem (globals setup.tree) (take may.0 (text_systems setup)) m.system = typed.systems may.0 m.system k.1 in
    let routine : TypedRoutine (globals setup.tree) (take may.0 (text_systems setup)) m.system may.1 r = system.bodies.routines may.1 r may.3 in
    (may.0, k.0, k.1, routine.entry may.4)

-- ---- results

-- a name that is declared later in a list of distinct names isn't one of those before it
none_before : (x : Name) (v : Variable) (ds es : List (Name × Variable)) → Distinct (ds ++ (x, v) ∷ es) → lookup x ds ≡ None
none_before x v [] es d = refl
none_before x v (e ∷ ds) es d = go (bytes_eq x e.0) refl (none_before x v ds es d.1)
  where
    go : (b : Bool) → bytes_eq x e.0 ≡ b → lookup x ds ≡ None → (if b then Some e.1 else lookup x ds) ≡ None
    go false is rest = rest
    go true is rest =
        absurd (cc (
          lookup_later x ds ((x, v) ∷ es) rest,
          ap (λ b. if b then Some v else lookup x es) (bytes_eq-refl x),
          ap (λ z. lookup z (ds ++ (x, v) ∷ es)) (bytes_same x e.0 is) ∙ d.0,
        ))

pub results_alone : ResultsAreAssignedAlone
results_alone g before s k r t at o routine is typed =
    let ps : List (Name × Variable) = declarations g r.parameters in
    let vs : List (Name × Variable) = declarations g r.variables in
    let result : Variable = record { by_reference = false; type = named_type g t } in
    let all : local_variables g r ++ permanent_variables g s ≡ (ps ++ vs) ++ (r.name, result) ∷ permanent_variables g s =
    ap (λ w. (ps ++ (vs ++ result_variable g r.name w)) ++ permanent_variables g s) is
    ∙ ap (λ l. l ++ permanent_variables g s) (sym (append_assoc ps vs ((r.name, result) ∷ []))) ∙ append_assoc (ps ++ vs) ((r.name, result) ∷ []) (permanent_variables g s) in
    let no_local : lookup r.name (ps ++ vs) ≡ None = none_before r.name result (ps ++ vs) (permanent_variables g s) (subst Distinct all routine.distinct) in
    let p : Place = routine_place g before s k r at o in
    let called : callee p.env (Plain r.name) ≡ Some (record { routine = r; of = None }) =
    ap (λ b. called_by (own_routine b r.name s)) (ap is_some no_local) ∙ ap called_by routine.found in
    let used : Called p (record { routine = r; of = None }) NoExpression × IsFunction r = subst (λ w. IsUsedAs p w (Plain r.name)) called typed in
    omega (arith, used.0.may.1, routine.alone used.0.may.0 r used.0.may.2 refl)
  where
    called_by : Option Routine → Option Callee
    called_by w = elim w [ None ↦ None | Some q ↦ Some (record { routine = q; of = None }) ]

-- ---- numbers

counted : (s : Sort) (x : Name) (v : Variable) (vs : List (Name × Variable)) → lookup x vs ≡ Some v → is_component_of s v.type ≡ true
    → suc (count_before s x vs) ≤ count_components s vs
counted s x v [] h is = absurd (cc)
counted s x v (w ∷ ws) h is = go (bytes_eq x w.0) h (counted s x v ws)
  where
    here : Some w.1 ≡ Some v → is_component_of s w.1.type ≡ true
    here h = ap (λ z. is_component_of s z.type) (some_same (Some w.1) w.1 v refl h) ∙ is

    go : (b : Bool) → (if b then Some w.1 else lookup x ws) ≡ Some v → (lookup x ws ≡ Some v → is_component_of s v.type ≡ true → suc (count_before s x ws) ≤ count_components s ws)
        → suc (if b then 0 else if is_component_of s w.1.type then suc (count_before s x ws) else count_before s x ws)
        ≤ (if is_component_of s w.1.type then suc (count_components s ws) else count_components s ws)
    go true h rest = subst (λ b. 1 ≤ (if b then suc (count_components s ws) else count_components s ws)) (sym (here h)) (omega arith)
    go false h rest = by (is_component_of s w.1.type) (rest h is)
      where
        by : (b : Bool) → suc (count_before s x ws) ≤ count_components s ws
            → suc (if b then suc (count_before s x ws) else count_before s x ws) ≤ (if b then suc (count_components s ws) else count_components s ws)
        by true k = omega (arith, k)
        by false k = k

pub processes_numbered : ProcessesAreNumbered
processes_numbered setup x v h is = omega (arith, counted Process x v (initial_variables setup) h is)

pub monitors_numbered : MonitorsAreNumbered
monitors_numbered setup x v h is = omega (arith, counted Monitor x v (initial_variables setup) h is)
