-- Values and places have their static types, whatever the store.
use Rattle.std.proofs.Common.{◌≡◌, ℕ, ℤ, pos, negsuc, neg_ℤ, Bool, true, false, Option, Some, None, nat_abs, int_div, int_rem, ◌+ℤ◌, ◌-ℤ◌, ◌*ℤ◌, if◌then◌else◌, refl, ap, sym, ◌∙◌, codes, bytes_eq}
use Rattle.cp_model.specs.Abstract.{Add, And, At, AtLeast, AtMost, Binary, Boolean, Call, Char, Designator, Divide, Equal, Expression, Expressions, Greater, Integer, Known, Less, Letter, Literal, Modulo, MoreExpressions, Multiply, Name, Negative, NoExpression, Not, Operator, Or, Part, Plain, Positive, Subtract, Unequal, Use}
use Rattle.cp_model.specs.Types.{ArrayOf, ComponentOf, NoType, Queue, RecordOf, ResolvedType, Simple, base_of_type, full_range}
use Rattle.cp_model.specs.Outcomes.{Fault, Gives, Outcome, and_then, guard}
use Rattle.cp_model.specs.Stores.{Store}
use Rattle.cp_model.specs.Environments.{Environment, IsConstant, IsUnknown, IsVariable, Meaning, meaning}
use Rattle.cp_model.specs.Places.{Place, TypedValue, element_place, head_value, field_place, field_type, indexed_place, ordinal_of, place_of_meaning, read, simple_value, truth_value, value_of_meaning, within}
use Rattle.cp_model.specs.Operators.{Clock, apply_operator, integer_result, is_empty_queue, realtime, shift, standard_function, with_divisor}
use Rattle.cp_model.specs.Expressions.{name_of, place, value, value_of_name}
use Rattle.cp_model.specs.Calls.{Callee, Found, callee, call_in_arguments, call_in_designator, first_call, in_context, or_else, user_call}
use Rattle.cp_model.specs.Integers.{same_integer}
use Rattle.cp_law_typing.specs.StaticTypes.{called_type, element_type, expression_type, is_clock, named_value_type, operator_type, own_value_type, place_type, place_type_meant, standard_type, value_type_meant}

-- what an outcome gives, if it gives anything
gives_then : {A B : Type 0} (o : Outcome A) (f : A → Outcome B) (y : B) → and_then o f ≡ Gives y → (x : A) × (o ≡ Gives x) × (f x ≡ Gives y)
gives_then (Gives x) f y h = (x, refl, h)
gives_then (Fault n) f y h = absurd (cc)

given_same : {A : Type 0} (x y : A) → Gives x ≡ Gives y → x ≡ y
given_same x y h = cc

provided_gives : {A : Type 0} (b : Bool) (n : ℕ) (x y : A) → guard b n x ≡ Gives y → x ≡ y
provided_gives true n x y h = cc
provided_gives false n x y h = absurd (cc)

-- ---- places

meant_place : (env : Environment) (store : Store) (m : Meaning) → (place_of_meaning env store m).type ≡ place_type_meant m
meant_place env store (IsVariable l v) = refl
meant_place env store (IsConstant b n) = refl
meant_place env store IsUnknown = refl

element_of : (p : Place) (t : ResolvedType) (i : ℤ) (q : Place) → element_place p.at t i ≡ Gives q → q.type ≡ element_type t
element_of p (ArrayOf low high t) i q h = ap (λ z. z.type) (sym (provided_gives _ 2 _ q h))
element_of p (Simple b low high start) i q h = absurd (cc)
element_of p (RecordOf ps) i q h = absurd (cc)
element_of p Queue i q h = absurd (cc)
element_of p (ComponentOf s inner) i q h = absurd (cc)
element_of p NoType i q h = absurd (cc)

pub place_has_type : (clock : Clock) (env : Environment) (store : Store) (d : Designator) (p : Place) → place clock env store d ≡ Gives p → p.type ≡ place_type env d
place_has_type clock env store (Plain x) p h = ap (λ z. z.type) (sym (given_same _ p h)) ∙ meant_place env store (meaning env x)
place_has_type clock env store (Part d x) p h =
    let is : (q : Place) × (place clock env store d ≡ Gives q) × (Gives (field_place x q) ≡ Gives p) = gives_then (place clock env store d) _ p h in
    ap (λ z. z.type) (sym (given_same (field_place x is.0) p is.2)) ∙ ap (field_type x) (place_has_type clock env store d is.0 is.1)
place_has_type clock env store (At d e) p h =
    let is : (q : Place) × (place clock env store d ≡ Gives q) × (and_then (value clock env store e) (λ v. indexed_place q (ordinal_of v)) ≡ Gives p) =
    gives_then (place clock env store d) (λ q. and_then (value clock env store e) (λ v. indexed_place q (ordinal_of v))) p h in
    let of : (v : TypedValue) × (value clock env store e ≡ Gives v) × (indexed_place is.0 (ordinal_of v) ≡ Gives p) = gives_then (value clock env store e) _ p is.2 in
    element_of is.0 is.0.type (ordinal_of of.0) p of.2 ∙ ap element_type (place_has_type clock env store d is.0 is.1)

-- ---- values

integer_of : (n : ℤ) (v : TypedValue) → integer_result n ≡ Gives v → v.type ≡ full_range Integer
integer_of n v h = ap (λ z. z.type) (sym (provided_gives _ 3 (simple_value Integer n) v h))

divided : (d : ℤ) (n : ℤ) (v : TypedValue) → with_divisor d (integer_result n) ≡ Gives v → v.type ≡ full_range Integer
divided d n v h = go (same_integer d (pos 0)) h
  where
    go : (b : Bool) → (if b then Fault 4 else integer_result n) ≡ Gives v → v.type ≡ full_range Integer
    go true h = absurd (cc)
    go false h = integer_of n v h

applied : (o : Operator) (x y v : TypedValue) → apply_operator o x y ≡ Gives v → v.type ≡ operator_type o
applied Add x y v h = integer_of (ordinal_of x +ℤ ordinal_of y) v h
applied Subtract x y v h = integer_of (ordinal_of x -ℤ ordinal_of y) v h
applied Multiply x y v h = integer_of (ordinal_of x *ℤ ordinal_of y) v h
applied Divide x y v h = divided (ordinal_of y) (int_div (ordinal_of x) (ordinal_of y)) v h
applied Modulo x y v h = divided (ordinal_of y) (int_rem (ordinal_of x) (ordinal_of y)) v h
applied And x y v h = ap (λ z. z.type) (sym (given_same _ v h))
applied Or x y v h = ap (λ z. z.type) (sym (given_same _ v h))
applied Equal x y v h = ap (λ z. z.type) (sym (given_same _ v h))
applied Unequal x y v h = ap (λ z. z.type) (sym (given_same _ v h))
applied Less x y v h = ap (λ z. z.type) (sym (given_same _ v h))
applied Greater x y v h = ap (λ z. z.type) (sym (given_same _ v h))
applied AtMost x y v h = ap (λ z. z.type) (sym (given_same _ v h))
applied AtLeast x y v h = ap (λ z. z.type) (sym (given_same _ v h))

shifted_of : (x : TypedValue) (d : ℤ) (v : TypedValue) → shift x d ≡ Gives v → v.type ≡ full_range (base_of_type x.type)
shifted_of x d v h = ap (λ z. z.type) (sym (provided_gives _ 1 _ v h))

standard_of : (f : Name) (x v : TypedValue) → standard_function f x ≡ Gives v → v.type ≡ standard_type f x.type
standard_of f x v h = one (bytes_eq f (codes "abs")) h
  where
    five : (b : Bool) → (if b then Gives (truth_value (is_empty_queue (head_value x))) else guard (within (pos 0) (pos 127) (ordinal_of x)) 1 (simple_value Char (ordinal_of x))) ≡ Gives v
        → v.type ≡ (if b then full_range Boolean else full_range Char)
    five true h = ap (λ z. z.type) (sym (given_same _ v h))
    five false h = ap (λ z. z.type) (sym (provided_gives _ 1 _ v h))

    four : (b : Bool) → (if b then integer_result (ordinal_of x)
        else if bytes_eq f (codes "empty") then Gives (truth_value (is_empty_queue (head_value x))) else guard (within (pos 0) (pos 127) (ordinal_of x)) 1 (simple_value Char (ordinal_of x))) ≡ Gives v
        → v.type ≡ (if b then full_range Integer else if bytes_eq f (codes "empty") then full_range Boolean else full_range Char)
    four true h = integer_of (ordinal_of x) v h
    four false h = five (bytes_eq f (codes "empty")) h

    three : (b : Bool) → (if b then shift x (negsuc 0) else if bytes_eq f (codes "ord") then integer_result (ordinal_of x)
        else if bytes_eq f (codes "empty") then Gives (truth_value (is_empty_queue (head_value x))) else guard (within (pos 0) (pos 127) (ordinal_of x)) 1 (simple_value Char (ordinal_of x))) ≡ Gives v
        → v.type ≡ (if b then full_range (base_of_type x.type) else if bytes_eq f (codes "ord") then full_range Integer else if bytes_eq f (codes "empty") then full_range Boolean else full_range Char)
    three true h = shifted_of x (negsuc 0) v h
    three false h = four (bytes_eq f (codes "ord")) h

    two : (b : Bool) → (if b then shift x (pos 1) else if bytes_eq f (codes "pred") then shift x (negsuc 0) else if bytes_eq f (codes "ord") then integer_result (ordinal_of x)
        else if bytes_eq f (codes "empty") then Gives (truth_value (is_empty_queue (head_value x))) else guard (within (pos 0) (pos 127) (ordinal_of x)) 1 (simple_value Char (ordinal_of x))) ≡ Gives v
        → v.type ≡ (if b then full_range (base_of_type x.type) else if bytes_eq f (codes "pred") then full_range (base_of_type x.type) else if bytes_eq f (codes "ord") then full_range Integer
        else if bytes_eq f (codes "empty") then full_range Boolean else full_range Char)
    two true h = shifted_of x (pos 1) v h
    two false h = three (bytes_eq f (codes "pred")) h

    one : (b : Bool) → (if b then integer_result (pos (nat_abs (ordinal_of x))) else if bytes_eq f (codes "succ") then shift x (pos 1) else if bytes_eq f (codes "pred") then shift x (negsuc 0)
        else if bytes_eq f (codes "ord") then integer_result (ordinal_of x)
        else if bytes_eq f (codes "empty") then Gives (truth_value (is_empty_queue (head_value x))) else guard (within (pos 0) (pos 127) (ordinal_of x)) 1 (simple_value Char (ordinal_of x))) ≡ Gives v
        → v.type ≡ (if b then full_range Integer else if bytes_eq f (codes "succ") then full_range (base_of_type x.type) else if bytes_eq f (codes "pred") then full_range (base_of_type x.type)
        else if bytes_eq f (codes "ord") then full_range Integer else if bytes_eq f (codes "empty") then full_range Boolean else full_range Char)
    one true h = integer_of (pos (nat_abs (ordinal_of x))) v h
    one false h = two (bytes_eq f (codes "succ")) h

meant_value : (env : Environment) (store : Store) (m : Meaning) → (value_of_meaning env store m).type ≡ value_type_meant m
meant_value env store (IsConstant b n) = refl
meant_value env store (IsVariable l v) = refl
meant_value env store IsUnknown = refl

named_value : (clock : Clock) (env : Environment) (store : Store) (x : Name) (v : TypedValue) → value_of_name clock env store x ≡ Gives v → v.type ≡ named_value_type env x
named_value clock env store x v h = go (is_clock x) h
  where
    go : (b : Bool) → (if b then integer_result (pos (realtime clock)) else Gives (value_of_meaning env store (meaning env x))) ≡ Gives v
        → v.type ≡ (if b then full_range Integer else value_type_meant (meaning env x))
    go true h = integer_of (pos (realtime clock)) v h
    go false h = ap (λ z. z.type) (sym (given_same _ v h)) ∙ meant_value env store (meaning env x)

-- no user call is left in the parts
neither : {A : Type 0} (x y : Found A) → or_else x y ≡ None → (x ≡ None) × (y ≡ None)
neither None y h = (refl, h)
neither (Some x) y h = absurd (cc)

not_inside : {A B : Type 0} (f : A → B) (x : Found A) → in_context f x ≡ None → x ≡ None
not_inside f None h = refl
not_inside f (Some x) h = absurd (cc)

abbrev call_by : Environment → Expressions → Expression → Option Callee → Found Expression
call_by env es v o = elim o [ None ↦ None | Some c ↦ Some (record { callee = c; arguments = es; environment = env }, v) ]

not_called : (env : Environment) (d : Designator) (es : Expressions) (v : Expression) → user_call env d es v ≡ None → callee env d ≡ None
not_called env d es v h = go (callee env d) refl h
  where
    go : (o : Option Callee) → callee env d ≡ o → call_by env es v o ≡ None → callee env d ≡ None
    go None is h = is
    go (Some c) is h = absurd (cc)

-- the value of an expression in which no user call is left has its static type
pub value_has_type : (clock : Clock) (env : Environment) (store : Store) (e : Expression) (w : Expression) (v : TypedValue) → first_call env w e ≡ None
    → value clock env store e ≡ Gives v → v.type ≡ expression_type env e
value_has_type clock env store (Literal n) w v k h = ap (λ z. z.type) (sym (given_same (simple_value Integer (pos n)) v h))
value_has_type clock env store (Letter n) w v k h = ap (λ z. z.type) (sym (given_same (simple_value Char (pos n)) v h))
value_has_type clock env store (Use (Plain x)) w v k h =
    let none : callee env (Plain x) ≡ None = not_called env (Plain x) NoExpression w (neither (in_context Use (call_in_designator env w (Plain x))) _ k).1 in
    named_value clock env store x v h ∙ sym (ap (λ o. called_type env.globals o (own_value_type env (Plain x))) none)
value_has_type clock env store (Use (Part d x)) w v k h =
    let none : callee env (Part d x) ≡ None = not_called env (Part d x) NoExpression w (neither (in_context Use (call_in_designator env w (Part d x))) _ k).1 in
    let is : (p : Place) × (place clock env store (Part d x) ≡ Gives p) × (Gives (read store p) ≡ Gives v) = gives_then (place clock env store (Part d x)) (λ p. Gives (read store p)) v h in
    ap (λ z. z.type) (sym (given_same (read store is.0) v is.2)) ∙ place_has_type clock env store (Part d x) is.0 is.1
    ∙ sym (ap (λ o. called_type env.globals o (place_type env (Part d x))) none)
value_has_type clock env store (Use (At d i)) w v k h =
    let is : (p : Place) × (place clock env store (At d i) ≡ Gives p) × (Gives (read store p) ≡ Gives v) = gives_then (place clock env store (At d i)) (λ p. Gives (read store p)) v h in
    ap (λ z. z.type) (sym (given_same (read store is.0) v is.2)) ∙ place_has_type clock env store (At d i) is.0 is.1
value_has_type clock env store (Call d NoExpression) w v k h = absurd (cc)
value_has_type clock env store (Call d (MoreExpressions e es)) w v k h =
    let parts : (in_context (Call d) (call_in_arguments env w (MoreExpressions e es)) ≡ None) × (user_call env d (MoreExpressions e es) w ≡ None) =
    neither (in_context (Call d) (call_in_arguments env w (MoreExpressions e es))) (user_call env d (MoreExpressions e es) w) k in
    let none : callee env d ≡ None = not_called env d (MoreExpressions e es) w parts.1 in
    let inner : first_call env w e ≡ None = not_inside _ (first_call env w e) (neither _ _ (not_inside (Call d) (call_in_arguments env w (MoreExpressions e es)) parts.0)).0 in
    let is : (x : TypedValue) × (value clock env store e ≡ Gives x) × (standard_function (name_of d) x ≡ Gives v) = gives_then (value clock env store e) (λ x. standard_function (name_of d) x) v h in
    standard_of (name_of d) is.0 v is.2 ∙ ap (standard_type (name_of d)) (value_has_type clock env store e w is.0 inner is.1)
    ∙ sym (ap (λ o. called_type env.globals o (standard_type (name_of d) (expression_type env e))) none)
value_has_type clock env store (Not e) w v k h =
    let is : (x : TypedValue) × (value clock env store e ≡ Gives x) × (Gives (truth_value (same_integer (ordinal_of x) (pos 0))) ≡ Gives v) =
    gives_then (value clock env store e) (λ x. Gives (truth_value (same_integer (ordinal_of x) (pos 0)))) v h in
    ap (λ z. z.type) (sym (given_same (truth_value (same_integer (ordinal_of is.0) (pos 0))) v is.2))
value_has_type clock env store (Negative e) w v k h =
    let is : (x : TypedValue) × (value clock env store e ≡ Gives x) × (integer_result (neg_ℤ (ordinal_of x)) ≡ Gives v) = gives_then (value clock env store e) (λ x. integer_result (neg_ℤ (ordinal_of x))) v h in
    integer_of (neg_ℤ (ordinal_of is.0)) v is.2
value_has_type clock env store (Positive e) w v k h = value_has_type clock env store e w v (not_inside Positive (first_call env w e) k) h
value_has_type clock env store (Binary o x y) w v k h =
    let is : (p : TypedValue) × (value clock env store x ≡ Gives p) × (and_then (value clock env store y) (λ q. apply_operator o p q) ≡ Gives v) =
    gives_then (value clock env store x) (λ p. and_then (value clock env store y) (λ q. apply_operator o p q)) v h in
    let of : (q : TypedValue) × (value clock env store y ≡ Gives q) × (apply_operator o is.0 q ≡ Gives v) = gives_then (value clock env store y) (λ q. apply_operator o is.0 q) v is.2 in
    applied o is.0 of.0 v of.2
value_has_type clock env store (Known b n) w v k h = ap (λ z. z.type) (sym (given_same (simple_value b n) v h))
