-- The call that is found in a part of a statement, and what contains it.
use Rattle.std.proofs.Common.{◌≡◌, ◌⊎◌, inl, inr, Option, Some, None, refl, ap}
use Rattle.cp_model.specs.Abstract.{Designator, Expression, Expressions}
use Rattle.cp_model.specs.Environments.{Environment}
use Rattle.cp_model.specs.Calls.{Callee, Found, UserCall, callee, in_context, or_else, user_call}
use Rattle.cp_law_typing.proofs.Visible.{some_same}

-- ---- calls that are found

pub found_inside : {A B : Type 0} (f : A → B) (o : Found A) (u : UserCall) (y : B) → in_context f o ≡ Some (u, y) → (x : A) × (o ≡ Some (u, x)) × (f x ≡ y)
found_inside f None u y h = absurd (cc)
found_inside f (Some z) u y h =
    let same : (z.0, f z.1) ≡ (u, y) = some_same (in_context f (Some z)) (z.0, f z.1) (u, y) refl h in
    (z.1, ap (λ w. Some (w.0, z.1)) same, ap (λ w. w.1) same)

pub found_either : {A : Type 0} (o q : Found A) (z : UserCall × A) → or_else o q ≡ Some z → (o ≡ Some z) ⊎ (q ≡ Some z)
found_either None q z h = inr h
found_either (Some w) q z h = inl h

-- a user's call by name, if one is found
pub called_here : (env : Environment) (d : Designator) (es : Expressions) (known : Expression) (u : UserCall) (e : Expression) → user_call env d es known ≡ Some (u, e)
    → (c : Callee) × (callee env d ≡ Some c) × (record { callee = c; arguments = es; environment = env } ≡ u) × (known ≡ e)
called_here env d es known u e h = go (callee env d) refl h
  where
    found : Option Callee → Found Expression
    found o = elim o [ None ↦ None | Some c ↦ Some (record { callee = c; arguments = es; environment = env }, known) ]

    go : (o : Option Callee) → callee env d ≡ o → found o ≡ Some (u, e)
        → (c : Callee) × (callee env d ≡ Some c) × (record { callee = c; arguments = es; environment = env } ≡ u) × (known ≡ e)
    go None is h = absurd (cc)
    go (Some c) is h =
        let call : UserCall = record { callee = c; arguments = es; environment = env } in
        let same : (call, known) ≡ (u, e) = some_same (found (Some c)) (call, known) (u, e) refl h in
        (c, is, ap (λ w. w.0) same, ap (λ w. w.1) same)

pub not_called : (env : Environment) (d : Designator) (es : Expressions) (known : Expression) (z : UserCall × Expression) → callee env d ≡ None → user_call env d es known ≡ Some z → ⊥
not_called env d es known z none h = let k = called_here env d es known z.0 z.1 h in cc (none, k.1)
