-- Look-ups, and calls that are found.
use Rattle.std.proofs.Common.{◌≡◌, ℕ, ◌+◌, List, [], ◌∷◌, ◌++◌, Bool, true, false, Option, Some, None, refl, ap, sym, subst, ◌∙◌}
use Rattle.std.specs.Prelude.{if◌then◌else◌}
use Rattle.cp_model.specs.Abstract as a
use Rattle.cp_model.specs.Abstract.{Name}
use Rattle.cp_model.specs.Calls.{Callee, Found, callee, in_context, or_else, user_call}
use Rattle.cp_model.specs.Environments.{Environment}
use Rattle.cp_model.specs.Locations.{Location, Path, under}
use Rattle.std.specs.Str.{bytes_eq}
use Rattle.cp_model.specs.Places.{member_type}
use Rattle.cp_model.specs.Types.{ArrayOf, ComponentOf, GlobalScope, Members, MoreMembers, NoMembers, NoType, Queue, RecordOf, ResolvedType, Simple}
use Rattle.cp_model_program.specs.Layout.{Part, farther, member_part, part}
use Rattle.cp_law_typing.specs.Words.{words}

pub some_is_not_none : {A : Type 0} (x : A) → Some x ≡ None → ⊥
some_is_not_none {A = A} x h = subst (is_some {A = A}) h tt
  where
    is_some : {A : Type 0} → Option A → Type 0
    is_some (Some y) = Unit {0}
    is_some None = ⊥

pub cons_is_not_nil : {A : Type 0} (x : A) (xs : List A) → x ∷ xs ≡ [] → ⊥
cons_is_not_nil {A = A} x xs h = subst (is_cons {A = A}) h tt
  where
    is_cons : {A : Type 0} → List A → Type 0
    is_cons (x ∷ xs) = Unit {0}
    is_cons [] = ⊥

pub or_else_none : {A : Type 0} (x y : Found A) → or_else x y ≡ None → (x ≡ None) × (y ≡ None)
or_else_none None y h = (refl, h)
or_else_none (Some x) y h = absurd (some_is_not_none x h)

pub in_context_none : {A B : Type 0} (f : A → B) (x : Found A) → in_context f x ≡ None → x ≡ None
in_context_none f None h = refl
in_context_none f (Some x) h = absurd (some_is_not_none (x.0, f x.1) h)

user_call_by : Environment → a.Expressions → a.Expression → Option Callee → Found a.Expression
user_call_by env es v x = elim x [ None ↦ None | Some c ↦ Some (record { callee = c; arguments = es; environment = env }, v) ]

pub user_call_found : (env : Environment) (d : a.Designator) (es : a.Expressions) (v : a.Expression) (c : Callee) → callee env d ≡ Some c
    → user_call env d es v ≡ Some (record { callee = c; arguments = es; environment = env }, v)
unfolding user_call_by
user_call_found env d es v c h = ap (user_call_by env es v) h

pub user_call_none : (env : Environment) (d : a.Designator) (es : a.Expressions) (v : a.Expression) → callee env d ≡ None
    → user_call env d es v ≡ None
unfolding user_call_by
user_call_none env d es v h = ap (user_call_by env es v) h

pub called_is_found : (env : Environment) (d : a.Designator) (es : a.Expressions) (v : a.Expression) (c : Callee) → callee env d ≡ Some c
    → user_call env d es v ≡ None → ⊥
called_is_found env d es v c h n = some_is_not_none _ (sym (user_call_found env d es v c h) ∙ n)

-- ---- layout

append_nil : (p : Path) → p ++ [] ≡ p
append_nil [] = refl
append_nil (s ∷ p) = ap (λ q. s ∷ q) (append_nil p)

pub under_nothing : (l : Location) → under l [] ≡ l
under_nothing l = λ i. record { owner = l.owner; path = append_nil l.path i }

pub part_whole : (g : GlobalScope) (t : ResolvedType) → part g t [] ≡ Some (0, t)
part_whole g (Simple b low high start) = refl
part_whole g (ArrayOf low high t) = refl
part_whole g (RecordOf ms) = refl
part_whole g Queue = refl
part_whole g (ComponentOf s inner) = refl
part_whole g NoType = refl

part_type_is : (p q : Part) → Some p ≡ Some q → p.1 ≡ q.1
part_type_is p q h = ap (type_or p.1) h
  where
    type_or : ResolvedType → Option Part → ResolvedType
    type_or t (Some p) = p.1
    type_or t None = t

pub member_has_type : (g : GlobalScope) (at : ℕ) (ms : Members) (x : Name) (n : ℕ) (t : ResolvedType) → member_part g at ms x [] ≡ Some (n, t)
    → member_type x ms ≡ t
member_has_type g at NoMembers x n t h = absurd (some_is_not_none (n, t) (sym h))
member_has_type g at (MoreMembers y u ms) x n t h = by (bytes_eq x y) (member_has_type g (at + words g u) ms x n t) h
  where
    by : (b : Bool) → (member_part g (at + words g u) ms x [] ≡ Some (n, t) → member_type x ms ≡ t)
        → (if b then farther at (part g u []) else member_part g (at + words g u) ms x []) ≡ Some (n, t)
        → (if b then u else member_type x ms) ≡ t
    by true go h = part_type_is (at + 0, u) (n, t) (sym (ap (farther at) (part_whole g u)) ∙ h)
    by false go h = go h
