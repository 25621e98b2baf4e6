-- The names of routines: how each is found, and that no other routine has it.
use Rattle.std.proofs.Common.{◌≡◌, ℕ, zero, suc, Bool, true, false, ◌||◌, List, [], ◌∷◌, ◌++◌, Some, None, slice_get, cond, find, length, map, refl, ap, sym, subst, ◌∙◌, append_assoc, append-nil, bytes_eq}
use Rattle.std.proofs.lemmas.Bool.{true≢false, or_right}
use Rattle.cp_model.specs.declared.rules.Entity.TheVariants as entity
use Rattle.cp_model.specs.Erase as erase
use Rattle.cp_model.specs.RulesJudged.{Violations}
use Rattle.cp_model.specs.RulesDeclarations.{Declared, routine, routines}
use Rattle.cp_model.specs.Syntax as s
use Rattle.cp_model.specs.Abstract as a
use Rattle.cp_model.specs.RulesEnvironment.{Text, Environment, declare_if_new, c1_declared}
use Rattle.cp_model.specs.RulesTypes.{has_name}
use Rattle.cp_law_typing.proofs.Names.{AllDistinct, NewNames, bytes_eq-refl, bytes_same, keys, keys-append, none_has}
use Rattle.cp_law_typing.proofs.Visible.{some_same}
use Rattle.cp_model.specs.declared.tree.Sort.{Sort}
use Rattle.cp_model.specs.Names.{lookup}
use Rattle.cp_model.proofs.Judging.{first_empty, rest_empty}
use Rattle.cp_law_typing.proofs.DeclaredNames.{declared_new}

-- ---- new names stay distinct

pub all_distinct : (ks xs : List Text) → AllDistinct ks → NewNames ks xs → AllDistinct (ks ++ xs)
all_distinct ks [] d h = subst AllDistinct (sym (append-nil ks)) d
all_distinct ks (x ∷ xs) d h = subst AllDistinct (append_assoc ks (x ∷ []) xs) (all_distinct (ks ++ x ∷ []) xs (one_more ks x d h.0) h.1)
  where
    last : (ks : List Text) (k x : Text) → has_name k ks ≡ false → bytes_eq k x ≡ false → has_name k (ks ++ x ∷ []) ≡ false
    last [] k x h e = ap (λ b. b || false) e
    last (j ∷ ks) k x h e = go (bytes_eq k j) h (last ks k x)
      where
        go : (b : Bool) → (b || has_name k ks) ≡ false → (has_name k ks ≡ false → bytes_eq k x ≡ false → has_name k (ks ++ x ∷ []) ≡ false) → (b || has_name k (ks ++ x ∷ [])) ≡ false
        go true h f = absurd (true≢false h)
        go false h f = f h e

    other : (ks : List Text) (k x : Text) → (bytes_eq x k || has_name x ks) ≡ false → bytes_eq k x ≡ false
    other ks k x h = go (bytes_eq k x) refl
      where
        go : (b : Bool) → bytes_eq k x ≡ b → b ≡ false
        go false e = refl
        go true e = absurd (true≢false (sym (ap (λ b. b || has_name x ks) (ap (bytes_eq x) (bytes_same k x e) ∙ bytes_eq-refl x)) ∙ h))

    rest : (b c : Bool) → (b || c) ≡ false → c ≡ false
    rest true c h = absurd (true≢false h)
    rest false c h = h

    one_more : (ks : List Text) (x : Text) → AllDistinct ks → has_name x ks ≡ false → AllDistinct (ks ++ x ∷ [])
    one_more [] x d h = (refl, tt)
    one_more (k ∷ ks) x d h = (last ks k x d.0 (other ks k x h), one_more ks x d.1 (rest (bytes_eq x k) (has_name x ks) h))

-- ---- how a routine is found

pub no_routine_named : (x : Text) (rs : List a.Routine) → has_name x (map (λ r. r.name) rs) ≡ false → find (λ r. bytes_eq x r.name) rs ≡ None
no_routine_named x [] h = refl
no_routine_named x (r ∷ rs) h = go (bytes_eq x r.name) refl h (no_routine_named x rs)
  where
    go : (b : Bool) → bytes_eq x r.name ≡ b → (b || has_name x (map (λ r. r.name) rs)) ≡ false
        → (has_name x (map (λ r. r.name) rs) ≡ false → find (λ r. bytes_eq x r.name) rs ≡ None) → find (λ r. bytes_eq x r.name) (r ∷ rs) ≡ None
    go true is h rest = absurd (true≢false h)
    go false is h rest = found_by (is) (rest h)
      where
        found_by : bytes_eq x r.name ≡ false → find (λ r. bytes_eq x r.name) rs ≡ None → find (λ r. bytes_eq x r.name) (r ∷ rs) ≡ None
        found_by e f = ap (λ b. cond b (Some r) (find (λ q. bytes_eq x q.name) rs)) e ∙ f

pub routine_found : (before after : List a.Routine) (q : a.Routine) → has_name q.name (map (λ r. r.name) before) ≡ false
    → find (λ r. bytes_eq q.name r.name) (before ++ q ∷ after) ≡ Some q
routine_found [] after q h = ap (λ b. cond b (Some q) (find (λ r. bytes_eq q.name r.name) after)) (bytes_eq-refl q.name)
routine_found (r ∷ before) after q h = go (bytes_eq q.name r.name) refl h (routine_found before after q)
  where
    go : (b : Bool) → bytes_eq q.name r.name ≡ b → (b || has_name q.name (map (λ r. r.name) before)) ≡ false
        → (has_name q.name (map (λ r. r.name) before) ≡ false → find (λ r. bytes_eq q.name r.name) (before ++ q ∷ after) ≡ Some q)
        → find (λ r. bytes_eq q.name r.name) (r ∷ (before ++ q ∷ after)) ≡ Some q
    go true is h rest = absurd (true≢false h)
    go false is h rest =
        ap (λ b. cond b (Some r) (find (λ k. bytes_eq q.name k.name) (before ++ q ∷ after))) (is) ∙ rest h

abbrev pub routine_names : List a.Routine → List Text
routine_names qs = map (λ q. q.name) qs

pub among : (qs : List a.Routine) (j : ℕ) (r : a.Routine) → slice_get qs j ≡ Some r → has_name r.name (routine_names qs) ≡ true
among [] j r h = absurd (cc)
among (w ∷ qs) zero r h = ap (λ b. b || has_name r.name (routine_names qs)) (ap (λ z. bytes_eq r.name z.name) (some_same (Some w) w r refl h) ∙ bytes_eq-refl r.name)
among (w ∷ qs) (suc j) r h = or_right (bytes_eq r.name w.name) _ (among qs j r h)

-- the places of two routines of one name are the same
pub named_once : (qs : List a.Routine) → AllDistinct (routine_names qs) → (i j : ℕ) (q r : a.Routine) → slice_get qs i ≡ Some q → slice_get qs j ≡ Some r → q.name ≡ r.name → i ≡ j
named_once [] d i j q r h g is = absurd (cc)
named_once (w ∷ qs) d zero zero q r h g is = refl
named_once (w ∷ qs) d (suc i) (suc j) q r h g is = ap suc (named_once qs d.1 i j q r h g is)
named_once (w ∷ qs) d zero (suc j) q r h g is =
    absurd (true≢false (sym (among qs j r g) ∙ ap (λ x. has_name x (routine_names qs)) (sym is ∙ ap (λ z. z.name) (sym (some_same (Some w) w q refl h))) ∙ d.0))
named_once (w ∷ qs) d (suc i) zero q r h g is =
    absurd (true≢false (sym (among qs i q h) ∙ ap (λ x. has_name x (routine_names qs)) (is ∙ ap (λ z. z.name) (sym (some_same (Some w) w r refl g))) ∙ d.0))

pub slice_between : {A : Type 0} (xs ys : List A) (x : A) → slice_get (xs ++ x ∷ ys) (length xs) ≡ Some x
slice_between [] ys x = refl
slice_between (z ∷ xs) ys x = slice_between xs ys x

-- ---- the names of all routines are new

routine_names_behind : (env : Environment) (z : Sort) (r : s.Routine) → lookup r.name.name env.names ≡ None → keys (routine env z r).env.names ≡ keys env.names ++ r.name.name ∷ []
routine_names_behind env z r none =
    ap (λ o. keys (declare_if_new r.name (entity.Routine (length env.routines)) env.names o)) none ∙ keys-append env.names ((r.name.name, entity.Routine (length env.routines)) ∷ [])

pub routines_new : (z : Sort) (qs : List s.Routine) (env : Environment) → (routines env z qs).violations ≡ [] → NewNames (keys env.names) (routine_names (map erase.routine qs))
routines_new z [] env h = tt
routines_new z (r ∷ qs) env h =
    let one : Declared = routine env z r in
    let none : lookup r.name.name env.names ≡ None = declared_new env r.name (first_of_six (c1_declared env r.name) _ _ _ _ _ (first_empty one.violations _ h)) in (
      none_has r.name.name env.names none,
      subst (λ l. NewNames l (routine_names (map erase.routine qs))) (routine_names_behind env z r none) (routines_new z qs one.env (rest_empty one.violations _ h)),
    )
  where
    first_of_six : (a b c d e f : Violations) → a ++ b ++ c ++ d ++ e ++ f ≡ [] → a ≡ []
    first_of_six a b c d e f h =
        first_empty a b (first_empty (a ++ b) c (first_empty (a ++ b ++ c) d (first_empty (a ++ b ++ c ++ d) e (first_empty (a ++ b ++ c ++ d ++ e) f h))))
