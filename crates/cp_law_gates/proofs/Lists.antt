-- Lists of numbers: what is in them, and how long one without repetition can be.
use Rattle.std.proofs.Common.{◌≡◌, ◌≢◌, ℕ, zero, suc, ◌<◌, ◌≤◌, List, [], ◌∷◌, ◌++◌, length, Bool, true, false, refl, ap, sym, subst, ◌∙◌, arith}
use Rattle.std.specs.Prelude.{if◌then◌else◌, nat_eq}
use Rattle.std.proofs.lemmas.Bool.{eqb-false, eqb-true, true≢false}
use Rattle.cp_model.specs.States.{is_in}
use Rattle.cp_model.proofs.Lists.{in_head, in_more}
use Rattle.cp_law_gates.specs.Hierarchy.{Descends, NoneTwice}

-- What is in a longer list is its first, or is in the rest.
pub in_rest : (p q : ℕ) (ps : List ℕ) → is_in p (q ∷ ps) ≡ true → p ≢ q → is_in p ps ≡ true
in_rest p q ps h d = go (nat_eq p q) refl h
  where
    go : (b : Bool) → nat_eq p q ≡ b → (if b then true else is_in p ps) ≡ true → is_in p ps ≡ true
    go true e h = absurd (d (eqb-true p q e))
    go false e h = h

pub not_in : (p : ℕ) (ps : List ℕ) → (is_in p ps ≡ true → ⊥) → is_in p ps ≡ false
not_in p ps h = go (is_in p ps) refl
  where
    go : (b : Bool) → is_in p ps ≡ b → b ≡ false
    go true e = absurd (h e)
    go false e = refl

pub in_append : (p q : ℕ) (ps : List ℕ) → is_in p ps ≡ true → is_in p (ps ++ q ∷ []) ≡ true
in_append p q [] h = absurd (true≢false (sym h))
in_append p q (r ∷ ps) h = go (nat_eq p r) h (in_append p q ps)
  where
    go : (b : Bool) → (if b then true else is_in p ps) ≡ true → (is_in p ps ≡ true → is_in p (ps ++ q ∷ []) ≡ true) → (if b then true else is_in p (ps ++ q ∷ [])) ≡ true
    go true h more = refl
    go false h more = more h

pub in_last : (q : ℕ) (ps : List ℕ) → is_in q (ps ++ q ∷ []) ≡ true
in_last q [] = in_head q []
in_last q (r ∷ ps) = in_more q r (ps ++ q ∷ []) (in_last q ps)

-- What is in a list with one more at its end was there, or is that one.
pub in_appended : (p q : ℕ) (ps : List ℕ) → is_in p (ps ++ q ∷ []) ≡ true → p ≢ q → is_in p ps ≡ true
in_appended p q [] h d = in_rest p q [] h d
in_appended p q (r ∷ ps) h d = go (nat_eq p r) h (λ x. in_appended p q ps x d)
  where
    go : (b : Bool) → (if b then true else is_in p (ps ++ q ∷ [])) ≡ true → (is_in p (ps ++ q ∷ []) ≡ true → is_in p ps ≡ true) → (if b then true else is_in p ps) ≡ true
    go true h more = refl
    go false h more = more h

pub once_more : (q : ℕ) (ps : List ℕ) → is_in q ps ≡ false → NoneTwice ps → NoneTwice (ps ++ q ∷ [])
once_more q [] h o = (refl, tt)
once_more q (p ∷ ps) h o = go (nat_eq q p) refl h (λ x. once_more q ps x o.1)
  where
    go : (b : Bool) → nat_eq q p ≡ b → (if b then true else is_in q ps) ≡ false → (is_in q ps ≡ false → NoneTwice (ps ++ q ∷ [])) → NoneTwice (p ∷ (ps ++ q ∷ []))
    go true e h more = absurd (true≢false h)
    go false e h more = (
      not_in p (ps ++ q ∷ []) (λ i. true≢false (sym (in_appended p q ps i (λ x. eqb-false q p e (sym x))) ∙ o.0)),
      more h,
    )

-- ---- A list without repetition is no longer than its bound

abbrev pub AllWithin : ℕ → List ℕ → Type 0
AllWithin n [] = Unit {0}
AllWithin n (m ∷ ms) = (1 ≤ m) × (m ≤ n) × AllWithin n ms

without : ℕ → List ℕ → List ℕ
without n [] = []
without n (m ∷ ms) = if nat_eq n m then ms else m ∷ without n ms

shorter : (n : ℕ) (ms : List ℕ) → length ms ≤ suc (length (without n ms))
unfolding without
shorter n [] = omega arith
shorter n (m ∷ ms) = go (nat_eq n m) (shorter n ms)
  where
    go : (b : Bool) → length ms ≤ suc (length (without n ms)) → length (m ∷ ms) ≤ suc (length (if b then ms else m ∷ without n ms))
    go true x = omega arith
    go false x = omega (arith, x)

not_without : (n p : ℕ) (ms : List ℕ) → is_in p ms ≡ false → is_in p (without n ms) ≡ false
unfolding without
not_without n p [] h = h
not_without n p (m ∷ ms) h = go (nat_eq n m) (nat_eq p m) refl h (not_without n p ms)
  where
    go : (b c : Bool) → nat_eq p m ≡ c → (if c then true else is_in p ms) ≡ false → (is_in p ms ≡ false → is_in p (without n ms) ≡ false) → is_in p (if b then ms else m ∷ without n ms) ≡ false
    go b true e h more = absurd (true≢false h)
    go true false e h more = h
    go false false e h more = ap (λ x. if x then true else is_in p (without n ms)) e ∙ more h

once_without : (n : ℕ) (ms : List ℕ) → NoneTwice ms → NoneTwice (without n ms)
unfolding without
once_without n [] h = tt
once_without n (m ∷ ms) h = go (nat_eq n m) (once_without n ms h.1)
  where
    go : (b : Bool) → NoneTwice (without n ms) → NoneTwice (if b then ms else m ∷ without n ms)
    go true x = h.1
    go false x = (not_without n m ms h.0, x)

all_less : (n : ℕ) (ms : List ℕ) → is_in (suc n) ms ≡ false → AllWithin (suc n) ms → AllWithin n ms
all_less n [] h a = tt
all_less n (m ∷ ms) h a = go (nat_eq (suc n) m) refl h (λ x. all_less n ms x a.2)
  where
    go : (b : Bool) → nat_eq (suc n) m ≡ b → (if b then true else is_in (suc n) ms) ≡ false → (is_in (suc n) ms ≡ false → AllWithin n ms) → AllWithin n (m ∷ ms)
    go true e h more = absurd (true≢false h)
    go false e h more =
        let d : suc n ≢ m = eqb-false (suc n) m e in
        (a.0, grind (arith, d, a.1), more h)

less_without : (n : ℕ) (ms : List ℕ) → NoneTwice ms → AllWithin (suc n) ms → AllWithin n (without (suc n) ms)
unfolding without
less_without n [] o a = tt
less_without n (m ∷ ms) o a = go (nat_eq (suc n) m) refl (less_without n ms o.1 a.2)
  where
    go : (b : Bool) → nat_eq (suc n) m ≡ b → AllWithin n (without (suc n) ms) → AllWithin n (if b then ms else m ∷ without (suc n) ms)
    go true e more = all_less n ms (ap (λ x. is_in x ms) (eqb-true (suc n) m e) ∙ o.0) a.2
    go false e more =
        let d : suc n ≢ m = eqb-false (suc n) m e in
        (a.0, grind (arith, d, a.1), more)

pub bounded_length : (n : ℕ) (ms : List ℕ) → NoneTwice ms → AllWithin n ms → length ms ≤ n
bounded_length zero [] o a = omega arith
bounded_length zero (m ∷ ms) o a = absurd (omega (arith, a.0, a.1))
bounded_length (suc n) ms o a =
    let s = shorter (suc n) ms in
    let r = bounded_length n (without (suc n) ms) (once_without (suc n) ms o) (less_without n ms o a) in
    omega (arith, s, r)

-- ---- Places that descend

-- All monitors of the list have later places than this.
abbrev pub AllAbove : (ℕ → ℕ) → ℕ → List ℕ → Type 0
AllAbove place n [] = Unit {0}
AllAbove place n (m ∷ ms) = (n < place m) × AllAbove place n ms

above_more : (place : ℕ → ℕ) (a b : ℕ) (ms : List ℕ) → a < b → AllAbove place b ms → AllAbove place a ms
above_more place a b [] h k = tt
above_more place a b (m ∷ ms) h k = (omega (arith, h, k.0), above_more place a b ms h k.1)

pub all_above : (place : ℕ → ℕ) (m : ℕ) (ms : List ℕ) → Descends place (m ∷ ms) → AllAbove place (place m) ms
all_above place m [] h = tt
all_above place m (n ∷ ms) h = (h.0, above_more place (place m) (place n) ms h.0 (all_above place n ms h.1))

pub found_above : (place : ℕ → ℕ) (n m : ℕ) (ms : List ℕ) → AllAbove place n ms → is_in m ms ≡ true → n < place m
found_above place n m [] a h = absurd (true≢false (sym h))
found_above place n m (x ∷ ms) a h = go (nat_eq m x) refl h (found_above place n m ms a.1)
  where
    go : (b : Bool) → nat_eq m x ≡ b → (if b then true else is_in m ms) ≡ true → (is_in m ms ≡ true → n < place m) → n < place m
    go true e h more = subst (λ y. n < place y) (sym (eqb-true m x e)) a.0
    go false e h more = more h

pub descends_rest : (place : ℕ → ℕ) (m : ℕ) (ms : List ℕ) → Descends place (m ∷ ms) → Descends place ms
descends_rest place m [] h = tt
descends_rest place m (n ∷ ms) h = h.1

-- The innermost of a list that descends isn't in it again.
pub first_once : (place : ℕ → ℕ) (m : ℕ) (ms : List ℕ) → Descends place (m ∷ ms) → is_in m ms ≡ false
first_once place m ms h = not_in m ms (λ i. absurd (irreflexive (found_above place (place m) m ms (all_above place m ms h) i)))
  where
    irreflexive : place m < place m → ⊥
    irreflexive x = omega (arith, x)
