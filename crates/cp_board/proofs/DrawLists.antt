-- From the number of times that each number is in a list of draws to properties of the list, and to
-- its length.
use Rattle.std.proofs.Common.{◌≡◌, ◌≢◌, ℕ, zero, suc, ◌+◌, ◌<◌, ◌≤◌, Bool, true, false, cond, eqb, List, [], ◌∷◌, ◌++◌, length, get_or, sym, refl, ap, ◌∙◌, arith, eq-eqb, eqb-true, ne_eqb, lt_of_not-le}
use mathlib.Core.Logic.{dite}
use native.Mathlib.Decide.{ℕ_discrete, dec_le}
use Rattle.std.specs.Prelude.{Contains}
use Rattle.cp_board.specs.Draws.{IsSound, times}

-- no number is in the list twice, and none from n on is in it at all
pub record AreCounted (n : ℕ) (draws : List ℕ) : Type 0 where
  pub once : (x : ℕ) → times x draws ≤ 1
  pub beyond : (x : ℕ) → n ≤ x → times x draws ≡ 0

pub times-append : (x : ℕ) (xs ys : List ℕ) → times x (xs ++ ys) ≡ times x xs + times x ys
times-append x [] ys = omega arith
times-append x (y ∷ xs) ys = let rest = times-append x xs ys in omega arith

pub times_one : (x : ℕ) → times x (x ∷ []) ≡ 1
times_one x = ap (λ b. cond b 1 0 + 0) (eq-eqb x x refl)

pub times_other : (x y : ℕ) → x ≢ y → times x (y ∷ []) ≡ 0
times_other x y ne = ap (λ b. cond b 1 0 + 0) (ne_eqb x y ne)

head_counts : (x y : ℕ) → x ≡ y → cond {A = ℕ} (eqb x y) 1 0 ≡ 1
head_counts x y is = ap (λ (b : Bool). cond {A = ℕ} b 1 0) (eq-eqb x y is)

times_at : (xs : List ℕ) (k d : ℕ) → k < length xs → 0 < times (get_or xs k d) xs
times_at [] k d below = absurd (omega arith)
times_at (x ∷ xs) zero d below = let one = head_counts x x refl in omega arith
times_at (x ∷ xs) (suc k) d below = let rest = times_at xs k d (omega arith) in omega arith

twice_at : (xs : List ℕ) (i j d : ℕ) → i < j → j < length xs → get_or xs i d ≡ get_or xs j d → 2 ≤ times (get_or xs j d) xs
twice_at [] i j d before below same = absurd (omega arith)
twice_at (x ∷ xs) i zero d before below same = absurd (omega arith)
twice_at (x ∷ xs) zero (suc j) d before below same =
    let one = head_counts (get_or xs j d) x (sym same) in
    let rest = times_at xs j d (omega arith) in
    omega arith
twice_at (x ∷ xs) (suc i) (suc j) d before below same =
    let rest = twice_at xs i j d (omega arith) (omega arith) same in
    omega arith

pub sound_from_counted : (n : ℕ) (draws : List ℕ) → AreCounted n draws → IsSound n draws
sound_from_counted n draws c = record {
  below = λ k d below. dite (dec_le n (get_or draws k d))
      (λ le. let none = c.beyond (get_or draws k d) le in let some = times_at draws k d below in absurd (omega arith))
      lt_of_not-le;
  distinct = λ i j d before below same.
      let two = twice_at draws i j d before below same in
      let one = c.once (get_or draws j d) in
      absurd (omega arith);
}

pub contains_counted : (x : ℕ) (xs : List ℕ) → 0 < times x xs → Contains xs x
contains_counted x [] some = absurd (omega arith)
contains_counted x (y ∷ ys) some = dite (ℕ_discrete x y)
    (λ is. (0, omega arith, sym is))
    (λ ne.
    let none : cond {A = ℕ} (eqb x y) 1 0 ≡ 0 = ap (λ (b : Bool). cond {A = ℕ} b 1 0) (ne_eqb x y ne) in
    let rest = contains_counted x ys (omega arith) in
    (suc rest.0, omega arith, rest.2))

-- the list without m
without : ℕ → List ℕ → List ℕ
without m [] = []
without m (y ∷ ys) = cond (eqb m y) (without m ys) (y ∷ without m ys)

length_without : (m : ℕ) (ys : List ℕ) → length ys ≡ times m ys + length (without m ys)
unfolding without
length_without m [] = refl
length_without m (y ∷ ys) = by_head (eqb m y) (length_without m ys)
  where
    by_head : (b : Bool) → length ys ≡ times m ys + length (without m ys)
        → suc (length ys) ≡ (cond b 1 0 + times m ys) + length (cond b (without m ys) (y ∷ without m ys))
    by_head true rest = omega arith
    by_head false rest = omega arith

times_without : (x m : ℕ) (ys : List ℕ) → times x (without m ys) ≤ times x ys
unfolding without
times_without x m [] = omega arith
times_without x m (y ∷ ys) = by_head (eqb m y) (times_without x m ys)
  where
    by_head : (b : Bool) → times x (without m ys) ≤ times x ys → times x (cond b (without m ys) (y ∷ without m ys)) ≤ cond (eqb x y) 1 0 + times x ys
    by_head true rest = omega arith
    by_head false rest = omega arith

times_kept : (x m : ℕ) (ys : List ℕ) → x ≢ m → times x ys ≤ times x (without m ys)
unfolding without
times_kept x m [] ne = omega arith
times_kept x m (y ∷ ys) ne = by_head (eqb m y) refl (times_kept x m ys ne)
  where
    by_head : (b : Bool) → eqb m y ≡ b → times x ys ≤ times x (without m ys)
        → cond (eqb x y) 1 0 + times x ys ≤ times x (cond b (without m ys) (y ∷ without m ys))
    by_head true is rest =
        let other : x ≢ y = λ e. ne (e ∙ sym (eqb-true m y is)) in
        let none : cond {A = ℕ} (eqb x y) 1 0 ≡ 0 = ap (λ (b : Bool). cond {A = ℕ} b 1 0) (ne_eqb x y other) in
        omega arith
    by_head false is rest = omega arith

times_gone : (m : ℕ) (ys : List ℕ) → times m (without m ys) ≡ 0
unfolding without
times_gone m [] = refl
times_gone m (y ∷ ys) = by_head (eqb m y) refl (times_gone m ys)
  where
    by_head : (b : Bool) → eqb m y ≡ b → times m (without m ys) ≡ 0 → times m (cond b (without m ys) (y ∷ without m ys)) ≡ 0
    by_head true is rest = rest
    by_head false is rest = let none : cond {A = ℕ} (eqb m y) 1 0 ≡ 0 = ap (λ (b : Bool). cond {A = ℕ} b 1 0) is in omega arith

-- such a list has at most n elements
pub length-counted : (n : ℕ) (ys : List ℕ) → AreCounted n ys → length ys ≤ n
length-counted zero [] c = omega arith
length-counted zero (y ∷ ys) c =
    let none = c.beyond y (omega arith) in
    let one = head_counts y y refl in
    absurd (omega arith)
length-counted (suc n) ys c =
    let rest = length-counted n (without n ys) (record {
      once = λ x. let fewer = times_without x n ys in let one = c.once x in omega arith;
      beyond = λ x from. dite (ℕ_discrete x n)
          (λ is. ap (λ z. times z (without n ys)) is ∙ times_gone n ys)
          (λ ne. let fewer = times_without x n ys in let none = c.beyond x (omega arith) in omega arith);
    }) in
    let parts = length_without n ys in
    let one = c.once n in
    omega arith

-- a list with every number below n has at least n elements
pub length-whole : (n : ℕ) (ys : List ℕ) → ((x : ℕ) → x < n → 0 < times x ys) → n ≤ length ys
length-whole zero ys whole = omega arith
length-whole (suc n) ys whole =
    let rest = length-whole n (without n ys) (λ x below.
    let kept = times_kept x n ys (λ e. absurd (omega arith)) in
    let some = whole x (omega arith) in
    omega arith) in
    let parts = length_without n ys in
    let some = whole n (omega arith) in
    omega arith
