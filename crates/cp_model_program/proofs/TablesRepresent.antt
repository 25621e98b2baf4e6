-- A table leads where the list of arms leads: to the first arm with the label.
use Rattle.std.proofs.Common.{◌≡◌, ◌≤◌, ◌<◌, ℕ, zero, suc, ◌*◌, ℤ, pos, negsuc, List, [], ◌∷◌, Some, None, refl, ap, sym, ◌∙◌, Bool, true, false, if◌then◌else◌, length, arith}
use Prim.{grind}
use Rattle.std.specs.Prelude.{◌+ℤ◌, int_le, nat_le, slice_index_or}
use Rattle.std.proofs.lemmas.Bool.{leb-true, true≢false}
use Rattle.cp_model.specs.Integers.{count_between, same_integer}
use Rattle.cp_model.proofs.SameIntegers.{equal_integers}
use Rattle.cp_model_program.specs.Programs.{Arm, Dense, Sparse}
use Rattle.cp_model_program.specs.Layout.{distance}
use Rattle.cp_model_program.specs.Tables.{arm_at, place_in}
use Rattle.cp_model_program.specs.CodedStatements.{higher, highest, lower, lowest, places_from, table_from, table_of}

-- ---- Integers

rises : (l m n : ℤ) → int_le l m ≡ true → int_le m n ≡ true → int_le l n ≡ true
rises l m n h k = grind (arith, h, k)

same : (n : ℤ) → int_le n n ≡ true
same n = grind (arith)

lower_left : (m n : ℤ) → int_le (lower m n) m ≡ true
lower_left m n = go (int_le m n) refl
  where
    go : (b : Bool) → int_le m n ≡ b → int_le (if b then m else n) m ≡ true
    go true h = same m
    go false h = grind (arith, h)

lower_right : (m n : ℤ) → int_le (lower m n) n ≡ true
lower_right m n = go (int_le m n) refl
  where
    go : (b : Bool) → int_le m n ≡ b → int_le (if b then m else n) n ≡ true
    go true h = h
    go false h = same n

higher_left : (m n : ℤ) → int_le m (higher m n) ≡ true
higher_left m n = go (int_le m n) refl
  where
    go : (b : Bool) → int_le m n ≡ b → int_le m (if b then n else m) ≡ true
    go true h = h
    go false h = same m

higher_right : (m n : ℤ) → int_le n (higher m n) ≡ true
higher_right m n = go (int_le m n) refl
  where
    go : (b : Bool) → int_le m n ≡ b → int_le n (if b then n else m) ≡ true
    go true h = same n
    go false h = grind (arith, h)

-- ---- Bounds of labels

abbrev From : ℤ → List Arm → Type 0
From low [] = Unit {0}
From low (x ∷ xs) = (int_le low x.label ≡ true) × From low xs

abbrev To : ℤ → List Arm → Type 0
To high [] = Unit {0}
To high (x ∷ xs) = (int_le x.label high ≡ true) × To high xs

lowest_is : (n : ℤ) (xs : List Arm) → (int_le (lowest n xs) n ≡ true) × From (lowest n xs) xs
lowest_is n [] = (same n, tt)
lowest_is n (x ∷ xs) =
    let m = lower n x.label in
    let rest : (int_le (lowest m xs) m ≡ true) × From (lowest m xs) xs = lowest_is m xs in (
      rises (lowest m xs) m n rest.0 (lower_left n x.label),
      (rises (lowest m xs) m x.label rest.0 (lower_right n x.label), rest.1),
    )

highest_is : (n : ℤ) (xs : List Arm) → (int_le n (highest n xs) ≡ true) × To (highest n xs) xs
highest_is n [] = (same n, tt)
highest_is n (x ∷ xs) =
    let m = higher n x.label in
    let rest : (int_le m (highest m xs) ≡ true) × To (highest m xs) xs = highest_is m xs in (
      rises n m (highest m xs) (higher_left n x.label) rest.0,
      (rises x.label m (highest m xs) (higher_right n x.label) rest.0, rest.1),
    )

none_below : (low n : ℤ) (xs : List Arm) → From low xs → int_le low n ≡ false → arm_at xs n ≡ None
none_below low n [] h k = refl
none_below low n (x ∷ xs) h k = go (none_below low n xs h.1 k) (same_integer x.label n) refl
  where
    go : arm_at xs n ≡ None → (b : Bool) → same_integer x.label n ≡ b → (if b then Some x.place else arm_at xs n) ≡ None
    go rest true e = absurd (true≢false (sym h.0 ∙ ap (int_le low) (equal_integers x.label n e) ∙ k))
    go rest false e = rest

none_above : (high n : ℤ) (xs : List Arm) → To high xs → int_le n high ≡ false → arm_at xs n ≡ None
none_above high n [] h k = refl
none_above high n (x ∷ xs) h k = go (none_above high n xs h.1 k) (same_integer x.label n) refl
  where
    go : arm_at xs n ≡ None → (b : Bool) → same_integer x.label n ≡ b → (if b then Some x.place else arm_at xs n) ≡ None
    go rest true e = absurd (true≢false (sym h.0 ∙ ap (λ z. int_le z high) (equal_integers x.label n e) ∙ k))
    go rest false e = rest

-- ---- Dense tables

next_of : (low : ℤ) (k : ℕ) → (low +ℤ pos 1) +ℤ pos k ≡ low +ℤ pos (suc k)
next_of low k = grind (arith)

place_found : (arms : List Arm) (low : ℤ) (count k : ℕ) → k < count → slice_index_or (places_from arms low count) k None ≡ arm_at arms (low +ℤ pos k)
place_found arms low zero k h = absurd (omega (arith, h))
place_found arms low (suc n) zero h = ap (arm_at arms) (nothing_more low)
  where
    nothing_more : (m : ℤ) → m ≡ m +ℤ pos 0
    nothing_more m = grind (arith)
place_found arms low (suc n) (suc k) h = place_found arms (low +ℤ pos 1) n k (omega (arith, h)) ∙ ap (arm_at arms) (next_of low k)

place_missing : (arms : List Arm) (low : ℤ) (count k : ℕ) → count ≤ k → slice_index_or (places_from arms low count) k None ≡ None
place_missing arms low zero k h = refl
place_missing arms low (suc n) zero h = absurd (omega (arith, h))
place_missing arms low (suc n) (suc k) h = place_missing arms (low +ℤ pos 1) n k (omega (arith, h))

distance_of : (low n : ℤ) → int_le low n ≡ true → low +ℤ pos (distance low n) ≡ n
distance_of (pos a) (pos b) h = grind (arith, h)
distance_of (pos a) (negsuc b) h = absurd (cc)
distance_of (negsuc a) (pos b) h = grind (arith, h)
distance_of (negsuc a) (negsuc b) h = grind (arith, h)

beyond : (low high n : ℤ) → int_le low n ≡ true → count_between low high ≤ distance low n → int_le n high ≡ false
beyond (pos a) (pos b) (pos c) h k = grind (arith, h, k)
beyond (pos a) (negsuc b) (pos c) h k = grind (arith, h, k)
beyond (negsuc a) (pos b) (pos c) h k = grind (arith, h, k)
beyond (negsuc a) (negsuc b) (pos c) h k = grind (arith, h, k)
beyond (negsuc a) (pos b) (negsuc c) h k = grind (arith, h, k)
beyond (negsuc a) (negsuc b) (negsuc c) h k = grind (arith, h, k)
beyond (pos a) high (negsuc c) h k = absurd (cc)

dense_finds : (arms : List Arm) (low high n : ℤ) → From low arms → To high arms → place_in (Dense low (places_from arms low (count_between low high))) n ≡ arm_at arms n
dense_finds arms low high n from to = go (int_le low n) refl
  where
    count : ℕ
    count = count_between low high

    at : ℕ
    at = distance low n

    inside : int_le low n ≡ true → (b : Bool) → nat_le count at ≡ b → slice_index_or (places_from arms low count) at None ≡ arm_at arms n
    inside h true e =
        place_missing arms low count at (leb-true count at e) ∙ sym (none_above high n arms to (beyond low high n h (leb-true count at e)))
    inside h false e = place_found arms low count at (less count at e) ∙ ap (arm_at arms) (distance_of low n h)
      where
        less : (m k : ℕ) → nat_le m k ≡ false → k < m
        less m k e = grind (arith, e)

    go : (b : Bool) → int_le low n ≡ b → (if b then slice_index_or (places_from arms low count) at None else None) ≡ arm_at arms n
    go true h = inside h (nat_le count at) refl
    go false h = sym (none_below low n arms from h)

table_finds_from : (arms : List Arm) (low high n : ℤ) → From low arms → To high arms → place_in (table_from arms low (count_between low high)) n ≡ arm_at arms n
table_finds_from arms low high n from to = go (nat_le (count_between low high) (4 * length arms))
  where
    go : (b : Bool) → place_in (if b then Dense low (places_from arms low (count_between low high)) else Sparse arms) n ≡ arm_at arms n
    go true = dense_finds arms low high n from to
    go false = refl

pub table_finds : (arms : List Arm) (n : ℤ) → place_in (table_of arms) n ≡ arm_at arms n
table_finds [] n = refl
table_finds (x ∷ xs) n =
    let low = lowest_is x.label xs in
    let high = highest_is x.label xs in
    table_finds_from (x ∷ xs) (lowest x.label xs) (highest x.label xs) n (low.0, low.1) (high.0, high.1)
