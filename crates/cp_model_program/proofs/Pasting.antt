-- Words that are written one after the other, by fills and by repeats.
use Rattle.std.proofs.Common.{◌≡◌, ◌≤◌, ◌<◌, ◌⊎◌, inl, inr, ◌≢◌, ℕ, zero, suc, ◌+◌, ◌*◌, ℤ, pos, List, [], ◌∷◌, ◌++◌, refl, ap, sym, ◌∙◌, length, arith}
use Rattle.std.specs.Prelude.{replicate, slice_set, slice_index_or}
use Rattle.std.proofs.lemmas.List.{get_or-set_same, get_or-set_other, length-append, length-set, set-get_or}
use Rattle.cp_model_program.specs.Starts.{block, fill, paste, repeat_block, word}

pub paste_length : (to : ℕ) (xs ws : List ℤ) → length (paste to xs ws) ≡ length ws
paste_length to [] ws = refl
paste_length to (x ∷ xs) ws = paste_length (suc to) xs (slice_set ws to x) ∙ length-set ws to x

pub paste_append : (to : ℕ) (xs ys ws : List ℤ) → paste to (xs ++ ys) ws ≡ paste (to + length xs) ys (paste to xs ws)
paste_append to [] ys ws = ap (λ n. paste n ys ws) (nothing_more to)
  where
    nothing_more : (n : ℕ) → n ≡ n + 0
    nothing_more n = omega arith
paste_append to (x ∷ xs) ys ws =
    paste_append (suc to) xs ys (slice_set ws to x) ∙ ap (λ n. paste n ys (paste (suc to) xs (slice_set ws to x))) (one_more to (length xs))
  where
    one_more : (n m : ℕ) → suc n + m ≡ n + suc m
    one_more n m = omega arith

pub fill_is_paste : (at k : ℕ) (n : ℤ) (ws : List ℤ) → fill at k n ws ≡ paste at (replicate k n) ws
fill_is_paste at zero n ws = refl
fill_is_paste at (suc k) n ws = fill_is_paste (suc at) k n (slice_set ws at n)

pub paste_outside : (to i : ℕ) (xs ws : List ℤ) → (i < to) ⊎ (to + length xs ≤ i) → word (paste to xs ws) i ≡ word ws i
paste_outside to i [] ws h = refl
paste_outside to i (x ∷ xs) ws h =
    paste_outside (suc to) i xs (slice_set ws to x) (later h) ∙ get_or-set_other ws to i x (pos 0) (other h)
  where
    later : (i < to) ⊎ (to + suc (length xs) ≤ i) → (i < suc to) ⊎ (suc to + length xs ≤ i)
    later (inl k) = inl (omega (arith, k))
    later (inr k) = inr (omega (arith, k))

    other : (i < to) ⊎ (to + suc (length xs) ≤ i) → i ≢ to
    other (inl k) e = omega (arith, k, e)
    other (inr k) e = omega (arith, k, e)

pub paste_inside : (to k : ℕ) (xs ws : List ℤ) → k < length xs → to + length xs ≤ length ws → word (paste to xs ws) (to + k) ≡ slice_index_or xs k (pos 0)
paste_inside to k [] ws h room = absurd (omega (arith, h))
paste_inside to zero (x ∷ xs) ws h room =
    ap (word (paste (suc to) xs (slice_set ws to x))) (nothing_more to)
    ∙ paste_outside (suc to) to xs (slice_set ws to x) (inl (omega arith)) ∙ get_or-set_same ws to x (pos 0) (omega (arith, room))
  where
    nothing_more : (n : ℕ) → n + 0 ≡ n
    nothing_more n = omega arith
paste_inside to (suc k) (x ∷ xs) ws h room =
    ap (word (paste (suc to) xs (slice_set ws to x))) (one_more to k)
    ∙ paste_inside (suc to) k xs (slice_set ws to x) (omega (arith, h)) (omega (arith, room, length-set ws to x))
  where
    one_more : (n m : ℕ) → n + suc m ≡ suc n + m
    one_more n m = omega arith

-- the words of a block, one by one
block_is : (ws : List ℤ) (from : ℕ) (xs : List ℤ) → ((k : ℕ) → k < length xs → word ws (from + k) ≡ slice_index_or xs k (pos 0)) → block ws from (length xs) ≡ xs
block_is ws from [] h = refl
block_is ws from (x ∷ xs) h =
    ap (λ y. y ∷ block ws (suc from) (length xs)) (ap (word ws) (nothing_more from) ∙ h 0 (omega arith))
    ∙ ap (λ ys. x ∷ ys) (block_is ws (suc from) xs (λ k less. ap (word ws) (one_more from k) ∙ h (suc k) (omega (arith, less))))
  where
    nothing_more : (n : ℕ) → n ≡ n + 0
    nothing_more n = omega arith

    one_more : (n m : ℕ) → suc n + m ≡ n + suc m
    one_more n m = omega arith

pub block_of_paste : (to : ℕ) (xs ws : List ℤ) → to + length xs ≤ length ws → block (paste to xs ws) to (length xs) ≡ xs
block_of_paste to xs ws room = block_is (paste to xs ws) to xs (λ k less. paste_inside to k xs ws less room)

abbrev pub copies : ℕ → List ℤ → List ℤ
copies zero xs = []
copies (suc k) xs = xs ++ copies k xs

pub copies_length : (k : ℕ) (xs : List ℤ) → length (copies k xs) ≡ k * length xs
copies_length zero xs = omega arith
copies_length (suc k) xs = length-append xs (copies k xs) ∙ (omega (arith, copies_length k xs))

-- more blocks like the one that is there
pub repeated_is_paste : (at size k : ℕ) (xs ws : List ℤ) → length xs ≡ size → block ws at size ≡ xs → at + size + k * size ≤ length ws
    → repeat_block at size k ws ≡ paste (at + size) (copies k xs) ws
repeated_is_paste at size zero xs ws is represents room = refl
repeated_is_paste at size (suc k) xs ws is represents room =
    ap (λ b. repeat_block (at + size) size k (paste (at + size) b ws)) represents
    ∙ repeated_is_paste (at + size) size k xs (paste (at + size) xs ws) is
    (ap (block (paste (at + size) xs ws) (at + size)) (sym is) ∙ block_of_paste (at + size) xs ws (omega (arith, room, is)))
    (omega (arith, room, paste_length (at + size) xs ws))
    ∙ ap (λ n. paste (at + size + n) (copies k xs) (paste (at + size) xs ws)) (sym is)
    ∙ sym (paste_append (at + size) xs (copies k xs) ws)

-- what is to be written is there already
pub paste_same : (to : ℕ) (xs ws : List ℤ) → ((k : ℕ) → k < length xs → word ws (to + k) ≡ slice_index_or xs k (pos 0)) → paste to xs ws ≡ ws
paste_same to [] ws h = refl
paste_same to (x ∷ xs) ws h =
    ap (paste (suc to) xs) same ∙ paste_same (suc to) xs ws (λ k less. ap (word ws) (one_more to k) ∙ h (suc k) (omega (arith, less)))
  where
    nothing_more : (n : ℕ) → n ≡ n + 0
    nothing_more n = omega arith

    one_more : (n m : ℕ) → suc n + m ≡ n + suc m
    one_more n m = omega arith

    same : slice_set ws to x ≡ ws
    same = ap (slice_set ws to) (sym (ap (word ws) (nothing_more to) ∙ h 0 (omega arith))) ∙ set-get_or ws to (pos 0)

-- ---- Words that are written beside one another, in either order

sets_swap : (ws : List ℤ) (i j : ℕ) (x y : ℤ) → i ≢ j → slice_set (slice_set ws i x) j y ≡ slice_set (slice_set ws j y) i x
sets_swap [] i j x y apart = refl
sets_swap (w ∷ ws) zero zero x y apart = absurd (apart refl)
sets_swap (w ∷ ws) zero (suc j) x y apart = refl
sets_swap (w ∷ ws) (suc i) zero x y apart = refl
sets_swap (w ∷ ws) (suc i) (suc j) x y apart = ap (λ l. w ∷ l) (sets_swap ws i j x y (λ e. apart (ap suc e)))

set_before : (at to : ℕ) (x : ℤ) (ys ws : List ℤ) → at < to → slice_set (paste to ys ws) at x ≡ paste to ys (slice_set ws at x)
set_before at to x [] ws less = refl
set_before at to x (y ∷ ys) ws less =
    set_before at (suc to) x ys (slice_set ws to y) (omega (arith, less))
    ∙ ap (paste (suc to) ys) (sets_swap ws to at y x (λ e. omega (arith, less, e)))

pub paste_swap : (at : ℕ) (xs : List ℤ) (to : ℕ) (ys ws : List ℤ) → at + length xs ≤ to → paste at xs (paste to ys ws) ≡ paste to ys (paste at xs ws)
paste_swap at [] to ys ws room = refl
paste_swap at (x ∷ xs) to ys ws room =
    ap (paste (suc at) xs) (set_before at to x ys ws (omega (arith, room))) ∙ paste_swap (suc at) xs to ys (slice_set ws at x) (omega (arith, room))
