-- Words written one by one, and blocks of words.
use Rattle.std.proofs.Common.{◌≡◌, true, false, inl, inr, ℕ, zero, suc, ◌+◌, ◌-◌, ◌≤◌, ◌<◌, ◌^◌, ℤ, pos, List, [], ◌∷◌, ◌++◌, length, slice_set, refl, to_z, of_z, ap, sym, ◌∙◌, arith}
use Rattle.std.specs.Prelude.{◌⊎◌, min, nat_le as leb, FitsSigned}
use Rattle.std.proofs.lemmas.Bool.Decides.{leb_tells}
use Rattle.std.specs.Int.{w32}
use Rattle.std.proofs.lemmas.Int.{to_z-of_z}
use Rattle.std.proofs.lemmas.List.{get_or-append_right as get_or_append_right, get_or_append_left, get_or-set_other, get_or_past, length-append, length-set, set-append_left, set-append_right, set_comm, set_past}
use Rattle.cp_model_program.specs.Starts.{block, fill, paste, repeat_block, word}
use Rattle.cp_program.specs.Reaches.{cap_place}

-- ---- One word

pub set_own : (own shared : List ℤ) (at : ℕ) (n : ℤ) → FitsSigned w32 n → at < length own
    → slice_set own at (to_z w32 (of_z w32 n)) ++ shared ≡ slice_set (own ++ shared) at n
set_own own shared at n f h = ap (λ m. slice_set own at m ++ shared) (to_z-of_z w32 n f) ∙ sym (set-append_left own shared at n h)

pub set_shared : (own shared : List ℤ) (at : ℕ) (n : ℤ) → FitsSigned w32 n → length own ≤ at
    → own ++ slice_set shared (at - length own) (to_z w32 (of_z w32 n)) ≡ slice_set (own ++ shared) at n
set_shared own shared at n f h =
    ap (λ m. own ++ slice_set shared (at - length own) m) (to_z-of_z w32 n f) ∙ sym (set-append_right own shared (length own) at n refl h)

pub set_neither : (own shared : List ℤ) (at : ℕ) (n : ℤ) → length own ≤ at → length shared ≤ at - length own
    → own ++ shared ≡ slice_set (own ++ shared) at n
set_neither own shared at n h k = sym (set_past (own ++ shared) at n (omega (arith, length-append own shared)))

-- An address that is capped to the largest number is not the address of a word.
pub set_capped : (ws : List ℤ) (place at : ℕ) (n : ℤ) → length ws < 2 ^ 32 → cap_place place ≡ at → slice_set ws at n ≡ slice_set ws place n
set_capped ws place at n small is = by (leb_tells (2 ^ 32) place)
  where
    by : ((leb (2 ^ 32) place ≡ true) × (2 ^ 32 ≤ place)) ⊎ ((leb (2 ^ 32) place ≡ false) × (place < 2 ^ 32)) → slice_set ws at n ≡ slice_set ws place n
    by (inl h) =
        let far : 2 ^ 32 ≤ place = h.1 in
        set_past ws at n (omega arith) ∙ sym (set_past ws place n (omega arith))
    by (inr h) =
        let near : place < 2 ^ 32 = h.1 in
        let same : at ≡ place = omega arith in
        ap (λ p. slice_set ws p n) same

-- ---- Fills

pub fill_more : (ws : List ℤ) (at i count : ℕ) (n : ℤ) → i < count
    → fill (at + (i + 1)) (count - (i + 1)) n (slice_set ws (at + i) n) ≡ fill (at + i) (count - i) n ws
fill_more ws at i count n h =
    let next : at + (i + 1) ≡ suc (at + i) = omega arith in
    let left : suc (count - (i + 1)) ≡ count - i = omega arith in
    ap (λ k. fill k (count - (i + 1)) n (slice_set ws (at + i) n)) next ∙ ap (λ k. fill (at + i) k n ws) left

pub fill_beyond : (k at : ℕ) (n : ℤ) (ws : List ℤ) → length ws ≤ at → fill at k n ws ≡ ws
fill_beyond zero at n ws h = refl
fill_beyond (suc k) at n ws h = ap (fill (suc at) k n) (set_past ws at n h) ∙ fill_beyond k (suc at) n ws (omega arith)

-- What is left of a fill is empty, or is beyond all words.
pub fill_ends : (ws : List ℤ) (at i count : ℕ) (n : ℤ) → (i < min count (length ws - at) → ⊥) → fill (at + i) (count - i) n ws ≡ ws
fill_ends ws at i count n h = by (leb_tells count i)
  where
    by : ((leb count i ≡ true) × (count ≤ i)) ⊎ ((leb count i ≡ false) × (i < count)) → fill (at + i) (count - i) n ws ≡ ws
    by (inl e) =
        let le : count ≤ i = e.1 in
        let none : count - i ≡ 0 = omega arith in
        ap (λ k. fill (at + i) k n ws) none
    by (inr e) =
        let lt : i < count = e.1 in
        fill_beyond (count - i) (at + i) n ws (omega arith)

-- ---- Blocks

block_set : (k from at : ℕ) (x : ℤ) (ws : List ℤ) → (at < from) ⊎ (from + k ≤ at) → block (slice_set ws at x) from k ≡ block ws from k
block_set zero from at x ws h = refl
block_set (suc k) from at x ws h =
    λ i. get_or-set_other ws at from x (pos 0) (apart h) i ∷ block_set k (suc from) at x ws (next h) i
  where
    apart : (at < from) ⊎ (from + suc k ≤ at) → from ≡ at → ⊥
    apart (inl h) e = omega arith
    apart (inr h) e = omega arith

    next : (at < from) ⊎ (from + suc k ≤ at) → (at < suc from) ⊎ (suc from + k ≤ at)
    next (inl h) = inl (omega arith)
    next (inr h) = inr (omega arith)

-- One more word is copied, from the first on.
pub copied_down : (ws : List ℤ) (to from i count : ℕ) → i < count → to ≤ from
    → paste (to + (i + 1)) (block (slice_set ws (to + i) (word ws (from + i))) (from + (i + 1)) (count - (i + 1))) (slice_set ws (to + i) (word ws (from + i)))
    ≡ paste (to + i) (block ws (from + i) (count - i)) ws
copied_down ws to from i count h le =
    let k = count - (i + 1) in
    let x = word ws (from + i) in
    let new = slice_set ws (to + i) x in
    let a : to + (i + 1) ≡ suc (to + i) = omega arith in
    let b : from + (i + 1) ≡ suc (from + i) = omega arith in
    let left : suc k ≡ count - i = omega arith in
    let same : block new (suc (from + i)) k ≡ block ws (suc (from + i)) k = block_set k (suc (from + i)) (to + i) x ws (inl (omega arith)) in
    (λ j. paste (a j) (block new (b j) k) new)
    ∙ ap (λ ns. paste (suc (to + i)) ns new) same
    ∙ ap (λ n. paste (to + i) (block ws (from + i) n) ws) left

pub copied_all : (ws : List ℤ) (to from i count : ℕ) → (i < count → ⊥) → paste (to + i) (block ws (from + i) (count - i)) ws ≡ ws
copied_all ws to from i count h =
    let none : count - i ≡ 0 = omega arith in
    ap (λ n. paste (to + i) (block ws (from + i) n) ws) none

paste_set : (ns ws : List ℤ) (to at : ℕ) (x : ℤ) → (at < to) ⊎ (to + length ns ≤ at) → paste to ns (slice_set ws at x) ≡ slice_set (paste to ns ws) at x
paste_set [] ws to at x h = refl
paste_set (n ∷ ns) ws to at x h =
    ap (paste (suc to) ns) (set_comm ws at to x n (apart h)) ∙ paste_set ns (slice_set ws to n) (suc to) at x (next h)
  where
    apart : (at < to) ⊎ (to + suc (length ns) ≤ at) → at ≡ to → ⊥
    apart (inl h) e = omega arith
    apart (inr h) e = omega arith

    next : (at < to) ⊎ (to + suc (length ns) ≤ at) → (at < suc to) ⊎ (suc to + length ns ≤ at)
    next (inl h) = inl (omega arith)
    next (inr h) = inr (omega arith)

pub length-block : (k from : ℕ) (ws : List ℤ) → length (block ws from k) ≡ k
length-block zero from ws = refl
length-block (suc k) from ws = ap suc (length-block k (suc from) ws)

-- The last word of a block may be written first.
paste_last : (k to from : ℕ) (ws us : List ℤ)
    → paste to (block ws from (suc k)) us ≡ paste to (block ws from k) (slice_set us (to + k) (word ws (from + k)))
paste_last zero to from ws us =
    let a : to ≡ to + 0 = omega arith in
    let b : from ≡ from + 0 = omega arith in
    λ i. slice_set us (a i) (word ws (b i))
paste_last (suc k) to from ws us =
    let a : suc to + k ≡ to + suc k = omega arith in
    let b : suc from + k ≡ from + suc k = omega arith in
    paste_last k (suc to) (suc from) ws (slice_set us to (word ws from))
    ∙ (λ i. paste (suc to) (block ws (suc from) k) (slice_set (slice_set us to (word ws from)) (a i) (word ws (b i))))
    ∙ ap (paste (suc to) (block ws (suc from) k)) (set_comm us to (to + suc k) (word ws from) (word ws (from + suc k)) (λ e. omega arith))

-- One more word is copied, from the last on.
pub copied_up : (ws : List ℤ) (to from i : ℕ) → from ≤ to
    → paste to (block (slice_set ws (to + i) (word ws (from + i))) from i) (slice_set ws (to + i) (word ws (from + i)))
    ≡ paste to (block ws from (i + 1)) ws
copied_up ws to from i le =
    let x = word ws (from + i) in
    let more : suc i ≡ i + 1 = omega arith in
    ap (λ ns. paste to ns (slice_set ws (to + i) x)) (block_set i from (to + i) x ws (inr (omega arith)))
    ∙ sym (paste_last i to from ws ws)
    ∙ ap (λ k. paste to (block ws from k) ws) more

-- ---- Words that are missing

paste_beyond : (ns : List ℤ) (to : ℕ) (ws : List ℤ) → length ws ≤ to → paste to ns ws ≡ ws
paste_beyond [] to ws h = refl
paste_beyond (n ∷ ns) to ws h = ap (paste (suc to) ns) (set_past ws to n h) ∙ paste_beyond ns (suc to) ws (omega arith)

clip : (n m to from : ℕ) (ws us : List ℤ) → n ≤ m → length us ≤ to + n → paste to (block ws from m) us ≡ paste to (block ws from n) us
clip zero m to from ws us h k = paste_beyond (block ws from m) to us (omega arith)
clip (suc n) zero to from ws us h k = absurd (omega arith)
clip (suc n) (suc m) to from ws us h k =
    clip n m (suc to) (suc from) ws (slice_set us to (word ws from)) (omega arith) (omega (arith, length-set us to (word ws from)))

-- Only words that exist are copied.
pub copied_there : (ws : List ℤ) (to from count there : ℕ) → there ≡ min count (length ws - to)
    → paste to (block ws from there) ws ≡ paste to (block ws from count) ws
copied_there ws to from count there is = by (leb_tells count there)
  where
    by : ((leb count there ≡ true) × (count ≤ there)) ⊎ ((leb count there ≡ false) × (there < count))
        → paste to (block ws from there) ws ≡ paste to (block ws from count) ws
    by (inl e) =
        let le : count ≤ there = e.1 in
        let same : there ≡ count = omega arith in
        ap (λ k. paste to (block ws from k) ws) same
    by (inr e) =
        let lt : there < count = e.1 in
        sym (clip there count to from ws ws (omega arith) (omega arith))

-- One more word is copied from elsewhere.
pub brought_more : (source ws : List ℤ) (to from i count : ℕ) → i < count
    → paste (to + (i + 1)) (block source (from + (i + 1)) (count - (i + 1))) (slice_set ws (to + i) (word source (from + i)))
    ≡ paste (to + i) (block source (from + i) (count - i)) ws
brought_more source ws to from i count h =
    let k = count - (i + 1) in
    let a : to + (i + 1) ≡ suc (to + i) = omega arith in
    let b : from + (i + 1) ≡ suc (from + i) = omega arith in
    let left : suc k ≡ count - i = omega arith in
    (λ j. paste (a j) (block source (b j) k) (slice_set ws (to + i) (word source (from + i))))
    ∙ ap (λ n. paste (to + i) (block source (from + i) n) ws) left

pub brought_all : (source ws : List ℤ) (to from i count : ℕ) → (i < min count (length ws - to) → ⊥)
    → paste (to + i) (block source (from + i) (count - i)) ws ≡ ws
brought_all source ws to from i count h = by (leb_tells count i)
  where
    by : ((leb count i ≡ true) × (count ≤ i)) ⊎ ((leb count i ≡ false) × (i < count)) → paste (to + i) (block source (from + i) (count - i)) ws ≡ ws
    by (inl e) =
        let le : count ≤ i = e.1 in
        let none : count - i ≡ 0 = omega arith in
        ap (λ n. paste (to + i) (block source (from + i) n) ws) none
    by (inr e) =
        let lt : i < count = e.1 in
        paste_beyond (block source (from + i) (count - i)) (to + i) ws (omega arith)

-- Addresses that are capped to the largest number are not addresses of words.
pub copied_capped : (ws : List ℤ) (to from i j count : ℕ) → length ws < 2 ^ 32 → cap_place i ≡ to → cap_place j ≡ from
    → paste to (block ws from count) ws ≡ paste i (block ws j count) ws
copied_capped ws to from i j count small toward away =
    ap (λ ns. paste to ns ws) (blocks (leb_tells (2 ^ 32) j)) ∙ pastes (leb_tells (2 ^ 32) i)
  where
    nothing : (count a b : ℕ) → length ws ≤ a → length ws ≤ b → block ws a count ≡ block ws b count
    nothing zero a b h k = refl
    nothing (suc n) a b h k = λ t. (get_or_past ws a (pos 0) h ∙ sym (get_or_past ws b (pos 0) k)) t ∷ nothing n (suc a) (suc b) (omega arith) (omega arith) t

    blocks : ((leb (2 ^ 32) j ≡ true) × (2 ^ 32 ≤ j)) ⊎ ((leb (2 ^ 32) j ≡ false) × (j < 2 ^ 32)) → block ws from count ≡ block ws j count
    blocks (inl h) =
        let far : 2 ^ 32 ≤ j = h.1 in
        nothing count from j (omega arith) (omega arith)
    blocks (inr h) =
        let near : j < 2 ^ 32 = h.1 in
        let same : from ≡ j = omega arith in
        ap (λ k. block ws k count) same

    pastes : ((leb (2 ^ 32) i ≡ true) × (2 ^ 32 ≤ i)) ⊎ ((leb (2 ^ 32) i ≡ false) × (i < 2 ^ 32))
        → paste to (block ws j count) ws ≡ paste i (block ws j count) ws
    pastes (inl h) =
        let far : 2 ^ 32 ≤ i = h.1 in
        paste_beyond (block ws j count) to ws (omega arith) ∙ sym (paste_beyond (block ws j count) i ws (omega arith))
    pastes (inr h) =
        let near : i < 2 ^ 32 = h.1 in
        let same : to ≡ i = omega arith in
        ap (λ k. paste k (block ws j count) ws) same

-- ---- Words of the first or the second of two lists

word_left : (own shared : List ℤ) (at : ℕ) → at < length own → word (own ++ shared) at ≡ word own at
word_left own shared at h = get_or_append_left own shared (pos 0) at h

pub block_left : (k from : ℕ) (own shared : List ℤ) → from + k ≤ length own → block (own ++ shared) from k ≡ block own from k
block_left zero from own shared h = refl
block_left (suc k) from own shared h =
    λ i. word_left own shared from (omega (arith, h)) i ∷ block_left k (suc from) own shared (omega (arith, h)) i

pub block_right : (k from : ℕ) (own shared : List ℤ) → length own ≤ from → block (own ++ shared) from k ≡ block shared (from - length own) k
block_right zero from own shared h = refl
block_right (suc k) from own shared h =
    let next : suc from - length own ≡ suc (from - length own) = omega (arith, h) in
    (λ i. get_or_append_right own shared (length own) from (pos 0) refl h i ∷ block_right k (suc from) own shared (omega (arith, h)) i)
    ∙ ap (λ n. word shared (from - length own) ∷ block shared n k) next

pub paste_left : (ns : List ℤ) (to : ℕ) (own shared : List ℤ) → to + length ns ≤ length own
    → paste to ns (own ++ shared) ≡ paste to ns own ++ shared
paste_left [] to own shared h = refl
paste_left (n ∷ ns) to own shared h =
    ap (paste (suc to) ns) (set-append_left own shared to n (omega (arith, h)))
    ∙ paste_left ns (suc to) (slice_set own to n) shared (omega (arith, length-set own to n, h))

pub paste_right : (ns : List ℤ) (to : ℕ) (own shared : List ℤ) → length own ≤ to
    → paste to ns (own ++ shared) ≡ own ++ paste (to - length own) ns shared
paste_right [] to own shared h = refl
paste_right (n ∷ ns) to own shared h =
    let next : suc to - length own ≡ suc (to - length own) = omega (arith, h) in
    ap (paste (suc to) ns) (set-append_right own shared (length own) to n refl h)
    ∙ paste_right ns (suc to) own (slice_set shared (to - length own) n) (omega (arith, h))
    ∙ ap (λ k. own ++ paste k ns (slice_set shared (to - length own) n)) next

-- ---- Repeats

pub repeated_nothing : (k at size : ℕ) (ws : List ℤ) → size ≡ 0 → repeat_block at size k ws ≡ ws
repeated_nothing k at size ws none = ap (λ n. repeat_block at n k ws) none ∙ nothing k at
  where
    nothing : (k at : ℕ) → repeat_block at 0 k ws ≡ ws
    nothing zero at = refl
    nothing (suc k) at = nothing k (at + 0)

pub repeated_beyond : (k at size : ℕ) (ws : List ℤ) → length ws ≤ at + size → repeat_block at size k ws ≡ ws
repeated_beyond zero at size ws h = refl
repeated_beyond (suc k) at size ws h =
    ap (repeat_block (at + size) size k) (paste_beyond (block ws at size) (at + size) ws h) ∙ repeated_beyond k (at + size) size ws (omega arith)

pub repeated_more : (ws : List ℤ) (at size i count : ℕ) → i < count
    → repeat_block (at + size) size (count - (i + 1)) (paste (at + size) (block ws at size) ws) ≡ repeat_block at size (count - i) ws
repeated_more ws at size i count h =
    let left : suc (count - (i + 1)) ≡ count - i = omega arith in
    ap (λ k. repeat_block at size k ws) left
