-- The words of a plain variable are those of its leaves.
--
-- By induction on the type: a word of an array is in one of its rows, by division, a word of a
-- record in one of its members, and a simple variable is one word and its own leaf.
use Rattle.std.proofs.Common.{◌≡◌, ◌⊎◌, inl, inr, ℕ, zero, suc, ◌+◌, ◌-◌, ◌*◌, ◌≤◌, ◌<◌, ℤ, pos, negsuc, Bool, true, false, [], ◌∷◌, Some, None, map, refl, ap, sym, subst, ◌∙◌, arith}
use Rattle.std.specs.Prelude.{if◌then◌else◌, int_le, nat_lt, ◌||◌}
use Rattle.std.proofs.lemmas.Bool.{true≢false}
use Rattle.std.proofs.lemmas.Int.{ints}
use Rattle.std.specs.Str.{bytes_eq}
use Rattle.cp_model.specs.Abstract.{Name}
use Rattle.cp_model.specs.Integers.{count_between}
use Rattle.cp_model.specs.Leaves.{below_step, integers_from, leaves, leaves_of_members}
use Rattle.cp_model.specs.Locations.{ByIndex, ByName, Path}
use Rattle.cp_model.specs.Places.{within}
use Rattle.cp_model.specs.Stores.{Value}
use Rattle.cp_model.specs.Types.{ArrayOf, ComponentOf, GlobalScope, Members, MoreMembers, NoMembers, NoType, Queue, RecordOf, ResolvedType, Simple}
use Rattle.cp_law_typing.specs.Judgement.{has_queues}
use Rattle.cp_law_typing.specs.SoundTypes.{SoundMembers, SoundType, has_member}
use Rattle.cp_law_typing.specs.StartValues.{IsIn}
use Rattle.cp_law_typing.specs.Words.{words, words_of_members}
use Rattle.cp_law_typing.proofs.Leaves.{in_either, member_named, of_below, of_flat}
use Rattle.cp_law_typing.proofs.Names.{bytes_eq-refl, bytes_same}
use Rattle.cp_model_program.specs.Layout.{distance, farther, member_part, part}
use Rattle.cp_model_machine.proofs.StartLeaves.{IsSimple}

-- ---- indices

-- A word of `c` rows of `w` words is in one of the rows.
row_of : (c w k : ℕ) → k < c * w → (d : ℕ) × (m : ℕ) × (d < c) × (m < w) × (d * w + m ≡ k)
row_of zero w k h = absurd (omega (arith, h))
row_of (suc c) w k h = by (nat_lt k w) refl (row_of c w (k - w))
  where
    by : (b : Bool) → nat_lt k w ≡ b → (k - w < c * w → (d : ℕ) × (m : ℕ) × (d < c) × (m < w) × (d * w + m ≡ k - w))
        → (d : ℕ) × (m : ℕ) × (d < suc c) × (m < w) × (d * w + m ≡ k)
    by true e go = (0, k, omega arith, Prim.grind (arith, e), omega arith)
    by false e go =
        let low : w ≤ k = Prim.grind (arith, e) in
        let r = go (omega (arith, h, low)) in
        (suc r.0, r.1, omega (arith, r.2), r.3, omega (arith, r.4, low))

not_below : (k n : ℕ) → nat_lt k n ≡ false → n ≤ k
not_below k n e = Prim.grind (arith, e)

-- The index at the distance `d` from the lowest index.
index_at : (low high : ℤ) (d : ℕ) → d < count_between low high → (i : ℤ) × (within low high i ≡ true) × (distance low i ≡ d)
index_at (pos a) (pos b) d h = (pos (a + d), Prim.grind (arith, ints, h), Prim.grind (arith, ints, h))
index_at (pos a) (negsuc b) d h = absurd (omega (arith, h))
index_at (negsuc a) high d h = by (nat_lt a d) refl high h
  where
    by : (b : Bool) → nat_lt a d ≡ b → (high : ℤ) → d < count_between (negsuc a) high → (i : ℤ) × (within (negsuc a) high i ≡ true) × (distance (negsuc a) i ≡ d)
    by true e (pos b) h = (pos (d - suc a), Prim.grind (arith, ints, h, e), Prim.grind (arith, ints, h, e))
    by true e (negsuc b) h = absurd (Prim.grind (arith, h, e))
    by false e (pos b) h = (negsuc (a - d), Prim.grind (arith, ints, h, e), Prim.grind (arith, ints, h, e))
    by false e (negsuc b) h = (negsuc (a - d), Prim.grind (arith, ints, h, e), Prim.grind (arith, ints, h, e))

-- A counted integer is at least the first one, and less than `n` away from it.
counted_low : (low i : ℤ) (n : ℕ) → IsIn i (integers_from low n) → (int_le low i ≡ true) × (distance low i < n)
counted_low low i zero h = absurd h
counted_low low i (suc n) (inl h) = subst (λ z. (int_le low z ≡ true) × (distance low z < suc n)) (sym h) (itself low)
  where
    itself : (z : ℤ) → (int_le z z ≡ true) × (distance z z < suc n)
    itself (pos a) = (Prim.grind (arith, ints), Prim.grind (arith, ints))
    itself (negsuc a) = (Prim.grind (arith, ints), Prim.grind (arith, ints))
counted_low (pos a) i (suc n) (inr h) = by i (counted_low (pos (suc a)) i n h)
  where
    by : (i : ℤ) → (int_le (pos (suc a)) i ≡ true) × (distance (pos (suc a)) i < n) → (int_le (pos a) i ≡ true) × (distance (pos a) i < suc n)
    by (pos c) k = (Prim.grind (arith, ints, k.0), Prim.grind (arith, ints, k.0, k.1))
    by (negsuc c) k = absurd (true≢false (sym k.0))
counted_low (negsuc zero) i (suc n) (inr h) = by i (counted_low (pos 0) i n h)
  where
    by : (i : ℤ) → (int_le (pos 0) i ≡ true) × (distance (pos 0) i < n) → (int_le (negsuc zero) i ≡ true) × (distance (negsuc zero) i < suc n)
    by (pos c) k = (Prim.grind (arith, ints), Prim.grind (arith, ints, k.0, k.1))
    by (negsuc c) k = absurd (true≢false (sym k.0))
counted_low (negsuc (suc a)) i (suc n) (inr h) = by i (counted_low (negsuc a) i n h)
  where
    by : (i : ℤ) → (int_le (negsuc a) i ≡ true) × (distance (negsuc a) i < n) → (int_le (negsuc (suc a)) i ≡ true) × (distance (negsuc (suc a)) i < suc n)
    by (pos c) k = (Prim.grind (arith, ints), Prim.grind (arith, ints, k.0, k.1))
    by (negsuc c) k = (Prim.grind (arith, ints, k.0), Prim.grind (arith, ints, k.0, k.1))

pub counted_within : (low high i : ℤ) → IsIn i (integers_from low (count_between low high)) → within low high i ≡ true
counted_within low high i h = by low high i (counted_low low i (count_between low high) h)
  where
    by : (low high i : ℤ) → (int_le low i ≡ true) × (distance low i < count_between low high) → within low high i ≡ true
    by (pos a) (pos b) (pos c) k = Prim.grind (arith, ints, k.0, k.1)
    by (pos a) (negsuc b) i k = absurd (omega (arith, k.1))
    by (pos a) (pos b) (negsuc c) k = absurd (true≢false (sym k.0))
    by (negsuc a) (pos b) (pos c) k = Prim.grind (arith, ints, k.0, k.1)
    by (negsuc a) (pos b) (negsuc c) k = Prim.grind (arith, ints, k.0, k.1)
    by (negsuc a) (negsuc b) (pos c) k = absurd (Prim.grind (arith, ints, k.0, k.1))
    by (negsuc a) (negsuc b) (negsuc c) k = Prim.grind (arith, ints, k.0, k.1)

-- ---- leaves

abbrev first_name : Path → Name
first_name (ByName x ∷ path) = x
first_name _ = []

mutual
  -- Each word is that of a leaf.
  pub word_is_part : (g : GlobalScope) (t : ResolvedType) (k : ℕ) → SoundType t → has_queues t ≡ false → k < words g t → (path : Path) × (u : ResolvedType) × IsSimple u × (part g t path ≡ Some (k, u))
  word_is_part g (Simple b low high start) k s free h = ([], Simple b low high start, tt, ap (λ z. Some (z, Simple b low high start)) (omega (arith, h)))
  word_is_part g (ArrayOf low high t) k s free h =
      let r = row_of (count_between low high) (words g t) k h in
      let i = index_at low high r.0 r.2 in
      let p = word_is_part g t r.1 s.1 free r.3 in (
        ByIndex i.0 ∷ p.0,
        p.1,
        p.2,
        ap (λ b. if b then farther (distance low i.0 * words g t) (part g t p.0) else None) i.1
            ∙ (ap (farther (distance low i.0 * words g t)) p.3 ∙ ap (λ z. Some (z, p.1)) (ap (λ z. z * words g t + r.1) i.2 ∙ r.4)),
      )
  word_is_part g (RecordOf ms) k s free h =
      let m = word_is_member g 0 ms k s (omega arith) (omega (arith, h)) in (ByName m.0 ∷ m.1, m.2, m.3, m.5)
  word_is_part g Queue k s free h = absurd (true≢false free)
  word_is_part g (ComponentOf y inner) k s free h = absurd s
  word_is_part g NoType k s free h = absurd s

  word_is_member : (g : GlobalScope) (at : ℕ) (ms : Members) (k : ℕ) → SoundMembers ms → at ≤ k → k < at + words_of_members g ms
      → (x : Name) × (path : Path) × (u : ResolvedType) × IsSimple u × (has_member x ms ≡ true) × (member_part g at ms x path ≡ Some (k, u))
  word_is_member g at NoMembers k s low h = absurd (omega (arith, low, h))
  word_is_member g at (MoreMembers y t ms) k s low h =
      by (nat_lt k (at + words g t)) refl (λ q. word_is_part g t (k - at) s.0 s.3 q) (λ q. word_is_member g (at + words g t) ms k s.2 q (omega (arith, h)))
    where
      later : (x : Name) (b : Bool) → bytes_eq x y ≡ b → has_member x ms ≡ true → b ≡ false
      later x false e there = refl
      later x true e there = absurd (true≢false (sym there ∙ (ap (λ z. has_member z ms) (bytes_same x y e) ∙ s.1)))

      or_true : (b : Bool) → (b || true) ≡ true
      or_true true = refl
      or_true false = refl

      by : (b : Bool) → nat_lt k (at + words g t) ≡ b
          → (k - at < words g t → (path : Path) × (u : ResolvedType) × IsSimple u × (part g t path ≡ Some (k - at, u)))
          → (at + words g t ≤ k → (x : Name) × (path : Path) × (u : ResolvedType) × IsSimple u × (has_member x ms ≡ true) × (member_part g (at + words g t) ms x path ≡ Some (k, u)))
          → (x : Name) × (path : Path) × (u : ResolvedType) × IsSimple u × (has_member x (MoreMembers y t ms) ≡ true) × (member_part g at (MoreMembers y t ms) x path ≡ Some (k, u))
      by true e first more =
          let below : k < at + words g t = Prim.grind (arith, e) in
          let p = first (omega (arith, below, low)) in (
            y,
            p.0,
            p.1,
            p.2,
            ap (λ b. b || has_member y ms) (bytes_eq-refl y),
            ap (λ b. if b then farther at (part g t p.0) else member_part g (at + words g t) ms y p.0) (bytes_eq-refl y)
                ∙ (ap (farther at) p.3 ∙ ap (λ z. Some (z, p.1)) (omega (arith, low))),
          )
      by false e first more =
          let m = more (not_below k (at + words g t) e) in (
            m.0,
            m.1,
            m.2,
            m.3,
            ap (λ b. bytes_eq m.0 y || b) m.4 ∙ or_true (bytes_eq m.0 y),
            ap (λ b. if b then farther at (part g t m.1) else member_part g (at + words g t) ms m.0 m.1) (later m.0 (bytes_eq m.0 y) refl m.4) ∙ m.5,
          )

mutual
  -- Each leaf is a simple part.
  pub leaf_is_part : (g : GlobalScope) (t : ResolvedType) (path : Path) (v : Value) → SoundType t → has_queues t ≡ false → IsIn (path, v) (leaves t)
      → (k : ℕ) × (u : ResolvedType) × IsSimple u × (part g t path ≡ Some (k, u))
  leaf_is_part g (Simple b low high start) path v s free (inl h) =
      (0, Simple b low high start, tt, ap (λ z. part g (Simple b low high start) z.0) h)
  leaf_is_part g (Simple b low high start) path v s free (inr h) = absurd h
  leaf_is_part g (ArrayOf low high t) path v s free h =
      let a = of_flat (λ i. map (below_step (ByIndex i)) (leaves t)) (path, v) (integers_from low (count_between low high)) h in
      let b = of_below (ByIndex a.0) path v (leaves t) a.2 in
      let p = leaf_is_part g t b.0 v s.1 free b.2 in (
        distance low a.0 * words g t + p.0,
        p.1,
        p.2,
        ap (part g (ArrayOf low high t)) b.1
            ∙ (ap (λ z. if z then farther (distance low a.0 * words g t) (part g t b.0) else None) (counted_within low high a.0 a.1) ∙ ap (farther (distance low a.0 * words g t)) p.3),
      )
  leaf_is_part g (RecordOf ms) path v s free h =
      let m = leaf_is_member g 0 ms path v s h in (m.2, m.3, m.4, ap (part g (RecordOf ms)) m.5 ∙ m.6)
  leaf_is_part g Queue path v s free h = absurd (true≢false free)
  leaf_is_part g (ComponentOf y inner) path v s free h = absurd s
  leaf_is_part g NoType path v s free h = absurd s

  leaf_is_member : (g : GlobalScope) (at : ℕ) (ms : Members) (path : Path) (v : Value) → SoundMembers ms → IsIn (path, v) (leaves_of_members ms)
      → (x : Name) × (rest : Path) × (k : ℕ) × (u : ResolvedType) × IsSimple u × (path ≡ ByName x ∷ rest) × (member_part g at ms x rest ≡ Some (k, u))
  leaf_is_member g at NoMembers path v s h = absurd h
  leaf_is_member g at (MoreMembers y t ms) path v s h =
      by (in_either (path, v) (map (below_step (ByName y)) (leaves t)) (leaves_of_members ms) h) (λ q w. leaf_is_part g t q v s.0 s.3 w) (λ w. leaf_is_member g (at + words g t) ms path v s.2 w)
    where
      later : (x : Name) (b : Bool) → bytes_eq x y ≡ b → has_member x ms ≡ true → b ≡ false
      later x false e there = refl
      later x true e there = absurd (true≢false (sym there ∙ (ap (λ z. has_member z ms) (bytes_same x y e) ∙ s.1)))

      by : IsIn (path, v) (map (below_step (ByName y)) (leaves t)) ⊎ IsIn (path, v) (leaves_of_members ms)
          → ((q : Path) → IsIn (q, v) (leaves t) → (k : ℕ) × (u : ResolvedType) × IsSimple u × (part g t q ≡ Some (k, u)))
          → (IsIn (path, v) (leaves_of_members ms) → (x : Name) × (rest : Path) × (k : ℕ) × (u : ResolvedType) × IsSimple u × (path ≡ ByName x ∷ rest) × (member_part g (at + words g t) ms x rest ≡ Some (k, u)))
          → (x : Name) × (rest : Path) × (k : ℕ) × (u : ResolvedType) × IsSimple u × (path ≡ ByName x ∷ rest) × (member_part g at (MoreMembers y t ms) x rest ≡ Some (k, u))
      by (inl w) first more =
          let b = of_below (ByName y) path v (leaves t) w in
          let p = first b.0 b.2 in (
            y,
            b.0,
            at + p.0,
            p.1,
            p.2,
            b.1,
            ap (λ z. if z then farther at (part g t b.0) else member_part g (at + words g t) ms y b.0) (bytes_eq-refl y) ∙ ap (farther at) p.3,
          )
      by (inr w) first more =
          let m = more w in
          let named = member_named ms path v w in
          let same : m.0 ≡ named.0 = name_of (m.0) (named.0) m.1 named.1 (sym m.5 ∙ named.2) in (
            m.0,
            m.1,
            m.2,
            m.3,
            m.4,
            m.5,
            ap (λ z. if z then farther at (part g t m.1) else member_part g (at + words g t) ms m.0 m.1) (later m.0 (bytes_eq m.0 y) refl (ap (λ z. has_member z ms) same ∙ named.3)) ∙ m.6,
          )
        where
          name_of : (x z : Name) (p q : Path) → ◌≡◌ {A = Path} (ByName x ∷ p) (ByName z ∷ q) → x ≡ z
          name_of x z p q e = ap first_name e
