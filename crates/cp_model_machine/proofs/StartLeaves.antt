-- The start values of variables: each simple part is a leaf, and is written once.
--
-- By induction on the type along the path: an index within the bounds is among those that are
-- counted. Names differ, so no later write stores at a leaf that was written.
use Rattle.std.proofs.Common.{◌≡◌, inl, inr, ℕ, zero, suc, ◌+◌, ◌<◌, ◌≤◌, ℤ, pos, negsuc, Bool, true, false, List, [], ◌∷◌, ◌++◌, map, Option, Some, None, refl, ap, sym, subst, ◌∙◌, arith}
use Rattle.std.specs.Prelude.{◌-◌, ◌*◌, if◌then◌else◌, int_le, nat_eq, nat_le}
use Rattle.std.proofs.lemmas.Bool.{and_parts, eqb-true, eq-eqb, leb-true, true≢false}
use Rattle.std.specs.Str.{bytes_eq}
use Rattle.cp_model.specs.Abstract.{BaseType, Name}
use Rattle.cp_model.specs.Assignments.{starting_writes}
use Rattle.cp_model.specs.Declarations.{Variable}
use Rattle.cp_model.specs.Integers.{count_between}
use Rattle.cp_model.specs.Leaves.{Leaf, below_step, integers_from, leaves, leaves_of_members}
use Rattle.cp_model.specs.Locations.{ByIndex, ByName, Location, Owner, Path, root, same_location, under}
use Rattle.cp_model.specs.Names.{lookup}
use Rattle.cp_model.specs.Places.{within}
use Rattle.cp_model.specs.Stores.{Ordinal, Store, Value, Writes, put, put_all}
use Rattle.cp_model.specs.Types.{ArrayOf, ComponentOf, GlobalScope, Members, MoreMembers, NoMembers, NoType, Queue, RecordOf, ResolvedType, Simple}
use Rattle.cp_model.proofs.Options.{same_some}
use Rattle.cp_law_typing.specs.Declared.{Distinct}
use Rattle.cp_law_typing.specs.SoundTypes.{SoundMembers, SoundType}
use Rattle.cp_law_typing.specs.StartValues.{IsIn}
use Rattle.cp_law_typing.specs.Words.{words}
use Rattle.cp_law_typing.proofs.Leaves.{in_first, in_flat, in_mapped, in_second, of_flat, of_mapped, sound_functional}
use Rattle.cp_law_typing.proofs.Names.{bytes_same}
use Rattle.cp_law_typing.proofs.StartWrites.{found_in, written}
use Rattle.cp_model_program.specs.Layout.{Part, distance, farther, member_part, part}
use Rattle.cp_model_machine.proofs.Finding.{some_is_not_none}
use Rattle.cp_law_typing.proofs.Locations.{location_is}

-- ---- indices of an array

from_pos : (a d n : ℕ) → d < n → IsIn (pos (a + d)) (integers_from (pos a) n)
from_pos a d zero h = absurd (omega (arith, h))
from_pos a zero (suc n) h = inl (ap pos (omega arith))
from_pos a (suc d) (suc n) h = inr (subst (λ z. IsIn (pos z) (integers_from (pos (suc a)) n)) (omega arith) (from_pos (suc a) d n (omega (arith, h))))

pos_from_neg : (a b n : ℕ) → suc a + b < n → IsIn (pos b) (integers_from (negsuc a) n)
pos_from_neg a b zero h = absurd (omega (arith, h))
pos_from_neg zero b (suc n) h = inr (subst (λ z. IsIn (pos z) (integers_from (pos 0) n)) (nothing_before b) (from_pos 0 b n (omega (arith, h))))
  where
    nothing_before : (k : ℕ) → 0 + k ≡ k
    nothing_before k = omega arith
pos_from_neg (suc a) b (suc n) h = inr (pos_from_neg a b n (omega (arith, h)))

neg_from_neg : (a c n : ℕ) → c ≤ a → a < n + c → IsIn (negsuc c) (integers_from (negsuc a) n)
neg_from_neg a c zero p h = absurd (omega (arith, p, h))
neg_from_neg zero c (suc n) p h = inl (ap negsuc (omega (arith, p)))
neg_from_neg (suc a) c (suc n) p h = by (nat_eq c (suc a)) refl (λ q. neg_from_neg a c n q (omega (arith, h)))
  where
    by : (b : Bool) → nat_eq c (suc a) ≡ b → (c ≤ a → IsIn (negsuc c) (integers_from (negsuc a) n)) → IsIn (negsuc c) (integers_from (negsuc (suc a)) (suc n))
    by true e go = inl (ap negsuc (eqb-true c (suc a) e))
    by false e go = inr (go (less c (suc a) p (λ s. true≢false (sym (eq-eqb c (suc a) s) ∙ e))))
      where
        less : (x y : ℕ) → x ≤ suc a → (x ≡ suc a → ⊥) → x ≤ a
        less x y h d = inner (nat_le x a) refl
          where
            inner : (b : Bool) → nat_le x a ≡ b → x ≤ a
            inner true e = leb-true x a e
            inner false e = absurd (d (Prim.grind (arith, e, h)))

-- An index within the bounds is one of those that are counted.
pub index_in : (low high i : ℤ) → within low high i ≡ true → IsIn i (integers_from low (count_between low high))
index_in low high i h = let k = and_parts (int_le low i) (int_le i high) h in by low high i k.0 k.1
  where
    by : (low high i : ℤ) → int_le low i ≡ true → int_le i high ≡ true → IsIn i (integers_from low (count_between low high))
    by (pos a) (pos b) (pos c) p q =
        let x = leb-true a c p in
        let y = leb-true c b q in
        subst (λ z. IsIn (pos z) (integers_from (pos a) (count_between (pos a) (pos b)))) (there a c x) (from_pos a (c - a) (suc b - a) (omega (arith, x, y)))
      where
        there : (a c : ℕ) → a ≤ c → a + (c - a) ≡ c
        there a c h = omega (arith, h)
    by (negsuc a) (pos b) (pos c) p q = pos_from_neg a c (suc a + suc b) (omega (arith, leb-true c b q))
    by (negsuc a) (pos b) (negsuc c) p q = neg_from_neg a c (suc a + suc b) (leb-true c a p) (omega arith)
    by (negsuc a) (negsuc b) (negsuc c) p q = neg_from_neg a c (suc a - b) (leb-true c a p) (omega (arith, leb-true c a p, leb-true b c q))
    by (negsuc a) (negsuc b) (pos c) p q = absurd (true≢false (sym q))
    by (pos a) (pos b) (negsuc c) p q = absurd (true≢false (sym p))
    by (pos a) (negsuc b) (pos c) p q = absurd (true≢false (sym q))
    by (pos a) (negsuc b) (negsuc c) p q = absurd (true≢false (sym p))

-- ---- simple parts are leaves

abbrev pub start_of : ResolvedType → ℤ
start_of (Simple b low high start) = start
start_of _ = pos 0

abbrev pub IsSimple : ResolvedType → Type 0
IsSimple (Simple b low high start) = Unit {0}
IsSimple _ = ⊥

pub type_is : (n : ℕ) (t : ResolvedType) (m : ℕ) (u : ResolvedType) → ◌≡◌ {A = Option Part} (Some (n, t)) (Some (m, u)) → t ≡ u
type_is n t m u h = ap (λ z. z.1) (same_some {A = Part} (n, t) (m, u) h)

-- What is found farther on is of the type that is found.
pub found_farther : (n : ℕ) (x : Option Part) (m : ℕ) (t : ResolvedType) → farther n x ≡ Some (m, t) → (k : ℕ) × (x ≡ Some (k, t)) × (n + k ≡ m)
found_farther n None m t h = absurd (some_is_not_none _ (sym h))
found_farther n (Some p) m t h =
    (p.0, ap (λ u. Some (p.0, u)) (type_is (n + p.0) p.1 m t h), ap (λ z. z.0) (same_some {A = Part} (n + p.0, p.1) (m, t) h))

-- A simple variable has no part but itself.
pub simple_part : (g : GlobalScope) (t : ResolvedType) (path : Path) (m : ℕ) (u : ResolvedType) → IsSimple t → part g t path ≡ Some (m, u) → (path ≡ []) × (m ≡ 0) × (t ≡ u)
simple_part g (Simple b low high start) [] m u s e =
    (refl, sym (ap (λ z. z.0) (same_some {A = Part} (0, Simple b low high start) (m, u) e)), type_is 0 (Simple b low high start) m u e)
simple_part g (Simple b low high start) (x ∷ path) m u s e = absurd (some_is_not_none _ (sym e))
simple_part g (ArrayOf low high t) path m u s e = absurd s
simple_part g (RecordOf ms) path m u s e = absurd s
simple_part g Queue path m u s e = absurd s
simple_part g (ComponentOf y inner) path m u s e = absurd s
simple_part g NoType path m u s e = absurd s

mutual
  pub part_is_leaf : (g : GlobalScope) (t : ResolvedType) (path : Path) (m : ℕ) (b : BaseType) (low high start : ℤ) → SoundType t → part g t path ≡ Some (m, Simple b low high start)
      → IsIn (path, Ordinal start) (leaves t)
  part_is_leaf g (Simple c l h s) [] m b low high start sound e = inl (ap (λ z. ([], Ordinal (start_of z))) (sym (type_is 0 (Simple c l h s) m (Simple b low high start) e)))
  part_is_leaf g (Simple c l h s) (x ∷ path) m b low high start sound e = absurd (some_is_not_none _ (sym e))
  part_is_leaf g (ArrayOf l h t) [] m b low high start sound e = absurd (subst IsSimple (sym (type_is 0 (ArrayOf l h t) m (Simple b low high start) e)) tt)
  part_is_leaf g (ArrayOf l h t) (ByName x ∷ path) m b low high start sound e = absurd (some_is_not_none _ (sym e))
  part_is_leaf g (ArrayOf l h t) (ByIndex i ∷ path) m b low high start sound e =
      by (within l h i) refl e (λ k q. part_is_leaf g t path k b low high start sound.1 q)
    where
      by : (c : Bool) → within l h i ≡ c → (if c then farther (distance l i * words g t) (part g t path) else None) ≡ Some (m, Simple b low high start)
          → ((k : ℕ) → part g t path ≡ Some (k, Simple b low high start) → IsIn (path, Ordinal start) (leaves t))
          → IsIn (ByIndex i ∷ path, Ordinal start) (leaves (ArrayOf l h t))
      by false w e go = absurd (some_is_not_none _ (sym e))
      by true w e go =
          let k = found_farther (distance l i * words g t) (part g t path) m (Simple b low high start) e in
          in_flat (λ j. map (below_step (ByIndex j)) (leaves t)) i (ByIndex i ∷ path, Ordinal start) (integers_from l (count_between l h)) (index_in l h i w)
          (in_mapped (below_step (ByIndex i)) (path, Ordinal start) (leaves t) (go k.0 k.1))
  part_is_leaf g (RecordOf ms) [] m b low high start sound e = absurd (subst IsSimple (sym (type_is 0 (RecordOf ms) m (Simple b low high start) e)) tt)
  part_is_leaf g (RecordOf ms) (ByIndex i ∷ path) m b low high start sound e = absurd (some_is_not_none _ (sym e))
  part_is_leaf g (RecordOf ms) (ByName x ∷ path) m b low high start sound e = member_is_leaf g 0 ms x path m b low high start sound e
  part_is_leaf g Queue [] m b low high start sound e = absurd (subst IsSimple (sym (type_is 0 Queue m (Simple b low high start) e)) tt)
  part_is_leaf g Queue (x ∷ path) m b low high start sound e = absurd (some_is_not_none _ (sym e))
  part_is_leaf g (ComponentOf s inner) path m b low high start sound e = absurd sound
  part_is_leaf g NoType path m b low high start sound e = absurd sound

  member_is_leaf : (g : GlobalScope) (at : ℕ) (ms : Members) (x : Name) (path : Path) (m : ℕ) (b : BaseType) (low high start : ℤ) → SoundMembers ms
      → member_part g at ms x path ≡ Some (m, Simple b low high start) → IsIn (ByName x ∷ path, Ordinal start) (leaves_of_members ms)
  member_is_leaf g at NoMembers x path m b low high start sound e = absurd (some_is_not_none _ (sym e))
  member_is_leaf g at (MoreMembers y t ms) x path m b low high start sound e =
      by (bytes_eq x y) refl e (λ k q. part_is_leaf g t path k b low high start sound.0 q) (λ q. member_is_leaf g (at + words g t) ms x path m b low high start sound.2 q)
    where
      by : (c : Bool) → bytes_eq x y ≡ c → (if c then farther at (part g t path) else member_part g (at + words g t) ms x path) ≡ Some (m, Simple b low high start)
          → ((k : ℕ) → part g t path ≡ Some (k, Simple b low high start) → IsIn (path, Ordinal start) (leaves t))
          → (member_part g (at + words g t) ms x path ≡ Some (m, Simple b low high start) → IsIn (ByName x ∷ path, Ordinal start) (leaves_of_members ms))
          → IsIn (ByName x ∷ path, Ordinal start) (map (below_step (ByName y)) (leaves t) ++ leaves_of_members ms)
      by true is e here later =
          let k = found_farther at (part g t path) m (Simple b low high start) e in
          in_first (ByName x ∷ path, Ordinal start) (map (below_step (ByName y)) (leaves t)) (leaves_of_members ms)
          (subst (λ z. IsIn (ByName z ∷ path, Ordinal start) (map (below_step (ByName y)) (leaves t))) (sym (bytes_same x y is))
          (in_mapped (below_step (ByName y)) (path, Ordinal start) (leaves t) (here k.0 k.1)))
      by false is e here later = in_second (ByName x ∷ path, Ordinal start) (map (below_step (ByName y)) (leaves t)) (leaves_of_members ms) (later e)

-- ---- what the writes leave

abbrev place_in : Owner → Name → Path → Location
place_in o x path = under (root o) (ByName x ∷ path)

abbrev writes_at : Owner → Name × Variable → Writes
writes_at o v = map (λ leaf. (under (root o) (ByName v.0 ∷ leaf.0), leaf.1)) (leaves v.1.type)

-- A location that isn't written keeps its value.
pub not_written : (ws : Writes) (st : Store) (l : Location) → ((v : Value) → IsIn (l, v) ws → ⊥) → put_all ws st l ≡ st l
not_written [] st l none = refl
not_written (w ∷ ws) st l none = not_written ws (put w.0 w.1 st) l (λ v h. none v (inr h)) ∙ by (same_location w.0 l) refl
  where
    by : (b : Bool) → same_location w.0 l ≡ b → (if b then w.1 else st l) ≡ st l
    by true e = absurd (none w.1 (inl (ap (λ k. (k, w.1)) (sym (location_is w.0 l e)))))
    by false e = refl

abbrev pub first_name : Path → Name
first_name (ByName x ∷ path) = x
first_name _ = []

abbrev rest_of : Path → Path
rest_of [] = []
rest_of (s ∷ path) = path

-- What is written at a part of a variable is one of its leaves.
of_writes : (o : Owner) (x : Name) (path : Path) (w : Value) (vs : List (Name × Variable)) → IsIn (place_in o x path, w) (starting_writes (root o) vs)
    → (v : Name × Variable) × IsIn v vs × (x ≡ v.0) × IsIn (path, w) (leaves v.1.type)
of_writes o x path w vs h =
    let a = of_flat (writes_at o) (place_in o x path, w) vs h in
    let b = of_mapped (λ (leaf : Leaf). (under (root o) (ByName a.0.0 ∷ leaf.0), leaf.1)) (place_in o x path, w) (leaves a.0.1.type) a.2 in (
      a.0,
      a.1,
      ap (λ z. first_name z.0.path) b.2,
      subst (λ z. IsIn z (leaves a.0.1.type)) (λ i. (rest_of (sym b.2 i).0.path, (sym b.2 i).1)) b.1,
    )

-- A name that isn't one of them keeps its value.
pub starts_keep : (o : Owner) (x : Name) (path : Path) (vs : List (Name × Variable)) (st : Store) → Distinct vs → lookup x vs ≡ None
    → put_all (starting_writes (root o) vs) st (place_in o x path) ≡ st (place_in o x path)
starts_keep o x path vs st distinct none =
    not_written (starting_writes (root o) vs) st (place_in o x path) (λ w h.
    let k = of_writes o x path w vs h in
    some_is_not_none k.0.1 (sym (found_in vs k.0.0 k.0.1 distinct k.1) ∙ (ap (λ z. lookup z vs) (sym k.2) ∙ none)))

-- A simple part has its start value.
pub starts_write : (g : GlobalScope) (o : Owner) (x : Name) (v : Variable) (path : Path) (vs : List (Name × Variable)) (st : Store) (m : ℕ) (b : BaseType) (low high start : ℤ)
    → Distinct vs → IsIn (x, v) vs → SoundType v.type → part g v.type path ≡ Some (m, Simple b low high start)
    → put_all (starting_writes (root o) vs) st (place_in o x path) ≡ Ordinal start
starts_write g o x v path vs st m b low high start distinct there sound e =
    written (starting_writes (root o) vs) st (place_in o x path) (Ordinal start) one
    (in_flat (writes_at o) (x, v) (place_in o x path, Ordinal start) vs there
    (in_mapped (λ (leaf : Leaf). (under (root o) (ByName x ∷ leaf.0), leaf.1)) (path, Ordinal start) (leaves v.type) leaf))
  where
    leaf : IsIn (path, Ordinal start) (leaves v.type)
    leaf = part_is_leaf g v.type path m b low high start sound e

    one : (w : Value) → IsIn (place_in o x path, w) (starting_writes (root o) vs) → w ≡ Ordinal start
    one w h =
        let k = of_writes o x path w vs h in
        let same : k.0.1 ≡ v = same_some k.0.1 v (sym (found_in vs k.0.0 k.0.1 distinct k.1) ∙ (ap (λ z. lookup z vs) (sym k.2) ∙ found_in vs x v distinct there)) in
        sound_functional v.type sound path w (Ordinal start) (subst (λ (z : Variable). IsIn (path, w) (leaves z.type)) same k.3) leaf
