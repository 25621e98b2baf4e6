-- Two cells of a variable never share a word.
use Rattle.std.proofs.Common.{◌≡◌, ℕ, suc, ◌+◌, ◌-◌, ◌*◌, ◌≤◌, ◌<◌, ℤ, [], ◌∷◌, Bool, true, false, Option, Some, None, refl, ap, sym, subst, ◌∙◌, arith}
use Rattle.std.specs.Prelude.{◌&&◌, if◌then◌else◌, int_le, nat_lt}
use Rattle.std.proofs.lemmas.Bool.{true≢false}
use Rattle.std.proofs.lemmas.Int.{ints}
use Rattle.cp_model.specs.Abstract.{Class, Name, Sort}
use Rattle.cp_model.specs.Locations.{ByIndex, ByName, Path}
use Rattle.std.specs.Str.{bytes_eq}
use Rattle.cp_model.specs.Places.{within}
use Rattle.cp_model.specs.Types.{ArrayOf, ComponentOf, GlobalScope, Members, MoreMembers, NoMembers, NoType, Queue, RecordOf, ResolvedType, Simple}
use Rattle.cp_model.proofs.Options.{same_some}
use Rattle.cp_law_typing.specs.Words as class_words
use Rattle.cp_law_typing.specs.Words.{rights_in, words, words_of_members}
use Rattle.cp_model_program.specs.Layout.{Part, distance, farther, head_words, member_part, of_class, part}
use Rattle.cp_model_machine.proofs.Finding.{some_is_not_none}
use Rattle.cp_model_machine.proofs.Layouts.{farther_some}
use Rattle.cp_model_machine.proofs.Bounds.{part_fits}
use Rattle.cp_law_typing.proofs.Names.{bytes_same}

abbrev pub IsClass : Sort → Type 0
IsClass Class = Unit {0}
IsClass _ = ⊥

-- A type whose variables are one word that holds a value.
abbrev pub IsCell : ResolvedType → Type 0
IsCell (Simple b low high start) = Unit {0}
IsCell Queue = Unit {0}
IsCell (ComponentOf s inner) = IsClass s.sort
IsCell _ = ⊥

-- Word `i` of a part is one of its first words that hold values or rights: the word of a simple
-- value or queue, or the mark or a right of a class.
abbrev pub InHead : GlobalScope → ResolvedType → ℕ → Type 0
InHead g (Simple b low high start) i = i ≡ 0
InHead g Queue i = i ≡ 0
InHead g (ComponentOf s inner) i = IsClass s.sort × (i < head_words g s)
InHead g _ i = ⊥

pub cell_head : (g : GlobalScope) (u : ResolvedType) → IsCell u → InHead g u 0
cell_head g (Simple b low high start) h = refl
cell_head g Queue h = refl
cell_head g (ComponentOf s inner) h = (h, omega arith)
cell_head g (ArrayOf low high t) h = absurd h
cell_head g (RecordOf ms) h = absurd h
cell_head g NoType h = absurd h

pub head_inside : (g : GlobalScope) (u : ResolvedType) (i : ℕ) → InHead g u i → i < words g u
head_inside g (Simple b low high start) i h = omega (arith, h)
head_inside g Queue i h = omega (arith, h)
head_inside g (ComponentOf s inner) i h = by s.sort h.0
  where
    by : (z : Sort) → IsClass z → i < class_words.component_words z (1 + rights_in g s + words_of_members g inner)
    by Class k = omega (arith, h.1)
    by _ k = absurd k
head_inside g (ArrayOf low high t) i h = absurd h
head_inside g (RecordOf ms) i h = absurd h
head_inside g NoType i h = absurd h

pub cell_has_word : (g : GlobalScope) (u : ResolvedType) → IsCell u → 1 ≤ words g u
cell_has_word g (Simple b low high start) h = omega arith
cell_has_word g Queue h = omega arith
cell_has_word g (ComponentOf s inner) h = by s.sort h
  where
    by : (z : Sort) → IsClass z → 1 ≤ class_words.component_words z (1 + rights_in g s + words_of_members g inner)
    by Class h = omega arith
    by _ h = absurd h
cell_has_word g (ArrayOf low high t) h = absurd h
cell_has_word g (RecordOf ms) h = absurd h
cell_has_word g NoType h = absurd h

-- Members are at or after the place where the first one begins.
pub member_above : (g : GlobalScope) (at : ℕ) (ms : Members) (x : Name) (p : Path) (n : ℕ) (u : ResolvedType) → member_part g at ms x p ≡ Some (n, u) → at ≤ n
member_above g at NoMembers x p n u h = absurd (some_is_not_none (n, u) (sym h))
member_above g at (MoreMembers y t ms) x p n u h = by (bytes_eq x y) h (member_above g (at + words g t) ms x p n u)
  where
    by : (b : Bool) → (if b then farther at (part g t p) else member_part g (at + words g t) ms x p) ≡ Some (n, u)
        → (member_part g (at + words g t) ms x p ≡ Some (n, u) → at + words g t ≤ n) → at ≤ n
    by true h go = let f = farther_some at (part g t p) n u h in omega (arith, f.2)
    by false h go = omega (arith, go h)

lower_row : (d c s a b : ℕ) → a < s → d < c → (d * s + a ≡ c * s + b) → ⊥
lower_row d c s a b p q h =
    let e : ℕ = c - suc d in
    let is : c ≡ suc d + e = omega (arith, q) in
    absurd (omega (arith, p, subst (λ z. d * s + a ≡ z * s + b) is h))

same_row : (d c s a b : ℕ) → a < s → b < s → (d * s + a ≡ c * s + b) → (d ≡ c) × (a ≡ b)
same_row d c s a b p q h = by (nat_lt d c) (nat_lt c d) refl refl
  where
    by : (x y : Bool) → nat_lt d c ≡ x → nat_lt c d ≡ y → (d ≡ c) × (a ≡ b)
    by true y e f = absurd (lower_row d c s a b p (Prim.grind (arith, e)) h)
    by false true e f = absurd (lower_row c d s b a q (Prim.grind (arith, f)) (sym h))
    by false false e f =
        let same : d ≡ c = Prim.grind (arith, e, f) in
        (same, omega (arith, subst (λ z. z * s + a ≡ c * s + b) same h))

index_same : (low high i j : ℤ) → within low high i ≡ true → within low high j ≡ true → distance low i ≡ distance low j → i ≡ j
index_same low high i j h k e = by (int_le low i) (int_le low j) refl refl h k
  where
    by : (x y : Bool) → int_le low i ≡ x → int_le low j ≡ y → (x && int_le i high) ≡ true → (y && int_le j high) ≡ true → i ≡ j
    by true true p q h k = Prim.grind (arith, ints, p, q, e)
    by false y p q h k = absurd (true≢false (sym h))
    by true false p q h k = absurd (true≢false (sym k))

abbrev pub AreApart : (Path → Option Part) → GlobalScope → Type 0
AreApart look g = (p q : Path) (n m : ℕ) (u w : ResolvedType) (a z : ℕ) → look p ≡ Some (n, u) → look q ≡ Some (m, w) → InHead g u a → InHead g w z → n + a ≡ m + z → p ≡ q

whole_cell : (t u : ResolvedType) (n : ℕ) → ◌≡◌ {A = Option Part} (Some (0, t)) (Some (n, u)) → (n ≡ 0) × (t ≡ u)
whole_cell t u n h =
    let e : ◌≡◌ {A = Part} (0, t) (n, u) = same_some (0, t) (n, u) h in
    (sym (ap (λ y. y.0) e), ap (λ y. y.1) e)

mutual
  pub part_apart : (g : GlobalScope) (t : ResolvedType) → AreApart (part g t) g
  part_apart g (Simple b low high start) [] [] n m u w a z h k c d e = refl
  part_apart g Queue [] [] n m u w a z h k c d e = refl
  part_apart g NoType [] [] n m u w a z h k c d e = refl
  part_apart g (ComponentOf s inner) [] [] n m u w a z h k c d e = refl
  part_apart g (ArrayOf low high t) [] q n m u w a z h k c d e = absurd (subst (λ y. InHead g y a) (sym (whole_cell (ArrayOf low high t) u n h).1) c)
  part_apart g (RecordOf ms) [] q n m u w a z h k c d e = absurd (subst (λ y. InHead g y a) (sym (whole_cell (RecordOf ms) u n h).1) c)
  part_apart g (ArrayOf low high t) (ByIndex i ∷ p) [] n m u w a z h k c d e = absurd (subst (λ y. InHead g y z) (sym (whole_cell (ArrayOf low high t) w m k).1) d)
  part_apart g (RecordOf ms) (ByName x ∷ p) [] n m u w a z h k c d e = absurd (subst (λ y. InHead g y z) (sym (whole_cell (RecordOf ms) w m k).1) d)
  part_apart g (ArrayOf low high t) (ByIndex i ∷ p) (ByIndex j ∷ q) n m u w a z h k c d e =
      by (within low high i) (within low high j) refl refl h k (part_apart g t p q)
    where
      by : (x y : Bool) → within low high i ≡ x → within low high j ≡ y
          → (if x then farther (distance low i * words g t) (part g t p) else None) ≡ Some (n, u)
          → (if y then farther (distance low j * words g t) (part g t q) else None) ≡ Some (m, w)
          → ((n m : ℕ) (u w : ResolvedType) (a z : ℕ) → part g t p ≡ Some (n, u) → part g t q ≡ Some (m, w) → InHead g u a → InHead g w z → n + a ≡ m + z → p ≡ q)
          → (ByIndex i ∷ p) ≡ (ByIndex j ∷ q)
      by true true r1 r2 h k go =
          let f = farther_some (distance low i * words g t) (part g t p) n u h in
          let l = farther_some (distance low j * words g t) (part g t q) m w k in
          let inside1 : f.0 + a < words g t = omega (arith, part_fits g t p f.0 u f.1, head_inside g u a c) in
          let inside2 : l.0 + z < words g t = omega (arith, part_fits g t q l.0 w l.1, head_inside g w z d) in
          let same = same_row (distance low i) (distance low j) (words g t) (f.0 + a) (l.0 + z) inside1 inside2 (omega (arith, f.2, e, l.2)) in
          λ y. ByIndex (index_same low high i j r1 r2 same.0 y) ∷ go f.0 l.0 u w a z f.1 l.1 c d same.1 y
      by false y r1 r2 h k go = absurd (some_is_not_none (n, u) (sym h))
      by true false r1 r2 h k go = absurd (some_is_not_none (m, w) (sym k))
  part_apart g (RecordOf ms) (ByName x ∷ p) (ByName y ∷ q) n m u w a z h k c d e = member_apart g 0 ms x y p q n m u w a z h k c d e
  part_apart g (ComponentOf s inner) (ByName x ∷ p) (ByName y ∷ q) n m u w a z h k c d e = by s.sort h k (member_apart g (head_words g s) inner x y p q n m u w a z)
    where
      by : (r : Sort) → of_class r (member_part g (head_words g s) inner x p) ≡ Some (n, u) → of_class r (member_part g (head_words g s) inner y q) ≡ Some (m, w)
          → (member_part g (head_words g s) inner x p ≡ Some (n, u) → member_part g (head_words g s) inner y q ≡ Some (m, w) → InHead g u a → InHead g w z → n + a ≡ m + z → (ByName x ∷ p) ≡ (ByName y ∷ q))
          → (ByName x ∷ p) ≡ (ByName y ∷ q)
      by Class h k go = go h k c d e
      by _ h k go = absurd (some_is_not_none (n, u) (sym h))
  part_apart g (ComponentOf s inner) [] (ByName y ∷ q) n m u w a z h k c d e = by s.sort k
    where
      by : (r : Sort) → of_class r (member_part g (head_words g s) inner y q) ≡ Some (m, w) → [] ≡ (ByName y ∷ q)
      by Class k = absurd (omega (arith, member_above g (head_words g s) inner y q m w k, (whole_cell (ComponentOf s inner) u n h).0, (subst (λ y. InHead g y a) (sym (whole_cell (ComponentOf s inner) u n h).1) c).1, e))
      by _ k = absurd (some_is_not_none (m, w) (sym k))
  part_apart g (ComponentOf s inner) (ByName x ∷ p) [] n m u w a z h k c d e = by s.sort h
    where
      by : (r : Sort) → of_class r (member_part g (head_words g s) inner x p) ≡ Some (n, u) → (ByName x ∷ p) ≡ []
      by Class h = absurd (omega (arith, member_above g (head_words g s) inner x p n u h, (whole_cell (ComponentOf s inner) w m k).0, (subst (λ y. InHead g y z) (sym (whole_cell (ComponentOf s inner) w m k).1) d).1, e))
      by _ h = absurd (some_is_not_none (n, u) (sym h))
  part_apart g (Simple b low high start) (s ∷ p) q n m u w a z h k c d e = absurd (some_is_not_none (n, u) (sym h))
  part_apart g (Simple b low high start) [] (s ∷ q) n m u w a z h k c d e = absurd (some_is_not_none (m, w) (sym k))
  part_apart g Queue (s ∷ p) q n m u w a z h k c d e = absurd (some_is_not_none (n, u) (sym h))
  part_apart g Queue [] (s ∷ q) n m u w a z h k c d e = absurd (some_is_not_none (m, w) (sym k))
  part_apart g NoType (s ∷ p) q n m u w a z h k c d e = absurd (some_is_not_none (n, u) (sym h))
  part_apart g NoType [] (s ∷ q) n m u w a z h k c d e = absurd (some_is_not_none (m, w) (sym k))
  part_apart g (ArrayOf low high t) (ByName x ∷ p) q n m u w a z h k c d e = absurd (some_is_not_none (n, u) (sym h))
  part_apart g (ArrayOf low high t) (ByIndex i ∷ p) (ByName x ∷ q) n m u w a z h k c d e = absurd (some_is_not_none (m, w) (sym k))
  part_apart g (RecordOf ms) (ByIndex i ∷ p) q n m u w a z h k c d e = absurd (some_is_not_none (n, u) (sym h))
  part_apart g (RecordOf ms) (ByName x ∷ p) (ByIndex i ∷ q) n m u w a z h k c d e = absurd (some_is_not_none (m, w) (sym k))
  part_apart g (ComponentOf s inner) (ByIndex i ∷ p) q n m u w a z h k c d e = absurd (some_is_not_none (n, u) (sym h))
  part_apart g (ComponentOf s inner) (ByName x ∷ p) (ByIndex i ∷ q) n m u w a z h k c d e = absurd (some_is_not_none (m, w) (sym k))
  part_apart g (ComponentOf s inner) [] (ByIndex i ∷ q) n m u w a z h k c d e = absurd (some_is_not_none (m, w) (sym k))

  pub member_apart : (g : GlobalScope) (at : ℕ) (ms : Members) (x y : Name) (p q : Path) (n m : ℕ) (u w : ResolvedType) (a z : ℕ)
      → member_part g at ms x p ≡ Some (n, u) → member_part g at ms y q ≡ Some (m, w) → InHead g u a → InHead g w z → n + a ≡ m + z → (ByName x ∷ p) ≡ (ByName y ∷ q)
  member_apart g at NoMembers x y p q n m u w a z h k c d e = absurd (some_is_not_none (n, u) (sym h))
  member_apart g at (MoreMembers v t ms) x y p q n m u w a z h k c d e =
      by (bytes_eq x v) (bytes_eq y v) refl refl h k (part_apart g t p q) (member_apart g (at + words g t) ms x y p q n m u w a z)
    where
      by : (r1 r2 : Bool) → bytes_eq x v ≡ r1 → bytes_eq y v ≡ r2
          → (if r1 then farther at (part g t p) else member_part g (at + words g t) ms x p) ≡ Some (n, u)
          → (if r2 then farther at (part g t q) else member_part g (at + words g t) ms y q) ≡ Some (m, w)
          → ((n m : ℕ) (u w : ResolvedType) (a z : ℕ) → part g t p ≡ Some (n, u) → part g t q ≡ Some (m, w) → InHead g u a → InHead g w z → n + a ≡ m + z → p ≡ q)
          → (member_part g (at + words g t) ms x p ≡ Some (n, u) → member_part g (at + words g t) ms y q ≡ Some (m, w) → InHead g u a → InHead g w z → n + a ≡ m + z → (ByName x ∷ p) ≡ (ByName y ∷ q))
          → (ByName x ∷ p) ≡ (ByName y ∷ q)
      by true true r1 r2 h k first more =
          let f = farther_some at (part g t p) n u h in
          let l = farther_some at (part g t q) m w k in
          let names = bytes_same x v r1 ∙ sym (bytes_same y v r2) in
          let paths = first f.0 l.0 u w a z f.1 l.1 c d (omega (arith, f.2, l.2, e)) in
          λ i. ByName (names i) ∷ paths i
      by true false r1 r2 h k first more =
          let f = farther_some at (part g t p) n u h in
          absurd (omega (arith, f.2, part_fits g t p f.0 u f.1, head_inside g u a c, member_above g (at + words g t) ms y q m w k, e))
      by false true r1 r2 h k first more =
          let l = farther_some at (part g t q) m w k in
          absurd (omega (arith, l.2, part_fits g t q l.0 w l.1, head_inside g w z d, member_above g (at + words g t) ms x p n u h, e))
      by false false r1 r2 h k first more = more h k c d e
