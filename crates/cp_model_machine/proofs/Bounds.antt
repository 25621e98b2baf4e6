-- Parts are inside the words of their variable.
use Rattle.std.proofs.Common.{◌≡◌, ℕ, suc, ◌+◌, ◌-◌, ◌*◌, ◌≤◌, ◌<◌, ℤ, pos, negsuc, [], ◌∷◌, Bool, true, false, Option, Some, None, refl, ap, sym, subst, arith}
use Rattle.std.specs.Prelude.{if◌then◌else◌}
use Rattle.std.proofs.lemmas.Int.{ints}
use Rattle.cp_model.specs.Abstract.{Class, Name, Sort}
use Rattle.cp_model.specs.Integers.{count_between}
use Rattle.cp_model.specs.Locations.{ByIndex, ByName, Path}
use Rattle.std.specs.Str.{bytes_eq}
use Rattle.cp_model.specs.Places.{within}
use Rattle.cp_model.specs.Types.{ArrayOf, ComponentOf, GlobalScope, Members, MoreMembers, NoMembers, NoType, Queue, RecordOf, ResolvedType, Simple}
use Rattle.cp_model.proofs.Options.{same_some}
use Rattle.cp_law_typing.specs.Words as class_words
use Rattle.cp_law_typing.specs.Words.{rights_in, words, words_of_members}
use Rattle.cp_model_program.specs.Layout.{Part, distance, farther, head_words, member_part, of_class, part}
use Rattle.cp_model_machine.proofs.Finding.{some_is_not_none}
use Rattle.cp_model_machine.proofs.Layouts.{farther_some}

abbrev pub FitsIn : (Path → Option Part) → GlobalScope → ℕ → Type 0
FitsIn look g bound = (p : Path) (n : ℕ) (u : ResolvedType) → look p ≡ Some (n, u) → n + words g u ≤ bound

-- The distance of an index within the bounds is less than their number.
pub index_below : (low high i : ℤ) → within low high i ≡ true → distance low i < count_between low high
index_below (pos a) (pos b) (pos c) h = Prim.grind (arith, ints, h)
index_below (pos a) (pos b) (negsuc c) h = Prim.grind (arith, ints, h)
index_below (pos a) (negsuc b) (pos c) h = Prim.grind (arith, ints, h)
index_below (pos a) (negsuc b) (negsuc c) h = Prim.grind (arith, ints, h)
index_below (negsuc a) (pos b) (pos c) h = Prim.grind (arith, ints, h)
index_below (negsuc a) (pos b) (negsuc c) h = Prim.grind (arith, ints, h)
index_below (negsuc a) (negsuc b) (pos c) h = Prim.grind (arith, ints, h)
index_below (negsuc a) (negsuc b) (negsuc c) h = Prim.grind (arith, ints, h)

element_inside : (d c s m k : ℕ) → d < c → m + k ≤ s → (d * s + m) + k ≤ c * s
element_inside d c s m k h q =
    let e : ℕ = c - suc d in
    let is : c ≡ suc d + e = omega (arith, h) in
    subst (λ z. (d * s + m) + k ≤ z * s) (sym is) (omega (arith, q))

whole_fits : (g : GlobalScope) (t : ResolvedType) (n : ℕ) (u : ResolvedType) → ◌≡◌ {A = Option Part} (Some (0, t)) (Some (n, u)) → n + words g u ≤ words g t
whole_fits g t n u h =
    let e : ◌≡◌ {A = Part} (0, t) (n, u) = same_some (0, t) (n, u) h in
    let zero_is : 0 ≡ n = ap (λ y. y.0) e in
    let same : words g t ≡ words g u = ap (λ y. words g y.1) e in
    omega (arith, zero_is, same)

mutual
  pub part_fits : (g : GlobalScope) (t : ResolvedType) → FitsIn (part g t) g (words g t)
  part_fits g (Simple b low high start) [] n u h = whole_fits g (Simple b low high start) n u h
  part_fits g (ArrayOf low high t) [] n u h = whole_fits g (ArrayOf low high t) n u h
  part_fits g (RecordOf ms) [] n u h = whole_fits g (RecordOf ms) n u h
  part_fits g Queue [] n u h = whole_fits g Queue n u h
  part_fits g (ComponentOf s inner) [] n u h = whole_fits g (ComponentOf s inner) n u h
  part_fits g NoType [] n u h = whole_fits g NoType n u h
  part_fits g (ArrayOf low high t) (ByIndex i ∷ p) n u h = by (within low high i) refl h (part_fits g t p)
    where
      by : (b : Bool) → within low high i ≡ b → (if b then farther (distance low i * words g t) (part g t p) else None) ≡ Some (n, u)
          → ((m : ℕ) (w : ResolvedType) → part g t p ≡ Some (m, w) → m + words g w ≤ words g t) → n + words g u ≤ count_between low high * words g t
      by true e h go =
          let f = farther_some (distance low i * words g t) (part g t p) n u h in
          subst (λ z. z + words g u ≤ count_between low high * words g t) (sym f.2)
          (element_inside (distance low i) (count_between low high) (words g t) f.0 (words g u) (index_below low high i e) (go f.0 u f.1))
      by false e h go = absurd (some_is_not_none (n, u) (sym h))
  part_fits g (RecordOf ms) (ByName x ∷ p) n u h = omega (arith, member_fits g 0 ms x p n u h)
  part_fits g (ComponentOf s inner) (ByName x ∷ p) n u h = by s.sort h (member_fits g (head_words g s) inner x p n u)
    where
      by : (z : Sort) → of_class z (member_part g (head_words g s) inner x p) ≡ Some (n, u)
          → (member_part g (head_words g s) inner x p ≡ Some (n, u) → n + words g u ≤ head_words g s + words_of_members g inner)
          → n + words g u ≤ class_words.component_words z (1 + rights_in g s + words_of_members g inner)
      by Class h go = omega (arith, go h)
      by _ h go = absurd (some_is_not_none (n, u) (sym h))
  part_fits g (Simple b low high start) (s ∷ p) n u h = absurd (some_is_not_none (n, u) (sym h))
  part_fits g Queue (s ∷ p) n u h = absurd (some_is_not_none (n, u) (sym h))
  part_fits g NoType (s ∷ p) n u h = absurd (some_is_not_none (n, u) (sym h))
  part_fits g (ArrayOf low high t) (ByName x ∷ p) n u h = absurd (some_is_not_none (n, u) (sym h))
  part_fits g (RecordOf ms) (ByIndex i ∷ p) n u h = absurd (some_is_not_none (n, u) (sym h))
  part_fits g (ComponentOf s inner) (ByIndex i ∷ p) n u h = absurd (some_is_not_none (n, u) (sym h))

  pub member_fits : (g : GlobalScope) (at : ℕ) (ms : Members) (x : Name) → FitsIn (member_part g at ms x) g (at + words_of_members g ms)
  member_fits g at NoMembers x p n u h = absurd (some_is_not_none (n, u) (sym h))
  member_fits g at (MoreMembers y t ms) x p n u h = by (bytes_eq x y) h (part_fits g t p) (member_fits g (at + words g t) ms x p n u)
    where
      by : (b : Bool) → (if b then farther at (part g t p) else member_part g (at + words g t) ms x p) ≡ Some (n, u)
          → ((m : ℕ) (w : ResolvedType) → part g t p ≡ Some (m, w) → m + words g w ≤ words g t)
          → (member_part g (at + words g t) ms x p ≡ Some (n, u) → n + words g u ≤ (at + words g t) + words_of_members g ms)
          → n + words g u ≤ at + (words g t + words_of_members g ms)
      by true h first more =
          let f = farther_some at (part g t p) n u h in
          omega (arith, f.2, first f.0 u f.1)
      by false h first more = omega (arith, more h)
