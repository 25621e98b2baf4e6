-- If the layout has a part, its start values are among those of the whole.
use Rattle.std.proofs.Common.{◌≡◌, ◌≤◌, ◌<◌, ℕ, zero, suc, ◌+◌, ◌*◌, ◌-◌, ℤ, pos, negsuc, List, [], ◌∷◌, ◌++◌, Option, Some, None, refl, ap, sym, subst, ◌∙◌, Bool, true, false, if◌then◌else◌, length, arith}
use Prim.{grind}
use Rattle.std.specs.Prelude.{replicate, slice_index_or}
use Rattle.std.proofs.lemmas.List.{get_or-append-add, get_or_append_left, length-replicate}
use Rattle.std.specs.Str.{bytes_eq}
use Rattle.cp_model.specs.Abstract.{Class, Monitor, Name, Process, Sort, System}
use Rattle.cp_model.specs.Types.{ArrayOf, ComponentOf, GlobalScope, Members, MoreMembers, NoMembers, NoType, Queue, RecordOf, ResolvedType, Simple}
use Rattle.cp_model.specs.Integers.{count_between}
use Rattle.cp_law_typing.specs.Words.{component_words, rights_in, words, words_of_members}
use Rattle.cp_model.specs.Locations.{ByIndex, ByName, Path}
use Rattle.cp_model.specs.Places.{within}
pub use Rattle.cp_model_program.specs.Known.{Plannable, PlannableMembers}
use Rattle.cp_model_program.specs.Layout.{Part, distance, farther, head_words, member_part, of_class, part}
use Rattle.cp_model_program.proofs.Found.{part_whole}
use Rattle.cp_model_program.proofs.Pasting.{copies}
use Rattle.cp_model_program.proofs.PlansWrite.{image, image_length, image_of_class, images}

-- ---- Parts

pub part_behind : (xs ys : List ℤ) (n k : ℕ) → length xs ≡ n → slice_index_or (xs ++ ys) (n + k) (pos 0) ≡ slice_index_or ys k (pos 0)
part_behind xs ys n k h = ap (λ z. slice_index_or (xs ++ ys) (z + k) (pos 0)) (sym h) ∙ get_or-append-add xs ys k (pos 0)

copy_at : (c i k size : ℕ) (xs : List ℤ) → length xs ≡ size → i < c → k < size → slice_index_or (copies c xs) (i * size + k) (pos 0) ≡ slice_index_or xs k (pos 0)
copy_at zero i k size xs is less inside = absurd (omega (arith, less))
copy_at (suc c) zero k size xs is less inside =
    ap (λ n. slice_index_or (copies (suc c) xs) n (pos 0)) (first size k) ∙ get_or_append_left xs (copies c xs) (pos 0) k (omega (arith, is, inside))
  where
    first : (a b : ℕ) → 0 * a + b ≡ b
    first a b = omega arith
copy_at (suc c) (suc i) k size xs is less inside =
    ap (λ n. slice_index_or (copies (suc c) xs) n (pos 0)) (one_more i size k)
    ∙ part_behind xs (copies c xs) size (i * size + k) is ∙ copy_at c i k size xs is (omega (arith, less)) inside
  where
    one_more : (a b d : ℕ) → suc a * b + d ≡ b + (a * b + d)
    one_more a b d = omega arith

index_within : (low high i : ℤ) → within low high i ≡ true → distance low i < count_between low high
index_within (pos a) (pos b) (pos i) h = grind (arith, h)
index_within (pos a) (pos b) (negsuc i) h = absurd (cc)
index_within (pos a) (negsuc b) (pos i) h = grind (arith, h)
index_within (pos a) (negsuc b) (negsuc i) h = absurd (cc)
index_within (negsuc a) (pos b) (pos i) h = grind (arith, h)
index_within (negsuc a) (pos b) (negsuc i) h = grind (arith, h)
index_within (negsuc a) (negsuc b) (pos i) h = grind (arith, h)
index_within (negsuc a) (negsuc b) (negsuc i) h = grind (arith, h)

-- A part has its own start values, and is within the whole.
pub record PartOf (g : GlobalScope) (xs : List ℤ) (size m : ℕ) (u : ResolvedType) : Type 0 where
  pub inside : m + words g u ≤ size
  pub values : (k : ℕ) → k < words g u → slice_index_or xs (m + k) (pos 0) ≡ slice_index_or (image g u) k (pos 0)

abbrev pub PartsStart : GlobalScope → ResolvedType → Path → Type 0
PartsStart g t path = (m : ℕ) (u : ResolvedType) → part g t path ≡ Some (m, u) → PartOf g (image g t) (words g t) m u

some_part : (n : ℕ) (o : Option Part) (m : ℕ) (u : ResolvedType) → farther n o ≡ Some (m, u) → (k : ℕ) × (o ≡ Some (k, u)) × (m ≡ n + k)
some_part n None m u h = absurd (cc)
some_part n (Some q) m u h = (q.0, ap (λ z. Some (q.0, z)) (ap type_in h), sym (ap place_in h))
  where
    type_in : Option Part → ResolvedType
    type_in None = q.1
    type_in (Some z) = z.1

    place_in : Option Part → ℕ
    place_in None = 0
    place_in (Some z) = z.0

abbrev or_part : Part → Option Part → Part
or_part p None = p
or_part p (Some q) = q

whole_part : (g : GlobalScope) (t : ResolvedType) → PartsStart g t []
whole_part g t m u h =
    let all : Part = (0, t) in
    let found : Part = (m, u) in
    let same : all ≡ found = ap (or_part all) (sym (part_whole g t) ∙ h) in
    subst (λ z. PartOf g (image g t) (words g t) z.0 z.1) same
    (record { inside = omega arith; values = λ k less. ap (λ n. slice_index_or (image g t) n (pos 0)) (nothing_before k) })
  where
    nothing_before : (n : ℕ) → 0 + n ≡ n
    nothing_before n = omega arith

element_part : (g : GlobalScope) (low high i : ℤ) (t : ResolvedType) (path : Path) → PartsStart g t path → PartsStart g (ArrayOf low high t) (ByIndex i ∷ path)
element_part g low high i t path inner m u h = go (within low high i) refl h
  where
    go : (b : Bool) → within low high i ≡ b → (if b then farther (distance low i * words g t) (part g t path) else None) ≡ Some (m, u)
        → PartOf g (copies (count_between low high) (image g t)) (count_between low high * words g t) m u
    go false is h = absurd (cc)
    go true is h =
        let k = some_part (distance low i * words g t) (part g t path) m u h in
        let p = inner k.0 u k.1 in
        let near = index_within low high i is in
        record {
          inside = fits (distance low i) (count_between low high) (words g t) near k.0 (words g u) m k.2 p.inside;
          values = λ j less.
              ap (λ n. slice_index_or (copies (count_between low high) (image g t)) n (pos 0)) (place (distance low i * words g t) k.0 j m k.2)
              ∙ copy_at (count_between low high) (distance low i) (k.0 + j) (words g t) (image g t) (image_length g t) near (omega (arith, p.inside, less))
              ∙ p.values j less;
        }
      where
        place : (a b c d : ℕ) → d ≡ a + b → d + c ≡ a + (b + c)
        place a b c d e = omega (arith, e)

        fits : (i c size : ℕ) → i < c → (k n m : ℕ) → m ≡ i * size + k → k + n ≤ size → m + n ≤ c * size
        fits i c size less k n m is inside =
            let d = c - suc i in
            subst (λ z. m + n ≤ z * size) (rest i c less) (omega (arith, is, inside))
          where
            rest : (a b : ℕ) → a < b → suc a + (b - suc a) ≡ b
            rest a b h = omega (arith, h)

-- A member is after those before it.
abbrev pub MembersStart : GlobalScope → Members → Name → Path → Type 0
MembersStart g ms x path = (at m : ℕ) (u : ResolvedType) → member_part g at ms x path ≡ Some (m, u)
    → (k : ℕ) × (m ≡ at + k) × PartOf g (images g ms) (words_of_members g ms) k u

member_starts : (g : GlobalScope) (y : Name) (t : ResolvedType) (ms : Members) (x : Name) (path : Path) → PartsStart g t path → MembersStart g ms x path
    → MembersStart g (MoreMembers y t ms) x path
member_starts g y t ms x path inner others at m u h = go (bytes_eq x y) h
  where
    size : length (image g t) ≡ words g t
    size = image_length g t

    go : (b : Bool) → (if b then farther at (part g t path) else member_part g (at + words g t) ms x path) ≡ Some (m, u)
        → (k : ℕ) × (m ≡ at + k) × PartOf g (image g t ++ images g ms) (words g t + words_of_members g ms) k u
    go true h =
        let k = some_part at (part g t path) m u h in
        let p = inner k.0 u k.1 in (
          k.0,
          k.2,
          record {
            inside = omega (arith, p.inside);
            values = λ j less. get_or_append_left (image g t) (images g ms) (pos 0) (k.0 + j) (omega (arith, size, p.inside, less)) ∙ p.values j less;
          },
        )
    go false h =
        let k = others (at + words g t) m u h in (
          words g t + k.0,
          place at (words g t) k.0 m k.1,
          record {
            inside = omega (arith, k.2.inside);
            values = λ j less.
                ap (λ n. slice_index_or (image g t ++ images g ms) n (pos 0)) (apart (words g t) k.0 j)
                ∙ part_behind (image g t) (images g ms) (words g t) (k.0 + j) size ∙ k.2.values j less;
          },
        )
      where
        place : (a b c d : ℕ) → d ≡ a + b + c → d ≡ a + (b + c)
        place a b c d e = omega (arith, e)

        apart : (a b c : ℕ) → a + b + c ≡ a + (b + c)
        apart a b c = omega arith

class_part : (g : GlobalScope) (s : System) (inner : Members) (x : Name) (path : Path) → MembersStart g inner x path → PartsStart g (ComponentOf s inner) (ByName x ∷ path)
class_part g s inner x path members m u h = go s.sort h
  where
    zeros : List ℤ
    zeros = replicate (head_words g s) (pos 0)

    go : (sort : Sort) → of_class sort (member_part g (head_words g s) inner x path) ≡ Some (m, u)
        → PartOf g (image_of_class sort (zeros ++ images g inner)) (component_words sort (1 + rights_in g s + words_of_members g inner)) m u
    go Process h = absurd (cc)
    go Monitor h = absurd (cc)
    go Class h =
        let k = members (head_words g s) m u h in
        record {
          inside = omega (arith, k.1, k.2.inside);
          values = λ j less.
              ap (λ n. slice_index_or (zeros ++ images g inner) n (pos 0)) (place (head_words g s) k.0 j m k.1)
              ∙ part_behind zeros (images g inner) (head_words g s) (k.0 + j) (length-replicate (head_words g s) (pos 0)) ∙ k.2.values j less;
        }
      where
        place : (a b c d : ℕ) → d ≡ a + b → d + c ≡ a + (b + c)
        place a b c d e = omega (arith, e)

record_part : (g : GlobalScope) (ms : Members) (x : Name) (path : Path) → MembersStart g ms x path → PartsStart g (RecordOf ms) (ByName x ∷ path)
record_part g ms x path members m u h =
    let k = members 0 m u h in subst (λ n. PartOf g (images g ms) (words_of_members g ms) n u) (same k.0 m k.1) k.2
  where
    same : (a b : ℕ) → b ≡ 0 + a → a ≡ b
    same a b e = omega (arith, e)

mutual
  pub parts_start : (g : GlobalScope) (t : ResolvedType) (path : Path) → PartsStart g t path
  parts_start g (Simple b low high n) [] = whole_part g (Simple b low high n)
  parts_start g (ArrayOf low high t) [] = whole_part g (ArrayOf low high t)
  parts_start g (RecordOf ms) [] = whole_part g (RecordOf ms)
  parts_start g Queue [] = whole_part g Queue
  parts_start g (ComponentOf s inner) [] = whole_part g (ComponentOf s inner)
  parts_start g NoType [] = whole_part g NoType
  parts_start g (ArrayOf low high t) (ByIndex i ∷ path) = element_part g low high i t path (parts_start g t path)
  parts_start g (RecordOf ms) (ByName x ∷ path) = record_part g ms x path (members_start g ms x path)
  parts_start g (ComponentOf s inner) (ByName x ∷ path) = class_part g s inner x path (members_start g inner x path)
  parts_start g (Simple b low high n) (ByIndex i ∷ path) = λ m u h. absurd (cc)
  parts_start g (Simple b low high n) (ByName x ∷ path) = λ m u h. absurd (cc)
  parts_start g (ArrayOf low high t) (ByName x ∷ path) = λ m u h. absurd (cc)
  parts_start g (RecordOf ms) (ByIndex i ∷ path) = λ m u h. absurd (cc)
  parts_start g Queue (ByIndex i ∷ path) = λ m u h. absurd (cc)
  parts_start g Queue (ByName x ∷ path) = λ m u h. absurd (cc)
  parts_start g (ComponentOf s inner) (ByIndex i ∷ path) = λ m u h. absurd (cc)
  parts_start g NoType (ByIndex i ∷ path) = λ m u h. absurd (cc)
  parts_start g NoType (ByName x ∷ path) = λ m u h. absurd (cc)

  pub members_start : (g : GlobalScope) (ms : Members) (x : Name) (path : Path) → MembersStart g ms x path
  members_start g NoMembers x path = λ at m u h. absurd (cc)
  members_start g (MoreMembers y t ms) x path = member_starts g y t ms x path (parts_start g t path) (members_start g ms x path)
