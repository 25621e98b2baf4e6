-- A queue is found by the place of its word: one walk over the monitor's words finds its path and
-- no other.
use Rattle.std.proofs.Common.{◌≡◌, ◌⊎◌, inl, inr, ℕ, zero, suc, ◌+◌, ◌*◌, ◌<◌, ◌≤◌, ℤ, pos, negsuc, Bool, true, false, [], ◌∷◌, ◌++◌, Option, Some, None, refl, ap, sym, subst, ◌∙◌, arith}
use Rattle.std.specs.Prelude.{if◌then◌else◌, nat_eq, ◌-ℤ◌}
use Rattle.std.proofs.lemmas.Int.{ints}
use Rattle.std.specs.Str.{bytes_eq}
use Rattle.cp_model.specs.Abstract.{Class, Monitor, Name, Process, Sort, System}
use Rattle.cp_model.specs.Integers.{count_between}
use Rattle.cp_model.specs.Leaves.{integers_from}
use Rattle.cp_model.specs.Locations.{ByIndex, ByName, Path, PathStep}
use Rattle.cp_model.specs.Places.{within}
use Rattle.cp_model.specs.Report.{Text, path_text}
use Rattle.cp_model.specs.Types.{ArrayOf, ComponentOf, GlobalScope, Members, MoreMembers, NoMembers, NoType, Queue, RecordOf, ResolvedType, Simple}
use Rattle.cp_model.proofs.Options.{same_some}
use Rattle.cp_law_typing.specs.Words.{component_words, rights_in, words, words_of_members}
use Rattle.cp_law_typing.proofs.Names.{bytes_same}
use Rattle.cp_model_program.specs.Layout.{Part, distance, farther, head_words, member_part, of_class, part}
use Rattle.cp_model_machine.specs.Reports.{Visit, of_class_text, queue_visit, visit_elements, visit_members, visit_type}
use Rattle.cp_model_machine.proofs.Apart.{member_above}
use Rattle.cp_model_machine.proofs.Bounds.{part_fits, index_below}
use Rattle.cp_model_machine.proofs.Finding.{some_is_not_none}
use Rattle.cp_model_machine.proofs.Layouts.{farther_some}
use Rattle.cp_model_machine.proofs.StartLeaves.{type_is}
use Rattle.cp_model_machine.proofs.ReportLines.{append_none, join_append}

no_farther : (n : ℕ) → n + 0 ≡ n
no_farther n = omega arith

-- The next integer in a counted list.
abbrev following : ℤ → ℤ
following (pos a) = pos (suc a)
following (negsuc zero) = pos 0
following (negsuc (suc a)) = negsuc a

counted_on : (low : ℤ) (n : ℕ) → integers_from low (suc n) ≡ low ∷ integers_from (following low) n
counted_on (pos a) n = refl
counted_on (negsuc zero) n = refl
counted_on (negsuc (suc a)) n = refl

one_farther : (lo low : ℤ) (d : ℕ) → lo -ℤ low ≡ pos d → following lo -ℤ low ≡ pos (suc d)
one_farther (pos a) low d e = Prim.grind (arith, ints, e)
one_farther (negsuc zero) low d e = Prim.grind (arith, ints, e)
one_farther (negsuc (suc a)) low d e = Prim.grind (arith, ints, e)

abbrev IsQueue : ResolvedType → Type 0
IsQueue Queue = Unit {0}
IsQueue _ = ⊥

none_there : {A : Type 0} (n : ℕ) (t : ResolvedType) → ◌≡◌ {A = Option Part} None (Some (n, t)) → A
none_there n t e = absurd (some_is_not_none (n, t) (sym e))

from_itself : (low : ℤ) → low -ℤ low ≡ pos 0
from_itself low = Prim.grind (arith, ints)

how_far : (low high i : ℤ) → within low high i ≡ true → i -ℤ low ≡ pos (0 + distance low i)
how_far (pos a) (pos b) (pos c) h = Prim.grind (arith, ints, h)
how_far (pos a) (pos b) (negsuc c) h = Prim.grind (arith, ints, h)
how_far (pos a) (negsuc b) (pos c) h = Prim.grind (arith, ints, h)
how_far (pos a) (negsuc b) (negsuc c) h = Prim.grind (arith, ints, h)
how_far (negsuc a) (pos b) (pos c) h = Prim.grind (arith, ints, h)
how_far (negsuc a) (pos b) (negsuc c) h = Prim.grind (arith, ints, h)
how_far (negsuc a) (negsuc b) (pos c) h = Prim.grind (arith, ints, h)
how_far (negsuc a) (negsuc b) (negsuc c) h = Prim.grind (arith, ints, h)

join : (a b c : ℕ) → a + (b + c) ≡ a + b + c
join a b c = omega arith

module _ (g : GlobalScope) (target : ℕ) where
  abbrev V : Visit
  V = queue_visit target

  abbrev Beside : ℕ → ℕ → Type 0
  Beside at size = (target < at) ⊎ (at + size ≤ target)

  not_here : (at : ℕ) → Beside at 1 → nat_eq at target ≡ false
  not_here at (inl h) = Prim.grind (arith, h)
  not_here at (inr h) = Prim.grind (arith, h)

  nothing_more : (xs ys : Text) → xs ≡ [] → ys ≡ [] → xs ++ ys ≡ []
  nothing_more xs ys e f = (λ i. e i ++ ys) ∙ f

  -- ---- other parts give no path

  elements_beside : (n : ℕ) (lo : ℤ) (path : Path) (t : ResolvedType) (at : ℕ) → Beside at (n * words g t)
      → ((p : Path) (a : ℕ) → Beside a (words g t) → visit_type g V p a t ≡ [])
      → visit_elements (λ p a. visit_type g V p a t) (words g t) path at (integers_from lo n) ≡ []
  elements_beside zero lo path t at o none = refl
  elements_beside (suc n) lo path t at o none =
      ap (visit_elements (λ p a. visit_type g V p a t) (words g t) path at) (counted_on lo n)
      ∙ nothing_more _ _ (none (path ++ ByIndex lo ∷ []) at (first o)) (elements_beside n (following lo) path t (at + words g t) (rest o) none)
    where
      first : Beside at (suc n * words g t) → Beside at (words g t)
      first (inl h) = inl h
      first (inr h) = inr (Prim.grind (arith, h))

      rest : Beside at (suc n * words g t) → Beside (at + words g t) (n * words g t)
      rest (inl h) = inl (omega (arith, h))
      rest (inr h) = inr (Prim.grind (arith, h))

  -- Only for a class do the members are in the variable.
  class_beside : (at : ℕ) (s : System) (ms : Members) (x : Text) → Beside at (words g (ComponentOf s ms)) → (Beside (at + head_words g s) (words_of_members g ms) → x ≡ []) → of_class_text s.sort x ≡ []
  class_beside at s ms x o inner = by s.sort o
    where
      further : Beside at (1 + rights_in g s + words_of_members g ms) → Beside (at + head_words g s) (words_of_members g ms)
      further (inl h) = inl (omega (arith, h))
      further (inr h) = inr (omega (arith, h))

      by : (z : Sort) → Beside at (component_words z (1 + rights_in g s + words_of_members g ms)) → of_class_text z x ≡ []
      by Class o = inner (further o)
      by Monitor o = refl
      by Process o = refl

  first_beside : (at a b : ℕ) → Beside at (a + b) → Beside at a
  first_beside at a b (inl h) = inl h
  first_beside at a b (inr h) = inr (omega (arith, h))

  rest_beside : (at a b : ℕ) → Beside at (a + b) → Beside (at + a) b
  rest_beside at a b (inl h) = inl (omega (arith, h))
  rest_beside at a b (inr h) = inr (omega (arith, h))

  mutual
    type_beside : (path : Path) (at : ℕ) (t : ResolvedType) → Beside at (words g t) → visit_type g V path at t ≡ []
    type_beside path at (Simple b low high start) o = refl
    type_beside path at (ArrayOf low high t) o = elements_beside (count_between low high) low path t at o (λ p a h. type_beside p a t h)
    type_beside path at (RecordOf ms) o = members_beside path at ms o
    type_beside path at Queue o = ap (λ b. if b then path_text path else []) (not_here at o)
    type_beside path at (ComponentOf s ms) o = class_beside at s ms (visit_members g V path (at + head_words g s) ms) o (λ h. members_beside path (at + head_words g s) ms h)
    type_beside path at NoType o = refl

    pub members_beside : (path : Path) (at : ℕ) (ms : Members) → Beside at (words_of_members g ms) → visit_members g V path at ms ≡ []
    members_beside path at NoMembers o = refl
    members_beside path at (MoreMembers x t ms) o =
        nothing_more _ _ (type_beside (path ++ ByName x ∷ []) at t (first_beside at (words g t) (words_of_members g ms) o))
        (members_beside path (at + words g t) ms (rest_beside at (words g t) (words_of_members g ms) o))

  -- ---- the queue gives its path

  -- If one element contains the queue, no other element does.
  elements_found : (n : ℕ) (lo low i : ℤ) (d e m : ℕ) (path : Path) (t : ResolvedType) (at : ℕ) (q : Text) → lo -ℤ low ≡ pos d → i -ℤ low ≡ pos (d + e) → e < n → m < words g t
      → target ≡ at + (e * words g t + m) → visit_type g V (path ++ ByIndex i ∷ []) (at + e * words g t) t ≡ q
      → visit_elements (λ p a. visit_type g V p a t) (words g t) path at (integers_from lo n) ≡ q
  elements_found zero lo low i d e m path t at q far there less inside is found = absurd (omega (arith, less))
  elements_found (suc n) lo low i d zero m path t at q far there less inside is found =
      ap (visit_elements (λ p a. visit_type g V p a t) (words g t) path at) (counted_on lo n)
      ∙ ((λ j. (ap (λ z. visit_type g V (path ++ ByIndex z ∷ []) at t) same ∙ (ap (λ a. visit_type g V (path ++ ByIndex i ∷ []) a t) (at_first at (words g t)) ∙ found)) j
      ++ elements_beside n (following lo) path t (at + words g t) (inl (Prim.grind (arith, is, inside))) (λ p a h. type_beside p a t h) j)
      ∙ append_none q)
    where
      same : lo ≡ i
      same = Prim.grind (arith, ints, far, there)

      at_first : (a w : ℕ) → a ≡ a + 0 * w
      at_first a w = Prim.grind arith
  elements_found (suc n) lo low i d (suc e) m path t at q far there less inside is found =
      ap (visit_elements (λ p a. visit_type g V p a t) (words g t) path at) (counted_on lo n)
      ∙ ((λ j. type_beside (path ++ ByIndex lo ∷ []) at t (inr (Prim.grind (arith, is))) j ++ visit_elements (λ p a. visit_type g V p a t) (words g t) path (at + words g t) (integers_from (following lo) n))
      ∙ elements_found n (following lo) low i (suc d) e m path t (at + words g t) q (one_farther lo low d far) (there ∙ ap pos (sooner d e)) (omega (arith, less)) inside
      (is ∙ sum at e (words g t) m) (ap (λ a. visit_type g V (path ++ ByIndex i ∷ []) a t) (sym (place at e (words g t))) ∙ found))
    where
      sooner : (a b : ℕ) → a + suc b ≡ suc a + b
      sooner a b = omega arith

      sum : (a b w k : ℕ) → a + (suc b * w + k) ≡ a + w + (b * w + k)
      sum a b w k = Prim.grind arith

      place : (a b w : ℕ) → a + suc b * w ≡ a + w + b * w
      place a b w = Prim.grind arith

  abbrev Finds : Path → ℕ → (Path → Option Part) → Text → Path → Type 0
  Finds path at parts reported q = (k : ℕ) → parts q ≡ Some (k, Queue) → target ≡ at + k → reported ≡ path_text (path ++ q)

  deeper : (path q : Path) (s : PathStep) (x : Text) → x ≡ path_text ((path ++ s ∷ []) ++ q) → x ≡ path_text (path ++ s ∷ q)
  deeper path q s x h = h ∙ ap path_text (join_append path (s ∷ []) q)

  no_queue : {A : Type 0} (n : ℕ) (t : ResolvedType) (k : ℕ) → ◌≡◌ {A = Option Part} (Some (n, t)) (Some (k, Queue)) → (t ≡ Queue → A) → A
  no_queue n t k e go = go (type_is n t k Queue e)

  element_found : (path : Path) (at : ℕ) (low high i : ℤ) (t : ResolvedType) (q : Path) → ((p : Path) (a : ℕ) → Finds p a (part g t) (visit_type g V p a t) q)
      → Finds path at (part g (ArrayOf low high t)) (visit_type g V path at (ArrayOf low high t)) (ByIndex i ∷ q)
  element_found path at low high i t q inner k there is = by (within low high i) refl there
    where
      by : (b : Bool) → within low high i ≡ b → (if b then farther (distance low i * words g t) (part g t q) else None) ≡ Some (k, Queue)
          → visit_elements (λ p a. visit_type g V p a t) (words g t) path at (integers_from low (count_between low high)) ≡ path_text (path ++ ByIndex i ∷ q)
      by false inside h = none_there k Queue h
      by true inside h =
          let f = farther_some (distance low i * words g t) (part g t q) k Queue h in
          let m = f.0 in
          let fits : m < words g t = omega (arith, part_fits g t q m Queue f.1) in
          elements_found (count_between low high) low low i 0 (distance low i) m path t at (path_text (path ++ ByIndex i ∷ q)) (from_itself low) (how_far low high i inside) (index_below low high i inside) fits
          (is ∙ ap (λ n. at + n) f.2) (deeper path q (ByIndex i) _ (inner (path ++ ByIndex i ∷ []) (at + distance low i * words g t) m f.1 (is ∙ (ap (λ n. at + n) f.2 ∙ join at (distance low i * words g t) m))))

  -- The first member, or a later one.
  member_here : (path : Path) (at far : ℕ) (x y : Name) (t : ResolvedType) (ms : Members) (q : Path)
      → ((p : Path) (a : ℕ) → Finds p a (part g t) (visit_type g V p a t) q)
      → (Finds path at (λ r. member_part g (far + words g t) ms x q) (visit_members g V path (at + (far + words g t)) ms) (ByName x ∷ q))
      → Finds path at (λ r. member_part g far (MoreMembers y t ms) x q) (visit_members g V path (at + far) (MoreMembers y t ms)) (ByName x ∷ q)
  member_here path at far x y t ms q inner later k there is = by (bytes_eq x y) refl there
    where
      by : (b : Bool) → bytes_eq x y ≡ b → (if b then farther far (part g t q) else member_part g (far + words g t) ms x q) ≡ Some (k, Queue)
          → visit_type g V (path ++ ByName y ∷ []) (at + far) t ++ visit_members g V path (at + far + words g t) ms ≡ path_text (path ++ ByName x ∷ q)
      by true same h =
          let f = farther_some far (part g t q) k Queue h in
          let fits : f.0 < words g t = omega (arith, part_fits g t q f.0 Queue f.1) in
          let here = inner (path ++ ByName y ∷ []) (at + far) f.0 f.1 (is ∙ (ap (λ n. at + n) f.2 ∙ join at far f.0)) in
          (λ j. here j ++ members_beside path (at + far + words g t) ms (inl (omega (arith, is, f.2, fits))) j)
          ∙ (append_none _ ∙ deeper path q (ByName y) _ refl ∙ ap (λ z. path_text (path ++ ByName z ∷ q)) (sym (bytes_same x y same)))
      by false other h =
          let above = member_above g (far + words g t) ms x q k Queue h in
          (λ j. type_beside (path ++ ByName y ∷ []) (at + far) t (inr (omega (arith, is, above))) j ++ visit_members g V path (at + far + words g t) ms)
          ∙ (ap (λ a. visit_members g V path a ms) (sym (join at far (words g t))) ∙ later k h is)

  right_here : (at k : ℕ) → 0 ≡ k → target ≡ at + k → nat_eq at target ≡ true
  right_here at k none is = Prim.grind (arith, none, is)

  class_found : (path : Path) (at : ℕ) (s : System) (ms : Members) (x : Name) (q : Path)
      → (Finds path at (λ r. member_part g (head_words g s) ms x q) (visit_members g V path (at + head_words g s) ms) (ByName x ∷ q))
      → Finds path at (part g (ComponentOf s ms)) (visit_type g V path at (ComponentOf s ms)) (ByName x ∷ q)
  class_found path at s ms x q inner k there is = by s.sort there
    where
      by : (z : Sort) → of_class z (member_part g (head_words g s) ms x q) ≡ Some (k, Queue)
          → of_class_text z (visit_members g V path (at + head_words g s) ms) ≡ path_text (path ++ ByName x ∷ q)
      by Class h = inner k h is
      by Monitor h = none_there k Queue h
      by Process h = none_there k Queue h

  mutual
    pub type_found : (path : Path) (at : ℕ) (t : ResolvedType) (q : Path) → Finds path at (part g t) (visit_type g V path at t) q
    type_found path at (Simple b low high start) [] k there is = no_queue 0 (Simple b low high start) k there (λ e. absurd (subst (λ z. IsQueue z) (sym e) tt))
    type_found path at (Simple b low high start) (s ∷ q) k there is = none_there k Queue there
    type_found path at (ArrayOf low high t) [] k there is = no_queue 0 (ArrayOf low high t) k there (λ e. absurd (subst (λ z. IsQueue z) (sym e) tt))
    type_found path at (ArrayOf low high t) (ByName x ∷ q) k there is = none_there k Queue there
    type_found path at (ArrayOf low high t) (ByIndex i ∷ q) k there is = element_found path at low high i t q (λ p a. type_found p a t q) k there is
    type_found path at (RecordOf ms) [] k there is = no_queue 0 (RecordOf ms) k there (λ e. absurd (subst (λ z. IsQueue z) (sym e) tt))
    type_found path at (RecordOf ms) (ByIndex i ∷ q) k there is = none_there k Queue there
    type_found path at (RecordOf ms) (ByName x ∷ q) k there is =
        ap (λ a. visit_members g V path a ms) (sym (no_farther at)) ∙ member_found path at 0 ms x q k there is
    type_found path at Queue [] k there is = ap (λ b. if b then path_text path else []) (right_here at k (ap (λ z. z.0) (same_some {A = Part} (0, Queue) (k, Queue) there)) is) ∙ ap path_text (sym (append_none path))
    type_found path at Queue (s ∷ q) k there is = none_there k Queue there
    type_found path at (ComponentOf s ms) [] k there is = no_queue 0 (ComponentOf s ms) k there (λ e. absurd (subst (λ z. IsQueue z) (sym e) tt))
    type_found path at (ComponentOf s ms) (ByIndex i ∷ q) k there is = none_there k Queue there
    type_found path at (ComponentOf s ms) (ByName x ∷ q) k there is = class_found path at s ms x q (member_found path at (head_words g s) ms x q) k there is
    type_found path at NoType [] k there is = no_queue 0 NoType k there (λ e. absurd (subst (λ z. IsQueue z) (sym e) tt))
    type_found path at NoType (s ∷ q) k there is = none_there k Queue there

    pub member_found : (path : Path) (at far : ℕ) (ms : Members) (x : Name) (q : Path)
        → Finds path at (λ r. member_part g far ms x q) (visit_members g V path (at + far) ms) (ByName x ∷ q)
    member_found path at far NoMembers x q k there is = none_there k Queue there
    member_found path at far (MoreMembers y t ms) x q k there is =
        member_here path at far x y t ms q (λ p a. type_found p a t q) (member_found path at (far + words g t) ms x q) k there is
