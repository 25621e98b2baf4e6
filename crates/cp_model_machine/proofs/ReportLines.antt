-- The lines that are read from the words of a variable are those of its leaves.
--
-- By induction on the type, along both walks at once: elements and members come in the same
-- order, and at a simple part the word is the value in the store.
use Rattle.std.proofs.Common.{◌≡◌, inl, inr, ℕ, zero, suc, ◌+◌, ◌*◌, ℤ, pos, negsuc, Bool, true, false, List, [], ◌∷◌, ◌++◌, map, Option, Some, None, refl, ap, sym, subst, ◌∙◌, arith}
use Rattle.std.specs.Prelude.{flat_map, if◌then◌else◌, ◌-ℤ◌, ◌||◌}
use Rattle.std.proofs.lemmas.Bool.{true≢false}
use Rattle.std.proofs.lemmas.Int.{ints}
use Rattle.std.specs.Str.{bytes_eq}
use Rattle.cp_model.specs.Abstract.{Class, Monitor, Name, Process, Sort, System}
use Rattle.cp_model.specs.Integers.{count_between}
use Rattle.cp_model.specs.Leaves.{Leaf, below_step, component_leaves, integers_from, leaves, leaves_of_members}
use Rattle.cp_model.specs.Locations.{ByIndex, ByName, Location, Path, PathStep, under}
use Rattle.cp_model.specs.Places.{within}
use Rattle.cp_model.specs.Report.{Text, leaf_line}
use Rattle.cp_model.specs.Stores.{Ordinal, QueueHolds, Store}
use Rattle.cp_model.specs.Types.{ArrayOf, ComponentOf, GlobalScope, Members, MoreMembers, NoMembers, NoType, Queue, RecordOf, ResolvedType, Simple}
use Rattle.cp_law_typing.specs.SoundTypes.{has_member}
use Rattle.cp_law_typing.specs.StartValues.{IsIn}
use Rattle.cp_law_typing.specs.Words.{words}
use Rattle.cp_law_typing.proofs.Names.{bytes_eq-refl, bytes_same}
use Rattle.cp_model_program.specs.Layout.{Part, distance, farther, head_words, member_part, natural, of_class, part}
use Rattle.cp_model_program.specs.Starts.{word}
use Rattle.cp_model_machine.specs.Means.{CellMeans, MarkMeans, process_of_word}
use Rattle.cp_model_machine.specs.Reports.{lines_visit, of_class_text, visit_elements, visit_members, visit_type}
use Rattle.cp_model_machine.proofs.Finding.{some_is_not_none}
use Rattle.cp_model_machine.proofs.LeafWords.{counted_within}
use Rattle.cp_model_machine.proofs.PartLeaves.{Named, NamedMembers}

-- ---- lists

pub join_append : {A : Type 0} (xs ys zs : List A) → (xs ++ ys) ++ zs ≡ xs ++ (ys ++ zs)
join_append [] ys zs = refl
join_append (x ∷ xs) ys zs = ap (λ l. x ∷ l) (join_append xs ys zs)

pub append_none : {A : Type 0} (xs : List A) → xs ++ [] ≡ xs
append_none [] = refl
append_none (x ∷ xs) = ap (λ l. x ∷ l) (append_none xs)

flat_append : {A : Type 0} (f : A → Text) (xs ys : List A) → flat_map f (xs ++ ys) ≡ flat_map f xs ++ flat_map f ys
flat_append f [] ys = refl
flat_append f (x ∷ xs) ys = ap (λ l. f x ++ l) (flat_append f xs ys) ∙ sym (join_append (f x) (flat_map f xs) (flat_map f ys))

flat_mapped : {A B : Type 0} (f : B → Text) (h : A → B) (xs : List A) → flat_map f (map h xs) ≡ flat_map (λ x. f (h x)) xs
flat_mapped f h [] = refl
flat_mapped f h (x ∷ xs) = ap (λ l. f (h x) ++ l) (flat_mapped f h xs)

flat_same : {A : Type 0} (f g : A → Text) (xs : List A) → ((x : A) → f x ≡ g x) → flat_map f xs ≡ flat_map g xs
flat_same f g [] same = refl
flat_same f g (x ∷ xs) same = (λ i. same x i ++ flat_map f xs) ∙ ap (λ l. g x ++ l) (flat_same f g xs same)

-- ---- members

-- Only members have parts.
part_named : (g : GlobalScope) (at : ℕ) (ms : Members) (x : Name) (q : Path) (k : ℕ) (u : ResolvedType) → member_part g at ms x q ≡ Some (k, u) → has_member x ms ≡ true
part_named g at NoMembers x q k u e = absurd (some_is_not_none _ (sym e))
part_named g at (MoreMembers y t ms) x q k u e = by (bytes_eq x y) e (λ h. part_named g (at + words g t) ms x q k u h)
  where
    by : (b : Bool) → (if b then farther at (part g t q) else member_part g (at + words g t) ms x q) ≡ Some (k, u)
        → (member_part g (at + words g t) ms x q ≡ Some (k, u) → has_member x ms ≡ true) → (b || has_member x ms) ≡ true
    by true h later = refl
    by false h later = later h

-- ---- the lines of leaves

module _ (g : GlobalScope) (store : Store) (root : Location) (ws : List ℤ) where
  abbrev leaf_text : Path → Leaf → Text
  leaf_text path leaf = leaf_line (path ++ leaf.0) (store (under root (path ++ leaf.0)))

  -- What the words of a variable mean, part by part.
  abbrev pub Reads : Path → ℕ → (Path → Option Part) → Type 0
  Reads path at parts = (q : Path) (k : ℕ) (u : ResolvedType) → parts q ≡ Some (k, u) → CellMeans u (store (under root (path ++ q))) (word ws (at + k))

  deeper : (path q : Path) (s : PathStep) → (path ++ s ∷ []) ++ q ≡ path ++ s ∷ q
  deeper path q s = join_append path (s ∷ []) q

  below : (path : Path) (s : PathStep) (xs : List Leaf) → flat_map (leaf_text path) (map (below_step s) xs) ≡ flat_map (leaf_text (path ++ s ∷ [])) xs
  below path s xs =
      flat_mapped (leaf_text path) (below_step s) xs
      ∙ flat_same (λ leaf. leaf_text path (below_step s leaf)) (leaf_text (path ++ s ∷ [])) xs
      (λ leaf. ap (λ p. leaf_line p (store (under root p))) (sym (deeper path leaf.0 s)))

  -- The parts after a step of a path, read from where they begin.
  step_reads : (path : Path) (s : PathStep) (at n : ℕ) (parts inner : Path → Option Part) → Reads path at parts
      → ((q : Path) (k : ℕ) (u : ResolvedType) → inner q ≡ Some (k, u) → parts (s ∷ q) ≡ Some (n + k, u)) → Reads (path ++ s ∷ []) (at + n) inner
  step_reads path s at n parts inner reads there q k u is =
      let far : at + (n + k) ≡ at + n + k = omega arith in
      subst (λ p. CellMeans u (store (under root p)) (word ws (at + n + k))) (sym (deeper path q s))
      (subst (λ m. CellMeans u (store (under root (path ++ s ∷ q))) (word ws m)) far (reads (s ∷ q) (n + k) u (there q k u is)))

  -- ---- elements

  abbrev ElementsRead : Path → ResolvedType → ℕ → List ℤ → Type 0
  ElementsRead path t at [] = Unit {0}
  ElementsRead path t at (i ∷ is) = Reads (path ++ ByIndex i ∷ []) at (part g t) × ElementsRead path t (at + words g t) is

  elements_same : (path : Path) (t : ResolvedType) (at : ℕ) (is : List ℤ) → ElementsRead path t at is
      → ((p : Path) (a : ℕ) → Reads p a (part g t) → flat_map (leaf_text p) (leaves t) ≡ visit_type g (lines_visit ws) p a t)
      → flat_map (leaf_text path) (flat_map (λ i. map (below_step (ByIndex i)) (leaves t)) is) ≡ visit_elements (λ p a. visit_type g (lines_visit ws) p a t) (words g t) path at is
  elements_same path t at [] h same = refl
  elements_same path t at (i ∷ is) h same =
      flat_append (leaf_text path) (map (below_step (ByIndex i)) (leaves t)) (flat_map (λ j. map (below_step (ByIndex j)) (leaves t)) is)
      ∙ (λ j. (below path (ByIndex i) (leaves t) ∙ same (path ++ ByIndex i ∷ []) at h.0) j ++ elements_same path t (at + words g t) is h.1 same j)

  module _ (path : Path) (t : ResolvedType) (at : ℕ) (low high : ℤ) (reads : Reads path at (part g (ArrayOf low high t))) where
    element_read : (i : ℤ) (d a : ℕ) → within low high i ≡ true → distance low i ≡ d → a ≡ at + d * words g t → Reads (path ++ ByIndex i ∷ []) a (part g t)
    element_read i d a inside far is =
        subst (λ z. Reads (path ++ ByIndex i ∷ []) z (part g t)) (sym is)
        (step_reads path (ByIndex i) at (d * words g t) (part g (ArrayOf low high t)) (part g t) reads
        (λ q k u e. ap (λ b. if b then farther (distance low i * words g t) (part g t q) else None) inside
        ∙ (ap (farther (distance low i * words g t)) e ∙ ap (λ z. Some (z * words g t + k, u)) far)))

    elements_from : (n : ℕ) (lo : ℤ) (d a : ℕ) → ((i : ℤ) → IsIn i (integers_from lo n) → within low high i ≡ true) → lo -ℤ low ≡ pos d → a ≡ at + d * words g t
        → ElementsRead path t a (integers_from lo n)
    elements_from zero lo d a inside far is = tt
    elements_from (suc n) (pos b) d a inside far is = (
      element_read (pos b) d a (inside (pos b) (inl refl)) (ap natural far) is,
      elements_from n (pos (suc b)) (suc d) (a + words g t) (λ i h. inside i (inr h)) (Prim.grind (arith, ints, far)) (Prim.grind (arith, is)),
    )
    elements_from (suc n) (negsuc zero) d a inside far is = (
      element_read (negsuc zero) d a (inside (negsuc zero) (inl refl)) (ap natural far) is,
      elements_from n (pos 0) (suc d) (a + words g t) (λ i h. inside i (inr h)) (Prim.grind (arith, ints, far)) (Prim.grind (arith, is)),
    )
    elements_from (suc n) (negsuc (suc b)) d a inside far is = (
      element_read (negsuc (suc b)) d a (inside (negsuc (suc b)) (inl refl)) (ap natural far) is,
      elements_from n (negsuc b) (suc d) (a + words g t) (λ i h. inside i (inr h)) (Prim.grind (arith, ints, far)) (Prim.grind (arith, is)),
    )

    elements_read : ElementsRead path t at (integers_from low (count_between low high))
    elements_read =
        elements_from (count_between low high) low 0 at (λ i h. counted_within low high i h) (Prim.grind (arith, ints)) (Prim.grind arith)

  -- ---- all types

  here : (n : ℕ) → n + 0 ≡ n
  here n = omega arith

  -- What a member after the first ones reads.
  abbrev MemberReads : Path → ℕ → ℕ → Members → Type 0
  MemberReads path at far ms =
      (x : Name) (q : Path) (k : ℕ) (u : ResolvedType) → member_part g far ms x q ≡ Some (k, u) → CellMeans u (store (under root (path ++ ByName x ∷ q))) (word ws (at + k))

  first_reads : (path : Path) (at far : ℕ) (x : Name) (t : ResolvedType) (ms : Members) → MemberReads path at far (MoreMembers x t ms)
      → Reads (path ++ ByName x ∷ []) (at + far) (part g t)
  first_reads path at far x t ms reads q k u e =
      subst (λ p. CellMeans u (store (under root p)) (word ws (at + far + k))) (sym (deeper path q (ByName x)))
      (subst (λ n. CellMeans u (store (under root (path ++ ByName x ∷ q))) (word ws n)) (join at far k)
      (reads x q (far + k) u (ap (λ b. if b then farther far (part g t q) else member_part g (far + words g t) ms x q) (bytes_eq-refl x) ∙ ap (farther far) e)))
    where
      join : (a b c : ℕ) → a + (b + c) ≡ a + b + c
      join a b c = omega arith

  -- No member has the name of an earlier one.
  rest_reads : (path : Path) (at far : ℕ) (x : Name) (t : ResolvedType) (ms : Members) → has_member x ms ≡ false → MemberReads path at far (MoreMembers x t ms)
      → MemberReads path at (far + words g t) ms
  rest_reads path at far x t ms apart reads y q k u e = by (bytes_eq y x) refl
    where
      by : (b : Bool) → bytes_eq y x ≡ b → CellMeans u (store (under root (path ++ ByName y ∷ q))) (word ws (at + k))
      by true same = absurd (true≢false (sym (part_named g (far + words g t) ms y q k u e) ∙ (ap (λ z. has_member z ms) (bytes_same y x same) ∙ apart)))
      by false other = reads y q k u (ap (λ b. if b then farther far (part g t q) else member_part g (far + words g t) ms y q) other ∙ e)

  -- A mark has no line.
  component_same : (path : Path) (at : ℕ) (s : System) (ms : Members) → Reads path at (part g (ComponentOf s ms))
      → (MemberReads path at (head_words g s) ms → flat_map (leaf_text path) (leaves_of_members ms) ≡ visit_members g (lines_visit ws) path (at + head_words g s) ms)
      → flat_map (leaf_text path) (component_leaves s.sort (leaves_of_members ms)) ≡ of_class_text s.sort (visit_members g (lines_visit ws) path (at + head_words g s) ms)
  component_same path at s ms reads inner = by s.sort refl
    where
      by : (z : Sort) → s.sort ≡ z
          → flat_map (leaf_text path) (component_leaves z (leaves_of_members ms)) ≡ of_class_text z (visit_members g (lines_visit ws) path (at + head_words g s) ms)
      by Monitor e = refl
      by Process e = refl
      by Class e =
          let mark = subst (λ z. MarkMeans z (store (under root (path ++ []))) (word ws (at + 0))) e (reads [] 0 (ComponentOf s ms) refl) in
          ap (λ v. leaf_line (path ++ []) v ++ flat_map (leaf_text path) (leaves_of_members ms)) mark
          ∙ inner (λ x q k u there. reads (ByName x ∷ q) k u (ap (λ z. of_class z (member_part g (head_words g s) ms x q)) e ∙ there))

  mutual
    pub lines_same : (path : Path) (at : ℕ) (t : ResolvedType) → Named t → Reads path at (part g t)
        → flat_map (leaf_text path) (leaves t) ≡ visit_type g (lines_visit ws) path at t
    lines_same path at (Simple b low high start) named reads =
        append_none _
        ∙ (ap (leaf_line (path ++ [])) (reads [] 0 (Simple b low high start) refl)
        ∙ (λ i. leaf_line (append_none path i) (Ordinal (word ws (here at i)))))
    lines_same path at (ArrayOf low high t) named reads =
        elements_same path t at (integers_from low (count_between low high)) (elements_read path t at low high reads) (λ p a h. lines_same p a t named h)
    lines_same path at (RecordOf ms) named reads =
        member_lines_same path at 0 ms named (λ x q k u e. reads (ByName x ∷ q) k u e) ∙ ap (λ n. visit_members g (lines_visit ws) path n ms) (here at)
    lines_same path at Queue named reads =
        append_none _
        ∙ (ap (leaf_line (path ++ [])) (reads [] 0 Queue refl)
        ∙ (λ i. leaf_line (append_none path i) (QueueHolds (process_of_word (word ws (here at i))))))
    lines_same path at (ComponentOf s ms) named reads = component_same path at s ms reads (λ h. member_lines_same path at (head_words g s) ms named h)
    lines_same path at NoType named reads = refl

    pub member_lines_same : (path : Path) (at far : ℕ) (ms : Members) → NamedMembers ms → MemberReads path at far ms
        → flat_map (leaf_text path) (leaves_of_members ms) ≡ visit_members g (lines_visit ws) path (at + far) ms
    member_lines_same path at far NoMembers named reads = refl
    member_lines_same path at far (MoreMembers x t ms) named reads =
        flat_append (leaf_text path) (map (below_step (ByName x)) (leaves t)) (leaves_of_members ms)
        ∙ (λ i.
        (below path (ByName x) (leaves t) ∙ lines_same (path ++ ByName x ∷ []) (at + far) t named.0 (first_reads path at far x t ms reads)) i
        ++ (member_lines_same path at (far + words g t) ms named.2 (rest_reads path at far x t ms named.1 reads) ∙ ap (λ n. visit_members g (lines_visit ws) path n ms) (join at far (words g t))) i)
      where
        join : (a b c : ℕ) → a + (b + c) ≡ a + b + c
        join a b c = omega arith
