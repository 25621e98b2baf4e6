-- Values are stored leaf by leaf, and word by word.
--
-- Each word of the variable is that of one leaf, and each leaf is a simple part of one word, so a
-- copied word holds what is stored at its leaf; what is outside keeps its word and its value.
use Rattle.std.proofs.Common.{◌≡◌, ◌⊎◌, inl, inr, ℕ, zero, suc, ◌+◌, ◌-◌, ◌≤◌, ◌<◌, ℤ, pos, Bool, true, false, List, [], ◌∷◌, ◌++◌, length, map, Some, None, refl, ap, sym, subst, ◌∙◌, arith}
use Rattle.std.specs.Prelude.{nat_le, nat_lt, slice_index_or, zip}
use Rattle.cp_model.specs.Abstract.{System}
use Rattle.cp_model.specs.Assignments.{writes_of}
use Rattle.cp_model.specs.Declarations.{reported_members}
use Rattle.cp_model.specs.Leaves.{Leaf, leaves}
use Rattle.cp_model.specs.Locations.{ByName, Location, Path, under}
use Rattle.cp_model.specs.Outcomes.{Gives}
use Rattle.cp_model.specs.Places.{ordinal_in}
use Rattle.cp_model.specs.Stores.{Ordinal, Store, Value, Writes, put_all}
use Rattle.cp_model.specs.Types.{ArrayOf, ComponentOf, GlobalScope, NoType, Queue, RecordOf, ResolvedType, Simple}
use Rattle.cp_law_typing.specs.Judgement.{has_queues, is_structured}
use Rattle.cp_law_typing.specs.SoundTypes.{SoundType}
use Rattle.cp_law_typing.specs.StartValues.{IsIn}
use Rattle.cp_law_typing.specs.Words.{words}
use Rattle.cp_law_typing.proofs.Leaves.{in_mapped, of_mapped}
use Rattle.cp_law_typing.proofs.StartWrites.{written}
use Rattle.cp_model_program.specs.Layout.{Part, part}
use Rattle.cp_model_program.specs.Starts.{block, paste, word}
use Rattle.cp_model_program.proofs.Pasting.{paste_inside, paste_length, paste_outside}
use Rattle.std.proofs.lemmas.Bool.{true≢false}
use Rattle.cp_model_machine.specs.Means.{CellMeans}
use Rattle.cp_model_machine.specs.Addresses.{Activation, ClassLies, Ground, activation_at, component_type, in_sight, lies, scope}
use Rattle.cp_model_machine.specs.PartOf.{DataMeans}
use Rattle.cp_model_machine.proofs.Apart.{InHead, IsCell, cell_has_word, cell_head}
use Rattle.cp_model_machine.proofs.Bounds.{part_fits}
use Rattle.cp_model_machine.proofs.Finding.{some_is_not_none}
use Rattle.cp_model_machine.proofs.Holding.{reference_no_variable, result_no_variable}
use Rattle.cp_model_machine.proofs.Keeping.{KeepsActivation, local_named, right_kept, right_no_variable, right_place}
use Rattle.cp_model_machine.proofs.Layouts.{lies_under}
use Rattle.cp_model_machine.proofs.LeafWords.{leaf_is_part, word_is_part}
use Rattle.cp_model_machine.proofs.Owned.{OwnRight}
use Rattle.cp_model_machine.proofs.Separate.{cell_no_own_right, cell_no_reference, cell_no_result, separate}
use Rattle.cp_model_machine.proofs.Stacks.{Stacked}
use Rattle.cp_model_machine.proofs.StartLeaves.{IsSimple, not_written, part_is_leaf}
use Rattle.cp_model_machine.proofs.Writing.{is_cell}
use Rattle.cp_model_machine.proofs.Given.{KeepsGiven, rights_kept}
use Rattle.cp_model.specs.CallSteps.{is_initialised}
use Rattle.cp_model.proofs.Options.{same_some}
use Rattle.cp_model_machine.proofs.Heres.{lies_any}

-- ---- words

pub block_length : (ws : List ℤ) (from n : ℕ) → length (block ws from n) ≡ n
block_length ws from zero = refl
block_length ws from (suc n) = ap suc (block_length ws (suc from) n)

pub block_word : (ws : List ℤ) (from n k : ℕ) → k < n → slice_index_or (block ws from n) k (pos 0) ≡ word ws (from + k)
block_word ws from zero k h = absurd (omega (arith, h))
block_word ws from (suc n) zero h = ap (word ws) (omega arith)
block_word ws from (suc n) (suc k) h = block_word ws (suc from) n k (omega (arith, h)) ∙ ap (word ws) (omega arith)

pub copied_word : (ws us : List ℤ) (to from n k : ℕ) → k < n → to + n ≤ length ws → word (paste to (block us from n) ws) (to + k) ≡ word us (from + k)
copied_word ws us to from n k h room =
    paste_inside to k (block us from n) ws (omega (arith, h, block_length us from n)) (omega (arith, room, block_length us from n)) ∙ block_word us from n k h

pub copied_outside : (ws us : List ℤ) (to from n i : ℕ) → (i < to) ⊎ (to + n ≤ i) → word (paste to (block us from n) ws) i ≡ word ws i
copied_outside ws us to from n i h = paste_outside to i (block us from n) ws (by h)
  where
    by : (i < to) ⊎ (to + n ≤ i) → (i < to) ⊎ (to + length (block us from n) ≤ i)
    by (inl q) = inl q
    by (inr q) = inr (omega (arith, q, block_length us from n))

pub copied_length : (ws us : List ℤ) (to from n : ℕ) → length (paste to (block us from n) ws) ≡ length ws
copied_length ws us to from n = paste_length to (block us from n) ws

-- ---- leaves

-- A number is stored at each leaf.
abbrev pub leaf_writes : Location → (Path → ℤ) → List Leaf → Writes
leaf_writes to f ls = map (λ leaf. (under to leaf.0, Ordinal (f leaf.0))) ls

-- What is read at a path below a location.
abbrev pub read_below : Store → Location → Path → ℤ
read_below store from path = ordinal_in (store (under from path))

-- What is read leaf by leaf is stored leaf by leaf.
read_is_written : (to from : Location) (store : Store) (ls : List Leaf)
    → zip (map (λ leaf. under to leaf.0) ls) (map (λ x. Ordinal (ordinal_in x)) (map (λ leaf. store (under from leaf.0)) ls))
    ≡ leaf_writes to (λ path. ordinal_in (store (under from path))) ls
read_is_written to from store [] = refl
read_is_written to from store (leaf ∷ ls) =
    ap (λ ws. (under to leaf.0, Ordinal (ordinal_in (store (under from leaf.0)))) ∷ ws) (read_is_written to from store ls)

-- The writes of a structured value that was read.
pub structure_writes : (to from : Location) (t u : ResolvedType) (store : Store) → is_structured t ≡ true
    → writes_of to t (record { type = u; values = map (λ leaf. store (under from leaf.0)) (leaves t) }) ≡ Gives (leaf_writes to (λ path. ordinal_in (store (under from path))) (leaves t))
structure_writes to from (ArrayOf low high t) u store h = ap Gives (read_is_written to from store (leaves (ArrayOf low high t)))
structure_writes to from (RecordOf ms) u store h = ap Gives (read_is_written to from store (leaves (RecordOf ms)))
structure_writes to from (Simple b low high start) u store h = absurd (true≢false (sym h))
structure_writes to from Queue u store h = absurd (true≢false (sym h))
structure_writes to from (ComponentOf s inner) u store h = absurd (true≢false (sym h))
structure_writes to from NoType u store h = absurd (true≢false (sym h))

abbrev tail_of : Path → Path
tail_of [] = []
tail_of (s ∷ p) = p

same_behind : (p q r : Path) → p ++ q ≡ p ++ r → q ≡ r
same_behind [] q r e = e
same_behind (s ∷ p) q r e = same_behind p q r (ap tail_of e)

-- A leaf holds its number.
pub leaf_written : (g : GlobalScope) (to : Location) (f : Path → ℤ) (t : ResolvedType) (st : Store) (path : Path) (k : ℕ) (u : ResolvedType) → SoundType t → IsSimple u → part g t path ≡ Some (k, u)
    → put_all (leaf_writes to f (leaves t)) st (under to path) ≡ Ordinal (f path)
leaf_written g to f t st path k (Simple b low high start) sound simple there =
    written (leaf_writes to f (leaves t)) st (under to path) (Ordinal (f path)) one
    (in_mapped (λ (leaf : Leaf). (under to leaf.0, Ordinal (f leaf.0))) (path, Ordinal start) (leaves t) (part_is_leaf g t path k b low high start sound there))
  where
    one : (w : Value) → IsIn (under to path, w) (leaf_writes to f (leaves t)) → w ≡ Ordinal (f path)
    one w h =
        let a = of_mapped (λ (leaf : Leaf). (under to leaf.0, Ordinal (f leaf.0))) (under to path, w) (leaves t) h in
        ap (λ z. z.1) a.2 ∙ ap (λ q. Ordinal (f q)) (sym (same_behind to.path path a.0.0 (ap (λ z. z.0.path) a.2)))
leaf_written g to f t st path k (ArrayOf low high y) sound simple there = absurd simple
leaf_written g to f t st path k (RecordOf ms) sound simple there = absurd simple
leaf_written g to f t st path k Queue sound simple there = absurd simple
leaf_written g to f t st path k (ComponentOf y inner) sound simple there = absurd simple
leaf_written g to f t st path k NoType sound simple there = absurd simple

-- A location that is no leaf keeps its value.
pub leaf_unwritten : (to : Location) (f : Path → ℤ) (t : ResolvedType) (st : Store) (l : Location) → ((path : Path) (v : Value) → IsIn (path, v) (leaves t) → l ≡ under to path → ⊥)
    → put_all (leaf_writes to f (leaves t)) st l ≡ st l
leaf_unwritten to f t st l none =
    not_written (leaf_writes to f (leaves t)) st l (λ w h.
    let a = of_mapped (λ (leaf : Leaf). (under to leaf.0, Ordinal (f leaf.0))) (l, w) (leaves t) h in
    none a.0.0 a.0.1 a.1 (ap (λ z. z.0) a.2))

pub simple_cell : (u : ResolvedType) → IsSimple u → IsCell u
simple_cell (Simple b low high start) h = tt
simple_cell (ArrayOf low high y) h = absurd h
simple_cell (RecordOf ms) h = absurd h
simple_cell Queue h = absurd h
simple_cell (ComponentOf y inner) h = absurd h
simple_cell NoType h = absurd h

pub simple_holds : (u : ResolvedType) (v : Value) (n : ℤ) → IsSimple u → CellMeans u v n → v ≡ Ordinal n
simple_holds (Simple b low high start) v n s h = h
simple_holds (ArrayOf low high y) v n s h = absurd s
simple_holds (RecordOf ms) v n s h = absurd s
simple_holds Queue v n s h = absurd s
simple_holds (ComponentOf y inner) v n s h = absurd s
simple_holds NoType v n s h = absurd s

pub holds_simple : (u : ResolvedType) (v : Value) (n : ℤ) → IsSimple u → v ≡ Ordinal n → CellMeans u v n
holds_simple (Simple b low high start) v n s h = h
holds_simple (ArrayOf low high y) v n s h = absurd s
holds_simple (RecordOf ms) v n s h = absurd s
holds_simple Queue v n s h = absurd s
holds_simple (ComponentOf y inner) v n s h = absurd s
holds_simple NoType v n s h = absurd s

-- ---- a structured variable

-- An address is one of `size` words from `n` on, or it is outside them.
abbrev pub Inside : ℕ → ℕ → ℕ → Type 0
Inside n size i = (k : ℕ) × (k < size) × (i ≡ n + k)

pub inside_or_not : (n size i : ℕ) → Inside n size i ⊎ ((i < n) ⊎ (n + size ≤ i))
inside_or_not n size i = by (nat_le n i) (nat_lt i (n + size)) refl refl
  where
    by : (a b : Bool) → nat_le n i ≡ a → nat_lt i (n + size) ≡ b → Inside n size i ⊎ ((i < n) ⊎ (n + size ≤ i))
    by false b e f = inr (inl (Prim.grind (arith, e)))
    by true false e f = inr (inr (Prim.grind (arith, f)))
    by true true e f =
        let low : n ≤ i = Prim.grind (arith, e) in
        let high : i < n + size = Prim.grind (arith, f) in
        inl (i - n, omega (arith, low, high), omega (arith, low))

-- A structured variable at `to` is changed: numbers are stored at its leaves and in its words.
module _ (G : Ground) (xs : List Activation) (top : ℕ) (stack : Stacked G top xs) (store : Store) (old new : List ℤ) (to : Location) (n : ℕ) (t : ResolvedType) (f : Path → ℤ)
    (sound : SoundType t) (free : has_queues t ≡ false) (own : in_sight G to.owner ≡ true) (is : lies G xs to ≡ Some (n, t))
    (inside : (path : Path) (k : ℕ) (u : ResolvedType) → IsSimple u → part (scope G) t path ≡ Some (k, u) → word new (n + k) ≡ f path)
    (outside : (i : ℕ) → (i < n) ⊎ (n + words (scope G) t ≤ i) → word new i ≡ word old i) where
  abbrev pub changed : Store
  changed = put_all (leaf_writes to f (leaves t)) store

  -- A location outside the words of the variable keeps its value.
  kept_apart : (l : Location) (i : ℕ) (w : ResolvedType) → IsCell w → lies G xs l ≡ Some (i, w) → (i < n) ⊎ (n + words (scope G) t ≤ i) → changed l ≡ store l
  kept_apart l i w c there apart =
      leaf_unwritten to f t store l (λ path v leaf e.
      let p = leaf_is_part (scope G) t path v sound free leaf in
      let found : ◌≡◌ {A = Part} (i, w) (n + p.0, p.1) = same_some (i, w) (n + p.0, p.1) (sym there ∙ (ap (lies G xs) e ∙ lies_under G xs to path n p.0 t p.1 is p.3)) in
      by p.0 (words (scope G) p.1) apart (ap (λ z. z.0) found) (part_fits (scope G) t path p.0 p.1 p.3) (cell_has_word (scope G) p.1 (simple_cell p.1 p.2)))
    where
      by : (k z : ℕ) → (i < n) ⊎ (n + words (scope G) t ≤ i) → i ≡ n + k → k + z ≤ words (scope G) t → 1 ≤ z → ⊥
      by k z (inl q) e fits one = omega (arith, q, e)
      by k z (inr q) e fits one = omega (arith, q, e, fits, one)

  not_there : (l : Location) → lies G xs l ≡ None → changed l ≡ store l
  not_there l none =
      leaf_unwritten to f t store l (λ path v leaf e.
      let p = leaf_is_part (scope G) t path v sound free leaf in
      some_is_not_none _ (sym (ap (lies G xs) e ∙ lies_under G xs to path n p.0 t p.1 is p.3) ∙ none))

  -- The part that has the word `k` of the variable.
  leaf_at : (k : ℕ) → k < words (scope G) t → (path : Path) × (u : ResolvedType) × IsSimple u × (part (scope G) t path ≡ Some (k, u)) × (lies G xs (under to path) ≡ Some (n + k, u))
  leaf_at k h = let p = word_is_part (scope G) t k sound free h in (p.0, p.1, p.2, p.3, lies_under G xs to p.0 n k t p.1 is p.3)

  cell_changed : (l : Location) (i : ℕ) (w : ResolvedType) → in_sight G l.owner ≡ true → IsCell w → lies G xs l ≡ Some (i, w) → CellMeans w (store l) (word old i) → CellMeans w (changed l) (word new i)
  cell_changed l i w mine c there means = by (inside_or_not n (words (scope G) t) i)
    where
      by : Inside n (words (scope G) t) i ⊎ ((i < n) ⊎ (n + words (scope G) t ≤ i)) → CellMeans w (changed l) (word new i)
      by (inr apart) =
          subst (λ z. CellMeans w z (word new i)) (sym (kept_apart l i w c there apart)) (subst (CellMeans w (store l)) (sym (outside i apart)) means)
      by (inl h) =
          let p = leaf_at h.0 h.1 in
          let same : l ≡ under to p.0 =
          separate G xs top stack l (under to p.0) i (n + h.0) w p.1 0 0 mine own (cell_head (scope G) w c) (cell_head (scope G) p.1 (simple_cell p.1 p.2)) there p.4 (omega (arith, h.2)) in
          let type : w ≡ p.1 = ap (λ z. z.1) (same_some {A = Part} (i, w) (n + h.0, p.1) (sym there ∙ (ap (lies G xs) same ∙ p.4))) in
          subst (λ z. CellMeans z (changed l) (word new i)) (sym type)
          (holds_simple p.1 (changed l) (word new i) p.2
          (ap changed same ∙ (leaf_written (scope G) to f t store p.0 h.0 p.1 sound p.2 p.3 ∙ ap Ordinal (sym (ap (word new) h.2 ∙ inside p.0 h.0 p.1 p.2 p.3)))))

  -- A word that belongs to no part of the variable keeps its value.
  apart_word : (i : ℕ) → ((path : Path) (k : ℕ) (u : ResolvedType) → IsSimple u → lies G xs (under to path) ≡ Some (n + k, u) → n + k ≡ i → ⊥) → word new i ≡ word old i
  apart_word i none = by (inside_or_not n (words (scope G) t) i)
    where
      by : Inside n (words (scope G) t) i ⊎ ((i < n) ⊎ (n + words (scope G) t ≤ i)) → word new i ≡ word old i
      by (inr apart) = outside i apart
      by (inl h) = let p = leaf_at h.0 h.1 in absurd (none p.0 h.0 p.1 p.2 p.4 (sym h.2))

  pub changed_keeps : KeepsGiven G store changed
  changed_keeps at s k sort there =
      rights_kept G store changed at s (λ i x v r none. not_there (under at (ByName x ∷ [])) (right_no_variable G xs at s k x (ClassLies sort there) none))

  -- No mark is changed.
  mark_unwritten : (at : Location) (s : System) (k : ℕ) → lies G [] at ≡ Some (k, component_type G s) → changed at ≡ store at
  mark_unwritten at s k there =
      leaf_unwritten to f t store at (λ path v leaf e.
      let p = leaf_is_part (scope G) t path v sound free leaf in
      let found : ◌≡◌ {A = Part} (k, component_type G s) (n + p.0, p.1)
      = same_some (k, component_type G s) (n + p.0, p.1) (sym (lies_any G xs at _ there) ∙ (ap (lies G xs) e ∙ lies_under G xs to path n p.0 t p.1 is p.3)) in
      subst IsSimple (sym (ap (λ z. z.1) found)) p.2)

  pub data_changed : DataMeans G xs (in_sight G) store old → DataMeans G xs (in_sight G) changed new
  data_changed D = record {
    cells = λ l i w mine there. cells l i w mine there (is_cell w);
    rights = λ at s k i x v mine cl r none.
        right_kept G store changed old new xs at s k i x v
        (not_there (under at (ByName x ∷ [])) (right_no_variable G xs at s k x cl none), apart_word (k + i) (λ path j u simple there e. by at s k i mine path j u simple there e (right_place G xs at s k i x v mine cl r)))
        (D.rights at s k i x v mine cl r none);
    given = λ at s k mine sort there set. changed_keeps at s k sort there (D.given at s k mine sort there (ap is_initialised (sym (mark_unwritten at s k there)) ∙ set));
  }
    where
      cells : (l : Location) (i : ℕ) (w : ResolvedType) → in_sight G l.owner ≡ true → lies G xs l ≡ Some (i, w) → IsCell w ⊎ ((v : Value) (z : ℤ) → CellMeans w v z) → CellMeans w (changed l) (word new i)
      cells l i w mine there (inl c) = cell_changed l i w mine c there (D.cells l i w mine there)
      cells l i w mine there (inr g) = g (changed l) (word new i)

      by : (at : Location) (s : System) (k i : ℕ) → in_sight G at.owner ≡ true → (path : Path) (j : ℕ) (u : ResolvedType) → IsSimple u → lies G xs (under to path) ≡ Some (n + j, u) → n + j ≡ k + i
          → OwnRight G (k + i) ⊎ ((lies G xs at ≡ Some (k, ComponentOf s (reported_members (scope G) s))) × InHead (scope G) (ComponentOf s (reported_members (scope G) s)) i × (1 ≤ i)) → ⊥
      by at s k i mine path j u simple there e (inl r) =
          cell_no_own_right G xs top stack (under to path) (n + j) (k + i) u 0 own (cell_head (scope G) u (simple_cell u simple)) there r (omega (arith, e))
      by at s k i mine path j u simple there e (inr r) =
          let same : under to path ≡ at =
          separate G xs top stack (under to path) at (n + j) k u (ComponentOf s (reported_members (scope G) s)) 0 i own mine (cell_head (scope G) u (simple_cell u simple)) r.1 there r.0 (omega (arith, e)) in
          let here : n + j ≡ k = ap (λ z. z.0) (same_some {A = Part} (n + j, u) (k, ComponentOf s (reported_members (scope G) s)) (sym there ∙ (ap (lies G xs) same ∙ r.0))) in
          absurd (omega (arith, e, here, r.2))

  pub activation_changed : (d : ℕ) (z : Activation) → activation_at d xs ≡ Some z → KeepsActivation G store changed old new d z
  activation_changed d z there = (
    λ x at v found by_reference. (
      not_there (local_named G d x) (reference_no_variable G xs d z x at v there found by_reference),
      apart_word (z.base + at) (λ path j u simple lying e.
          cell_no_reference G xs top stack (under to path) (n + j) u 0 d z x at v own (cell_head (scope G) u (simple_cell u simple)) lying there found by_reference (omega (arith, e))),
    ),
    λ y found none. (
      not_there (local_named G d z.routine.name) (result_no_variable G xs d z z.routine.name there none),
      apart_word z.base (λ path j u simple lying e.
          cell_no_result G xs top stack (under to path) (n + j) u 0 d z y own (cell_head (scope G) u (simple_cell u simple)) lying there found (omega (arith, e))),
    ),
  )
