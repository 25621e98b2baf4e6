-- The cells of a variable of any type are its leaves: each cell is a leaf with its start value, and
-- if names differ, each leaf is a part.
use Rattle.std.proofs.Common.{◌≡◌, ◌⊎◌, inl, inr, ℕ, ◌+◌, ◌*◌, Bool, true, false, [], ◌∷◌, ◌++◌, map, Option, Some, None, refl, ap, sym, subst, ◌∙◌}
use Rattle.std.specs.Prelude.{if◌then◌else◌}
use Rattle.std.proofs.lemmas.Bool.{true≢false}
use Rattle.std.specs.Str.{bytes_eq}
use Rattle.cp_model.specs.Abstract.{Class, Monitor, Name, Process, Sort}
use Rattle.cp_model.specs.Integers.{count_between}
use Rattle.cp_model.specs.Leaves.{Leaf, below_step, component_leaves, integers_from, leaves, leaves_of_members}
use Rattle.cp_model.specs.Locations.{ByIndex, ByName, Path}
use Rattle.cp_model.specs.Places.{within}
use Rattle.cp_model.specs.Stores.{Absent, Initialised, Ordinal, QueueHolds, Value}
use Rattle.cp_model.specs.Types.{ArrayOf, ComponentOf, GlobalScope, Members, MoreMembers, NoMembers, NoType, Queue, RecordOf, ResolvedType, Simple}
use Rattle.cp_law_typing.specs.SoundTypes.{has_member}
use Rattle.cp_law_typing.specs.StartValues.{IsIn}
use Rattle.cp_law_typing.specs.Words.{words}
use Rattle.cp_law_typing.proofs.Leaves.{in_either, in_first, in_flat, in_mapped, in_second, member_named, of_below, of_flat}
use Rattle.cp_law_typing.proofs.Names.{bytes_eq-refl, bytes_same}
use Rattle.cp_model_program.specs.Layout.{Part, distance, farther, head_words, member_part, of_class, part}
use Rattle.cp_model_machine.proofs.Apart.{IsCell, IsClass}
use Rattle.cp_model_machine.proofs.Finding.{some_is_not_none}
use Rattle.cp_model_machine.proofs.LeafWords.{counted_within}
use Rattle.cp_model_machine.proofs.StartLeaves.{first_name, found_farther, index_in, type_is}

abbrev pub start_value : ResolvedType → Value
start_value (Simple b low high start) = Ordinal start
start_value Queue = QueueHolds None
start_value (ComponentOf s inner) = Initialised false
start_value _ = Absent

-- ---- cells are leaves

mutual
  pub cell_is_leaf : (g : GlobalScope) (t : ResolvedType) (path : Path) (m : ℕ) (u : ResolvedType) → IsCell u → part g t path ≡ Some (m, u) → IsIn (path, start_value u) (leaves t)
  cell_is_leaf g (Simple b low high start) [] m u cell e = inl (ap (λ z. ([], start_value z)) (sym (type_is 0 (Simple b low high start) m u e)))
  cell_is_leaf g (Simple b low high start) (s ∷ path) m u cell e = absurd (some_is_not_none _ (sym e))
  cell_is_leaf g (ArrayOf low high t) [] m u cell e = absurd (subst IsCell (sym (type_is 0 (ArrayOf low high t) m u e)) cell)
  cell_is_leaf g (ArrayOf low high t) (ByName x ∷ path) m u cell e = absurd (some_is_not_none _ (sym e))
  cell_is_leaf g (ArrayOf low high t) (ByIndex i ∷ path) m u cell e = by (within low high i) refl e (λ k q. cell_is_leaf g t path k u cell q)
    where
      by : (c : Bool) → within low high i ≡ c → (if c then farther (distance low i * words g t) (part g t path) else None) ≡ Some (m, u)
          → ((k : ℕ) → part g t path ≡ Some (k, u) → IsIn (path, start_value u) (leaves t)) → IsIn (ByIndex i ∷ path, start_value u) (leaves (ArrayOf low high t))
      by false w e go = absurd (some_is_not_none _ (sym e))
      by true w e go =
          let k = found_farther (distance low i * words g t) (part g t path) m u e in
          in_flat (λ j. map (below_step (ByIndex j)) (leaves t)) i (ByIndex i ∷ path, start_value u) (integers_from low (count_between low high)) (index_in low high i w)
          (in_mapped (below_step (ByIndex i)) (path, start_value u) (leaves t) (go k.0 k.1))
  cell_is_leaf g (RecordOf ms) [] m u cell e = absurd (subst IsCell (sym (type_is 0 (RecordOf ms) m u e)) cell)
  cell_is_leaf g (RecordOf ms) (ByIndex i ∷ path) m u cell e = absurd (some_is_not_none _ (sym e))
  cell_is_leaf g (RecordOf ms) (ByName x ∷ path) m u cell e = member_cell_is_leaf g 0 ms x path m u cell e
  cell_is_leaf g Queue [] m u cell e = inl (ap (λ z. ([], start_value z)) (sym (type_is 0 Queue m u e)))
  cell_is_leaf g Queue (s ∷ path) m u cell e = absurd (some_is_not_none _ (sym e))
  cell_is_leaf g (ComponentOf s inner) [] m u cell e = by s.sort (subst IsCell (sym (type_is 0 (ComponentOf s inner) m u e)) cell)
    where
      by : (z : Sort) → IsClass z → IsIn ([], start_value u) (component_leaves z (leaves_of_members inner))
      by Class k = inl (ap (λ z. ([], start_value z)) (sym (type_is 0 (ComponentOf s inner) m u e)))
      by Monitor k = absurd k
      by Process k = absurd k
  cell_is_leaf g (ComponentOf s inner) (ByIndex i ∷ path) m u cell e = absurd (some_is_not_none _ (sym e))
  cell_is_leaf g (ComponentOf s inner) (ByName x ∷ path) m u cell e = by s.sort e (λ q. member_cell_is_leaf g (head_words g s) inner x path m u cell q)
    where
      by : (z : Sort) → of_class z (member_part g (head_words g s) inner x path) ≡ Some (m, u)
          → (member_part g (head_words g s) inner x path ≡ Some (m, u) → IsIn (ByName x ∷ path, start_value u) (leaves_of_members inner))
          → IsIn (ByName x ∷ path, start_value u) (component_leaves z (leaves_of_members inner))
      by Class h go = inr (go h)
      by Monitor h go = absurd (some_is_not_none _ (sym h))
      by Process h go = absurd (some_is_not_none _ (sym h))
  cell_is_leaf g NoType [] m u cell e = absurd (subst IsCell (sym (type_is 0 NoType m u e)) cell)
  cell_is_leaf g NoType (s ∷ path) m u cell e = absurd (some_is_not_none _ (sym e))

  pub member_cell_is_leaf : (g : GlobalScope) (at : ℕ) (ms : Members) (x : Name) (path : Path) (m : ℕ) (u : ResolvedType) → IsCell u
      → member_part g at ms x path ≡ Some (m, u) → IsIn (ByName x ∷ path, start_value u) (leaves_of_members ms)
  member_cell_is_leaf g at NoMembers x path m u cell e = absurd (some_is_not_none _ (sym e))
  member_cell_is_leaf g at (MoreMembers y t ms) x path m u cell e =
      by (bytes_eq x y) refl e (λ k q. cell_is_leaf g t path k u cell q) (λ q. member_cell_is_leaf g (at + words g t) ms x path m u cell q)
    where
      by : (c : Bool) → bytes_eq x y ≡ c → (if c then farther at (part g t path) else member_part g (at + words g t) ms x path) ≡ Some (m, u)
          → ((k : ℕ) → part g t path ≡ Some (k, u) → IsIn (path, start_value u) (leaves t))
          → (member_part g (at + words g t) ms x path ≡ Some (m, u) → IsIn (ByName x ∷ path, start_value u) (leaves_of_members ms))
          → IsIn (ByName x ∷ path, start_value u) (map (below_step (ByName y)) (leaves t) ++ leaves_of_members ms)
      by true is e here later =
          let k = found_farther at (part g t path) m u e in
          in_first (ByName x ∷ path, start_value u) (map (below_step (ByName y)) (leaves t)) (leaves_of_members ms)
          (subst (λ z. IsIn (ByName z ∷ path, start_value u) (map (below_step (ByName y)) (leaves t))) (sym (bytes_same x y is))
          (in_mapped (below_step (ByName y)) (path, start_value u) (leaves t) (here k.0 k.1)))
      by false is e here later = in_second (ByName x ∷ path, start_value u) (map (below_step (ByName y)) (leaves t)) (leaves_of_members ms) (later e)

-- ---- leaves are parts

-- The members of a type have distinct names.
abbrev mutual
  pub Named : ResolvedType → Type 0
  Named (Simple b low high start) = Unit {0}
  Named (ArrayOf low high t) = Named t
  Named (RecordOf ms) = NamedMembers ms
  Named Queue = Unit {0}
  Named (ComponentOf s inner) = NamedMembers inner
  Named NoType = Unit {0}

  pub NamedMembers : Members → Type 0
  NamedMembers NoMembers = Unit {0}
  NamedMembers (MoreMembers x t ms) = Named t × (has_member x ms ≡ false) × NamedMembers ms

abbrev LiesThere : Option Part → Type 0
LiesThere o = (m : ℕ) × (u : ResolvedType) × (o ≡ Some (m, u))

farther_there : (n : ℕ) (o : Option Part) → LiesThere o → LiesThere (farther n o)
farther_there n o h = (n + h.0, h.1, ap (farther n) h.2)

mutual
  pub leaf_lies : (g : GlobalScope) (t : ResolvedType) (path : Path) (v : Value) → Named t → IsIn (path, v) (leaves t) → LiesThere (part g t path)
  leaf_lies g (Simple b low high start) path v named (inl h) = (0, Simple b low high start, ap (λ (z : Leaf). part g (Simple b low high start) z.0) h)
  leaf_lies g (Simple b low high start) path v named (inr h) = absurd h
  leaf_lies g (ArrayOf low high t) path v named h =
      let i = of_flat (λ j. map (below_step (ByIndex j)) (leaves t)) (path, v) (integers_from low (count_between low high)) h in
      let b = of_below (ByIndex i.0) path v (leaves t) i.2 in
      subst (λ z. LiesThere (part g (ArrayOf low high t) z)) (sym b.1)
      (subst (λ z. LiesThere (if z then farther (distance low i.0 * words g t) (part g t b.0) else None)) (sym (counted_within low high i.0 i.1))
      (farther_there (distance low i.0 * words g t) (part g t b.0) (leaf_lies g t b.0 v named b.2)))
  leaf_lies g (RecordOf ms) path v named h =
      let m = member_leaf_lies g 0 ms path v named h in subst (λ z. LiesThere (part g (RecordOf ms) z)) (sym m.2) m.3
  leaf_lies g Queue path v named (inl h) = (0, Queue, ap (λ (z : Leaf). part g Queue z.0) h)
  leaf_lies g Queue path v named (inr h) = absurd h
  leaf_lies g (ComponentOf s inner) path v named h = by s.sort refl h (λ k. member_leaf_lies g (head_words g s) inner path v named k)
    where
      by : (z : Sort) → s.sort ≡ z → IsIn (path, v) (component_leaves z (leaves_of_members inner))
          → (IsIn (path, v) (leaves_of_members inner) → (x : Name) × (rest : Path) × (path ≡ ByName x ∷ rest) × LiesThere (member_part g (head_words g s) inner x rest))
          → LiesThere (part g (ComponentOf s inner) path)
      by Class sort (inl h) go = (0, ComponentOf s inner, ap (λ (z : Leaf). part g (ComponentOf s inner) z.0) h)
      by Class sort (inr h) go =
          let m = go h in
          subst (λ z. LiesThere (part g (ComponentOf s inner) z)) (sym m.2)
          (subst (λ z. LiesThere (of_class z (member_part g (head_words g s) inner m.0 m.1))) (sym sort) m.3)
      by Monitor sort h go = absurd h
      by Process sort h go = absurd h
  leaf_lies g NoType path v named h = absurd h

  pub member_leaf_lies : (g : GlobalScope) (at : ℕ) (ms : Members) (path : Path) (v : Value) → NamedMembers ms → IsIn (path, v) (leaves_of_members ms)
      → (x : Name) × (rest : Path) × (path ≡ ByName x ∷ rest) × LiesThere (member_part g at ms x rest)
  member_leaf_lies g at NoMembers path v named h = absurd h
  member_leaf_lies g at (MoreMembers y t ms) path v named h =
      by (in_either (path, v) (map (below_step (ByName y)) (leaves t)) (leaves_of_members ms) h) (λ q k. leaf_lies g t q v named.0 k) (member_leaf_lies g (at + words g t) ms path v named.2)
    where
      by : IsIn (path, v) (map (below_step (ByName y)) (leaves t)) ⊎ IsIn (path, v) (leaves_of_members ms) → ((q : Path) → IsIn (q, v) (leaves t) → LiesThere (part g t q))
          → (IsIn (path, v) (leaves_of_members ms) → (x : Name) × (rest : Path) × (path ≡ ByName x ∷ rest) × LiesThere (member_part g (at + words g t) ms x rest))
          → (x : Name) × (rest : Path) × (path ≡ ByName x ∷ rest) × LiesThere (member_part g at (MoreMembers y t ms) x rest)
      by (inl k) first go =
          let b = of_below (ByName y) path v (leaves t) k in (
            y,
            b.0,
            b.1,
            subst (λ z. LiesThere (if z then farther at (part g t b.0) else member_part g (at + words g t) ms y b.0)) (sym (bytes_eq-refl y))
                (farther_there at (part g t b.0) (first b.0 b.2)),
          )
      by (inr k) first go =
          let r = go k in
          let n = member_named ms path v k in
          let same : r.0 ≡ n.0 = ap first_name (sym r.2 ∙ n.2) in (
            r.0,
            r.1,
            r.2,
            other r.0 r.1 (bytes_eq r.0 y) refl (ap (λ z. has_member z ms) same ∙ n.3) r.3,
          )
        where
          other : (x : Name) (rest : Path) (c : Bool) → bytes_eq x y ≡ c → has_member x ms ≡ true → LiesThere (member_part g (at + words g t) ms x rest)
              → LiesThere (if c then farther at (part g t rest) else member_part g (at + words g t) ms x rest)
          other x rest false is has lies = lies
          other x rest true is has lies = absurd (true≢false (sym has ∙ (ap (λ z. has_member z ms) (bytes_same x y is) ∙ named.1)))
