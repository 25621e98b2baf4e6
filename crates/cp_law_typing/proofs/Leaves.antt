-- The leaves of a sound type, and of the members of a system type, have distinct paths, so each has
-- one start value.
use Rattle.std.proofs.Common.{◌≡◌, ◌⊎◌, inl, inr, Bool, true, false, ◌||◌, List, [], ◌∷◌, ◌++◌, map, flat_map, bytes_eq, refl, ap, sym, subst, ◌∙◌}
use Rattle.std.proofs.lemmas.Bool.{true≢false}
use Rattle.cp_model.specs.Abstract.{Name}
use Rattle.cp_model.specs.Types.{ArrayOf, ComponentOf, Members, MoreMembers, NoMembers, NoType, Queue, RecordOf, ResolvedType, Simple}
use Rattle.cp_model.specs.Locations.{ByIndex, ByName, Path, PathStep}
use Rattle.cp_model.specs.Stores.{Value}
use Rattle.cp_model.specs.Integers.{count_between}
use Rattle.cp_model.specs.Leaves.{Leaf, below_step, integers_from, leaves, leaves_of_members}
use Rattle.cp_law_typing.specs.SoundTypes.{SoundMembers, SoundType, has_member}
use Rattle.cp_law_typing.specs.StartValues.{IsIn}
use Rattle.cp_law_typing.proofs.Names.{bytes_eq-refl}

-- ---- elements of lists

pub in_first : {A : Type 0} (x : A) (xs ys : List A) → IsIn x xs → IsIn x (xs ++ ys)
in_first x [] ys h = absurd h
in_first x (y ∷ xs) ys (inl h) = inl h
in_first x (y ∷ xs) ys (inr h) = inr (in_first x xs ys h)

pub in_second : {A : Type 0} (x : A) (xs ys : List A) → IsIn x ys → IsIn x (xs ++ ys)
in_second x [] ys h = h
in_second x (y ∷ xs) ys h = inr (in_second x xs ys h)

pub in_either : {A : Type 0} (x : A) (xs ys : List A) → IsIn x (xs ++ ys) → IsIn x xs ⊎ IsIn x ys
in_either x [] ys h = inr h
in_either x (y ∷ xs) ys (inl h) = inl (inl h)
in_either x (y ∷ xs) ys (inr h) = elim (in_either x xs ys h) [ inl g ↦ inl (inr g) | inr g ↦ inr g ]

pub in_mapped : {A B : Type 0} (f : A → B) (x : A) (xs : List A) → IsIn x xs → IsIn (f x) (map f xs)
in_mapped f x [] h = absurd h
in_mapped f x (y ∷ xs) (inl h) = inl (ap f h)
in_mapped f x (y ∷ xs) (inr h) = inr (in_mapped f x xs h)

pub of_mapped : {A B : Type 0} (f : A → B) (y : B) (xs : List A) → IsIn y (map f xs) → (x : A) × IsIn x xs × (y ≡ f x)
of_mapped f y [] h = absurd h
of_mapped f y (x ∷ xs) (inl h) = (x, inl refl, h)
of_mapped f y (x ∷ xs) (inr h) = let k = of_mapped f y xs h in (k.0, inr k.1, k.2)

pub in_flat : {A B : Type 0} (f : A → List B) (x : A) (y : B) (xs : List A) → IsIn x xs → IsIn y (f x) → IsIn y (flat_map f xs)
in_flat f x y [] h g = absurd h
in_flat f x y (z ∷ xs) (inl h) g = in_first y (f z) (flat_map f xs) (subst (λ w. IsIn y (f w)) h g)
in_flat f x y (z ∷ xs) (inr h) g = in_second y (f z) (flat_map f xs) (in_flat f x y xs h g)

pub of_flat : {A B : Type 0} (f : A → List B) (y : B) (xs : List A) → IsIn y (flat_map f xs) → (x : A) × IsIn x xs × IsIn y (f x)
of_flat f y [] h = absurd h
of_flat f y (x ∷ xs) h = elim (in_either y (f x) (flat_map f xs) h) [
  | inl g ↦ (x, inl refl, g)
  | inr g ↦ let k = of_flat f y xs g in (k.0, inr k.1, k.2)
]

-- ---- one value at each path

abbrev pub Functional : List Leaf → Type 0
Functional ls = (path : Path) (v w : Value) → IsIn (path, v) ls → IsIn (path, w) ls → v ≡ w

-- a leaf below a step of a path
pub of_below : (s : PathStep) (path : Path) (v : Value) (ls : List Leaf) → IsIn (path, v) (map (below_step s) ls) → (rest : Path) × (path ≡ s ∷ rest) × IsIn (rest, v) ls
of_below s path v ls h =
    let k : (x : Leaf) × IsIn x ls × ((path, v) ≡ below_step s x) = of_mapped (below_step s) (path, v) ls h in
    (k.0.0, ap (λ z. z.0) k.2, subst (λ w. IsIn (k.0.0, w) ls) (sym (ap (λ z. z.1) k.2)) k.1)

pub step_same : (s t : PathStep) (p q : Path) → s ∷ p ≡ t ∷ q → (s ≡ t) × (p ≡ q)
step_same s t p q h = (cc, cc)

by_name_same : (x y : Name) → ByName x ≡ ByName y → x ≡ y
by_name_same x y h = cc

abbrev pub GoodMembers : Members → Type 0
GoodMembers NoMembers = Unit {0}
GoodMembers (MoreMembers x t ps) = Functional (leaves t) × (has_member x ps ≡ false) × GoodMembers ps

-- the first step of a member's leaf is the name of a member
pub member_named : (ps : Members) (path : Path) (v : Value) → IsIn (path, v) (leaves_of_members ps) → (x : Name) × (rest : Path) × (path ≡ ByName x ∷ rest) × (has_member x ps ≡ true)
member_named NoMembers path v h = absurd h
member_named (MoreMembers x t ps) path v h = go (in_either (path, v) (map (below_step (ByName x)) (leaves t)) (leaves_of_members ps) h) (member_named ps path v)
  where
    later : (y : Name) → has_member y ps ≡ true → (b : Bool) → (b || has_member y ps) ≡ true
    later y h true = refl
    later y h false = h

    go : IsIn (path, v) (map (below_step (ByName x)) (leaves t)) ⊎ IsIn (path, v) (leaves_of_members ps)
        → (IsIn (path, v) (leaves_of_members ps) → (x : Name) × (rest : Path) × (path ≡ ByName x ∷ rest) × (has_member x ps ≡ true))
        → (y : Name) × (rest : Path) × (path ≡ ByName y ∷ rest) × (has_member y (MoreMembers x t ps) ≡ true)
    go (inl g) rec = let k = of_below (ByName x) path v (leaves t) g in (x, k.0, k.1, ap (λ b. b || has_member x ps) (bytes_eq-refl x))
    go (inr g) rec = let k = rec g in (k.0, k.1, k.2, later k.0 k.3 (bytes_eq k.0 x))

pub members_functional : (ps : Members) → GoodMembers ps → Functional (leaves_of_members ps)
members_functional NoMembers good path v w h g = absurd h
members_functional (MoreMembers x t ps) good path v w h g =
    go (in_either (path, v) (map (below_step (ByName x)) (leaves t)) (leaves_of_members ps) h) (in_either (path, w) (map (below_step (ByName x)) (leaves t)) (leaves_of_members ps) g)
    (members_functional ps good.2 path v w)
  where
    -- no other member has the name of the first one
    clash : (u : Value) (rest : Path) → path ≡ ByName x ∷ rest → IsIn (path, u) (leaves_of_members ps) → v ≡ w
    clash u rest is there =
        let k = member_named ps path u there in
        absurd (true≢false (sym k.3 ∙ ap (λ z. has_member z ps) (by_name_same k.0 x (step_same (ByName k.0) (ByName x) k.1 rest (sym k.2 ∙ is)).0) ∙ good.1))

    go : IsIn (path, v) (map (below_step (ByName x)) (leaves t)) ⊎ IsIn (path, v) (leaves_of_members ps)
        → IsIn (path, w) (map (below_step (ByName x)) (leaves t)) ⊎ IsIn (path, w) (leaves_of_members ps)
        → (IsIn (path, v) (leaves_of_members ps) → IsIn (path, w) (leaves_of_members ps) → v ≡ w) → v ≡ w
    go (inl h) (inl g) rec =
        let a = of_below (ByName x) path v (leaves t) h in
        let b = of_below (ByName x) path w (leaves t) g in
        good.0 a.0 v w a.2 (subst (λ q. IsIn (q, w) (leaves t)) (sym (step_same (ByName x) (ByName x) a.0 b.0 (sym a.1 ∙ b.1)).1) b.2)
    go (inl h) (inr g) rec = let a = of_below (ByName x) path v (leaves t) h in clash w a.0 a.1 g
    go (inr h) (inl g) rec = let b = of_below (ByName x) path w (leaves t) g in clash v b.0 b.1 h
    go (inr h) (inr g) rec = rec h g

mutual
  pub sound_functional : (t : ResolvedType) → SoundType t → Functional (leaves t)
  sound_functional (Simple b low high start) s path v w (inl h) (inl g) = ap (λ z. z.1) (h ∙ sym g)
  sound_functional (Simple b low high start) s path v w (inl h) (inr g) = absurd g
  sound_functional (Simple b low high start) s path v w (inr h) g = absurd h
  sound_functional Queue s path v w (inl h) (inl g) = ap (λ z. z.1) (h ∙ sym g)
  sound_functional Queue s path v w (inl h) (inr g) = absurd g
  sound_functional Queue s path v w (inr h) g = absurd h
  sound_functional (ArrayOf low high t) s path v w h g =
      let a = of_flat (λ i. map (below_step (ByIndex i)) (leaves t)) (path, v) (integers_from low (count_between low high)) h in
      let b = of_flat (λ i. map (below_step (ByIndex i)) (leaves t)) (path, w) (integers_from low (count_between low high)) g in
      let c = of_below (ByIndex a.0) path v (leaves t) a.2 in
      let d = of_below (ByIndex b.0) path w (leaves t) b.2 in
      sound_functional t s.1 c.0 v w c.2 (subst (λ q. IsIn (q, w) (leaves t)) (sym (step_same (ByIndex a.0) (ByIndex b.0) c.0 d.0 (sym c.1 ∙ d.1)).1) d.2)
  sound_functional (RecordOf ps) s path v w h g = members_functional ps (sound_good ps s) path v w h g
  sound_functional (ComponentOf y inner) s path v w h g = absurd s
  sound_functional NoType s path v w h g = absurd s

  sound_good : (ps : Members) → SoundMembers ps → GoodMembers ps
  sound_good NoMembers s = tt
  sound_good (MoreMembers x t ps) s = (sound_functional t s.0, s.1, sound_good ps s.2)
