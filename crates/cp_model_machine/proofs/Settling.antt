-- The parameters of a class or a monitor are stored in it, in the words after its mark.
--
-- An address among the words after the mark is that of one parameter, which holds what was stored
-- at its name; any other address, and any other location, is left as it was.
use Rattle.std.proofs.Common.{Bool, List, None, Some, [], ap, arith, false, inl, inr, length, refl, subst, suc, sym, true, ℕ, ℤ, ◌++◌, ◌+◌, ◌<◌, ◌∙◌, ◌∷◌, ◌≡◌, ◌≤◌, ◌⊎◌}
use Rattle.cp_model.specs.Abstract.{Class, Name, System}
use Rattle.cp_model.specs.Continuations.{Task}
use Rattle.cp_model.specs.Declarations.{Variable, declarations, is_component}
use Rattle.cp_model.specs.Environments.{permanent_variables}
use Rattle.cp_model.specs.Locations.{ByName, Location, Path, same_location, under}
use Rattle.cp_model.specs.Stores.{Store, Value}
use Rattle.cp_model.specs.Types.{ResolvedType}
use Rattle.cp_law_typing.specs.Declared.{Distinct}
use Rattle.cp_law_typing.specs.StartValues.{IsIn}
use Rattle.cp_law_typing.specs.Words.{words}
use Rattle.cp_law_typing.proofs.Leaves.{step_same}
use Rattle.cp_model_program.specs.IsProgramFor.{system_of_process}
use Rattle.cp_model_program.specs.Layout.{Part, activation_words, component_words, member, right, rights}
use Rattle.cp_model_program.specs.Starts.{word}
use Rattle.cp_model_machine.specs.PrivateStates.{PrivateState}
use Rattle.cp_model_machine.specs.Means.{CellMeans}
use Rattle.cp_model_machine.specs.Addresses.{Activation, ClassLies, ComponentLies, Ground, HasRights, IsGiven, RightMeans, activation_at, activations, component_type, in_sight, lies, scope}
use Rattle.cp_model_machine.specs.Remaining.{site}
use Rattle.cp_model_machine.specs.PartOf.{DataMeans, RunsOn, components}
use Rattle.cp_model_machine.proofs.Apart.{InHead, IsCell, cell_head}
use Rattle.cp_model_machine.proofs.Copying.{Inside, inside_or_not}
use Rattle.cp_model_machine.proofs.Declared.{distinct_first}
use Rattle.cp_model_machine.proofs.Finding.{some_is_not_none}
use Rattle.cp_model_machine.proofs.Heres.{lies_any, member_lies}
use Rattle.cp_model_machine.proofs.Holding.{without_zero}
use Rattle.cp_model_machine.proofs.InitOffsets.{Offset, of_filter, offset_at, offset_within, right_is, right_is_no_member, right_same}
use Rattle.cp_model_machine.proofs.Keeping.{KeepsActivation, each_kept, local_named, right_kept, right_no_variable, right_place, right_within}
use Rattle.cp_model_machine.proofs.Placing.{IsRightWord, Placed, component_same}
use Rattle.cp_model_machine.proofs.RunningOn.{runs_kept, runs_stacked}
use Rattle.cp_model_machine.proofs.Owned.{OwnRight, reference_inside, result_inside}
use Rattle.cp_model_machine.proofs.Separate.{cell_below, cell_no_own_right, cell_no_reference, cell_no_result, own_right_below, separate}
use Rattle.cp_model_machine.proofs.Stacks.{Stacked, found_inside}
use Rattle.cp_law_typing.proofs.Locations.{location_is, location_itself}
use Rattle.cp_model_machine.proofs.Writing.{is_cell}
use Rattle.cp_model_machine.proofs.Given.{KeepsGiven, all_kept, rights_kept}
use Rattle.std.proofs.lemmas.Bool.{true≢false}
use Rattle.cp_model.specs.CallSteps.{is_initialised}
use Rattle.cp_model.proofs.Options.{same_some}

-- The location at which a parameter of the component is stored.
abbrev pub stored_at : Location → Name → Location
stored_at at x = under at (ByName x ∷ [])

-- What changed: the parameters of a component, at their names and in their words.
pub record Settled (G : Ground) (top : ℕ) (store after : Store) (old new : List ℤ) (at : Location) (c : ℕ) (s : System) : Type 0 where
  pub values : (p : Name × Variable) (k : ℕ) → IsIn p (declarations (scope G) s.parameters) → is_component p.1.type ≡ false → member (scope G) s p.0 ≡ Some (k, p.1.type)
      → CellMeans p.1.type (after (stored_at at p.0)) (word new (c + k))
  pub rights : (p : Name × Variable) (k : ℕ) → IsIn p (declarations (scope G) s.parameters) → is_component p.1.type ≡ true → right (scope G) s p.0 ≡ Some (k, p.1)
      → RightMeans G p.1.type (after (stored_at at p.0)) (c + k) (word new (c + k))
  pub given : (p : Name × Variable) (k : ℕ) → IsIn p (declarations (scope G) s.parameters) → is_component p.1.type ≡ true → right (scope G) s p.0 ≡ Some (k, p.1) → IsGiven p.1.type (after (stored_at at p.0))
  pub outside : (i : ℕ) → (i < top) ⊎ (G.own ≤ i) → (i < c + 1) ⊎ (c + 1 + length (declarations (scope G) s.parameters) ≤ i) → word new i ≡ word old i
  pub unwritten : (l : Location) → ((p : Name × Variable) → IsIn p (declarations (scope G) s.parameters) → l ≡ stored_at at p.0 → ⊥) → after l ≡ store l

abbrev pub last_name : Path → Name
last_name [] = []
last_name (ByName x ∷ []) = x
last_name (s ∷ p) = last_name p

never_empty : (q : Path) (y : Name) → ◌≡◌ {A = Path} [] (q ++ (ByName y ∷ [])) → ⊥
never_empty [] y e = cc
never_empty (u ∷ q) y e = cc

pub snoc_same : (p q : Path) (x y : Name) → p ++ (ByName x ∷ []) ≡ q ++ (ByName y ∷ []) → (p ≡ q) × (x ≡ y)
snoc_same [] [] x y e = (refl, ap last_name e)
snoc_same [] (t ∷ q) x y e = absurd (never_empty q y (step_same (ByName x) t [] (q ++ (ByName y ∷ [])) e).1)
snoc_same (s ∷ p) [] x y e = absurd (never_empty p x (sym (step_same s (ByName y) (p ++ (ByName x ∷ [])) [] e).1))
snoc_same (s ∷ p) (t ∷ q) x y e =
    let k = step_same s t (p ++ (ByName x ∷ [])) (q ++ (ByName y ∷ [])) e in
    let r = snoc_same p q x y k.1 in
    (λ i. k.0 i ∷ r.0 i, r.1)

module _ (G : Ground) (xs : List Activation) (top : ℕ) (stack : Stacked G top xs) (store after : Store) (old new : List ℤ) (at : Location) (c : ℕ) (s : System)
    (L : Placed G xs top at c s) (distinct : Distinct (permanent_variables (scope G) s))
    (one : (p : Name × Variable) → IsIn p (declarations (scope G) s.parameters) → is_component p.1.type ≡ false → (words (scope G) p.1.type ≡ 1) × IsCell p.1.type)
    (offsets : (p : Name × Variable) → IsIn p (declarations (scope G) s.parameters) → (k : ℕ) × Offset (scope G) s p k)
    (S : Settled G top store after old new at c s) where
  abbrev passed : List (Name × Variable)
  passed = declarations (scope G) s.parameters

  own_names : Distinct (declarations (scope G) s.parameters)
  own_names = distinct_first (declarations (scope G) s.parameters) (declarations (scope G) s.variables) distinct

  value_lies : (p : Name × Variable) (k : ℕ) → member (scope G) s p.0 ≡ Some (k, p.1.type) → lies G xs (stored_at at p.0) ≡ Some (c + k, p.1.type)
  value_lies p k h = member_lies G xs at s c p.0 k p.1.type L.there h

  right_lies_not : (p : Name × Variable) → IsIn p (declarations (scope G) s.parameters) → is_component p.1.type ≡ true → lies G xs (stored_at at p.0) ≡ None
  right_lies_not p i component = right_no_variable G xs at s c p.0 L.there (right_is_no_member (scope G) s p distinct i component)

  -- The rights of the component come after its mark.
  right_in_head : (p : Name × Variable) (k : ℕ) → right (scope G) s p.0 ≡ Some (k, p.1) → IsRightWord G s k
  right_in_head p k h = let w = right_within 1 (rights (scope G) s) p.0 k p.1 h in (w.0, omega (arith, w.1))

  -- An address in use is that of a parameter, or outside the parameters.
  abbrev Around : ℕ → Type 0
  Around i =
      ((p : Name × Variable) × (k : ℕ) × IsIn p (declarations (scope G) s.parameters) × Offset (scope G) s p k × (i ≡ c + k))
      ⊎ ((i < c + 1) ⊎ (c + 1 + length (declarations (scope G) s.parameters) ≤ i))

  around : (i : ℕ) → Around i
  around i = by (inside_or_not (c + 1) (length (declarations (scope G) s.parameters)) i)
    where
      by : Inside (c + 1) (length (declarations (scope G) s.parameters)) i ⊎ ((i < c + 1) ⊎ (c + 1 + length (declarations (scope G) s.parameters) ≤ i)) → Around i
      by (inr apart) = inr apart
      by (inl h) =
          let o = offset_at (scope G) s own_names one (suc h.0) (omega arith) (omega (arith, h.1)) in
          inl (o.0, suc h.0, o.1, o.2, omega (arith, h.2))

  within : (p : Name × Variable) (k i : ℕ) → IsIn p (declarations (scope G) s.parameters) → Offset (scope G) s p k → i ≡ c + k → (i < c + 1) ⊎ (c + 1 + length (declarations (scope G) s.parameters) ≤ i) → ⊥
  within p k i there' o e apart = by apart (offset_within (scope G) s own_names one p k there' o)
    where
      by : (i < c + 1) ⊎ (c + 1 + length (declarations (scope G) s.parameters) ≤ i) → (1 ≤ k) × (k ≤ length (declarations (scope G) s.parameters)) → ⊥
      by (inl q) w = omega (arith, q, e, w.0)
      by (inr q) w = omega (arith, q, e, w.1)

  -- What is outside is not stored.
  cell_unwritten : (l : Location) (i : ℕ) (t : ResolvedType) → lies G xs l ≡ Some (i, t) → (i < c + 1) ⊎ (c + 1 + length (declarations (scope G) s.parameters) ≤ i) → after l ≡ store l
  cell_unwritten l i t lying apart = S.unwritten l (λ p there' e. by p there' e (offsets p there'))
    where
      by : (p : Name × Variable) → IsIn p (declarations (scope G) s.parameters) → l ≡ stored_at at p.0 → (k : ℕ) × Offset (scope G) s p k → ⊥
      by p there' e (k, inl h) = some_is_not_none _ (sym lying ∙ (ap (lies G xs) e ∙ right_lies_not p there' h.0))
      by p there' e (k, inr h) =
          within p k i there' (inr h) (ap (λ z. z.0) (same_some {A = Part} (i, t) (c + k, p.1.type) (sym lying ∙ (ap (lies G xs) e ∙ value_lies p k h.1)))) apart

  cells_settled : (l : Location) (i : ℕ) (t : ResolvedType) → in_sight G l.owner ≡ true → IsCell t → lies G xs l ≡ Some (i, t) → CellMeans t (store l) (word old i) → CellMeans t (after l) (word new i)
  cells_settled l i t mine cell lying means = by (around i)
    where
      below : (i < top) ⊎ (G.own ≤ i)
      below = without_zero G top i (cell_below G xs top stack l i t 0 mine (cell_head (scope G) t cell) lying)

      by : Around i → CellMeans t (after l) (word new i)
      by (inr apart) =
          subst (λ z. CellMeans t z (word new i)) (sym (cell_unwritten l i t lying apart)) (subst (CellMeans t (store l)) (sym (S.outside i below apart)) means)
      by (inl (p, k, there', inl h, e)) =
          let place_is : i ≡ c = L.heads l i t 0 k mine (cell_head (scope G) t cell) lying (right_in_head p k h.1) (omega (arith, e)) in
          absurd (omega (arith, place_is, e, (offset_within (scope G) s own_names one p k there' (inl h)).0))
      by (inl (p, k, there', inr h, e)) =
          let same : l ≡ stored_at at p.0 =
          separate G xs top stack l (stored_at at p.0) i (c + k) t p.1.type 0 0 mine L.own (cell_head (scope G) t cell) (cell_head (scope G) p.1.type h.2) lying (value_lies p k h.1) (omega (arith, e)) in
          let type : t ≡ p.1.type = ap (λ z. z.1) (same_some {A = Part} (i, t) (c + k, p.1.type) (sym lying ∙ (ap (lies G xs) same ∙ value_lies p k h.1))) in
          subst (λ z. CellMeans z (after l) (word new i)) (sym type)
          (subst (λ z. CellMeans p.1.type (after z) (word new i)) (sym same) (subst (λ z. CellMeans p.1.type (after (stored_at at p.0)) (word new z)) (sym e) (S.values p k there' h.0 h.1)))

  -- A right of another component, or another right.
  rights_settled : (j : Location) (r : System) (n m : ℕ) (x : Name) (v : Variable) → in_sight G j.owner ≡ true → ComponentLies G j r n → right (scope G) r x ≡ Some (m, v) → member (scope G) r x ≡ None
      → RightMeans G v.type (store (stored_at j x)) (n + m) (word old (n + m)) → RightMeans G v.type (after (stored_at j x)) (n + m) (word new (n + m))
  rights_settled j r n m x v mine cl is' none means = by (around (n + m)) (right_place G xs j r n m x v mine cl is')
    where
      below : OwnRight G (n + m) ⊎ ((lies G xs j ≡ Some (n, component_type G r)) × InHead (scope G) (component_type G r) m × (1 ≤ m)) → (n + m < top) ⊎ (G.own ≤ n + m)
      below (inl o) = own_right_below G xs top stack (n + m) o
      below (inr o) = cell_below G xs top stack j n (component_type G r) m mine o.1 o.0

      same_class : j ≡ at → (n ≡ c) × (r ≡ s)
      same_class e = component_same G j at r s n c cl L.there e

      unwritten : (n + m < c + 1) ⊎ (c + 1 + length (declarations (scope G) s.parameters) ≤ n + m) → after (stored_at j x) ≡ store (stored_at j x)
      unwritten apart = S.unwritten (stored_at j x) (λ p there' e. inner p there' e (offsets p there'))
        where
          inner : (p : Name × Variable) → IsIn p (declarations (scope G) s.parameters) → stored_at j x ≡ stored_at at p.0 → (k : ℕ) × Offset (scope G) s p k → ⊥
          inner p there' e (k, inr h) = some_is_not_none _ (sym (value_lies p k h.1) ∙ (ap (lies G xs) (sym e) ∙ right_no_variable G xs j r n x cl none))
          inner p there' e (k, inl h) =
              let z = snoc_same j.path at.path x p.0 (ap (λ (l : Location). l.path) e) in
              let same : j ≡ at = λ i. record { owner = (e i).owner; path = z.0 i } in
              let q = same_class same in
              let found : ◌≡◌ {A = ℕ × Variable} (m, v) (k, p.1) = same_some (m, v) (k, p.1) (sym is' ∙ (ap (λ y. right (scope G) y x) q.1 ∙ (ap (right (scope G) s) z.1 ∙ h.1))) in
              within p k (n + m) there' (inl h) (λ i. q.0 i + (found i).0) apart

      by : Around (n + m) → OwnRight G (n + m) ⊎ ((lies G xs j ≡ Some (n, component_type G r)) × InHead (scope G) (component_type G r) m × (1 ≤ m))
          → RightMeans G v.type (after (stored_at j x)) (n + m) (word new (n + m))
      by (inr apart) o = right_kept G store after old new xs j r n m x v (unwritten apart, S.outside (n + m) (below o) apart) means
      by (inl (p, k, there', inr h, e)) (inl o) =
          absurd (cell_no_own_right G xs top stack (stored_at at p.0) (c + k) (n + m) p.1.type 0 L.own (cell_head (scope G) p.1.type h.2) (value_lies p k h.1) o (omega (arith, e)))
      by (inl (p, k, there', inr h, e)) (inr o) =
          let same : stored_at at p.0 ≡ j =
          separate G xs top stack (stored_at at p.0) j (c + k) n p.1.type (component_type G r) 0 m L.own mine (cell_head (scope G) p.1.type h.2) o.1 (value_lies p k h.1) o.0 (omega (arith, e)) in
          let place_is : c + k ≡ n = ap (λ z. z.0) (same_some {A = Part} (c + k, p.1.type) (n, component_type G r) (sym (value_lies p k h.1) ∙ (ap (lies G xs) same ∙ o.0))) in
          absurd (omega (arith, e, place_is, o.2))
      by (inl (p, k, there', inl h, e)) o =
          let same : j ≡ at = L.rights j r n m k x v mine cl is' (right_in_head p k h.1) e in
          let q = same_class same in
          let far : m ≡ k = omega (arith, e, q.0) in
          let found = right_same 1 (rights (scope G) s) x p.0 k v p.1 (ap (λ y. right (scope G) y x) (sym q.1) ∙ (is' ∙ ap (λ z. Some (z, v)) far)) h.1 in
          subst (λ z. RightMeans G z.type (after (stored_at j x)) (n + m) (word new (n + m))) (sym found.1)
          (subst (λ l. RightMeans G p.1.type (after l) (n + m) (word new (n + m))) (sym (λ i. stored_at (same i) (found.0 i)))
          (subst (λ z. RightMeans G p.1.type (after (stored_at at p.0)) z (word new z)) (sym e) (S.rights p k there' h.0 h.1)))

  -- The component has its rights, and each other component keeps its own.
  pub has_settled : HasRights G after at s
  has_settled m x v r none =
      let i = of_filter (λ d. is_component d.1.type) (declarations (scope G) s.parameters) (x, v) (right_is 1 (rights (scope G) s) x m v r).2 in
      S.given (x, v) m i.0 i.1 r

  rights_there : (j : Location) (r : System) (n : ℕ) → r.sort ≡ Class → lies G [] j ≡ Some (n, component_type G r) → ((j ≡ at → ⊥) → HasRights G store j r) → HasRights G after j r
  rights_there j r n class' there' h = by (same_location j at) refl
    where
      by : (b : Bool) → same_location j at ≡ b → HasRights G after j r
      by true e =
          let same : j ≡ at = location_is j at e in
          let systems : r ≡ s = (component_same G j at r s n c (ClassLies class' there') L.there same).1 in
          subst (λ z. HasRights G after z r) (sym same) (subst (HasRights G after at) (sym systems) has_settled)
      by false e =
          let apart : j ≡ at → ⊥ = λ same. true≢false (sym (location_itself at) ∙ (ap (λ z. same_location z at) (sym same) ∙ e)) in
          rights_kept G store after j r (λ m x v q none. S.unwritten (stored_at j x) (λ p i z.
          apart (λ y. record { owner = (z y).owner; path = (snoc_same j.path at.path x p.0 (ap (λ (l : Location). l.path) z)).0 y }))) (h apart)

  pub settled_keeps : KeepsGiven G store after
  settled_keeps j r n class' there' h = rights_there j r n class' there' (λ apart. h)

  -- No mark is stored.
  mark_unwritten : (j : Location) (r : System) (n : ℕ) → lies G [] j ≡ Some (n, component_type G r) → after j ≡ store j
  mark_unwritten j r n there' = S.unwritten j (λ p i e. by p i e (offsets p i))
    where
      by : (p : Name × Variable) → IsIn p (declarations (scope G) s.parameters) → j ≡ stored_at at p.0 → (k : ℕ) × Offset (scope G) s p k → ⊥
      by p i e (k, inl h) = some_is_not_none _ (sym (lies_any G xs j _ there') ∙ (ap (lies G xs) e ∙ right_lies_not p i h.0))
      by p i e (k, inr h) =
          let type : component_type G r ≡ p.1.type =
          ap (λ z. z.1) (same_some {A = Part} (n, component_type G r) (c + k, p.1.type) (sym (lies_any G xs j _ there') ∙ (ap (lies G xs) e ∙ value_lies p k h.1))) in
          true≢false (ap is_component type ∙ h.0)

  pub data_settled : DataMeans G xs (in_sight G) store old → DataMeans G xs (in_sight G) after new
  data_settled D = record {
    cells = λ l i t mine lying. by l i t mine lying (is_cell t);
    rights = λ j r n m x v mine cl is' none. rights_settled j r n m x v mine cl is' none (D.rights j r n m x v mine cl is' none);
    given = λ j r n mine class' there' set. settled_keeps j r n class' there' (D.given j r n mine class' there' (ap is_initialised (sym (mark_unwritten j r n there')) ∙ set));
  }
    where
      by : (l : Location) (i : ℕ) (t : ResolvedType) → in_sight G l.owner ≡ true → lies G xs l ≡ Some (i, t) → IsCell t ⊎ ((v : Value) (z : ℤ) → CellMeans t v z) → CellMeans t (after l) (word new i)
      by l i t mine lying (inl cell) = cells_settled l i t mine cell lying (D.cells l i t mine lying)
      by l i t mine lying (inr f) = f (after l) (word new i)

  -- A parameter is no variable of an activation.
  local_unwritten : (d : ℕ) (x : Name) → after (local_named G d x) ≡ store (local_named G d x)
  local_unwritten d x = S.unwritten (local_named G d x) (λ p there' e. absurd (L.no_activation d (sym (ap (λ (l : Location). l.owner) e))))

  -- A word of an activation that is no part of a variable is as it was.
  word_settled : (i : ℕ) → i < top → ((y : System) → system_of_process G.setup G.p ≡ Some y → component_words (scope G) y ≤ i) → ((l : Location) (n : ℕ) (u : ResolvedType) (a : ℕ) → in_sight G l.owner ≡ true → InHead (scope G) u a → lies G xs l ≡ Some (n, u) → n + a ≡ i → ⊥) → word new i ≡ word old i
  word_settled i below behind none = by (around i)
    where
      by : Around i → word new i ≡ word old i
      by (inr apart) = S.outside i (inl below) apart
      by (inl (p, k, there', inl h, e)) = absurd (L.beyond i k below behind (right_in_head p k h.1) e none)
      by (inl (p, k, there', inr h, e)) = absurd (none (stored_at at p.0) (c + k) p.1.type 0 L.own (cell_head (scope G) p.1.type h.2) (value_lies p k h.1) (omega (arith, e)))

  pub activation_settled : (d : ℕ) (z : Activation) → activation_at d xs ≡ Some z → KeepsActivation G store after old new d z
  activation_settled d z found = (
    λ x far v is' by_reference. (
      local_unwritten d x,
      word_settled (z.base + far) (omega (arith, inside.0, (reference_inside (scope G) z.routine x far v is' by_reference).1)) (λ y is'. omega (arith, inside.1 y is'))
          (λ l n u a mine head lying e. cell_no_reference G xs top stack l n u a d z x far v mine head lying found is' by_reference e),
    ),
    λ t is' none. (
      local_unwritten d z.routine.name,
      word_settled z.base (omega (arith, inside.0, result_inside (scope G) z.routine t is')) inside.1 (λ l n u a mine head lying e. cell_no_result G xs top stack l n u a d z t mine head lying found is' e),
    ),
  )
    where
      inside : (z.base + activation_words (scope G) z.routine ≤ top) × ((y : System) → system_of_process G.setup G.p ≡ Some y → component_words (scope G) y ≤ z.base)
      inside = found_inside G top d xs z stack.stack found

-- The process runs on with the parameters of the component.
abbrev pub runs_settled : (G : Ground) (store after : Store) (o : PrivateState) (new : List ℤ) (k : List Task) (R : RunsOn G store o k) (at : Location) (c : ℕ) (s : System)
    → Placed G (activations o.base o.frames k) (o.base + (site G R.running).words) at c s → Distinct (permanent_variables (scope G) s)
    → ((p : Name × Variable) → IsIn p (declarations (scope G) s.parameters) → is_component p.1.type ≡ false → (words (scope G) p.1.type ≡ 1) × IsCell p.1.type)
    → ((p : Name × Variable) → IsIn p (declarations (scope G) s.parameters) → (k : ℕ) × Offset (scope G) s p k)
    → Settled G (o.base + (site G R.running).words) store after o.words new at c s → length new ≡ length o.words
    → RunsOn G after (record o { words = new }) k
runs_settled G store after o new k R at c s L distinct one offsets S count =
    let xs = activations o.base o.frames k in
    let stack = runs_stacked G store o k R in
    runs_kept G store after o new k R count
    (each_kept G store after o.words new xs (activation_settled G xs _ stack store after o.words new at c s L distinct one offsets S))
    (data_settled G xs _ stack store after o.words new at c s L distinct one offsets S R.data_means)
    (all_kept G store after (settled_keeps G xs _ stack store after o.words new at c s L distinct one offsets S) (components o.component o.frames) R.given)
