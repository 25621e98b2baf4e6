-- Storing a simple value keeps everything else, and words beyond all activations are not in use.
use Rattle.std.proofs.Common.{◌≡◌, ◌≢◌, ◌⊎◌, inl, inr, ℕ, suc, ◌+◌, ◌≤◌, ◌<◌, ℤ, List, [], ◌∷◌, length, Bool, true, false, Option, Some, None, refl, ap, sym, subst, ◌∙◌, arith}
use Rattle.std.specs.Prelude.{if◌then◌else◌, nat_eq, slice_set}
use Rattle.std.proofs.lemmas.Bool.{eq-eqb}
use Rattle.cp_model.specs.Abstract.{Class, Name, System}
use Rattle.cp_model.specs.CallSteps.{is_initialised}
use Rattle.cp_model.specs.Declarations as declared
use Rattle.cp_model.specs.Declarations.{reported_members}
use Rattle.cp_model.specs.Locations.{ByIndex, ByName, Location, OfActivation, OfMonitor, OfProcess, Owner, Path, same_location, under}
use Rattle.cp_model.specs.Stores.{Store, Value, put}
use Rattle.cp_model.specs.Types.{ComponentOf, ResolvedType}
use Rattle.cp_model.proofs.Options.{same_some}
use Rattle.cp_model_program.specs.Layout.{Part, activation_words, component_words, farther, local, part}
use Rattle.cp_model_program.specs.Starts.{word}
use Rattle.cp_model_machine.specs.Means.{CellMeans}
use Rattle.cp_model_machine.specs.Addresses.{Activation, ClassLies, ComponentLies, Ground, HasRights, MonitorLies, ProcessLies, activation_at, component_type, in_sight, lies, part_at, part_of_activation, part_of_local, scope}
use Rattle.cp_model_machine.specs.PartOf.{DataMeans}
use Rattle.cp_model_program.specs.IsProgramFor.{system_of_process}
use Rattle.cp_model_machine.proofs.Apart.{InHead, IsCell, cell_head}
use Rattle.cp_model_machine.proofs.Finding.{some_is_not_none}
use Rattle.cp_model_machine.proofs.Given.{KeepsGiven, rights_kept}
use Rattle.cp_model_machine.proofs.Heres.{found_below, lies_any}
use Rattle.cp_model_machine.proofs.Keeping.{KeepsActivation, KeepsData, depth_of, local_named, right_kept, right_no_variable, right_place}
use Rattle.cp_model_machine.proofs.Stacks.{Stacked, found_inside}
use Rattle.cp_model_machine.proofs.Owned.{OwnRight, reference_inside, result_inside}
use Rattle.cp_model_machine.proofs.Separate.{cell_below, cell_no_own_right, cell_no_reference, cell_no_result, own_right_below, separate}
use Rattle.cp_law_typing.proofs.Locations.{location_is}
use Rattle.cp_model_machine.proofs.Writing.{cell_written, changed_other}

-- A location in an activation belongs to an activation that exists.
pub live_owner : (G : Ground) (xs : List Activation) (l : Location) (v : Part) (d : ℕ) → lies G xs l ≡ Some v → l.owner ≡ OfActivation G.p d → d < length xs
live_owner G xs l v d h e = by l.owner l.path h e
  where
    inner : (f : ℕ) (x : Name) (p : Path) (b : Bool) (o : Option Activation) → activation_at f xs ≡ o → (if b then part_of_activation (scope G) o x p else None) ≡ Some v → f < length xs
    inner f x p true (Some z) i h = found_below f xs z i
    inner f x p true None i h = absurd (some_is_not_none v (sym h))
    inner f x p false o i h = absurd (some_is_not_none v (sym h))

    by : (o : Owner) (p : Path) → part_at G xs o p ≡ Some v → o ≡ OfActivation G.p d → d < length xs
    by o [] h e = absurd (some_is_not_none v (sym h))
    by o (ByIndex i ∷ p) h e = absurd (some_is_not_none v (sym h))
    by (OfActivation q f) (ByName x ∷ p) h e =
        let same : f ≡ d = ap (depth_of 0) e in
        subst (λ z. z < length xs) same (inner f x p (nat_eq G.p q) (activation_at f xs) refl h)
    by (OfProcess q) (ByName x ∷ p) h e = absurd (omega (arith, ap (depth_of (suc d)) e))
    by (OfMonitor q) (ByName x ∷ p) h e = absurd (omega (arith, ap (depth_of (suc d)) e))

-- ---- words beyond the top

-- Two stores that are the same for all owners in use.
abbrev pub SameLive : Ground → List Activation → Store → Store → Type 0
SameLive G xs store after = (l : Location) → ((d : ℕ) → l.owner ≡ OfActivation G.p d → d < length xs) → after l ≡ store l

-- Words that are the same except the process's own ones from `top` on.
abbrev pub SameBelow : Ground → ℕ → List ℤ → List ℤ → Type 0
SameBelow G top old new = (i : ℕ) → (i < top) ⊎ (G.own ≤ i) → word new i ≡ word old i

pub without_zero : (G : Ground) (top n : ℕ) → (n + 0 < top) ⊎ (G.own ≤ n + 0) → (n < top) ⊎ (G.own ≤ n)
without_zero G top n (inl h) = inl (omega (arith, h))
without_zero G top n (inr h) = inr (omega (arith, h))

module _ (G : Ground) (xs : List Activation) (top : ℕ) (stack : Stacked G top xs) (store after : Store) (old new : List ℤ)
    (live : SameLive G xs store after) (same : SameBelow G top old new) where
  right_owner : (at : Location) (s : System) (n : ℕ) → ComponentLies G at s n → (d : ℕ) → at.owner ≡ OfActivation G.p d → d < length xs
  right_owner at s n (ProcessLies where' is zero') d e = absurd (omega (arith, ap (depth_of (suc d)) (sym (ap (λ (l : Location). l.owner) where') ∙ e)))
  right_owner at s n (MonitorLies k where' is from) d e = absurd (omega (arith, ap (depth_of (suc d)) (sym (ap (λ (l : Location). l.owner) where') ∙ e)))
  right_owner at s n (ClassLies sort is) d e = live_owner G xs at _ d (lies_any G xs at _ is) e

  pub data_below : KeepsData G store after old new xs
  data_below = record {
    cells = λ l n t mine c h m.
        let low = cell_below G xs top stack l n t 0 mine (cell_head (scope G) t c) h in
        subst (λ z. CellMeans t z (word new n)) (sym (live l (λ d e. live_owner G xs l (n, t) d h e)))
        (subst (λ z. CellMeans t (store l) z) (sym (same n (without_zero G top n low))) m);
    rights = λ at s n m x v mine cl r none.
        (live (under at (ByName x ∷ [])) (right_owner at s n cl), same (n + m) (by at s n m mine (right_place G xs at s n m x v mine cl r)));
    stored = λ at s n x sort is none. live (under at (ByName x ∷ [])) (right_owner at s n (ClassLies sort is));
    marks = λ at s n mine sort is. live at (λ d e. live_owner G xs at _ d (lies_any G xs at _ is) e);
  }
    where
      by : (at : Location) (s : System) (n m : ℕ) → in_sight G at.owner ≡ true
          → OwnRight G (n + m) ⊎ ((lies G xs at ≡ Some (n, ComponentOf s (reported_members (scope G) s))) × InHead (scope G) (ComponentOf s (reported_members (scope G) s)) m × (1 ≤ m))
          → (n + m < top) ⊎ (G.own ≤ n + m)
      by at s n m mine (inl r) = own_right_below G xs top stack (n + m) r
      by at s n m mine (inr r) = cell_below G xs top stack at n _ m mine r.1 r.0

  pub activation_below : (d : ℕ) (z : Activation) → activation_at d xs ≡ Some z → KeepsActivation G store after old new d z
  activation_below d z there = (
    λ x at v is by_reference.
        (live (local_named G d x) there_live, same (z.base + at) (inl (omega (arith, inside.0, (reference_inside (scope G) z.routine x at v is by_reference).1)))),
    λ t is none. (live (local_named G d z.routine.name) there_live, same z.base (inl (omega (arith, inside.0, result_inside (scope G) z.routine t is)))),
  )
    where
      inside : (z.base + activation_words (scope G) z.routine ≤ top) × ((s : System) → system_of_process G.setup G.p ≡ Some s → component_words (scope G) s ≤ z.base)
      inside = found_inside G top d xs z stack.stack there

      there_live : (f : ℕ) → OfActivation G.p d ≡ OfActivation G.p f → f < length xs
      there_live f e = let s : d ≡ f = ap (depth_of 0) e in omega (arith, s, found_below d xs z there)

-- ---- a variable of one word

pub put_apart : (l k : Location) (v : Value) (store : Store) → (l ≡ k → ⊥) → put l v store k ≡ store k
put_apart l k v store d = by (same_location l k) refl
  where
    by : (b : Bool) → same_location l k ≡ b → (if b then v else store k) ≡ store k
    by true e = absurd (d (location_is l k e))
    by false e = refl

pub reference_no_variable : (G : Ground) (xs : List Activation) (d : ℕ) (z : Activation) (x : Name) (at : ℕ) (v : declared.Variable)
    → activation_at d xs ≡ Some z → local (scope G) z.routine x ≡ Some (at, v) → v.by_reference ≡ true → lies G xs (local_named G d x) ≡ None
reference_no_variable G xs d z x at v there is by_reference =
    ap (λ t. if t then part_of_activation (scope G) (activation_at d xs) x [] else None) (eq-eqb G.p G.p refl)
    ∙ (ap (λ o. part_of_activation (scope G) o x []) there
    ∙ (ap (λ o. farther z.base (part_of_local (scope G) o [])) is
    ∙ ap (λ t. farther z.base (if t then None else farther at (part (scope G) v.type []))) by_reference))

pub result_no_variable : (G : Ground) (xs : List Activation) (d : ℕ) (z : Activation) (x : Name)
    → activation_at d xs ≡ Some z → local (scope G) z.routine x ≡ None → lies G xs (local_named G d x) ≡ None
result_no_variable G xs d z x there is =
    ap (λ t. if t then part_of_activation (scope G) (activation_at d xs) x [] else None) (eq-eqb G.p G.p refl)
    ∙ (ap (λ o. part_of_activation (scope G) o x []) there
    ∙ ap (λ o. farther z.base (part_of_local (scope G) o [])) is)

module _ (G : Ground) (xs : List Activation) (top : ℕ) (stack : Stacked G top xs) (store : Store) (words : List ℤ) (l : Location) (n : ℕ) (u : ResolvedType) (w : Value) (m : ℤ)
    (cell : IsCell u) (means : CellMeans u w m) (own : in_sight G l.owner ≡ true) (is : lies G xs l ≡ Some (n, u)) where
  not_there : (k : Location) → lies G xs k ≡ None → l ≡ k → ⊥
  not_there k none e = absurd (some_is_not_none _ (sym (ap (lies G xs) (sym e) ∙ is) ∙ none))

  pub written_keeps : KeepsGiven G store (put l w store)
  written_keeps at s k sort there =
      rights_kept G store (put l w store) at s (λ i x v r none. put_apart l (under at (ByName x ∷ [])) w store (not_there (under at (ByName x ∷ [])) (right_no_variable G xs at s k x (ClassLies sort there) none)))

  -- If the stored value marks a class as initialised, the class has its rights.
  abbrev pub MarksGiven : Type 0
  MarksGiven = (s : System) → s.sort ≡ Class → u ≡ component_type G s → is_initialised w ≡ true → HasRights G store l s

  pub data_written : n < length words → MarksGiven → DataMeans G xs (in_sight G) store words → DataMeans G xs (in_sight G) (put l w store) (slice_set words n m)
  data_written room fresh D = record {
    cells = cell_written G xs top store words l n u w m cell means stack D.cells own is room;
    rights = λ at s k i x v mine cl r none.
        right_kept G store (put l w store) words (slice_set words n m) xs at s k i x v (
          put_apart l (under at (ByName x ∷ [])) w store (not_there (under at (ByName x ∷ [])) (right_no_variable G xs at s k x cl none)),
          changed_other words (k + i) n m (by at s k i mine (right_place G xs at s k i x v mine cl r)),
        )
        (D.rights at s k i x v mine cl r none);
    given = λ at s k mine sort there set. written_keeps at s k sort there (marked at s k mine sort there (same_location l at) refl set);
  }
    where
      marked : (at : Location) (s : System) (k : ℕ) → in_sight G at.owner ≡ true → s.sort ≡ Class → lies G [] at ≡ Some (k, component_type G s) → (b : Bool) → same_location l at ≡ b
          → is_initialised (if b then w else store at) ≡ true → HasRights G store at s
      marked at s k mine sort there false e set = D.given at s k mine sort there set
      marked at s k mine sort there true e set =
          let same : l ≡ at = location_is l at e in
          let type : u ≡ component_type G s = ap (λ z. z.1) (same_some {A = Part} (n, u) (k, component_type G s) (sym is ∙ (ap (lies G xs) same ∙ lies_any G xs at _ there))) in
          subst (λ z. HasRights G store z s) same (fresh s sort type set)

      by : (at : Location) (s : System) (k i : ℕ) → in_sight G at.owner ≡ true
          → OwnRight G (k + i) ⊎ ((lies G xs at ≡ Some (k, ComponentOf s (reported_members (scope G) s))) × InHead (scope G) (ComponentOf s (reported_members (scope G) s)) i × (1 ≤ i))
          → k + i ≢ n
      by at s k i mine (inl r) e = cell_no_own_right G xs top stack l n (k + i) u 0 own (cell_head (scope G) u cell) is r (omega (arith, e))
      by at s k i mine (inr r) e =
          let same : l ≡ at = separate G xs top stack l at n k u (ComponentOf s (reported_members (scope G) s)) 0 i own mine (cell_head (scope G) u cell) r.1 is r.0 (omega (arith, e)) in
          let here : n ≡ k = ap (λ z. z.0) (same_some {A = Part} (n, u) (k, ComponentOf s (reported_members (scope G) s)) (sym is ∙ (ap (lies G xs) same ∙ r.0))) in
          absurd (omega (arith, e, here, r.2))

  pub activation_written : (d : ℕ) (z : Activation) → activation_at d xs ≡ Some z → KeepsActivation G store (put l w store) words (slice_set words n m) d z
  activation_written d z there = (
    λ x at v found by_reference. (
      put_apart l (local_named G d x) w store (not_there (local_named G d x) (reference_no_variable G xs d z x at v there found by_reference)),
      changed_other words (z.base + at) n m (λ e. cell_no_reference G xs top stack l n u 0 d z x at v own (cell_head (scope G) u cell) is there found by_reference (omega (arith, e))),
    ),
    λ t found none. (
      put_apart l (local_named G d z.routine.name) w store (not_there (local_named G d z.routine.name) (result_no_variable G xs d z z.routine.name there none)),
      changed_other words z.base n m (λ e. cell_no_result G xs top stack l n u 0 d z t own (cell_head (scope G) u cell) is there found (omega (arith, e))),
    ),
  )
