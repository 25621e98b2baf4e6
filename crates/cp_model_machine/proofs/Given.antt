-- A class keeps the rights that it was given.
use Rattle.std.proofs.Common.{Bool, List, None, Option, Some, [], ap, arith, false, refl, subst, sym, true, ℕ, ◌+◌, ◌<◌, ◌∙◌, ◌∷◌, ◌≡◌}
use Rattle.cp_model.specs.Abstract.{Class, Name, System}
use Rattle.cp_model.specs.Declarations.{Variable}
use Rattle.cp_model.specs.Locations.{ByIndex, ByName, Location, OfActivation, OfMonitor, OfProcess, Owner, Path, under}
use Rattle.cp_model.specs.Stores.{Store}
use Rattle.cp_model.specs.Types.{ComponentOf, ResolvedType}
use Rattle.cp_model.proofs.Options.{same_some}
use Rattle.cp_model_program.specs.Layout.{Part, member, right}
use Rattle.cp_model_machine.specs.Addresses.{Activation, AllHaveRights, AllWords, ClassHasRights, Ground, HasRights, IsGiven, OwnWords, Sight, component_type, in_sight, lies, part_at, scope, sees, words_seen}
use Rattle.cp_model_machine.proofs.Apart.{InHead, IsClass}
use Rattle.cp_model_machine.proofs.Heres.{lies_any}
use Rattle.cp_model_machine.proofs.Separate.{cell_inside, separate}
use Rattle.cp_model_machine.proofs.Stacks.{Stacked}
use Rattle.cp_model_machine.proofs.Owned.{component_part, found_monitor}
use Rattle.cp_model_machine.proofs.Finding.{some_is_not_none}
use Rattle.std.specs.Prelude.{if◌then◌else◌, nat_eq}
use Rattle.std.proofs.lemmas.Bool.{eq-eqb}
use Rattle.cp_model_machine.specs.Passing.{monitor_start}

abbrev pub KeepsGiven : Ground → Store → Store → Type 0
KeepsGiven G store after =
    (at : Location) (s : System) (n : ℕ) → s.sort ≡ Class → lies G [] at ≡ Some (n, component_type G s) → HasRights G store at s → HasRights G after at s

pub all_kept : (G : Ground) (store after : Store) → KeepsGiven G store after → (ns : List ℕ) → AllHaveRights G store ns → AllHaveRights G after ns
all_kept G store after keeps [] h = tt
all_kept G store after keeps (n ∷ ns) h = (λ at s sort is. keeps at s n sort is (h.0 at s sort is), all_kept G store after keeps ns h.1)

-- A component keeps its rights if they are stored as before.
pub rights_kept : (G : Ground) (store after : Store) (at : Location) (s : System)
    → ((m : ℕ) (x : Name) (v : Variable) → right (scope G) s x ≡ Some (m, v) → member (scope G) s x ≡ None → after (under at (ByName x ∷ [])) ≡ store (under at (ByName x ∷ [])))
    → HasRights G store at s → HasRights G after at s
rights_kept G store after at s same h m x v r none = subst (IsGiven v.type) (sym (same m x v r none)) (h m x v r none)

-- ---- one class at a place

abbrev pub system_in : System → ResolvedType → System
system_in s (ComponentOf r inner) = r
system_in s _ = s

-- A component type determines its system type.
pub system_same : (G : Ground) (s r : System) → component_type G s ≡ component_type G r → s ≡ r
system_same G s r e = ap (system_in s) e

pub class_head : (G : Ground) (s : System) → s.sort ≡ Class → InHead (scope G) (component_type G s) 0
class_head G s sort = (subst IsClass (sym sort) tt, omega arith)

module _ (G : Ground) (xs : List Activation) (top : ℕ) (stack : Stacked G top xs) (at : Location) (s : System) (n : ℕ)
    (own : in_sight G at.owner ≡ true) (sort : s.sort ≡ Class) (is : lies G [] at ≡ Some (n, component_type G s)) where
  -- What is there is in reach.
  there_seen : (t : ResolvedType) → (o : Owner) (q : Path) → part_at G [] o q ≡ Some (n, t) → in_sight G o ≡ true
  there_seen t o [] h = absurd (some_is_not_none _ (sym h))
  there_seen t o (ByIndex i ∷ q) h = absurd (some_is_not_none _ (sym h))
  there_seen t (OfProcess r) (ByName x ∷ q) h = by G.sight
    where
      mine : nat_eq G.p r ≡ true
      mine = eq-eqb G.p r (component_part G [] r x q n t h).0

      by : (v : Sight) → sees v G.p (OfProcess r) ≡ true
      by OwnWords = mine
      by AllWords = mine
  there_seen t (OfActivation r d) (ByName x ∷ q) h = absurd (nowhere (nat_eq G.p r) None refl h)
    where
      nowhere : (b : Bool) (o : Option Part) → o ≡ None → (if b then o else None) ≡ Some (n, t) → ⊥
      nowhere true o none e = some_is_not_none _ (sym e ∙ none)
      nowhere false o none e = some_is_not_none _ (sym e)
  there_seen t (OfMonitor m) (ByName x ∷ q) h =
      by G.sight (found_monitor G [] m x q n t h).place (cell_inside G xs top stack at n (component_type G s) 0 own (class_head G s sort) (lies_any G xs at _ is))
    where
      by : (v : Sight) → n ≡ G.own + monitor_start G.program m + (found_monitor G [] m x q n t h).far → n + 0 < words_seen v G.program G.own → sees v G.p (OfMonitor m) ≡ true
      by OwnWords place inside = absurd (omega (arith, place, inside))
      by AllWords place inside = refl

  pub one_class : (j : Location) (r : System) → r.sort ≡ Class → lies G [] j ≡ Some (n, component_type G r) → (j ≡ at) × (r ≡ s)
  one_class j r class' there =
      let mine = there_seen (component_type G r) j.owner j.path there in
      let same : j ≡ at =
      separate G xs top stack j at n n (component_type G r) (component_type G s) 0 0 mine own (class_head G r class') (class_head G s sort) (lies_any G xs j _ there) (lies_any G xs at _ is) refl in
      (same, system_same G r s (ap (λ z. z.1) (same_some {A = Part} (n, component_type G r) (n, component_type G s) (sym there ∙ (ap (lies G []) same ∙ is)))))

  pub class_has_rights : (store : Store) → HasRights G store at s → ClassHasRights G store n
  class_has_rights store h j r class' there =
      let e = one_class j r class' there in subst (λ z. HasRights G store z r) (sym e.0) (subst (HasRights G store at) (sym e.1) h)
