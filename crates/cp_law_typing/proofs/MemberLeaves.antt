-- The leaves of the members of a system type have distinct paths: its names are distinct, its data
-- is sound, and its classes are of system types that were defined before, for which the same has
-- been shown.
use Rattle.std.proofs.Common.{◌≡◌, ◌<◌, ◌⊎◌, inl, inr, ℕ, zero, suc, Bool, true, false, ◌||◌, not, List, [], ◌∷◌, ◌++◌, Option, Some, None, if◌then◌else◌, slice_get, take, filter, bytes_eq, refl, ap, ap₂, sym, subst, ◌∙◌, arith}
use Rattle.std.proofs.lemmas.Bool.{true≢false}
use Rattle.cp_model.specs.Abstract.{Class, Monitor, Name, Process, Sort, System}
use Rattle.cp_model.specs.Names.{lookup}
use Rattle.cp_model.specs.Types.{ArrayOf, ComponentOf, GlobalScope, Members, NoMembers, NoType, Queue, RecordOf, ResolvedType, Simple}
use Rattle.cp_model.specs.Declarations.{Variable, declarations, globals, is_component, members_from, reported_members}
use Rattle.cp_model.specs.Locations.{ByName, Path}
use Rattle.cp_model.specs.Leaves.{component_leaves, leaves, leaves_of_members}
use Rattle.cp_model.specs.States.{Setup}
use Rattle.cp_law_typing.specs.SoundTypes.{has_member}
use Rattle.cp_law_typing.specs.Declared.{Distinct, Each, InitialVariable, IsData, IsSystem, SystemParameter, SystemVariable}
use Rattle.cp_law_typing.specs.WellTyped.{TypedSystem, WellTyped, text_systems}
use Rattle.cp_law_typing.proofs.Leaves.{Functional, GoodMembers, members_functional, sound_functional, member_named}
use Rattle.cp_law_typing.proofs.Facts.{taken}
use Rattle.cp_law_typing.proofs.Members.{is_own}

-- ---- members of components

first_none : (b : Bool) (v : Variable) (o : Option Variable) → (if b then Some v else o) ≡ None → (b ≡ false) × (o ≡ None)
first_none true v o h = absurd (cc)
first_none false v o h = (refl, h)

pub no_member : (x : Name) (vs : List (Name × Variable)) → lookup x vs ≡ None → has_member x (members_from vs NoMembers) ≡ false
no_member x [] h = refl
no_member x (v ∷ vs) h =
    let k : (bytes_eq x v.0 ≡ false) × (lookup x vs ≡ None) = first_none (bytes_eq x v.0) v.1 (lookup x vs) h in
    ap₂ (λ b c. b || c) k.0 (no_member x vs k.1)

no_reported : (x : Name) (ps vs : List (Name × Variable)) → lookup x (ps ++ vs) ≡ None → has_member x (members_from (filter is_own ps) (members_from vs NoMembers)) ≡ false
no_reported x [] vs h = no_member x vs h
no_reported x (p ∷ ps) vs h =
    let k : (bytes_eq x p.0 ≡ false) × (lookup x (ps ++ vs) ≡ None) = first_none (bytes_eq x p.0) p.1 (lookup x (ps ++ vs)) h in
    go (is_own p) (no_reported x ps vs k.1) k.0
  where
    go : (b : Bool) → has_member x (members_from (filter is_own ps) (members_from vs NoMembers)) ≡ false → bytes_eq x p.0 ≡ false
        → has_member x (members_from (if b then p ∷ filter is_own ps else filter is_own ps) (members_from vs NoMembers)) ≡ false
    go true rest k = ap₂ (λ b c. b || c) k rest
    go false rest k = rest

abbrev AllFunctional : List (Name × Variable) → Type 0
AllFunctional vs = Each (λ v. Functional (leaves v.1.type)) vs

variables_good : (vs : List (Name × Variable)) → Distinct vs → AllFunctional vs → GoodMembers (members_from vs NoMembers)
variables_good [] d f = tt
variables_good (v ∷ vs) d f = (f.0, no_member v.0 vs d.0, variables_good vs d.1 f.1)

abbrev OwnFunctional : List (Name × Variable) → Type 0
OwnFunctional ps = Each (λ p. is_own p ≡ true → Functional (leaves p.1.type)) ps

reported_good : (ps vs : List (Name × Variable)) → Distinct (ps ++ vs) → OwnFunctional ps → AllFunctional vs → GoodMembers (members_from (filter is_own ps) (members_from vs NoMembers))
reported_good [] vs d f g = variables_good vs d g
reported_good (p ∷ ps) vs d f g = go (is_own p) refl (reported_good ps vs d.1 f.1 g)
  where
    go : (b : Bool) → is_own p ≡ b → GoodMembers (members_from (filter is_own ps) (members_from vs NoMembers))
        → GoodMembers (members_from (if b then p ∷ filter is_own ps else filter is_own ps) (members_from vs NoMembers))
    go true is rest = (f.0 is, no_reported p.0 ps vs d.0, rest)
    go false is rest = rest

-- ---- the types of members

-- the members of the system types that were defined before are good
abbrev AllGood : GlobalScope → List System → Type 0
AllGood g before = (j : ℕ) (s : System) → slice_get before j ≡ Some s → GoodMembers (reported_members g s)

class_functional : (ps : Members) → GoodMembers ps → (z : Sort) → Functional (component_leaves z (leaves_of_members ps))
class_functional ps good Process path v w h g = absurd h
class_functional ps good Monitor path v w h g = absurd h
class_functional ps good Class path v w (inl h) (inl g) = ap (λ z. z.1) (h ∙ sym g)
class_functional ps good Class path v w (inl h) (inr g) = absurd (no_root (ap (λ z. z.0) h) (member_named ps path w g))
  where
    no_root : path ≡ [] → (x : Name) × (rest : Path) × (path ≡ ByName x ∷ rest) × (has_member x ps ≡ true) → ⊥
    no_root is k = cc (is, k.2)
class_functional ps good Class path v w (inr h) (inl g) = absurd (no_root (ap (λ z. z.0) g) (member_named ps path v h))
  where
    no_root : path ≡ [] → (x : Name) × (rest : Path) × (path ≡ ByName x ∷ rest) × (has_member x ps ≡ true) → ⊥
    no_root is k = cc (is, k.2)
class_functional ps good Class path v w (inr h) (inr g) = members_functional ps good path v w h g

module _ (g : GlobalScope) (before : List System) (good : AllGood g before) where
  pub system_good : (t : ResolvedType) → IsSystem g before t → (s : System) (inner : Members) → t ≡ ComponentOf s inner → GoodMembers inner
  system_good (ComponentOf y ps) k s inner is = subst GoodMembers (ap members_in is) (subst GoodMembers (sym k.2) (good k.0 y k.1))
    where
      members_in : ResolvedType → Members
      members_in (ComponentOf y ps) = ps
      members_in _ = NoMembers
  system_good (Simple b low high start) k s inner is = absurd k
  system_good (ArrayOf lo hi r) k s inner is = absurd k
  system_good (RecordOf ps) k s inner is = absurd k
  system_good Queue k s inner is = absurd k
  system_good NoType k s inner is = absurd k

  component_functional : (t : ResolvedType) → IsSystem g before t → Functional (leaves t)
  component_functional (ComponentOf y ps) k = class_functional ps (system_good (ComponentOf y ps) k y ps refl) y.sort
  component_functional (Simple b low high start) k = absurd k
  component_functional (ArrayOf lo hi r) k = absurd k
  component_functional (RecordOf ps) k = absurd k
  component_functional Queue k = absurd k
  component_functional NoType k = absurd k

  known_functional : (t : ResolvedType) → IsData g t ⊎ IsSystem g before t → Functional (leaves t)
  known_functional t (inl k) = sound_functional t k.0
  known_functional t (inr k) = component_functional t k

  not_own : (t : ResolvedType) → IsSystem g before t → not (is_component t) ≡ true → ⊥
  not_own (ComponentOf y ps) k h = true≢false (sym h)
  not_own (Simple b low high start) k h = k
  not_own (ArrayOf lo hi r) k h = k
  not_own (RecordOf ps) k h = k
  not_own Queue k h = k
  not_own NoType k h = k

  parameters_functional : (z : Sort) (ps : List (Name × Variable)) → Each (SystemParameter g before z) ps → OwnFunctional ps
  parameters_functional z [] h = tt
  parameters_functional z (p ∷ ps) h =
      (λ own. elim h.0.1 [ inl k ↦ sound_functional p.1.type k.1.0 | inr k ↦ absurd (not_own p.1.type k.0 own) ], parameters_functional z ps h.1)

  variables_functional : (z : Sort) (vs : List (Name × Variable)) → Each (SystemVariable g before z) vs → AllFunctional vs
  variables_functional z [] h = tt
  variables_functional z (v ∷ vs) h = (elim h.0.1 [ inl k ↦ known_functional v.1.type (inl k.0) | inr k ↦ known_functional v.1.type (inr k.0) ], variables_functional z vs h.1)

  pub initial_functional : (vs : List (Name × Variable)) → Each (InitialVariable g before) vs → AllFunctional vs
  initial_functional [] h = tt
  initial_functional (v ∷ vs) h = (elim h.0.1 [ inl k ↦ known_functional v.1.type (inl k.0) | inr k ↦ known_functional v.1.type (inr k) ], initial_functional vs h.1)

  system_members_good : (s : System) → TypedSystem g before s → GoodMembers (reported_members g s)
  system_members_good s t =
      reported_good (declarations g s.parameters) (declarations g s.variables) t.bodies.distinct
      (parameters_functional s.sort (declarations g s.parameters) t.parameters) (variables_functional s.sort (declarations g s.variables) t.variables)

-- each system type depends only on those before it
systems_good : (setup : Setup) → WellTyped setup → (n i : ℕ) → i < n → (s : System) → slice_get (text_systems setup) i ≡ Some s → GoodMembers (reported_members (globals setup.tree) s)
systems_good setup typed zero i h s there = absurd (omega (arith, h))
systems_good setup typed (suc n) i h s there =
    system_members_good (globals setup.tree) (take i (text_systems setup))
    (λ j r e.
    let k : (j < i) × (slice_get (text_systems setup) j ≡ Some r) = taken (text_systems setup) i j r e in
    systems_good setup typed n j (omega (arith, k.0, h)) r k.1) s (typed.systems i s there)

pub all_good : (setup : Setup) → WellTyped setup → AllGood (globals setup.tree) (text_systems setup)
all_good setup typed j s there = systems_good setup typed (suc j) j (omega arith) s there
