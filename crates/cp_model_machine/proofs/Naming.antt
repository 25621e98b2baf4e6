-- The names of the members of a system type differ, and so do those of its classes.
use Rattle.std.proofs.Common.{◌≡◌, ◌<◌, inl, inr, ℕ, zero, suc, Bool, true, false, List, [], ◌∷◌, Some, ap, sym, subst, arith}
use Rattle.std.specs.Prelude.{filter, if◌then◌else◌, not, slice_get, take}
use Rattle.cp_model.specs.Abstract.{Name, Sort, System}
use Rattle.cp_model.specs.Declarations.{Variable, declarations, globals, is_component, members_from, reported_members}
use Rattle.cp_model.specs.States.{Setup, initial_variables}
use Rattle.cp_model.specs.Types.{ArrayOf, ComponentOf, GlobalScope, Members, MoreMembers, NoMembers, NoType, Queue, RecordOf, ResolvedType, Simple}
use Rattle.cp_law_typing.specs.Declared.{Distinct, Each, InitialVariable, IsSystem, SystemParameter, SystemVariable}
use Rattle.cp_law_typing.specs.SoundTypes.{SoundMembers, SoundType}
use Rattle.cp_law_typing.specs.WellTyped.{TypedSystem, WellTyped, text_systems}
use Rattle.cp_law_typing.proofs.Facts.{taken}
use Rattle.cp_law_typing.proofs.Leaves.{GoodMembers}
use Rattle.cp_law_typing.proofs.MemberLeaves.{all_good, no_member}
use Rattle.cp_model_machine.proofs.PartLeaves.{Named, NamedMembers}

-- ---- types

mutual
  sound_named : (t : ResolvedType) → SoundType t → Named t
  sound_named (Simple b low high start) h = tt
  sound_named (ArrayOf low high t) h = sound_named t h.1
  sound_named (RecordOf ms) h = sound_members_named ms h
  sound_named Queue h = tt
  sound_named (ComponentOf s inner) h = absurd h
  sound_named NoType h = absurd h

  sound_members_named : (ms : Members) → SoundMembers ms → NamedMembers ms
  sound_members_named NoMembers h = tt
  sound_members_named (MoreMembers x t ms) h = (sound_named t h.0, h.1, sound_members_named ms h.2)

-- ---- members

abbrev EachNamed : Members → Type 0
EachNamed NoMembers = Unit {0}
EachNamed (MoreMembers x t ms) = Named t × EachNamed ms

abbrev AllNamed : List (Name × Variable) → Type 0
AllNamed vs = Each (λ v. Named v.1.type) vs

good_named : (ms : Members) → GoodMembers ms → EachNamed ms → NamedMembers ms
good_named NoMembers g h = tt
good_named (MoreMembers x t ms) g h = (h.0, g.1, good_named ms g.2 h.1)

each_from : (vs : List (Name × Variable)) (rest : Members) → AllNamed vs → EachNamed rest → EachNamed (members_from vs rest)
each_from [] rest h r = r
each_from (v ∷ vs) rest h r = (h.0, each_from vs rest h.1 r)

filtered : (f : Name × Variable → Bool) (vs : List (Name × Variable)) → AllNamed vs → AllNamed (filter f vs)
filtered f [] h = tt
filtered f (v ∷ vs) h = by (f v) (filtered f vs h.1)
  where
    by : (b : Bool) → AllNamed (filter f vs) → AllNamed (if b then v ∷ filter f vs else filter f vs)
    by true go = (h.0, go)
    by false go = go

-- ---- system types

abbrev BeforeNamed : GlobalScope → List System → Type 0
BeforeNamed g before = (j : ℕ) (s : System) → slice_get before j ≡ Some s → NamedMembers (reported_members g s)

module _ (g : GlobalScope) (before : List System) (named : BeforeNamed g before) where
  system_type_named : (t : ResolvedType) → IsSystem g before t → Named t
  system_type_named (ComponentOf y inner) k = subst NamedMembers (sym k.2) (named k.0 y k.1)
  system_type_named (Simple b low high start) k = absurd k
  system_type_named (ArrayOf low high t) k = absurd k
  system_type_named (RecordOf ms) k = absurd k
  system_type_named Queue k = absurd k
  system_type_named NoType k = absurd k

  parameters_named : (z : Sort) (ps : List (Name × Variable)) → Each (SystemParameter g before z) ps → AllNamed ps
  parameters_named z [] h = tt
  parameters_named z (p ∷ ps) h = (elim h.0.1 [ inl k ↦ sound_named p.1.type k.1.0 | inr k ↦ system_type_named p.1.type k.0 ], parameters_named z ps h.1)

  variables_named : (z : Sort) (vs : List (Name × Variable)) → Each (SystemVariable g before z) vs → AllNamed vs
  variables_named z [] h = tt
  variables_named z (v ∷ vs) h = (elim h.0.1 [ inl k ↦ sound_named v.1.type k.0.0 | inr k ↦ system_type_named v.1.type k.0 ], variables_named z vs h.1)

  initial_named : (vs : List (Name × Variable)) → Each (InitialVariable g before) vs → AllNamed vs
  initial_named [] h = tt
  initial_named (v ∷ vs) h = (elim h.0.1 [ inl k ↦ sound_named v.1.type k.0.0 | inr k ↦ system_type_named v.1.type k ], initial_named vs h.1)

  members_named : (s : System) → TypedSystem g before s → GoodMembers (reported_members g s) → NamedMembers (reported_members g s)
  members_named s t good =
      good_named (reported_members g s) good
      (each_from (filter (λ v. not (is_component v.1.type)) (declarations g s.parameters)) (members_from (declarations g s.variables) NoMembers)
      (filtered (λ v. not (is_component v.1.type)) (declarations g s.parameters) (parameters_named s.sort (declarations g s.parameters) t.parameters))
      (each_from (declarations g s.variables) NoMembers (variables_named s.sort (declarations g s.variables) t.variables) tt))

-- By induction, all system types before number `n` have members with distinct names.
systems_named : (setup : Setup) → WellTyped setup → (n i : ℕ) → i < n → (s : System) → slice_get (text_systems setup) i ≡ Some s → NamedMembers (reported_members (globals setup.tree) s)
systems_named setup typed zero i h s there = absurd (omega (arith, h))
systems_named setup typed (suc n) i h s there =
    members_named (globals setup.tree) (take i (text_systems setup))
    (λ j r e.
    let k = taken (text_systems setup) i j r e in
    systems_named setup typed n j (omega (arith, k.0, h)) r k.1) s (typed.systems i s there) (all_good setup typed i s there)

pub system_named : (setup : Setup) → WellTyped setup → (i : ℕ) (s : System) → slice_get (text_systems setup) i ≡ Some s → NamedMembers (reported_members (globals setup.tree) s)
system_named setup typed i s there = systems_named setup typed (suc i) i (omega arith) s there

-- ---- the initial process

from_variables : (vs : List (Name × Variable)) → Distinct vs → AllNamed vs → NamedMembers (members_from vs NoMembers)
from_variables [] d h = tt
from_variables (v ∷ vs) d h = (h.0, no_member v.0 vs d.0, from_variables vs d.1 h.1)

pub initial_reported : (setup : Setup) → WellTyped setup → reported_members (globals setup.tree) setup.tree.initial ≡ members_from (initial_variables setup) NoMembers
initial_reported setup typed =
    ap (λ ps. members_from (filter (λ v. not (is_component v.1.type)) (declarations (globals setup.tree) ps)) (members_from (initial_variables setup) NoMembers)) typed.initial_parameters

pub initial_system_named : (setup : Setup) → WellTyped setup → Distinct (initial_variables setup) → NamedMembers (reported_members (globals setup.tree) setup.tree.initial)
initial_system_named setup typed distinct =
    subst NamedMembers (sym (initial_reported setup typed))
    (from_variables (initial_variables setup) distinct
    (initial_named (globals setup.tree) (text_systems setup) (λ j s e. system_named setup typed j s e) (initial_variables setup) typed.initial_variables))
