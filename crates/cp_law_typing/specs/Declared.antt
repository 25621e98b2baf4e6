-- What may be declared: the parameters and variables of routines, of system types and of the
-- initial process.
use Rattle.std.specs.Prelude.{◌≡◌, ◌≤◌, ◌⊎◌, ℕ, Bool, true, false, List, [], ◌∷◌, Option, None, Some, slice_get}
use Rattle.cp_model.specs.Abstract.{Class, Monitor, Name, Sort, System}
use Rattle.cp_model.specs.Names.{lookup}
use Rattle.cp_model.specs.Types.{ComponentOf, GlobalScope, ResolvedType, named_type}
use Rattle.cp_model.specs.Declarations.{Variable, is_component, reported_members}
use Rattle.cp_model.specs.RulesTypes.{word_limit}
use Rattle.cp_law_typing.specs.Judgement.{IsSimple, has_queues}
use Rattle.cp_law_typing.specs.SoundTypes.{SoundType}
use Rattle.cp_law_typing.specs.Words.{words}

abbrev pub Each : (Name × Variable → Type 0) → List (Name × Variable) → Type 0
Each P [] = Unit {0}
Each P (v ∷ vs) = P v × Each P vs

-- no name occurs twice
abbrev pub Distinct : List (Name × Variable) → Type 0
Distinct [] = Unit {0}
Distinct (v ∷ vs) = (lookup v.0 vs ≡ None) × Distinct vs

-- ---- Types of components

-- a component's type has the members that are reported of its system type
abbrev pub IsReported : GlobalScope → ResolvedType → Type 0
IsReported g (ComponentOf s inner) = inner ≡ reported_members g s
IsReported g _ = Unit {0}

-- the type of one of these system types, with its own members
abbrev pub IsSystem : GlobalScope → List System → ResolvedType → Type 0
IsSystem g before (ComponentOf s inner) = (i : ℕ) × (slice_get before i ≡ Some s) × (inner ≡ reported_members g s)
IsSystem g before _ = ⊥

abbrev pub sort_of : ResolvedType → Option Sort
sort_of (ComponentOf s inner) = Some s.sort
sort_of _ = None

-- ---- Types of data

-- a sound type with no more words than an owner may have
abbrev pub IsData : GlobalScope → ResolvedType → Type 0
IsData g t = SoundType t × (words g t ≤ word_limit)

-- named types are data, or have the members that are reported of their system types. A class that
-- no owner has may be larger
abbrev pub AllFormed : GlobalScope → List (Name × ResolvedType) → Type 0
AllFormed g [] = Unit {0}
AllFormed g (t ∷ ts) = ((is_component t.1 ≡ false → IsData g t.1) × IsReported g t.1) × AllFormed g ts

-- ---- Routines

-- only procedures have `var` parameters
abbrev pub RoutineParameter : GlobalScope → Bool → Name × Variable → Type 0
RoutineParameter g is_function v =
    IsData g v.1.type × (has_queues v.1.type ≡ false) × (is_function ≡ true → v.1.by_reference ≡ false)

abbrev pub RoutineVariable : GlobalScope → Name × Variable → Type 0
RoutineVariable g v = IsData g v.1.type × (has_queues v.1.type ≡ false) × (v.1.by_reference ≡ false)

abbrev pub is_function : Option Name → Bool
is_function None = false
is_function (Some t) = true

abbrev pub ResultFits : GlobalScope → Option Name → Type 0
ResultFits g None = Unit {0}
ResultFits g (Some t) = IsSimple (named_type g t) × IsData g (named_type g t)

-- ---- Components of a system type, after the system types in `before`

-- a right to a monitor or, for a class, a right to a class
abbrev pub MayBePassed : Sort → Option Sort → Type 0
MayBePassed sort of = (of ≡ Some Monitor) ⊎ ((sort ≡ Class) × (of ≡ Some Class))

-- a simple value, or a right
abbrev pub SystemParameter : GlobalScope → List System → Sort → Name × Variable → Type 0
SystemParameter g before sort v =
    (v.1.by_reference ≡ false)
    × ((IsSimple v.1.type × IsData g v.1.type) ⊎ (IsSystem g before v.1.type × MayBePassed sort (sort_of v.1.type)))

-- only monitors have queues, and the only components are classes
abbrev pub SystemVariable : GlobalScope → List System → Sort → Name × Variable → Type 0
SystemVariable g before sort v =
    (v.1.by_reference ≡ false)
    × ((IsData g v.1.type × (has_queues v.1.type ≡ true → sort ≡ Monitor)) ⊎ (IsSystem g before v.1.type × (sort_of v.1.type ≡ Some Class)))

-- data without queues, or a component of any sort
abbrev pub InitialVariable : GlobalScope → List System → Name × Variable → Type 0
InitialVariable g before v =
    (v.1.by_reference ≡ false) × ((IsData g v.1.type × (has_queues v.1.type ≡ false)) ⊎ IsSystem g before v.1.type)
