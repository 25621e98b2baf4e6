-- The components of one sort among variables, and where their owners are.
use Rattle.std.proofs.Common.{◌≡◌, ◌<◌, ℕ, zero, suc, ◌+◌, List, [], ◌∷◌, Option, Some, None, refl, ap, sym, subst, ◌∙◌, Bool, true, false, if◌then◌else◌, slice_get, length, arith}
use Rattle.std.proofs.lemmas.Bool.{true≢false}
use Rattle.cp_model.specs.Abstract.{Group, Name, Sort, System}
use Rattle.cp_model.specs.Names.{lookup}
use Rattle.cp_model.specs.Types.{ArrayOf, ComponentOf, Members, NoType, Queue, RecordOf, ResolvedType, Simple}
use Rattle.cp_model.specs.Declarations.{Variable, is_component}
use Rattle.cp_model.specs.Components.{is_component_of}
use Rattle.cp_model.specs.States.{count_components}
use Rattle.cp_law_typing.specs.Declared.{Each}
use Rattle.cp_model_program.specs.IsProgramFor.{component_at, component_in}
use Rattle.cp_model_program.specs.Scopes.{declared_type, or_zero}
use Rattle.cp_model_program.specs.Compile.{Owner, of_sort, owner_before, owners_of}

abbrev AllComponents : List (Name × Variable) → Type 0
AllComponents vs = Each (λ v. is_component v.1.type ≡ true) vs

sorted_is_component : (s : Sort) (t : ResolvedType) → is_component_of s t ≡ true → is_component t ≡ true
sorted_is_component s (ComponentOf r inner) h = refl
sorted_is_component s (Simple b low high start) h = h
sorted_is_component s (ArrayOf low high t) h = h
sorted_is_component s (RecordOf ms) h = h
sorted_is_component s Queue h = h
sorted_is_component s NoType h = h

pub all_components : (s : Sort) (vs : List (Name × Variable)) → AllComponents (of_sort s vs)
all_components s [] = tt
all_components s (v ∷ vs) = go (is_component_of s v.1.type) refl (all_components s vs)
  where
    go : (b : Bool) → is_component_of s v.1.type ≡ b → AllComponents (of_sort s vs) → AllComponents (if b then v ∷ of_sort s vs else of_sort s vs)
    go true is rest = (sorted_is_component s v.1.type is, rest)
    go false is rest = rest

pub sorted_count : (s : Sort) (vs : List (Name × Variable)) → length (of_sort s vs) ≡ count_components s vs
sorted_count s [] = refl
sorted_count s (v ∷ vs) = go (is_component_of s v.1.type) (sorted_count s vs)
  where
    go : (b : Bool) → length (of_sort s vs) ≡ count_components s vs
        → length (if b then v ∷ of_sort s vs else of_sort s vs) ≡ (if b then suc (count_components s vs) else count_components s vs)
    go true rest = ap suc rest
    go false rest = rest

pub sorted_each : (P : Name × Variable → Type 0) (s : Sort) (vs : List (Name × Variable)) → Each P vs → Each P (of_sort s vs)
sorted_each P s [] h = tt
sorted_each P s (v ∷ vs) h = go (is_component_of s v.1.type) (sorted_each P s vs h.1)
  where
    go : (b : Bool) → Each P (of_sort s vs) → Each P (if b then v ∷ of_sort s vs else of_sort s vs)
    go true rest = (h.0, rest)
    go false rest = rest

pub each_at : (P : Name × Variable → Type 0) (vs : List (Name × Variable)) (k : ℕ) (v : Name × Variable) → Each P vs → slice_get vs k ≡ Some v → P v
each_at P [] k v h is = absurd (cc)
each_at P (w ∷ vs) zero v h is = subst P (ap (or_first w) is) h.0
  where
    or_first : Name × Variable → Option (Name × Variable) → Name × Variable
    or_first z None = z
    or_first z (Some y) = y
each_at P (w ∷ vs) (suc k) v h is = each_at P vs k v h.1 is

pub component_type : (t : ResolvedType) → is_component t ≡ true → (s : System) × ((inner : Members) × (t ≡ ComponentOf s inner))
component_type (ComponentOf s inner) h = (s, (inner, refl))
component_type (Simple b low high start) h = absurd (true≢false (sym h))
component_type (ArrayOf low high t) h = absurd (true≢false (sym h))
component_type (RecordOf ms) h = absurd (true≢false (sym h))
component_type Queue h = absurd (true≢false (sym h))
component_type NoType h = absurd (true≢false (sym h))

abbrev pub owner_for : List (Name × ℕ) → List Group → Name → System → Owner
owner_for firsts groups x s = record { system = s; body = or_zero (lookup (declared_type x groups) firsts) + length s.routines }

owner_is : (firsts : List (Name × ℕ)) (groups : List Group) (x : Name) (b : Bool) (t : ResolvedType) (s : System) (inner : Members) (rest : List Owner) → t ≡ ComponentOf s inner
    → owner_before firsts groups (x, record { by_reference = b; type = t }) rest ≡ owner_for firsts groups x s ∷ rest
owner_is firsts groups x b t s inner rest is =
    subst (λ z. owner_before firsts groups (x, record { by_reference = b; type = z }) rest ≡ owner_for firsts groups x s ∷ rest) (sym is) refl

pub owner_at : (firsts : List (Name × ℕ)) (groups : List Group) (vs : List (Name × Variable)) → AllComponents vs → (k : ℕ) (v : Name × Variable) (s : System) (inner : Members)
    → slice_get vs k ≡ Some v → v.1.type ≡ ComponentOf s inner → slice_get (owners_of firsts groups vs) k ≡ Some (owner_for firsts groups v.0 s)
owner_at firsts groups [] h k v s inner is type = absurd (cc)
owner_at firsts groups (w ∷ vs) h zero v s inner is type =
    let same : w ≡ v = ap (or_first w) is in
    ap (λ l. slice_get l 0) (owner_is firsts groups w.0 w.1.by_reference w.1.type s inner (owners_of firsts groups vs) (ap (λ z. z.1.type) same ∙ type))
    ∙ ap (λ z. Some (owner_for firsts groups z.0 s)) same
  where
    or_first : Name × Variable → Option (Name × Variable) → Name × Variable
    or_first z None = z
    or_first z (Some y) = y
owner_at firsts groups (w ∷ vs) h (suc k) v s inner is type =
    let t = component_type w.1.type h.0 in
    ap (λ l. slice_get l (suc k)) (owner_is firsts groups w.0 w.1.by_reference w.1.type t.0 t.1.0 (owners_of firsts groups vs) t.1.1)
    ∙ owner_at firsts groups vs h.1 k v s inner is type

pub owners_counted : (firsts : List (Name × ℕ)) (groups : List Group) (vs : List (Name × Variable)) → AllComponents vs → length (owners_of firsts groups vs) ≡ length vs
owners_counted firsts groups [] h = refl
owners_counted firsts groups (v ∷ vs) h =
    let t = component_type v.1.type h.0 in
    ap length (owner_is firsts groups v.0 v.1.by_reference v.1.type t.0 t.1.0 (owners_of firsts groups vs) t.1.1) ∙ ap suc (owners_counted firsts groups vs h.1)

pub component_there : (vs : List (Name × Variable)) (k : ℕ) (v : Name × Variable) → slice_get vs k ≡ Some v → component_at vs k ≡ component_in v.1.type
component_there [] k v h = absurd (cc)
component_there (w ∷ vs) zero v h = ap (or_none w) h
  where
    or_none : Name × Variable → Option (Name × Variable) → Option System
    or_none z None = component_in z.1.type
    or_none z (Some y) = component_in y.1.type
component_there (w ∷ vs) (suc k) v h = component_there vs k v h
