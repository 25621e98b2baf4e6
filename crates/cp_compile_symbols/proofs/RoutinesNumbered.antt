-- Routines are numbered by their names.
use Rattle.std.proofs.Common.{◌≡◌, ◌∷◌, ◌∙◌, Bool, true, false, ℕ, suc, List, [], Option, None, Some, if◌then◌else◌, refl, subst, sym}
use Rattle.std.specs.Str.{bytes_eq}
use Rattle.cp_model.specs.Abstract.{Name, Routine}
use Rattle.cp_model.specs.Names.{lookup}
use Rattle.cp_compile_symbols.specs.Systems.{routine_number}
use Rattle.cp_compile_symbols.specs.Tables.{Behind, or_last}

-- The number that is found, or else `left`.
abbrev pub or_left : Option ℕ → Option ℕ → Option ℕ
or_left (Some k) left = Some k
or_left None left = left

-- A name is that of a routine in the table, or else of one of the remaining routines.
abbrev pub PartlyNamed : List Routine → ℕ → List Routine → List (Name × ℕ) → Type 0
PartlyNamed all n left names = (x : Name) → routine_number x 0 all ≡ or_left (lookup x names) (routine_number x n left)

pub none_named : (all : List Routine) (names : List (Name × ℕ)) → names ≡ [] → PartlyNamed all 0 all names
none_named all names none x = rw none refl

pub one_named : (all : List Routine) (n : ℕ) (r : Routine) (left : List Routine) (names more : List (Name × ℕ)) → Behind r.name n names more
    → PartlyNamed all n (r ∷ left) names → PartlyNamed all (suc n) left more
one_named all n r left names more behind partly x =
    partly x ∙ subst (λ o. or_left (lookup x names) (routine_number x n (r ∷ left)) ≡ or_left o (routine_number x (suc n) left)) (sym (behind x))
    (each (lookup x names) (bytes_eq x r.name))
  where
    each : (o : Option ℕ) (b : Bool)
        → or_left o (if b then Some n else routine_number x (suc n) left) ≡ or_left (or_last o b n) (routine_number x (suc n) left)
    each (Some k) b = refl
    each None true = refl
    each None false = refl

pub all_named : (all : List Routine) (n : ℕ) (left : List Routine) (names : List (Name × ℕ)) → left ≡ [] → PartlyNamed all n left names
    → (x : Name) → lookup x names ≡ routine_number x 0 all
all_named all n left names none partly x =
    sym (subst (λ rs. routine_number x 0 all ≡ or_left (lookup x names) (routine_number x n rs)) none (partly x) ∙ each (lookup x names))
  where
    each : (o : Option ℕ) → or_left o None ≡ o
    each None = refl
    each (Some k) = refl
