-- The first of the names that are left, and the names of listed components.
use Rattle.std.proofs.Common.{◌≡◌, ℕ, suc, ◌<◌, Bool, true, false, List, [], ◌∷◌, Some, drop, length, map, ap, ◌∙◌, refl, sym}
use Rattle.std.specs.Bool.{Decides}
use Rattle.std.specs.Prelude.{if◌then◌else◌, slice_index_or}
use Rattle.std.specs.Str.{str_to_ascii_lowercase}
use Rattle.std.proofs.lemmas.Bool.Decides.{same_from_decides}
use Rattle.std.proofs.lemmas.Slice.Eq.{bytes_eq-Decides}
use Rattle.cp_model.specs.Abstract.{Name}
use Rattle.cp_model.specs.Declarations.{Variable}
use Rattle.cp_compile_symbols.specs.Representing.{entry}
use Rattle.cp_compile_symbols.specs.declared.types.Field.{Field}
use Rattle.cp_compile_symbols.specs.declared.types.Types.{Types}
use Rattle.cp_inspect.specs.Lists.{AreListed}
use Rattle.cp_inspect.specs.Names.{is_same_name, names_of, number_from}
use Rattle.cp_inspect.proofs.MembersReported.{drop_first}

-- ---- The first name

-- A comparison of the bytes in small letters is that of the names.
pub same_name : (b : Bool) (x y : Name) → Decides b (str_to_ascii_lowercase x ≡ str_to_ascii_lowercase y) → is_same_name x y ≡ b
same_name b x y compares = same_from_decides (is_same_name x y) b (bytes_eq-Decides (str_to_ascii_lowercase x) (str_to_ascii_lowercase y)) compares

-- The next name is the same, or the number is among those behind it.
next_number : (n : ℕ) (x : Name) (fs : List Field) (i : ℕ) (d : Field) (b : Bool) → i < length fs → is_same_name (slice_index_or fs i d).name.now x ≡ b
    → number_from n x (names_of (drop i fs)) ≡ (if b then Some n else number_from (suc n) x (names_of (drop (suc i) fs)))
next_number n x fs i d b h is =
    ap (number_from n x) (drop_first (λ (f : Field). f.name.now) fs i d h)
    ∙ ap (λ c. if c then Some n else number_from (suc n) x (names_of (drop (suc i) fs))) is

pub first_found : (n : ℕ) (x : Name) (fs : List Field) (i : ℕ) (d : Field) → i < length fs → is_same_name (slice_index_or fs i d).name.now x ≡ true
    → number_from n x (names_of (drop i fs)) ≡ Some n
first_found n x fs i d h is = next_number n x fs i d true h is

pub first_passed : (n : ℕ) (x : Name) (fs : List Field) (i : ℕ) (d : Field) → i < length fs → is_same_name (slice_index_or fs i d).name.now x ≡ false
    → number_from n x (names_of (drop i fs)) ≡ number_from (suc n) x (names_of (drop (suc i) fs))
first_passed n x fs i d h is = next_number n x fs i d false h is

-- ---- Listed components

-- They have the names of the variables that are listed.
pub listed_names : (types : Types) (fs : List Field) (vs : List (Name × Variable)) → AreListed types (map entry fs) vs → names_of fs ≡ map (λ v. v.0) vs
listed_names types [] [] h = refl
listed_names types (f ∷ fs) (v ∷ vs) h = ap (λ x. x ∷ names_of fs) h.0 ∙ ap (λ xs. v.0 ∷ xs) (listed_names types fs vs h.2)
listed_names types [] (v ∷ vs) h = absurd h
listed_names types (f ∷ fs) [] h = absurd h
