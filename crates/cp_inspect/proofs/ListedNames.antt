-- The names of listed components.
use Rattle.std.proofs.Common.{◌≡◌, ℕ, zero, suc, List, [], ◌∷◌, Option, Some, None, map, refl, sym}
use Rattle.std.specs.Prelude.{slice_get}
use Rattle.cp_model.specs.Abstract.{Name}
use Rattle.cp_model.specs.Declarations.{Variable}
use Rattle.cp_model.specs.Report.{name_at}
use Rattle.cp_compile_symbols.specs.declared.types.Types.{Types}
use Rattle.cp_inspect.specs.Lists.{AreListed}

abbrev pub entry_name : Option (Name × ℕ) → Name
entry_name None = []
entry_name (Some e) = e.0

pub listed_name : (types : Types) (es : List (Name × ℕ)) (vs : List (Name × Variable)) (k : ℕ) → AreListed types es vs → name_at vs k ≡ entry_name (slice_get es k)
listed_name types [] [] k h = refl
listed_name types (e ∷ es) (v ∷ vs) zero h = sym h.0
listed_name types (e ∷ es) (v ∷ vs) (suc k) h = listed_name types es vs k h.2
listed_name types [] (v ∷ vs) k h = absurd h
listed_name types (e ∷ es) [] k h = absurd h

pub map_get : {A B : Type 0} (f : A → B) (xs : List A) (k : ℕ) → slice_get (map f xs) k ≡ elim (slice_get xs k) [ None ↦ None | Some x ↦ Some (f x) ]
map_get f [] k = refl
map_get f (x ∷ xs) zero = refl
map_get f (x ∷ xs) (suc k) = map_get f xs k
