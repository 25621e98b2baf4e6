-- Tables of names: what contracts see of a table.
use Rattle.std.specs.Prelude.{◌≡◌, ◌<◌, ℕ, zero, suc, false, List, [], ◌∷◌, ◌++◌, Option, Some, None, slice_get}
use Rattle.std.specs.Borrow.{Bor}
use Rattle.std.specs.Str.{bytes_eq}
use Rattle.cp_model.specs.RulesEnvironment.{Text}
use Rattle.cp_base_names.specs.declared.name.Name.{Name}

-- An entry: the letters of the name, and what it represents.
abbrev pub entry_view : {A : Type 0} → Bor Text × A → Text × A
entry_view p = (p.0.now, p.1)

-- An entry of the map, in the same form.
abbrev pub named : {A : Type 0} → Name × A → Text × A
named p = (p.0.letters.now, p.1)

-- No name occurs twice.
abbrev pub AreDistinct : {A : Type 0} → List (Text × A) → Type 0
AreDistinct {A} names =
    (i j : ℕ) (e f : Text × A) → i < j → slice_get names i ≡ Some e → slice_get names j ≡ Some f → bytes_eq f.0 e.0 ≡ false

-- The list with a name added at its end, unless the name represents something already.
abbrev pub with_new : {A : Type 0} → Text → A → List (Text × A) → Option A → List (Text × A)
with_new x v es None = es ++ (x, v) ∷ []
with_new x v es (Some old) = es

-- The entries from a number on represent `v`.
abbrev pub with_values_from : {A : Type 0} → ℕ → A → List (Text × A) → List (Text × A)
with_values_from n v [] = []
with_values_from zero v (e ∷ es) = (e.0, v) ∷ with_values_from zero v es
with_values_from (suc n) v (e ∷ es) = e ∷ with_values_from n v es
