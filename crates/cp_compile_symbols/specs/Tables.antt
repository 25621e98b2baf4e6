-- Tables of names, and what it means to add a name.
use Rattle.std.specs.Prelude.{◌≡◌, Bool, true, false, Option, None, Some, List, ◌∷◌}
use Rattle.std.specs.Str.{bytes_eq}
use Rattle.cp_model.specs.Abstract.{Name}
use Rattle.cp_model.specs.Names.{lookup}

-- The name `x` is added before all others.
abbrev pub InFront : {A : Type 0} → Name → A → List (Name × A) → List (Name × A) → Type 0
InFront x v old new = (y : Name) → lookup y new ≡ lookup y ((x, v) ∷ old)

-- The value found for a name, or else `v` if the name is the last one.
abbrev pub or_last : {A : Type 0} → Option A → Bool → A → Option A
or_last (Some a) last v = Some a
or_last None true v = Some v
or_last None false v = None

-- The name `x` is added after all others.
abbrev pub Behind : {A : Type 0} → Name → A → List (Name × A) → List (Name × A) → Type 0
Behind x v old new = (y : Name) → lookup y new ≡ or_last (lookup y old) (bytes_eq y x) v
