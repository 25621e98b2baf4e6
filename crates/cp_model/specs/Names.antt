-- Names: how a name is found in a list of declarations. Two names are the same if their bytes are.
use Rattle.std.specs.Prelude.{List, None, Option, Some, [], if◌then◌else◌, ◌∷◌}
use Rattle.std.specs.Str.{bytes_eq}
use Rattle.cp_model.specs.Abstract.{Name}

-- The first entry with this name.
abbrev pub lookup : {A : Type 0} → Name → List (Name × A) → Option A
lookup x [] = None
lookup x (e ∷ es) = if bytes_eq x e.0 then Some e.1 else lookup x es
