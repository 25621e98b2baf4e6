-- When a table is right about the name of the type with which each name is declared.
use Rattle.std.specs.Prelude.{◌≡◌, List, [], Option, None, Some, if◌then◌else◌}
use Rattle.std.specs.Borrow.{Bor}
use Rattle.cp_model.specs.Abstract.{Group, Name}
use Rattle.cp_model.specs.Names.{lookup}
use Rattle.cp_model_program.specs.Scopes.{declared_type, is_among}

-- The name that is found, or else `other`.
abbrev pub name_or : Option (Bor Name) → Name → Name
name_or None other = other
name_or (Some n) other = n.now

-- The name of the type of `x`: `of` if `x` is one of `names`, and otherwise `behind`.
abbrev pub typed_among : List Name → Name → Name → Name → Name
typed_among names of x behind = if is_among x names then of else behind

-- Type names are added after those that were there, so the old ones are found first.
abbrev pub NamesMore : List (Name × Bor Name) → List (Name × Bor Name) → (Name → Name → Name) → Type 0
NamesMore old new f = (x behind : Name) → name_or (lookup x new) behind ≡ name_or (lookup x old) (f x behind)

abbrev pub AreTypeNames : List (Name × Bor Name) → List Group → Type 0
AreTypeNames table groups = (x : Name) → name_or (lookup x table) [] ≡ declared_type x groups
