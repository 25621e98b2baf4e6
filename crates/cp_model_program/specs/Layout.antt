-- Where variables are: the words of components and activations, and the words of their parts.
--
-- A class, or a process or monitor itself, has a mark, a word for each right, and then its own
-- members. A variable that is a process or a monitor takes no word of the component that declares
-- it. A function's result is the first word of its activation.
use Rattle.std.specs.Prelude.{Bool, true, nat_le, ℕ, ℤ, pos, negsuc, suc, ◌+◌, ◌*◌, ◌-ℤ◌, List, [], ◌∷◌, ◌++◌, Option, None, Some, if◌then◌else◌, filter, min}
use Rattle.std.specs.Str.{bytes_eq}
use Rattle.cp_model.specs.Abstract.{Class, Name, Routine, Sort, System}
use Rattle.cp_model.specs.Types.{ArrayOf, ComponentOf, GlobalScope, Members, MoreMembers, NoMembers, RecordOf, ResolvedType}
use Rattle.cp_model.specs.Declarations.{Variable, declarations, is_component, reported_members}
use Rattle.cp_model.specs.Locations.{ByIndex, ByName, Path}
use Rattle.cp_model.specs.Places.{within}
use Rattle.cp_law_typing.specs.Needs.{result_words}
use Rattle.cp_law_typing.specs.Words.{rights_in, words, words_of_members}

-- ---- Components

-- The words before the members: the mark and the rights.
abbrev pub head_words : GlobalScope → System → ℕ
head_words g s = suc (rights_in g s)

abbrev pub component_words : GlobalScope → System → ℕ
component_words g s = head_words g s + words_of_members g (reported_members g s)

-- ---- Parts

-- The distance of a part from the first word, and its type.
abbrev pub Part : Type 0
Part = ℕ × ResolvedType

abbrev pub farther : ℕ → Option Part → Option Part
farther n None = None
farther n (Some p) = Some (n + p.0, p.1)

-- Only a class has its members in its variable.
abbrev pub of_class : Sort → Option Part → Option Part
of_class Class p = p
of_class _ p = None

abbrev pub natural : ℤ → ℕ
natural (pos n) = n
natural (negsuc n) = 0

-- The distance of an index from the lowest one.
abbrev pub distance : ℤ → ℤ → ℕ
distance low i = natural (i -ℤ low)

abbrev mutual
  pub part : GlobalScope → ResolvedType → Path → Option Part
  part g t [] = Some (0, t)
  part g (ArrayOf low high t) (ByIndex i ∷ path) =
      if within low high i then farther (distance low i * words g t) (part g t path) else None
  part g (RecordOf ms) (ByName x ∷ path) = member_part g 0 ms x path
  part g (ComponentOf s inner) (ByName x ∷ path) = of_class s.sort (member_part g (head_words g s) inner x path)
  part g _ _ = None

  pub member_part : GlobalScope → ℕ → Members → Name → Path → Option Part
  member_part g at NoMembers x path = None
  member_part g at (MoreMembers y t ms) x path =
      if bytes_eq x y then farther at (part g t path) else member_part g (at + words g t) ms x path

-- Where a member of a component of this system type is.
abbrev pub member : GlobalScope → System → Name → Option Part
member g s x = member_part g (head_words g s) (reported_members g s) x []

-- ---- Activations

abbrev pub local_words : GlobalScope → Variable → ℕ
local_words g v = if v.by_reference then 1 else words g v.type

-- The parameters and variables of a routine, without its result.
abbrev pub locals : GlobalScope → Routine → List (Name × Variable)
locals g r = declarations g r.parameters ++ declarations g r.variables

abbrev pub locals_words : GlobalScope → List (Name × Variable) → ℕ
locals_words g [] = 0
locals_words g (v ∷ vs) = local_words g v.1 + locals_words g vs

abbrev pub activation_words : GlobalScope → Routine → ℕ
activation_words g r = result_words r.result + locals_words g (locals g r)

abbrev pub local_at : GlobalScope → ℕ → List (Name × Variable) → Name → Option (ℕ × Variable)
local_at g at [] x = None
local_at g at (v ∷ vs) x = if bytes_eq x v.0 then Some (at, v.1) else local_at g (at + local_words g v.1) vs x

-- Where a parameter or variable of a routine is in its activation.
abbrev pub local : GlobalScope → Routine → Name → Option (ℕ × Variable)
local g r x = local_at g (result_words r.result) (locals g r) x

-- ---- Room

-- The greatest number of words that a program can name. Types and units of a text that nobody reaches
-- can need more: these have no room, and no code.
abbrev pub most_words : ℕ
most_words = 4294967295

-- An `init` needs room for its arguments, of which there are fewer than this number.
abbrev pub most_arguments : ℕ
most_arguments = 1048576

abbrev pub has_room : ℕ → Bool
has_room n = nat_le n most_words

-- A number of words, or the greatest one where it has no room.
abbrev pub capped : ℕ → ℕ
capped n = min n most_words

abbrev pub routine_fits : GlobalScope → Option Routine → Bool
routine_fits g None = true
routine_fits g (Some r) = has_room (activation_words g r)

-- The parameters that a call passes. A routine whose activation has no room gets none.
abbrev pub passed_parameters : GlobalScope → Routine → List (Name × Variable)
passed_parameters g r = if has_room (activation_words g r) then declarations g r.parameters else []

-- ---- Rights

abbrev pub rights : GlobalScope → System → List (Name × Variable)
rights g s = filter (λ v. is_component v.1.type) (declarations g s.parameters)

abbrev pub right_at : ℕ → List (Name × Variable) → Name → Option (ℕ × Variable)
right_at at [] x = None
right_at at (v ∷ vs) x = if bytes_eq x v.0 then Some (at, v.1) else right_at (suc at) vs x

-- Where a right is in its component.
abbrev pub right : GlobalScope → System → Name → Option (ℕ × Variable)
right g s x = right_at 1 (rights g s) x
