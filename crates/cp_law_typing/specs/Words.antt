-- Words: what a variable takes from its owner.
use Rattle.std.specs.Prelude.{ℕ, ◌+◌, ◌*◌, List, [], ◌∷◌, length, filter}
use Rattle.cp_model.specs.Abstract.{Class, Name, Sort, System}
use Rattle.cp_model.specs.Types.{ArrayOf, ComponentOf, GlobalScope, Members, MoreMembers, NoMembers, NoType, Queue, RecordOf, ResolvedType, Simple}
use Rattle.cp_model.specs.Declarations.{Variable, declarations, is_component}
use Rattle.cp_model.specs.Integers.{count_between}

-- a process or a monitor is an owner itself
abbrev pub component_words : Sort → ℕ → ℕ
component_words Class n = n
component_words _ n = 0

-- the number of parameters that are rights to components
abbrev pub rights_in : GlobalScope → System → ℕ
rights_in g s = length (filter (λ v. is_component v.1.type) (declarations g s.parameters))

abbrev mutual
  pub words : GlobalScope → ResolvedType → ℕ
  words g (Simple b low high start) = 1
  words g (ArrayOf low high t) = count_between low high * words g t
  words g (RecordOf ps) = words_of_members g ps
  words g Queue = 1
  words g (ComponentOf s inner) = component_words s.sort (1 + rights_in g s + words_of_members g inner)
  words g NoType = 0

  pub words_of_members : GlobalScope → Members → ℕ
  words_of_members g NoMembers = 0
  words_of_members g (MoreMembers x t ps) = words g t + words_of_members g ps

abbrev pub words_of_variables : GlobalScope → List (Name × Variable) → ℕ
words_of_variables g [] = 0
words_of_variables g (v ∷ vs) = words g v.1.type + words_of_variables g vs
