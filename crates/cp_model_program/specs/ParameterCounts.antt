-- How many parameters the system types of a text have.
use Rattle.std.specs.Prelude.{ℕ, ◌+◌, Bool, true, false, List, [], ◌∷◌, if◌then◌else◌, length, nat_lt}
use Rattle.cp_model.specs.Abstract.{Definition, Group, SystemDef}
use Rattle.cp_model_program.specs.Layout.{most_arguments}

abbrev pub parameter_count : List Group → ℕ
parameter_count [] = 0
parameter_count (d ∷ ds) = length d.names + parameter_count ds

-- With its mark, each has fewer words for parameters than an `init` has room for.
abbrev pub is_short : List Group → Bool
is_short ds = nat_lt (parameter_count ds) most_arguments

abbrev pub are_short : List Definition → Bool
are_short [] = true
are_short (SystemDef x s ∷ ds) = if is_short s.parameters then are_short ds else false
are_short (_ ∷ ds) = are_short ds
