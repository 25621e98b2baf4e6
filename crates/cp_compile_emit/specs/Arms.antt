-- The labels of a `case`.
use Rattle.std.specs.Prelude.{ℤ, List, [], ◌∷◌, Option, None, Some}
use Rattle.cp_model_program.specs.Programs.{Arm}
use Rattle.cp_model_program.specs.CodedStatements.{highest, lowest}

-- The lowest and the highest label, if there are labels.
abbrev pub bounds_of : List Arm → Option (ℤ × ℤ)
bounds_of [] = None
bounds_of (x ∷ xs) = Some (lowest x.label xs, highest x.label xs)
