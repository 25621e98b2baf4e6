-- Where a `case` leads.
use Rattle.std.specs.Prelude.{ℤ, int_le, List, [], ◌∷◌, Option, Some, None, if◌then◌else◌, slice_index_or}
use Rattle.cp_model.specs.Integers.{same_integer}
use Rattle.cp_model_program.specs.Programs.{Arm, Dense, Sparse, Table}
use Rattle.cp_model_program.specs.Layout.{distance}
use Rattle.std.specs.Prelude.{ℕ}

-- The first arm with the label.
abbrev pub arm_at : List Arm → ℤ → Option ℕ
arm_at [] n = None
arm_at (x ∷ xs) n = if same_integer x.label n then Some x.place else arm_at xs n

-- The place of a number, or none if no label matches.
abbrev pub place_in : Table → ℤ → Option ℕ
place_in (Dense low places) n = if int_le low n then slice_index_or places (distance low n) None else None
place_in (Sparse arms) n = arm_at arms n
