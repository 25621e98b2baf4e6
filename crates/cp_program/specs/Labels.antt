-- The labels of a `case`, as plain data of the definitions.
use Rattle.std.specs.Prelude.{ℕ, ℤ, List, Option, map}
use Rattle.cp_model_program.specs.Programs as code
use Rattle.cp_model_program.specs.Tables.{arm_at}
use Rattle.cp_program.specs.declared.arm.Arm.{Arm}

abbrev pub arm : Arm → code.Arm
arm x = record { label = x.label; place = x.place }

-- The place of the first arm with the label.
abbrev pub place_of_label : List Arm → ℤ → Option ℕ
place_of_label arms n = arm_at (map arm arms) n
