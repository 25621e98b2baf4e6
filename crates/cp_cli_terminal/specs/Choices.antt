-- When lines are coloured.
use Rattle.std.specs.Prelude.{◌≡◌, ◌≢◌, ◌&&◌, List, ℕ, Bool, true, false, not, Option, None, Some, codes}
use Rattle.cp_cli_terminal.specs.declared.colours.Colours.{Colours}
use Rattle.cp_cli_terminal.specs.declared.colours.Colours.TheVariants as colours

abbrev pub are_shown : Colours → Bool → Bool → Bool
are_shown colours.Auto is_terminal is_refused = is_terminal && not is_refused
are_shown colours.Always is_terminal is_refused = true
are_shown colours.Never is_terminal is_refused = false

-- The name of a choice.
abbrev pub name_of : Colours → List ℕ
name_of colours.Auto = codes "auto"
name_of colours.Always = codes "always"
name_of colours.Never = codes "never"

-- A choice has this name, or none has it.
abbrev pub IsNamed : List ℕ → Option Colours → Type 0
IsNamed name (Some choice) = name ≡ name_of choice
IsNamed name None = (choice : Colours) → name ≢ name_of choice
