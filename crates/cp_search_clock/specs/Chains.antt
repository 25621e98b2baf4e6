-- Chains of operators and indices that don't read the clock.
use Rattle.std.specs.Prelude.{Bool, List, [], false, if◌then◌else◌, true, ◌∷◌}
use Rattle.cp_program.specs.View.{After, Before, PlainApplication, PlainIndex}
use Rattle.cp_law_cores.specs.Clocks.{term_is_timeless}

abbrev pub application_is_timeless : PlainApplication → Bool
application_is_timeless (After o right) = term_is_timeless right
application_is_timeless (Before o left) = true

abbrev pub applications_are_timeless : List PlainApplication → Bool
applications_are_timeless [] = true
applications_are_timeless (x ∷ xs) = if application_is_timeless x then applications_are_timeless xs else false

abbrev pub indices_are_timeless : List PlainIndex → Bool
indices_are_timeless [] = true
indices_are_timeless (i ∷ is) = if term_is_timeless i.value then indices_are_timeless is else false
