-- Processes that have no private step to make.
use Rattle.std.specs.Prelude.{ℕ, Bool, true, not, nat_eq}
use Rattle.cp_private.specs.declared.private.Activity.{Activity}
use Rattle.cp_private.specs.declared.private.Activity.TheVariants as activity_case
use Rattle.cp_private.specs.declared.private.Private.{Private}

abbrev pub is_idle_while : Bool → ℕ → Activity → Bool
is_idle_while wakes gate activity_case.NotBegun = true
is_idle_while wakes gate activity_case.Running = not (nat_eq gate 0)
is_idle_while wakes gate activity_case.Waiting = not wakes
is_idle_while wakes gate activity_case.Ended = true
is_idle_while wakes gate (activity_case.Faulted f) = true

-- The process has no private step to make in a round, in which the processes that wait for the clock
-- continue if it wakes them.
abbrev pub is_idle : Bool → Private → Bool
is_idle wakes x = is_idle_while wakes x.gate x.activity
