-- The reach of a process: the locations that it owns, those of its activations, and those of each
-- monitor that an end mark of its continuation names.
--
-- A process that is asking or delayed still has the monitor in its reach, although it doesn't hold
-- the gate: its activation may refer to the monitor's variables, and it continues only when it holds
-- the gate again.
use Rattle.std.specs.Prelude.{Bool, List, nat_eq, ℕ}
use Rattle.cp_model.specs.Locations.{Location, OfActivation, OfMonitor, OfProcess, Owner}
use Rattle.cp_model.specs.Continuations.{marked_monitors}
use Rattle.cp_model.specs.States.{State, is_in}

-- Whether the locations of an owner are in the reach of p, given the monitors `ms` that p's end
-- marks name.
abbrev pub in_reach : ℕ → List ℕ → Owner → Bool
in_reach p ms (OfProcess q) = nat_eq p q
in_reach p ms (OfActivation q d) = nat_eq p q
in_reach p ms (OfMonitor m) = is_in m ms

-- Whether a location is in the reach of p in a state.
abbrev pub reach : State → ℕ → Location → Bool
reach s p l = in_reach p (marked_monitors (s.continuation p)) l.owner
