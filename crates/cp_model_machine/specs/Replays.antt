-- Rounds of the machine as plain data in any order of events, lawful or not.
use Rattle.std.specs.Prelude.{◌≤◌, ℕ, List, [], ◌∷◌, fold}
use Rattle.cp_model.specs.Rounds.{Event, KernelTurn, PrivateStep}
use Rattle.cp_model_machine.specs.Machines.{Machine, end_round, kernel_turn, private_turn, wake}

-- One private step is a private turn of one step.
abbrev pub event : ℕ → Machine → Event → Machine
event n m (PrivateStep p) = private_turn 1 m p
event n m (KernelTurn p) = kernel_turn n m p

abbrev pub replay : ℕ → List Event → Machine → Machine
replay n events m = end_round (fold (event n) (wake m) events)

-- ---- Numbers of processes

abbrev pub process_of : Event → ℕ
process_of (PrivateStep p) = p
process_of (KernelTurn p) = p

-- The events are of processes 1 to n.
abbrev pub AreWithin : ℕ → List Event → Type 0
AreWithin n [] = Unit {0}
AreWithin n (e ∷ es) = (1 ≤ process_of e) × (process_of e ≤ n) × AreWithin n es
