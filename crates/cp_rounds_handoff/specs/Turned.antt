-- The private turns of one round, as one map over the parts of a machine.
use Rattle.std.specs.Prelude.{◌≡◌, ℕ, suc, ◌+◌, ◌/◌, ◌%◌, Bool, if◌then◌else◌, map, nat_eq}
use Rattle.cp_model_program.specs.Programs.{Program}
use Rattle.cp_model_machine.specs.Machines.{Machine, wake_one}
use Rattle.cp_model_machine.specs.PrivateStates.{PrivateState}
use Rattle.cp_model_machine.specs.Steps.{private_steps}
use Rattle.cp_rounds_handoff.specs.declared.round_time.RoundTime.{RoundTime}
use Rattle.cp_rounds_handoff.specs.declared.config.MachineConfig.{MachineConfig}

-- The time of the round after the first `rounds` rounds.
abbrev pub round_time_of : ℕ → ℕ → RoundTime
round_time_of tick rounds = record { clock = suc rounds / tick; wakes = nat_eq (suc rounds % tick) 0 }

-- The times of the rounds after the first `rounds` rounds.
abbrev pub AreTimes : (ℕ → RoundTime) → MachineConfig → ℕ → Type 0
AreTimes round_time g rounds = (i : ℕ) → round_time i ≡ round_time_of g.tick.rounds (rounds + i)

abbrev pub woken : Bool → PrivateState → PrivateState
woken wakes o = if wakes then wake_one o else o

-- What a private turn of at most t steps makes of a private state.
abbrev pub take_turn : Program → ℕ → RoundTime → PrivateState → PrivateState
take_turn program t w o = private_steps program w.clock t (woken w.wakes o)

-- The machine after all private turns of a round.
abbrev pub with_turn_taken : ℕ → Machine → Machine
with_turn_taken t m = record m { parts = map (take_turn m.program t (round_time_of m.tick m.rounds)) m.parts }
