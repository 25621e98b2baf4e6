-- Rounds of the meaning, without their ends.
--
-- At the end of a round the processes that were started in it become ready, and the count grows. If nothing
-- uses the clock, that may happen after each step, too, and the count may be left out. A state is closed if
-- nobody is fresh and no round is counted.
use Rattle.std.specs.Prelude.{List, true, ℕ, ◌≡◌, ◌≢◌}
use Rattle.cp_model.specs.Configurations.{Waiting}
use Rattle.cp_model.specs.Orders.{replay}
use Rattle.cp_model.specs.Rounds.{Event, after_closing}
use Rattle.cp_model.specs.Start.{start}
use Rattle.cp_model.specs.States.{Setup, State, is_in, processes}
use Rattle.cp_model.specs.Turns.{step}
use Rattle.cp_law_stillness.specs.Stillness.{AreAllOfProcesses}
use Rattle.cp_law_calls.specs.Runs.{Machine}
use Rattle.cp_law_calls.specs.Ways.{way}

abbrev pub closed : State → State
closed s = record s { status = λ p. after_closing (s.status p); rounds = 0 }

-- A step of a process, and then the end of a round.
abbrev pub machine : Setup → Machine State
machine setup = record { processes = processes setup; move = λ s p. closed (step setup s p); way = way }

-- Nothing uses the clock: in each state that rounds of the text's processes reach, no step depends on the
-- count of rounds, and nobody waits. A text without `realtime` and `wait` is such a text.
pub record IsTimeless (setup : Setup) : Type 0 where
  pub count : (rounds : List (ℕ × List Event)) (p n : ℕ) → AreAllOfProcesses setup rounds → is_in p (processes setup) ≡ true
      → closed (step setup (record (replay setup (start setup) rounds) { rounds = n }) p) ≡ closed (step setup (replay setup (start setup) rounds) p)
  pub awake : (rounds : List (ℕ × List Event)) (p : ℕ) → AreAllOfProcesses setup rounds → (replay setup (start setup) rounds).status p ≢ Waiting
