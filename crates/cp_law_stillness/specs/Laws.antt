-- The laws of still states. They hold for every setup and every state, with no premise on the text.
use Rattle.std.specs.Prelude.{List, length, true, ℕ, ◌+◌, ◌≡◌}
use Rattle.cp_model.specs.States.{Setup, State, is_in, processes}
use Rattle.cp_model.specs.Turns.{NoStep, kind}
use Rattle.cp_model.specs.Rounds.{Event, phased_round, replay_round, run, sequential_round}
use Rattle.cp_model.specs.Orders.{replay}
use Rattle.cp_model.specs.Report as reports
use Rattle.cp_law_stillness.specs.Stillness.{AreAllOfProcesses, AreOfProcesses, IsIdle, OnlyCountGrows, is_still}

-- ---- Turns

abbrev pub StillHasNoStep : Type 0
StillHasNoStep = (setup : Setup) (s : State) (p : ℕ) → is_still setup s ≡ true → is_in p (processes setup) ≡ true → kind s p ≡ NoStep

abbrev pub StillTurnsChangeNothing : Type 0
StillTurnsChangeNothing =
    (setup : Setup) (s : State) (p : ℕ) → is_still setup s ≡ true → is_in p (processes setup) ≡ true → IsIdle setup s p

-- ---- Rounds

-- A round of any events, lawful or not.
abbrev pub StillEventsChangeNothing : Type 0
StillEventsChangeNothing =
    (setup : Setup) (t : ℕ) (s : State) (events : List Event)
    → is_still setup s ≡ true → AreOfProcesses setup events → OnlyCountGrows setup 1 s (replay_round setup t s events)

abbrev pub StillRoundChangesNothing : Type 0
StillRoundChangesNothing = (setup : Setup) (t : ℕ) (s : State) → is_still setup s ≡ true → OnlyCountGrows setup 1 s (sequential_round setup t s)

abbrev pub StillPhasedRoundChangesNothing : Type 0
StillPhasedRoundChangesNothing = (setup : Setup) (t : ℕ) (s : State) → is_still setup s ≡ true → OnlyCountGrows setup 1 s (phased_round setup t s)

abbrev pub StillRunChangesNothing : Type 0
StillRunChangesNothing = (setup : Setup) (t n : ℕ) (s : State) → is_still setup s ≡ true → OnlyCountGrows setup n s (run setup t n s)

-- Rounds in any orders, each with its turn length.
abbrev pub StillReplayChangesNothing : Type 0
StillReplayChangesNothing =
    (setup : Setup) (s : State) (rounds : List (ℕ × List Event))
    → is_still setup s ≡ true → AreAllOfProcesses setup rounds → OnlyCountGrows setup (length rounds) s (replay setup s rounds)

-- ---- Stillness lasts

abbrev pub StaysStill : Type 0
StaysStill = (setup : Setup) (n : ℕ) (s u : State) → OnlyCountGrows setup n s u → is_still setup u ≡ is_still setup s

-- The first still state of a run is followed only by still ones.
abbrev pub StillAfterMoreRounds : Type 0
StillAfterMoreRounds =
    (setup : Setup) (t m n : ℕ) (s : State) → is_still setup (run setup t m s) ≡ true → is_still setup (run setup t (m + n) s) ≡ true

-- ---- The report

-- The report is that of the state with another count of rounds.
abbrev pub ReportOfCount : Type 0
ReportOfCount =
    (setup : Setup) (n : ℕ) (s u : State)
    → OnlyCountGrows setup n s u → reports.report setup u ≡ reports.report setup (record s { rounds = s.rounds + n })
