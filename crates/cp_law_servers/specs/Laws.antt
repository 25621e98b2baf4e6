-- The laws of servers.
use Rattle.std.specs.Prelude.{List, [], length, true, ℕ, ◌≡◌}
use Rattle.cp_model.specs.Orders.{replay}
use Rattle.cp_model.specs.Rounds.{Event}
use Rattle.cp_model.specs.Start.{start}
use Rattle.cp_model.specs.States.{Setup, State, process_count, processes}
use Rattle.cp_law_stillness.specs.Stillness.{AreAllOfProcesses, is_still}
use Rattle.cp_model_program.specs.Programs.{Program}
use Rattle.cp_model_program.specs.IsProgramFor.{IsProgramFor}
use Rattle.cp_law_cores.specs.Clocks.{is_timeless}
use Rattle.cp_law_cores.specs.Cores.{Core}
use Rattle.cp_law_cores.specs.CoresOfStates.{IsCoreOf}
use Rattle.cp_law_cores.specs.Laws.{first_core}
use Rattle.cp_law_cores.specs.Verdicts.{all_pass, has_ended, has_no_fault}
use Rattle.cp_law_search.specs.Laws.{IsClockless, IsSearched}
use Rattle.cp_law_exploring.specs.Exploring.{AreExpanded, LeadsInto, count}
use Rattle.cp_law_servers.specs.Servers.{AreServed, all_done, core_is_done}

-- ---- States

abbrev pub DoneIsStill : Type 0
DoneIsStill = (servers : List ℕ) (setup : Setup) (s : State) → all_done servers s (processes setup) ≡ true → is_still setup s ≡ true

abbrev pub DoneIsSound : Type 0
DoneIsSound = (servers : List ℕ) (s : State) (ps : List ℕ) → all_done servers s ps ≡ true → all_pass has_no_fault s ps ≡ true

abbrev pub WithoutServers : Type 0
WithoutServers = (s : State) (ps : List ℕ) → all_done [] s ps ≡ all_pass has_ended s ps

-- ---- Cores

abbrev pub CoreReportsDone : Type 0
CoreReportsDone =
    (servers : List ℕ) (setup : Setup) (s : State) (c : Core)
    → IsCoreOf setup s c → core_is_done servers (process_count setup) c ≡ all_done servers s (processes setup)

-- ---- Searches

-- No order leads to a fault, and all are done in each still state that an order leads to.
abbrev pub NoneIsStuckBut : List ℕ → Setup → Type 0
NoneIsStuckBut servers setup =
    (rounds : List (ℕ × List Event)) → AreAllOfProcesses setup rounds
    → let s = replay setup (start setup) rounds in
    (all_pass has_no_fault s (processes setup) ≡ true) × (is_still setup s ≡ true → all_done servers s (processes setup) ≡ true)

-- If nobody has faulted in a member, and all are done in each still member, no order leads to a fault or
-- gets stuck.
abbrev pub NoOrderIsStuckButServers : Type 0
NoOrderIsStuckButServers =
    (servers : List ℕ) (program : Program) (setup : Setup) (vs : List Core)
    → IsClockless program setup → IsSearched program setup vs → AreServed servers (process_count setup) vs → NoneIsStuckBut servers setup

abbrev pub ExpandedReportsServed : Type 0
ExpandedReportsServed =
    (servers : List ℕ) (program : Program) (setup : Setup) (vs : List Core)
    → IsProgramFor program setup → is_timeless program ≡ true → AreExpanded program vs (length vs) → LeadsInto program vs (first_core program setup)
    → AreServed servers (count program) vs → NoneIsStuckBut servers setup
