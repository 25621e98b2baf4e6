-- The laws of searches by calls.
use Rattle.std.specs.Prelude.{Contains, List, false, true, ℕ, ◌≡◌}
use Rattle.cp_model.specs.Configurations.{Faulted}
use Rattle.cp_model.specs.Erase as erase
use Rattle.cp_model.specs.Orders.{replay}
use Rattle.cp_model.specs.Rounds.{Event}
use Rattle.cp_model.specs.Start.{start}
use Rattle.cp_model.specs.States.{Setup, State, is_in, numbers_from, process_count, processes}
use Rattle.cp_model.specs.Syntax as s
use Rattle.cp_law_stillness.specs.Stillness.{AreAllOfProcesses, is_still}
use Rattle.cp_model_program.specs.Compile.{compile}
use Rattle.cp_model_program.specs.ParameterCounts.{are_short}
use Rattle.cp_model_program.specs.Programs.{Program}
use Rattle.cp_model_program.specs.IsProgramFor.{IsProgramFor}
use Rattle.cp_law_calls.specs.Clocks.{text_is_timeless}
use Rattle.cp_law_calls.specs.Orders.{closed}
use Rattle.cp_law_calls.specs.Runs.{ByCalls, IsSettled, Runs, Settles}
use Rattle.cp_law_calls.specs.Ways.{Eager, way}
use Rattle.cp_law_cores.specs.Clocks.{is_timeless}
use Rattle.cp_law_cores.specs.Cores.{Core, close, is_private_on, kernel_at, part, private_at}
use Rattle.cp_law_cores.specs.Laws.{AreFine, first_core}
use Rattle.cp_law_cores.specs.CoresOfStates.{IsCoreIn, with_one}
use Rattle.cp_law_cores.specs.Turns.{AreSilent, NoneFresh, private_turn}
use Rattle.cp_law_cores.specs.Verdicts.{HasFault, all_pass, core_has_ended, core_is_sound, core_is_still, has_ended, has_no_fault}
use Rattle.cp_law_search.specs.Calls.{IsClosedByCalls, IsFound, LeadsByCalls, SettlesByCalls, core_machine, move_at, way_at}

-- The program represents the text, and doesn't use the clock.
pub record IsClockless (program : Program) (setup : Setup) : Type 0 where
  pub represents : IsProgramFor program setup
  pub free : is_timeless program ≡ true

-- The compiled program of a text without the clock doesn't use the clock. So one test of the text is
-- enough.
abbrev pub CompiledTextsAreClockless : Type 0
CompiledTextsAreClockless =
    (setup : Setup)
    → IsProgramFor (compile setup.tree) setup → text_is_timeless setup.tree ≡ true → IsClockless (compile setup.tree) setup

-- For an accepted tree this test is enough, since its compiled program represents its text, if its
-- system types have few parameters.
abbrev pub TextIsClockless : s.Tree → Type 0
TextIsClockless t =
    (setup : Setup) → setup.tree ≡ erase.abstract t → are_short setup.tree.definitions ≡ true → text_is_timeless setup.tree ≡ true
    → IsClockless (compile setup.tree) setup

-- ---- Ways

-- The way of a process is read off each core of the state.
abbrev pub CoreReportsWay : Type 0
CoreReportsWay =
    (program : Program) (setup : Setup) (s : State) (c : Core) (p : ℕ)
    → IsCoreIn program setup s c → is_in p (processes setup) ≡ true → way_at program c p ≡ way s p

-- ---- What orders lead to

-- `vs` is closed by calls, and the first core settles as a member.
pub record IsSearched (program : Program) (setup : Setup) (vs : List Core) : Type 0 where
  pub closed : IsClosedByCalls program setup (Contains vs)
  pub first : LeadsByCalls program setup (Contains vs) (first_core program setup)

-- If a list has been searched so, each state that rounds in any orders lead to has a core that
-- settles by eager steps, after the end of the round, as a core that has a state in common with a
-- member.
abbrev pub OrdersSettleByCalls : Type 0
OrdersSettleByCalls =
    (program : Program) (setup : Setup) (vs : List Core) (rounds : List (ℕ × List Event))
    → IsClockless program setup → IsSearched program setup vs → AreAllOfProcesses setup rounds
    → SettlesByCalls program setup (Contains vs) (replay setup (start setup) rounds)

-- The verdict of each still state is that of a member.
abbrev pub VerdictsAreOfMembers : Type 0
VerdictsAreOfMembers =
    (program : Program) (setup : Setup) (vs : List Core) (rounds : List (ℕ × List Event))
    → IsClockless program setup → IsSearched program setup vs → AreAllOfProcesses setup rounds
    → let s = replay setup (start setup) rounds in
    let n = process_count setup in
    is_still setup s ≡ true
    → (w : Core) × Contains vs w × (core_is_still n w ≡ true)
    × (core_has_ended n w ≡ all_pass has_ended s (processes setup)) × (core_is_sound n w ≡ all_pass has_no_fault s (processes setup))

-- A process that has stopped by a fault in any state that an order leads to, has stopped by it in a member.
abbrev pub FaultsAreInMembers : Type 0
FaultsAreInMembers =
    (program : Program) (setup : Setup) (vs : List Core) (rounds : List (ℕ × List Event)) (p number : ℕ)
    → IsClockless program setup → IsSearched program setup vs → AreAllOfProcesses setup rounds
    → is_in p (processes setup) ≡ true → (replay setup (start setup) rounds).status p ≡ Faulted number
    → (w : Core) × Contains vs w × HasFault w p number

-- If nobody has faulted in a member, and all have ended in each still member, no order leads to a fault or
-- gets stuck.
abbrev pub NoOrderIsStuckByCalls : Type 0
NoOrderIsStuckByCalls =
    (program : Program) (setup : Setup) (vs : List Core) (rounds : List (ℕ × List Event))
    → IsClockless program setup → IsSearched program setup vs → AreFine (process_count setup) vs → AreAllOfProcesses setup rounds
    → let s = replay setup (start setup) rounds in
    (all_pass has_no_fault s (processes setup) ≡ true) × (is_still setup s ≡ true → all_pass has_ended s (processes setup) ≡ true)

-- If the text doesn't use the clock either, each still state has a member as its core, except for the count
-- of rounds.
abbrev pub StillStatesAreMembers : Type 0
StillStatesAreMembers =
    (program : Program) (setup : Setup) (vs : List Core) (rounds : List (ℕ × List Event))
    → IsClockless program setup → text_is_timeless setup.tree ≡ true → IsSearched program setup vs → AreAllOfProcesses setup rounds
    → let s = replay setup (start setup) rounds in
    is_still setup s ≡ true → (w : Core) × Contains vs w × IsCoreIn program setup (closed s) w

-- For the compiled program, one test of the text is enough.
abbrev pub CompiledStillStatesAreMembers : Type 0
CompiledStillStatesAreMembers =
    (setup : Setup) (vs : List Core) (rounds : List (ℕ × List Event))
    → let program = compile setup.tree in
    IsProgramFor program setup → text_is_timeless setup.tree ≡ true → IsSearched program setup vs → AreAllOfProcesses setup rounds
    → let s = replay setup (start setup) rounds in
    is_still setup s ≡ true → (w : Core) × Contains vs w × IsCoreIn program setup (closed s) w

-- ---- What is found is real

-- Rounds of turns of one step lead to a state for which the core reports the right verdict.
pub record IsReal (setup : Setup) (c : Core) : Type 0 where
  pub rounds : List (List Event)
  pub within : AreAllOfProcesses setup (with_one rounds)
  pub still : core_is_still (process_count setup) c ≡ true → is_still setup (replay setup (start setup) (with_one rounds)) ≡ true
  pub ended : all_pass has_ended (replay setup (start setup) (with_one rounds)) (processes setup) ≡ core_has_ended (process_count setup) c
  pub sound : all_pass has_no_fault (replay setup (start setup) (with_one rounds)) (processes setup) ≡ core_is_sound (process_count setup) c
  pub fault : (p number : ℕ) → is_in p (processes setup) ≡ true → HasFault c p number → (replay setup (start setup) (with_one rounds)).status p ≡ Faulted number

-- Each run of cores is real, even one that breaks off before it settles.
abbrev pub RunIsReal : Type 0
RunIsReal =
    (program : Program) (setup : Setup) (ps : List ℕ) (c : Core)
    → IsClockless program setup → Runs (core_machine program (process_count setup)) (first_core program setup) ps c → IsReal setup c

-- Each run by calls is real.
abbrev pub FoundByCallsIsReal : Type 0
FoundByCallsIsReal =
    (program : Program) (setup : Setup) (calls : List ℕ) (c : Core)
    → IsClockless program setup → ByCalls (core_machine program (process_count setup)) (first_core program setup) calls c → IsReal setup c

-- What is found up to cores that represent the same states is real as well: the same calls lead,
-- without putting one core for another, to a core of the same verdict.
pub record IsExact (program : Program) (setup : Setup) (calls : List ℕ) (u : Core) : Type 0 where
  pub at : Core
  pub reached : ByCalls (core_machine program (process_count setup)) (first_core program setup) calls at
  pub still : core_is_still (process_count setup) at ≡ core_is_still (process_count setup) u
  pub ended : core_has_ended (process_count setup) at ≡ core_has_ended (process_count setup) u
  pub sound : core_is_sound (process_count setup) at ≡ core_is_sound (process_count setup) u

abbrev pub FoundIsExact : Type 0
FoundIsExact =
    (program : Program) (setup : Setup) (calls : List ℕ) (u : Core)
    → IsClockless program setup → IsFound program setup (first_core program setup) calls u → IsExact program setup calls u × IsReal setup u

-- ---- How a core is settled

-- A move of a process is a private step or one of the kernel, and then the end of a round.
abbrev pub StepsOfKinds : Type 0
StepsOfKinds =
    (program : Program) (c : Core) (p : ℕ)
    → (is_private_on program (part c.parts p) ≡ true → move_at program c p ≡ close program (private_at program c p))
    × (is_private_on program (part c.parts p) ≡ false → move_at program c p ≡ close program (kernel_at program c p))

-- A core settles as what it settles as after an eager step.
abbrev pub EagerStepSettles : Type 0
EagerStepSettles =
    (program : Program) (n : ℕ) (c w : Core) (p : ℕ)
    → is_in p (numbers_from 1 n) ≡ true → way_at program c p ≡ Eager
    → Settles (core_machine program n) (move_at program c p) w → Settles (core_machine program n) c w

-- A core settles as what it settles as after a private turn of any length, if it has no output and
-- nobody is fresh.
abbrev pub PrivateTurnSettles : Type 0
PrivateTurnSettles =
    (program : Program) (n t : ℕ) (c w : Core) (p : ℕ)
    → is_timeless program ≡ true → AreSilent c → NoneFresh c.kernel → is_in p (numbers_from 1 n) ≡ true → way_at program c p ≡ Eager
    → Settles (core_machine program n) (private_turn program t c p) w → Settles (core_machine program n) c w

abbrev pub SettledSettles : Type 0
SettledSettles = (program : Program) (n : ℕ) (c : Core) → IsSettled (core_machine program n) c → Settles (core_machine program n) c c
