-- The laws of cores.
use Rattle.std.specs.Prelude.{Contains, List, true, ℕ, ◌≡◌}
use Rattle.cp_model.specs.Configurations.{Faulted}
use Rattle.cp_model.specs.Orders.{replay}
use Rattle.cp_model.specs.Rounds.{Event, close_round, wake}
use Rattle.cp_model.specs.Start.{start}
use Rattle.cp_model.specs.States.{Setup, State, is_in, process_count, processes}
use Rattle.cp_model.specs.Turns.{kernel_step, kind, private_step}
use Rattle.cp_law_stillness.specs.Stillness.{AreAllOfProcesses, is_still}
use Rattle.cp_model_program.specs.Programs.{Program}
use Rattle.cp_model_program.specs.IsProgramFor.{IsProgramFor}
use Rattle.cp_model_machine.specs.Machines.{first_machine}
use Rattle.cp_law_cores.specs.Clocks.{is_timeless}
use Rattle.cp_law_cores.specs.Cores.{Core, close, core, is_private_on, kernel_at, part, private_at}
use Rattle.cp_law_cores.specs.CoresOfStates.{IsCoreIn, IsCoreOf, IsCoveredBy, is_private_kind}
use Rattle.cp_law_cores.specs.Turns.{NoneFresh}
use Rattle.cp_law_cores.specs.Verdicts.{HasFault, all_pass, core_has_ended, core_is_sound, core_is_still, has_ended, has_no_fault}
use Rattle.cp_law_cores.specs.Wiping.{wiped_core}

abbrev pub first_core : Program → Setup → Core
first_core program setup = core (first_machine program setup.tick setup.inputs)

-- ---- Cores follow states

-- Each state that rounds in any order reach has a core.
abbrev pub ReachedStatesHaveCores : Type 0
ReachedStatesHaveCores =
    (program : Program) (setup : Setup) (rounds : List (ℕ × List Event))
    → IsProgramFor program setup → is_timeless program ≡ true → AreAllOfProcesses setup rounds
    → (c : Core) × IsCoreIn program setup (replay setup (start setup) rounds) c

-- A core reports whose next steps are private.
abbrev pub CoreReportsKind : Type 0
CoreReportsKind =
    (program : Program) (setup : Setup) (s : State) (c : Core) (p : ℕ)
    → IsCoreIn program setup s c → is_in p (processes setup) ≡ true
    → is_private_on program (part c.parts p) ≡ is_private_kind (kind s p)

-- If a core and its state make the same step, the one is a core of the other again.
abbrev pub StepsKeepCores : Type 0
StepsKeepCores =
    (program : Program) (setup : Setup) (s : State) (c : Core) (p : ℕ)
    → is_timeless program ≡ true → IsCoreIn program setup s c → is_in p (processes setup) ≡ true
    → IsCoreIn program setup (private_step setup s p) (private_at program c p)
    × IsCoreIn program setup (kernel_step setup s p) (kernel_at program c p)

-- The same holds for the end of a round. Waking changes no core.
abbrev pub RoundsKeepCores : Type 0
RoundsKeepCores =
    (program : Program) (setup : Setup) (s : State) (c : Core)
    → is_timeless program ≡ true → IsCoreIn program setup s c
    → IsCoreIn program setup (close_round s) (close program c) × IsCoreIn program setup (wake setup s) c

-- ---- What cores report

-- A core reports whether nobody can move in its state.
abbrev pub CoreReportsStill : Type 0
CoreReportsStill = (setup : Setup) (s : State) (c : Core) → IsCoreOf setup s c → core_is_still (process_count setup) c ≡ is_still setup s

-- A core reports whether all have ended.
abbrev pub CoreReportsEnd : Type 0
CoreReportsEnd = (setup : Setup) (s : State) (c : Core) → IsCoreOf setup s c → core_has_ended (process_count setup) c ≡ all_pass has_ended s (processes setup)

-- A core reports whether nobody has faulted.
abbrev pub CoreReportsSound : Type 0
CoreReportsSound = (setup : Setup) (s : State) (c : Core) → IsCoreOf setup s c → core_is_sound (process_count setup) c ≡ all_pass has_no_fault s (processes setup)

-- A core reports who has faulted, and with which number.
abbrev pub CoreReportsFaults : Type 0
CoreReportsFaults =
    (setup : Setup) (s : State) (c : Core) (p number : ℕ)
    → IsCoreOf setup s c → is_in p (processes setup) ≡ true
    → (s.status p ≡ Faulted number → HasFault c p number) × (HasFault c p number → s.status p ≡ Faulted number)

-- Nobody has faulted in a core of the list, and if one is still, all have ended in it.
pub record AreFine (n : ℕ) (vs : List Core) : Type 0 where
  pub sound : (c : Core) → Contains vs c → core_is_sound n c ≡ true
  pub ended : (c : Core) → Contains vs c → core_is_still n c ≡ true → core_has_ended n c ≡ true

-- ---- What a search may leave out

-- The end of a round in which nobody begins changes nothing.
abbrev pub NobodyBegins : Type 0
NobodyBegins = (program : Program) (c : Core) → NoneFresh c.kernel → close program c ≡ c

-- A core whose dead words are wiped is a core of the same states, so a search may keep it instead.
abbrev pub WipedRepresents : Type 0
WipedRepresents = (program : Program) (setup : Setup) (c : Core) → IsCoveredBy program setup c (wiped_core program c)
