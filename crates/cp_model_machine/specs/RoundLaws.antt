-- The laws of whole rounds, of rounds in any order of events, of runs and of reports.
use Rattle.std.specs.Prelude.{◌≡◌, ℕ, List}
use Rattle.cp_model.specs.Orders.{IsLawful}
use Rattle.cp_model.specs.Report.{report}
use Rattle.cp_model.specs.Rounds as meaning
use Rattle.cp_model.specs.Rounds.{Event}
use Rattle.cp_model.specs.Start.{start}
use Rattle.cp_model.specs.States.{Setup, State, process_count, processes}
use Rattle.cp_model_program.specs.Programs.{Program}
use Rattle.cp_model_program.specs.IsProgramFor.{IsProgramFor}
use Rattle.cp_model_machine.specs.InState.{IsIn, NoneFresh}
use Rattle.cp_model_machine.specs.Machines.{Machine, end_round, first_machine, phased_round, phased_rounds}
use Rattle.cp_model_machine.specs.Replays.{AreWithin, replay}
use Rattle.cp_model_machine.specs.Reports.{machine_report}

-- The first machine is in the start of the meaning.
abbrev pub StartIsIn : Type 0
StartIsIn =
    (program : Program) (setup : Setup) → IsProgramFor program setup
    → IsIn (first_machine program setup.tick setup.inputs) setup (start setup)

-- A round with turns of `n` steps leads the machine to the state that the meaning's phased round
-- leads to.
abbrev pub RoundIsRound : Type 0
RoundIsRound =
    (m : Machine) (setup : Setup) (s : State) (n : ℕ) → IsIn m setup s
    → IsIn (phased_round n (processes setup) m) setup (meaning.phased_round setup n s)

-- The end of a round leads the machine to the state after the end of the meaning's.
abbrev pub EndIsEnd : Type 0
EndIsEnd = (m : Machine) (setup : Setup) (s : State) → IsIn m setup s → IsIn (end_round m) setup (meaning.close_round s)

-- `rounds` rounds lead to the state that one processor reaches.
abbrev pub RoundsAreRun : Type 0
RoundsAreRun =
    (m : Machine) (setup : Setup) (s : State) (n rounds : ℕ) → IsIn m setup s
    → IsIn (phased_rounds n (processes setup) rounds m) setup (meaning.run setup n rounds s)

-- Events of processes of the text, lawful or not, lead the machine to the state that the same
-- events lead to.
abbrev pub ReplayIsReplay : Type 0
ReplayIsReplay =
    (m : Machine) (setup : Setup) (s : State) (n : ℕ) (events : List Event)
    → AreWithin (process_count setup) events → IsIn m setup s
    → IsIn (replay n events m) setup (meaning.replay_round setup n s events)

-- A lawful order leads to the state that one processor reaches.
abbrev pub LawfulReplayIsRound : Type 0
LawfulReplayIsRound =
    (m : Machine) (setup : Setup) (s : State) (n : ℕ) (events : List Event)
    → IsLawful n (processes setup) events → IsIn m setup s
    → IsIn (replay n events m) setup (meaning.sequential_round setup n s)

-- The report read from the machine is that of its state.
abbrev pub ReportIsReport : Type 0
ReportIsReport =
    (m : Machine) (setup : Setup) (s : State) → IsIn m setup s → NoneFresh s → machine_report setup m ≡ report setup s

-- The report read from the machine `rounds` rounds after the start is that of one processor.
abbrev pub RunIsReported : Type 0
RunIsReported =
    (program : Program) (setup : Setup) (n rounds : ℕ) → IsProgramFor program setup
    → machine_report setup (phased_rounds n (processes setup) rounds (first_machine program setup.tick setup.inputs))
    ≡ report setup (meaning.run setup n rounds (start setup))
