-- What a trace promises about the machine that it runs. `specs/Writing.antt` says what it writes.
use Rattle.std.specs.Prelude.{◌≡◌, ℕ, List, Ok, Option, Some}
use Rattle.cp_model.specs.Input.{cut}
use Rattle.cp_model.specs.Syntax as s
use Rattle.cp_model.specs.Rounds.{run}
use Rattle.cp_model.specs.Start.{start}
use Rattle.cp_model_machine.specs.InState.{IsIn}
use Rattle.cp_rounds.specs.Views.{finished_machine_of}
use Rattle.cp_rounds.specs.declared.finished_machine.FinishedMachine.{FinishedMachine}
use Rattle.cp_rounds.specs.declared.machine.Machine.{Machine}
use Rattle.cp_base_config.specs.declared.trace.Tracing.{Tracing}
use Rattle.cp_frontend.specs.Cutting.{judge_input}
use Rattle.cp_execute_start.specs.Starts.{IsAtStart, setup_of}
use Rattle.cp_frontend.specs.Texts.{IsAccepted}

-- The machine is in the state that one processor reaches by so many rounds from the start.
abbrev pub IsTraced : Tracing → s.Tree → (ℕ → List ℕ) → FinishedMachine → Type 0
IsTraced how t inputs machine =
    let setup = setup_of t inputs how.tick.rounds in
    IsIn (finished_machine_of machine) setup (run setup how.plan.turn.steps how.rounds (start setup))

-- The machine is in that state, if it was at its start before.
abbrev pub IsTracedFrom : Tracing → Machine → FinishedMachine → Type 0
IsTracedFrom how first machine = (t : s.Tree) (inputs : ℕ → List ℕ) → IsAtStart (setup_of t inputs how.tick.rounds) first → IsTraced how t inputs machine

-- If the text is known, then it is accepted. If the input is known too, it isn't refused, and the
-- machine has made all rounds.
abbrev pub Traces : Tracing → FinishedMachine → Option (List ℕ) → Option (List ℕ) → Type 0
Traces how machine text input =
    (xs : List ℕ) → text ≡ Some xs
    → (t : s.Tree) × IsAccepted xs t × ((ys : List ℕ) → input ≡ Some ys → (judge_input ys ≡ Ok tt) × IsTraced how t (cut ys) machine)
