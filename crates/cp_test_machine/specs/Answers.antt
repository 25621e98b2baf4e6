-- The compiled program of an accepted text gives the same answers as the meaning, computed from the
-- bytes.
use Rattle.std.specs.Prelude.{ℕ, ◌-◌, ◌++◌, Bool, true, false, List, [], ◌∷◌, None, Some, IsOkAnd, IsTrue, codes, slice_get}
use Rattle.cp_model.specs.Decimal.{natural}
use Rattle.cp_model.specs.Report.{Text}
use Rattle.cp_model.specs.Rounds.{run}
use Rattle.cp_model.specs.Start.{start}
use Rattle.cp_model.specs.States.{Setup, processes}
use Rattle.cp_model.specs.Spelling.{same_text}
use Rattle.cp_model_program.specs.Compile.{compile}
use Rattle.cp_model_machine.specs.Chains.{report_with_chains}
use Rattle.cp_model_machine.specs.Machines.{Machine, first_machine, phased_rounds}
use Rattle.cp_model_machine.specs.Reports.{machine_report}
use Rattle.cp_test_definitions.specs.Answers as meaning
use Rattle.cp_test_definitions.specs.Answers.{counts, setup_of, tree_of}

-- The machine after `rounds` rounds.
abbrev pub machine_after : Setup → ℕ → ℕ → Machine
machine_after setup rounds turn = phased_rounds turn (processes setup) rounds (first_machine (compile setup.tree) setup.tick setup.inputs)

-- The report is read from the machine's words, and the chains from its gates and stages.
abbrev pub report_text : Setup → Bool → Machine → Text
report_text setup false m = machine_report setup m
report_text setup true m = report_with_chains setup m

-- The report after a run is that of the meaning.
abbrev pub RunIsMeant : (rounds turn tick : ℕ) (chains : Bool) (input text : Text) → Type 0
RunIsMeant rounds turn tick chains input text = IsOkAnd (tree_of text) (λ t.
    let setup = setup_of t input tick in
    let meant = meaning.report_text setup chains (run setup turn rounds (start setup)) in
    IsTrue (same_text (report_text setup chains (machine_after setup rounds turn)) meant))

-- How much of its input each of these processes has taken, as `counts` has it of a state.
abbrev pub machine_counts : Machine → List ℕ → Text
machine_counts m [] = []
machine_counts m (p ∷ ps) =
    codes " " ++ (natural (elim (slice_get m.parts (p - 1)) [ None ↦ 0 | Some o ↦ o.consumed ]) ++ machine_counts m ps)

-- After a run each process has taken as much of its input as in the meaning.
abbrev pub ConsumedIsMeant : (rounds turn tick : ℕ) (input text : Text) → Type 0
ConsumedIsMeant rounds turn tick input text = IsOkAnd (tree_of text) (λ t.
    let setup = setup_of t input tick in
    let meant = counts (run setup turn rounds (start setup)) (processes setup) in
    IsTrue (same_text (machine_counts (machine_after setup rounds turn) (processes setup)) meant))
