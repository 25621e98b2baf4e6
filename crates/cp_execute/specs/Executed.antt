-- What the commands promise about the bytes that they read and write.
use Rattle.std.specs.Prelude.{◌≡◌, ℕ, Bool, true, false, List, [], ◌∷◌, ◌++◌, Option, Some, Result, Ok, IfSome, codes}
use Rattle.std.specs.Io.KnownBytes.{Appends, Keeps}
use Rattle.cp_model.specs.Declarations.{globals}
use Rattle.cp_model.specs.Input.{cut}
use Rattle.cp_model.specs.Syntax as s
use Rattle.cp_model.specs.View as view
use Rattle.cp_model.specs.declared.tree.Tree as tree
use Rattle.cp_model.specs.Erase as erase
use Rattle.cp_model.specs.Report.{IsReportWithChains, report}
use Rattle.cp_model.specs.Rounds as r
use Rattle.cp_model.specs.Start.{start}
use Rattle.cp_model.specs.States.{Setup, State}
use Rattle.cp_program.specs.declared.program.Program.{Program}
use Rattle.cp_check.specs.Checked.{IsProgramOf}
use Rattle.cp_compile_symbols.specs.Texts.{TablesRepresent}
use Rattle.cp_compile_symbols.specs.declared.tables.Tables.{Tables}
use Rattle.cp_execute_start.specs.Starts.{setup_of}
use Rattle.cp_frontend.specs.declared.refusal.Refusal.{Refusal}
use Rattle.cp_base_config.specs.declared.run.Run.{Run}
use Rattle.cp_execute.specs.declared.execute.Job.{Job}
use Rattle.cp_execute.specs.declared.execute.Job.TheVariants as job
use Rattle.cp_frontend.specs.Cutting.{judge_input}
use Rattle.cp_frontend.specs.Texts.{IsAccepted}
use Rattle.cp_frontend.specs.KnownRefusals.{IsFaultOfAccepted, IsFaultOrOfInput, RefusesRun, RefusesText}
use Rattle.cp_frontend.specs.Takings.{AppendsSome, TakesInput}

-- The bytes are the report of a state, with the chains of askers if they are asked for.
abbrev pub IsReportOf : Bool → Setup → State → List ℕ → Type 0
IsReportOf false setup s bytes = bytes ≡ report setup s
IsReportOf true setup s bytes = IsReportWithChains setup s bytes

-- The bytes are the report of the state that a single processor reaches after `run.rounds` rounds
-- from the start. In each round the processes take their whole turns, private and kernel, one after
-- another.
abbrev pub IsDue : Run → s.Tree → (ℕ → List ℕ) → List ℕ → Type 0
IsDue run t inputs bytes =
    let setup = setup_of t inputs run.tick.rounds in
    IsReportOf run.chains setup (r.run setup run.plan.turn.steps run.rounds (start setup)) bytes

-- The tables are those of the text of this tree.
abbrev pub AreTablesOf : tree.Tree → Tables → Type 0
AreTablesOf t tables = TablesRepresent (globals (erase.abstract (view.tree t))) tables t

-- The bytes are due for every text of which this is the program, with these tables.
abbrev pub IsDueOf : Run → Program → Tables → (ℕ → List ℕ) → List ℕ → Type 0
IsDueOf run program tables inputs bytes = (t : tree.Tree) → IsProgramOf (view.tree t) program → AreTablesOf t tables → IsDue run (view.tree t) inputs bytes

abbrev pub acceptance : List ℕ
acceptance = codes "accepted" ++ 10 ∷ []

-- If the text is known, then it is accepted, and this was written.
abbrev pub Accepts : Option (List ℕ) → Option (List ℕ) → Option (List ℕ) → Type 0
Accepts text old new = (xs : List ℕ) → text ≡ Some xs → (t : s.Tree) × IsAccepted xs t × Appends old new acceptance

-- If the text is known, then it is accepted. If the input is known too, it isn't refused, and the
-- report that is due was written.
abbrev pub Reports : Run → Option (List ℕ) → Option (List ℕ) → Option (List ℕ) → Option (List ℕ) → Type 0
Reports run text input old new =
    (xs : List ℕ) → text ≡ Some xs
    → (t : s.Tree) × IsAccepted xs t
    × ((ys : List ℕ) → input ≡ Some ys → (judge_input ys ≡ Ok tt) × (bytes : List ℕ) × IsDue run t (cut ys) bytes × Appends old new bytes)

-- After a write that failed: if the text is known, it is accepted, and a prefix of the line was
-- written.
abbrev pub BeginsAcceptance : Option (List ℕ) → Option (List ℕ) → Option (List ℕ) → Type 0
BeginsAcceptance text old new = (xs : List ℕ) → text ≡ Some xs → (t : s.Tree) × IsAccepted xs t × AppendsSome old new acceptance

abbrev pub BeginsReport : Run → Option (List ℕ) → Option (List ℕ) → Option (List ℕ) → Option (List ℕ) → Type 0
BeginsReport run text input old new =
    (xs : List ℕ) → text ≡ Some xs
    → (t : s.Tree) × IsAccepted xs t
    × ((ys : List ℕ) → input ≡ Some ys → (judge_input ys ≡ Ok tt) × (bytes : List ℕ) × IsDue run t (cut ys) bytes × AppendsSome old new bytes)

-- ---- jobs

-- What was written is the result that is due.
abbrev pub Does : Job → Option (List ℕ) → Option (List ℕ) → Option (List ℕ) → Option (List ℕ) → Type 0
Does job.Check text input old new = Accepts text old new
Does (job.Run run) text input old new = Reports run text input old new

-- What was written is a prefix of the result that is due.
abbrev pub Begins : Job → Option (List ℕ) → Option (List ℕ) → Option (List ℕ) → Option (List ℕ) → Type 0
Begins job.Check text input old new = BeginsAcceptance text old new
Begins (job.Run run) text input old new = BeginsReport run text input old new

-- Why a job was refused, if the text is known.
abbrev pub Refuses : Job → Option (List ℕ) → Option (List ℕ) → Refusal → Type 0
Refuses job.Check text input e = IfSome text (λ xs. RefusesText xs e)
Refuses (job.Run run) text input e = IfSome text (λ xs. RefusesRun xs input e)

-- An accepted text is refused only with a fault, and its run also because of the input.
abbrev pub RefusesAccepted : Job → Option (List ℕ) → Option (List ℕ) → Refusal → Type 0
RefusesAccepted job.Check text input e = IsFaultOfAccepted text e
RefusesAccepted (job.Run run) text input e = IsFaultOrOfInput text input e

-- What was read of the input: a check leaves it as it was.
abbrev pub TakesInputFor : Job → Result (Unit {0}) Refusal → Option (List ℕ) → Option (List ℕ) → Type 0
TakesInputFor job.Check r old new = Keeps old new
TakesInputFor (job.Run run) r old new = TakesInput r old new
