-- What a search promises about what it shows and about the bytes that it reads and writes.
use Rattle.std.specs.Prelude.{List, None, Ok, Option, Some, ℕ, ◌≡◌}
use Rattle.std.specs.Io.KnownBytes.{Appends}
use Rattle.cp_model.specs.Input.{cut}
use Rattle.cp_model.specs.Syntax as s
use Rattle.cp_law_servers.specs.Laws.{NoneIsStuckBut}
use Rattle.cp_output.specs.Json.{IsJsonLine}
use Rattle.cp_outcome_schedule.specs.declared.findings.Findings.{Findings}
use Rattle.cp_outcome_schedule.specs.declared.findings.Finding.TheVariants as finding
use Rattle.cp_program.specs.declared.program.Program.{Program}
use Rattle.cp_check.specs.Checked.{IsProgramOf}
use Rattle.cp_base_config.specs.declared.search.SearchForm.{SearchForm}
use Rattle.cp_base_config.specs.declared.search.SearchForm.TheVariants as form
use Rattle.cp_frontend.specs.Cutting.{judge_input}
use Rattle.cp_frontend.specs.Takings.{AppendsSome}
use Rattle.cp_frontend.specs.Texts.{IsAccepted}
use Rattle.cp_execute_start.specs.Starts.{setup_of}
use Rattle.cp_execute_search.specs.Certificates.{IsCertified, IsShown}
use Rattle.cp_execute_search.specs.declared.kind.Kind.TheVariants as kind
use Rattle.cp_execute_search.specs.declared.seeing.Seen.{Seen}
use Rattle.cp_execute_search.specs.declared.verdict.SearchVerdict.{SearchVerdict}
use Rattle.cp_execute_search.specs.declared.verdict.SearchVerdict.TheVariants as verdict

-- By no list of rounds of events of the text's processes, with turns of any lengths and a clock that
-- ticks ever so often, a process faults. In each still state that such rounds lead to, each process has
-- ended, or is a server and is delayed.
pub record IsFine (servers : List ℕ) (t : s.Tree) (inputs : ℕ → List ℕ) : Type 0 where
  pub each : (tick : ℕ) → NoneIsStuckBut servers (setup_of t inputs tick)

-- All states were seen, and no schedule was found.
pub record FoundNothing (found : Findings) : Type 0 where
  pub all : found.stop ≡ None
  pub stuck : found.stuck ≡ finding.None
  pub fault : found.fault ≡ finding.None

-- What a search of a text with these inputs has found, and the verdict on it.
pub record IsSearchOf (servers : List ℕ) (t : s.Tree) (inputs : ℕ → List ℕ) (v : SearchVerdict) (found : Findings) : Type 0 where
  pub fine : v ≡ verdict.Fine → IsFine servers t inputs
  pub nothing : FoundNothing found → IsFine servers t inputs
  pub is_stuck : v ≡ verdict.Stuck → IsShown found.stuck
  pub is_fault : v ≡ verdict.Fault → IsShown found.fault
  pub stuck : IsCertified kind.Stuck servers t inputs found.stuck
  pub fault : IsCertified kind.Fault servers t inputs found.fault

-- ---- While it is made

-- All states were seen, and none of them is stuck or has a fault.
pub record SawNothing (seen : Seen) : Type 0 where
  pub all : seen.stop ≡ None
  pub stuck : seen.stuck ≡ None
  pub fault : seen.fault ≡ None

-- If a search saw nothing, each text of which this is the program is fine.
abbrev pub IsSeen : List ℕ → Program → (ℕ → List ℕ) → Seen → Type 0
IsSeen servers program inputs seen = SawNothing seen → (t : s.Tree) → IsProgramOf t program → IsFine servers t inputs

-- What was found is certified, and if nothing was, a search saw nothing.
pub record IsFoundIn (servers : List ℕ) (t : s.Tree) (inputs : ℕ → List ℕ) (seen : Seen) (found : Findings) : Type 0 where
  pub stuck : IsCertified kind.Stuck servers t inputs found.stuck
  pub fault : IsCertified kind.Fault servers t inputs found.fault
  pub nothing : FoundNothing found → SawNothing seen

-- ---- What is written

abbrev pub IsWritten : SearchForm → List ℕ → Type 0
IsWritten form.Lines bytes = Unit {0}
IsWritten form.Json bytes = IsJsonLine bytes

-- If the text is known, then it is accepted. If the input is known too, it isn't refused, this is what a
-- search has found, and `Writes` holds of bytes in the form.
abbrev pub Due : List ℕ → SearchForm → SearchVerdict → Findings → Option (List ℕ) → Option (List ℕ) → (List ℕ → Type 0) → Type 0
Due servers how v found text input Writes =
    (xs : List ℕ) → text ≡ Some xs
    → (t : s.Tree) × IsAccepted xs t
    × ((ys : List ℕ) → input ≡ Some ys → (judge_input ys ≡ Ok tt) × IsSearchOf servers t (cut ys) v found × (bytes : List ℕ) × IsWritten how bytes × Writes bytes)

-- What was written is the result of a search.
abbrev pub ReportsSearch : List ℕ → SearchForm → SearchVerdict → Findings → Option (List ℕ) → Option (List ℕ) → Option (List ℕ) → Option (List ℕ) → Type 0
ReportsSearch servers how v found text input old new = Due servers how v found text input (Appends old new)

-- After a write that failed: a prefix of the result of a search was written.
abbrev pub BeginsSearch : List ℕ → SearchForm → Option (List ℕ) → Option (List ℕ) → Option (List ℕ) → Option (List ℕ) → Type 0
BeginsSearch servers how text input old new = (v : SearchVerdict) × (found : Findings) × Due servers how v found text input (AppendsSome old new)
