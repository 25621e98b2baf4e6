-- What a tracer reports, by its form.
use Rattle.std.specs.Prelude.{◌≡◌, ◌+◌, ◌++◌, ℕ, zero, suc, List, []}
use Rattle.cp_trace.specs.Reporting.{AreObjects, IsAnything, IsRound, IsSomething}
use Rattle.cp_base_config.specs.declared.trace.TraceForm.{TraceForm}
use Rattle.cp_base_config.specs.declared.trace.TraceForm.TheVariants as form
use Rattle.cp_trace.specs.declared.tracer.Tracer.{Tracer}
use Rattle.cp_trace.specs.declared.tracer.Tracer.TheVariants as tracer

abbrev pub form_of : Tracer → TraceForm
form_of (tracer.Lines trace) = form.Lines
form_of (tracer.Json trace) = form.Json
form_of (tracer.Timeline timeline) = form.Timeline
form_of (tracer.Svg picture) = form.Svg

-- What is reported before all rounds.
abbrev pub Begins : TraceForm → List ℕ → Type 0
Begins form.Lines bytes = bytes ≡ []
Begins form.Json bytes = bytes ≡ []
Begins form.Timeline bytes = bytes ≡ []
Begins form.Svg bytes = IsAnything bytes

-- What is reported at once of a round.
abbrev pub ReportsRound : TraceForm → ℕ → List ℕ → Type 0
ReportsRound form.Lines n bytes = IsRound n bytes
ReportsRound form.Json n bytes = AreObjects bytes
ReportsRound form.Timeline n bytes = IsAnything bytes
ReportsRound form.Svg n bytes = IsAnything bytes

-- What is reported after all rounds.
abbrev pub Ends : TraceForm → List ℕ → Type 0
Ends form.Lines bytes = bytes ≡ []
Ends form.Json bytes = bytes ≡ []
Ends form.Timeline bytes = IsSomething bytes
Ends form.Svg bytes = IsSomething bytes

-- What is reported up to the end of `n` rounds, which follow the first `done` ones: what comes before
-- all rounds, and then what is reported of each round, one behind the other.
abbrev pub ReportsRounds : TraceForm → ℕ → ℕ → List ℕ → Type 0
ReportsRounds f done zero bytes = Begins f bytes
ReportsRounds f done (suc n) bytes = (before last : List ℕ) × (bytes ≡ before ++ last) × ReportsRounds f done n before × ReportsRound f (done + suc n) last

-- What is reported of `n` rounds, which follow the first `done` ones, and then what comes after them.
abbrev pub IsTrace : TraceForm → ℕ → ℕ → List ℕ → Type 0
IsTrace f done n bytes = (before last : List ℕ) × (bytes ≡ before ++ last) × ReportsRounds f done n before × Ends f last
