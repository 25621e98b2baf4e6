-- What a trace writes, and why it ends early.
use Rattle.std.specs.Prelude.{◌≡◌, ◌⊎◌, ◌-◌, ◌++◌, ℕ, List, Option, min}
use Rattle.std.specs.Io.KnownBytes.{Appends}
use Rattle.cp_frontend.specs.declared.refusal.Refusal.{Refusal}
use Rattle.cp_frontend.specs.declared.refusal.Refusal.TheVariants as refusal
use Rattle.cp_trace.specs.Tracers.{IsTrace}
use Rattle.cp_base_config.specs.declared.trace.TraceForm.{TraceForm}
use Rattle.cp_base_config.specs.declared.trace.Tracing.{Tracing}

-- Known bytes stay at the front, and some come behind them.
abbrev pub Extends : Option (List ℕ) → Option (List ℕ) → Type 0
Extends old new = (bytes : List ℕ) × Appends old new bytes

-- What was held is written or still held, in the same order.
abbrev pub Moves : Option (List ℕ) → Option (List ℕ) → List ℕ → List ℕ → Type 0
Moves old new held holds = (bytes : List ℕ) × Appends old new bytes × (held ≡ bytes ++ holds)

-- A trace of this form is written, of `n` rounds after the first `done` ones.
abbrev pub WritesRounds : TraceForm → ℕ → ℕ → Option (List ℕ) → Option (List ℕ) → Type 0
WritesRounds form done n old new = (bytes : List ℕ) × Appends old new bytes × IsTrace form done n bytes

-- How many rounds are made before the first that is reported.
abbrev pub unreported : Tracing → ℕ
unreported how = min (how.from - 1) how.rounds

-- The whole trace is written.
abbrev pub WritesTrace : Tracing → Option (List ℕ) → Option (List ℕ) → Type 0
WritesTrace how old new = WritesRounds how.form (unreported how) (how.rounds - unreported how) old new

-- Memory ran out, or a write failed.
abbrev pub IsMemoryOrWrite : Refusal → Type 0
IsMemoryOrWrite e = (e ≡ refusal.Memory) ⊎ (e ≡ refusal.Write)
