-- The numbers of options, in the rows of values that clap returns.
use Rattle.std.specs.Prelude.{◌≡◌, ◌≤◌, codes, min, ℕ, Option, None, Some, List}
use Rattle.std.specs.Borrow.{Bor}
use Rattle.clap.specs.Words.{Row, first_of}
use Rattle.cp_base_config.specs.declared.limits.TheConstants.{MAX_CHUNK_PROCESSES, MAX_TICK_ROUNDS, MAX_TURN_STEPS, MAX_WORKERS}
use Rattle.cp_base_config.specs.declared.outcome.UntilStill.{UntilStill}
use Rattle.cp_base_config.specs.declared.plan.Plan.{Plan}
use Rattle.cp_base_config.specs.declared.run.Replay.{Replay}
use Rattle.cp_base_config.specs.declared.run.Run.{Run}
use Rattle.cp_base_config.specs.declared.search.Searching.{Searching}
use Rattle.cp_base_config.specs.declared.tick.Tick.{Tick}
use Rattle.cp_base_config.specs.declared.trace.Tracing.{Tracing}
use Rattle.cp_base_config.specs.declared.turn.Turn.{Turn}
use Rattle.cp_cli.specs.Numbers.{number_within}
use Rattle.cp_cli.specs.declared.command.Command.{Command}
use Rattle.cp_cli.specs.declared.command.Command.TheVariants as command
use Rattle.cp_cli.specs.declared.defaults.TheConstants.{CHUNK, FROM, LIMIT, MEMORY, ROUNDS, STATES, TICK, TO, TURN, WAVE, WORKERS}
use Rattle.cp_cli.specs.declared.misuse.Misuse.{Misuse}
use Rattle.cp_cli.specs.declared.misuse.Misuse.TheVariants as misuse
use Rattle.cp_cli.specs.declared.numbers.TheConstants.{MAX_OPTION_NUMBER, MAX_ROUNDS}

-- The number that the value of an option means, from `low` to `most`, or `otherwise` if the option
-- isn't given.
abbrev pub count : ℕ → ℕ → ℕ → Option (List ℕ) → Option ℕ
count low most otherwise None = Some otherwise
count low most otherwise (Some value) = number_within low most value

-- The rows have this number for the option with this name.
abbrev pub HasNumber : List ℕ → ℕ → ℕ → ℕ → List Row → ℕ → Type 0
HasNumber name low most otherwise rows n = count low most otherwise (first_of name rows) ≡ Some n

-- The misuse says that the value of the option is no number of its range.
abbrev pub IsOutOfRange : Bor (List ℕ) → ℕ → ℕ → List Row → Misuse → Type 0
IsOutOfRange name low most rows e =
    (value : Bor (List ℕ)) × (first_of name.now rows ≡ Some value.now) × (number_within low most value.now ≡ None) × (e ≡ misuse.OutOfRange name low most value)

-- ---- Each option

abbrev pub HasRounds : List Row → ℕ → Type 0
HasRounds = HasNumber (codes "rounds") 0 MAX_ROUNDS ROUNDS

abbrev pub HasLimit : List Row → ℕ → Type 0
HasLimit = HasNumber (codes "limit") 0 MAX_ROUNDS LIMIT

abbrev pub HasFrom : List Row → ℕ → Type 0
HasFrom = HasNumber (codes "from") 1 MAX_ROUNDS FROM

abbrev pub HasTo : List Row → ℕ → Type 0
HasTo = HasNumber (codes "to") 1 MAX_ROUNDS TO

abbrev pub HasTurn : List Row → Turn → Type 0
HasTurn rows turn = HasNumber (codes "turn") 1 MAX_TURN_STEPS TURN rows turn.steps

abbrev pub HasWorkers : List Row → ℕ → Type 0
HasWorkers = HasNumber (codes "workers") 1 MAX_WORKERS WORKERS

abbrev pub HasChunk : List Row → ℕ → Type 0
HasChunk = HasNumber (codes "chunk") 1 MAX_CHUNK_PROCESSES CHUNK

abbrev pub HasWave : List Row → ℕ → Type 0
HasWave = HasNumber (codes "wave") 1 MAX_CHUNK_PROCESSES WAVE

abbrev pub HasTick : List Row → Tick → Type 0
HasTick rows tick = HasNumber (codes "tick") 1 MAX_TICK_ROUNDS TICK rows tick.rounds

abbrev pub HasStates : List Row → ℕ → Type 0
HasStates = HasNumber (codes "states") 1 MAX_OPTION_NUMBER STATES

abbrev pub HasMemory : List Row → ℕ → Type 0
HasMemory = HasNumber (codes "memory") 1 MAX_ROUNDS MEMORY

-- ---- The options of each command

abbrev pub HasPlan : List Row → Plan → Type 0
HasPlan rows plan = HasTurn rows plan.turn × HasWorkers rows plan.workers × HasChunk rows plan.chunk × HasWave rows plan.wave

abbrev pub HasRun : List Row → Run → Type 0
HasRun rows run = HasRounds rows run.rounds × HasPlan rows run.plan × HasTick rows run.tick

abbrev pub HasOutcome : List Row → UntilStill → Type 0
HasOutcome rows how = HasLimit rows how.limit × HasPlan rows how.plan × HasTick rows how.tick

-- The rounds of a trace end with the last one that is reported, which isn't before the first one.
abbrev pub EndsTrace : List Row → ℕ → ℕ → Type 0
EndsTrace rows from n = (rounds : ℕ) × (to : ℕ) × HasRounds rows rounds × HasTo rows to × (from ≤ to) × (n ≡ min rounds to)

abbrev pub HasTrace : List Row → Tracing → Type 0
HasTrace rows how = HasFrom rows how.from × EndsTrace rows how.from how.rounds × HasPlan rows how.plan × HasTick rows how.tick

abbrev pub HasSearch : List Row → Searching → Type 0
HasSearch rows how = HasStates rows how.states × HasMemory rows how.memory × HasWorkers rows how.workers

abbrev pub HasReplay : List Row → Replay → Type 0
HasReplay rows replay = HasTurn rows replay.turn × HasTick rows replay.tick

-- The command's numbers are those of its options.
abbrev pub HasNumbers : List Row → Command → Type 0
HasNumbers rows command.Version = Unit {0}
HasNumbers rows (command.Completions shell) = Unit {0}
HasNumbers rows (command.Check file) = Unit {0}
HasNumbers rows (command.Explain file what) = Unit {0}
HasNumbers rows (command.ExplainRule page) = Unit {0}
HasNumbers rows (command.Run file run input progress) = HasRun rows run
HasNumbers rows (command.Outcome file how servers shown input progress) = HasOutcome rows how
HasNumbers rows (command.Trace file how only input progress) = HasTrace rows how
HasNumbers rows (command.Search file how servers save input progress) = HasSearch rows how
HasNumbers rows (command.Replay file order replay input) = HasReplay rows replay

-- The same, if a parse met a command, with these rows.
abbrev pub HasNumbersOf : Option (List Row) → Command → Type 0
HasNumbersOf None command = ⊥
HasNumbersOf (Some rows) command = HasNumbers rows command
