-- The commands: the numbers of a run, and the error if there is no command.
use Rattle.std.specs.Prelude.{◌≡◌, ◌≢◌, ◌≤◌, ℕ, Bool, false, None}
use Rattle.clap.specs.Words.{kind_of}
use Rattle.clap.specs.declared.error.Error.{Error}
use Rattle.clap.specs.declared.error.kind.ErrorKind.TheVariants as kind
use Rattle.cp_cli.specs.declared.defaults.TheConstants.{CHUNK, ROUNDS, TICK, TURN, WAVE, WORKERS}
use Rattle.cp_cli.specs.declared.numbers.TheConstants.{MAX_OPTION_NUMBER, MAX_ROUNDS}
use Rattle.cp_cli.specs.declared.command.CommandError.{CommandError}
use Rattle.cp_cli.specs.declared.command.CommandError.TheVariants as error
use Rattle.cp_cli.specs.declared.command.Command.{Command}
use Rattle.cp_cli.specs.declared.command.Command.TheVariants as command
use Rattle.cp_cli.specs.declared.command.Inputs.TheVariants as inputs
use Rattle.cp_base_config.specs.declared.limits.TheConstants.{MAX_WORKERS}
use Rattle.cp_base_config.specs.declared.run.Run.{Run}

-- The run has these numbers: rounds, turn, workers, chunk, wave, tick, and chains or not.
abbrev pub Has : ℕ → ℕ → ℕ → ℕ → ℕ → ℕ → Bool → Run → Type 0
Has rounds turn workers chunk wave tick chains run =
    (run.rounds ≡ rounds) × (run.plan.turn.steps ≡ turn) × (run.plan.workers ≡ workers) × (run.plan.chunk ≡ chunk) × (run.plan.wave ≡ wave) × (run.tick.rounds ≡ tick)
    × (run.chains ≡ chains)

-- A run has at most so many rounds, and so have one until nothing can move and one that is traced,
-- whose first round is within its range. A search has limits and workers within their ranges.
abbrev pub IsInRange : Command → Type 0
IsInRange command.Version = Unit {0}
IsInRange (command.Completions shell) = Unit {0}
IsInRange (command.Check file) = Unit {0}
IsInRange (command.Explain file what) = Unit {0}
IsInRange (command.ExplainRule page) = Unit {0}
IsInRange (command.Run file run input progress) = run.rounds ≤ MAX_ROUNDS
IsInRange (command.Outcome file how servers shown input progress) = how.limit ≤ MAX_ROUNDS
IsInRange (command.Trace file how only input progress) = (how.rounds ≤ MAX_ROUNDS) × (1 ≤ how.from) × (how.from ≤ MAX_ROUNDS)
IsInRange (command.Search file how servers save input progress) =
    (1 ≤ how.states) × (how.states ≤ MAX_OPTION_NUMBER) × (1 ≤ how.memory) × (how.memory ≤ MAX_ROUNDS) × (1 ≤ how.workers) × (how.workers ≤ MAX_WORKERS)
IsInRange (command.Replay file order replay input) = Unit {0}

-- The command if there are no words after the program's name.
abbrev pub IsWithoutWords : Command → Type 0
IsWithoutWords command.Version = ⊥
IsWithoutWords (command.Completions shell) = ⊥
IsWithoutWords (command.Check file) = ⊥
IsWithoutWords (command.Explain file what) = ⊥
IsWithoutWords (command.ExplainRule page) = ⊥
IsWithoutWords (command.Run file run input progress) = (file ≡ None) × Has ROUNDS TURN WORKERS CHUNK WAVE TICK false run × (input ≡ inputs.Empty) × (progress ≡ false)
IsWithoutWords (command.Outcome file how servers shown input progress) = ⊥
IsWithoutWords (command.Trace file how only input progress) = ⊥
IsWithoutWords (command.Search file how servers save input progress) = ⊥
IsWithoutWords (command.Replay file order replay input) = ⊥

-- The kind of clap's error shows whether memory ran out.
pub record ComesFrom (of : Error) (e : CommandError) : Type 0 where
  pub memory : kind_of of ≡ kind.OutOfMemory → e ≡ error.Memory
  pub usage : kind_of of ≢ kind.OutOfMemory → e ≡ error.Usage of
