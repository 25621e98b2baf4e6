-- The ranges of the numbers of a plan and a clock.
use Rattle.std.specs.Prelude.{◌+◌, ◌*◌, ◌-◌, ◌<◌, ◌≡◌, ◌≤◌, if◌then◌else◌, min, nat_lt, ℕ}
use Rattle.cp_base_config.specs.declared.limits.TheConstants.{MAX_CHUNK_PROCESSES, MAX_TICK_ROUNDS, MAX_TURN_STEPS, MAX_WORKERS}
use Rattle.cp_base_config.specs.declared.limits.L1.{L1}
use Rattle.cp_base_config.specs.declared.limits.L1.TheVariants as field

abbrev pub IsTurn : ℕ → Type 0
IsTurn n = (1 ≤ n) × (n ≤ MAX_TURN_STEPS)

abbrev pub AreWorkers : ℕ → Type 0
AreWorkers n = (1 ≤ n) × (n ≤ MAX_WORKERS)

-- The number of processes in a chunk or a wave.
abbrev pub ArePart : ℕ → Type 0
ArePart n = (1 ≤ n) × (n ≤ MAX_CHUNK_PROCESSES)

-- The number of rounds between two ticks of the clock.
abbrev pub IsTick : ℕ → Type 0
IsTick n = (1 ≤ n) × (n ≤ MAX_TICK_ROUNDS)

abbrev pub AreInRange : ℕ → ℕ → ℕ → ℕ → Type 0
AreInRange turn workers chunk wave = IsTurn turn × AreWorkers workers × ArePart chunk × ArePart wave

-- The field is out of range, and no field before it is.
abbrev pub IsFirstOut : ℕ → ℕ → ℕ → ℕ → L1 → Type 0
IsFirstOut turn workers chunk wave field.Turn = IsTurn turn → ⊥
IsFirstOut turn workers chunk wave field.Workers = IsTurn turn × (AreWorkers workers → ⊥)
IsFirstOut turn workers chunk wave field.Chunk = IsTurn turn × AreWorkers workers × (ArePart chunk → ⊥)
IsFirstOut turn workers chunk wave field.Wave = IsTurn turn × AreWorkers workers × ArePart chunk × (ArePart wave → ⊥)
IsFirstOut turn workers chunk wave field.Tick = ⊥

-- ---- How a round is divided

-- This many parts of at most `size` items hold all items, and one part fewer doesn't.
abbrev pub AreParts : ℕ → ℕ → ℕ → Type 0
AreParts count size all = (all ≤ count * size) × (count * size < all + size)

-- How many processes the wave at an index has, in a round of this many processes.
abbrev pub wave_size : ℕ → ℕ → ℕ → ℕ
wave_size wave index processes = min (processes - index * wave) wave

-- A thread for each chunk of a wave, and one more if there are several waves, but no more than there
-- are workers.
abbrev pub AreThreads : ℕ → ℕ → ℕ → ℕ → ℕ → Type 0
AreThreads workers chunk wave processes count =
    (n : ℕ) × AreParts n chunk (min wave processes) × (count ≡ min workers (n + (if nat_lt wave processes then 1 else 0)))
