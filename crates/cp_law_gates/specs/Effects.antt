-- What a step has to do with gates, queues and end marks, by the effect that it leaves to the kernel.
use Rattle.std.specs.Prelude.{Bool, None, Option, Some, [], false, true, ℕ, ◌≡◌, ◌≤◌, ◌∷◌, ◌⊎◌}
use Rattle.cp_model.specs.Locations.{Location, OfMonitor}
use Rattle.cp_model.specs.Stores.{QueueHolds, Store}
use Rattle.cp_model.specs.Continuations.{marked_monitors}
use Rattle.cp_model.specs.Configurations.{Configuration, Continues, Delays, Effect, Ends, Enters, Leaves, Opens, Own, Starts, Waits}
use Rattle.cp_law_gates.specs.Gates.{IsInnermost}

-- No process is in a queue in which it wasn't before.
abbrev pub NoNewQueue : Store → Store → Type 0
NoNewQueue store after = (l : Location) (r : ℕ) → after l ≡ QueueHolds (Some r) → store l ≡ QueueHolds (Some r)

-- `p` now is in the queue.
abbrev pub OneNewQueue : ℕ → Location → Store → Store → Type 0
OneNewQueue p q store after =
    (l : Location) (r : ℕ) → after l ≡ QueueHolds (Some r) → (store l ≡ QueueHolds (Some r)) ⊎ ((l ≡ q) × (r ≡ p))

-- The process that resumes was in a queue of the monitor, and is in none any more.
abbrev pub Resumes : ℕ → Store → Store → Option ℕ → Type 0
Resumes m store after None = Unit {0}
Resumes m store after (Some r) =
    (q : Location) × (q.owner ≡ OfMonitor m) × (store q ≡ QueueHolds (Some r)) × ((x : ℕ) → after q ≡ QueueHolds (Some x) → ⊥)

abbrev pub EffectFits : ℕ → (ℕ → Bool) → ℕ → Configuration → Configuration → Effect → Type 0
EffectFits monitors is_set p before after Own =
    (marked_monitors after.continuation ≡ marked_monitors before.continuation) × NoNewQueue before.store after.store
EffectFits monitors is_set p before after Ends =
    (marked_monitors after.continuation ≡ marked_monitors before.continuation) × NoNewQueue before.store after.store
EffectFits monitors is_set p before after Waits =
    (marked_monitors after.continuation ≡ marked_monitors before.continuation) × NoNewQueue before.store after.store
    × (marked_monitors after.continuation ≡ [])
EffectFits monitors is_set p before after (Enters m) =
    (marked_monitors after.continuation ≡ m ∷ marked_monitors before.continuation) × NoNewQueue before.store after.store
    × (is_set m ≡ true)
EffectFits monitors is_set p before after (Leaves m) =
    (marked_monitors before.continuation ≡ m ∷ marked_monitors after.continuation) × NoNewQueue before.store after.store
EffectFits monitors is_set p before after (Delays m q) =
    (marked_monitors after.continuation ≡ marked_monitors before.continuation) × OneNewQueue p q before.store after.store
    × IsInnermost m (marked_monitors before.continuation) × (q.owner ≡ OfMonitor m)
EffectFits monitors is_set p before after (Continues m r) =
    (marked_monitors before.continuation ≡ m ∷ marked_monitors after.continuation) × NoNewQueue before.store after.store
    × Resumes m before.store after.store r
EffectFits monitors is_set p before after (Opens m) =
    (marked_monitors after.continuation ≡ m ∷ marked_monitors before.continuation) × NoNewQueue before.store after.store
    × (is_set m ≡ false) × (1 ≤ m) × (m ≤ monitors)
EffectFits monitors is_set p before after (Starts r k) =
    (marked_monitors after.continuation ≡ marked_monitors before.continuation) × NoNewQueue before.store after.store
    × (marked_monitors k ≡ [])
