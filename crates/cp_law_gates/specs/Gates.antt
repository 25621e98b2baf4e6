-- The part of the invariant that speaks of gates, queues and end marks.
use Rattle.std.specs.Prelude.{Bool, List, Some, [], false, true, ℕ, ◌≡◌, ◌≤◌, ◌∷◌}
use Rattle.cp_model.specs.Locations.{Location, OfMonitor}
use Rattle.cp_model.specs.Stores.{QueueHolds}
use Rattle.cp_model.specs.Continuations.{marked_monitors}
use Rattle.cp_model.specs.Configurations.{Asking, Delayed, Status, Unstarted, Waiting, held_gates}
use Rattle.cp_model.specs.States.{HeldBy, State, is_in, is_set}
use Rattle.cp_law_gates.specs.Hierarchy.{Descends, IsHeld, NoneTwice}

-- The monitor is the innermost of a list.
abbrev pub IsInnermost : ℕ → List ℕ → Type 0
IsInnermost m [] = ⊥
IsInnermost m (n ∷ ns) = n ≡ m

-- A process that is asking or delayed is at this monitor.
abbrev pub IsStoppedAt : ℕ → Status → Type 0
IsStoppedAt m (Asking n) = n ≡ m
IsStoppedAt m (Delayed n q) = n ≡ m
IsStoppedAt m _ = ⊥

-- The process that is in a queue is delayed there, and the queue is the monitor's.
pub record IsQueuedIn (s : State) (l : Location) (p : ℕ) : Type 0 where
  pub monitor : ℕ
  pub owner : l.owner ≡ OfMonitor monitor
  pub delayed : s.status p ≡ Delayed monitor l

-- Gate `m` may be in between two holders: nothing is said of who holds it.
pub record GatesBut (place : ℕ → ℕ) (monitors : ℕ) (but : ℕ → Bool) (s : State) : Type 0 where
  pub marked : (m p : ℕ) → but m ≡ false → (s.gates m).holder ≡ HeldBy p
      → is_in m (held_gates (s.status p) (s.continuation p)) ≡ true
  pub taken : (m p : ℕ) → but m ≡ false → is_in p (s.gates m).askers ≡ true → IsHeld (s.gates m).holder
  pub asks : (m p : ℕ) → is_in p (s.gates m).askers ≡ true → s.status p ≡ Asking m
  pub listed : (m p : ℕ) → s.status p ≡ Asking m → is_in p (s.gates m).askers ≡ true
  pub once : (m : ℕ) → NoneTwice (s.gates m).askers
  pub stopped : (p m : ℕ) → IsStoppedAt m (s.status p) → IsInnermost m (marked_monitors (s.continuation p))
  pub queues : (l : Location) (p : ℕ) → s.store l ≡ QueueHolds (Some p) → IsQueuedIn s l p
  pub known : (m : ℕ) → is_set (s.gates m).holder ≡ true → (1 ≤ m) × (m ≤ monitors)
  pub within : (p m : ℕ) → is_in m (marked_monitors (s.continuation p)) ≡ true → (1 ≤ m) × (m ≤ monitors)
  pub unstarted : (p : ℕ) → s.status p ≡ Unstarted → marked_monitors (s.continuation p) ≡ []
  pub waiting : (p : ℕ) → s.status p ≡ Waiting → marked_monitors (s.continuation p) ≡ []
  pub descends : (p : ℕ) → Descends place (marked_monitors (s.continuation p))

abbrev pub none : ℕ → Bool
none m = false

abbrev pub Gates : (ℕ → ℕ) → ℕ → State → Type 0
Gates place monitors s = GatesBut place monitors none s
