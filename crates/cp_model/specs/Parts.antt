-- The parts of a state: the own part of each process and, as a machine keeps them apart, the
-- private state of each process and the kernel's part.
--
-- The own part of a process is all that concerns it alone: its variables, what it has left to do,
-- its transcript, its place in the input, and its status. The private state is less: it doesn't say
-- whether the process is ready, asking or delayed, nor whether it is unstarted or fresh, since the
-- kernel changes that. Until a process has begun, its variables and what it has left to do belong
-- to the kernel's part, so that the kernel can start it.
use Rattle.std.specs.Prelude.{Bool, false, nat_eq, true, ℕ, ◌≡◌}
use Rattle.cp_model.specs.Locations.{Location, OfActivation, OfMonitor, OfProcess, Owner}
use Rattle.cp_model.specs.Configurations.{Asking, Delayed, Ended, Faulted, Fresh, Ready, Status, Unstarted, Waiting}
use Rattle.cp_model.specs.States.{State}

-- ---- Who owns a location

abbrev pub is_own : ℕ → Owner → Bool
is_own p (OfProcess q) = nat_eq p q
is_own p (OfActivation q d) = nat_eq p q
is_own p (OfMonitor m) = false

-- ---- A process's own part

-- The own part of p is the same in two states.
pub record SameOwnPart (p : ℕ) (s u : State) : Type 0 where
  pub status : u.status p ≡ s.status p
  pub transcript : u.transcript p ≡ s.transcript p
  pub consumed : u.consumed p ≡ s.consumed p
  pub store : (l : Location) → is_own p l.owner ≡ true → u.store l ≡ s.store l
  pub continuation : u.continuation p ≡ s.continuation p

-- ---- A process's private state

pub data PrivateStatus : Type 0 where
  NotBegun Running Finished Sleeping : PrivateStatus
  Failed : (number : ℕ) → PrivateStatus

abbrev pub private_status : Status → PrivateStatus
private_status Unstarted = NotBegun
private_status Fresh = NotBegun
private_status Ready = Running
private_status Ended = Finished
private_status Waiting = Sleeping
private_status (Asking m) = Running
private_status (Delayed m q) = Running
private_status (Faulted n) = Failed n

abbrev pub HasBegun : PrivateStatus → Type 0
HasBegun NotBegun = ⊥
HasBegun _ = Unit {0}

-- The private state of p is the same in two states.
pub record SamePrivateState (p : ℕ) (s u : State) : Type 0 where
  pub status : private_status (u.status p) ≡ private_status (s.status p)
  pub transcript : u.transcript p ≡ s.transcript p
  pub consumed : u.consumed p ≡ s.consumed p
  pub store : HasBegun (private_status (s.status p)) → (l : Location) → is_own p l.owner ≡ true → u.store l ≡ s.store l
  pub continuation : HasBegun (private_status (s.status p)) → u.continuation p ≡ s.continuation p

-- ---- The kernel's part

abbrev pub kernel_status : Status → Status
kernel_status Unstarted = Unstarted
kernel_status Fresh = Fresh
kernel_status (Asking m) = Asking m
kernel_status (Delayed m q) = Delayed m q
kernel_status _ = Ready

abbrev pub HasNotBegun : Status → Type 0
HasNotBegun Unstarted = Unit {0}
HasNotBegun Fresh = Unit {0}
HasNotBegun _ = ⊥

-- The kernel's part is the same in two states.
pub record SameKernelPart (s u : State) : Type 0 where
  pub gates : u.gates ≡ s.gates
  pub status : (p : ℕ) → kernel_status (u.status p) ≡ kernel_status (s.status p)
  pub monitor_store : (l : Location) (m : ℕ) → l.owner ≡ OfMonitor m → u.store l ≡ s.store l
  pub unbegun_store : (p : ℕ) → HasNotBegun (s.status p) → (l : Location) → is_own p l.owner ≡ true
      → u.store l ≡ s.store l
  pub unbegun_continuation : (p : ℕ) → HasNotBegun (s.status p) → u.continuation p ≡ s.continuation p
