-- The invariant of states, which each step, waking and closing of a round keeps, whatever the text
-- and the order of events.
--
-- Each `var` parameter of a process refers into the process's reach. This follows from the
-- invariant, but isn't preserved by itself: when an entry of a monitor returns, its end mark
-- disappears, and no older activation may then refer to that monitor. So the invariant says it of
-- each activation, with the reach of its caller.
use Rattle.std.specs.Prelude.{Bool, List, None, Option, Some, [], true, ℕ, ◌∷◌, ◌≡◌, ◌≢◌, ◌≤◌}
use Rattle.cp_model.specs.Locations.{Location, OfActivation, Owner}
use Rattle.cp_model.specs.Stores.{ClassRight, Reference, Store}
use Rattle.cp_model.specs.Environments.{Environment, Frame}
use Rattle.cp_model.specs.Continuations.{Do, EndBody, EndCall, EndProcess, ForNext, RepeatTest, Task, WhileTest, depth, marked_monitors, is_in_monitor}
use Rattle.cp_model.specs.Configurations.{Asking, Delayed, Status, Unstarted}
use Rattle.cp_model.specs.States.{State}
use Rattle.cp_model.specs.Reach.{in_reach}

-- ---- The store

abbrev pub IsActivation : Owner → Type 0
IsActivation (OfActivation p d) = Unit {0}
IsActivation _ = ⊥

-- Only variables of activations hold references, and a right to a class names a class of the same
-- owner.
pub record StoreInvariant (store : Store) : Type 0 where
  pub references : (l j : Location) → store l ≡ Reference j → IsActivation l.owner
  pub classes : (l j : Location) → store l ≡ ClassRight j → j.owner ≡ l.owner

-- ---- What is left to do

-- The owner of the activation, if there is one, passes the test `t`.
abbrev pub FrameIn : (Owner → Bool) → Option Frame → Type 0
FrameIn t None = Unit {0}
FrameIn t (Some f) = t f.owner ≡ true

-- The component and the activation of an environment belong to owners that pass the test `t`.
pub record EnvironmentIn (t : Owner → Bool) (env : Environment) : Type 0 where
  pub component : t env.component.owner ≡ true
  pub frame : FrameIn t env.frame

abbrev pub TaskIn : (Owner → Bool) → Task → Type 0
TaskIn t (Do s env) = EnvironmentIn t env
TaskIn t (WhileTest now e s env) = EnvironmentIn t env
TaskIn t (RepeatTest now s e env) = EnvironmentIn t env
TaskIn t (ForNext v down n last s env) = EnvironmentIn t env
TaskIn t (EndCall env gate) = EnvironmentIn t env
TaskIn t (EndBody gate) = Unit {0}
TaskIn t EndProcess = Unit {0}

-- Each task is within the reach that the process has with this task and those after it.
abbrev pub TasksInReach : ℕ → List Task → Type 0
TasksInReach p [] = Unit {0}
TasksInReach p (i ∷ k) = TaskIn (in_reach p (marked_monitors (i ∷ k))) i × TasksInReach p k

-- ---- Activations

abbrev pub IsFrameOf : Option Frame → Owner → Type 0
IsFrameOf None o = ⊥
IsFrameOf (Some f) o = f.owner ≡ o

-- The end mark of a routine belongs to the activation at its depth, whose parameters refer into the
-- caller's reach.
pub record FrameInvariant (p : ℕ) (store : Store) (env : Environment) (k : List Task) : Type 0 where
  pub frame : IsFrameOf env.frame (OfActivation p (depth k))
  pub references : (l j : Location) → l.owner ≡ OfActivation p (depth k) → store l ≡ Reference j
      → in_reach p (marked_monitors k) j.owner ≡ true

abbrev pub FramesInvariant : ℕ → Store → List Task → Type 0
FramesInvariant p store [] = Unit {0}
FramesInvariant p store (EndCall env gate ∷ k) = FrameInvariant p store env k × FramesInvariant p store k
FramesInvariant p store (_ ∷ k) = FramesInvariant p store k

-- Activations at depth n or beyond hold no references.
abbrev pub NoneBeyond : ℕ → Store → ℕ → Type 0
NoneBeyond p store n = (l j : Location) (d : ℕ) → n ≤ d → l.owner ≡ OfActivation p d → store l ≢ Reference j

pub record ContinuationInvariant (p : ℕ) (store : Store) (k : List Task) : Type 0 where
  pub tasks : TasksInReach p k
  pub frames : FramesInvariant p store k
  pub beyond : NoneBeyond p store (depth k)

-- ---- States

-- A process that is asking or delayed.
abbrev pub IsBlocked : Status → Type 0
IsBlocked (Asking m) = Unit {0}
IsBlocked (Delayed m q) = Unit {0}
IsBlocked _ = ⊥

-- A blocked process has the end mark of a monitor, so it isn't private when it is ready again. An
-- unstarted process has no activation.
pub record Invariant (s : State) : Type 0 where
  pub store : StoreInvariant s.store
  pub continuations : (p : ℕ) → ContinuationInvariant p s.store (s.continuation p)
  pub blocked : (p : ℕ) → IsBlocked (s.status p) → is_in_monitor (s.continuation p) ≡ true
  pub unstarted : (p : ℕ) → s.status p ≡ Unstarted → depth (s.continuation p) ≡ 0
