-- The laws of eager steps and of orders of calls.
use Rattle.std.specs.Prelude.{Contains, List, Some, true, ℕ, ◌∷◌, ◌≡◌, ◌≢◌}
use Rattle.cp_model.specs.Configurations.{Ready}
use Rattle.cp_model.specs.Orders.{replay}
use Rattle.cp_model.specs.Rounds.{Event, close_round, replay_round, wake}
use Rattle.cp_model.specs.Start.{start}
use Rattle.cp_model.specs.States.{Setup, State, is_in, processes}
use Rattle.cp_model.specs.Syntax as s
use Rattle.cp_model.specs.Erase as erase
use Rattle.cp_model.specs.Rules.{Accepted}
use Rattle.cp_model.specs.Turns.{Kernel, Private, kernel_step, kind, private_step, step}
use Rattle.cp_law_stillness.specs.Stillness.{AreAllOfProcesses, is_still}
use Rattle.cp_law_typing.specs.WellTyped.{WellTyped}
use Rattle.cp_law_calls.specs.Clocks.{text_is_timeless}
use Rattle.cp_law_calls.specs.Orders.{IsTimeless, closed, machine}
use Rattle.cp_law_calls.specs.Runs.{ByCalls, CallsLead, IsClosedByCalls, IsSettled, Runs, Settles, callers}
use Rattle.cp_law_calls.specs.Ways.{Eager, Idle, IsGood, Late, called, way}

-- ---- Good states

abbrev pub StartIsGood : Type 0
StartIsGood = (setup : Setup) → WellTyped setup → IsGood setup (start setup)

abbrev pub StepKeepsGood : Type 0
StepKeepsGood = (setup : Setup) (s : State) (p : ℕ) → WellTyped setup → IsGood setup s → s.status p ≡ Ready → IsGood setup (step setup s p)

abbrev pub StepsOfKindsKeepGood : Type 0
StepsOfKindsKeepGood =
    (setup : Setup) (s : State) (p : ℕ)
    → WellTyped setup → IsGood setup s → IsGood setup (private_step setup s p) × IsGood setup (kernel_step setup s p)

abbrev pub RoundKeepsGood : Type 0
RoundKeepsGood =
    (setup : Setup) (t : ℕ) (s : State) (events : List Event)
    → WellTyped setup → IsGood setup s → IsGood setup (wake setup s) × IsGood setup (close_round s) × IsGood setup (replay_round setup t s events)

-- Each state that rounds reach, in any order, lawful or not.
abbrev pub ReachedAreGood : Type 0
ReachedAreGood = (setup : Setup) (rounds : List (ℕ × List Event)) → WellTyped setup → IsGood setup (replay setup (start setup) rounds)

-- ---- Eager steps

-- Eager steps of two processes change places, and neither changes the way of the other.
abbrev pub EagerStepsCommute : Type 0
EagerStepsCommute =
    (setup : Setup) (s : State) (p q : ℕ)
    → WellTyped setup → IsGood setup s → p ≢ q → way s p ≡ Eager → way s q ≡ Eager
    → (step setup (step setup s p) q ≡ step setup (step setup s q) p)
    × (way (step setup s p) q ≡ Eager) × (way (step setup s q) p ≡ Eager)

-- Taking a gate may be moved later: the late step of `p` may come after an eager step of `q`. That is so
-- whether `p` enters, asks or faults, and whether or not `q` leaves the monitor that `p` calls.
abbrev pub TakingMovesLater : Type 0
TakingMovesLater =
    (setup : Setup) (s : State) (p q : ℕ)
    → WellTyped setup → IsGood setup s → p ≢ q → way s p ≡ Late → way s q ≡ Eager
    → (step setup (step setup s p) q ≡ step setup (step setup s q) p)
    × (way (step setup s p) q ≡ Eager) × (way (step setup s q) p ≡ Late)

-- Leaving may be moved earlier: an eager step of `q`, which may give a gate back, may come before any step
-- of `p`.
abbrev pub LeavingMovesEarlier : Type 0
LeavingMovesEarlier =
    (setup : Setup) (s : State) (p q : ℕ)
    → WellTyped setup → IsGood setup s → p ≢ q → (way s p ≡ Idle → ⊥) → way s q ≡ Eager
    → (step setup (step setup s p) q ≡ step setup (step setup s q) p)
    × (way (step setup s p) q ≡ way s q) × (way (step setup s q) p ≡ way s p)

-- Calls of different monitors change places, too, and each still calls the same monitor.
abbrev pub DifferentCallsCommute : Type 0
DifferentCallsCommute =
    (setup : Setup) (s : State) (p q m n : ℕ)
    → WellTyped setup → IsGood setup s → p ≢ q → s.status p ≡ Ready → s.status q ≡ Ready → called s p ≡ Some m → called s q ≡ Some n → m ≢ n
    → (step setup (step setup s p) q ≡ step setup (step setup s q) p)
    × (called (step setup s p) q ≡ Some n) × (called (step setup s q) p ≡ Some m)

-- A private step is eager, and a late one belongs to the kernel.
abbrev pub PrivateIsEager : Type 0
PrivateIsEager = (s : State) (p : ℕ) → kind s p ≡ Private → way s p ≡ Eager

abbrev pub LateIsOfKernel : Type 0
LateIsOfKernel = (s : State) (p : ℕ) → way s p ≡ Late → kind s p ≡ Kernel

-- ---- Ends of rounds

-- The end of a round may come before a step or after it, except for the count.
abbrev pub StepPastClosing : Type 0
StepPastClosing =
    (setup : Setup) (rounds : List (ℕ × List Event)) (x : State) (p : ℕ)
    → WellTyped setup → IsTimeless setup → AreAllOfProcesses setup rounds → closed x ≡ closed (replay setup (start setup) rounds)
    → is_in p (processes setup) ≡ true → closed (step setup (closed x) p) ≡ closed (step setup x p)

-- ---- Texts

abbrev pub TimelessTexts : Type 0
TimelessTexts = (setup : Setup) → WellTyped setup → text_is_timeless setup.tree ≡ true → IsTimeless setup

-- ---- Orders of a text that doesn't use the clock

-- Rounds and runs of closed states reach the same from the start.
abbrev pub OrderIsRun : Type 0
OrderIsRun =
    (setup : Setup) (rounds : List (ℕ × List Event))
    → WellTyped setup → IsTimeless setup → AreAllOfProcesses setup rounds
    → (ps : List ℕ) × Runs (machine setup) (closed (start setup)) ps (closed (replay setup (start setup) rounds))

abbrev pub RunIsOrder : Type 0
RunIsOrder =
    (setup : Setup) (ps : List ℕ) (u : State)
    → WellTyped setup → IsTimeless setup → Runs (machine setup) (closed (start setup)) ps u
    → (rounds : List (ℕ × List Event)) × AreAllOfProcesses setup rounds × (closed (replay setup (start setup) rounds) ≡ u)

-- Eager steps lead to one settled state at most, in whatever order they are made.
abbrev pub SettlesOnce : Type 0
SettlesOnce =
    (setup : Setup) (rounds : List (ℕ × List Event)) (u v : State)
    → WellTyped setup → IsTimeless setup → AreAllOfProcesses setup rounds
    → let s = closed (replay setup (start setup) rounds) in
    Settles (machine setup) s u → Settles (machine setup) s v → u ≡ v

-- What a reached state settles as, calls reach: all that is chosen is who calls next.
abbrev pub OrderIsByCalls : Type 0
OrderIsByCalls =
    (setup : Setup) (rounds : List (ℕ × List Event)) (u : State)
    → WellTyped setup → IsTimeless setup → AreAllOfProcesses setup rounds → Settles (machine setup) (closed (replay setup (start setup) rounds)) u
    → (calls : List ℕ) × ByCalls (machine setup) (closed (start setup)) calls u

abbrev pub StillIsByCalls : Type 0
StillIsByCalls =
    (setup : Setup) (rounds : List (ℕ × List Event))
    → WellTyped setup → IsTimeless setup → AreAllOfProcesses setup rounds
    → let s = replay setup (start setup) rounds in
    is_still setup s ≡ true → (calls : List ℕ) × ByCalls (machine setup) (closed (start setup)) calls (closed s)

-- Conversely, rounds reach what calls reach.
abbrev pub ByCallsIsOrder : Type 0
ByCallsIsOrder =
    (setup : Setup) (calls : List ℕ) (u : State)
    → WellTyped setup → IsTimeless setup → ByCalls (machine setup) (closed (start setup)) calls u
    → (rounds : List (ℕ × List Event)) × AreAllOfProcesses setup rounds × (closed (replay setup (start setup) rounds) ≡ u)

-- ---- The order of calls determines the end

abbrev pub CallsDetermineEnd : Type 0
CallsDetermineEnd =
    (setup : Setup) (calls : List ℕ) (u v : State)
    → WellTyped setup → IsTimeless setup → ByCalls (machine setup) (closed (start setup)) calls u → ByCalls (machine setup) (closed (start setup)) calls v
    → u ≡ v

-- If two runs end settled, and the same processes call in the same order, they end in the same state.
abbrev pub SameCallersSameEnd : Type 0
SameCallersSameEnd =
    (setup : Setup) (ps qs : List ℕ) (u v : State)
    → let s = closed (start setup) in
    WellTyped setup → IsTimeless setup → Runs (machine setup) s ps u → IsSettled (machine setup) u → Runs (machine setup) s qs v → IsSettled (machine setup) v
    → callers (machine setup) s ps ≡ callers (machine setup) s qs → u ≡ v

-- Let two calls of different monitors come one after another, and let the second one have been due before
-- the first. Then they may change places in the order of calls.
abbrev pub DifferentCallsSwap : Type 0
DifferentCallsSwap =
    (setup : Setup) (rounds : List (ℕ × List Event)) (p q m n : ℕ) (calls : List ℕ) (u : State)
    → WellTyped setup → IsTimeless setup → AreAllOfProcesses setup rounds
    → let v = closed (replay setup (start setup) rounds) in
    CallsLead (machine setup) v (p ∷ q ∷ calls) u → way v q ≡ Late → p ≢ q → called v p ≡ Some m → called v q ≡ Some n → m ≢ n
    → ByCalls (machine setup) v (q ∷ p ∷ calls) u

-- ---- Closed sets

-- Let the start settle as a member of a closed list of settled states. Then each state that rounds in any
-- order reach settles as a member.
abbrev pub OrdersStayWithin : Type 0
OrdersStayWithin =
    (setup : Setup) (vs : List State) (v : State) (rounds : List (ℕ × List Event))
    → WellTyped setup → IsTimeless setup → IsClosedByCalls (machine setup) (Contains vs) → Contains vs v
    → Settles (machine setup) (closed (start setup)) v → AreAllOfProcesses setup rounds
    → (w : State) × Contains vs w × Settles (machine setup) (closed (replay setup (start setup) rounds)) w

-- ---- Accepted texts

-- Let an accepted text have neither `realtime` nor `wait`. Calls reach each still state that rounds in any
-- order reach, except for the count of rounds. Rounds reach what calls reach.
abbrev pub AcceptedStillIsByCalls : Type 0
AcceptedStillIsByCalls =
    (t : s.Tree) (setup : Setup) (rounds : List (ℕ × List Event))
    → Accepted t → setup.tree ≡ erase.abstract t → text_is_timeless setup.tree ≡ true → AreAllOfProcesses setup rounds
    → is_still setup (replay setup (start setup) rounds) ≡ true
    → (calls : List ℕ) × ByCalls (machine setup) (closed (start setup)) calls (closed (replay setup (start setup) rounds))

abbrev pub AcceptedByCallsIsOrder : Type 0
AcceptedByCallsIsOrder =
    (t : s.Tree) (setup : Setup) (calls : List ℕ) (u : State)
    → Accepted t → setup.tree ≡ erase.abstract t → text_is_timeless setup.tree ≡ true → ByCalls (machine setup) (closed (start setup)) calls u
    → (rounds : List (ℕ × List Event)) × AreAllOfProcesses setup rounds × (closed (replay setup (start setup) rounds) ≡ u)

abbrev pub AcceptedCallsDetermineEnd : Type 0
AcceptedCallsDetermineEnd =
    (t : s.Tree) (setup : Setup) (calls : List ℕ) (u v : State)
    → Accepted t → setup.tree ≡ erase.abstract t → text_is_timeless setup.tree ≡ true
    → ByCalls (machine setup) (closed (start setup)) calls u → ByCalls (machine setup) (closed (start setup)) calls v → u ≡ v
