-- The laws of rounds and of the invariant, which the functions in `src/law.rt` state.
use Rattle.std.specs.Prelude.{List, Some, map, true, ℕ, ◌++◌, ◌≡◌, ◌≢◌}
use Rattle.cp_model.specs.Locations.{Location, OfActivation}
use Rattle.cp_model.specs.Stores.{ClassRight, Reference}
use Rattle.cp_model.specs.States.{Setup, State, is_in, processes}
use Rattle.cp_model.specs.Turns.{Private, kernel_step, kernel_turn, kind, private_step, private_turn}
use Rattle.cp_model.specs.Rounds.{Event, KernelTurn, close_round, own_parts, phased_round, replay_event, replay_round, run, sequential_round, wake}
use Rattle.cp_model.specs.Start.{start}
use Rattle.cp_model.specs.Orders.{AreStepsOf, IsDrawnOnce, IsLawful, replay}
use Rattle.cp_model.specs.Reach.{reach}
use Rattle.cp_model.specs.Invariant.{Invariant, IsActivation}
use Rattle.cp_model.specs.Chains.{IsAskingChain, chain_within}
use Rattle.cp_model.specs.Report.{IsReportWithChains, report_with_chains_within}
use Rattle.cp_model.specs.Parts.{SameKernelPart, SameOwnPart, SamePrivateState}

-- ---- One processor

-- For each state with the invariant and each lawful list of events, replaying the events is the
-- round of one processor.
abbrev pub LawfulRoundIsSequential : Type 0
LawfulRoundIsSequential =
    (setup : Setup) (t : ℕ) (s : State) (events : List Event)
    → Invariant s → IsLawful t (processes setup) events → replay_round setup t s events ≡ sequential_round setup t s

-- For each state with the invariant, the phased round is the round of one processor.
abbrev pub PhasedRoundIsSequential : Type 0
PhasedRoundIsSequential =
    (setup : Setup) (t : ℕ) (s : State) → Invariant s → phased_round setup t s ≡ sequential_round setup t s

-- Lawful rounds are rounds of one processor in each state that rounds reach from the start, in any
-- orders, lawful or not.
abbrev pub LawfulRoundIsSequentialFromStart : Type 0
LawfulRoundIsSequentialFromStart =
    (setup : Setup) (past : List (ℕ × List Event)) (t : ℕ) (events : List Event)
    → IsLawful t (processes setup) events
    → replay_round setup t (replay setup (start setup) past) events
    ≡ sequential_round setup t (replay setup (start setup) past)

abbrev pub PhasedRoundIsSequentialFromStart : Type 0
PhasedRoundIsSequentialFromStart =
    (setup : Setup) (past : List (ℕ × List Event)) (t : ℕ)
    → phased_round setup t (replay setup (start setup) past) ≡ sequential_round setup t (replay setup (start setup) past)

-- ---- The invariant

abbrev pub InvariantAtStart : Type 0
InvariantAtStart = (setup : Setup) → Invariant (start setup)

-- A function of states keeps the invariant.
abbrev pub KeepsInvariant : (State → State) → Type 0
KeepsInvariant f = (s : State) → Invariant s → Invariant (f s)

abbrev pub PrivateStepKeepsInvariant : Type 0
PrivateStepKeepsInvariant = (setup : Setup) (p : ℕ) → KeepsInvariant (λ s. private_step setup s p)

abbrev pub KernelStepKeepsInvariant : Type 0
KernelStepKeepsInvariant = (setup : Setup) (p : ℕ) → KeepsInvariant (λ s. kernel_step setup s p)

abbrev pub PrivateTurnKeepsInvariant : Type 0
PrivateTurnKeepsInvariant = (setup : Setup) (t p : ℕ) → KeepsInvariant (λ s. private_turn setup t s p)

abbrev pub KernelTurnKeepsInvariant : Type 0
KernelTurnKeepsInvariant = (setup : Setup) (t p : ℕ) → KeepsInvariant (λ s. kernel_turn setup t s p)

abbrev pub OwnPartsKeepInvariant : Type 0
OwnPartsKeepInvariant = (setup : Setup) (t : ℕ) → KeepsInvariant (own_parts setup t)

abbrev pub WakeKeepsInvariant : Type 0
WakeKeepsInvariant = (setup : Setup) → KeepsInvariant (wake setup)

abbrev pub CloseKeepsInvariant : Type 0
CloseKeepsInvariant = KeepsInvariant close_round

abbrev pub EventKeepsInvariant : Type 0
EventKeepsInvariant = (setup : Setup) (t : ℕ) (event : Event) → KeepsInvariant (λ s. replay_event setup t s event)

-- A round in any order, lawful or not.
abbrev pub RoundKeepsInvariant : Type 0
RoundKeepsInvariant = (setup : Setup) (t : ℕ) (events : List Event) → KeepsInvariant (λ s. replay_round setup t s events)

abbrev pub SequentialRoundKeepsInvariant : Type 0
SequentialRoundKeepsInvariant = (setup : Setup) (t : ℕ) → KeepsInvariant (sequential_round setup t)

abbrev pub RunKeepsInvariant : Type 0
RunKeepsInvariant = (setup : Setup) (t n : ℕ) → KeepsInvariant (run setup t n)

-- ---- Reach

-- Each location that a `var` parameter of p refers to is in p's reach.
abbrev pub ReferencesAreInReach : Type 0
ReferencesAreInReach =
    (s : State) (p d : ℕ) (l j : Location)
    → Invariant s → l.owner ≡ OfActivation p d → s.store l ≡ Reference j → reach s p j ≡ true

-- Only variables of activations hold references.
abbrev pub OnlyActivationsRefer : Type 0
OnlyActivationsRefer = (s : State) (l j : Location) → Invariant s → s.store l ≡ Reference j → IsActivation l.owner

-- A right to a class names a class of the same owner.
abbrev pub ClassRightsKeepOwner : Type 0
ClassRightsKeepOwner = (s : State) (l j : Location) → Invariant s → s.store l ≡ ClassRight j → j.owner ≡ l.owner

-- ---- Parts

-- In `own_parts` each process has the private state that its private turn makes, and the kernel's
-- part stays as it was.
abbrev pub OwnPartIsTurned : Type 0
OwnPartIsTurned =
    (setup : Setup) (t : ℕ) (s : State) (p : ℕ)
    → is_in p (processes setup) ≡ true → SamePrivateState p (private_turn setup t s p) (own_parts setup t s)

abbrev pub OwnPartsKeepKernelPart : Type 0
OwnPartsKeepKernelPart = (setup : Setup) (t : ℕ) (s : State) → SameKernelPart s (own_parts setup t s)

abbrev pub WakeKeepsKernelPart : Type 0
WakeKeepsKernelPart = (setup : Setup) (s : State) → SameKernelPart s (wake setup s)

abbrev pub PrivateStepKeepsKernelPart : Type 0
PrivateStepKeepsKernelPart = (setup : Setup) (p : ℕ) (s : State) → Invariant s → SameKernelPart s (private_step setup s p)

-- A private step or a kernel turn of q leaves the private state of every other process as it was.
abbrev pub PrivateStepKeepsOtherParts : Type 0
PrivateStepKeepsOtherParts =
    (setup : Setup) (p q : ℕ) (s : State) → q ≢ p → Invariant s → SamePrivateState p s (private_step setup s q)

abbrev pub KernelTurnKeepsOtherParts : Type 0
KernelTurnKeepsOtherParts =
    (setup : Setup) (t p q : ℕ) (s : State) → q ≢ p → Invariant s → SamePrivateState p s (kernel_turn setup t s q)

-- If the next step of p is private, a kernel turn of q leaves the whole own part of p as it was,
-- including its status.
abbrev pub KernelTurnKeepsPrivatelyReady : Type 0
KernelTurnKeepsPrivatelyReady =
    (setup : Setup) (t p q : ℕ) (s : State)
    → q ≢ p → Invariant s → kind s p ≡ Private → SameOwnPart p s (kernel_turn setup t s q)

-- A kernel turn of q makes no other process privately ready.
abbrev pub KernelTurnMakesNonePrivate : Type 0
KernelTurnMakesNonePrivate =
    (setup : Setup) (t p q : ℕ) (s : State)
    → q ≢ p → Invariant s → kind s p ≢ Private → kind (kernel_turn setup t s q) p ≢ Private

-- ---- Changing places

-- A private step of p commutes with every private step and with every kernel turn of another
-- process.
abbrev pub PrivateStepsCommute : Type 0
PrivateStepsCommute =
    (setup : Setup) (s : State) (p q : ℕ)
    → p ≢ q → Invariant s
    → private_step setup (private_step setup s p) q ≡ private_step setup (private_step setup s q) p

abbrev pub PrivateStepCommutesWithKernelTurn : Type 0
PrivateStepCommutesWithKernelTurn =
    (setup : Setup) (t : ℕ) (s : State) (p q : ℕ)
    → p ≢ q → Invariant s
    → kernel_turn setup t (private_step setup s p) q ≡ private_step setup (kernel_turn setup t s q) p

-- However the private turns of the processes are shared out and cut into steps, these steps
-- followed by the kernel turns by number make a lawful order.
abbrev pub SharedTurnsAreLawful : Type 0
SharedTurnsAreLawful =
    (t : ℕ) (ps drawn : List ℕ) (steps : List Event)
    → IsDrawnOnce ps drawn → AreStepsOf t drawn steps → IsLawful t ps (steps ++ map KernelTurn ps)

-- ---- The count of rounds

abbrev pub WakeKeepsCount : Type 0
WakeKeepsCount = (setup : Setup) (s : State) → (wake setup s).rounds ≡ s.rounds

abbrev pub PrivateTurnKeepsCount : Type 0
PrivateTurnKeepsCount = (setup : Setup) (t p : ℕ) (s : State) → (private_turn setup t s p).rounds ≡ s.rounds

abbrev pub KernelTurnKeepsCount : Type 0
KernelTurnKeepsCount = (setup : Setup) (t p : ℕ) (s : State) → (kernel_turn setup t s p).rounds ≡ s.rounds

abbrev pub OwnPartsKeepCount : Type 0
OwnPartsKeepCount = (setup : Setup) (t : ℕ) (s : State) → (own_parts setup t s).rounds ≡ s.rounds

-- ---- Chains

-- A chain that is computed within a bound is the asking chain, and a report with chains that is
-- computed within a bound is the report.
abbrev pub ChainWithinIsAskingChain : Type 0
ChainWithinIsAskingChain =
    (n : ℕ) (s : State) (p : ℕ) (ps : List ℕ) → chain_within n s p ≡ Some ps → IsAskingChain s p ps

abbrev pub AskingChainIsOne : Type 0
AskingChainIsOne = (s : State) (p : ℕ) (ps qs : List ℕ) → IsAskingChain s p ps → IsAskingChain s p qs → ps ≡ qs

abbrev pub ReportWithinIsReport : Type 0
ReportWithinIsReport =
    (n : ℕ) (setup : Setup) (s : State) (text : List ℕ)
    → report_with_chains_within n setup s ≡ Some text → IsReportWithChains setup s text
