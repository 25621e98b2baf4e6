-- What the schedules lead to that a search shows, by the definition of replays.
use Rattle.std.specs.Prelude.{List, None, Ok, Option, Some, false, ℕ, ◌≡◌}
use Rattle.cp_model.specs.Orders.{replay}
use Rattle.cp_model.specs.Rounds.{Event}
use Rattle.cp_model.specs.Start.{start}
use Rattle.cp_model.specs.States.{Setup, State, processes}
use Rattle.cp_model.specs.Syntax as s
use Rattle.cp_model_machine.specs.InState.{IsIn}
use Rattle.cp_law_cores.specs.Verdicts.{all_pass, has_no_fault}
use Rattle.cp_outcome.specs.Verdicts.{verdict_of}
use Rattle.cp_outcome.specs.declared.verdict.Verdict.TheVariants as verdict
use Rattle.cp_outcome_reasons.specs.declared.snapshot.StatusSnapshot.{StatusSnapshot}
use Rattle.cp_outcome_schedule.specs.declared.findings.Finding.{Finding}
use Rattle.cp_outcome_schedule.specs.declared.findings.Finding.TheVariants as finding
use Rattle.cp_rounds.specs.Views.{machine_of}
use Rattle.cp_rounds.specs.declared.machine.Machine.{Machine}
use Rattle.cp_execute.specs.Replayed.{judge_order, timed}
use Rattle.cp_execute_start.specs.Starts.{setup_of}
use Rattle.cp_execute_search.specs.declared.kind.Kind.{Kind}
use Rattle.cp_execute_search.specs.declared.kind.Kind.TheVariants as kind

-- Stuck is the verdict on the state, if servers may wait forever. Or some process has a fault in it.
abbrev pub IsOfKind : Kind → List ℕ → Setup → State → Type 0
IsOfKind kind.Stuck servers setup s = verdict_of servers setup s ≡ verdict.Stuck
IsOfKind kind.Fault servers setup s = all_pass has_no_fault s (processes setup) ≡ false

-- The state to which these rounds lead from the start, where a turn has one step and the clock ticks
-- in each round.
abbrev pub state_after : s.Tree → (ℕ → List ℕ) → List (List Event) → State
state_after t inputs rounds = let setup = setup_of t inputs 1 in replay setup (start setup) (timed 1 rounds)

-- The bytes are an order of the text's processes, whose replay leads to a state of the kind.
pub record LeadsTo (k : Kind) (servers : List ℕ) (t : s.Tree) (inputs : ℕ → List ℕ) (order : List ℕ) : Type 0 where
  pub rounds : List (List Event)
  pub read : judge_order t order ≡ Ok rounds
  pub reached : IsOfKind k servers (setup_of t inputs 1) (state_after t inputs rounds)

-- A schedule that is shown leads to a state of the kind.
abbrev pub IsCertified : Kind → List ℕ → s.Tree → (ℕ → List ℕ) → Finding → Type 0
IsCertified k servers t inputs (finding.Schedule found) = LeadsTo k servers t inputs found.schedule.order.items
IsCertified k servers t inputs _ = Unit {0}

-- A schedule is shown.
abbrev pub IsShown : Finding → Type 0
IsShown (finding.Schedule found) = Unit {0}
IsShown _ = ⊥

-- ---- Machines

-- Each state that the machine is in is of the kind.
pub record ShowsKind (k : Kind) (servers : List ℕ) (m : Machine) : Type 0 where
  pub each : (setup : Setup) (s : State) → IsIn (machine_of m) setup s → IsOfKind k servers setup s

-- From each state that the machine is in, these rounds lead to one of the kind.
pub record ReachesKind (k : Kind) (servers : List ℕ) (rounds : List (List Event)) (m : Machine) : Type 0 where
  pub each : (setup : Setup) (s : State) → IsIn (machine_of m) setup s → IsOfKind k servers setup (replay setup s (timed 1 rounds))

-- If there is a snapshot, these rounds lead to a state of the kind.
abbrev pub ReachesIfSome : Kind → List ℕ → List (List Event) → Machine → Option StatusSnapshot → Type 0
ReachesIfSome k servers rounds m None = Unit {0}
ReachesIfSome k servers rounds m (Some snapshot) = ReachesKind k servers rounds m

-- If there is a snapshot, the order leads to a state of the kind.
abbrev pub LeadsIfSome : Kind → List ℕ → s.Tree → (ℕ → List ℕ) → List ℕ → Option StatusSnapshot → Type 0
LeadsIfSome k servers t inputs order None = Unit {0}
LeadsIfSome k servers t inputs order (Some snapshot) = LeadsTo k servers t inputs order
