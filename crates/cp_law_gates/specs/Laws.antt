-- The laws of the hierarchy of gates.
use Rattle.std.specs.Prelude.{List, ◌≡◌, ℕ}
use Rattle.cp_model.specs.Syntax as s
use Rattle.cp_model.specs.Erase as erase
use Rattle.cp_model.specs.Rules.{Accepted}
use Rattle.cp_model.specs.Rounds.{Event, replay_round, sequential_round}
use Rattle.cp_model.specs.Start.{start}
use Rattle.cp_model.specs.States.{Setup, State, monitor_count}
use Rattle.cp_law_typing.specs.WellTyped.{WellTyped}
use Rattle.cp_law_typing.specs.TypePlaces.{type_place}
use Rattle.cp_law_gates.specs.Hierarchy.{Hierarchy, Round, after_rounds}
use Rattle.cp_law_gates.specs.Gates.{Gates}
use Rattle.cp_law_gates.specs.InOrder.{InOrder, world}

-- Whatever the places of the monitors: if the gates are in order, they make a hierarchy.
abbrev pub OrderMakesHierarchy : Type 0
OrderMakesHierarchy = (place : ℕ → ℕ) (monitors : ℕ) (s : State) → Gates place monitors s → Hierarchy place monitors s

-- ---- Well-typed texts: the start is in order, and each round keeps it

abbrev pub StartIsInOrder : Type 0
StartIsInOrder = (setup : Setup) → WellTyped setup → InOrder (world setup) (start setup)

abbrev pub RoundsKeepOrder : Type 0
RoundsKeepOrder =
    (setup : Setup) (t : ℕ) (events : List Event) (s : State)
    → WellTyped setup → InOrder (world setup) s → InOrder (world setup) (replay_round setup t s events)

abbrev pub WholeRoundsKeepOrder : Type 0
WholeRoundsKeepOrder =
    (setup : Setup) (t : ℕ) (s : State) → WellTyped setup → InOrder (world setup) s → InOrder (world setup) (sequential_round setup t s)

-- ---- Accepted texts

-- In every state that rounds reach, the gates make a hierarchy, by the places of the monitors' types
-- in the text.
abbrev pub AcceptedTextsMakeHierarchy : Type 0
AcceptedTextsMakeHierarchy =
    (t : s.Tree) (setup : Setup) (past : List Round) → Accepted t → setup.tree ≡ erase.abstract t
    → Hierarchy (type_place setup) (monitor_count setup) (after_rounds setup (start setup) past)
