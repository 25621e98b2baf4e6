-- Lawful and phased rounds from each state with the invariant, and so from each state that rounds
-- reach.
use Rattle.std.specs.Prelude.{List, ℕ}
use Rattle.cp_model.specs.States.{Setup}
use Rattle.cp_model.specs.Rounds.{Event}
use Rattle.cp_model.specs.Start.{start}
use Rattle.cp_model.specs.Orders.{replay}
use Rattle.cp_model.specs.Invariant.{Invariant}
use Rattle.cp_model.specs.Laws.{LawfulRoundIsSequential, LawfulRoundIsSequentialFromStart, PhasedRoundIsSequential, PhasedRoundIsSequentialFromStart}
use Rattle.cp_model.proofs.StateInvariant.{wake_keeps}
use Rattle.cp_model.proofs.StartInvariant.{replay_keeps, start_invariant}
use Rattle.cp_model.proofs.LawfulRounds.{lawful_round}
use Rattle.cp_model.proofs.PhasedRounds.{phased_round_is_sequential}

pub lawful_is_sequential : LawfulRoundIsSequential
lawful_is_sequential setup t s es i h = lawful_round setup t s es (wake_keeps setup s i) h

pub phased_is_sequential : PhasedRoundIsSequential
phased_is_sequential setup t s i = phased_round_is_sequential setup t s (wake_keeps setup s i)

reached : (setup : Setup) (past : List (ℕ × List Event)) → Invariant (replay setup (start setup) past)
reached setup past = replay_keeps setup past (start setup) (start_invariant setup)

pub lawful_from_start : LawfulRoundIsSequentialFromStart
lawful_from_start setup past t es h = lawful_is_sequential setup t (replay setup (start setup) past) es (reached setup past)
    h

pub phased_from_start : PhasedRoundIsSequentialFromStart
phased_from_start setup past t = phased_is_sequential setup t (replay setup (start setup) past) (reached setup past)
