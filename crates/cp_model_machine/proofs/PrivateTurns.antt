-- A turn of private steps is that of the meaning, because each step is and none changes the clock.
use Rattle.std.proofs.Common.{zero, suc, subst}
use Rattle.cp_model.specs.Operators.{realtime}
use Rattle.cp_model.specs.States.{running_clock}
use Rattle.cp_model.specs.Turns as meaning
use Rattle.cp_model.proofs.RoundCount.{private_turn_count}
use Rattle.cp_model.proofs.StateInvariant.{private_step_keeps}
use Rattle.cp_model_machine.specs.Steps.{private_step, private_steps}
use Rattle.cp_model_machine.specs.Laws.{PrivateTurnIsTurn, ground_of}
use Rattle.cp_model_machine.specs.PartOf.{PartOf}
use Rattle.cp_model_machine.proofs.PrivateSteps.{private_step_is_step}

pub private_turn_is_turn : PrivateTurnIsTurn
private_turn_is_turn program setup F p own zero s before o I part = part
private_turn_is_turn program setup F p own (suc n) s before o I part =
    subst (λ r. PartOf (ground_of program setup F p own) (meaning.private_turn setup n (meaning.private_step setup s p) p) before (private_steps program (realtime (record { round = suc r; tick = setup.tick })) n (private_step program (realtime (running_clock setup s)) o)))
    (private_turn_count setup 1 s p)
    (private_turn_is_turn program setup F p own n (meaning.private_step setup s p) before (private_step program (realtime (running_clock setup s)) o) (private_step_keeps setup s p I)
    (private_step_is_step program setup F p own s before o I part))
