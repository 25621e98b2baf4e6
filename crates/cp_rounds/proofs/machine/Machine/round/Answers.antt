use Rattle.cp_rounds.proofs.InStates.{makes_round, makes_rounds}
use Rattle.cp_rounds.proofs.machine.Machine.round.Goals as goal

-- One round of a run is the phased round.
pub returns-in-Ok-clause-state : goal.returns-in-Ok-clause-state
returns-in-Ok-clause-state g c = makes_round c.args.plan.now.turn.steps c.args.self.now _ c.rounds.ensures.round c.in-Ok.ensures.made.made

pub returns-in-Ok-clause-single : goal.returns-in-Ok-clause-single
returns-in-Ok-clause-single g c = makes_rounds c.args.plan.now.turn.steps 1 c.args.self.now c.run_batch.new.self c.rounds.ensures.run c.in-Ok.ensures.made.made
