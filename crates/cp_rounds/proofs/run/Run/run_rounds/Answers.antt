use Rattle.std.proofs.Common.{refl, ◌∙◌, arith}
use Rattle.cp_rounds.proofs.Made.{more_rounds_made, no_round_made}
use Rattle.cp_rounds.proofs.Rooms.{all_same}
use Rattle.cp_rounds.proofs.run.Run.run_rounds.Goals as goal

pub rounds-init : goal.rounds-init
rounds-init g c =
    let parts = c.args.parts.now in
    let turns = c.args.self.now.turns in
    record {
      bound = omega arith;
      count = refl;
      made = no_round_made turns.config.now turns.plan.turn.steps turns.done parts.privates.items parts.kernel parts.privates.items parts.kernel
          (all_same parts.privates.items parts.kernel parts.kernel refl refl);
    }

pub rounds-preserved : goal.rounds-preserved
rounds-preserved g c =
    let turns = c.args.self.now.turns in
    let was = c.rounds.invariant in
    let first = c.args.parts.now in
    let before = c.rounds.parts in
    let after = c.make_next.new.parts in
    record {
      bound = c.in-Ok.ensures.few;
      count = c.make_next.ensures.count ∙ was.count;
      made = more_rounds_made turns.config.now turns.plan.turn.steps turns.done c.rounds.round c.in-Ok.count first.privates.items before.privates.items
          after.privates.items first.kernel before.kernel after.kernel was.count was.made c.in-Ok.ensures.made;
    }
