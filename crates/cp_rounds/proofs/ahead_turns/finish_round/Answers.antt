use Rattle.std.proofs.Common.{◌≡◌, length, refl, sym, subst, ◌∙◌, arith}
use Rattle.cp_model_machine.specs.Machines.{kernel_turns}
use Rattle.cp_model.specs.States.{numbers_from}
use Rattle.cp_rounds.specs.Ahead.{IsReadyAhead, PartsAhead}
use Rattle.cp_rounds.proofs.AheadRounds.{end_ahead, ready_ended}
use Rattle.cp_rounds.proofs.Rounds.{turns_remain}
use Rattle.cp_rounds.proofs.ahead_turns.finish_round.Goals as goal

pub loop-i-init : goal.loop-i-init
loop-i-init g c = record {
  count = refl;
  ready = c.requires.room;
  parts = λ rounds m time was. was;
}

pub loop-i-preserved : goal.loop-i-preserved
loop-i-preserved g c =
    let was = c.loop-i.invariant in
    let more = c.finish_at.ensures in
    record {
      count = more.count ∙ was.count;
      ready = more.room;
      parts = λ rounds m time first. more.parts rounds m time (was.parts rounds m time first);
    }

pub returns : goal.returns
returns g c =
    let run = c.args.run.now in
    let config = run.turns.config.now in
    let t = run.turns.plan.turn.steps in
    let was = c.loop-i.invariant in
    let ends = c.close_round.ensures in
    let ys = c.loop-i.privates.items in
    let first = c.args.privates.now.items in
    let past = c.loop-i-test.false in
    let bound = c.loop-i.auto.i-end in
    let len = c.len-i-end.ensures in
    let count = was.count in
    let all : c.loop-i.i ≡ length first = omega (arith, past, bound, len) in
    record {
      parts = λ rounds m time before.
          let kept = turns_remain t (length first) m in
          end_ahead config t rounds (kernel_turns t m (numbers_from 1 (length first))) c.args.ahead.now.turns.items (kept.program ∙ time.program) ys
          c.close_round.new.privates.items c.loop-i.kernel c.close_round.new.kernel ends
          (subst (λ n. PartsAhead config t rounds (kernel_turns t m (numbers_from 1 n)) c.args.ahead.now.turns.items ys c.loop-i.kernel) all
          (was.parts rounds m time before));
      room =
          ready_ended g.C.Course.most c.args.ahead.now.later c.args.ahead.now.turns.items config ys c.close_round.new.privates.items c.loop-i.kernel
          c.close_round.new.kernel ends
          (subst (λ n. IsReadyAhead g.C.Course.most c.args.ahead.now.later n c.args.ahead.now.turns.items ys c.loop-i.kernel) (all ∙ sym count) was.ready);
      count = ends.count ∙ count;
    }
