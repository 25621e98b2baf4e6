use Rattle.std.proofs.Common.{◌≤◌, List, length, take, refl, sym, subst, ◌∙◌, arith}
use Rattle.std.proofs.lemmas.List.{take_all}
use Rattle.cp_private.specs.declared.private.Private.{Private}
use Rattle.cp_rounds_handoff.specs.Numbers.{AreNumbered}
use Rattle.cp_rounds_handoff.proofs.Lists.{none_some}
use Rattle.cp_rounds.specs.Runs.{TurnsTaken}
use Rattle.cp_rounds.proofs.Made.{none_taken}
use Rattle.cp_rounds.proofs.finishing.finish_all.Goals as goal

pub loop-i-init : goal.loop-i-init
loop-i-init g c = record {
  count = c.requires.count;
  left = c.requires.left;
  here = c.requires.here;
  ready = c.requires.ready;
  numbers = λ j x e. absurd (none_some x e);
  taken = λ rounds time.
      none_taken c.args.run.now.turns.config.now c.args.run.now.turns.plan.turn.steps rounds c.args.round.now.start.value.items
      (take 0 c.args.privates.now.items) c.args.kernel.now refl;
}

pub loop-i-preserved : goal.loop-i-preserved
loop-i-preserved g c =
    let was = c.loop-i.invariant in
    let more = c.finish_next.ensures in
    record {
      count = more.count ∙ was.count;
      left = more.left;
      here = more.here;
      ready = more.ready;
      numbers = more.numbers was.numbers;
      taken = λ rounds time. more.taken rounds c.args.kernel.now time (was.taken rounds time);
    }

pub returns : goal.returns
returns g c =
    let was = c.loop-i.invariant in
    let xs = c.args.round.now.start.value.items in
    let ys = c.loop-i.privates.items in
    let past = c.loop-i-test.false in
    let len = c.len-i-end.ensures in
    let count = was.count in
    let first = c.requires.count in
    let end : length ys ≤ c.loop-i.i = omega (arith, past, len, count, first) in
    let all = take_all c.loop-i.i ys end in
    record {
      taken = λ rounds time.
          subst (λ (l : List Private). TurnsTaken c.args.run.now.turns.config.now c.args.run.now.turns.plan.turn.steps rounds xs c.args.kernel.now l c.loop-i.kernel) all
          (was.taken rounds time);
      numbers = subst (λ (l : List Private). AreNumbered l) all was.numbers;
      count = count ∙ sym first;
      stages = was.ready.stages ∙ sym count;
    }
