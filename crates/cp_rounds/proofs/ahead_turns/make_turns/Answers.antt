use Rattle.std.proofs.Common.{◌≡◌, ◌<◌, ◌+◌, ◌-◌, ℕ, suc, Some, slice_get, length, refl, sym, ap, subst, ◌∙◌, arith}
use Rattle.cp_private.specs.States.{private_of}
use Rattle.cp_private.specs.declared.private.Private.{Private}
use Rattle.cp_program.specs.View as view
use Rattle.cp_rounds_handoff.specs.Inputs.{input_at}
use Rattle.cp_rounds_handoff.specs.Turned.{take_turn}
use Rattle.cp_rounds_handoff.proofs.Lists.{got_or}
use Rattle.cp_rounds.specs.Ahead.{IsReadyAhead, turns_ahead}
use Rattle.cp_rounds.proofs.AheadPasses.{all_turned, none_turned, one_turned, ready_next, turns_at}
use Rattle.cp_rounds.proofs.ahead_turns.make_turns.Goals as goal

pub loop-i-init : goal.loop-i-init
loop-i-init g c =
    let run = c.args.run.now in
    record {
      later = refl;
      turned = none_turned run.turns.config.now run.turns.plan.turn.steps c.args.round_time g.C.Course.most c.args.ahead.now.turns.items c.args.privates.now.items;
    }

pub loop-i-preserved : goal.loop-i-preserved
loop-i-preserved g c =
    let run = c.args.run.now in
    let config = run.turns.config.now in
    let t = run.turns.plan.turn.steps in
    let i = c.loop-i.i in
    let was = c.loop-i.invariant in
    let made = c.turn_unless_ahead.ensures in
    let ns = c.args.ahead.now.turns.items in
    let ys = c.args.privates.now.items in
    let ms = c.loop-i.ahead.turns.items in
    let zs = c.loop-i.privates.items in
    let n = c.index_mut-turns.result.now in
    let y = c.index_mut.result.now in
    let below = c.loop-i-test.true in
    let len = c.len-i-end.ensures in
    let turns = c.requires.room.turns in
    let inside : i < length ms = omega (arith, below, len, was.turned.turns, turns) in
    let within : i < length zs = omega (arith, below, len, was.turned.count) in
    let here : slice_get zs i ≡ Some y = got_or zs i y within ∙ ap (λ (z : Private). Some z) (sym c.index_mut.ensures.value) in
    let at : n ≡ turns_ahead ms i = c.index_mut-turns.ensures.value ∙ turns_at ms i n inside in
    let back : (i + 1) - 1 ≡ i = omega arith in
    record {
      later = was.later;
      turned =
          one_turned config t c.args.round_time g.C.Course.most i ns ys ms zs c.turn_unless_ahead.new.turns y c.turn_unless_ahead.new.private inside here
          (made.ahead ∙ ap (λ (q : ℕ). q - 1) at)
          (record {
            still = λ some. made.still (λ none. some (sym at ∙ none));
            turned = λ none.
                subst (λ (j : ℕ). private_of c.turn_unless_ahead.new.private (input_at config.inputs.items j)
                ≡ take_turn (view.program config.program) t c.args.round_time (private_of y (input_at config.inputs.items j))) back (made.turned (at ∙ none));
            number = made.number;
            length = let long = made.length in let bytes = run.turns.course.bytes in omega (arith, long, bytes);
            capacity = made.capacity;
          })
          was.turned;
    }

pub returns-clause-parts : goal.returns-clause-parts
returns-clause-parts g c = λ m time was.
    let run = c.args.run.now in
    let ys = c.args.privates.now.items in
    let past = c.loop-i-test.false in
    let len = c.len-i-end.ensures in
    all_turned run.turns.config.now run.turns.plan.turn.steps c.args.round_time g.C.Course.most m time c.loop-i.i c.args.ahead.now.turns.items ys
    c.loop-i.ahead.turns.items c.loop-i.privates.items c.args.kernel.now (omega (arith, past, len)) c.requires.room.turns c.loop-i.invariant.turned was

pub returns-clause-room : goal.returns-clause-room
returns-clause-room g c =
    let run = c.args.run.now in
    let ys = c.args.privates.now.items in
    let past = c.loop-i-test.false in
    let len = c.len-i-end.ensures in
    let later = c.loop-i.invariant.later in
    let some = c.requires.later in
    let next : c.args.ahead.now.later ≡ suc c.loop-i.ahead.later = omega (arith, later, some) in
    ready_next run.turns.config.now run.turns.plan.turn.steps c.args.round_time g.C.Course.most c.loop-i.ahead.later c.loop-i.i c.args.ahead.now.turns.items ys
    c.loop-i.ahead.turns.items c.loop-i.privates.items c.args.kernel.now (omega (arith, past, len)) c.loop-i.invariant.turned
    (subst (λ (n : ℕ). IsReadyAhead g.C.Course.most n (length ys) c.args.ahead.now.turns.items ys c.args.kernel.now) next c.requires.room)
