use Rattle.std.proofs.Common.{◌≡◌, ◌+◌, ℕ, length, sym, ap, subst, ◌∙◌, arith}
use Rattle.cp_model_machine.specs.Machines.{Machine, end_round, kernel_turns, phased_rounds}
use Rattle.cp_model.specs.States.{numbers_from}
use Rattle.cp_rounds_handoff.specs.Inputs.{input_of}
use Rattle.cp_rounds_handoff.specs.Turned.{round_time_of, with_turn_taken}
use Rattle.cp_rounds.specs.Ahead.{IsReadyAhead, IsTime, PartsAhead}
use Rattle.cp_rounds.proofs.AheadPasses.{has_made, one_more, round_is}
use Rattle.cp_rounds.proofs.Made.{parts_count}
use Rattle.cp_rounds.proofs.Rounds.{turned_count}
use Rattle.cp_rounds.proofs.run_ahead.finish_one_by_one.Goals as goal

pub loop-next-init : goal.loop-next-init
loop-next-init g c =
    let run = c.args.run.now in
    let config = run.turns.config.now in
    let t = run.turns.plan.turn.steps in
    let ns = c.args.ahead.now.turns.items in
    let ys = c.args.privates.now.items in
    let zs = c.finish_round.new.privates.items in
    let k' = c.finish_round.new.kernel in
    record {
      count = c.finish_round.ensures.count;
      later = omega arith;
      ready = c.finish_round.ensures.room;
      made = λ m time tick rounds before.
          let all : length ys ≡ length m.parts =
          sym (parts_count (input_of config.inputs.items) 1 ys) ∙ (before.ahead.count ∙ turned_count t m) in
          let turned : IsTime config (with_turn_taken t m) c.args.round_time = record { program = time.program; time = time.time } in
          subst (λ (u : Machine). PartsAhead config t (m.rounds + 1) u ns zs k') (sym (round_is t (length ys) m all))
          (c.finish_round.ensures.parts (m.rounds + 1) (with_turn_taken t m) turned before);
    }

pub loop-next-preserved : goal.loop-next-preserved
loop-next-preserved g c =
    let run = c.args.run.now in
    let config = run.turns.config.now in
    let t = run.turns.plan.turn.steps in
    let was = c.loop-next.invariant in
    let next = c.loop-next.next in
    let first = c.args.privates.now.items in
    let zs = c.finish_round-in-loop-next.new.privates.items in
    let made_count = c.make_turns.ensures.count in
    let done_count = c.finish_round-in-loop-next.ensures.count in
    let later = c.make_turns.ensures.later in
    let below = c.loop-next-test.true in
    record {
      count = done_count ∙ (made_count ∙ was.count);
      later = omega (arith, later, was.later, below);
      ready = c.finish_round-in-loop-next.ensures.room;
      made = λ m time tick rounds before.
          let p = length first in
          let all : p ≡ length m.parts = sym (parts_count (input_of config.inputs.items) 1 first) ∙ (before.ahead.count ∙ turned_count t m) in
          let mm : Machine = phased_rounds t (numbers_from 1 p) (next + 1) m in
          let kept = has_made t p (next + 1) m all in
          let now = was.made m time tick rounds before in
          let round_time = c.round_time-round_time.result in
          let at : m.rounds + (next + 1) ≡ mm.rounds = sym kept.rounds in
          let reached : run.turns.done + (c.args.index + next + 1) ≡ mm.rounds = omega (arith, kept.rounds, rounds) in
          let is_time : IsTime config mm round_time = record {
            program = kept.program ∙ time.program;
            time = c.round_time-round_time.ensures ∙ (λ i. round_time_of (sym (kept.tick ∙ tick) i) (reached i));
          } in
          let turned =
          c.make_turns.ensures.parts mm is_time
          (subst (λ (r : ℕ). PartsAhead config t r mm c.loop-next.ahead.turns.items c.loop-next.privates.items c.loop-next.kernel) at now) in
          let ended = c.finish_round-in-loop-next.ensures.parts (mm.rounds + 1) (with_turn_taken t mm) (record { program = is_time.program; time = is_time.time }) turned in
          let again : length c.make_turns.new.privates.items ≡ p = made_count ∙ was.count in
          let last : end_round (kernel_turns t (with_turn_taken t mm) (numbers_from 1 (length c.make_turns.new.privates.items)))
          ≡ phased_rounds t (numbers_from 1 p) ((next + 1) + 1) m =
          ap (λ (q : ℕ). end_round (kernel_turns t (with_turn_taken t mm) (numbers_from 1 q))) again ∙ sym (one_more t p (next + 1) m all) in
          let far : mm.rounds + 1 ≡ m.rounds + ((next + 1) + 1) = omega (arith, kept.rounds) in
          subst (λ (r : ℕ). PartsAhead config t r (phased_rounds t (numbers_from 1 p) ((next + 1) + 1) m) c.make_turns.new.ahead.turns.items
          c.finish_round-in-loop-next.new.privates.items c.finish_round-in-loop-next.new.kernel) far
          (subst (λ (u : Machine). PartsAhead config t (mm.rounds + 1) u c.make_turns.new.ahead.turns.items c.finish_round-in-loop-next.new.privates.items
          c.finish_round-in-loop-next.new.kernel) last ended);
    }

pub returns : goal.returns
returns g c =
    let run = c.args.run.now in
    let config = run.turns.config.now in
    let t = run.turns.plan.turn.steps in
    let was = c.loop-next.invariant in
    let past = c.loop-next-test.false in
    let first = c.args.privates.now.items in
    let none : c.loop-next.ahead.later ≡ 0 = omega (arith, was.later, past) in
    let all : c.loop-next.next ≡ c.args.ahead.now.later = omega (arith, was.later, none) in
    record {
      made = λ m time tick rounds before.
          subst (λ (n : ℕ).
          PartsAhead config t (m.rounds + (n + 1)) (phased_rounds t (numbers_from 1 (length first)) (n + 1) m) c.loop-next.ahead.turns.items c.loop-next.privates.items
          c.loop-next.kernel) all (was.made m time tick rounds before);
      none = λ i. let few = was.ready.few i in omega (arith, few, none);
      ready =
          subst (λ (n : ℕ). IsReadyAhead g.C.Course.most n (length c.loop-next.privates.items) c.loop-next.ahead.turns.items c.loop-next.privates.items c.loop-next.kernel)
          none was.ready;
      count = was.count;
    }
