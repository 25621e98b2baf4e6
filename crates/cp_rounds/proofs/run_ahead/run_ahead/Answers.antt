use Rattle.std.proofs.Common.{◌≡◌, ◌+◌, ℕ, suc, length, refl, subst, ◌∙◌, arith}
use Rattle.cp_model_machine.specs.Machines.{Machine, phased_rounds}
use Rattle.cp_model.specs.States.{numbers_from}
use Rattle.cp_rounds_handoff.specs.Turned.{with_turn_taken}
use Rattle.cp_rounds.specs.Ahead.{AreBack, PartsAhead}
use Rattle.cp_rounds.specs.MachineOf.{machine_with}
use Rattle.cp_rounds.specs.Made.{IsReadyFor}
use Rattle.cp_rounds.proofs.AheadPasses.{all_rounds_made}
use Rattle.cp_rounds.proofs.AheadTurns.{back_ahead, back_ready}
use Rattle.cp_rounds.proofs.run_ahead.run_ahead.Goals as goal

pub finish_rounds-computed-requires-clause-ready : goal.finish_rounds-computed-requires-clause-ready
finish_rounds-computed-requires-clause-ready g c κs within =
    let most = g.C.Course.most in
    let round = c.in-Ok-open_round.round in
    let xs = round.start.value.items in
    let ns = c.take_all_back.new.ahead.turns.items in
    let ys = c.take_all_back.new.privates.items in
    let k = c.open_round.new.kernel in
    let later = c.take_all_back.new.ahead.later in
    let some = c.requires.some in
    let rounds = c.in-Ok-open_round.ensures.rounds ∙ c.shares_of-shares.ensures in
    let count : round.rounds ≡ suc later = omega (arith, rounds, c.take_all_back.ensures.later, c.in-Ok.ensures.later, some) in
    let ready : IsReadyFor most (suc later) xs k =
    subst (λ (n : ℕ). IsReadyFor most n xs k) count c.in-Ok-open_round.ensures.opened.ready in
    let back =
    subst (λ (n : ℕ). AreBack g.C.Course.without_kernel g.C.Course.turned g.C.Course.round_time g.C.Course.input most round.index n xs ns ys k) count
    c.take_all_back.ensures.back in
    back_ready g.C.Course.without_kernel g.C.Course.turned g.C.Course.round_time g.C.Course.input most round.index later xs ns ys k ready back

pub returns-clause-made : goal.returns-clause-made
returns-clause-made g c = λ yes.
    let run = c.args.run.now in
    let config = run.turns.config.now in
    let t = run.turns.plan.turn.steps in
    let most = g.C.Course.most in
    let index = c.args.index in
    let rounds = run.turns.done + index in
    let before = c.args.parts.now in
    let round = c.in-Ok-open_round.round in
    let xs = round.start.value.items in
    let ns = c.take_all_back.new.ahead.turns.items in
    let ys = c.take_all_back.new.privates.items in
    let k = c.open_round.new.kernel in
    let later = c.take_all_back.new.ahead.later in
    let zs = c.finish_rounds-computed.new.privates.items in
    let ms = c.finish_rounds-computed.new.ahead.turns.items in
    let k2 = c.finish_rounds-computed.new.kernel in
    let opened = c.in-Ok-open_round.ensures.opened in
    let back =
    subst (λ (i : ℕ). AreBack g.C.Course.without_kernel g.C.Course.turned g.C.Course.round_time g.C.Course.input most i c.args.count xs ns ys k)
    c.in-Ok-open_round.ensures.index
    (subst (λ (n : ℕ). AreBack g.C.Course.without_kernel g.C.Course.turned g.C.Course.round_time g.C.Course.input most round.index n xs ns ys k)
    (c.in-Ok-open_round.ensures.rounds ∙ c.shares_of-shares.ensures) c.take_all_back.ensures.back) in
    let some = c.requires.some in
    let count : later + 1 ≡ c.args.count = omega (arith, c.take_all_back.ensures.later, c.in-Ok.ensures.later, some) in
    let m : Machine = machine_with config rounds xs k in
    let next : suc rounds ≡ rounds + 1 = omega arith in
    let first : PartsAhead config t (rounds + 1) (with_turn_taken t m) ns ys k =
    subst (λ (r : ℕ). PartsAhead config t r (with_turn_taken t m) ns ys k) next
    (back_ahead g.C.Course.without_kernel g.C.Course.turned g.C.Course.round_time g.C.Course.input most config t run.turns.done run.turns.course run.turns.times index
    c.args.count xs ns ys k (opened.same.numbers before.numbers) back) in
    let made = c.finish_rounds-computed.ensures.made m refl refl refl first in
    let last : PartsAhead config t (rounds + c.args.count) (phased_rounds t (numbers_from 1 (length xs)) c.args.count m) ms zs k2 =
    subst (λ (p : ℕ). PartsAhead config t (rounds + c.args.count) (phased_rounds t (numbers_from 1 p) c.args.count m) ms zs k2) back.count
    (subst (λ (n : ℕ). PartsAhead config t (rounds + n) (phased_rounds t (numbers_from 1 (length ys)) n m) ms zs k2) count made) in
    all_rounds_made config t rounds c.args.count before.privates.items before.kernel xs k ms zs k2 opened.same c.finish_rounds-computed.ensures.none last
