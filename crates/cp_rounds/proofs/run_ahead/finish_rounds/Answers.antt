use Rattle.std.proofs.Common.{◌≡◌, ◌+◌, ℕ, length, sym, ap, subst, ◌∙◌, arith}
use Rattle.cp_model_machine.specs.Machines.{Machine, phased_rounds}
use Rattle.cp_model.specs.States.{numbers_from}
use Rattle.cp_rounds_handoff.specs.Inputs.{input_of}
use Rattle.cp_rounds_handoff.specs.Turned.{round_time_of, with_turn_taken}
use Rattle.cp_rounds.specs.Ahead.{IsTime, PartsAhead}
use Rattle.cp_rounds.proofs.AheadPasses.{has_made}
use Rattle.cp_rounds.proofs.Made.{parts_count}
use Rattle.cp_rounds.proofs.Rounds.{rounds_after, turned_count}
use Rattle.cp_rounds.proofs.run_ahead.finish_rounds.Goals as goal

pub returns-clause-made : goal.returns-clause-made
returns-clause-made g c = λ m program tick rounds before.
    let run = c.args.run.now in
    let config = run.turns.config.now in
    let t = run.turns.plan.turn.steps in
    let ys = c.args.privates.now.items in
    let n = c.pass_rounds-passed.result in
    let left = c.pass_rounds-passed.new.ahead in
    let last = c.finish_one_by_one.new in
    let numbers = numbers_from 1 (length ys) in
    let all : length ys ≡ length m.parts = sym (parts_count (input_of config.inputs.items) 1 ys) ∙ (before.ahead.count ∙ turned_count t m) in
    let mm : Machine = phased_rounds t numbers n m in
    let kept = has_made t (length ys) n m all in
    let passed : m.rounds + (n + 1) ≡ mm.rounds + 1 = (let made = kept.rounds in omega (arith, made)) in
    let first =
    subst (λ (r : ℕ). PartsAhead config t r (with_turn_taken t mm) left.turns.items ys c.args.kernel.now) passed (c.pass_rounds-passed.ensures.parts m before) in
    let reached : run.turns.done + (c.args.index + n) ≡ mm.rounds = (let made = kept.rounds in omega (arith, made, rounds)) in
    let time : IsTime config mm c.round_time-round_time.result = record {
      program = kept.program ∙ program;
      time = c.round_time-round_time.ensures ∙ (λ i. round_time_of (sym (kept.tick ∙ tick) i) (reached i));
    } in
    let made = c.finish_one_by_one.ensures.made mm time (kept.tick ∙ tick) (sym reached) first in
    let later = c.pass_rounds-passed.ensures.later in
    let count : n + (left.later + 1) ≡ c.args.ahead.now.later + 1 = omega (arith, later) in
    let far : mm.rounds + (left.later + 1) ≡ m.rounds + (c.args.ahead.now.later + 1) = (let made = kept.rounds in omega (arith, made, later)) in
    let whole : phased_rounds t numbers (left.later + 1) mm ≡ phased_rounds t numbers (c.args.ahead.now.later + 1) m =
    sym (rounds_after t n (left.later + 1) numbers m) ∙ ap (λ (q : ℕ). phased_rounds t numbers q m) count in
    subst (λ (r : ℕ). PartsAhead config t r (phased_rounds t numbers (c.args.ahead.now.later + 1) m) last.ahead.turns.items last.privates.items last.kernel) far
    (subst (λ (u : Machine). PartsAhead config t (mm.rounds + (left.later + 1)) u last.ahead.turns.items last.privates.items last.kernel) whole made)
