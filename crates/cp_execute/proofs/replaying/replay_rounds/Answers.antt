use Rattle.std.proofs.Common.{rules, ◌≡◌, ◌+◌, ◌≤◌, ℕ, suc, List, Some, None, length, take, take_all, sym, subst, arith}
use Rattle.std.specs.Prelude.{slice_get}
use Rattle.cp_model.specs.Rounds.{Event}
use Rattle.cp_base_schedule.specs.Events.{events_of}
use Rattle.cp_base_schedule.specs.Rounds.{rounds_of}
use Rattle.cp_rounds.proofs.After.{text_kept_more}
use Rattle.cp_execute.specs.Replayed.{MakesReplays}
use Rattle.cp_execute.proofs.Replays.{none_past, one_more}
use Rattle.cp_execute.proofs.replaying.replay_rounds.Goals as goal
use Rattle.cp_execute.proofs.replaying.replay_rounds.Goals.{in-Some+in_ok-replay, in_default}

pub loop-k-preserved : goal.loop-k-preserved
loop-k-preserved c =
    let t = c.args.turn.steps in
    let old = c.args.machine.now in
    let rounds = rounds_of c.args.orders.now in
    let k = c.loop-k.k in
    let next : k + 1 ≡ suc k = Prim.omega arith in
    elim c.match-round.branch [
      | in-Some+in_ok-replay w ↦
          let events = events_of w.in-Some.events.now in
          let at : slice_get rounds k ≡ Some events = search rules in
          let made = one_more t k rounds events old c.loop-k.machine w.replay.new.self at c.loop-k.invariant.made w.in_ok-replay.ensures.state in
          rw w.machine-is (record {
            made = subst (λ (n : ℕ). MakesReplays t (take n rounds) old w.replay.new.self) (sym next) made;
            count = search rules;
            processes = search rules;
            text = text_kept_more old c.loop-k.machine w.replay.new.self c.loop-k.invariant.text w.in_ok-replay.ensures.text;
          })
      | in_default w ↦
          let none : slice_get rounds k ≡ None = search rules in
          let below : suc k ≤ length rounds = search rules in
          absurd (none_past k rounds below none)
    ]

pub returns-clause-state : goal.returns-clause-state
returns-clause-state c =
    let rounds = rounds_of c.args.orders.now in
    let all : length rounds ≤ c.loop-k.k = search rules in
    subst (λ (rs : List (List Event)). MakesReplays c.args.turn.steps rs c.args.machine.now c.loop-k.machine) (take_all c.loop-k.k rounds all) c.loop-k.invariant.made
