use Rattle.std.proofs.Common.{ℕ, sym, subst, arith}
use Rattle.cp_rounds.specs.Ahead.{IsReadyAhead}
use Rattle.cp_rounds.proofs.AheadPassed.{ready_passed, rounds_passed}
use Rattle.cp_rounds.proofs.ahead_turns.pass_rounds.Goals as goal

pub returns-clause-parts : goal.returns-clause-parts
returns-clause-parts g c = λ m was.
    let run = c.args.run.now in
    let passed = c.of_all-rounds.ensures in
    rounds_passed run.turns.config.now run.turns.plan.turn.steps c.of_all-rounds.result m c.args.ahead.now.turns.items c.pass.new.self.turns.items c.args.privates.now.items
    c.args.kernel.now c.requires.room.stages (λ i within. passed.all i (omega (arith, within, c.requires.room.turns))) c.pass.ensures.less was

pub returns-clause-room : goal.returns-clause-room
returns-clause-room g c =
    let most = g.C.Course.most in
    let ms = c.pass.new.self.turns.items in
    let k = c.args.kernel.now in
    subst (λ (n : ℕ). IsReadyAhead most n 0 ms c.args.privates.now.items k) (sym c.pass.ensures.later)
    (ready_passed most c.args.ahead.now.later c.of_all-rounds.result c.args.ahead.now.turns.items ms c.args.privates.now.items k c.pass.ensures.count
    c.pass.ensures.less c.requires.room)
