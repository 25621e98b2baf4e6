use Rattle.std.proofs.Common.{rules, ◌≡◌, ◌+◌, ◌*◌, ℕ, [], length, vec_len, ap, arith}
use Rattle.cp_rounds.proofs.round.reserve_output.Goals as goal

pub returns-clause-room : goal.returns-clause-room
returns-clause-room c = λ v there.
    let room = c.in_ok-reserve_bytes.ensures.room v there in
    let written = ap length (c.output.ensures []) in
    let steps = c.steps.ensures.steps in
    let t = c.args.turn.steps in
    let both : 22 * c.steps.result ≡ 11 * t + 11 * t = omega (arith, steps) in
    let rounds = ap (λ (n : ℕ). c.args.rounds * n) both in
    let all : length c.reserve_round.new.self.output.items ≡ vec_len c.reserve_round.new.self.output = search rules in
    omega (arith, room, written, rounds, all)
