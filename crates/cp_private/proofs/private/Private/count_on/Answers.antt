use Rattle.std.proofs.Common.{rules, ◌≡◌, ◌+◌, false, to_z, of_z}
use Rattle.std.specs.Int.{w32}
use Rattle.cp_model.specs.Integers.{same_integer}
use Rattle.cp_model.specs.StatementSteps.{next_counter}
use Rattle.cp_model_program.specs.Starts.{word}
use Rattle.cp_private.proofs.private.Private.count_on.Goals as goal

pub returns-in-Some-clause-step : goal.returns-in-Some-clause-step
returns-in-Some-clause-step c =
    let temps = c.args.self.now.memory.temps.items in
    let t = c.args.self.now.memory.temp + c.args.counting.now.temp in
    let n = word temps t in
    let last = word temps (t + 1) in
    let apart : same_integer n last ≡ false = search rules in
    let next : to_z w32 (of_z w32 c.in-Some.n) ≡ next_counter c.args.counting.now.down n = search rules in
    let end : to_z w32 (of_z w32 c.temp_at-last.result) ≡ last = search rules in
    rw apart (rw (next, end) at c.count_to.ensures.step)
