use Rattle.std.proofs.Common.{rules, arith, ◌≡◌, true, to_z, of_z, ap}
use Rattle.std.specs.Int.{w32}
use Rattle.cp_model.specs.Places.{within}
use Rattle.cp_model_machine.specs.PrivateStates.{NoEffect, go_to}
use Rattle.cp_private.proofs.private.Private.write_within.Goals as goal

pub returns-clause-step : goal.returns-clause-step
returns-clause-step c =
    let to = c.args.assignment.now in
    let n = c.args.n in
    let inside : within to.bounds.low to.bounds.high n ≡ true = search rules in
    let whole : to_z w32 (of_z w32 n) ≡ n = search rules in
    λ yes w input.
    let written = c.set_word.ensures.step input c.args.at (omega arith) in
    rw inside (ap (λ o. (go_to to.next o, NoEffect)) (rw whole at written))
