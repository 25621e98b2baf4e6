use Rattle.std.proofs.Common.{rules, ◌≡◌, true, to_z, of_z, ap}
use Rattle.std.specs.Int.{w32}
use Rattle.cp_model.specs.Places.{within}
use Rattle.cp_model_machine.specs.PrivateStates.{go_to, private_outcome}
use Rattle.cp_private.proofs.private.Private.set_within.Goals as goal

pub returns-clause-step : goal.returns-clause-step
returns-clause-step c =
    let to = c.args.assignment.now in
    let inside : within to.bounds.low to.bounds.high c.args.n ≡ true = search rules in
    let whole : to_z w32 (of_z w32 c.args.n) ≡ c.args.n = search rules in
    λ input place is.
    let written = c.set_word.ensures.step input place is in
    rw inside (ap (λ o. private_outcome (go_to to.next o)) (rw whole at written))
