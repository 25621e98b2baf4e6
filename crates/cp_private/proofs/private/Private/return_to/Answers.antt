use Rattle.std.proofs.Common.{rules, ◌≡◌, to_z, of_z}
use Rattle.std.specs.Int.{w32}
use Rattle.cp_private.proofs.private.Private.return_to.Goals as goal

pub returns-in-Some-clause-step : goal.returns-in-Some-clause-step
returns-in-Some-clause-step c =
    let whole : to_z w32 (of_z w32 c.in-Some.value) ≡ c.in-Some.value = search rules in
    λ input shared. rw (c.in-Some.is) (rw whole at c.set_temp.ensures.step input shared)
