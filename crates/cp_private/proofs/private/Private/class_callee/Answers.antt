use Rattle.std.proofs.Common.{rules, arith, ◌≡◌, pos, of_z, ap, ◌∙◌}
use Rattle.std.specs.Prelude.{nat_eq, not}
use Rattle.std.specs.Int.{w32}
use Rattle.cp_model.specs.Integers.{same_integer}
use Rattle.cp_program.specs.Reaches.{cap_place}
use Rattle.cp_private.proofs.private.Private.class_callee.Goals as goal

pub returns : goal.returns
returns c =
    λ input.
    let reported : cap_place c.args.at ≡ c.args.at = omega (arith, c.ranges.at.fits) in
    let value = c.word.ensures input c.args.at reported in
    let zero : nat_eq (of_z w32 c.word.result) 0 ≡ same_integer c.word.result (pos 0) = search rules in
    λ i. record { component = c.args.at; is_set = not ((zero ∙ ap (λ n. same_integer n (pos 0)) value) i); gate = 0 }
