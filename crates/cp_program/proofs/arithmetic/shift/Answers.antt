use Rattle.std.proofs.Common.{◌≡◌, ◌+ℤ◌, ◌∙◌, arith}
use Rattle.std.specs.Prelude.{FitsSigned}
use Rattle.std.specs.Int.{w32, w64}
use Rattle.std.proofs.lemmas.Int.{ints, to_z-of_z}
use Rattle.cp_model.specs.Places.{within}
use Rattle.cp_model.specs.declared.state.Fault.TheVariants as fault
use Rattle.cp_model_program.specs.Functions.{unless}
use Rattle.cp_program.proofs.Wide.{bounds_wide, wide, widened}
use Rattle.cp_program.proofs.arithmetic.shift.Goals as goal

pub returns : goal.returns
returns c =
    let a = c.args.n in
    let b = c.args.by in
    let p : wide c.from.result ≡ a = widened a _ c.ranges.n c.from.type_inv c.from.ensures in
    let q : wide c.from-2.result ≡ b = widened b _ c.ranges.by c.from-2.type_inv c.from-2.ensures in
    let sum_fits : FitsSigned w64 (a +ℤ b) = record { sfits = Prim.grind (arith, ints, c.ranges.n.sfits, c.ranges.by.sfits) } in
    let sum : wide (wide c.from.result +ℤ wide c.from-2.result) ≡ a +ℤ b = (λ i. wide (p i +ℤ q i)) ∙ to_z-of_z w64 (a +ℤ b) sum_fits in
    c.check_range.ensures
    ∙ bounds_wide (λ x y z. unless (within x y z) fault.Range z) c.args.low c.args.high (a +ℤ b) _ _ _
    (to_z-of_z w32 c.args.low c.ranges.low) (to_z-of_z w32 c.args.high c.ranges.high) sum
