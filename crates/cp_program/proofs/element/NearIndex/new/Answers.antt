use Rattle.std.proofs.Common.{rules, ◌≡◌, ◌-ℤ◌, ap, ◌∙◌, to_z, of_z, w32}
use Rattle.cp_program.specs.Shifts.{added_by}
use Rattle.cp_program.proofs.element.NearIndex.new.Goals as goal

pub invariant_of-result-clause-shifted : goal.invariant_of-result-clause-shifted
invariant_of-result-clause-shifted c =
    let low = c.args.part.bounds.low in
    let added : c.in_ok-added.field-0 ≡ added_by c.args.addend = c.in_ok-added.ensures in
    let shift : c.in_ok-shift.shift ≡ c.in_ok-added.field-0 -ℤ low = search rules in
    let kept : to_z w32 (of_z w32 c.in_ok-shift.shift) ≡ c.in_ok-shift.shift = search rules in
    kept ∙ (shift ∙ ap (λ n. n -ℤ low) added)
