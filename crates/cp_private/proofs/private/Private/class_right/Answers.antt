use Rattle.std.proofs.Common.{rules, arith, ◌≡◌, ◌+◌, ◌+ℤ◌, pos, to_z, of_z, ◌∙◌}
use Rattle.std.specs.Int.{w32}
use Rattle.cp_model_program.specs.Layout.{natural}
use Rattle.cp_program.specs.Reaches.{cap_place}
use Rattle.cp_private.proofs.private.Private.class_right.Goals as goal

pub returns-clause-place : goal.returns-clause-place
returns-clause-place c =
    λ input.
    let place = c.args.self.now.memory.component + c.args.at in
    let reported : cap_place place ≡ c.member-place.result = omega (arith, c.member-place.ensures.place, c.member-place.ensures.small) in
    let whole : to_z w32 (of_z w32 c.word.result) ≡ c.word.result = search rules in
    let value = whole ∙ c.word.ensures input place reported in
    c.displace.ensures.place ∙ λ i. natural (pos (c.member-place.ensures.place i) +ℤ value i)
