use Rattle.std.proofs.Common.{rules, arith, ◌≡◌, ◌+◌, to_z, of_z, ap, ◌∙◌}
use Rattle.std.specs.Int.{w32}
use Rattle.cp_model_machine.specs.Passing as plain
use Rattle.cp_program.specs.Reaches.{cap_place}
use Rattle.cp_private.specs.States.{join}
use Rattle.cp_private.proofs.private.Private.right_word.Goals as goal

pub returns-in-Class : goal.returns-in-Class
returns-in-Class c =
    λ input.
    let o = join c.args.self.now input c.args.shared.now in
    let whole : to_z w32 (of_z w32 c.distance_word.result) ≡ c.distance_word.result = search rules in
    rw c.in-Class.is (whole ∙ c.distance_word.ensures input ∙ ap (λ at. plain.distance_word o at c.args.to) c.member.ensures.place)

pub returns-in-ClassRight : goal.returns-in-ClassRight
returns-in-ClassRight c =
    λ input.
    let o = join c.args.self.now input c.args.shared.now in
    let whole : to_z w32 (of_z w32 c.distance_word-in-ClassRight.result) ≡ c.distance_word-in-ClassRight.result = search rules in
    rw c.in-ClassRight.is
    (whole ∙ c.distance_word-in-ClassRight.ensures input ∙ ap (λ at. plain.distance_word o at c.args.to) (c.class_right.ensures.place input))

pub returns-in-MonitorRight : goal.returns-in-MonitorRight
returns-in-MonitorRight c =
    λ input.
    let place = c.args.self.now.memory.component + c.in-MonitorRight.at in
    let reported : cap_place place ≡ c.member-in-MonitorRight.result =
    omega (arith, c.member-in-MonitorRight.ensures.place, c.member-in-MonitorRight.ensures.small) in
    let whole : to_z w32 (of_z w32 c.word.result) ≡ c.word.result = search rules in
    rw c.in-MonitorRight.is (whole ∙ c.word.ensures input place reported)
