use Rattle.std.proofs.Common.{rules, arith, ◌≡◌, ◌+◌, length, to_z, of_z, ap, ◌∙◌}
use Rattle.std.specs.Int.{w32}
use Rattle.cp_model_program.specs.Layout.{natural}
use Rattle.cp_model_machine.specs.Passing as plain
use Rattle.cp_program.specs.Reaches.{cap_place}
use Rattle.cp_program.specs.View as view
use Rattle.cp_private.specs.States.{join, outside_of}
use Rattle.cp_private.proofs.private.Private.callee.Goals as goal

pub returns-in-Class : goal.returns-in-Class
returns-in-Class c =
    λ input.
    let o = join c.args.self.now input c.args.shared.now in
    rw c.in-Class.is (c.class_callee.ensures input ∙ ap (plain.class_called o) c.member.ensures.place)

pub returns-in-ClassRight : goal.returns-in-ClassRight
returns-in-ClassRight c =
    λ input.
    let o = join c.args.self.now input c.args.shared.now in
    rw c.in-ClassRight.is (c.class_callee-in-ClassRight.ensures input ∙ ap (plain.class_called o) (c.class_right.ensures.place input))

pub returns-in-MonitorRight : goal.returns-in-MonitorRight
returns-in-MonitorRight c =
    λ input.
    let o = join c.args.self.now input c.args.shared.now in
    let w = outside_of c.args.outside.now (length c.args.self.now.memory.words.items) in
    let place = o.component + c.in-MonitorRight.at in
    let reported : cap_place place ≡ c.member-in-MonitorRight.result =
    omega (arith, c.member-in-MonitorRight.ensures.place, c.member-in-MonitorRight.ensures.small) in
    let whole : to_z w32 (of_z w32 c.word.result) ≡ c.word.result = search rules in
    let number = c.natural-monitor.ensures ∙ ap natural (whole ∙ c.word.ensures input place reported) in
    rw c.in-MonitorRight.is
    (c.monitor_callee-in-MonitorRight.ensures ∙ ap (plain.monitor_called (view.program c.args.program.now) w) number)
