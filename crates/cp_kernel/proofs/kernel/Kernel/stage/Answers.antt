use Rattle.std.proofs.Common.{rules, ◌≡◌, ◌≤◌, ◌<◌, ◌-◌, length, slice_index_or, sym, arith}
use Rattle.cp_kernel.proofs.Places.{stage_at, stage_past}
use Rattle.cp_kernel.proofs.kernel.Kernel.stage.Goals as goal

pub returns-in-Some : goal.returns-in-Some
returns-in-Some c =
    let gs = c.args.self.now.stages.items in
    let g = c.in-Some.stage.now in
    let below : c.args.p - 1 < length gs = search rules in
    let is : g ≡ slice_index_or gs (c.args.p - 1) g = search rules in
    sym (stage_at gs c.args.p g (omega arith) below is)

pub returns-in-None : goal.returns-in-None
returns-in-None c =
    let gs = c.args.self.now.stages.items in
    let past : length gs ≤ c.args.p - 1 = search rules in
    sym (stage_past gs c.args.p past)
