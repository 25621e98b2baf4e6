use Rattle.std.proofs.Common.{rules, ◌≡◌, ◌≤◌, ◌<◌, ◌-◌, ◌∙◌, Some, ap, length, slice_get, slice_index_or, sym}
use Rattle.cp_private.specs.declared.private.Private.{Private}
use Rattle.cp_rounds_handoff.proofs.Lists.{got_or}
use Rattle.cp_rounds.proofs.Made.{part_at, part_past}
use Rattle.cp_rounds.proofs.machine.Machine.private.Goals as goal

pub returns-in-Some : goal.returns-in-Some
returns-in-Some c =
    let xs = c.args.self.now.parts.privates.items in
    let held = c.in-Some.private.now in
    let x = c.private.result.now in
    let i = c.args.p - 1 in
    let below : i < length xs = search rules in
    let is : held ≡ slice_index_or xs i held = search rules in
    let here : slice_get xs i ≡ Some x = got_or xs i held below ∙ ap (λ (z : Private). Some z) (sym (c.private.ensures ∙ is)) in
    sym (part_at c.args.self.now.config.inputs.items i xs x here)

pub returns-in-None : goal.returns-in-None
returns-in-None c =
    let xs = c.args.self.now.parts.privates.items in
    let past : length xs ≤ c.args.p - 1 = search rules in
    sym (part_past c.args.self.now.config.inputs.items (c.args.p - 1) xs past)
