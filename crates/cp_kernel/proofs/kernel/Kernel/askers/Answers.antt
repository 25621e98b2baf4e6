use Rattle.std.proofs.Common.{rules, ◌≡◌, ◌≤◌, ◌<◌, ◌-◌, length, slice_index_or, ap, sym, ◌∙◌, arith}
use Rattle.cp_model.specs.States as model
use Rattle.cp_kernel.proofs.Places.{gate_at, gate_past}
use Rattle.cp_kernel.proofs.kernel.Kernel.askers.Goals as goal

pub returns-in-Some : goal.returns-in-Some
returns-in-Some c =
    let gs = c.args.self.now.gates.items in
    let g = c.in-Some.gate.now in
    let below : c.args.m - 1 < length gs = search rules in
    let is : g ≡ slice_index_or gs (c.args.m - 1) g = search rules in
    c.deref-in-Some.ensures.value ∙ ap (λ (x : model.Gate). x.askers) (sym (gate_at gs c.args.m g (omega arith) below is))

pub returns-in-None : goal.returns-in-None
returns-in-None c =
    let gs = c.args.self.now.gates.items in
    let past : length gs ≤ c.args.m - 1 = search rules in
    ap (λ (x : model.Gate). x.askers) (sym (gate_past gs c.args.m past))
