use Rattle.std.proofs.Common.{rules, ◌≡◌, ◌<◌, ◌-◌, length, slice_index_or, refl, ap, sym, arith}
use Rattle.cp_model.specs.States as model
use Rattle.cp_kernel.specs.KernelOf.{kernel_of}
use Rattle.cp_kernel.proofs.Places.{gate_at, gates_set}
use Rattle.cp_kernel.proofs.kernel.Kernel.hold.Goals as goal

pub returns-in-Some-clause-step : goal.returns-in-Some-clause-step
returns-in-Some-clause-step c =
    let k = c.args.self.now in
    let m = c.args.m in
    let g = c.in-Some.gate.now in
    let below : m - 1 < length k.gates.items = search rules in
    let is : g ≡ slice_index_or k.gates.items (m - 1) g = search rules in
    let askers = ap (λ (x : model.Gate). x.askers) (sym (gate_at k.gates.items m g (omega arith) below is)) in
    rw c.index.ensures (gates_set (kernel_of k) k.gates.items m _ _ _ refl askers)
