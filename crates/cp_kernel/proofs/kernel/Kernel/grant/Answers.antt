use Rattle.std.proofs.Common.{rules, ◌≡◌, ◌≤◌, ◌<◌, ◌-◌, List, length, map, slice_index_or, refl, ap, ◌∙◌, arith}
use Rattle.std.specs.Prelude.{remove}
use Rattle.cp_model.specs.States as model
use Rattle.cp_private.specs.States as states
use Rattle.cp_private.specs.declared.kernel_view.Gate.{Gate}
use Rattle.cp_kernel.specs.KernelOf.{kernel_of}
use Rattle.cp_kernel.proofs.Places.{first_and_rest, gate_at, gates_same, gates_set, nothing}
use Rattle.cp_kernel.proofs.kernel.Kernel.grant.Goals as goal

pub returns-then-is_empty-clause-step : goal.returns-then-is_empty-clause-step
returns-then-is_empty-clause-step c =
    let k = c.args.self.now in
    let m = c.args.m in
    let g = c.in_ok-gate.gate.now in
    let below : m - 1 < length k.gates.items = search rules in
    let is : g ≡ slice_index_or k.gates.items (m - 1) g = search rules in
    let there = gate_at k.gates.items m g (omega arith) below is in
    let zero : length g.askers.items ≡ 0 = search rules in
    let none = nothing g.askers.items zero in
    let same = gates_same k.gates.items (m - 1) g is in (
      ap (λ (x : model.Gate). x.askers) there ∙ none,
      rw c.index.ensures (ap (λ (gs : List Gate). record (kernel_of k) { gates = map states.gate gs }) same),
    )

pub returns-clause-step : goal.returns-clause-step
returns-clause-step c =
    let k = c.args.self.now in
    let m = c.args.m in
    let g = c.in_ok-gate.gate.now in
    let below : m - 1 < length k.gates.items = search rules in
    let is : g ≡ slice_index_or k.gates.items (m - 1) g = search rules in
    let there = gate_at k.gates.items m g (omega arith) below is in
    let some : 1 ≤ length g.askers.items = search rules in
    let first = first_and_rest g.askers.items c.remove-r.result c.remove-r.result some c.remove-r.ensures.value in (
      remove g.askers.items 0,
      ap (λ (x : model.Gate). x.askers) there ∙ first,
      rw c.index.ensures (gates_set (kernel_of k) k.gates.items m _ _ _ refl c.remove-r.ensures.items),
    )
