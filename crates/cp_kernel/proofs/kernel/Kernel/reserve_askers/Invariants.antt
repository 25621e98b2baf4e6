use Rattle.std.proofs.Common.{◌≡◌, ◌<◌, ℕ, map}
use Rattle.std.specs.Prelude.{slice_index_or}
use Rattle.cp_private.specs.States as states
use Rattle.cp_private.specs.declared.kernel_view.Gate.{Gate}
use Rattle.cp_kernel.specs.KernelOf.{HasRoomToAsk}
use Rattle.cp_kernel.proofs.kernel.Kernel.reserve_askers.Given as goal

-- The gates so far have room, and all gates are the same as before.
abbrev pub invariant-loop-gate : goal.invariant-loop-gate
invariant-loop-gate l = record {
  same : map states.gate l.gate-items ≡ map states.gate l.fn.self.gates.items;
  room : (i : ℕ) (g : Gate) → i < l.gate-index → HasRoomToAsk l.count (slice_index_or l.gate-items i g);
}
