use Rattle.std.proofs.Common.{◌≡◌, ◌<◌, ◌+◌, ◌*◌, ℕ, suc, false, Some, length, slice_get, vec_len}
use Rattle.cp_kernel.specs.KernelOf.{HasRoomForAskers, HasRoomForBytes}
use Rattle.cp_private.specs.declared.private.Private.{Private}
use Rattle.cp_rounds_handoff.specs.Tasks.{HasRoom}
use Rattle.cp_rounds.specs.Runs.{AreSame}
use Rattle.cp_rounds.proofs.round.reserve_room.Given as goal

abbrev pub invariant-loop-i : goal.invariant-loop-i
invariant-loop-i l = record {
  same : AreSame l.fn.privates.items l.fn.kernel l.privates.items l.kernel;
  asking : HasRoomForAskers l.kernel (l.rounds * length l.privates.items);
  free : (j : ℕ) (x : Private) → j < l.i → slice_get l.privates.items j ≡ Some x → HasRoom (11 * l.turn.steps) false x;
  room : (j : ℕ) (x : Private) → j < l.i → slice_get l.privates.items j ≡ Some x
      → HasRoomForBytes l.kernel (suc j) (vec_len x.output + l.rounds * (11 * l.turn.steps + 11 * l.turn.steps));
}
