use Rattle.std.proofs.Common.{◌≡◌, ◌≤◌, ◌<◌, ℕ, true, Some, slice_get, length}
use Rattle.cp_private.specs.Resting.{is_idle}
use Rattle.cp_private.specs.declared.private.Private.{Private}
use Rattle.cp_rounds_handoff.proofs.handoff.HandoffQueue.put_all.Given as goal

abbrev pub invariant-loop-i : goal.invariant-loop-i
invariant-loop-i g l = record {
  count : length l.privates.items ≡ length l.fn.privates.items;
  left : (j : ℕ) (y : Private) → j < l.i → slice_get l.privates.items j ≡ Some y → is_idle l.round.round_time.wakes y ≡ true → slice_get l.fn.privates.items j ≡ Some y;
  rest : (j : ℕ) (y : Private) → l.i ≤ j → slice_get l.privates.items j ≡ Some y → slice_get l.fn.privates.items j ≡ Some y;
}
