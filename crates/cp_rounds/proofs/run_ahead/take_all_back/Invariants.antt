use Rattle.std.proofs.Common.{◌≡◌, ◌≢◌, ◌<◌, ℕ, suc, Some, length, slice_get}
use Rattle.cp_model_machine.specs.Ahead.{HasBegun}
use Rattle.cp_kernel.specs.KernelOf.{kernel_of}
use Rattle.cp_private.specs.declared.private.Private.{Private}
use Rattle.cp_rounds_handoff.specs.Tasks.{AreInPlace, AreMade, AreTaken}
use Rattle.cp_rounds.specs.Ahead.{turns_ahead}
use Rattle.cp_rounds.proofs.run_ahead.take_all_back.Given as goal

abbrev pub invariant-loop-i : goal.invariant-loop-i
invariant-loop-i g l = record {
  count : length l.privates.items ≡ length l.round.start.value.items;
  turns : length l.ahead.turns.items ≡ length l.privates.items;
  later : l.ahead.later ≡ l.fn.ahead.later;
  left : AreInPlace l.round.round_time.wakes l.i l.round.start.value.items l.privates.items;
  taken : (j : ℕ) (y : Private) → j < l.i → slice_get l.privates.items j ≡ Some y
      → AreTaken (AreMade g.C.Course.without_kernel g.C.Course.turned g.C.Course.round_time l.round.index (suc (turns_ahead l.ahead.turns.items j))) (g.C.Course.input j) g.C.Course.most
      l.round.start.value.items (suc j) y;
  few : (j : ℕ) → j < l.i → turns_ahead l.ahead.turns.items j < l.round.rounds;
  begun : (j : ℕ) → j < l.i → turns_ahead l.ahead.turns.items j ≢ 0 → HasBegun j (kernel_of l.kernel);
}
