use Rattle.std.specs.Prelude.{refl}
use Rattle.cp_model.proofs.RoundCount.{kernel_turn_count, private_turn_count, wake_count}
use Rattle.cp_model.proofs.law.count.Goals as goal

pub returns : goal.returns
returns c = record {
  wake = wake_count;
  private_turn = λ setup t p s. private_turn_count setup t s p;
  kernel_turn = λ setup t p s. kernel_turn_count setup t s p;
  own_parts = λ setup t s. refl;
}
