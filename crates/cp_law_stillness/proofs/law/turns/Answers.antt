use Rattle.cp_law_stillness.proofs.Resting.{has_no_step, is_idle}
use Rattle.cp_law_stillness.proofs.law.turns.Goals as goal

pub returns : goal.returns
returns c = record {
  kind = λ setup s p still there. has_no_step setup s still p there;
  turns = λ setup s p still there. is_idle setup s still p there;
}
