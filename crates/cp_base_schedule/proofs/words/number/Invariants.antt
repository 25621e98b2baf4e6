use Rattle.std.proofs.Common.{◌≡◌, drop}
use Rattle.cp_model.specs.OrderText.{number_from}
use Rattle.cp_base_schedule.proofs.words.number.Given as goal

abbrev pub invariant-loop-byte : goal.invariant-loop-byte
invariant-loop-byte l = number_from l.value (drop l.byte-index l.digits) ≡ number_from 0 l.digits
