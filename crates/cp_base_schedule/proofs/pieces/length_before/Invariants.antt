use Rattle.std.proofs.Common.{◌≡◌, drop, take}
use Rattle.cp_model.specs.OrderText.{split_at_byte}
use Rattle.cp_base_schedule.proofs.FirstPiece.{joined}
use Rattle.cp_base_schedule.proofs.pieces.length_before.Given as goal

abbrev pub invariant-loop-at : goal.invariant-loop-at
invariant-loop-at l = joined (take l.at l.bytes) (split_at_byte l.byte (drop l.at l.bytes)) ≡ split_at_byte l.byte l.bytes
