use Rattle.std.proofs.Common.{◌≤◌, ◌+◌, ◌*◌, length}
use Rattle.cp_model.specs.OrderText.{order_text}
use Rattle.cp_base_schedule.proofs.Added.{IsRead}
use Rattle.cp_base_schedule.proofs.reading.read_lines.Given as goal

abbrev pub invariant-loop-rest : goal.invariant-loop-rest
invariant-loop-rest l = record {
  read : IsRead l.processes l.at l.ends.items l.events.items l.rest (order_text l.processes l.text);
  place : l.at + 2 * length l.rest ≤ 2 * length l.text;
}

abbrev pub decreases-loop-rest : goal.decreases-loop-rest
decreases-loop-rest l = length l.rest
