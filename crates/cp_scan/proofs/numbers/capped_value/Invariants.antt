use Rattle.std.proofs.Common.{◌≡◌, ◌≤◌, drop}
use Rattle.cp_scan.proofs.Values.{capped_from}
use Rattle.cp_scan.proofs.numbers.capped_value.Given as goal

abbrev pub invariant-loop-b : goal.invariant-loop-b
invariant-loop-b l = record { so_far : capped_from l.value (drop l.b-index l.digits) ≡ capped_from 0 l.digits; small : l.value ≤ 32768 }
