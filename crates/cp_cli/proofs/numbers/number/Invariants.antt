use Rattle.std.proofs.Common.{◌≡◌, ◌≤◌, drop}
use Rattle.cp_cli.specs.Numbers.{number_from}
use Rattle.cp_cli.proofs.numbers.number.Given as goal

abbrev pub invariant-loop-byte : goal.invariant-loop-byte
invariant-loop-byte l = record {
  few : l.n ≤ l.most;
  so_far : number_from l.most l.n (drop l.byte-index l.text) ≡ number_from l.most 0 l.text;
}
