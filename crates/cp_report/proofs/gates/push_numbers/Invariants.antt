use Rattle.std.proofs.Common.{◌≡◌, ◌++◌, drop}
use Rattle.std.specs.Prelude.{flat_map}
use Rattle.cp_report.specs.Lines.{number_text}
use Rattle.cp_report.proofs.gates.push_numbers.Given as goal

abbrev pub invariant-loop-number : goal.invariant-loop-number
invariant-loop-number l = l.out.items ++ flat_map number_text (drop l.number-index l.numbers) ≡ l.fn.out.items ++ flat_map number_text l.numbers
