use Rattle.std.proofs.Common.{◌≡◌, ◌++◌, drop}
use Rattle.std.specs.Prelude.{flat_map}
use Rattle.cp_model.specs.Report.{escape}
use Rattle.cp_inspect.proofs.text.push_all_escaped.Given as goal

abbrev pub invariant-loop-byte : goal.invariant-loop-byte
invariant-loop-byte l = l.out.items ++ flat_map escape (drop l.byte-index l.bytes) ≡ l.fn.out.items ++ flat_map escape l.bytes
