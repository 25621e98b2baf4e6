use Rattle.std.proofs.Common.{◌≡◌, slice_get}
use Rattle.cp_rules_body.proofs.diagnostics.Diagnostics.into_list.Given as goal

abbrev pub invariant-loop-violation : goal.invariant-loop-violation
invariant-loop-violation l = slice_get l.list.items 0 ≡ slice_get l.initial.list.items 0
