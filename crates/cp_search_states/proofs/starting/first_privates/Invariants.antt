use Rattle.std.proofs.Common.{◌≡◌, length}
use Rattle.cp_program.specs.View as view
use Rattle.cp_search_states.specs.Verdicts.{AreFirst}
use Rattle.cp_search_states.proofs.starting.first_privates.Given as goal

abbrev pub invariant-loop-i : goal.invariant-loop-i
invariant-loop-i l = record {
  first : AreFirst (view.program l.program) l.privates.items;
  count : length l.privates.items ≡ l.i;
}
