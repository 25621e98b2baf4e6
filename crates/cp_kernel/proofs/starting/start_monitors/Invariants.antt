use Rattle.std.proofs.Common.{◌≡◌, ◌≤◌, length, drop}
use Rattle.cp_model_machine.specs.Machines as plain
use Rattle.cp_program.specs.View as view
use Rattle.cp_kernel.proofs.starting.start_monitors.Given as goal

-- The iterations that are left lead to the same words as all of them.
abbrev pub invariant-loop-i : goal.invariant-loop-i
invariant-loop-i l =
    let ms = (view.program l.program).monitors in
    record {
      below : l.i ≤ length ms;
      length : length l.words ≡ length l.fn.words;
      words : plain.first_shared (drop l.i ms) l.words ≡ plain.first_shared ms l.fn.words;
    }
