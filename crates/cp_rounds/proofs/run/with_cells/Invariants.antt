use Rattle.std.proofs.Common.{◌+◌, ◌*◌, slice_get}
use Rattle.cp_program.specs.View as view
use Rattle.cp_rounds_handoff.specs.Inputs.{input_at}
use Rattle.cp_rounds_handoff.specs.Quiet.{needs_no_kernel}
use Rattle.cp_rounds_handoff.specs.Turned as plain
use Rattle.cp_rounds.specs.Runs.{name_of}
use Rattle.cp_rounds.proofs.run.with_cells.Given as goal

abbrev pub ghosts-with_worker_pool-C-Course : goal.ghosts-with_worker_pool-C-Course
ghosts-with_worker_pool-C-Course g a = record {
  without_kernel = needs_no_kernel (view.program a.rounds.now.config.now.program);
  turned = plain.take_turn (view.program a.rounds.now.config.now.program) a.rounds.now.plan.now.turn.steps;
  round_time = λ i. plain.round_time_of a.rounds.now.config.now.tick.rounds (a.rounds.now.done + i);
  input = input_at a.rounds.now.config.now.inputs.items;
  most = 11 * a.rounds.now.plan.now.turn.steps;
  cell = λ i. name_of (slice_get a.cells.now i);
}

abbrev pub ghosts-with_worker_pool-C-Sheets : goal.ghosts-with_worker_pool-C-Sheets
ghosts-with_worker_pool-C-Sheets g a = record { sheet = λ i. name_of (slice_get a.sheets.now i) }
