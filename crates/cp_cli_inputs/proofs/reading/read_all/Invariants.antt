use Rattle.cp_inspect.specs.Names.{names_of}
use Rattle.cp_cli_inputs.specs.Readings.{AreRead}
use Rattle.cp_cli_inputs.proofs.reading.read_all.Given as goal

abbrev pub invariant-loop-input : goal.invariant-loop-input
invariant-loop-input g l = AreRead (g.R.Read.remaining) (names_of l.component_table.processes.items) l.yielded l.inputs.items
