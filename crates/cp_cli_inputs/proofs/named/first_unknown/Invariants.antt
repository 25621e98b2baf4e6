use Rattle.std.proofs.Common.{◌≡◌, drop}
use Rattle.cp_inspect.specs.Names.{names_of}
use Rattle.cp_cli_inputs.specs.Numbers.{texts_of, unknown_in}
use Rattle.cp_cli_inputs.proofs.named.first_unknown.Given as goal

abbrev pub invariant-loop-name : goal.invariant-loop-name
invariant-loop-name l =
    let monitors = names_of l.component_table.monitors.items in
    let processes = names_of l.component_table.processes.items in
    unknown_in monitors processes (texts_of (drop l.name-index l.names)) ≡ unknown_in monitors processes (texts_of l.names)
