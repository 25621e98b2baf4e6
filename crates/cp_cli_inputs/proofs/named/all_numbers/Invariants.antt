use Rattle.std.proofs.Common.{◌≡◌, [], drop}
use Rattle.cp_inspect.specs.Names.{names_of}
use Rattle.cp_cli_inputs.specs.Numbers.{numbers_after, texts_of}
use Rattle.cp_cli_inputs.proofs.named.all_numbers.Given as goal

abbrev pub invariant-loop-name : goal.invariant-loop-name
invariant-loop-name l =
    let processes = names_of l.component_table.processes.items in
    numbers_after l.numbers.items (texts_of (drop l.name-index l.names)) processes ≡ numbers_after [] (texts_of l.names) processes
