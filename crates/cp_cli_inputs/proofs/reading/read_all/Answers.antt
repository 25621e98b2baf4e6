use Rattle.std.proofs.Common.{rules, ◌≡◌, ◌≤◌, ◌++◌, ◌∷◌, [], Some, length, subst, sym}
use Rattle.cp_inspect.specs.Names.{names_of, process_named}
use Rattle.cp_cli_inputs.specs.Readings.{AreRead}
use Rattle.cp_frontend.specs.declared.inputs.ProcessInput.{ProcessInput}
use Rattle.cp_cli_inputs.proofs.Read.{all_read, read_more}
use Rattle.cp_cli_inputs.proofs.reading.read_all.Goals as goal

pub loop-input-preserved : goal.loop-input-preserved
loop-input-preserved g c =
    let processes = names_of c.args.component_table.now.processes.items in
    let input = c.in-Some.input in
    let process : process_named input.process.now processes ≡ Some c.in-Some-2.process = search rules in
    let within : length c.in_ok-bytes.bytes.items ≤ 1048576 = search rules in
    let one : ProcessInput = record { process = c.in-Some-2.process; bytes = c.in_ok-bytes.bytes } in
    let all : c.push.new.self.items ≡ c.loop-input.inputs.items ++ one ∷ [] = search rules in
    subst (AreRead (g.R.Read.remaining) processes (c.loop-input.yielded ++ input ∷ [])) (sym all)
    (read_more (g.R.Read.remaining) processes c.loop-input.yielded c.loop-input.inputs.items input one c.loop-input.invariant
    (record { process = process; bytes = all_read (g.R.Read.remaining input.reader) c.in_ok-bytes.bytes.items within c.in_ok-bytes.ensures.bytes; fit = c.in_ok-bytes.ensures.fit }))
