use Rattle.std.proofs.Common.{rules, ◌≡◌, ◌++◌, ap}
use Rattle.cp_model_machine.specs.PrivateStates.{go_to}
use Rattle.cp_private.specs.States.{join}
use Rattle.cp_private.proofs.private.Private.write_out.Goals as goal

pub returns-clause-step : goal.returns-clause-step
returns-clause-step c =
    let old = c.args.self.now in
    let all : c.extend_from_slice-appended.new.self.items ≡ old.output.items ++ c.args.bytes.now = search rules in
    λ input shared. ap (λ out. go_to c.args.next (record (join old input shared) { output = out })) all
