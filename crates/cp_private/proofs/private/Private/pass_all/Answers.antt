use Rattle.std.proofs.Common.{rules, ◌≡◌}
use Rattle.cp_private.specs.Calls.{passing_of}
use Rattle.cp_private.specs.States.{join, outside_of}
use Rattle.cp_model_machine.specs.Passing as plain
use Rattle.cp_program.specs.View as view
use Rattle.cp_private.proofs.private.Private.pass_all.Goals as goal

pub returns-in_err-pass_value-in-Value-clause-step : goal.returns-in_err-pass_value-in-Value-clause-step
returns-in_err-pass_value-in-Value-clause-step c =
    λ own.
    let w = outside_of c.args.outside.now own in
    let input = c.args.outside.now.input.now in
    let one : passing_of (join c.pass_value.new.self input c.pass_value.new.shared) c.pass_value.result
    ≡ plain.pass_one w c.args.destination.to c.args.destination.home (join c.loop-argument.self input c.loop-argument.shared) (view.argument c.in-Some.argument.now) =
    rw c.in-Value.is (c.pass_value.ensures.step own) in
    search rules

pub loop-argument-preserved-in_ok-pass_value-in-Value : goal.loop-argument-preserved-in_ok-pass_value-in-Value
loop-argument-preserved-in_ok-pass_value-in-Value c =
    record {
      step = λ own.
          let w = outside_of c.args.outside.now own in
          let input = c.args.outside.now.input.now in
          let one : passing_of (join c.pass_value.new.self input c.pass_value.new.shared) c.pass_value.result
          ≡ plain.pass_one w c.args.destination.to c.args.destination.home (join c.loop-argument.self input c.loop-argument.shared) (view.argument c.in-Some.argument.now) =
          rw c.in-Value.is (c.pass_value.ensures.step own) in
          search rules;
      kept = search rules;
    }
