use Rattle.std.proofs.Common.{refl}
use Rattle.cp_model_machine.specs.InState.{IsIn}
use Rattle.cp_model_machine.proofs.MachineStarts.{run_calm, start_calm}
use Rattle.cp_model.specs.Declarations.{globals}
use Rattle.cp_model.specs.Rounds as meaning
use Rattle.cp_model.specs.Start.{start}
use Rattle.cp_model.specs.View as view
use Rattle.cp_model.proofs.Results.{if_ok}
use Rattle.cp_rounds.specs.Views.{machine_of}
use Rattle.cp_frontend.specs.Inputs.{inputs_of}
use Rattle.cp_execute_start.specs.Starts.{setup_of}
use Rattle.cp_execute.proofs.Reported.{lent, reported}
use Rattle.cp_execute.proofs.running.run_program.Goals as goal

pub returns-clause-report : goal.returns-clause-report
returns-clause-report g c =
    if_ok c.run_machine.result
    (λ bytes done text program tables.
    let run = c.args.run.now in
    let t = view.tree text in
    let setup = setup_of t (inputs_of c.args.inputs.now) run.tick.rounds in
    let machine = c.run_machine.new.machine in
    let begun : IsIn (machine_of c.in_ok-machine.machine) setup (start setup) = c.in_ok-machine.ensures.state t program in
    let represent = lent (globals setup.tree) text _ c.in_ok-machine.machine machine tables c.in_ok-machine.ensures.tables c.run_machine.ensures.text in
    let s = meaning.run setup run.plan.turn.steps run.rounds (start setup) in
    let I : IsIn (machine_of machine) setup s = done.0 setup (start setup) begun in
    reported run.chains machine.tables.now (machine_of machine) setup text s bytes.items
    c.reports.ensures.read c.waits.ensures.report I (run_calm setup run.plan.turn.steps run.rounds (start setup) (start_calm setup)) refl represent done.1)
    c.run_machine.ensures.report
