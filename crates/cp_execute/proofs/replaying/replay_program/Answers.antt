use Rattle.std.proofs.Common.{◌∙◌, refl, subst, sym}
use Rattle.cp_model_machine.specs.InState.{IsIn}
use Rattle.cp_model_machine.proofs.MachineStarts.{start_calm}
use Rattle.cp_model.specs.Declarations.{globals}
use Rattle.cp_model.specs.Orders.{replay}
use Rattle.cp_model.specs.Start.{start}
use Rattle.cp_model.specs.View as view
use Rattle.cp_model.proofs.Results.{if_ok}
use Rattle.cp_base_schedule.specs.Reading.{AllWithin}
use Rattle.cp_base_schedule.specs.Rounds.{rounds_of}
use Rattle.cp_program.specs.View as program_view
use Rattle.cp_model_program.specs.IsProgramFor.{IsProgramFor}
use Rattle.cp_rounds.specs.Views.{machine_of}
use Rattle.cp_rounds.proofs.InStates.{process_count_is}
use Rattle.cp_frontend.specs.Inputs.{inputs_of}
use Rattle.cp_execute_start.specs.Starts.{setup_of}
use Rattle.cp_execute.specs.Replayed.{timed}
use Rattle.cp_execute.proofs.Replays.{replay_calm}
use Rattle.cp_execute.proofs.Reported.{lent, reported}
use Rattle.cp_execute.proofs.replaying.replay_program.Goals as goal

pub replay_machine-requires-clause-within : goal.replay_machine-requires-clause-within
replay_machine-requires-clause-within c =
    let t = view.tree c.args.tree.now in
    let setup = setup_of t (inputs_of c.args.inputs.now) c.args.replay.now.tick.rounds in
    let program = program_view.program c.args.program in
    let represents : IsProgramFor program setup = c.requires.program setup refl in
    let machine = c.in_ok-machine.machine in
    let I : IsIn (machine_of machine) setup (start setup) = c.in_ok-machine.ensures.state t c.requires.program in
    let count = represents.process_rows ∙ sym (process_count_is machine setup (start setup) I) in
    subst (λ n. AllWithin n (rounds_of c.args.orders.now)) count c.requires.within

pub returns : goal.returns
returns c =
    if_ok c.replay_machine.result
    (λ bytes done.
    let how = c.args.replay.now in
    let t = view.tree c.args.tree.now in
    let setup = setup_of t (inputs_of c.args.inputs.now) how.tick.rounds in
    let machine = c.replay_machine.new.machine in
    let begun : IsIn (machine_of c.in_ok-machine.machine) setup (start setup) = c.in_ok-machine.ensures.state t c.requires.program in
    let represent = lent (globals setup.tree) c.args.tree.now _ c.in_ok-machine.machine machine c.requires.tables c.in_ok-machine.ensures.tables done.1 in
    let rounds = timed how.turn.steps (rounds_of c.args.orders.now) in
    let s = replay setup (start setup) rounds in
    let I : IsIn (machine_of machine) setup s = done.0 setup (start setup) begun in
    reported how.chains machine.tables.now (machine_of machine) setup c.args.tree.now s bytes.items
    c.reports.ensures.read c.waits.ensures.report I (replay_calm setup rounds (start setup) (start_calm setup)) refl represent done.2)
    c.replay_machine.ensures
