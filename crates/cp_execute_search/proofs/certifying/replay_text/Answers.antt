use Rattle.std.proofs.Common.{◌∙◌, refl, subst, sym}
use Rattle.cp_model.specs.Start.{start}
use Rattle.cp_model.specs.View as view
use Rattle.cp_model.proofs.Results.{if_ok}
use Rattle.cp_model_machine.specs.InState.{IsIn}
use Rattle.cp_model_program.specs.IsProgramFor.{IsProgramFor}
use Rattle.cp_base_schedule.specs.Reading.{AllWithin}
use Rattle.cp_base_schedule.specs.Rounds.{rounds_of}
use Rattle.cp_program.specs.View as program_view
use Rattle.cp_rounds.specs.Views.{machine_of}
use Rattle.cp_rounds.proofs.InStates.{process_count_is}
use Rattle.cp_frontend.specs.Inputs.{inputs_of}
use Rattle.cp_execute_start.specs.Starts.{nothing_read, setup_of}
use Rattle.cp_execute_search.proofs.Certified.{order_leads}
use Rattle.cp_execute_search.proofs.certifying.replay_text.Goals as goal

pub replay_machine-requires-clause-within : goal.replay_machine-requires-clause-within
replay_machine-requires-clause-within c =
    let t = view.tree c.args.text.now.tree in
    let setup = setup_of t (inputs_of c.args.inputs.now) 1 in
    let represents : IsProgramFor (program_view.program c.args.compiled.program) setup = c.requires.program setup refl in
    let machine = c.in_ok-machine.machine in
    let I : IsIn (machine_of machine) setup (start setup) = c.in_ok-machine.ensures.state t c.requires.program in
    let count = c.processes.ensures ∙ (represents.process_rows ∙ sym (process_count_is machine setup (start setup) I)) in
    subst (λ n. AllWithin n (rounds_of c.in-Ok.orders)) count c.in-Ok.ensures.within

pub returns : goal.returns
returns c =
    let t = view.tree c.args.text.now.tree in
    let represents : IsProgramFor (program_view.program c.args.compiled.program) (setup_of t nothing_read 1) = c.requires.program (setup_of t nothing_read 1) refl in
    if_ok c.replay_machine.result
    (λ o reached. order_leads c.args.kind c.args.servers.now t (inputs_of c.args.inputs.now) c.args.order.now c.processes.result (rounds_of c.in-Ok.orders) c.in_ok-machine.machine o (c.processes.ensures ∙ represents.process_rows)
    c.in-Ok.ensures.ok (c.in_ok-machine.ensures.state t c.requires.program) reached)
    c.replay_machine.ensures
