use Rattle.std.proofs.Common.{ap, refl, subst}
use Rattle.cp_model.proofs.Results.{if_ok}
use Rattle.cp_model_machine.specs.Machines as plain
use Rattle.cp_program.specs.View as program_view
use Rattle.cp_model_program.specs.IsProgramFor.{IsProgramFor}
use Rattle.cp_frontend.specs.Cutting.{AreInputs}
use Rattle.cp_frontend.specs.Inputs.{inputs_of}
use Rattle.cp_execute_start.specs.Starts.{setup_of}
use Rattle.cp_execute_start.proofs.Inputs.{have_inputs}
use Rattle.cp_execute_start.proofs.starting.machine_at_start.Goals as goal

pub returns-clause-state : goal.returns-clause-state
returns-clause-state c =
    if_ok c.new.result
    (λ machine started t is.
    let setup = setup_of t (inputs_of c.args.inputs.now) c.args.tick.rounds in
    let program = program_view.program c.args.program in
    let represents : IsProgramFor program setup = is setup refl in
    let all = c.in_ok-inputs.inputs.items in
    let are = subst (λ n. AreInputs setup.inputs n all) c.processes.ensures c.in_ok-inputs.ensures in
    started setup represents refl (have_inputs program setup all are))
    c.new.ensures.state

pub returns-clause-rounds : goal.returns-clause-rounds
returns-clause-rounds c = if_ok c.new.result (λ machine start. ap (λ (m : plain.Machine). m.rounds) start) c.new.ensures.start
