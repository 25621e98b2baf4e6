use Rattle.std.proofs.Common.{subst}
use Rattle.cp_frontend.specs.Cutting.{AreInputs}
use Rattle.cp_frontend.specs.Inputs.{inputs_of}
use Rattle.cp_execute_search.proofs.Fine.{fine_in_text}
use Rattle.cp_execute_search.proofs.seeing.see.Goals as goal

pub returns : goal.returns
returns g c saw t is =
    let inputs = inputs_of c.args.inputs.now in
    let all = c.in_ok-inputs.inputs.items in
    let are = subst (λ n. AreInputs inputs n all) c.processes.ensures c.in_ok-inputs.ensures in
    let fine = c.stop_of.ensures saw.all (c.in_ok-stuck.ensures saw.stuck) (c.in_ok-fault.ensures saw.fault) in
    fine_in_text c.args.servers.now c.args.program.now t inputs all is are ((rw c.deref.ensures.value at c.in_ok-explored.ensures) fine)
