use Rattle.std.proofs.Common.{◌∙◌, ap, arith}
use Rattle.cp_model_machine.specs.Machines as plain
use Rattle.cp_model.specs.States.{numbers_from}
use Rattle.cp_rounds.specs.Views.{machine_of, processes_of}
use Rattle.cp_execute_observe.proofs.RoundsMade.{round_count}
use Rattle.cp_execute_observe.proofs.rounds.trace_round.Goals as goal

pub returns-clause-count : goal.returns-clause-count
returns-clause-count g c =
    let old = c.args.machine.now in
    let ps = numbers_from 1 (processes_of old) in
    let t = c.args.plan.now.turn.steps in
    let count = ap (λ (m : plain.Machine). m.rounds) c.in_ok-round.ensures.made ∙ round_count t ps (machine_of old) in
    Prim.omega (arith, count)
