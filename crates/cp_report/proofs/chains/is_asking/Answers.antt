use Rattle.std.proofs.Common.{◌∙◌, ap, sym}
use Rattle.cp_model_machine.specs.KernelSteps.{stage_of}
use Rattle.cp_rounds.specs.ProcessStates.{activity_at}
use Rattle.cp_rounds.specs.Views.{machine_of}
use Rattle.cp_inspect.specs.Statuses.{asks_for_gate}
use Rattle.cp_report.proofs.StatesReported.{asker_reported}
use Rattle.cp_report.proofs.chains.is_asking.Goals as goal

pub returns : goal.returns
returns c =
    let m = machine_of c.args.machine.now in
    c.asks.ensures ∙ (ap asks_for_gate c.state.ensures.part ∙ sym (asker_reported (stage_of m.kernel.stages c.args.p) (activity_at m c.args.p)))
