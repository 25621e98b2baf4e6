use Rattle.std.proofs.Common.{◌++◌, sym, ap, ◌∙◌}
use Rattle.std.proofs.lemmas.Result.{on_ok_weaker}
use Rattle.cp_model_machine.specs.KernelSteps.{stage_of}
use Rattle.cp_rounds.specs.ProcessStates.{activity_at}
use Rattle.cp_inspect.specs.Statuses.{state_text}
use Rattle.cp_report.specs.Subjects.{machine_in}
use Rattle.cp_report.proofs.StatesReported.{stage_reported}
use Rattle.cp_report.proofs.subject.Subject.push_status.Goals as goal

pub returns : goal.returns
returns c =
    on_ok_weaker c.push_state.result
    (λ reported setup of.
    let m = machine_in c.args.self in
    let p = c.args.number in
    let out = c.args.out.now.items in
    reported setup of.0 of.1
    ∙ ((λ i. out ++ state_text setup (c.program-program.ensures i) (c.state-state.ensures.part i))
    ∙ sym (ap (λ t. out ++ t) (stage_reported setup m.program (stage_of m.kernel.stages p) (activity_at m p)))))
    c.push_state.ensures
