use Rattle.std.proofs.Common.{◌≡◌, ◌∙◌, ℕ, List}
use Rattle.cp_model_machine.specs.KernelSteps.{SchedulingState, stage_of}
use Rattle.cp_model_machine.specs.PrivateStates.{Activity, PrivateState}
use Rattle.cp_private.specs.States as views
use Rattle.cp_private.specs.States.{private_of}
use Rattle.cp_kernel.specs.KernelOf.{kernel_of}
use Rattle.cp_law_servers.specs.Servers.{is_done_at}
use Rattle.cp_search_states.proofs.verdicts.is_done.Goals as goal

pub returns : goal.returns
returns c = λ input.
    let own : PrivateState = private_of c.args.private.now input in
    let stages = (kernel_of c.args.kernel.now).stages in
    let number : c.number-number.result ≡ own.number = c.number-number.ensures.number input in
    let stage : views.stage c.stage.result ≡ stage_of stages c.number-number.result = c.stage.ensures in
    let activity : views.activity c.activity.result ≡ own.activity = c.activity.ensures input in
    c.is_done_at.ensures
    ∙ ((λ i. is_done_at c.args.servers.now c.number-number.result (stage i) (activity i))
    ∙ (λ i. is_done_at c.args.servers.now (number i) (stage_of stages (number i)) own.activity))
