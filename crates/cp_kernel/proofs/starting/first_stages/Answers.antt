use Rattle.std.proofs.Common.{rules, ◌≡◌, slice_set, map, ap, ◌∙◌}
use Rattle.std.specs.Prelude.{replicate}
use Rattle.cp_private.specs.States as states
use Rattle.cp_private.specs.declared.kernel_view.SchedulingState.TheVariants as stage
use Rattle.cp_kernel.proofs.Starts.{first_begun}
use Rattle.cp_kernel.proofs.starting.first_stages.Goals as goal

pub returns-clause-stages : goal.returns-clause-stages
returns-clause-stages c =
    λ processes is.
    let all : c.in_ok-all.all.items ≡ replicate c.args.count stage.Unstarted = search rules in
    ap (λ gs. map states.stage (slice_set gs 0 stage.Begun)) all ∙ first_begun processes c.args.count is
