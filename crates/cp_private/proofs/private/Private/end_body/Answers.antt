use Rattle.std.proofs.Common.{arith, ◌≡◌, ◌-◌, ap, ◌∙◌}
use Rattle.cp_model_machine.specs.Calling.{leave}
use Rattle.cp_private.specs.States.{frame, frames_in, join}
use Rattle.cp_private.proofs.private.Private.end_body.Goals as goal

pub returns-clause-step : goal.returns-clause-step
returns-clause-step c =
    let input = c.args.outside.now.input.now in
    let shared = c.args.shared.now in
    let o = join c.args.self.now input shared in
    let f = frame c.in-Some.frame in
    let fs = frames_in c.in-Some.ensures.0 c.args.self.now.frames.items in
    let below : c.args.self.now.depth - 1 ≡ c.in-Some.ensures.0 = omega (arith, c.in-Some.ensures.1) in
    let left = c.return_to.ensures.step input shared ∙ ap (λ n. leave o f (frames_in n c.args.self.now.frames.items)) below in
    rw c.in-Some.ensures.2 (λ i. (left i, c.leaves.ensures i))
