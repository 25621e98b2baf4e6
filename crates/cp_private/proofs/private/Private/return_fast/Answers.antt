use Rattle.std.proofs.Common.{arith, ◌≡◌, ◌-◌, List, ap, sym, ◌∙◌}
use Rattle.cp_model_machine.specs.PrivateStates.{Frame, Leaves}
use Rattle.cp_model_machine.specs.Calling.{gate_effect, leave, return_with, with_frame}
use Rattle.cp_private.specs.Calls.{returning}
use Rattle.cp_private.specs.States.{frame, frames_in, join}
use Rattle.cp_private.proofs.Returning.{returned}
use Rattle.cp_private.proofs.private.Private.return_fast.Goals as goal

pub returns-clause-step : goal.returns-clause-step
returns-clause-step c =
    λ w input.
    let shared = c.args.shared.now in
    let o = join c.args.self.now input shared in
    let f = frame c.in-Some.frame in
    let fs = frames_in c.in-Some.ensures.0 c.args.self.now.frames.items in
    let below : c.args.self.now.depth - 1 ≡ c.in-Some.ensures.0 = omega (arith, c.in-Some.ensures.1) in
    let is = sym c.in-Ok.is ∙ c.value_to_return.ensures input in
    let go = λ (g : Frame) (gs : List Frame). return_with o o g gs c.args.function (gate_effect g.gate Leaves) in
    let here = ap (λ gs. with_frame o gs go) c.in-Some.ensures.2 in
    let left = c.return_to.ensures.step input shared
    ∙ ap (λ n. leave (returning o f c.in-Ok.value) f (frames_in n c.args.self.now.frames.items)) below in
    ap (λ p. (p, gate_effect f.gate Leaves)) left
    ∙ (sym (returned o o f fs (gate_effect f.gate Leaves) c.args.function c.in-Ok.value is) ∙ sym here)
