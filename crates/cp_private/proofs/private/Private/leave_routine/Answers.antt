use Rattle.std.proofs.Common.{rules, arith, ◌≡◌, ◌-◌, List, Err, ap, sym, ◌∙◌}
use Rattle.cp_model_machine.specs.PrivateStates.{Frame, Leaves}
use Rattle.cp_model_machine.specs.Calling.{gate_effect, leave, return_with, with_frame}
use Rattle.cp_private.specs.Calls.{returning}
use Rattle.cp_private.specs.States.{frame, frames_in, join}
use Rattle.cp_private.proofs.Returning.{returned, unreturned}
use Rattle.cp_private.proofs.private.Private.leave_routine.Goals as goal

pub returns-in_err-value-clause-step : goal.returns-in_err-value-clause-step
returns-in_err-value-clause-step c =
    let input = c.args.outside.now.input.now in
    let shared = c.args.shared.now in
    let o = join c.args.self.now input shared in
    let f = frame c.in-Some.frame in
    let fs = frames_in c.in-Some.ensures.0 c.args.self.now.frames.items in
    let below : c.args.self.now.depth - 1 ≡ c.in-Some.ensures.0 = omega (arith, c.in-Some.ensures.1) in
    let go = λ (g : Frame) (gs : List Frame). return_with o o g gs c.args.function (gate_effect g.gate Leaves) in
    let here = ap (λ gs. with_frame o gs go) c.in-Some.ensures.2 in
    let given : c.from_residual.result ≡ Err c.in_err-value.field-0.0 = search rules in
    let is = sym c.in_err-value.was ∙ c.value_to_return.ensures input in
    rw given (sym (unreturned o o f fs (gate_effect f.gate Leaves) c.args.function c.in_err-value.field-0.0 is) ∙ sym here)

pub returns-clause-step : goal.returns-clause-step
returns-clause-step c =
    let input = c.args.outside.now.input.now in
    let shared = c.args.shared.now in
    let o = join c.args.self.now input shared in
    let f = frame c.in-Some.frame in
    let fs = frames_in c.in-Some.ensures.0 c.args.self.now.frames.items in
    let below : c.args.self.now.depth - 1 ≡ c.in-Some.ensures.0 = omega (arith, c.in-Some.ensures.1) in
    let is = sym c.in_ok-value.was ∙ c.value_to_return.ensures input in
    let go = λ (g : Frame) (gs : List Frame). return_with o o g gs c.args.function (gate_effect g.gate Leaves) in
    let here = ap (λ gs. with_frame o gs go) c.in-Some.ensures.2 in
    let left = c.return_to.ensures.step input shared
    ∙ ap (λ n. leave (returning o f c.in_ok-value.value) f (frames_in n c.args.self.now.frames.items)) below in
    (λ i. (left i, c.leaves.ensures i)) ∙ sym (returned o o f fs (gate_effect f.gate Leaves) c.args.function c.in_ok-value.value is) ∙ sym here
