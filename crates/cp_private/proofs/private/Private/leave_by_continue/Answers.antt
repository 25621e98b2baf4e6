-- The queue is at the address that the definition finds (`found`), and the innermost frame decides
-- (`here`): without a gate nothing is done, and else the routine returns what the definition
-- returns. The code writes the word of the queue after the return, which changes no word
-- (`written_after`).
use Rattle.std.proofs.Common.{rules, arith, ◌≡◌, ◌∷◌, ℕ, ◌-◌, List, Bool, true, false, pos, Ok, Err, length, refl, ap, sym, to_z, of_z, ◌∙◌}
use Rattle.std.specs.Prelude.{if◌then◌else◌}
use Rattle.std.specs.Int.{w32}
use Rattle.cp_model_program.specs.Starts.{word}
use Rattle.cp_model_machine.specs.PrivateStates.{Acting, Continues, Frame, PrivateState, private_outcome, set_word, view_of}
use Rattle.cp_model_machine.specs.Steps.{is_held}
use Rattle.cp_model_machine.specs.Calling.{leave, return_with, with_frame}
use Rattle.cp_model_machine.specs.Values.{place_of}
use Rattle.cp_program.specs.Reaches.{cap_place}
use Rattle.cp_program.specs.View as view
use Rattle.cp_private.specs.Calls.{returning}
use Rattle.cp_private.specs.States.{frame, frames_in, join, outside_of}
use Rattle.cp_private.proofs.Results.{held_none, held_some, placed, unplaced}
use Rattle.cp_private.proofs.Returning.{returned, unreturned, written_after}
use Rattle.cp_private.proofs.private.Private.leave_by_continue.Goals as goal
use Rattle.cp_private.proofs.private.Private.leave_by_continue.Goals.{In_ok-at}

module _ (c : In_ok-at) where
  abbrev own : ℕ
  own = length c.args.self.now.memory.words.items

  abbrev o : PrivateState
  o = join c.args.self.now c.args.outside.now.input.now c.args.shared.now

  found : (n : ℕ) × (place_of (view_of (outside_of c.args.outside.now own) o) (view.place_expression c.args.queue.now) ≡ Ok n) × (cap_place n ≡ c.in_ok-at.at)
  found = placed _ _ (sym c.in_ok-at.was ∙ c.place.ensures c.args.outside.now.input.now own)

  abbrev freed : PrivateState
  freed = set_word o found.0 (pos 0)

  abbrev done : Frame → List Frame → Acting
  done f fs = return_with o freed f fs c.args.function (Continues f.gate (word o.words found.0))

  abbrev go : Frame → List Frame → Acting
  go f fs = if is_held f.gate then done f fs else private_outcome o

  here : (f : Frame) (fs : List Frame) (b : Bool) → o.frames ≡ f ∷ fs → is_held f.gate ≡ b
      → with_frame o o.frames go ≡ (if b then done f fs else private_outcome o)
  here f fs b is held = ap (λ gs. with_frame o gs go) is ∙ ap (λ x. if x then done f fs else private_outcome o) held

pub returns-in_err-at-clause-step : goal.returns-in_err-at-clause-step
returns-in_err-at-clause-step c =
    let own = length c.args.self.now.memory.words.items in
    let given : c.from_residual.result ≡ Err c.in_err-at.field-0.0 = search rules in
    let is = unplaced _ _ (sym c.in_err-at.was ∙ c.place.ensures c.args.outside.now.input.now own) in
    rw (given, is) refl

pub returns-in_default-clause-step : goal.returns-in_default-clause-step
returns-in_default-clause-step c =
    let k = (goal.at.returns-in_default-clause-step c).In_ok-at in
    let none : c.args.self.now.depth ≡ 0 = search rules in
    rw (found k).1 (sym (ap (λ n. with_frame (o k) (frames_in n c.args.self.now.frames.items) (go k)) none))

pub returns-then-frame-eq0-clause-step : goal.returns-then-frame-eq0-clause-step
returns-then-frame-eq0-clause-step c =
    let k = (goal.at.returns-then-frame-eq0-clause-step c).In_ok-at in
    let fs = frames_in c.in-Some.ensures.0 c.args.self.now.frames.items in
    rw (found k).1 (sym (here k (frame c.in-Some.frame) fs false c.in-Some.ensures.2 (held_none c.in-Some.frame.gate (omega arith))))

pub returns-in_err-value-clause-step : goal.returns-in_err-value-clause-step
returns-in_err-value-clause-step c =
    let k = (goal.at.returns-in_err-value-clause-step c).In_ok-at in
    let f = frame c.in-Some.frame in
    let fs = frames_in c.in-Some.ensures.0 c.args.self.now.frames.items in
    let given : c.from_residual-in_err-value.result ≡ Err c.in_err-value.field-0.0 = search rules in
    let is = sym c.in_err-value.was ∙ c.value_to_return.ensures c.args.outside.now.input.now in
    let e = Continues f.gate (word (o k).words (found k).0) in
    rw ((found k).1, given)
    (sym (unreturned (o k) (freed k) f fs e c.args.function c.in_err-value.field-0.0 is)
    ∙ sym (here k f fs true c.in-Some.ensures.2 (held_some c.in-Some.frame.gate (omega arith))))

pub returns-clause-step : goal.returns-clause-step
returns-clause-step c =
    let k = (goal.at.returns-clause-step c).In_ok-at in
    let input = c.args.outside.now.input.now in
    let at = found k in
    let f = frame c.in-Some.frame in
    let items = c.args.self.now.frames.items in
    let fs = frames_in c.in-Some.ensures.0 items in
    let below : c.args.self.now.depth - 1 ≡ c.in-Some.ensures.0 = omega (arith, c.in-Some.ensures.1) in
    let is = sym c.in_ok-value.was ∙ c.value_to_return.ensures input in
    let v = c.in_ok-value.value in
    let e = Continues f.gate (word (o k).words at.0) in
    let left = c.return_to.ensures.step input c.args.shared.now ∙ ap (λ n. leave (returning (o k) f v) f (frames_in n items)) below in
    let written = c.set_word.ensures.step input at.0 at.2 ∙ ap (λ p. set_word p at.0 (pos 0)) left ∙ written_after (o k) f fs at.0 (pos 0) v in
    let whole : to_z w32 (of_z w32 c.word-resumed.result) ≡ c.word-resumed.result = search rules in
    let resumed = whole ∙ c.word-resumed.ensures input at.0 at.2 in
    rw at.1
    ((λ i. (written i, Continues f.gate (resumed i)))
    ∙ sym (returned (o k) (freed k) f fs e c.args.function v is)
    ∙ sym (here k f fs true c.in-Some.ensures.2 (held_some c.in-Some.frame.gate (omega arith))))
