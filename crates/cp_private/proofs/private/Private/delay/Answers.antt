-- The queue is at the address that the definition finds (`found`). Each test of the code is that of
-- the definition there: whether a gate is held, whether the word exists, and whether it is free.
use Rattle.std.proofs.Common.{rules, arith, ◌≡◌, ◌+◌, ℕ, true, false, Ok, Err, length, refl, to_z, sym, ◌∙◌}
use Rattle.std.specs.Int.{w32}
use Rattle.std.specs.Prelude.{int_le, pos}
use Rattle.std.proofs.lemmas.Bool.{le-ltb, lt-ltb}
use Rattle.std.proofs.lemmas.List.{length-append}
use Rattle.cp_model_machine.specs.PrivateStates.{Delays, PrivateState, go_to, view_of}
use Rattle.cp_model_machine.specs.Values.{place_of}
use Rattle.cp_program.specs.Reaches.{cap_place}
use Rattle.cp_program.specs.View as view
use Rattle.cp_private.specs.States.{join, outside_of}
use Rattle.cp_private.proofs.Results.{held_none, held_some, placed, unplaced}
use Rattle.cp_private.proofs.private.Private.delay.Goals as goal
use Rattle.cp_private.proofs.private.Private.delay.Goals.{In_ok-at}

module _ (c : In_ok-at) where
  abbrev own : ℕ
  own = length c.args.self.now.memory.words.items

  abbrev o : PrivateState
  o = join c.args.self.now c.args.outside.now.input.now c.args.shared.now

  found : (n : ℕ) × (place_of (view_of (outside_of c.args.outside.now own) o) (view.place_expression c.args.queue.now) ≡ Ok n) × (cap_place n ≡ c.in_ok-at.at)
  found = placed _ _ (sym c.in_ok-at.was ∙ c.place.ensures c.args.outside.now.input.now own)

  count : length o.words ≡ own + length c.args.shared.now
  count = length-append c.args.self.now.memory.words.items c.args.shared.now

pub returns-in_err-at-clause-step : goal.returns-in_err-at-clause-step
returns-in_err-at-clause-step c =
    let own = length c.args.self.now.memory.words.items in
    let given : c.from_residual.result ≡ Err c.in_err-at.field-0.0 = search rules in
    let is = unplaced _ _ (sym c.in_err-at.was ∙ c.place.ensures c.args.outside.now.input.now own) in
    rw (given, is) refl

pub returns-then-monitor-eq0-clause-step : goal.returns-then-monitor-eq0-clause-step
returns-then-monitor-eq0-clause-step c =
    let at = found (goal.at.returns-then-monitor-eq0-clause-step c).In_ok-at in
    rw (at.1, held_none c.args.self.now.gate (omega arith)) refl

pub returns-then-len-shared-clause-step : goal.returns-then-len-shared-clause-step
returns-then-len-shared-clause-step c =
    let k = (goal.at.returns-then-len-shared-clause-step c).In_ok-at in
    let at = found k in
    let beyond = le-ltb at.0 (length (o k).words) (omega (arith, count k, at.2)) in
    rw (at.1, held_some c.args.self.now.gate (omega arith), beyond) refl

pub returns-then-word-gt0-clause-step : goal.returns-then-word-gt0-clause-step
returns-then-word-gt0-clause-step c =
    let k = (goal.at.returns-then-word-gt0-clause-step c).In_ok-at in
    let at = found k in
    let there = lt-ltb at.0 (length (o k).words) (omega (arith, count k, at.2)) in
    let over : int_le c.word.result (pos 0) ≡ false = search rules in
    let taken = rw (c.word.ensures c.args.outside.now.input.now at.0 at.2) at over in
    rw (at.1, held_some c.args.self.now.gate (omega arith), there, taken) refl

pub returns-clause-step : goal.returns-clause-step
returns-clause-step c =
    let k = (goal.at.returns-clause-step c).In_ok-at in
    let input = c.args.outside.now.input.now in
    let at = found k in
    let there = lt-ltb at.0 (length (o k).words) (omega (arith, count k, at.2)) in
    let under : int_le c.word.result (pos 0) ≡ true = search rules in
    let free = rw (c.word.ensures input at.0 at.2) at under in
    let same : c.in_ok-at.at ≡ at.0 = omega (arith, count k, at.2, c.args.self.now.facts, c.requires) in
    let number : to_z w32 c.args.self.now.number ≡ pos c.args.self.now.number = search rules in
    rw (at.1, held_some c.args.self.now.gate (omega arith), there, free)
    (λ i. (go_to c.args.next ((rw number at (c.set_word.ensures.step input at.0 at.2)) i), Delays c.args.self.now.gate (same i)))
