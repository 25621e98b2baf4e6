use Rattle.std.proofs.Common.{arith, ◌≡◌, Ok, ap}
use Rattle.cp_model_machine.specs.PrivateStates.{NoEffect, go_to, view_of}
use Rattle.cp_model_machine.specs.Values.{place_of}
use Rattle.cp_program.specs.View as view
use Rattle.cp_private.specs.States.{join}
use Rattle.cp_private.proofs.private.Private.copy_fast.Goals as goal

pub returns-clause-step : goal.returns-clause-step
returns-clause-step g c =
    λ yes w input.
    let o = join c.args.self.now input c.args.shared.now in
    let at = c.in-Some.at in
    let from = c.in-Some-fast_place.from in
    let placed : place_of (view_of w o) (view.place_expression c.args.to.now) ≡ Ok at = c.in-Some.ensures w.clock in
    let found : place_of (view_of w o) (view.place_expression c.args.from.now) ≡ Ok from = c.in-Some-fast_place.ensures w.clock in
    let moved = c.move_words.ensures.step input at from (omega arith) (omega arith) in
    rw (placed, found) (ap (λ p. (go_to c.args.next.now p, NoEffect)) moved)
