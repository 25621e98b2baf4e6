use Rattle.std.proofs.Common.{◌≡◌, ◌-◌, ◌+◌, ◌*◌, ◌≤◌, Some, slice_get, sym, ap, ◌∙◌, subst, arith, List, ℕ, vec_capacity, vec_len}
use Rattle.std.proofs.lemmas.Option.{same_Some}
use Rattle.cp_private.specs.States.{private_of}
use Rattle.cp_private.specs.declared.private.Private.{Private}
use Rattle.cp_program.specs.View as view
use Rattle.cp_rounds_handoff.specs.Inputs.{input_at}
use Rattle.cp_rounds_handoff.specs.Turned as plain
use Rattle.cp_rounds.proofs.finishing.turn_here.Goals as goal

pub returns : goal.returns
returns g c =
    let config = c.args.run.now.turns.config.now in
    let steps = c.args.run.now.turns.plan.turn.steps in
    let course = c.args.run.now.turns.course in
    let round_time = c.args.round.now.round_time in
    let process = c.args.process in
    let at = process - 1 in
    let xs = c.args.round.now.start.value.items in
    let old = c.args.private.now in
    let new = c.turn_in_place.new.private in
    let turned = g.C.Course.turned round_time in
    let input = g.C.Course.input at in
    let lent = c.private_mut-private.ensures.value in
    let bytes = course.bytes in
    let made : private_of new input ≡ turned (private_of old input) =
    subst (λ (l : List ℕ). private_of new l ≡ plain.take_turn (view.program config.program) steps round_time (private_of old l)) (sym (course.inputs at))
    (subst (λ (x : Private). private_of new (input_at config.inputs.items at)
    ≡ plain.take_turn (view.program config.program) steps round_time (private_of x (input_at config.inputs.items at))) lent c.turn_in_place.ensures.turned)
    ∙ sym (course.steps round_time (private_of old input)) in
    let grown = subst (λ (x : Private). vec_len new.output ≤ vec_len x.output + 11 * steps) lent c.turn_in_place.ensures.length in
    let kept = subst (λ (x : Private). vec_capacity x.output ≤ vec_capacity new.output) lent c.turn_in_place.ensures.capacity in
    let free = c.args.round.now.free at old c.requires.here in
    let same : (x : Private) → slice_get xs at ≡ Some x → old ≡ x = λ x e. same_Some old x (sym c.requires.here ∙ e) in
    record {
      number = c.turn_in_place.ensures.number ∙ (ap (λ (x : Private). x.number) lent ∙ (c.args.round.now.numbers at old c.requires.here ∙ omega (arith, c.requires.some)));
      comes = λ x e. subst (λ (w : Private). private_of new input ≡ turned (private_of w input)) (same x e) made;
      room = omega (arith, free, grown, kept, bytes);
      short = λ x e. subst (λ (w : Private). vec_len new.output ≤ vec_len w.output + g.C.Course.most) (same x e) (omega (arith, grown, bytes));
    }
