use Rattle.std.proofs.Common.{rules, ◌≡◌, ◌≢◌, ◌-◌, ◌+◌, ◌*◌, ◌≤◌, Bool, length, sym, ap, ◌∙◌, subst, arith, List, ℕ, vec_capacity, vec_len, ⊎_elim}
use Rattle.cp_model_machine.specs.PrivateStates.{PrivateState}
use Rattle.cp_private.specs.States.{private_of}
use Rattle.cp_private.specs.declared.private.Private.{Private}
use Rattle.cp_program.specs.View as view
use Rattle.cp_rounds_handoff.specs.Inputs.{input_at}
use Rattle.cp_rounds_handoff.specs.Turned as plain
use Rattle.cp_rounds_handoff.specs.Tasks.{AreMade, HasRoom, IsShort, bytes_to_write, bytes_written, is_some}
use Rattle.cp_rounds_handoff.specs.declared.round_time.RoundTime.{RoundTime}
use Rattle.cp_rounds_handoff.proofs.MadeTurns.{is_some_next, made_more, quiet_is}
use Rattle.cp_rounds_handoff.proofs.Lists.{zero_or}
use Rattle.cp_rounds_handoff.proofs.task.Task.make_turn.Goals as goal

pub invariant_of-self : goal.invariant_of-self
invariant_of-self g c =
    let task = c.args.self.now in
    let program = view.program c.args.config.now.program in
    let steps = c.args.turn.steps in
    let old = task.private in
    let new = c.turn_in_place.new.private in
    let lent = c.private_mut-private.ensures.value in
    let without_kernel = g.C.Course.without_kernel in
    let turned = g.C.Course.turned in
    let round_time = g.C.Course.round_time in
    let most = g.C.Course.most in
    let at = task.process - 1 in
    let xs = task.start.value.value.items in
    let input = g.C.Course.input at in
    let course = c.requires.course in
    let bytes = course.bytes in
    let grown = subst (λ (x : Private). vec_len new.output ≤ vec_len x.output + 11 * steps) lent c.turn_in_place.ensures.length in
    let kept = subst (λ (x : Private). vec_capacity x.output ≤ vec_capacity new.output) lent c.turn_in_place.ensures.capacity in
    let wide = task.wide in
    let silent : task.made ≢ 0 → vec_len old.output ≡ 0 =
    λ some.
    let none = ap length (quiet_is program (private_of old input) (c.requires.without_kernel some input)).silent in
    let all : vec_len old.output ≡ length old.output.items = search rules in
    all ∙ none in
    record {
      cell = task.cell;
      time = task.time;
      number = c.turn_in_place.ensures.number ∙ (ap (λ (x : Private). x.number) lent ∙ task.number);
      comes = λ x e.
          let now : private_of new input ≡ turned (round_time (task.round + task.made)) (private_of old input) =
          subst (λ (l : List ℕ). private_of new l ≡ plain.take_turn program steps c.args.round_time (private_of old l)) (sym (course.inputs at))
          (subst (λ (x : Private). private_of new (input_at c.args.config.now.inputs.items at)
          ≡ plain.take_turn program steps c.args.round_time (private_of x (input_at c.args.config.now.inputs.items at))) lent c.turn_in_place.ensures.turned)
          ∙ (sym (course.steps c.args.round_time (private_of old input)) ∙ ap (λ (w : RoundTime). turned w (private_of old input)) c.requires.time) in
          subst (λ (o : PrivateState). AreMade without_kernel turned round_time task.round (task.made + 1) (private_of x input) o) (sym now)
          (made_more without_kernel turned round_time task.round task.made (private_of x input) (private_of old input) (task.comes x e)
          (λ some. course.reports (private_of old input) ∙ c.requires.without_kernel some input));
      short =
          subst (λ (b : Bool). IsShort most xs at b new) (sym (is_some_next task.made))
          (λ x e.
          ⊎_elim
          (λ (h : task.made ≡ 0).
          let was = task.short x e in
          let none = ap (λ (n : ℕ). bytes_written most (is_some n)) h in
          omega (arith, was, none, grown, bytes))
          (λ (h : task.made ≢ 0). let none = silent h in omega (arith, none, grown, bytes))
          (zero_or task.made));
      room =
          subst (λ (b : Bool). HasRoom most b new) (sym (is_some_next task.made))
          (⊎_elim
          (λ (h : task.made ≡ 0).
          let was = task.room in
          let none = ap (λ (n : ℕ). bytes_to_write most (is_some n)) h in
          omega (arith, was, none, grown, kept, bytes))
          (λ (h : task.made ≢ 0). let none = silent h in omega (arith, none, grown, kept, wide, bytes))
          (zero_or task.made));
      wide = omega (arith, wide, kept);
    }
