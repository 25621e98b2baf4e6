use Rattle.std.proofs.Common.{◌≡◌, ◌≤◌, ◌+◌, ◌-◌, ◌*◌, ℕ, [], Some, slice_get, vec_len, vec_capacity, ap, sym, subst, ◌∙◌, arith}
use Rattle.std.specs.Prelude.{Vec}
use Rattle.std.specs.Global.{Global}
use Rattle.cp_model_machine.specs.KernelSteps as plain
use Rattle.cp_program.specs.View as view
use Rattle.cp_kernel.specs.KernelOf.{Bytes, HasRoomForBytes, turning}
use Rattle.cp_kernel.specs.Turns.{Moves}
use Rattle.cp_kernel.proofs.Asking.{room_kept}
use Rattle.cp_kernel.proofs.Transcripts.{moved_from}
use Rattle.cp_kernel.proofs.turns.take_turn.Goals as goal

pub returns-clause-turn : goal.returns-clause-turn
returns-clause-turn c =
    let input = c.args.input.now in
    let steps = λ (n : ℕ). plain.kernel_steps (view.program c.args.program.now) c.args.clock n (turning c.args.kernel.now c.args.private.now input) in
    let made = c.take_steps.ensures.steps ∙ ap steps c.steps.ensures.steps in
    let mid = c.take_steps.new.kernel in
    let after = c.move_output.new.kernel in
    let written = (steps c.args.turn.steps).own.output in
    let same = subst (Moves mid after c.take_steps.new.private.number) (ap (λ (x : plain.Turning). x.own.output) made) c.move_output.ensures.moves in
    record {
      kernel = c.move_output.ensures.kernel ∙ ap (λ (x : plain.Turning). x.kernel) made;
      own = c.move_output.ensures.private input ∙ ap (λ (x : plain.Turning). record x.own { output = [] }) made;
      moves =
          moved_from c.args.kernel.now mid after c.args.private.now.number written c.take_steps.ensures.transcripts
          (subst (λ p. Moves mid after p written) c.take_steps.ensures.number same);
    }

pub returns-clause-asking : goal.returns-clause-asking
returns-clause-asking c = λ n h. room_kept c.take_steps.new.kernel c.move_output.new.kernel n c.move_output.ensures.gates (c.take_steps.ensures.asking n h)

pub returns-clause-left : goal.returns-clause-left
returns-clause-left c = λ n h.
    let k = c.args.kernel.now in
    let mid = c.take_steps.new.kernel in
    let after = c.move_output.new.kernel in
    let p = c.args.private.now.number in
    let number = c.take_steps.ensures.number in
    let t = c.args.turn.steps in
    let same = c.steps.ensures.steps in
    let long = c.take_steps.ensures.length in
    let written = vec_len c.take_steps.new.private.output in
    let all : HasRoomForBytes mid p (vec_len c.args.private.now.output + 11 * t + n) =
    subst (λ (ts : Vec Bytes Global). (v : Bytes) → slice_get ts.items (p - 1) ≡ Some v → vec_len v + (vec_len c.args.private.now.output + 11 * t + n) ≤ vec_capacity v)
    (sym c.take_steps.ensures.transcripts) h in
    subst (λ q. HasRoomForBytes after q n) number
    (c.move_output.ensures.left n
    (subst (λ q. HasRoomForBytes mid q (written + n)) (sym number)
    (λ v there. let room = all v there in omega (arith, room, long, same))))
