use Rattle.std.proofs.Common.{◌≡◌, ◌≢◌, ◌<◌, ◌+◌, ◌-◌, ◌*◌, ℕ, Some, slice_get, vec_len, sym, ap, subst, ◌∙◌, arith}
use Rattle.cp_kernel.specs.KernelOf.{HasRoomForBytes, turning}
use Rattle.cp_kernel.specs.Turns.{IsTurned}
use Rattle.cp_model_machine.specs.KernelSteps.{kernel_steps}
use Rattle.cp_private.specs.declared.private.Private.{Private}
use Rattle.cp_program.specs.View as view
use Rattle.cp_rounds_handoff.specs.Inputs.{input_at}
use Rattle.cp_rounds_handoff.proofs.Lists.{got_at, got_or}
use Rattle.cp_rounds.specs.Ahead.{turns_ahead}
use Rattle.cp_rounds.proofs.AheadPasses.{turns_at}
use Rattle.cp_rounds.proofs.AheadRounds.{ahead_made, ready_ahead, ready_turned, turn_made_ahead}
use Rattle.cp_rounds.proofs.AheadTurns.{fewer_bytes}
use Rattle.cp_rounds.proofs.ahead_turns.finish_at.Goals as goal

some_ahead : (n a : ℕ) → n ≡ a → 0 < n → a ≢ 0
some_ahead n a same some = λ none. omega (arith, same, some, none)

pub returns-then-index-gt0-clause-parts : goal.returns-then-index-gt0-clause-parts
returns-then-index-gt0-clause-parts g c = λ rounds m time was.
    let run = c.args.run.now in
    let ns = c.args.ahead.now.turns.items in
    let i = c.args.index in
    let ys = c.args.privates.now.items in
    let within = c.requires.within in
    let y = got_at ys i within in
    let at = c.index.ensures ∙ turns_at ns i c.index.result.now (omega (arith, within, c.requires.room.turns)) in
    ahead_made run.turns.config.now run.turns.plan.turn.steps rounds m ns i ys c.args.kernel.now y.0 y.1
    (some_ahead c.index.result.now (turns_ahead ns i) at (omega (arith, c.if-index-gt0.true))) was

pub returns-then-index-gt0-clause-room : goal.returns-then-index-gt0-clause-room
returns-then-index-gt0-clause-room g c =
    let ns = c.args.ahead.now.turns.items in
    let i = c.args.index in
    let within = c.requires.within in
    let at = c.index.ensures ∙ turns_at ns i c.index.result.now (omega (arith, within, c.requires.room.turns)) in
    ready_ahead g.C.Course.most c.args.ahead.now.later i ns c.args.privates.now.items c.args.kernel.now c.requires.room
    (some_ahead c.index.result.now (turns_ahead ns i) at (omega (arith, c.if-index-gt0.true)))

pub kernel_turn_of-requires-clause-among : goal.kernel_turn_of-requires-clause-among
kernel_turn_of-requires-clause-among g c κs within' =
    let i = c.args.index in
    let ys = c.args.privates.now.items in
    let y = c.index_mut.result.now in
    let within = c.requires.within in
    let here : slice_get ys i ≡ Some y = got_or ys i y within ∙ ap (λ (z : Private). Some z) (sym c.index_mut.ensures.value) in
    let number = c.requires.room.numbers i y here in
    let stages = c.requires.room.stages in
    record { first = omega (arith, number); last = omega (arith, number, stages, within) }

pub kernel_turn_of-requires-clause-output : goal.kernel_turn_of-requires-clause-output
kernel_turn_of-requires-clause-output g c κs within' =
    let i = c.args.index in
    let ys = c.args.privates.now.items in
    let y = c.index_mut.result.now in
    let here : slice_get ys i ≡ Some y = got_or ys i y c.requires.within ∙ ap (λ (z : Private). Some z) (sym c.index_mut.ensures.value) in
    let room = c.requires.room.room i y here in
    let bytes = c.args.run.now.turns.course.bytes in
    omega (arith, room, bytes)

pub kernel_turn_of-requires-clause-transcript : goal.kernel_turn_of-requires-clause-transcript
kernel_turn_of-requires-clause-transcript g c κs within' =
    let i = c.args.index in
    let ys = c.args.privates.now.items in
    let k = c.args.kernel.now in
    let y = c.index_mut.result.now in
    let most = g.C.Course.most in
    let later = c.args.ahead.now.later in
    let here : slice_get ys i ≡ Some y = got_or ys i y c.requires.within ∙ ap (λ (z : Private). Some z) (sym c.index_mut.ensures.value) in
    let bytes = c.args.run.now.turns.course.bytes in
    fewer_bytes k y.number ((vec_len y.output + most) + later * (most + most)) (vec_len y.output + 11 * c.args.run.now.turns.plan.turn.steps) (omega (arith, bytes))
    (subst (λ (p : ℕ). HasRoomForBytes k p ((vec_len y.output + most) + later * (most + most))) (sym (c.requires.room.numbers i y here))
    (c.requires.room.before i y (omega arith) here))

pub returns-clause-parts : goal.returns-clause-parts
returns-clause-parts g c = λ rounds m time was.
    let run = c.args.run.now in
    let config = run.turns.config.now in
    let t = run.turns.plan.turn.steps in
    let ns = c.args.ahead.now.turns.items in
    let i = c.args.index in
    let ys = c.args.privates.now.items in
    let k = c.args.kernel.now in
    let k' = c.kernel_turn_of.new.kernel in
    let y = c.index_mut.result.now in
    let z = c.kernel_turn_of.new.private in
    let within = c.requires.within in
    let here : slice_get ys i ≡ Some y = got_or ys i y within ∙ ap (λ (z : Private). Some z) (sym c.index_mut.ensures.value) in
    let at = c.index.ensures ∙ turns_at ns i c.index.result.now (omega (arith, within, c.requires.room.turns)) in
    let none : turns_ahead ns i ≡ 0 = omega (arith, at, c.if-index-gt0.false) in
    let back : (i + 1) - 1 ≡ i = omega arith in
    let turn = subst (λ (j : ℕ). IsTurned (view.program config.program) c.args.round_time.clock t k k' y z (input_at config.inputs.items j)) back c.kernel_turn_of.ensures.turn in
    turn_made_ahead config t rounds m ns c.args.round_time time i ys k k' y z here (c.requires.room.numbers i y here) none turn was

pub returns-clause-room : goal.returns-clause-room
returns-clause-room g c =
    let i = c.args.index in
    let ys = c.args.privates.now.items in
    let k = c.args.kernel.now in
    let y = c.index_mut.result.now in
    let made = c.kernel_turn_of.ensures in
    let run = c.args.run.now in
    let input = input_at run.turns.config.now.inputs.items ((i + 1) - 1) in
    let written = (kernel_steps (view.program run.turns.config.now.program) c.args.round_time.clock run.turns.plan.turn.steps (turning k y input)).own.output in
    let bytes = c.args.run.now.turns.course.bytes in
    let here : slice_get ys i ≡ Some y = got_or ys i y c.requires.within ∙ ap (λ (z : Private). Some z) (sym c.index_mut.ensures.value) in
    ready_turned g.C.Course.most c.args.ahead.now.later i c.args.ahead.now.turns.items ys k c.requires.room c.requires.within y c.kernel_turn_of.new.private
    c.kernel_turn_of.new.kernel written here made.turn.moves made.asking
    (λ n h. made.left n (subst (λ (b : ℕ). HasRoomForBytes k y.number (vec_len y.output + b + n)) bytes h)) made.number made.empty made.capacity
