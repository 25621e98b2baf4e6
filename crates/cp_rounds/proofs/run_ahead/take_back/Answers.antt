use Rattle.std.proofs.Common.{◌≡◌, ◌-◌, true, sym, ap, subst, ◌∙◌}
use Rattle.cp_private.specs.Resting.{is_idle}
use Rattle.cp_private.specs.States.{private_of}
use Rattle.cp_private.specs.declared.private.Private.{Private}
use Rattle.cp_program.specs.View as view
use Rattle.cp_rounds_handoff.specs.Quiet.{needs_no_kernel}
use Rattle.cp_rounds_handoff.specs.Turned.{take_turn}
use Rattle.cp_rounds.proofs.AheadTurns.{idle_taken}
use Rattle.cp_rounds.proofs.run_ahead.take_back.Goals as goal

pub returns-then-is_idle_forever-clause-taken : goal.returns-then-is_idle_forever-clause-taken
returns-then-is_idle_forever-clause-taken g c =
    let run = c.args.run.now in
    let program = view.program run.turns.config.now.program in
    let t = run.turns.plan.turn.steps in
    let round = c.args.round.now in
    let y : Private = c.args.private.now in
    let input = g.C.Course.input (c.args.process - 1) in
    let same = c.private-then-is_idle.ensures in
    let resting : is_idle round.round_time.wakes y ≡ true =
    ap (λ (z : Private). is_idle round.round_time.wakes z) (sym c.private.ensures) ∙ (sym c.is_idle.ensures.is_idle ∙ c.if-is_idle.true) in
    let without_kernel : needs_no_kernel program (private_of y input) ≡ true =
    subst (λ (z : Private). needs_no_kernel program (private_of z input) ≡ true) same (c.is_idle_forever.ensures.without_kernel c.if-is_idle_forever.true input) in
    idle_taken g.C.Course.without_kernel g.C.Course.turned g.C.Course.round_time input g.C.Course.most round.index (c.most_turns-most.result - 1) c.args.process
    round.start.value.items y c.requires.some (c.requires.left resting) round.numbers round.free (run.turns.course.reports (private_of y input) ∙ without_kernel)
    (λ w.
    run.turns.course.steps w (private_of y input)
    ∙ subst (λ (z : Private). take_turn program t w (private_of z input) ≡ private_of z input) same (c.is_idle_forever.ensures.turns c.if-is_idle_forever.true t w input))
