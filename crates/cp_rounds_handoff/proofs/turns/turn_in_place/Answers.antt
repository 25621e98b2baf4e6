use Rattle.std.proofs.Common.{◌≡◌, ◌-◌, ℕ, Bool, List, sym, ap, ◌∙◌, subst}
use Rattle.cp_private.specs.States.{private_of}
use Rattle.cp_private.specs.declared.private.Private.{Private}
use Rattle.cp_model_machine.specs.PrivateStates.{PrivateState}
use Rattle.cp_model_machine.specs.Steps.{private_steps}
use Rattle.cp_program.specs.View as view
use Rattle.cp_rounds_handoff.specs.Inputs.{input_at}
use Rattle.cp_rounds_handoff.specs.Turned as plain
use Rattle.cp_rounds_handoff.proofs.turns.turn_in_place.Goals as goal
use Rattle.cp_rounds_handoff.proofs.turns.turn_in_place.Goals.{then-round_time, else-round_time}

pub returns-clause-turned : goal.returns-clause-turned
returns-clause-turned c =
    let program = view.program c.args.config.now.program in
    let w = c.args.round_time in
    let t = c.args.turn.steps in
    let input = input_at c.args.config.now.inputs.items (c.args.p - 1) in
    let old = c.args.private.now in
    let awake : private_of c.if-round_time.private input ≡ plain.woken w.wakes (private_of old input) =
    elim c.if-round_time.branch [
      | then-round_time b ↦
          ap (λ (x : Private). private_of x input) b.private-is
          ∙ (b.wake.ensures.content input ∙ ap (λ (v : Bool). plain.woken v (private_of old input)) (sym b.if-round_time.true))
      | else-round_time b ↦
          ap (λ (x : Private). private_of x input) b.private-is ∙ ap (λ (v : Bool). plain.woken v (private_of old input)) (sym b.if-round_time.false)
    ] in
    subst (λ (l : List ℕ). private_of c.private_turn.new.private l ≡ private_steps program w.clock t (private_of c.if-round_time.private l)) c.input-input.ensures
    c.private_turn.ensures.steps
    ∙ ap (λ (o : PrivateState). private_steps program w.clock t o) awake
