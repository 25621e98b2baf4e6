use Rattle.std.proofs.Common.{◌≡◌, Bool, sym, ap, ◌∙◌}
use Rattle.cp_private.specs.States.{private_of}
use Rattle.cp_private.specs.declared.private.Private.{Private}
use Rattle.cp_model_machine.specs.Machines.{wake_one}
use Rattle.cp_rounds_handoff.specs.Turned.{woken}
use Rattle.cp_rounds.proofs.copies.woken_copy.Goals as goal
use Rattle.cp_rounds.proofs.copies.woken_copy.Goals.{then-wakes, else-wakes}

pub returns : goal.returns
returns c = λ input.
    let o = private_of c.args.private.now input in
    let copied : private_of c.in_ok-copy.copy input ≡ o = c.in_ok-copy.ensures input in
    elim c.if-wakes.branch [
      | then-wakes b ↦
          ap (λ (x : Private). private_of x input) b.copy-is
          ∙ (b.wake.ensures.content input ∙ (ap wake_one copied ∙ ap (λ (v : Bool). woken v o) (sym b.if-wakes.true)))
      | else-wakes b ↦ ap (λ (x : Private). private_of x input) b.copy-is ∙ (copied ∙ ap (λ (v : Bool). woken v o) (sym b.if-wakes.false))
    ]
