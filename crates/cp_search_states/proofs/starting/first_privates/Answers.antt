use Rattle.std.proofs.Common.{◌≡◌, ◌+◌, ◌-◌, ℕ, suc, List, Some, slice_get, length, sym, ap, ◌∙◌, subst, arith, ⊎_elim}
use Rattle.cp_private.specs.States.{private_of}
use Rattle.cp_private.specs.declared.private.Private.{Private}
use Rattle.cp_model_machine.specs.Machines.{first_part}
use Rattle.cp_program.specs.View as view
use Rattle.cp_search_states.proofs.Items.{got_snoc}
use Rattle.cp_search_states.specs.Verdicts.{AreFirst}
use Rattle.cp_search_states.proofs.Items.{longer}
use Rattle.cp_search_states.proofs.starting.first_privates.Goals as goal

pub loop-i-preserved : goal.loop-i-preserved
loop-i-preserved c =
    let program = view.program c.args.program.now in
    let i = c.loop-i.i in
    let xs = c.loop-i.privates.items in
    let x = c.in_ok-new.field-0 in
    let was = c.loop-i.invariant in
    let count = was.count in
    let at : (i + 1) - 1 ≡ length xs = omega (arith, count) in
    let next : i + 1 ≡ suc (length xs) = omega (arith, count) in
    let items = c.in_ok-push.ensures.items in
    let more = ap (λ (l : List Private). length l) items ∙ longer xs x in
    record {
      first = subst (λ (l : List Private). AreFirst program l) (sym items)
          (λ j y row e there input.
          ⊎_elim
          (λ (old : slice_get xs j ≡ Some y). was.first j y row old there input)
          (λ (new : (j ≡ length xs) × (x ≡ y)).
          ap (λ (z : Private). private_of z input) (sym new.1)
          ∙ (ap (λ (z : Private). private_of z input) c.in_ok-new.ensures
          ∙ (c.in_ok-private.ensures.start input row (ap (λ (n : ℕ). slice_get program.processes n) (at ∙ sym new.0) ∙ there)
          ∙ ap (λ (p : ℕ). first_part program (λ q. input) p row) (next ∙ ap suc (sym new.0)))))
          (got_snoc xs x j y e));
      count = omega (arith, more, count);
    }
