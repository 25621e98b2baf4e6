use Rattle.std.proofs.Common.{◌≡◌, ◌-◌, List, ℕ, Some, slice_get, subst, sym, ap, ◌∙◌, arith}
use Rattle.std.proofs.lemmas.Result.{IfOk-weaker}
use Rattle.std.proofs.lemmas.Option.{slice_get-get_or}
use Rattle.cp_private.specs.States.{private_of}
use Rattle.cp_private.specs.declared.private.Private.{Private}
use Rattle.cp_model_machine.specs.Steps.{private_steps}
use Rattle.cp_law_cores.specs.Cores.{put, silent}
use Rattle.cp_program.specs.View as view
use Rattle.cp_kernel.specs.Turns.{parts_of}
use Rattle.cp_search_states.specs.SearchStates.{input_of}
use Rattle.cp_search_states.proofs.Places.{part_of, part_set}
use Rattle.cp_search_states.proofs.steps.run.Goals as goal

pub returns : goal.returns
returns c =
    let program = view.program c.args.program.now in
    let p = c.args.p in
    let xs = c.args.privates.now.items in
    let x = c.private_mut.result.now in
    let y = c.make_turn.new.private in
    let inputs = input_of c.args.inputs.now in
    let first = c.requires.first in
    let last = c.requires.last in
    let here : slice_get xs (p - 1) ≡ Some x = slice_get-get_or xs (p - 1) c.index_mut.result.now (omega (arith, first, last)) ∙ ap (λ (z : Private). Some z) (sym (c.private_mut.ensures.value ∙ c.index_mut.ensures.value)) in
    IfOk-weaker c.make_turn.result _ _
    (λ _ (turned : private_of y c.input_for-input.result.now ≡ silent (private_steps program 0 c.args.turn.steps (private_of x c.input_for-input.result.now))).
    let at_input = subst (λ (l : List ℕ). private_of y l ≡ silent (private_steps program 0 c.args.turn.steps (private_of x l))) c.input_for-input.ensures turned in
    record {
      own = private_of x (inputs p);
      there = part_of inputs xs p x first here;
      parts = part_set inputs xs p y first ∙ ap (put (parts_of inputs 1 xs) p) at_input;
    })
    c.make_turn.ensures
