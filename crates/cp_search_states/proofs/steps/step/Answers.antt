use Rattle.std.proofs.Common.{◌≡◌, ◌-◌, List, ℕ, Some, slice_get, subst, sym, ap, ◌∙◌, arith}
use Rattle.std.proofs.lemmas.Result.{IfOk-weaker}
use Rattle.std.proofs.lemmas.Option.{slice_get-get_or}
use Rattle.cp_private.specs.States.{private_of}
use Rattle.cp_private.specs.declared.private.Private.{Private}
use Rattle.cp_law_cores.specs.Cores.{put}
use Rattle.cp_program.specs.View as view
use Rattle.cp_kernel.specs.Turns.{parts_of}
use Rattle.cp_search_states.specs.SearchStates.{StepsInto, input_of}
use Rattle.cp_search_states.proofs.Places.{part_of, part_set}
use Rattle.cp_search_states.proofs.steps.step.Goals as goal

pub returns : goal.returns
returns c =
    let program = view.program c.args.program.now in
    let p = c.args.p in
    let xs = c.args.privates.now.items in
    let x = c.private_mut.result.now in
    let y = c.make_step.new.private in
    let k = c.args.kernel.now in
    let k' = c.make_step.new.kernel in
    let inputs = input_of c.args.inputs.now in
    let first = c.requires.first in
    let last = c.requires.last in
    let here : slice_get xs (p - 1) ≡ Some x = slice_get-get_or xs (p - 1) c.index_mut.result.now (omega (arith, first, last)) ∙ ap (λ (z : Private). Some z) (sym (c.private_mut.ensures.value ∙ c.index_mut.ensures.value)) in
    IfOk-weaker c.make_step.result _ _
    (λ made turned e.
    let into : StepsInto program k x k' y (inputs p) = subst (λ (l : List ℕ). StepsInto program k x k' y l) c.input_for-input.ensures (turned e) in
    record {
      own = private_of x (inputs p);
      there = part_of inputs xs p x first here;
      kernel = into.kernel;
      parts = part_set inputs xs p y first ∙ ap (put (parts_of inputs 1 xs) p) into.own;
    })
    c.make_step.ensures
