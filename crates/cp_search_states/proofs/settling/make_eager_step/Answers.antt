use Rattle.std.proofs.Common.{◌≡◌, ◌-◌, Some, slice_get, ap, sym, ◌∙◌, arith}
use Rattle.std.proofs.lemmas.Option.{slice_get-get_or}
use Rattle.cp_private.specs.States.{private_of}
use Rattle.cp_private.specs.declared.private.Private.{Private}
use Rattle.cp_program.specs.View as view
use Rattle.cp_search_states.specs.SearchStates.{core_with, input_of}
use Rattle.cp_search_states.proofs.Places.{part_of}
use Rattle.cp_search_states.proofs.Settles.{ran_nearer, stepped_nearer}
use Rattle.cp_search_states.proofs.settling.make_eager_step.Goals as goal

pub returns-in_ok-run-in-Private : goal.returns-in_ok-run-in-Private
returns-in_ok-run-in-Private c = λ e.
    let n = c.args.state.now in
    ran_nearer (view.program c.args.program.now) c.args.inputs.now c.args.turn.steps c.args.p n.privates.items c.run.new.privates.items n.kernel
    c.settling.ensures.turn c.requires.timeless c.requires.rest c.requires.first c.requires.last c.requires.eager c.in_ok-run-in-Private.ensures

pub returns-else-not-branch : goal.returns-else-not-branch
returns-else-not-branch c = λ e.
    let n = c.args.state.now in
    let p = c.args.p in
    let xs = n.privates.items in
    let x = c.private.result.now in
    let inputs = input_of c.args.inputs.now in
    let first = c.requires.first in
    let small = c.if-len-p.false in
    let here : slice_get xs (p - 1) ≡ Some x = slice_get-get_or xs (p - 1) c.index.result.now (omega arith) ∙ ap (λ (z : Private). Some z) (sym (c.private.ensures ∙ c.index.ensures)) in
    stepped_nearer (view.program c.args.program.now) c.args.inputs.now p xs c.step.new.privates.items n.kernel c.step.new.kernel
    (core_with inputs c.close_round.new.privates.items c.close_round.new.kernel) (private_of x (inputs p))
    c.settling.ensures.kernel c.settling.ensures.step c.settling.ensures.closed
    c.requires.rest first c.requires.last c.requires.eager (part_of inputs xs p x first here) (c.in-Kernel.ensures.kind (inputs p))
    (c.in_ok-step-in-Kernel.ensures c.if-not-branch.false) (c.close_round.ensures inputs)
