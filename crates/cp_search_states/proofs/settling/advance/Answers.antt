use Rattle.std.proofs.lemmas.Result.{IfOk-weaker}
use Rattle.cp_program.specs.View as view
use Rattle.cp_search_states.specs.SearchStates.{core_of, core_with, input_of}
use Rattle.cp_search_states.proofs.Settles.{advanced_rests, turned_at}
use Rattle.cp_search_states.proofs.settling.advance.Goals as goal

pub settle-requires-clause-silent : goal.settle-requires-clause-silent
settle-requires-clause-silent c =
    let n = c.args.state.now in
    (turned_at (view.program c.args.program.now) c.args.inputs.now c.args.p n.privates.items c.step.new.privates.items n.kernel c.step.new.kernel
    c.settling.ensures.kernel c.requires.rest.silent (c.in_ok-step.ensures c.if-not-branch.false)).1

pub returns : goal.returns
returns c =
    let n = c.args.state.now in
    let program = view.program c.args.program.now in
    let inputs = input_of c.args.inputs.now in
    let both = turned_at program c.args.inputs.now c.args.p n.privates.items c.step.new.privates.items n.kernel c.step.new.kernel
    c.settling.ensures.kernel c.requires.rest.silent (c.in_ok-step.ensures c.if-not-branch.false) in
    IfOk-weaker c.settle.result _ _
    (λ done rests e.
    advanced_rests program (core_of inputs n) (core_with inputs c.step.new.privates.items c.step.new.kernel) (core_of inputs c.settle.new.state) c.args.p
    c.settling.ensures.late c.requires.late both.0 (rests e))
    c.settle.ensures
