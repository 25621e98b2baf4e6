use Rattle.cp_program.specs.View as view
use Rattle.cp_law_cores.specs.Cores.{close}
use Rattle.cp_search_states.specs.SearchStates.{core_of, core_with, input_of}
use Rattle.cp_search_states.proofs.Settles.{closed_nearer, nearer_more, nearer_rests}
use Rattle.cp_search_states.proofs.settling.settle.Goals as goal

pub loop-turn-init : goal.loop-turn-init
loop-turn-init c =
    let inputs = input_of c.args.inputs.now in
    closed_nearer (view.program c.args.program.now) (core_of inputs c.args.state.now) (core_with inputs c.close_round.new.privates.items c.close_round.new.kernel)
    c.settling.ensures.closed c.requires.silent (c.close_round.ensures inputs)

pub loop-turn-preserved : goal.loop-turn-preserved
loop-turn-preserved c =
    let inputs = input_of c.args.inputs.now in
    let program = view.program c.args.program.now in
    nearer_more program (close program (core_of inputs c.args.state.now)) (core_of inputs c.loop-turn.state) (core_of inputs c.make_eager_step.new.state)
    c.loop-turn.invariant (c.in_ok-make_eager_step.ensures c.if-not-branch.false)

pub returns-in_default : goal.returns-in_default
returns-in_default c = λ e.
    let inputs = input_of c.args.inputs.now in
    let program = view.program c.args.program.now in
    nearer_rests program (close program (core_of inputs c.args.state.now)) (core_of inputs c.loop-turn.state) c.settling.ensures.none c.loop-turn.invariant
    (c.first_eager.ensures.none c.in_default.is inputs)
