use Rattle.cp_program.specs.View as view
use Rattle.cp_law_cores.specs.Cores.{close}
use Rattle.cp_search_states.specs.SearchStates.{IsNearer, core_of, input_of}
use Rattle.cp_search_states.proofs.settling.settle.Given as goal

abbrev pub invariant-loop-turn : goal.invariant-loop-turn
invariant-loop-turn l =
    IsNearer (view.program l.program) (close (view.program l.program) (core_of (input_of l.inputs) l.fn.state)) (core_of (input_of l.inputs) l.state)
