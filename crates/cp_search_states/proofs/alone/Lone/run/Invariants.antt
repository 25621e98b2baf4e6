use Rattle.cp_program.specs.View as view
use Rattle.cp_private.specs.States.{private_of}
use Rattle.cp_kernel.specs.KernelOf.{kernel_of}
use Rattle.cp_search_states.specs.Alone.{HasCome}
use Rattle.cp_search_states.proofs.alone.Lone.run.Given as goal

abbrev pub invariant-loop-turn : goal.invariant-loop-turn
invariant-loop-turn l =
    HasCome (view.program l.program) (kernel_of l.fn.self.kernel) (private_of l.fn.self.private l.input)
    (kernel_of l.self.kernel) (private_of l.self.private l.input)
