use Rattle.std.proofs.Common.{ap, ◌∙◌}
use Rattle.cp_law_cores.specs.Verdicts.{can_move}
use Rattle.cp_kernel.specs.KernelOf.{kernel_of}
use Rattle.cp_search_states.proofs.state.SearchState.can_move_at.Goals as goal

pub returns-in-Some : goal.returns-in-Some
returns-in-Some c = λ inputs.
    c.can_move.ensures (inputs c.args.p) ∙ ap (can_move (kernel_of c.args.self.now.kernel)) (c.in-Some.ensures inputs)
