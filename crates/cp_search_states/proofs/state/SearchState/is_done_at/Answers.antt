use Rattle.std.proofs.Common.{ap, ◌∙◌}
use Rattle.cp_law_servers.specs.Servers.{part_is_done}
use Rattle.cp_kernel.specs.KernelOf.{kernel_of}
use Rattle.cp_search_states.proofs.state.SearchState.is_done_at.Goals as goal

pub returns-in-Some : goal.returns-in-Some
returns-in-Some c = λ inputs.
    c.is_done.ensures (inputs c.args.p) ∙ ap (part_is_done c.args.servers.now (kernel_of c.args.self.now.kernel)) (c.in-Some.ensures inputs)
