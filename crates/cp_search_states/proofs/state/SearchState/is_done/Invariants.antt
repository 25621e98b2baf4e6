use Rattle.std.proofs.Common.{◌≡◌, ◌≤◌, ℕ, List, true}
use Rattle.cp_law_cores.specs.Cores.{part}
use Rattle.cp_law_servers.specs.Servers.{part_is_done}
use Rattle.cp_kernel.specs.KernelOf.{kernel_of}
use Rattle.cp_search_states.specs.SearchStates.{core_of}
use Rattle.cp_search_states.proofs.state.SearchState.is_done.Given as goal

abbrev pub invariant-loop-i : goal.invariant-loop-i
invariant-loop-i l =
    (inputs : ℕ → List ℕ) (p : ℕ) → 1 ≤ p → p ≤ l.i → part_is_done l.servers (kernel_of l.self.kernel) (part (core_of inputs l.self).parts p) ≡ true
