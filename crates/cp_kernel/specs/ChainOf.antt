-- The processes of a chain that are still to come.
use Rattle.std.specs.Prelude.{List, ℕ}
use Rattle.cp_model_machine.specs.Chains.{chain_within}
use Rattle.cp_kernel.specs.KernelOf.{kernel_of}
use Rattle.cp_kernel.specs.declared.chain.Chain.{Chain}

abbrev pub processes_left : Chain → List ℕ
processes_left c = chain_within c.most (kernel_of c.kernel.now) c.next
