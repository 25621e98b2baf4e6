use Rattle.std.proofs.Common.{◌≡◌, ◌++◌}
use Rattle.std.specs.Prelude.{flat_map}
use Rattle.cp_kernel.specs.ChainOf.{processes_left}
use Rattle.cp_report.specs.Lines.{number_text}
use Rattle.cp_report.proofs.chains.push_chain.Given as goal

-- What is pushed, and the numbers of the processes that are left, are all of the chain.
abbrev pub invariant-loop-process : goal.invariant-loop-process
invariant-loop-process l =
    l.out.items ++ flat_map number_text (processes_left l.process-iterator)
    ≡ l.fn.out.items ++ flat_map number_text (processes_left l.fn.chain)
