use Rattle.std.proofs.Common.{◌≡◌, ◌+◌, ◌-◌, ◌++◌, length}
use Rattle.cp_model.specs.States.{numbers_from}
use Rattle.cp_model_machine.specs.Chains.{chain_lines, machine_chains}
use Rattle.cp_rounds.specs.Views.{machine_of}
use Rattle.cp_report.proofs.chains.push_chains.Given as goal

-- What is pushed, and the lines of the processes that are left, are all lines.
abbrev pub invariant-loop-index : goal.invariant-loop-index
invariant-loop-index l =
    l.out.items ++ chain_lines (machine_of l.machine).kernel (numbers_from (l.index + 1) (length (machine_of l.machine).parts - l.index))
    ≡ l.fn.out.items ++ machine_chains (machine_of l.machine)
