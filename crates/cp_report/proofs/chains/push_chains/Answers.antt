use Rattle.std.proofs.Common.{rules, ◌≡◌, ◌∙◌, ◌++◌, ◌+◌, ◌-◌, ◌<◌, ℕ, ap, length, arith}
use Rattle.cp_model.specs.States.{numbers_from}
use Rattle.cp_model_machine.specs.Chains.{chain_line_of, chain_lines}
use Rattle.cp_model_machine.specs.KernelSteps.{Kernel}
use Rattle.cp_rounds.specs.Views.{machine_of}
use Rattle.cp_report.proofs.ChainsReported.{next_line}
use Rattle.cp_report.proofs.chains.push_chains.Goals as goal

pub loop-index-preserved : goal.loop-index-preserved
loop-index-preserved c =
    let k : Kernel = (machine_of c.args.machine.now).kernel in
    let n : ℕ = length (machine_of c.args.machine.now).parts in
    let i : ℕ = c.loop-index.index in
    let below : i < n = omega (arith, c.loop-index-test.true, c.processes-index-end.ensures.parts) in
    let number : c.in_ok-number.number ≡ i + 1 = search rules in
    let reported : c.push_chain_of.new.out.items ≡ c.loop-index.out.items ++ chain_line_of k c.in_ok-number.number = search rules in
    ap (λ t. t ++ chain_lines k (numbers_from (i + 1 + 1) (n - (i + 1)))) (reported ∙ ap (λ p. c.loop-index.out.items ++ chain_line_of k p) number)
    ∙ (next_line k i n c.loop-index.out.items below ∙ c.loop-index.invariant)
