-- The lines of chains, one process after another.
use Rattle.std.proofs.Common.{◌≡◌, ◌<◌, ◌+◌, ◌-◌, ◌++◌, ◌∙◌, ℕ, suc, List, ap, arith}
use Rattle.std.proofs.lemmas.List.{append_assoc}
use Rattle.cp_model.specs.States.{numbers_from}
use Rattle.cp_model_machine.specs.Chains.{chain_line_of, chain_lines}
use Rattle.cp_model_machine.specs.KernelSteps.{Kernel}

-- The line of process i + 1 is the first of those from it on.
pub next_line : (k : Kernel) (i n : ℕ) (out : List ℕ) → i < n
    → (out ++ chain_line_of k (i + 1)) ++ chain_lines k (numbers_from (i + 1 + 1) (n - (i + 1))) ≡ out ++ chain_lines k (numbers_from (i + 1) (n - i))
next_line k i n out h =
    let two : i + 1 + 1 ≡ suc (i + 1) = omega arith in
    let more : suc (n - (i + 1)) ≡ n - i = omega (arith, h) in
    append_assoc out (chain_line_of k (i + 1)) (chain_lines k (numbers_from (i + 1 + 1) (n - (i + 1))))
    ∙ ap (λ j. out ++ (chain_line_of k (i + 1) ++ chain_lines k (numbers_from j (n - (i + 1))))) two
    ∙ ap (λ m. out ++ chain_lines k (numbers_from (i + 1) m)) more
