use Rattle.std.proofs.Common.{rules, ◌≡◌, ◌+◌, ◌++◌, ◌∷◌, [], ◌∙◌, suc, ap, sym, arith}
use Rattle.std.specs.List.{range_with_len}
use Rattle.cp_cli_inputs.proofs.Meant.{range_more}
use Rattle.cp_cli_inputs.proofs.named.all_processes.Goals as goal

pub loop-index-preserved : goal.loop-index-preserved
loop-index-preserved c =
    let k = c.loop-index.index in
    let all : c.push.new.self.items ≡ c.loop-index.numbers.items ++ (k + 1) ∷ [] = search rules in
    let number : k + 1 ≡ 1 + k = omega arith in
    let next : suc k ≡ k + 1 = omega arith in
    all ∙ (ap (λ ks. ks ++ (k + 1) ∷ []) c.loop-index.invariant ∙ (ap (λ n. range_with_len 1 k ++ n ∷ []) number ∙ (sym (range_more 1 k) ∙ ap (range_with_len 1) next)))
