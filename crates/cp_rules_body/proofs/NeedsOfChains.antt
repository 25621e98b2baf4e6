-- The need of a chain of operands.
use Rattle.std.proofs.Common.{◌≡◌, ℕ, max, List, [], ◌∷◌, arith, sym, ◌∙◌}
use Rattle.std.proofs.Math.Nat.{max-zero}
use Rattle.cp_model.specs.Syntax as s
use Rattle.cp_model.specs.Syntax.{chain_of}
use Rattle.cp_model.specs.RulesEnvironment.{Environment}
use Rattle.cp_model.specs.RulesNeeds.{need_expression}
use Rattle.cp_rules_body.specs.Needs.{need_operations}

max_assoc : (a b c : ℕ) → max (max a b) c ≡ max a (max b c)
max_assoc a b c = omega arith

-- a chain needs what its operands need
pub need_chain : (env : Environment) (e : s.Expression) (os : List s.Operation) → need_expression env (chain_of e os) ≡ max (need_expression env e) (need_operations env os)
need_chain env e [] = sym (max-zero (need_expression env e))
need_chain env e (o ∷ os) =
    need_chain env (s.Binary e o.operator o.at o.operand) os
    ∙ max_assoc (need_expression env e) (need_expression env o.operand) (need_operations env os)
