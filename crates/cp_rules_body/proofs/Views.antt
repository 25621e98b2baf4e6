-- Chains of operands aren't designators.
use Rattle.std.proofs.Common.{◌≡◌, ◌≤◌, map, length, List, [], ◌∷◌, None, refl, sym, arith}
use Rattle.cp_model.specs.Syntax as s
use Rattle.cp_model.specs.Syntax.{chain_of}
use Rattle.cp_model.specs.View.{operation}
use Rattle.cp_model.specs.declared.tree.Operation.{Operation}
use Rattle.cp_rules_body.specs.Designated.{designator_in}

designator_in_binary : (e : s.Expression) (o : s.Operation) (os : List s.Operation) → designator_in (chain_of e (o ∷ os)) ≡ None
designator_in_binary e o [] = refl
designator_in_binary e o (p ∷ os) = designator_in_binary (s.Binary e o.operator o.at o.operand) p os

-- a chain of two or more operands isn't a designator
pub designator_in_chain : (e : s.Expression) (os : List Operation) → 1 ≤ length os → None ≡ designator_in (chain_of e (map operation os))
designator_in_chain e [] some = absurd (omega (arith, some))
designator_in_chain e (o ∷ os) some = sym (designator_in_binary e (operation o) (map operation os))
