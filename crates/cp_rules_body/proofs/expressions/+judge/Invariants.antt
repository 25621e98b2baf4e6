use Rattle.std.proofs.Common.{◌≡◌, ℕ, ◌+◌, map, drop, Option}
use Rattle.cp_model.specs.Syntax as s
use Rattle.cp_model.specs.Syntax.{chain_of}
use Rattle.cp_model.specs.RulesExpressions as x
use Rattle.cp_model.specs.RulesJudged.{Judged}
use Rattle.cp_model.specs.View.{designator, expression, selector, index, operation, indices_of, expressions_of, selectors_of}
use Rattle.cp_model.specs.declared.rules.Entity.{Entity}
use Rattle.cp_model.specs.declared.rules.Mode.{Mode}
use Rattle.cp_model.specs.declared.rules.Violation.{Violation}
use Rattle.cp_rules_body.specs.Callees.{wants_of}
use Rattle.cp_rules_body.specs.Reports.{Reports}
use Rattle.cp_rules_body.proofs.expressions.+judge.Given as goal

-- the violations reported so far are those of the arguments so far
abbrev pub invariant-arguments-loop-number : goal.invariant-arguments-loop-number
invariant-arguments-loop-number l =
    let env = l.env in
    (j : Judged ℕ) × Reports l.fn.diagnostics l.diagnostics l.t j
    × (x.more_arguments env j (drop (l.number + 1) (wants_of env l.wants)) (expressions_of (map expression (drop l.number l.rest)))
    ≡ x.arguments env (wants_of env l.fn.wants) (expressions_of (map expression l.fn.list)))

-- the violations reported so far are those of the operands so far
abbrev pub invariant-chain-loop-o : goal.invariant-chain-loop-o
invariant-chain-loop-o l =
    (t : Option Violation) (m : Mode) (e : s.Expression) → Reports t l.fn.diagnostics l.fn.left (x.judge l.fn.env (x.first_operand m) e)
    → (f : s.Expression) × Reports t l.diagnostics l.left (x.judge l.env (x.first_operand m) f)
    × (chain_of f (map operation (drop l.o-index l.rest)) ≡ chain_of e (map operation l.fn.rest))

-- the violations reported so far are those of the selectors so far
abbrev pub invariant-judge_designator-loop-s : goal.invariant-judge_designator-loop-s
invariant-judge_designator-loop-s l =
    (j : Judged Entity) × Reports l.fn.diagnostics l.diagnostics l.part j
    × (x.apply_selectors l.env j (selectors_of (map selector (drop l.s-index l.s-items))) ≡ x.designate l.fn.env (designator l.fn.designated))

-- the violations reported so far are those of the indices so far
abbrev pub invariant-select_elements-loop-i : goal.invariant-select_elements-loop-i
invariant-select_elements-loop-i l =
    (t : Option Violation) (j : Judged Entity) → Reports t l.fn.diagnostics l.fn.part j
    → (k : Judged Entity) × Reports t l.diagnostics l.part k
    × (x.apply_indices l.env k (indices_of (map index (drop l.i-index l.indices))) ≡ x.apply_indices l.fn.env j (indices_of (map index l.fn.indices)))
