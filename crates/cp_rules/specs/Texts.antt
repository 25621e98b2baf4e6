-- Whole texts: their violations, and the result of judging them.
use Rattle.std.specs.Prelude.{◌≡◌, ◌+◌, ◌++◌, ℕ, Some, Result, Ok, Err, slice_get}
use Rattle.cp_model.specs.Syntax as s
use Rattle.cp_model.specs.RulesEnvironment.{Environment}
use Rattle.cp_model.specs.RulesJudged.{Violations}
use Rattle.cp_model.specs.RulesStatements.{statements}
use Rattle.cp_model.specs.RulesNeeds.{need_statements}
use Rattle.cp_model.specs.Rules.{Accepted, c13_initial, first_violation}
use Rattle.cp_rules.specs.declared.text.RuleError.{RuleError}
use Rattle.cp_rules.specs.declared.text.RuleError.TheVariants as refused

-- The violations in the body of the initial process, whose variables take `words` words.
abbrev pub body_violations : Environment → ℕ → s.Body → Violations
body_violations env words b =
    let body = statements env b.list in
    body ++ c13_initial b.at (1 + words + need_statements env b.list) body

-- The list is empty if the text is accepted, or else begins with the violation that is reported for
-- it.
abbrev pub Lists : s.Tree → Violations → Type 0
Lists t list = slice_get list 0 ≡ first_violation t

-- The text is accepted, or else this is the violation that is reported for it.
abbrev pub Judges : s.Tree → Result (Unit {0}) RuleError → Type 0
Judges t (Ok _) = Accepted t
Judges t (Err (refused.Broken v)) = first_violation t ≡ Some v
Judges t (Err refused.Memory) = Unit {0}
