-- The parts of the judgement of an expression that single functions of the code compute.
use Rattle.std.specs.Prelude.{ℕ, List, Option, Some, None}
use Rattle.cp_model.specs.Syntax as s
use Rattle.cp_model.specs.Syntax.{chain_of}
use Rattle.cp_model.specs.declared.rules.Violation.{Violation}
use Rattle.cp_model.specs.declared.rules.Entity.{Entity}
use Rattle.cp_model.specs.declared.rules.Mode.{Mode}
use Rattle.cp_model.specs.declared.rules.Mode.TheVariants as mode
use Rattle.cp_model.specs.declared.rules.Want.{Want}
use Rattle.cp_model.specs.declared.rules.ArrayPart.{ArrayPart}
use Rattle.cp_model.specs.RulesJudged.{Judged, also, then_judge}
use Rattle.cp_model.specs.RulesEnvironment.{Environment}
use Rattle.cp_model.specs.RulesNames.{Callee, value_of, c2_c5_c8_named, c2_indexed, function_of, c2_array}
use Rattle.cp_rules_body.specs.Arguments.{type_rule}
use Rattle.cp_rules_body.specs.Reports.{Reports}
use Rattle.cp_model.specs.RulesExpressions.{judge, designate, argument, mode_of, first_operand}

-- The type of a designator.
abbrev pub type_of_designator : Environment → Mode → s.Designator → Judged ℕ
type_of_designator env m d = then_judge (designate env d) (value_of env m d)

abbrev pub judge_use : Environment → Mode → s.Designator → Judged ℕ
judge_use env m d = also (c2_c5_c8_named env m d) (type_of_designator env m d)

-- The function that is called.
abbrev pub function_if : Environment → Mode → s.Designator → ℕ → Judged Entity → Judged Callee
function_if env m d n j = then_judge j (function_of env m d n)

abbrev pub callee_of : Environment → Mode → s.Designator → ℕ → Judged Callee
callee_of env m d n = also (c2_indexed env m d) (function_if env m d n (designate env d))

-- The operators after an operand that was judged, and their right operands.
abbrev pub ReportsChain : Environment → Option Violation → Option Violation → Option ℕ → Option ℕ → List s.Operation → Type 0
ReportsChain env old new left answer os =
    (t : Option Violation) (m : Mode) (e : s.Expression) → Reports t old left (judge env (first_operand m) e) → Reports t new answer (judge env (first_operand m) (chain_of e os))

-- An argument, judged against the want for it if there is one.
abbrev pub argument_for : Environment → Option Want → s.Expression → Judged ℕ
argument_for env None e = judge env mode.Value e
argument_for env (Some w) e = argument env w e (judge env (mode_of w) e)

-- An array that is indexed.
abbrev pub array_of : Environment → ℕ → Judged Entity → Judged ArrayPart
array_of env at j = then_judge j (c2_array env at)

abbrev pub type_of_argument : Environment → Want → s.Expression → Judged ℕ
type_of_argument env w e = then_judge (judge env (mode_of w) e) (type_rule env w e)
