-- The rules of an argument in two parts: those that apply whatever is broken in it, and those about
-- its type.
use Rattle.std.specs.Prelude.{ℕ, Bool, true, [], nat_eq}
use Rattle.cp_model.specs.Syntax as s
use Rattle.cp_model.specs.declared.rules.Rule.TheVariants.{C2}
use Rattle.cp_model.specs.declared.rules.Want.{Want}
use Rattle.cp_model.specs.declared.rules.Want.TheVariants as want
use Rattle.cp_model.specs.RulesJudged.{Judged, Violations, guard}
use Rattle.cp_model.specs.RulesEnvironment.{Environment, integer, char, queue, base_of, is_base, is_simple}
use Rattle.cp_model.specs.RulesNames.{first_token, c10_variable}
use Rattle.cp_model.specs.RulesExpressions.{fits_type, c10_by_reference}

abbrev pub form_rules : Environment → Want → s.Expression → Violations
form_rules env (want.Parameter p) e = c10_by_reference env p.by_reference e
form_rules env want.CharVariable e = c10_variable env e
form_rules env w e = []

abbrev pub type_rule : Environment → Want → s.Expression → ℕ → Judged ℕ
type_rule env (want.Parameter p) e t = fits_type env p.by_reference p.of e t
type_rule env want.Simple e t = guard (is_simple env t) C2 (first_token e) t
type_rule env want.Integer e t = guard (is_base integer (base_of env t)) C2 (first_token e) t
type_rule env want.CharVariable e t = guard (is_base char (base_of env t)) C2 (first_token e) t
type_rule env want.QueueVariable e t = guard (nat_eq t queue) C2 (first_token e) t

abbrev pub is_standard_type : Environment → Want → ℕ → Bool
is_standard_type env (want.Parameter p) t = true
is_standard_type env want.Simple t = is_simple env t
is_standard_type env want.Integer t = is_base integer (base_of env t)
is_standard_type env want.CharVariable t = is_base char (base_of env t)
is_standard_type env want.QueueVariable t = nat_eq t queue
