-- The violations of an expression are those of its parts.
use Rattle.std.proofs.Common.{◌≡◌, ◌≤◌, ◌+◌, ℕ, zero, suc, List, [], ◌∷◌, Option, Some, None, refl, ap, sym, map, length, drop, slice_get, arith}
use Rattle.std.specs.Option.{option_and}
use Rattle.cp_model.specs.Syntax as s
use Rattle.cp_model.specs.Syntax.{chain_of}
use Rattle.cp_model.specs.declared.rules.Violation.{Violation}
use Rattle.cp_model.specs.declared.rules.Entity.{Entity}
use Rattle.cp_model.specs.declared.rules.Mode.{Mode}
use Rattle.cp_model.specs.declared.rules.Mode.TheVariants as mode
use Rattle.cp_model.specs.declared.rules.Want.{Want}
use Rattle.cp_model.specs.declared.rules.Want.TheVariants as want
use Rattle.cp_model.specs.declared.tree.Expression.{Expression}
use Rattle.cp_model.specs.declared.tree.Operation.{Operation}
use Rattle.cp_model.specs.RulesJudged.{Judged, Sound, Broken, also, both, then_judge, meaning_of}
use Rattle.cp_model.specs.RulesEnvironment.{Environment}
use Rattle.cp_model.specs.RulesNames as n
use Rattle.cp_model.specs.RulesExpressions.{argument, judge, first_operand, c2_operands, wants_in, result_of, first_type, more_arguments}
use Rattle.cp_model.specs.View.{expression, operation, expressions_of}
use Rattle.cp_rules_body.specs.Arguments.{form_rules, type_rule}
use Rattle.cp_rules_body.specs.Callees.{wants_if, wants_known, callee, callee_if, result_if, ReportsCallee}
use Rattle.cp_rules_body.specs.ExpressionParts.{argument_for}
use Rattle.cp_rules_body.specs.Reports.{Reports}
use Rattle.cp_rules_body.specs.declared.callees.Callee.{Callee}
use Rattle.cp_rules_body.proofs.Reports.{both_some, both_left, both_right}

-- ---- chains

pub first_operand_again : (m : Mode) → first_operand (first_operand m) ≡ first_operand m
first_operand_again mode.Value = refl
first_operand_again mode.Variable = refl
first_operand_again mode.FirstOperand = refl
first_operand_again mode.Queue = refl

judge_binary : (env : Environment) (m : Mode) (e : s.Expression) (o : s.Operation) (os : List s.Operation)
    → judge env m (chain_of e (o ∷ os)) ≡ judge env (first_operand m) (chain_of e (o ∷ os))
judge_binary env m e o [] = ap (λ k. both (judge env k e) (judge env mode.Value o.operand) (c2_operands env o.operator o.at)) (sym (first_operand_again m))
judge_binary env m e o (p ∷ os) = judge_binary env m (s.Binary e o.operator o.at o.operand) p os

-- a chain of two or more operands is judged like a first operand
pub judge_chain : (env : Environment) (m : Mode) (e : s.Expression) (os : List Operation) → 1 ≤ length os
    → judge env m (chain_of e (map operation os)) ≡ judge env (first_operand m) (chain_of e (map operation os))
judge_chain env m e [] some = absurd (omega (arith, some))
judge_chain env m e (o ∷ os) some = judge_binary env m e (operation o) (map operation os)

-- ---- calls

pub count_expressions : (xs : List Expression) → n.count_of (expressions_of (map expression xs)) ≡ length xs
count_expressions [] = refl
count_expressions (x ∷ xs) = ap suc (count_expressions xs)

wants_known_reported : (env : Environment) (e : Option Entity) (j : Judged Entity) → e ≡ meaning_of j → wants_known env e ≡ n.wants_named env j
wants_known_reported env e (Sound y) h = ap (wants_known env) h
wants_known_reported env e (Broken v vs) h = ap (wants_known env) h

pub wants_reported : (env : Environment) (e : Option Entity) (k : Judged Entity) (c : Option Callee) (j : Judged n.Callee) → e ≡ meaning_of k → callee_if env c ≡ meaning_of j
    → wants_if env e c ≡ wants_in env k j
wants_reported env e k None (Sound y) g h = absurd (cc)
wants_reported env e k None (Broken v vs) g h = wants_known_reported env e k g
wants_reported env e k (Some c) (Sound y) g h = let same : callee env c ≡ y = cc in ap (λ z. z.wants) same
wants_reported env e k (Some c) (Broken v vs) g h = absurd (cc)

pub result_reported : (env : Environment) (t0 t1 t2 : Option Violation) (c : Option Callee) (t : Option ℕ) (jc : Judged n.Callee) (ja : Judged ℕ)
    → ReportsCallee env t0 t1 c jc → Reports t1 t2 t ja → Reports t0 t2 (result_if env c t) (both jc ja (result_of env))
result_reported env t0 t1 t2 None t jc ja h g = both_left (result_of env) t0 t1 t2 jc ja t h g
result_reported env t0 t1 t2 (Some c) None jc ja h g = both_right (result_of env) t0 t1 t2 jc ja (Some (callee env c)) h g
result_reported env t0 t1 t2 (Some c) (Some t) jc ja h g =
    both_some (result_of env) t0 t1 t2 jc ja t2 (callee env c) t (Some (n.given_type env t c.gives)) h g (refl, refl)

-- ---- arguments

pub argument_parts : (env : Environment) (w : Want) (e : s.Expression) (j : Judged ℕ) → argument env w e j ≡ also (form_rules env w e) (then_judge j (type_rule env w e))
argument_parts env (want.Parameter p) e j = refl
argument_parts env want.Simple e j = refl
argument_parts env want.Integer e j = refl
argument_parts env want.CharVariable e j = refl
argument_parts env want.QueueVariable e j = refl

-- the argument with number k, and those after it
pub more_step : (env : Environment) (j : Judged ℕ) (ws : List Want) (k m : ℕ) (e : s.Expression) (es : s.Expressions) → k + 1 ≡ m
    → more_arguments env j (drop k ws) (s.MoreExpressions e es) ≡ more_arguments env (both j (argument_for env (slice_get ws k) e) first_type) (drop m ws) es
more_step env j ws k zero e es next = absurd (omega (arith, next))
more_step env j [] zero (suc m) e es next = refl
more_step env j [] (suc k) (suc m) e es next = refl
more_step env j (w ∷ ws) zero (suc m) e es next =
    let same : 0 ≡ m = omega (arith, next) in
    ap (λ i. more_arguments env (both j (argument_for env (Some w) e) first_type) (drop i ws) es) same
more_step env j (w ∷ ws) (suc k) (suc m) e es next = more_step env j ws k m e es (omega (arith, next))

pub first_reported : (t0 t1 t2 : Option Violation) (a b : Option ℕ) (ja jb : Judged ℕ) → Reports t0 t1 a ja → Reports t1 t2 b jb → Reports t0 t2 (option_and b a) (both ja jb first_type)
first_reported t0 t1 t2 None None ja jb h g = both_left first_type t0 t1 t2 ja jb None h g
first_reported t0 t1 t2 None (Some y) ja jb h g = both_left first_type t0 t1 t2 ja jb (Some y) h g
first_reported t0 t1 t2 (Some x) None ja jb h g = both_right first_type t0 t1 t2 ja jb (Some x) h g
first_reported t0 t1 t2 (Some x) (Some y) ja jb h g = both_some first_type t0 t1 t2 ja jb t2 x y (Some x) h g (refl, refl)
