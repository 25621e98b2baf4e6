-- Expressions: their types, and the rules inside them.
use Rattle.std.specs.Prelude.{ℕ, Bool, true, false, ◌&&◌, List, [], ◌∷◌, Option, None, Some, nat_eq}
use Rattle.cp_model.specs.Syntax as s
use Rattle.cp_model.specs.declared.tree.Operator.{Operator}
use Rattle.cp_model.specs.declared.tree.Operator.TheVariants as operator
use Rattle.cp_model.specs.declared.rules.Rule.TheVariants.{C2, C10}
use Rattle.cp_model.specs.declared.rules.Entity.{Entity}
use Rattle.cp_model.specs.declared.rules.Want.{Want}
use Rattle.cp_model.specs.declared.rules.Want.TheVariants as want
use Rattle.cp_model.specs.declared.rules.Mode.{Mode}
use Rattle.cp_model.specs.declared.rules.Mode.TheVariants as mode
use Rattle.cp_model.specs.RulesJudged.{Judged, Sound, Broken, Violations, also, both, then_judge, guard}
use Rattle.cp_model.specs.RulesEnvironment.{Environment, integer, boolean, char, queue, base_of, is_base, is_simple, agree, c1_named}
use Rattle.cp_model.specs.RulesNames.{Callee, first_token, count_of, member_of, c2_array, c2_index, before_selectors, c2_c5_c8_named, function_of, wants_named, c2_indexed, given_type, value_of, c10_variable}

-- ---- C2, operands

-- what an operator requires of both operands (this base, or any one base), and the type of its
-- result
pub record Signature : Type 0 where
  pub wants : Option ℕ
  pub gives : ℕ

abbrev pub signature : Operator → Signature
signature operator.Add = record { wants = Some integer; gives = integer }
signature operator.Subtract = record { wants = Some integer; gives = integer }
signature operator.Multiply = record { wants = Some integer; gives = integer }
signature operator.Divide = record { wants = Some integer; gives = integer }
signature operator.Modulo = record { wants = Some integer; gives = integer }
signature operator.And = record { wants = Some boolean; gives = boolean }
signature operator.Or = record { wants = Some boolean; gives = boolean }
signature _ = record { wants = None; gives = boolean }

abbrev pub operands_fit : Option ℕ → Option ℕ → Option ℕ → Bool
operands_fit (Some w) a b = is_base w a && is_base w b
operands_fit None (Some a) b = is_base a b
operands_fit None None b = false

-- C2: operands don't fit
abbrev pub c2_operands : Environment → Operator → ℕ → ℕ → ℕ → Judged ℕ
c2_operands env o at a b = guard (operands_fit (signature o).wants (base_of env a) (base_of env b)) C2 at (signature o).gives

-- C2: a sign requires an integer, `not` a Boolean
abbrev pub c2_operand : Environment → ℕ → ℕ → ℕ → Judged ℕ
c2_operand env base at t = guard (is_base base (base_of env t)) C2 at base

-- ---- arguments

-- how the first name of an argument is judged
abbrev pub parameter_mode : Bool → Mode
parameter_mode true = mode.Variable
parameter_mode false = mode.Value

abbrev pub mode_of : Want → Mode
mode_of (want.Parameter p) = parameter_mode p.by_reference
mode_of want.CharVariable = mode.Variable
mode_of want.QueueVariable = mode.Queue
mode_of _ = mode.Value

-- C2: a value argument doesn't agree. C10: a `var` argument isn't of the parameter's very type. If
-- the parameter's type is broken, nothing is reported
abbrev pub fits_type : Environment → Bool → Option ℕ → s.Expression → ℕ → Judged ℕ
fits_type env by_reference None e t = Sound t
fits_type env true (Some u) e t = guard (nat_eq t u) C10 (first_token e) t
fits_type env false (Some u) e t = guard (agree env u t) C2 (first_token e) t

abbrev pub c10_by_reference : Environment → Bool → s.Expression → Violations
c10_by_reference env true e = c10_variable env e
c10_by_reference env false e = []

-- an argument whose expression has been judged
abbrev pub argument : Environment → Want → s.Expression → Judged ℕ → Judged ℕ
argument env (want.Parameter p) e j = also (c10_by_reference env p.by_reference e) (then_judge j (fits_type env p.by_reference p.of e))
argument env want.Simple e j = then_judge j (λ t. guard (is_simple env t) C2 (first_token e) t)
argument env want.Integer e j = then_judge j (λ t. guard (is_base integer (base_of env t)) C2 (first_token e) t)
argument env want.CharVariable e j = also (c10_variable env e) (then_judge j (λ t. guard (is_base char (base_of env t)) C2 (first_token e) t))
argument env want.QueueVariable e j = then_judge j (λ t. guard (nat_eq t queue) C2 (first_token e) t)

-- what is required of the arguments; nothing if it isn't known what is called
abbrev pub wants_in : Environment → Judged Entity → Judged Callee → List Want
wants_in env e (Sound c) = c.wants
wants_in env e (Broken v vs) = wants_named env e

abbrev pub first_type : ℕ → ℕ → Judged ℕ
first_type t u = Sound t

abbrev pub result_of : Environment → Callee → ℕ → Judged ℕ
result_of env c t = Sound (given_type env t c.gives)

-- the first operand of an argument, or the name of a call that is an argument, isn't the argument
-- itself: it is used as a value. If C10 judges the argument, it judges the place of that name
abbrev pub first_operand : Mode → Mode
first_operand mode.Queue = mode.Value
first_operand mode.Variable = mode.FirstOperand
first_operand m = m

-- ---- expressions

abbrev mutual
  -- the type of an expression
  pub judge : Environment → Mode → s.Expression → Judged ℕ
  judge env m (s.Number at n) = Sound integer
  judge env m (s.Character at n) = Sound char
  judge env m (s.Designated d) = also (c2_c5_c8_named env m d) (then_judge (designate env d) (value_of env m d))
  -- the arguments are judged whatever is broken in the name
  judge env m (s.Call d es) =
      let called = designate env d in
      let callee = also (c2_indexed env m d) (then_judge called (function_of env m d (count_of es))) in
      also (c2_c5_c8_named env (first_operand m) d) (both callee (arguments env (wants_in env called callee) es) (result_of env))
  judge env m (s.Parenthesized at e) = judge env mode.Value e
  judge env m (s.Not at e) = then_judge (judge env mode.Value e) (c2_operand env boolean at)
  judge env m (s.Signed sign at e) = then_judge (judge env mode.Value e) (c2_operand env integer at)
  judge env m (s.Binary a o at b) = both (judge env (first_operand m) a) (judge env mode.Value b) (c2_operands env o at)

  -- what a designator represents
  pub designate : Environment → s.Designator → Judged Entity
  designate env (s.Designate x ss) = apply_selectors env (then_judge (c1_named env x) (before_selectors env x ss)) ss

  pub apply_selectors : Environment → Judged Entity → s.Selectors → Judged Entity
  apply_selectors env e s.NoSelectors = e
  apply_selectors env e (s.MoreSelectors y ys) = apply_selectors env (select env e y) ys

  pub select : Environment → Judged Entity → s.Selector → Judged Entity
  select env e (s.Field at x) = then_judge e (member_of env at x)
  select env e (s.Indexed is) = apply_indices env e is

  pub apply_indices : Environment → Judged Entity → s.Indices → Judged Entity
  apply_indices env e s.NoIndices = e
  apply_indices env e (s.MoreIndices at i is) =
      apply_indices env (both (then_judge e (c2_array env at)) (judge env mode.Value i) (c2_index env (first_token i))) is

  -- judges the arguments against what is required of them; the result is the type of the first
  pub arguments : Environment → List Want → s.Expressions → Judged ℕ
  arguments env ws s.NoExpressions = Sound integer
  arguments env [] (s.MoreExpressions e es) = more_arguments env (judge env mode.Value e) [] es
  arguments env (w ∷ ws) (s.MoreExpressions e es) = more_arguments env (argument env w e (judge env (mode_of w) e)) ws es

  -- judges the arguments after those that have been judged so far
  pub more_arguments : Environment → Judged ℕ → List Want → s.Expressions → Judged ℕ
  more_arguments env j ws s.NoExpressions = j
  more_arguments env j [] (s.MoreExpressions e es) = more_arguments env (both j (judge env mode.Value e) first_type) [] es
  more_arguments env j (w ∷ ws) (s.MoreExpressions e es) =
      more_arguments env (both j (argument env w e (judge env (mode_of w) e)) first_type) ws es
