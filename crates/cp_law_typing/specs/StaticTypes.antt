-- Static types: the type of a designator's place and of an expression's value, wherever they are
-- evaluated.
--
-- They depend only on the environment of the meaning. A value has exactly the type that is given
-- here (the `full_range` of a base if it is computed), so it keeps its type when a call is replaced
-- by its value.
use Rattle.std.specs.Prelude.{codes, if◌then◌else◌, Option, None, Some, Bool}
use Rattle.std.specs.Str.{bytes_eq}
use Rattle.cp_model.specs.Abstract.{Add, At, Binary, Boolean, Call, Char, Designator, Divide, Expression, Expressions, Integer, Known, Letter, Literal, Modulo, MoreExpressions, Multiply, Name, Negative, NoExpression, Not, Operator, Part, Plain, Positive, Subtract, Use}
use Rattle.cp_model.specs.Types.{ArrayOf, GlobalScope, NoType, ResolvedType, base_of_type, full_range, named_type}
use Rattle.cp_model.specs.Environments.{Environment, IsConstant, IsVariable, Meaning, meaning}
use Rattle.cp_model.specs.Places.{field_type}
use Rattle.cp_model.specs.Expressions.{name_of}
use Rattle.cp_model.specs.Calls.{Callee, callee}

-- ---- Designators

-- the type of the place that a name means
abbrev pub place_type_meant : Meaning → ResolvedType
place_type_meant (IsVariable at v) = v.type
place_type_meant _ = NoType

abbrev pub element_type : ResolvedType → ResolvedType
element_type (ArrayOf low high t) = t
element_type _ = NoType

abbrev pub place_type : Environment → Designator → ResolvedType
place_type env (Plain x) = place_type_meant (meaning env x)
place_type env (Part d x) = field_type x (place_type env d)
place_type env (At d e) = element_type (place_type env d)

-- ---- Expressions

abbrev pub value_type_meant : Meaning → ResolvedType
value_type_meant (IsConstant b n) = full_range b
value_type_meant m = place_type_meant m

abbrev pub is_clock : Name → Bool
is_clock x = bytes_eq x (codes "realtime")

abbrev pub named_value_type : Environment → Name → ResolvedType
named_value_type env x = if is_clock x then full_range Integer else value_type_meant (meaning env x)

abbrev pub own_value_type : Environment → Designator → ResolvedType
own_value_type env (Plain x) = named_value_type env x
own_value_type env d = place_type env d

-- the type of what a function returns
abbrev pub answer_type : GlobalScope → Option Name → ResolvedType
answer_type g None = NoType
answer_type g (Some t) = full_range (base_of_type (named_type g t))

-- the type of a user's function, if one is called, or else this type
abbrev pub called_type : GlobalScope → Option Callee → ResolvedType → ResolvedType
called_type g (Some c) t = answer_type g c.routine.result
called_type g None t = t

-- the last case is `chr`
abbrev pub standard_type : Name → ResolvedType → ResolvedType
standard_type f t =
    if bytes_eq f (codes "abs") then full_range Integer
    else if bytes_eq f (codes "succ") then full_range (base_of_type t)
    else if bytes_eq f (codes "pred") then full_range (base_of_type t)
    else if bytes_eq f (codes "ord") then full_range Integer
    else if bytes_eq f (codes "empty") then full_range Boolean
    else full_range Char

abbrev pub operator_type : Operator → ResolvedType
operator_type Add = full_range Integer
operator_type Subtract = full_range Integer
operator_type Multiply = full_range Integer
operator_type Divide = full_range Integer
operator_type Modulo = full_range Integer
operator_type _ = full_range Boolean

abbrev mutual
  pub expression_type : Environment → Expression → ResolvedType
  expression_type env (Literal n) = full_range Integer
  expression_type env (Letter n) = full_range Char
  expression_type env (Use d) = called_type env.globals (callee env d) (own_value_type env d)
  expression_type env (Call d es) = called_type env.globals (callee env d) (standard_type (name_of d) (first_type env es))
  expression_type env (Not e) = full_range Boolean
  expression_type env (Negative e) = full_range Integer
  expression_type env (Positive e) = expression_type env e
  expression_type env (Binary o a b) = operator_type o
  expression_type env (Known b n) = full_range b

  pub first_type : Environment → Expressions → ResolvedType
  first_type env NoExpression = NoType
  first_type env (MoreExpressions e es) = expression_type env e
