-- Expressions: the value of an expression in which no user call is left, and the place of a
-- designator.
--
-- Evaluation goes from left to right: operands before their operator, and indices in the order in
-- which they are written.
use Rattle.std.specs.Prelude.{[], codes, if◌then◌else◌, neg_ℤ, pos}
use Rattle.cp_model.specs.Abstract.{At, Binary, Call, Char, Designator, Expression, Expressions, Integer, Known, Letter, Literal, MoreExpressions, Name, Negative, NoExpression, Not, Part, Plain, Positive, Use}
use Rattle.std.specs.Str.{bytes_eq}
use Rattle.cp_model.specs.Integers.{same_integer}
use Rattle.cp_model.specs.Stores.{Store}
use Rattle.cp_model.specs.Outcomes.{Fault, Gives, Outcome, and_then}
use Rattle.cp_model.specs.Environments.{Environment, meaning}
use Rattle.cp_model.specs.Places.{Place, TypedValue, field_place, indexed_place, ordinal_of, place_of_meaning, read, simple_value, truth_value, value_of_meaning}
use Rattle.cp_model.specs.Operators.{Clock, apply_operator, integer_result, realtime, standard_function}

abbrev pub value_of_name : Clock → Environment → Store → Name → Outcome TypedValue
value_of_name clock env store x =
    if bytes_eq x (codes "realtime")
    then integer_result (pos (realtime clock))
    else Gives (value_of_meaning env store (meaning env x))

-- The name of a designator that is a bare name, such as that of a standard routine or a component.
abbrev pub name_of : Designator → Name
name_of (Plain x) = x
name_of _ = []

abbrev mutual
  pub value : Clock → Environment → Store → Expression → Outcome TypedValue
  value clock env store (Literal n) = Gives (simple_value Integer (pos n))
  value clock env store (Letter n) = Gives (simple_value Char (pos n))
  value clock env store (Use (Plain x)) = value_of_name clock env store x
  value clock env store (Use d) = and_then (place clock env store d) (λ p. Gives (read store p))
  value clock env store (Call d arguments) =
      and_then (first_argument clock env store arguments) (λ v. standard_function (name_of d) v)
  value clock env store (Not e) =
      and_then (value clock env store e) (λ v. Gives (truth_value (same_integer (ordinal_of v) (pos 0))))
  value clock env store (Negative e) = and_then (value clock env store e) (λ v. integer_result (neg_ℤ (ordinal_of v)))
  value clock env store (Positive e) = value clock env store e
  value clock env store (Binary o a b) =
      and_then (value clock env store a) (λ v. and_then (value clock env store b) (λ w. apply_operator o v w))
  value clock env store (Known b n) = Gives (simple_value b n)

  pub place : Clock → Environment → Store → Designator → Outcome Place
  place clock env store (Plain x) = Gives (place_of_meaning env store (meaning env x))
  place clock env store (Part d x) = and_then (place clock env store d) (λ p. Gives (field_place x p))
  place clock env store (At d e) =
      and_then (place clock env store d) (λ p. and_then (value clock env store e) (λ v. indexed_place p (ordinal_of v)))

  pub first_argument : Clock → Environment → Store → Expressions → Outcome TypedValue
  first_argument clock env store NoExpression = Fault 9
  first_argument clock env store (MoreExpressions e rest) = value clock env store e
