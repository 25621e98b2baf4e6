-- Standard functions return what the definitions say.
use Rattle.std.proofs.Common.{◌≡◌, ℤ, pos, negsuc, Bool, true, false, refl, subst}
use Rattle.std.specs.Prelude.{◌+ℤ◌, nat_abs}
use Rattle.cp_model.specs.Abstract as a
use Rattle.cp_model.specs.Abstract.{BaseType, Char, Integer}
use Rattle.cp_model.specs.Types.{base_of_type, first_ordinal, last_ordinal}
use Rattle.cp_model.specs.Operators.{integer_result}
use Rattle.cp_model.specs.Outcomes.{guard}
use Rattle.cp_model.specs.Places.{TypedValue, ordinal_of, simple_value, within}
use Rattle.cp_model.specs.declared.state.Fault.TheVariants as fault
use Rattle.cp_law_typing.specs.Judgement as typed
use Rattle.cp_law_typing.specs.Judgement.{StandardFunction, function_name}
use Rattle.cp_law_typing.specs.StaticTypes.{operator_type}
use Rattle.cp_model_program.specs.Terms.{Abs, Chr, Ord, Shift}
use Rattle.cp_model_program.specs.Functions.{in_range, unless}
use Rattle.cp_model_program.specs.TermsFor.{Agrees, FunctionFor, IsEmptyFunction, result_base}

pub integer_agrees : (n : ℤ) → Agrees Integer (integer_result n) (in_range n)
integer_agrees n = by (within (negsuc 32767) (pos 32767) n)
  where
    by : (b : Bool) → Agrees Integer (guard b 3 (simple_value Integer n)) (unless b fault.Overflow n)
    by true = (refl, refl)
    by false = refl

range_agrees : (c : BaseType) (b : Bool) (n : ℤ) → Agrees c (guard b 1 (simple_value c n)) (unless b fault.Range n)
range_agrees c true n = (refl, refl)
range_agrees c false n = refl

pub abs_represents : (of : BaseType) → FunctionFor (function_name typed.Abs) Abs of Integer
abs_represents of v is = integer_agrees (pos (nat_abs (ordinal_of v)))

pub ord_represents : (of : BaseType) → FunctionFor (function_name typed.Ord) Ord of Integer
ord_represents of v is = integer_agrees (ordinal_of v)

pub chr_represents : (of : BaseType) → FunctionFor (function_name typed.Chr) Chr of Char
chr_represents of v is = range_agrees Char (within (pos 0) (pos 127) (ordinal_of v)) (ordinal_of v)

shift_agrees : (v : TypedValue) (by : ℤ) (b c : BaseType) → b ≡ c
    → Agrees c (guard (within (first_ordinal b) (last_ordinal b) (ordinal_of v +ℤ by)) 1 (simple_value b (ordinal_of v +ℤ by)))
    (unless (within (first_ordinal c) (last_ordinal c) (ordinal_of v +ℤ by)) fault.Range (ordinal_of v +ℤ by))
shift_agrees v by b c is =
    subst (λ z. Agrees z (guard (within (first_ordinal b) (last_ordinal b) (ordinal_of v +ℤ by)) 1 (simple_value b (ordinal_of v +ℤ by)))
    (unless (within (first_ordinal z) (last_ordinal z) (ordinal_of v +ℤ by)) fault.Range (ordinal_of v +ℤ by))) is
    (range_agrees b (within (first_ordinal b) (last_ordinal b) (ordinal_of v +ℤ by)) (ordinal_of v +ℤ by))

pub succ_represents : (of : BaseType) → FunctionFor (function_name typed.Succ) (Shift (pos 1) (first_ordinal of) (last_ordinal of)) of of
succ_represents of v is = shift_agrees v (pos 1) (base_of_type v.type) of is

pub pred_represents : (of : BaseType) → FunctionFor (function_name typed.Pred) (Shift (negsuc 0) (first_ordinal of) (last_ordinal of)) of of
pred_represents of v is = shift_agrees v (negsuc 0) (base_of_type v.type) of is

pub empty_represents : IsEmptyFunction (function_name typed.Empty)
empty_represents v = refl

pub base_of_operator : (o : a.Operator) → base_of_type (operator_type o) ≡ result_base o
base_of_operator a.Add = refl
base_of_operator a.Subtract = refl
base_of_operator a.Multiply = refl
base_of_operator a.Divide = refl
base_of_operator a.Modulo = refl
base_of_operator a.And = refl
base_of_operator a.Or = refl
base_of_operator a.Equal = refl
base_of_operator a.Unequal = refl
base_of_operator a.Less = refl
base_of_operator a.Greater = refl
base_of_operator a.AtMost = refl
base_of_operator a.AtLeast = refl
