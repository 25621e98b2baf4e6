-- What is found in registers is what the definitions find.
use Rattle.std.proofs.Math.ListN.{get_or}
use Rattle.std.proofs.Common.{arith, Box, Global, ℕ, length, ◌≤◌, ◌<◌, ◌≡◌, ℤ, List, [], ◌∷◌, map, Option, None, Some, Result, Ok, Err, IfSome, refl, ap, sym, subst, ◌∙◌, to_z, of_z, w32}
use Rattle.cp_model.specs.declared.state.Fault.{Fault}
use Rattle.cp_model_machine.specs.Values.{View, apply, bind, value_of}
use Rattle.cp_model.specs.Abstract as operator
use Rattle.cp_model.specs.Erase.{operator_of}
use Rattle.cp_model.specs.declared.tree.Operator.{Operator}
use Rattle.cp_model_program.specs.Terms as plain
use Rattle.cp_program.specs.declared.term.Application.{Application}
use Rattle.cp_program.specs.declared.term.Application.TheFolds.{fold-roll-Application, fold-roll-Operand}
use Rattle.cp_program.specs.declared.term.Application.TheVariants as application_case
use Rattle.cp_program.specs.declared.term.Operand.TheVariants as operand_case
use Rattle.cp_program.specs.View.{After, Before, PlainApplication, PlainIndex, application_layer, index_layer, operand_layer, place_expression_layer, term_layer}
use Rattle.cp_program.specs.declared.term.Term.{Term}
use Rattle.cp_program.specs.Reaches.{apply_operation, chain_value}
use Rattle.cp_program.specs.View as view

-- A value that was found is the result.
pub reported : {A : Type 0} (o : Option A) (n : A) (r : Result A Fault) → o ≡ Some n → IfSome o (λ m. r ≡ Ok m) → r ≡ Ok n
reported o n r is h = subst (λ x. IfSome x (λ m. r ≡ Ok m)) is h

-- What is found of one result is found of the same result in other words.
pub found : {A : Type 0} (o : Option A) (r s : Result A Fault) → r ≡ s → IfSome o (λ m. r ≡ Ok m) → IfSome o (λ m. s ≡ Ok m)
found o r s is h = subst (λ x. IfSome o (λ m. x ≡ Ok m)) is h

-- A number that was found is the result.
pub found_as : {A : Type 0} (o : Option A) (n : A) (r : Result A Fault) → r ≡ Ok n → IfSome o (λ m. n ≡ m) → IfSome o (λ m. r ≡ Ok m)
found_as None n r is h = h
found_as (Some m) n r is h = is ∙ ap (λ k. Ok k) h

-- A chain of one application.
pub chain_lone : (v : View) (n : ℤ) (x : Application) (xs : List Application) → xs ≡ x ∷ []
    → apply_operation v n (view.application x) ≡ chain_value v n (map view.application xs)
chain_lone v n x xs is =
    keep (apply_operation v n (view.application x)) ∙ ap (λ ys. chain_value v n (map view.application ys)) (sym is)
  where
    keep : (r : Result ℤ Fault) → r ≡ bind r (λ z. Ok z)
    keep (Ok z) = refl
    keep (Err f) = refl

-- A list with one item.
pub one : {A : Type 0} (xs : List A) (d : A) → 1 ≤ length xs → length xs < 2 → xs ≡ get_or xs 0 d ∷ []
one [] d h k = absurd (omega (arith, h))
one (x ∷ []) d h k = refl
one (x ∷ y ∷ ys) d h k = absurd (omega (arith, k))

-- ---- Applications as plain data

pub add_local : (at : ℕ) → view.application (application_case.AddLocal at) ≡ After operator.Add (view.local at)
add_local at =
    ap view.application (sym (application_case.rolls-AddLocal at))
    ∙ fold-roll-Application PlainApplication PlainIndex plain.Term plain.PlaceExpression plain.Term application_layer index_layer operand_layer place_expression_layer term_layer _

pub add_member : (at : ℕ) → view.application (application_case.AddMember at) ≡ After operator.Add (view.member at)
add_member at =
    ap view.application (sym (application_case.rolls-AddMember at))
    ∙ fold-roll-Application PlainApplication PlainIndex plain.Term plain.PlaceExpression plain.Term application_layer index_layer operand_layer place_expression_layer term_layer _

pub subtract_local : (at : ℕ) → view.application (application_case.SubtractLocal at) ≡ After operator.Subtract (view.local at)
subtract_local at =
    ap view.application (sym (application_case.rolls-SubtractLocal at))
    ∙ fold-roll-Application PlainApplication PlainIndex plain.Term plain.PlaceExpression plain.Term application_layer index_layer operand_layer place_expression_layer term_layer _

pub subtract_member : (at : ℕ) → view.application (application_case.SubtractMember at) ≡ After operator.Subtract (view.member at)
subtract_member at =
    ap view.application (sym (application_case.rolls-SubtractMember at))
    ∙ fold-roll-Application PlainApplication PlainIndex plain.Term plain.PlaceExpression plain.Term application_layer index_layer operand_layer place_expression_layer term_layer _

pub multiply_local : (at : ℕ) → view.application (application_case.MultiplyLocal at) ≡ After operator.Multiply (view.local at)
multiply_local at =
    ap view.application (sym (application_case.rolls-MultiplyLocal at))
    ∙ fold-roll-Application PlainApplication PlainIndex plain.Term plain.PlaceExpression plain.Term application_layer index_layer operand_layer place_expression_layer term_layer _

pub multiply_member : (at : ℕ) → view.application (application_case.MultiplyMember at) ≡ After operator.Multiply (view.member at)
multiply_member at =
    ap view.application (sym (application_case.rolls-MultiplyMember at))
    ∙ fold-roll-Application PlainApplication PlainIndex plain.Term plain.PlaceExpression plain.Term application_layer index_layer operand_layer place_expression_layer term_layer _

pub with_local : (o : Operator) (at : ℕ) → view.application (application_case.WithLocal o at) ≡ After (operator_of o) (view.local at)
with_local o at =
    ap view.application (sym (application_case.rolls-WithLocal o at))
    ∙ fold-roll-Application PlainApplication PlainIndex plain.Term plain.PlaceExpression plain.Term application_layer index_layer operand_layer place_expression_layer term_layer _

pub with_member : (o : Operator) (at : ℕ) → view.application (application_case.WithMember o at) ≡ After (operator_of o) (view.member at)
with_member o at =
    ap view.application (sym (application_case.rolls-WithMember o at))
    ∙ fold-roll-Application PlainApplication PlainIndex plain.Term plain.PlaceExpression plain.Term application_layer index_layer operand_layer place_expression_layer term_layer _

pub local_minus : (at : ℕ) → view.application (application_case.LocalMinus at) ≡ Before operator.Subtract (plain.Local at)
local_minus at =
    ap view.application (sym (application_case.rolls-LocalMinus at))
    ∙ fold-roll-Application PlainApplication PlainIndex plain.Term plain.PlaceExpression plain.Term application_layer index_layer operand_layer place_expression_layer term_layer _

pub member_minus : (at : ℕ) → view.application (application_case.MemberMinus at) ≡ Before operator.Subtract (plain.Member at)
member_minus at =
    ap view.application (sym (application_case.rolls-MemberMinus at))
    ∙ fold-roll-Application PlainApplication PlainIndex plain.Term plain.PlaceExpression plain.Term application_layer index_layer operand_layer place_expression_layer term_layer _

pub local_before : (o : Operator) (at : ℕ) → view.application (application_case.LocalBefore o at) ≡ Before (operator_of o) (plain.Local at)
local_before o at =
    ap view.application (sym (application_case.rolls-LocalBefore o at))
    ∙ fold-roll-Application PlainApplication PlainIndex plain.Term plain.PlaceExpression plain.Term application_layer index_layer operand_layer place_expression_layer term_layer _

pub member_before : (o : Operator) (at : ℕ) → view.application (application_case.MemberBefore o at) ≡ Before (operator_of o) (plain.Member at)
member_before o at =
    ap view.application (sym (application_case.rolls-MemberBefore o at))
    ∙ fold-roll-Application PlainApplication PlainIndex plain.Term plain.PlaceExpression plain.Term application_layer index_layer operand_layer place_expression_layer term_layer _

-- ---- Values of applications

-- A number of 32 bits, put into a word and read back.
abbrev pub kept : ℤ → ℤ
kept n = to_z w32 (of_z w32 n)

-- An operator with an operand whose value is known.
pub after_known : (v : View) (x y : ℤ) (o : operator.Operator) (right : plain.Term) (p : PlainApplication)
    → p ≡ After o right → value_of v right ≡ Ok y → kept x ≡ x → kept y ≡ y → apply_operation v x p ≡ apply o (kept x) (kept y)
after_known v x y o right p is known rx ry =
    ap (apply_operation v x) is ∙ (ap (λ r. bind r (λ z. apply o x z)) known ∙ (λ i. apply o (sym rx i) (sym ry i)))

-- The same for a word before the chain.
pub before_known : (v : View) (x y : ℤ) (o : operator.Operator) (left : plain.Root) (p : PlainApplication)
    → p ≡ Before o left → value_of v (plain.Item (plain.Rooted left)) ≡ Ok y → kept x ≡ x → kept y ≡ y → apply_operation v x p ≡ apply o (kept y) (kept x)
before_known v x y o left p is known rx ry =
    ap (apply_operation v x) is ∙ (ap (λ r. bind r (λ z. apply o z x)) known ∙ (λ i. apply o (sym ry i) (sym rx i)))

-- ---- Operands as plain data

pub operand_number : (n : ℤ) → view.operand (operand_case.Number n) ≡ plain.Number n
operand_number n =
    ap view.operand (sym (operand_case.rolls-Number n))
    ∙ fold-roll-Operand PlainApplication PlainIndex plain.Term plain.PlaceExpression plain.Term application_layer index_layer operand_layer place_expression_layer term_layer _

pub operand_local : (at : ℕ) → view.operand (operand_case.Local at) ≡ plain.Item (plain.Rooted (plain.Local at))
operand_local at =
    ap view.operand (sym (operand_case.rolls-Local at))
    ∙ fold-roll-Operand PlainApplication PlainIndex plain.Term plain.PlaceExpression plain.Term application_layer index_layer operand_layer place_expression_layer term_layer _

pub operand_member : (at : ℕ) → view.operand (operand_case.Member at) ≡ plain.Item (plain.Rooted (plain.Member at))
operand_member at =
    ap view.operand (sym (operand_case.rolls-Member at))
    ∙ fold-roll-Operand PlainApplication PlainIndex plain.Term plain.PlaceExpression plain.Term application_layer index_layer operand_layer place_expression_layer term_layer _

pub operand_made : (temp : ℕ) → view.operand (operand_case.Made temp) ≡ plain.Made temp
operand_made temp =
    ap view.operand (sym (operand_case.rolls-Made temp))
    ∙ fold-roll-Operand PlainApplication PlainIndex plain.Term plain.PlaceExpression plain.Term application_layer index_layer operand_layer place_expression_layer term_layer _

pub operand_through : (parameter plus : ℕ)
    → view.operand (operand_case.Through parameter plus) ≡ plain.Item (plain.Rooted (plain.Through parameter plus))
operand_through parameter plus =
    ap view.operand (sym (operand_case.rolls-Through parameter plus))
    ∙ fold-roll-Operand PlainApplication PlainIndex plain.Term plain.PlaceExpression plain.Term application_layer index_layer operand_layer place_expression_layer term_layer _

pub operand_not : (t : Box Term Global) → view.operand (operand_case.Not t) ≡ plain.Not (view.term t.value)
operand_not t =
    ap view.operand (sym (operand_case.rolls-Not t))
    ∙ fold-roll-Operand PlainApplication PlainIndex plain.Term plain.PlaceExpression plain.Term application_layer index_layer operand_layer place_expression_layer term_layer _
