-- The values of terms, and the places of place expressions, over words.
use Rattle.std.specs.Prelude.{Bool, ℕ, ℤ, pos, neg_ℤ, not, ◌&&◌, ◌||◌, ◌+◌, ◌*◌, ◌+ℤ◌, ◌-ℤ◌, ◌*ℤ◌, int_div, int_rem, int_le, int_lt, List, Result, Ok, Err, if◌then◌else◌}
use Rattle.cp_model.specs.Abstract as operator
use Rattle.cp_model.specs.Abstract.{Operator}
use Rattle.cp_model.specs.Integers.{same_integer}
use Rattle.cp_model.specs.Places.{within}
use Rattle.cp_model.specs.declared.state.Fault.{Fault}
use Rattle.cp_model.specs.declared.state.Fault.TheVariants as fault
use Rattle.cp_model_program.specs.Terms.{Binary, Element, Empty, Item, Local, Made, Member, Negative, Not, Number, Realtime, Root, Rooted, PlaceExpression, Standard, Term, Through}
use Rattle.cp_model_program.specs.Functions.{in_range, standard, unless}
use Rattle.cp_model_program.specs.Layout.{distance, natural}
use Rattle.cp_model_program.specs.Starts.{word}

-- What evaluation reads: the words and temps, where those of the running activation and component
-- begin, and the clock.
pub record View : Type 0 where
  pub words : List ℤ
  pub temps : List ℤ
  pub base : ℕ
  pub temp : ℕ
  pub component : ℕ
  pub clock : ℕ

-- Continues with a value, or keeps the fault.
abbrev pub bind : {A B : Type 0} → Result A Fault → (A → Result B Fault) → Result B Fault
bind (Ok x) go = go x
bind (Err f) go = Err f

abbrev pub truth : Bool → ℤ
truth b = if b then pos 1 else pos 0

abbrev pub unless_zero : ℤ → Result ℤ Fault → Result ℤ Fault
unless_zero d r = if same_integer d (pos 0) then Err fault.DivisionByZero else r

abbrev pub apply : Operator → ℤ → ℤ → Result ℤ Fault
apply operator.Add a b = in_range (a +ℤ b)
apply operator.Subtract a b = in_range (a -ℤ b)
apply operator.Multiply a b = in_range (a *ℤ b)
apply operator.Divide a b = unless_zero b (in_range (int_div a b))
apply operator.Modulo a b = unless_zero b (in_range (int_rem a b))
apply operator.And a b = Ok (truth (same_integer a (pos 1) && same_integer b (pos 1)))
apply operator.Or a b = Ok (truth (same_integer a (pos 1) || same_integer b (pos 1)))
apply operator.Equal a b = Ok (truth (same_integer a b))
apply operator.Unequal a b = Ok (truth (not (same_integer a b)))
apply operator.Less a b = Ok (truth (int_lt a b))
apply operator.Greater a b = Ok (truth (int_lt b a))
apply operator.AtMost a b = Ok (truth (int_le a b))
apply operator.AtLeast a b = Ok (truth (int_le b a))

abbrev pub root_place : View → Root → ℕ
root_place v (Local at) = v.base + at
root_place v (Member at) = v.component + at
root_place v (Through at plus) = natural (word v.words (v.base + at)) + plus

abbrev mutual
  pub value_of : View → Term → Result ℤ Fault
  value_of v (Number n) = Ok n
  value_of v (Made t) = Ok (word v.temps (v.temp + t))
  value_of v (Item s) = bind (place_of v s) (λ a. Ok (word v.words a))
  value_of v (Not e) = bind (value_of v e) (λ n. Ok (truth (same_integer n (pos 0))))
  value_of v (Negative e) = bind (value_of v e) (λ n. in_range (neg_ℤ n))
  value_of v (Binary o a b) = bind (value_of v a) (λ x. bind (value_of v b) (λ y. apply o x y))
  value_of v (Standard f e) = bind (value_of v e) (standard f)
  value_of v (Empty s) = bind (place_of v s) (λ a. Ok (truth (int_le (word v.words a) (pos 0))))
  value_of v Realtime = in_range (pos v.clock)

  pub place_of : View → PlaceExpression → Result ℕ Fault
  place_of v (Rooted r) = Ok (root_place v r)
  place_of v (Element s low high size plus e) =
      bind (place_of v s) (λ a. bind (value_of v e) (λ i.
      unless (within low high i) fault.Index (a + (distance low i * size + plus))))
