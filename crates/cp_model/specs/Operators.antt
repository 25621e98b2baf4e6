-- Operators and standard functions on values.
--
-- Both operands are evaluated first, even those of `&` and `or`.
use Rattle.std.specs.Prelude.{Bool, Some, codes, false, if◌then◌else◌, int_div, int_le, int_lt, int_rem, nat_abs, negsuc, not, pos, true, ℕ, ℤ, ◌&&◌, ◌*ℤ◌, ◌+ℤ◌, ◌-ℤ◌, ◌/◌, ◌||◌}
use Rattle.cp_model.specs.Abstract.{Add, And, AtLeast, AtMost, Char, Divide, Equal, Greater, Integer, Less, Modulo, Multiply, Name, Operator, Or, Subtract, Unequal}
use Rattle.std.specs.Str.{bytes_eq}
use Rattle.cp_model.specs.Types.{first_ordinal, last_ordinal}
use Rattle.cp_model.specs.Integers.{same_integer}
use Rattle.cp_model.specs.Stores.{QueueHolds, Value}
use Rattle.cp_model.specs.Outcomes.{Fault, Gives, Outcome, guard}
use Rattle.cp_model.specs.Places.{TypedValue, base_of_value, head_value, ordinal_of, simple_value, truth_value, within}

-- An integer beyond -32768..32767 is fault 3.
abbrev pub integer_result : ℤ → Outcome TypedValue
integer_result n = guard (within (negsuc 32767) (pos 32767) n) 3 (simple_value Integer n)

-- A zero divisor is fault 4.
abbrev pub with_divisor : ℤ → Outcome TypedValue → Outcome TypedValue
with_divisor d v = if same_integer d (pos 0) then Fault 4 else v

-- `div` rounds toward zero, and `mod` is its remainder.
abbrev pub apply_operator : Operator → TypedValue → TypedValue → Outcome TypedValue
apply_operator Add a b = integer_result (ordinal_of a +ℤ ordinal_of b)
apply_operator Subtract a b = integer_result (ordinal_of a -ℤ ordinal_of b)
apply_operator Multiply a b = integer_result (ordinal_of a *ℤ ordinal_of b)
apply_operator Divide a b = with_divisor (ordinal_of b) (integer_result (int_div (ordinal_of a) (ordinal_of b)))
apply_operator Modulo a b = with_divisor (ordinal_of b) (integer_result (int_rem (ordinal_of a) (ordinal_of b)))
apply_operator And a b = Gives (truth_value (same_integer (ordinal_of a) (pos 1) && same_integer (ordinal_of b) (pos 1)))
apply_operator Or a b = Gives (truth_value (same_integer (ordinal_of a) (pos 1) || same_integer (ordinal_of b) (pos 1)))
apply_operator Equal a b = Gives (truth_value (same_integer (ordinal_of a) (ordinal_of b)))
apply_operator Unequal a b = Gives (truth_value (not (same_integer (ordinal_of a) (ordinal_of b))))
apply_operator Less a b = Gives (truth_value (int_lt (ordinal_of a) (ordinal_of b)))
apply_operator Greater a b = Gives (truth_value (int_lt (ordinal_of b) (ordinal_of a)))
apply_operator AtMost a b = Gives (truth_value (int_le (ordinal_of a) (ordinal_of b)))
apply_operator AtLeast a b = Gives (truth_value (int_le (ordinal_of b) (ordinal_of a)))

-- ---- Standard functions

-- `succ` and `pred` move within the base type. Moving past its ends is fault 1.
abbrev pub shift : TypedValue → ℤ → Outcome TypedValue
shift v d =
    let n = ordinal_of v +ℤ d in
    guard (within (first_ordinal (base_of_value v)) (last_ordinal (base_of_value v)) n) 1 (simple_value (base_of_value v) n)

abbrev pub is_empty_queue : Value → Bool
is_empty_queue (QueueHolds (Some p)) = false
is_empty_queue _ = true

-- The standard functions of one argument. The last case is `chr`.
abbrev pub standard_function : Name → TypedValue → Outcome TypedValue
standard_function f v =
    if bytes_eq f (codes "abs") then integer_result (pos (nat_abs (ordinal_of v)))
    else if bytes_eq f (codes "succ") then shift v (pos 1)
    else if bytes_eq f (codes "pred") then shift v (negsuc 0)
    else if bytes_eq f (codes "ord") then integer_result (ordinal_of v)
    else if bytes_eq f (codes "empty") then Gives (truth_value (is_empty_queue (head_value v)))
    else guard (within (pos 0) (pos 127) (ordinal_of v)) 1 (simple_value Char (ordinal_of v))

-- ---- The clock

-- The number of the running round, counted from 1, and the tick.
pub record Clock : Type 0 where
  pub round : ℕ
  pub tick : ℕ

abbrev pub realtime : Clock → ℕ
realtime c = c.round / c.tick
