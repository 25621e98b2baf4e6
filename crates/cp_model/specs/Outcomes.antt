-- Outcomes: a value, or the number of a fault.
use Rattle.std.specs.Prelude.{Bool, false, true, ℕ}

pub data Outcome (A : Type 0) : Type 0 where
  Fault : (number : ℕ) → Outcome A
  Gives : (x : A) → Outcome A

-- The first fault is the outcome.
abbrev pub and_then : {A B : Type 0} → Outcome A → (A → Outcome B) → Outcome B
and_then (Fault f) go = Fault f
and_then (Gives x) go = go x

-- A value if a test passes, otherwise a fault.
abbrev pub guard : {A : Type 0} → Bool → ℕ → A → Outcome A
guard true f x = Gives x
guard false f x = Fault f
