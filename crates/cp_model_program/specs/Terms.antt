-- Terms: what a step evaluates, as expressions over words.
--
-- A variable is a place expression: where it begins, and how far its indices lead from there. A
-- call isn't part of a term: it has been made before, and its value is in a temp.
use Rattle.std.specs.Prelude.{ℕ, ℤ}
use Rattle.cp_model.specs.Abstract.{Operator}

-- Where a variable begins: at a distance from the first word of the running activation or of the
-- running component, or `plus` words after the word to which a reference in the activation points.
pub data Root : Type 0 where
  Local : (at : ℕ) → Root
  Member : (at : ℕ) → Root
  Through : (parameter plus : ℕ) → Root

-- A standard function of one simple value. `succ` and `pred` shift within the bounds of a base type.
pub data Function : Type 0 where
  Abs Ord Chr : Function
  Shift : (by low high : ℤ) → Function

mutual
  pub data Term : Type 0 where
    Number : (n : ℤ) → Term
    Made : (temp : ℕ) → Term
    Item : (s : PlaceExpression) → Term
    Not : (e : Term) → Term
    Negative : (e : Term) → Term
    Binary : (o : Operator) (x y : Term) → Term
    Standard : (f : Function) (e : Term) → Term
    Empty : (s : PlaceExpression) → Term
    Realtime : Term

  -- An element has the bounds of its array, its own size, and the distance of the wanted part
  -- within it.
  pub data PlaceExpression : Type 0 where
    Rooted : (root : Root) → PlaceExpression
    Element : (of : PlaceExpression) (low high : ℤ) (size plus : ℕ) (index : Term) → PlaceExpression

-- The component whose routine is called: the running one; a class that is a variable of the running
-- one, or to which a word of it holds a right; or a monitor, by its number or by the number that a
-- word of the running component holds.
pub data Target : Type 0 where
  Own : Target
  Class : (at : ℕ) → Target
  ClassRight : (at : ℕ) → Target
  Monitor : (number : ℕ) → Target
  MonitorRight : (at : ℕ) → Target

-- What is passed to the parameter at a distance of `at` words: a value within bounds, `size` words,
-- a reference, or a right.
pub data Argument : Type 0 where
  Value : (at : ℕ) (low high : ℤ) (e : Term) → Argument
  Copy : (at size : ℕ) (from : PlaceExpression) → Argument
  Reference : (at : ℕ) (to : PlaceExpression) → Argument
  Right : (at : ℕ) (of : Target) → Argument
