-- Integers: when two are the same, and how many are in a range.
use Rattle.std.specs.Prelude.{Bool, false, nat_eq, negsuc, pos, suc, ℕ, ℤ, ◌+◌, ◌-◌}

abbrev pub same_integer : ℤ → ℤ → Bool
same_integer (pos a) (pos b) = nat_eq a b
same_integer (negsuc a) (negsuc b) = nat_eq a b
same_integer _ _ = false

-- The number of integers from one to another, both included.
abbrev pub count_between : ℤ → ℤ → ℕ
count_between (pos a) (pos b) = suc b - a
count_between (negsuc a) (pos b) = suc a + suc b
count_between (negsuc a) (negsuc b) = suc a - b
count_between (pos a) (negsuc b) = 0
