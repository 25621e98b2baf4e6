-- Which inputs are refused, and what the inputs of the processes are.
use Rattle.std.specs.Prelude.{◌≡◌, ℕ, suc, List, [], ◌∷◌, Ok, Err, Result, Some, Vec, if◌then◌else◌, length, nat_eq, nat_le, slice_get}
use Rattle.std.specs.Global.{Global}
use Rattle.cp_frontend.specs.declared.refusal.Refusal.{Refusal}
use Rattle.cp_frontend.specs.declared.refusal.Refusal.TheVariants as refusal

-- Refuses the first byte above 127. Its place is counted from `at`.
abbrev pub judged_from : ℕ → List ℕ → Result (Unit {0}) Refusal
judged_from at [] = Ok tt
judged_from at (b ∷ bs) = if nat_le b 127 then judged_from (suc at) bs else Err (refusal.InputByte at)

abbrev pub judge_input : List ℕ → Result (Unit {0}) Refusal
judge_input input = if nat_le (length input) 1048576 then judged_from 0 input else Err refusal.InputSize

-- An input is its first part, and then, after a byte 28, the rest.
abbrev pub front_part : List ℕ → List ℕ
front_part [] = []
front_part (b ∷ bs) = if nat_eq b 28 then [] else b ∷ front_part bs

abbrev pub after_separator : List ℕ → List ℕ
after_separator [] = []
after_separator (b ∷ bs) = if nat_eq b 28 then bs else after_separator bs

abbrev pub Bytes : Type 0
Bytes = Vec ℕ Global

-- `all` holds the inputs of the first `n` processes.
pub record AreInputs (inputs : ℕ → List ℕ) (n : ℕ) (all : List Bytes) : Type 0 where
  pub count : length all ≡ n
  pub each : (i : ℕ) (v : Bytes) → slice_get all i ≡ Some v → v.items ≡ inputs (suc i)
