-- Room for the output of steps.
use Rattle.std.specs.Prelude.{ℕ, ◌+◌, ◌*◌, ◌≤◌, vec_len, vec_capacity}
use Rattle.cp_private.specs.declared.private.Private.{Private}

-- There is room for the output of n steps: a number of 32 bits takes at most 11 bytes.
abbrev pub HasRoomFor : Private → ℕ → Type 0
HasRoomFor x n = vec_len x.output + 11 * n ≤ vec_capacity x.output

-- A step writes at most 11 bytes and takes no memory.
pub record KeepsRoom (old new : Private) : Type 0 where
  pub length : vec_len new.output ≤ vec_len old.output + 11
  pub capacity : vec_capacity old.output ≤ vec_capacity new.output
