-- The inputs of processes, as the definitions have them.
use Rattle.std.specs.Prelude.{ℕ, ◌-◌, List, [], Option, None, Some, Vec, slice_get}
use Rattle.std.specs.Global.{Global}

abbrev pub bytes_or_none : Option (Vec ℕ Global) → List ℕ
bytes_or_none None = []
bytes_or_none (Some v) = v.items

-- The input at an index. The input of process 1 is at index 0.
abbrev pub input_at : List (Vec ℕ Global) → ℕ → List ℕ
input_at inputs i = bytes_or_none (slice_get inputs i)

-- The input of a process.
abbrev pub input_of : List (Vec ℕ Global) → ℕ → List ℕ
input_of inputs p = input_at inputs (p - 1)
