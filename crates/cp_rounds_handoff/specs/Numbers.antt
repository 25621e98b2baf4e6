-- Numbers of processes.
use Rattle.std.specs.Prelude.{◌≡◌, ℕ, suc, List, Some, slice_get}
use Rattle.cp_private.specs.declared.private.Private.{Private}

-- The private states are in order of number, and process 1 comes first.
abbrev pub AreNumbered : List Private → Type 0
AreNumbered xs = (i : ℕ) (x : Private) → slice_get xs i ≡ Some x → x.number ≡ suc i
