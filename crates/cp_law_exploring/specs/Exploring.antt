-- What a search keeps: cores at rest, and lists of cores whose late steps lead into the list.
use Rattle.std.specs.Prelude.{Contains, List, Some, length, slice_get, ℕ, ◌++◌, ◌<◌, ◌≡◌, ◌≤◌}
use Rattle.cp_model_program.specs.Programs.{Program}
use Rattle.cp_law_calls.specs.Runs.{Settles}
use Rattle.cp_law_calls.specs.Ways.{Late}
use Rattle.cp_law_cores.specs.Cores.{Core}
use Rattle.cp_law_cores.specs.Turns.{AreSilent, NoneFresh}
use Rattle.cp_law_search.specs.Calls.{core_machine, move_at, way_at}

abbrev pub count : Program → ℕ
count program = length program.processes

-- ---- Settling

-- Eager steps lead from `x` to `w`, which is settled.
abbrev pub SettlesAs : Program → Core → Core → Type 0
SettlesAs program x w = Settles (core_machine program (count program)) x w

-- What `d` settles as, `c` settles as.
pub record IsBefore (program : Program) (c d : Core) : Type 0 where
  pub settles : (w : Core) → SettlesAs program d w → SettlesAs program c w

-- Nothing is written in the core, and nobody is fresh.
pub record IsQuiescent (c : Core) : Type 0 where
  pub silent : AreSilent c
  pub calm : NoneFresh c.kernel

-- `d` is settled and at rest, and `c` settles as `d`.
pub record SettlesQuietly (program : Program) (c d : Core) : Type 0 where
  pub rests : IsQuiescent d
  pub settles : SettlesAs program c d

-- ---- Lists of cores

-- `x` settles as a core of the list.
pub record LeadsInto (program : Program) (vs : List Core) (x : Core) : Type 0 where
  pub member : Core
  pub known : Contains vs member
  pub settles : SettlesAs program x member

-- The late step of process `p`, if its next step is late, leads from `v` into the list.
abbrev pub IsCovered : Program → List Core → Core → ℕ → Type 0
IsCovered program vs v p = way_at program v p ≡ Late → LeadsInto program vs (move_at program v p)

-- The late steps of the first `i` cores lead into the list.
pub record AreExpanded (program : Program) (vs : List Core) (i : ℕ) : Type 0 where
  pub each : (j p : ℕ) (v : Core) → j < i → slice_get vs j ≡ Some v → 1 ≤ p → p ≤ count program → IsCovered program vs v p

-- The late steps of the processes below `q` lead from the core at index `i` into the list.
pub record IsCoveredBelow (program : Program) (vs : List Core) (i q : ℕ) : Type 0 where
  pub each : (p : ℕ) (v : Core) → slice_get vs i ≡ Some v → 1 ≤ p → p < q → IsCovered program vs v p

-- All are at rest.
pub record AreQuiescent (vs : List Core) : Type 0 where
  pub each : (i : ℕ) (v : Core) → slice_get vs i ≡ Some v → IsQuiescent v

-- Cores come at the end.
pub record Grows (vs ws : List Core) : Type 0 where
  pub more : List Core
  pub is : ws ≡ vs ++ more
