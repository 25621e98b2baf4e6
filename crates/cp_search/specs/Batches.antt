-- Where late steps lead, found by workers before the states are expanded.
use Rattle.std.specs.Prelude.{All, List, Some, Vec, length, slice_get, ℕ, ◌<◌, ◌≡◌}
use Rattle.std.specs.Global.{Global}
use Rattle.cp_model_program.specs.Programs.{Program}
use Rattle.cp_law_calls.specs.Ways.{Late}
use Rattle.cp_law_search.specs.Calls.{move_at, way_at}
use Rattle.cp_law_exploring.specs.Exploring.{SettlesQuietly}
use Rattle.cp_search_states.specs.Alone.{IsResting}
use Rattle.cp_search_store.specs.States.{IsBelow, core_at, core_numbered, state_count}
use Rattle.cp_search_store.specs.declared.store.Store.{Store}
use Rattle.cp_search.specs.declared.scout.Found.{Found}
use Rattle.cp_search.specs.declared.scout.Next.{Next}
use Rattle.cp_search.specs.declared.scout.Next.TheVariants as next

-- In the state with an index, the next step of process `p` isn't late.
pub record IsEarlyAt (program : Program) (inputs : ℕ → List ℕ) (store : Store) (i p : ℕ) : Type 0 where
  pub within : i < state_count store
  pub early : way_at program (core_at inputs store i) p ≡ Late → ⊥

-- The late step of process `p` leads from the state with an index to the state whose parts have these
-- numbers.
pub record LeadsToNumbers (program : Program) (inputs : ℕ → List ℕ) (store : Store) (i p kernel : ℕ) (numbers : List ℕ) : Type 0 where
  pub within : i < state_count store
  pub kernel_below : kernel < length store.kernels.kernels.items
  pub parts_below : All (IsBelow (length store.parts.privates.items)) numbers
  pub settles : SettlesQuietly program (move_at program (core_at inputs store i) p) (core_numbered inputs store kernel numbers)
  pub rests : IsResting program (core_numbered inputs store kernel numbers)

-- The late step of process `p` leads there from the state with an index.
abbrev pub IsNext : Program → (ℕ → List ℕ) → Store → ℕ → ℕ → Next → Type 0
IsNext program inputs store i p next.NotLate = IsEarlyAt program inputs store i p
IsNext program inputs store i p (next.Leads kernel row) = LeadsToNumbers program inputs store i p kernel row.items

-- What was found of a late step is so.
pub record IsStep (program : Program) (inputs : ℕ → List ℕ) (store : Store) (found : Found) : Type 0 where
  pub is : IsNext program inputs store found.index found.process found.next

-- One of the steps that workers have found.
pub record IsAmong (found : Found) (all : List (Vec Found Global)) : Type 0 where
  pub worker : ℕ
  pub place : ℕ
  pub steps : Vec Found Global
  pub whose : slice_get all worker ≡ Some steps
  pub there : slice_get steps.items place ≡ Some found

-- What all workers have found is so.
pub record AreFound (program : Program) (inputs : ℕ → List ℕ) (store : Store) (all : List (Vec Found Global)) : Type 0 where
  pub each : (found : Found) → IsAmong found all → IsStep program inputs store found
