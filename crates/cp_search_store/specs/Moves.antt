-- Moves that were made before, and what is true of them.
use Rattle.std.specs.Prelude.{All, List, Some, length, slice_get, ℕ, ◌<◌, ◌≡◌}
use Rattle.cp_model_program.specs.Programs.{Program}
use Rattle.cp_model_machine.specs.KernelSteps as plain
use Rattle.cp_model_machine.specs.PrivateStates.{PrivateState}
use Rattle.cp_law_calls.specs.Ways.{Late}
use Rattle.cp_law_search.specs.Calls.{way_on}
use Rattle.cp_private.specs.declared.private.Private.{Private}
use Rattle.cp_kernel.specs.declared.kernel.Kernel.{Kernel}
use Rattle.cp_search_states.specs.Alone.{IsMove}
use Rattle.cp_search_store.specs.Stored.{kernel_at, part_at}
use Rattle.cp_search_store.specs.declared.moves.Key.{Key}
use Rattle.cp_search_store.specs.declared.moves.Move.{Move}
use Rattle.cp_search_store.specs.declared.moves.Outcome.{Outcome}
use Rattle.cp_search_store.specs.declared.moves.Outcome.TheVariants.{Leads, NotLate, Wide}

-- A move with this key leads there.
pub record HasMove (moves : List Move) (key : Key) (outcome : Outcome) : Type 0 where
  pub index : ℕ
  pub there : slice_get moves index ≡ Some (record { key = key; outcome = outcome })

-- The move leads from `k` and `x` to the kernel and the private state with these numbers.
pub record LeadsTo (program : Program) (ks : List Kernel) (xs : List Private) (input : List ℕ) (k : plain.Kernel) (x : PrivateState) (kernel part : ℕ) : Type 0 where
  pub kernel_below : kernel < length ks
  pub part_below : part < length xs
  pub late : way_on program k (Some x) ≡ Late
  pub move : IsMove program k x (kernel_at ks kernel) (part_at xs part input)

abbrev pub IsOutcome : Program → List Kernel → List Private → List ℕ → plain.Kernel → PrivateState → Outcome → Type 0
IsOutcome program ks xs input k x NotLate = way_on program k (Some x) ≡ Late → ⊥
IsOutcome program ks xs input k x Wide = Unit {0}
IsOutcome program ks xs input k x (Leads kernel part) = LeadsTo program ks xs input k x kernel part

-- The move leads there, given the kernels and the private states with their numbers.
pub record IsTrue (program : Program) (inputs : ℕ → List ℕ) (ks : List Kernel) (xs : List Private) (key : Key) (outcome : Outcome) : Type 0 where
  pub kernel_below : key.kernel < length ks
  pub part_below : key.part < length xs
  pub is : IsOutcome program ks xs (inputs key.process) (kernel_at ks key.kernel) (part_at xs key.part (inputs key.process)) outcome

-- All moves lead where they are said to lead.
pub record AreTrue (program : Program) (inputs : ℕ → List ℕ) (ks : List Kernel) (xs : List Private) (moves : List Move) : Type 0 where
  pub each : (i : ℕ) (m : Move) → slice_get moves i ≡ Some m → IsTrue program inputs ks xs m.key m.outcome
