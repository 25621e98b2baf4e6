-- What a search keeps of the states that it has seen, and what it shows.
use Rattle.std.specs.Prelude.{Contains, List, Some, length, slice_get, ℕ, ◌+◌, ◌-◌, ◌<◌, ◌≡◌, ◌≤◌}
use Rattle.cp_model.specs.States.{Setup, process_count}
use Rattle.cp_model_program.specs.Programs.{Program}
use Rattle.cp_model_program.specs.IsProgramFor.{IsProgramFor}
use Rattle.cp_law_cores.specs.Cores.{Core, put}
use Rattle.cp_law_exploring.specs.Exploring.{AreExpanded, Grows, IsCoveredBelow, IsCovered, count}
use Rattle.cp_law_servers.specs.Laws.{NoneIsStuckBut}
use Rattle.cp_search_states.specs.Alone.{IsResting, core_from}
use Rattle.cp_search_store.specs.Moves.{AreTrue, IsTrue}
use Rattle.cp_search_store.specs.States.{AreResting, HasMoreParts, IsSound, core_at, cores_of}
use Rattle.cp_search_store.specs.Stored.{Extends, kernel_at, part_at, row}
use Rattle.cp_search_store.specs.declared.moves.Key.{Key}
use Rattle.cp_search_store.specs.declared.moves.Move.{Move}
use Rattle.cp_search_store.specs.declared.moves.Outcome.{Outcome}
use Rattle.cp_search_store.specs.declared.store.Store.{Store}

-- The store is sound, its states are settled and at rest, and the moves lead where they are said to
-- lead.
pub record IsReady (program : Program) (inputs : ℕ → List ℕ) (store : Store) (moves : List Move) : Type 0 where
  pub sound : IsSound store
  pub rest : AreResting program (cores_of inputs store)
  pub true_moves : AreTrue program inputs store.kernels.kernels.items store.parts.privates.items moves

-- Parts may have been added, and those that were there keep their numbers.
pub record KeepsNumbers (old new : Store) : Type 0 where
  pub kernels : Extends old.kernels.kernels.items new.kernels.kernels.items
  pub parts : Extends old.parts.privates.items new.parts.privates.items

-- The state has been added, if the store didn't have it.
pub record HasAdded (program : Program) (inputs : ℕ → List ℕ) (old : Store) (c : Core) (new : Store) : Type 0 where
  pub grows : Grows (cores_of inputs old) (cores_of inputs new)
  pub keeps : KeepsNumbers old new
  pub known : Contains (cores_of inputs new) c
  pub ready : (moves : List Move) → IsReady program inputs old moves → IsResting program c → IsReady program inputs new moves

-- ---- Moves

-- The state with an index has these numbers: that of its kernel, and that of the private state of
-- process `p`.
pub record IsKeyAt (store : Store) (i p : ℕ) (key : Key) : Type 0 where
  pub process : key.process ≡ p
  pub kernel : slice_get store.kernel_numbers.items i ≡ Some key.kernel
  pub part : slice_get (row store.width store.part_numbers.items i) (p - 1) ≡ Some key.part

-- The state with an index, but with this kernel and this private state of process `p`.
abbrev pub exchanged : (ℕ → List ℕ) → Store → ℕ → ℕ → ℕ → ℕ → Core
exchanged inputs store i p kernel part =
    core_from (kernel_at store.kernels.kernels.items kernel) (put (core_at inputs store i).parts p (part_at store.parts.privates.items part (inputs p)))

-- A move was made, and parts may have been added.
pub record HasMoved (program : Program) (inputs : ℕ → List ℕ) (old : Store) (key : Key) (outcome : Outcome) (new : Store) : Type 0 where
  pub more : HasMoreParts old new
  pub is : key.kernel < length old.kernels.kernels.items → key.part < length old.parts.privates.items
      → IsTrue program inputs new.kernels.kernels.items new.parts.privates.items key outcome

-- It is known where a move leads, and no state has been added.
pub record IsFound (program : Program) (inputs : ℕ → List ℕ) (old : Store) (key : Key) (outcome : Outcome) (new : Store) (moves : List Move) : Type 0 where
  pub more : HasMoreParts old new
  pub ready : IsReady program inputs new moves
  pub is : IsTrue program inputs new.kernels.kernels.items new.parts.privates.items key outcome

-- ---- States that are expanded

-- The late step of process `p` from the state at an index has been tried.
pub record IsCoveredNow (program : Program) (inputs : ℕ → List ℕ) (i p : ℕ) (old new : Store) (moves : List Move) : Type 0 where
  pub grows : Grows (cores_of inputs old) (cores_of inputs new)
  pub keeps : KeepsNumbers old new
  pub ready : IsReady program inputs new moves
  pub tried : (v : Core) → slice_get (cores_of inputs new) i ≡ Some v → IsCovered program (cores_of inputs new) v p

-- The late steps from the state at an index have been tried.
pub record HasExpanded (program : Program) (inputs : ℕ → List ℕ) (i : ℕ) (old new : Store) (moves : List Move) : Type 0 where
  pub grows : Grows (cores_of inputs old) (cores_of inputs new)
  pub keeps : KeepsNumbers old new
  pub ready : IsReady program inputs new moves
  pub expanded : IsCoveredBelow program (cores_of inputs new) i (count program + 1)

-- The late steps from all states have been tried, also from those that were added.
pub record HasExplored (program : Program) (inputs : ℕ → List ℕ) (old new : Store) : Type 0 where
  pub grows : Grows (cores_of inputs old) (cores_of inputs new)
  pub all : AreExpanded program (cores_of inputs new) (length (cores_of inputs new))

-- For each text that the program represents, with these inputs of its processes, no order of events
-- leads to a fault. In each still state that an order leads to, each process has ended, or is a server
-- and is delayed.
pub record NothingIsStuck (servers : List ℕ) (program : Program) (inputs : ℕ → List ℕ) : Type 0 where
  pub fine : (setup : Setup) → IsProgramFor program setup → ((p : ℕ) → 1 ≤ p → p ≤ process_count setup → inputs p ≡ setup.inputs p) → NoneIsStuckBut servers setup
