-- The states that a store has, as cores.
use Rattle.std.specs.Prelude.{All, Contains, List, [], Some, length, slice_get, slice_index_or, suc, zero, ℕ, ◌*◌, ◌++◌, ◌<◌, ◌∷◌, ◌≡◌}
use Rattle.cp_model_machine.specs.KernelSteps as plain
use Rattle.cp_model_machine.specs.PrivateStates.{PrivateState}
use Rattle.cp_law_cores.specs.Cores.{Core}
use Rattle.cp_model_program.specs.Programs.{Program}
use Rattle.cp_law_exploring.specs.Exploring.{Grows}
use Rattle.cp_private.specs.declared.private.Private.{Private}
use Rattle.cp_kernel.specs.declared.kernel.Kernel.{Kernel}
use Rattle.cp_search_states.specs.Alone.{IsResting, core_from}
use Rattle.cp_private.specs.States.{private_of}
use Rattle.cp_kernel.specs.KernelOf.{kernel_of}
use Rattle.cp_search_states.specs.declared.alone.Lone.{Lone}
use Rattle.cp_search_states.specs.declared.state.SearchState.{SearchState}
use Rattle.cp_search_store.specs.Stored.{AreNumbered, Extends, IsKernelAt, kernel_at, part_at, parts_at, row}
use Rattle.cp_search_store.specs.declared.store.Store.{Store}

-- The first `n` cores that `f` gives.
abbrev pub listed : (ℕ → Core) → ℕ → List Core
listed f zero = []
listed f (suc n) = listed f n ++ f n ∷ []

-- The core with an index, given kernels, private states, and the numbers of each core.
abbrev pub core_in : (ℕ → List ℕ) → List Kernel → List Private → ℕ → List ℕ → List ℕ → ℕ → Core
core_in inputs ks xs width kernels parts i = record {
  kernel = kernel_at ks (slice_index_or kernels i 0);
  parts = parts_at inputs xs 1 (row width parts i);
}

-- The state with an index.
abbrev pub core_at : (ℕ → List ℕ) → Store → ℕ → Core
core_at inputs s i = core_in inputs s.kernels.kernels.items s.parts.privates.items s.width s.kernel_numbers.items s.part_numbers.items i

-- The kernel, and the private states, of the state with an index.
abbrev pub kernel_in : Store → ℕ → plain.Kernel
kernel_in s i = kernel_at s.kernels.kernels.items (slice_index_or s.kernel_numbers.items i 0)

abbrev pub parts_in : (ℕ → List ℕ) → Store → ℕ → List PrivateState
parts_in inputs s i = parts_at inputs s.parts.privates.items 1 (row s.width s.part_numbers.items i)

-- How many states there are.
abbrev pub state_count : Store → ℕ
state_count s = length s.kernel_numbers.items

-- All states.
abbrev pub cores_of : (ℕ → List ℕ) → Store → List Core
cores_of inputs s = listed (core_at inputs s) (state_count s)

abbrev pub IsBelow : ℕ → ℕ → Type 0
IsBelow count n = n < count

-- Each state has a row, and all numbers are those of parts.
pub record IsSound (s : Store) : Type 0 where
  pub room : length s.part_numbers.items ≡ state_count s * s.width
  pub kernels : All (IsBelow (length s.kernels.kernels.items)) s.kernel_numbers.items
  pub parts : All (IsBelow (length s.parts.privates.items)) s.part_numbers.items

-- The state with an index has these numbers.
pub record IsRowAt (s : Store) (i kernel : ℕ) (numbers : List ℕ) : Type 0 where
  pub kernel_is : slice_get s.kernel_numbers.items i ≡ Some kernel
  pub row_is : row s.width s.part_numbers.items i ≡ numbers

-- Some state has these numbers.
pub record HasRow (s : Store) (kernel : ℕ) (numbers : List ℕ) : Type 0 where
  pub index : ℕ
  pub at : IsRowAt s index kernel numbers

-- The parts of a state have these numbers. Its parts may have been added.
pub record IsNumbered (old : Store) (state : SearchState) (new : Store) (kernel : ℕ) (numbers : List ℕ) : Type 0 where
  pub kernels : Extends old.kernels.kernels.items new.kernels.kernels.items
  pub parts : Extends old.parts.privates.items new.parts.privates.items
  pub width : new.width ≡ old.width
  pub kernel_numbers : new.kernel_numbers.items ≡ old.kernel_numbers.items
  pub part_numbers : new.part_numbers.items ≡ old.part_numbers.items
  pub kernel_is : IsKernelAt new.kernels.kernels.items kernel state.kernel
  pub parts_are : AreNumbered new.parts.privates.items numbers state.privates.items

-- A state with these numbers has been added.
pub record IsPushed (old : Store) (kernel : ℕ) (numbers : List ℕ) (new : Store) : Type 0 where
  pub kernels : new.kernels ≡ old.kernels
  pub parts : new.parts ≡ old.parts
  pub width : new.width ≡ old.width
  pub kernel_numbers : new.kernel_numbers.items ≡ old.kernel_numbers.items ++ kernel ∷ []
  pub part_numbers : new.part_numbers.items ≡ old.part_numbers.items ++ numbers

-- Parts may have been added, and no states.
pub record HasMoreParts (old new : Store) : Type 0 where
  pub kernels : Extends old.kernels.kernels.items new.kernels.kernels.items
  pub parts : Extends old.parts.privates.items new.parts.privates.items
  pub width : new.width ≡ old.width
  pub kernel_numbers : new.kernel_numbers.items ≡ old.kernel_numbers.items
  pub part_numbers : new.part_numbers.items ≡ old.part_numbers.items

-- The kernel and the private state with these numbers.
pub record IsLone (s : Store) (kernel part : ℕ) (lone : Lone) : Type 0 where
  pub kernel_below : kernel < length s.kernels.kernels.items
  pub part_below : part < length s.parts.privates.items
  pub kernel_is : kernel_at s.kernels.kernels.items kernel ≡ kernel_of lone.kernel
  pub part_is : (input : List ℕ) → part_at s.parts.privates.items part input ≡ private_of lone.private input

-- All cores are settled and at rest.
pub record AreResting (program : Program) (vs : List Core) : Type 0 where
  pub each : (i : ℕ) (v : Core) → slice_get vs i ≡ Some v → IsResting program v

-- The core whose parts have these numbers.
abbrev pub core_numbered : (ℕ → List ℕ) → Store → ℕ → List ℕ → Core
core_numbered inputs s kernel numbers = core_from (kernel_at s.kernels.kernels.items kernel) (parts_at inputs s.parts.privates.items 1 numbers)

-- The store has been made one that has the state whose parts have these numbers.
pub record IsAdded (old : Store) (kernel : ℕ) (numbers : List ℕ) (new : Store) : Type 0 where
  pub sound : IsSound new
  pub kernels : new.kernels.kernels.items ≡ old.kernels.kernels.items
  pub parts : new.parts.privates.items ≡ old.parts.privates.items
  pub grows : (inputs : ℕ → List ℕ) → Grows (cores_of inputs old) (cores_of inputs new)
  pub known : (inputs : ℕ → List ℕ) → Contains (cores_of inputs new) (core_numbered inputs old kernel numbers)
  pub rest : (program : Program) (inputs : ℕ → List ℕ) → AreResting program (cores_of inputs old) → IsResting program (core_numbered inputs old kernel numbers) → AreResting program (cores_of inputs new)
