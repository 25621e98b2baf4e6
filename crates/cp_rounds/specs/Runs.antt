-- The rounds of a run, as far as they change the private states and the kernel.
use Rattle.std.specs.Prelude.{◌≡◌, ◌+◌, ℕ, Bool, List, Option, None, Some, length, slice_get}
use Rattle.std.specs.Sync.OnceLock.{Named}
use Rattle.cp_kernel.specs.KernelOf.{kernel_of, transcripts_of}
use Rattle.cp_kernel.specs.Turns.{parts_of}
use Rattle.cp_kernel.specs.declared.kernel.Kernel.{Kernel}
use Rattle.cp_model.specs.States.{numbers_from}
use Rattle.cp_private.specs.States.{private_of}
use Rattle.cp_private.specs.declared.private.Private.{Private}
use Rattle.cp_model_machine.specs.Machines.{phased_rounds}
use Rattle.cp_rounds_handoff.specs.Numbers.{AreNumbered}
use Rattle.cp_rounds_handoff.specs.Tasks.{AreHere, AreInPlace}
use Rattle.cp_rounds_handoff.specs.Turned.{with_turn_taken}
use Rattle.cp_rounds_handoff.specs.declared.config.MachineConfig.{MachineConfig}
use Rattle.cp_rounds.specs.Made.{IsReadyFor, TurnsMade}
use Rattle.cp_rounds.specs.MachineOf.{machine_with}
use Rattle.cp_rounds.specs.declared.parts.Parts.{Parts}

-- ---- Room

-- The private states differ at most in their room.
pub record IsSame (x y : Private) : Type 0 where
  pub content : (input : List ℕ) → private_of y input ≡ private_of x input
  pub number : y.number ≡ x.number

-- The private states and the kernels differ at most in their room.
pub record AreSame (xs : List Private) (k : Kernel) (ys : List Private) (k' : Kernel) : Type 0 where
  pub parts : (inputs : ℕ → List ℕ) → parts_of inputs 1 ys ≡ parts_of inputs 1 xs
  pub kernel : kernel_of k' ≡ kernel_of k
  pub transcripts : transcripts_of k' ≡ transcripts_of k
  pub numbers : AreNumbered xs → AreNumbered ys
  pub count : length ys ≡ length xs

-- Room for so many rounds is reserved, and the private turns of the first one are published at the
-- handoff queue, unless the calling thread makes them alone. `start` has the private states at its
-- start.
pub record IsOpened (most : ℕ) (wakes alone : Bool) (rounds : ℕ) (xs : List Private) (k : Kernel) (start ys : List Private) (k' : Kernel) : Type 0 where
  pub same : AreSame xs k start k'
  pub ready : IsReadyFor most rounds start k'
  pub left : AreInPlace wakes 0 start ys
  pub here : AreHere alone 0 start ys
  pub count : length ys ≡ length start

-- ---- Rounds

-- In the round after the first `rounds` rounds, the processes of ys have made both turns. xs and k
-- are those at the start of the round.
abbrev pub TurnsTaken : MachineConfig → ℕ → ℕ → List Private → Kernel → List Private → Kernel → Type 0
TurnsTaken g t rounds xs k ys k' = TurnsMade t (with_turn_taken t (machine_with g rounds xs k)) g.inputs.items (length ys) ys k'

-- n more rounds are made after the first `rounds` rounds.
abbrev pub RoundsMade : MachineConfig → ℕ → ℕ → ℕ → List Private → Kernel → List Private → Kernel → Type 0
RoundsMade g t rounds n xs k ys k' =
    machine_with g (rounds + n) ys k' ≡ phased_rounds t (numbers_from 1 (length xs)) n (machine_with g rounds xs k)

abbrev pub PartsAfter : MachineConfig → ℕ → ℕ → ℕ → Parts → Parts → Type 0
PartsAfter g t rounds n before after = RoundsMade g t rounds n before.privates.items before.kernel after.privates.items after.kernel

-- ---- Cells

-- The name of a cell.
abbrev pub name_of : Option Named → ℕ
name_of None = 0
name_of (Some c) = c.id

-- The cell of each round has the name that the run chooses for it.
abbrev pub AreNamed : (ℕ → ℕ) → List Named → Type 0
AreNamed cell cells = (i : ℕ) → cell i ≡ name_of (slice_get cells i)
