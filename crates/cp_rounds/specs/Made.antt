-- How many turns of a round are made.
use Rattle.std.specs.Prelude.{◌≡◌, ◌≤◌, ◌+◌, ◌-◌, ◌*◌, ℕ, suc, List, Some, length, slice_get, vec_len}
use Rattle.cp_kernel.specs.KernelOf.{Bytes, HasRoomForAskers, HasRoomForBytes, kernel_of, transcripts_of}
use Rattle.cp_kernel.specs.declared.kernel.Kernel.{Kernel}
use Rattle.cp_model.specs.States.{numbers_from}
use Rattle.cp_private.specs.States.{private_of}
use Rattle.cp_private.specs.declared.private.Private.{Private}
use Rattle.cp_model_machine.specs.Machines.{Machine, kernel_turns}
use Rattle.cp_rounds_handoff.specs.Inputs.{input_at}

-- The kernel and the first private states of the machine m are these.
pub record Represents (m : Machine) (inputs : List Bytes) (ys : List Private) (k : Kernel) : Type 0 where
  pub kernel : kernel_of k ≡ m.kernel
  pub transcripts : transcripts_of k ≡ m.transcripts
  pub parts : (i : ℕ) (y : Private) → slice_get ys i ≡ Some y → slice_get m.parts i ≡ Some (private_of y (input_at inputs i))

-- The private turns of m are made, and so are the kernel turns of the processes below index `from`:
-- the kernel and the first private states are then these.
abbrev pub TurnsMade : ℕ → Machine → List Bytes → ℕ → List Private → Kernel → Type 0
TurnsMade t m inputs from ys k = Represents (kernel_turns t m (numbers_from 1 from)) inputs ys k

-- The kernel has room for what processes write and for the askers, in so many rounds. A turn of either
-- kind writes at most `most` bytes.
pub record IsReadyFor (most rounds : ℕ) (xs : List Private) (k : Kernel) : Type 0 where
  pub stages : length k.stages.items ≡ length xs
  pub asking : HasRoomForAskers k (rounds * length xs)
  pub transcripts : (i : ℕ) (x : Private) → slice_get xs i ≡ Some x → HasRoomForBytes k (suc i) (vec_len x.output + rounds * (most + most))

-- The kernel has room for what processes write and for the askers, in the turns of a round from
-- index `from` on. A turn of either kind writes at most `most` bytes. The private states are those
-- at the start of the round.
pub record IsReady (most from : ℕ) (xs : List Private) (k : Kernel) : Type 0 where
  pub stages : length k.stages.items ≡ length xs
  pub asking : HasRoomForAskers k (length xs - from)
  pub transcripts : (i : ℕ) (x : Private) → from ≤ i → slice_get xs i ≡ Some x → HasRoomForBytes k (suc i) (vec_len x.output + (most + most))
