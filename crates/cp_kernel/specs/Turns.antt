-- What a kernel turn and the end of a round make of the kernel and the private states.
use Rattle.std.specs.Prelude.{◌≡◌, ◌≢◌, ◌-◌, ◌++◌, ℕ, suc, List, [], ◌∷◌, slice_set}
use Rattle.cp_model_program.specs.Programs.{Program}
use Rattle.cp_model_machine.specs.KernelSteps as plain
use Rattle.cp_model_machine.specs.Machines.{transcript_of}
use Rattle.cp_model_machine.specs.PrivateStates.{PrivateState}
use Rattle.cp_private.specs.States.{private_of}
use Rattle.cp_private.specs.declared.private.Private.{Private}
use Rattle.cp_kernel.specs.declared.kernel.Kernel.{Kernel}
use Rattle.cp_kernel.specs.KernelOf.{HasRoomForBytes, kernel_of, transcripts_of, turning}

-- What process p wrote is at the end of its transcript, and no other transcript has changed.
pub record Moves (k after : Kernel) (p : ℕ) (written : List ℕ) : Type 0 where
  pub transcripts : transcripts_of after ≡ slice_set (transcripts_of k) (p - 1) (transcript_of (transcripts_of k) p ++ written)
  pub others : (q n : ℕ) → q - 1 ≢ p - 1 → HasRoomForBytes k q n → HasRoomForBytes after q n

-- The kernel, the private state and its transcript after a kernel turn of at most n steps.
pub record IsTurned (program : Program) (clock n : ℕ) (k after : Kernel) (x y : Private) (input : List ℕ) : Type 0 where
  pub kernel : kernel_of after ≡ (plain.kernel_steps program clock n (turning k x input)).kernel
  pub own : private_of y input ≡ record (plain.kernel_steps program clock n (turning k x input)).own { output = [] }
  pub moves : Moves k after x.number (plain.kernel_steps program clock n (turning k x input)).own.output

-- The private states of all processes from number p on, with their inputs.
abbrev pub parts_of : (ℕ → List ℕ) → ℕ → List Private → List PrivateState
parts_of inputs p [] = []
parts_of inputs p (x ∷ xs) = private_of x (inputs p) ∷ parts_of inputs (suc p) xs
