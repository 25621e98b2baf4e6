-- The private states and the kernel at the start.
use Rattle.std.specs.Prelude.{◌≡◌, ℕ, suc, List, Some, length, slice_get}
use Rattle.cp_model_program.specs.Programs as code
use Rattle.cp_model_program.specs.Programs.{Program}
use Rattle.cp_kernel.specs.KernelOf.{kernel_of, transcripts_of}
use Rattle.cp_kernel.specs.declared.kernel.Kernel.{Kernel}
use Rattle.cp_private.specs.States.{private_of}
use Rattle.cp_private.specs.declared.private.Private.{Private}
use Rattle.cp_model_machine.specs.Machines.{first_machine, first_part}

-- Each private state is the first one of its process.
abbrev pub AreFirst : Program → List Private → Type 0
AreFirst program xs =
    (i : ℕ) (x : Private) (row : code.Process) → slice_get xs i ≡ Some x → slice_get program.processes i ≡ Some row
    → (input : List ℕ) → private_of x input ≡ first_part program (λ q. input) (suc i) row

pub record IsStart (program : Program) (xs : List Private) (k : Kernel) : Type 0 where
  pub first : AreFirst program xs
  pub count : length xs ≡ length program.processes
  pub kernel : (tick : ℕ) (inputs : ℕ → List ℕ) → kernel_of k ≡ (first_machine program tick inputs).kernel
  pub transcripts : (tick : ℕ) (inputs : ℕ → List ℕ) → transcripts_of k ≡ (first_machine program tick inputs).transcripts
