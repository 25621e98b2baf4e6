-- What the end of a round makes of the private states and the kernel.
use Rattle.std.specs.Prelude.{◌≡◌, ℕ, List, length, map}
use Rattle.cp_kernel.specs.KernelOf.{kernel_of, transcripts_of}
use Rattle.cp_kernel.specs.Turns.{parts_of}
use Rattle.cp_kernel.specs.declared.kernel.Kernel.{Kernel}
use Rattle.cp_private.specs.declared.private.Private.{Private}
use Rattle.cp_model_machine.specs.Machines.{begin_one, next_stage}
use Rattle.cp_program.specs.View as view
use Rattle.cp_rounds_handoff.specs.Numbers.{AreNumbered}
use Rattle.cp_rounds_handoff.specs.declared.config.MachineConfig.{MachineConfig}

-- What is reserved stays.
pub record KeepsRoom (xs : List Private) (k : Kernel) (ys : List Private) (k' : Kernel) : Type 0 where
  pub outputs : map (λ (x : Private). x.output) ys ≡ map (λ (x : Private). x.output) xs
  pub gates : k'.gates ≡ k.gates
  pub transcripts : k'.transcripts ≡ k.transcripts

pub record RoundEnds (g : MachineConfig) (xs : List Private) (k : Kernel) (ys : List Private) (k' : Kernel) : Type 0 where
  pub kernel : kernel_of k' ≡ record (kernel_of k) { stages = map next_stage (kernel_of k).stages }
  pub transcripts : transcripts_of k' ≡ transcripts_of k
  pub parts : (inputs : ℕ → List ℕ) → parts_of inputs 1 ys ≡ map (begin_one (view.program g.program) (kernel_of k)) (parts_of inputs 1 xs)
  pub numbers : AreNumbered xs → AreNumbered ys
  pub count : length ys ≡ length xs
  pub stages : length k'.stages.items ≡ length k.stages.items
  pub room : KeepsRoom xs k ys k'
