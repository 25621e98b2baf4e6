-- What events make of the private states and the kernel, in a round in any order.
use Rattle.std.specs.Prelude.{◌≡◌, ◌-◌, ◌++◌, ℕ, Bool, List, [], Some, length, slice_get, slice_set}
use Rattle.cp_model_program.specs.Programs.{Program}
use Rattle.cp_kernel.specs.KernelOf.{kernel_of, transcripts_of, turning}
use Rattle.cp_kernel.specs.declared.kernel.Kernel.{Kernel}
use Rattle.cp_private.specs.States.{private_of}
use Rattle.cp_private.specs.declared.private.Private.{Private}
use Rattle.cp_model_machine.specs.KernelSteps.{kernel_steps}
use Rattle.cp_model_machine.specs.Machines as plain
use Rattle.cp_model_machine.specs.Machines.{transcript_of}
use Rattle.cp_model_machine.specs.Steps.{private_steps}
use Rattle.cp_rounds_handoff.specs.Numbers.{AreNumbered}
use Rattle.cp_rounds_handoff.specs.Turned.{round_time_of, woken}
use Rattle.cp_rounds_handoff.specs.declared.round_time.RoundTime.{RoundTime}
use Rattle.cp_rounds_handoff.specs.declared.config.MachineConfig.{MachineConfig}
use Rattle.cp_rounds.specs.MachineOf.{machine_with}

-- Each private state of ys is the one of xs at its index, woken in a round in which the processes
-- that wait continue.
abbrev pub EachWoken : Bool → List Private → List Private → Type 0
EachWoken wakes xs ys =
    (i : ℕ) (y : Private) → slice_get ys i ≡ Some y
    → (x : Private) → slice_get xs i ≡ Some x → (input : List ℕ) → private_of y input ≡ woken wakes (private_of x input)

-- There are as many, and each private state of ys is the one of xs, woken in such a round.
pub record AreWoken (wakes : Bool) (xs ys : List Private) : Type 0 where
  pub count : length ys ≡ length xs
  pub each : EachWoken wakes xs ys

-- x becomes y by one private step, if its next step is private.
pub record StepsInto (program : Program) (clock : ℕ) (x y : Private) (input : List ℕ) : Type 0 where
  pub own : private_of y input ≡ private_steps program clock 1 (private_of x input)
  pub number : y.number ≡ x.number

-- x and k become y and `after` by the kernel turn of process p, of at most t steps.
pub record TurnsInto (program : Program) (clock t p : ℕ) (k after : Kernel) (x y : Private) (input : List ℕ) : Type 0 where
  pub kernel : kernel_of after ≡ (kernel_steps program clock t (turning k x input)).kernel
  pub own : private_of y input ≡ record (kernel_steps program clock t (turning k x input)).own { output = [] }
  pub transcripts : transcripts_of after
      ≡ slice_set (transcripts_of k) (p - 1) (transcript_of (transcripts_of k) p ++ (kernel_steps program clock t (turning k x input)).own.output)
  pub number : y.number ≡ x.number
  pub stages : length after.stages.items ≡ length k.stages.items

-- At this time, xs and k become ys and k', as `next` says of the machine.
pub record Leads (g : MachineConfig) (w : RoundTime) (next : plain.Machine → plain.Machine) (xs ys : List Private) (k k' : Kernel) : Type 0 where
  pub made : (rounds : ℕ) → w ≡ round_time_of g.tick.rounds rounds → machine_with g rounds ys k' ≡ next (machine_with g rounds xs k)
  pub numbers : AreNumbered xs → AreNumbered ys
  pub count : length ys ≡ length xs
  pub stages : length k'.stages.items ≡ length k.stages.items
