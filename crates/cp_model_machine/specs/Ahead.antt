-- Private turns that are made ahead of their rounds.
--
-- A process that has written nothing and whose next step isn't the kernel's, if it has one, has no
-- kernel turn to make, whatever the kernel is. So its private turns of the next rounds can be made
-- one after another, before the other processes have made their kernel turns: no kernel turn of
-- another process can observe this.
use Rattle.std.specs.Prelude.{◌≡◌, ◌≢◌, ◌%◌, ◌/◌, ℕ, zero, suc, true, false, List, [], Some, length, if◌then◌else◌, get_or, map, nat_eq, slice_get}
use Rattle.cp_model_program.specs.Programs.{Program}
use Rattle.cp_model_machine.specs.KernelSteps.{Begun, Kernel, needs_kernel}
use Rattle.cp_model_machine.specs.Machines.{Machine, wake_one}
use Rattle.cp_model_machine.specs.PrivateStates.{PrivateState, is_running}
use Rattle.cp_model_machine.specs.Steps.{operation_of, private_steps}

-- ---- One process

-- No step of the kernel is next, and nothing that was written is left.
pub record NeedsNoKernel (program : Program) (o : PrivateState) : Type 0 where
  pub next : is_running o.activity ≡ true → needs_kernel o (operation_of program o) ≡ false
  pub silent : o.output ≡ []

-- What a private turn of at most t steps makes of a private state in the round after the first
-- `rounds` rounds.
abbrev pub turn_at : Program → (tick t rounds : ℕ) → PrivateState → PrivateState
turn_at program tick t rounds o =
    private_steps program (suc rounds / tick) t (if nat_eq (suc rounds % tick) 0 then wake_one o else o)

-- y is what o becomes by its private turns of the n rounds after the first `rounds` rounds. The process is
-- quiet before each of these turns.
abbrev pub IsAhead : Program → (tick t rounds n : ℕ) → PrivateState → PrivateState → Type 0
IsAhead program tick t rounds zero o y = y ≡ o
IsAhead program tick t rounds (suc n) o y =
    NeedsNoKernel program o × IsAhead program tick t (suc rounds) n (turn_at program tick t rounds o) y

-- ---- All processes

-- Of the private states os, the one at index i is n i turns ahead in ys.
pub record AreAhead (program : Program) (tick t rounds : ℕ) (n : ℕ → ℕ) (os ys : List PrivateState) : Type 0 where
  pub count : length ys ≡ length os
  pub each : (i : ℕ) (o y : PrivateState) → slice_get os i ≡ Some o → slice_get ys i ≡ Some y → IsAhead program tick t rounds (n i) o y

-- The process at index i has begun.
pub record HasBegun (i : ℕ) (k : Kernel) : Type 0 where
  pub stage : get_or k.stages i Begun ≡ Begun

-- The private states have the numbers of their processes.
abbrev pub AreNumbered : List PrivateState → Type 0
AreNumbered xs = (i : ℕ) (x : PrivateState) → slice_get xs i ≡ Some x → x.number ≡ suc i

-- zs are the private states ys after the turns, in the round after the first `rounds` rounds, of the
-- processes that aren't ahead.
pub record HaveTurned (program : Program) (tick t rounds : ℕ) (n : ℕ → ℕ) (ys zs : List PrivateState) : Type 0 where
  pub count : length zs ≡ length ys
  pub turned : (i : ℕ) (y z : PrivateState) → n i ≡ 0 → slice_get ys i ≡ Some y → slice_get zs i ≡ Some z → z ≡ turn_at program tick t rounds y
  pub still : (i : ℕ) → n i ≢ 0 → slice_get zs i ≡ slice_get ys i

-- ---- The machine

-- A kernel, transcripts and private states are those of the machine m, apart from the turns that
-- processes are ahead. The next private turns of m are those of the round after the first `rounds`
-- rounds.
pub record AreRunAhead (t rounds : ℕ) (m : Machine) (n : ℕ → ℕ) (k : Kernel) (ts : List (List ℕ)) (ys : List PrivateState) : Type 0 where
  pub kernel : k ≡ m.kernel
  pub transcripts : ts ≡ m.transcripts
  pub ahead : AreAhead m.program m.tick t rounds n m.parts ys
  pub numbers : AreNumbered m.parts
  pub begun : (i : ℕ) → n i ≢ 0 → HasBegun i m.kernel

-- The machine after all private turns of a round.
abbrev pub with_turns : ℕ → Machine → Machine
with_turns t m = record m { parts = map (turn_at m.program m.tick t m.rounds) m.parts }
