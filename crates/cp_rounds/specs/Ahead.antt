-- A machine some of whose processes are ahead: private turns of later rounds are made already.
use Rattle.std.specs.Prelude.{◌≡◌, ◌≢◌, ◌≤◌, ◌<◌, ◌+◌, ◌-◌, ◌*◌, ℕ, suc, Bool, true, List, Some, get_or, length, slice_get, vec_len}
use Rattle.cp_model_machine.specs.Ahead.{HasBegun, AreRunAhead}
use Rattle.cp_kernel.specs.KernelOf.{HasRoomForAskers, HasRoomForBytes, kernel_of, transcripts_of}
use Rattle.cp_kernel.specs.Turns.{parts_of}
use Rattle.cp_kernel.specs.declared.kernel.Kernel.{Kernel}
use Rattle.cp_model_machine.specs.Machines.{Machine}
use Rattle.cp_model_machine.specs.PrivateStates.{PrivateState}
use Rattle.cp_private.specs.declared.private.Private.{Private}
use Rattle.cp_program.specs.View as view
use Rattle.cp_rounds_handoff.specs.Inputs.{input_of}
use Rattle.cp_rounds_handoff.specs.Numbers.{AreNumbered}
use Rattle.cp_rounds_handoff.specs.Tasks.{AreMade, AreTaken, HasRoom, IsWide}
use Rattle.cp_rounds_handoff.specs.Turned.{round_time_of}
use Rattle.cp_rounds_handoff.specs.declared.round_time.RoundTime.{RoundTime}
use Rattle.cp_rounds_handoff.specs.declared.config.MachineConfig.{MachineConfig}

-- How many turns the process at an index is ahead.
abbrev pub turns_ahead : List ℕ → ℕ → ℕ
turns_ahead ns i = get_or ns i 0

-- Private states and a kernel are those of a machine, apart from the turns that processes are
-- ahead. The next private turns are those of the round after the first `rounds` rounds.
abbrev pub PartsAhead : MachineConfig → (t rounds : ℕ) → Machine → List ℕ → List Private → Kernel → Type 0
PartsAhead g t rounds m ns ys k =
    AreRunAhead t rounds m (turns_ahead ns) (kernel_of k) (transcripts_of k) (parts_of (input_of g.inputs.items) 1 ys)

-- The machine has this program, and its next round is made at this time.
pub record IsTime (g : MachineConfig) (m : Machine) (round_time : RoundTime) : Type 0 where
  pub program : m.program ≡ view.program g.program
  pub time : round_time ≡ round_time_of m.tick m.rounds

-- All private states are taken back, after so many turns ahead, fewer than `rounds`.
pub record AreBack (without_kernel : PrivateState → Bool) (turned : RoundTime → PrivateState → PrivateState) (round_time : ℕ → RoundTime)
    (input : ℕ → List ℕ) (most round rounds : ℕ) (xs : List Private) (ns : List ℕ) (ys : List Private) (k : Kernel) : Type 0 where
  pub count : length ys ≡ length xs
  pub turns : length ns ≡ length ys
  pub taken : (i : ℕ) (y : Private) → slice_get ys i ≡ Some y
      → AreTaken (AreMade without_kernel turned round_time round (suc (turns_ahead ns i))) (input i) most xs (suc i) y
  pub few : (i : ℕ) → turns_ahead ns i < rounds
  pub begun : (i : ℕ) → turns_ahead ns i ≢ 0 → HasBegun i (kernel_of k)

-- There is room for the kernel turns of a round from index `from` on, and for all turns of so many
-- rounds after it, and nobody is ahead by more turns than that. A turn writes at most `most` bytes.
pub record IsReadyAhead (most later from : ℕ) (ns : List ℕ) (ys : List Private) (k : Kernel) : Type 0 where
  pub stages : length k.stages.items ≡ length ys
  pub turns : length ns ≡ length ys
  pub numbers : AreNumbered ys
  pub few : (i : ℕ) → turns_ahead ns i ≤ later
  pub asking : HasRoomForAskers k ((length ys - from) + later * length ys)
  pub room : (i : ℕ) (y : Private) → slice_get ys i ≡ Some y → HasRoom most true y
  pub wide : (i : ℕ) (y : Private) → slice_get ys i ≡ Some y → IsWide most y
  pub before : (i : ℕ) (y : Private) → from ≤ i → slice_get ys i ≡ Some y → HasRoomForBytes k (suc i) ((vec_len y.output + most) + later * (most + most))
  pub after : (i : ℕ) (y : Private) → i < from → slice_get ys i ≡ Some y → HasRoomForBytes k (suc i) (vec_len y.output + later * (most + most))
  pub empty : (i : ℕ) (y : Private) → i < from → turns_ahead ns i ≡ 0 → slice_get ys i ≡ Some y → vec_len y.output ≡ 0
