-- What a private state comes from, while any thread may make its private turn.
use Rattle.std.specs.Prelude.{◌≡◌, ◌≤◌, ◌+◌, ◌-◌, ◌*◌, ℕ, zero, suc, Bool, true, false, List, Option, None, Some, slice_get, vec_len, vec_capacity}
use mathlib.Core.Bool.{Bool-set}
use mathlib.Core.HLevel.{×_prop}
use Rattle.cp_private.specs.Resting.{is_idle}
use Rattle.cp_private.specs.States.{private_of}
use Rattle.cp_private.specs.declared.private.Private.{Private}
use Rattle.cp_model_machine.specs.PrivateStates.{PrivateState}
use Rattle.cp_program.specs.View as view
use Rattle.cp_rounds_handoff.specs.Inputs.{input_at}
use Rattle.cp_rounds_handoff.specs.Quiet.{needs_no_kernel}
use Rattle.cp_rounds_handoff.specs.Turned as plain
use Rattle.cp_rounds_handoff.specs.declared.round_time.RoundTime.{RoundTime}
use Rattle.cp_rounds_handoff.specs.declared.config.MachineConfig.{MachineConfig}

-- ---- Turns of one process, of one round after another

-- y is what o becomes by the turns of n rounds from `round` on. The process is quiet before each of them.
abbrev pub StaysWithoutKernel : (PrivateState → Bool) → (RoundTime → PrivateState → PrivateState) → (ℕ → RoundTime) → (round n : ℕ) → PrivateState → PrivateState → Type 0
StaysWithoutKernel without_kernel turned round_time round zero o y = y ≡ o
StaysWithoutKernel without_kernel turned round_time round (suc n) o y = (without_kernel o ≡ true) × StaysWithoutKernel without_kernel turned round_time (suc round) n (turned (round_time round) o) y

-- y is what o becomes by the turns of n rounds from `round` on. The process is quiet before each of
-- them but the first.
abbrev pub AreMade : (PrivateState → Bool) → (RoundTime → PrivateState → PrivateState) → (ℕ → RoundTime) → (round n : ℕ) → PrivateState → PrivateState → Type 0
AreMade without_kernel turned round_time round zero o y = y ≡ o
AreMade without_kernel turned round_time round (suc n) o y = StaysWithoutKernel without_kernel turned round_time (suc round) n (turned (round_time round) o) y

-- There is at most one proof of it.
StaysWithoutKernel-prop : IsSet PrivateState → (without_kernel : PrivateState → Bool) (turned : RoundTime → PrivateState → PrivateState) (round_time : ℕ → RoundTime) (round n : ℕ)
    (o y : PrivateState) → IsProp (StaysWithoutKernel without_kernel turned round_time round n o y)
StaysWithoutKernel-prop set without_kernel turned round_time round zero o y = set y o
StaysWithoutKernel-prop set without_kernel turned round_time round (suc n) o y =
    ×_prop (Bool-set (without_kernel o) true) (StaysWithoutKernel-prop set without_kernel turned round_time (suc round) n (turned (round_time round) o) y)

pub AreMade-prop : IsSet PrivateState → (without_kernel : PrivateState → Bool) (turned : RoundTime → PrivateState → PrivateState) (round_time : ℕ → RoundTime) (round n : ℕ)
    (o y : PrivateState) → IsProp (AreMade without_kernel turned round_time round n o y)
AreMade-prop set without_kernel turned round_time round zero o y = set y o
AreMade-prop set without_kernel turned round_time round (suc n) o y = StaysWithoutKernel-prop set without_kernel turned round_time (suc round) n (turned (round_time round) o) y

-- Whether a number of turns isn't 0.
abbrev pub is_some : ℕ → Bool
is_some zero = false
is_some (suc n) = true

-- Whether there is no such thing.
abbrev pub is_none : {A : Type 0} → Option A → Bool
is_none None = true
is_none (Some a) = false

-- ---- Room

-- The largest number of bytes that a private turn has written, once it is made and before, if a
-- turn writes at most `most` bytes.
abbrev pub bytes_written : ℕ → Bool → ℕ
bytes_written most true = most
bytes_written most false = 0

-- How many bytes a process may still write in a round of two turns, the private turn and then the
-- kernel turn, of at most `most` bytes each.
abbrev pub bytes_to_write : ℕ → Bool → ℕ
bytes_to_write most true = most
bytes_to_write most false = most + most

-- y holds what comes from the private state at index i.
abbrev pub ComesOf : (PrivateState → PrivateState → Type 0) → List ℕ → List Private → ℕ → Private → Type 0
ComesOf leads input xs i y = (x : Private) → slice_get xs i ≡ Some x → leads (private_of x input) (private_of y input)

-- Its turn has written at most `most` bytes.
abbrev pub IsShort : ℕ → List Private → ℕ → Bool → Private → Type 0
IsShort most xs i made y = (x : Private) → slice_get xs i ≡ Some x → vec_len y.output ≤ vec_len x.output + bytes_written most made

-- There is room whatever it may still write.
abbrev pub HasRoom : ℕ → Bool → Private → Type 0
HasRoom most made y = vec_len y.output + bytes_to_write most made ≤ vec_capacity y.output

-- There is room whatever a process may write in later rounds, once it has written nothing.
abbrev pub IsWide : ℕ → Private → Type 0
IsWide most y = most + most ≤ vec_capacity y.output

-- y is the private state of a process once its private turn is made.
pub record IsTaken (turned : PrivateState → PrivateState) (input : List ℕ) (most : ℕ) (xs : List Private) (process : ℕ) (y : Private) : Type 0 where
  pub number : y.number ≡ process
  pub comes : (x : Private) → slice_get xs (process - 1) ≡ Some x → private_of y input ≡ turned (private_of x input)
  pub room : HasRoom most true y
  pub short : IsShort most xs (process - 1) true y

-- y is the private state of a process once its turns are made, which lead from its content at the start
-- of the round to that of y.
pub record AreTaken (leads : PrivateState → PrivateState → Type 0) (input : List ℕ) (most : ℕ) (xs : List Private) (process : ℕ) (y : Private) : Type 0 where
  pub number : y.number ≡ process
  pub comes : ComesOf leads input xs (process - 1) y
  pub room : HasRoom most true y
  pub short : IsShort most xs (process - 1) true y
  pub wide : IsWide most y

-- `without_kernel` reports whether a process is quiet, `turned` is the turn of t steps in this
-- configuration, which writes at most `most` bytes, and `input` is the input at each index.
pub record IsCourseOf (without_kernel : PrivateState → Bool) (turned : RoundTime → PrivateState → PrivateState) (input : ℕ → List ℕ)
    (most : ℕ) (g : MachineConfig) (t : ℕ) : Type 0 where
  pub reports : (o : PrivateState) → without_kernel o ≡ needs_no_kernel (view.program g.program) o
  pub steps : (w : RoundTime) (o : PrivateState) → turned w o ≡ plain.take_turn (view.program g.program) t w o
  pub inputs : (i : ℕ) → input i ≡ input_at g.inputs.items i
  pub bytes : most ≡ 11 * t

-- Each private state has room for what a round writes.
abbrev pub AllFree : ℕ → List Private → Type 0
AllFree most xs = (i : ℕ) (x : Private) → slice_get xs i ≡ Some x → HasRoom most false x

-- From index `from` on, each private state that rests is the one at the start of the round. The
-- others may be at the handoff queue.
abbrev pub AreInPlace : Bool → ℕ → List Private → List Private → Type 0
AreInPlace wakes from xs ys = (i : ℕ) (y : Private) → from ≤ i → slice_get ys i ≡ Some y → is_idle wakes y ≡ true → slice_get xs i ≡ Some y

-- If the calling thread makes a round alone, all private states from index `from` on are those at the
-- start of the round.
abbrev pub AreHere : Bool → ℕ → List Private → List Private → Type 0
AreHere alone from xs ys = alone ≡ true → (i : ℕ) (y : Private) → from ≤ i → slice_get ys i ≡ Some y → slice_get xs i ≡ Some y
