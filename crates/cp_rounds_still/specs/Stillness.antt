-- Whether a machine is still, and the first still state of its rounds.
use Rattle.std.specs.Prelude.{◌≡◌, ◌<◌, ◌+◌, ℕ, Bool, false, true}
use Rattle.cp_model.specs.Rounds.{run}
use Rattle.cp_model.specs.States.{Setup, State}
use Rattle.cp_model_machine.specs.InState.{IsIn}
use Rattle.cp_inspect.specs.declared.state.ProcState.{ProcState}
use Rattle.cp_inspect.specs.declared.state.ProcState.TheVariants as state
use Rattle.cp_law_stillness.specs.Stillness.{is_still}
use Rattle.cp_rounds.specs.ProcessStates.{state_at}
use Rattle.cp_rounds.specs.Views.{IsAfter, machine_of}
use Rattle.cp_rounds.specs.declared.machine.Machine.{Machine}

-- A process in this state can move.
abbrev pub moves : ProcState → Bool
moves state.Fresh = true
moves state.Ready = true
moves state.Waiting = true
moves _ = false

-- The first n processes of the machine can't.
abbrev pub RestBelow : Machine → ℕ → Type 0
RestBelow m n = (i : ℕ) → i < n → moves (state_at (machine_of m) (i + 1)) ≡ false

-- Each state that the machine is in is still, or none is.
abbrev pub ReportsStill : Machine → Bool → Type 0
ReportsStill m b = (setup : Setup) (s : State) → IsIn (machine_of m) setup s → is_still setup s ≡ b

-- In no state that the machine is in are the first n states of its rounds still.
abbrev pub NoneStillBefore : ℕ → ℕ → Machine → Type 0
NoneStillBefore t n m = (setup : Setup) (s : State) → IsIn (machine_of m) setup s → (k : ℕ) → k < n → is_still setup (run setup t k s) ≡ false

-- The machine has made the rounds and, if there is more than one of them, isn't still. Or it is as
-- it was.
abbrev pub Advances : ℕ → ℕ → Bool → Machine → Machine → Type 0
Advances t n true old new = IsAfter t n old new × (1 < n → ReportsStill new false)
Advances t n false old new = IsAfter t 0 old new
