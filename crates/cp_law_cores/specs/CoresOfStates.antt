-- The cores of a state.
--
-- A state of the meaning has several cores: words that nothing reads again may hold anything in it.
use Rattle.std.specs.Prelude.{Bool, List, [], false, true, ℕ, ◌∷◌, ◌≡◌}
use Rattle.cp_model.specs.Rounds.{Event}
use Rattle.cp_model.specs.States.{Setup, State}
use Rattle.cp_model.specs.Turns.{Kind, Private}
use Rattle.cp_model_program.specs.Programs.{Program}
use Rattle.cp_model_machine.specs.InState.{IsIn}
use Rattle.cp_model_machine.specs.Machines.{Machine}
use Rattle.cp_model_machine.specs.PrivateStates.{Activity, PrivateState, Waiting}
use Rattle.cp_law_cores.specs.Cores.{Core, core}

-- `c` is the core of a machine that is in the state.
pub record IsCoreOf (setup : Setup) (s : State) (c : Core) : Type 0 where
  pub machine : Machine
  pub inside : IsIn machine setup s
  pub is : core machine ≡ c

-- Nobody waits for the clock.
abbrev pub waits : Activity → Bool
waits Waiting = true
waits _ = false

abbrev pub AreAwake : List PrivateState → Type 0
AreAwake [] = Unit {0}
AreAwake (o ∷ os) = (waits o.activity ≡ false) × AreAwake os

-- `c` is the core of a machine of the program that is in the state, and in which nobody waits.
pub record IsCoreIn (program : Program) (setup : Setup) (s : State) (c : Core) : Type 0 where
  pub machine : Machine
  pub program_is : machine.program ≡ program
  pub awake : AreAwake machine.parts
  pub inside : IsIn machine setup s
  pub is : core machine ≡ c

-- Whatever state `w` is a core of, so is `v`. They may differ in words that nothing reads again.
abbrev pub IsCoveredBy : Program → Setup → Core → Core → Type 0
IsCoveredBy program setup w v = (s : State) → IsCoreIn program setup s w → IsCoreIn program setup s v

-- ---- Events

abbrev pub is_private_kind : Kind → Bool
is_private_kind Private = true
is_private_kind _ = false

-- Rounds of turns of one step.
abbrev pub with_one : List (List Event) → List (ℕ × List Event)
with_one [] = []
with_one (es ∷ rs) = (1, es) ∷ with_one rs
