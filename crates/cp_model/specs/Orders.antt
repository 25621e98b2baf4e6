-- Lawful orders of a round.
--
-- An order is lawful if each process has as many `PrivateStep` events as the turn length, all of
-- them before its one `KernelTurn`, and the kernel turns come in order of number.
use Rattle.std.specs.Prelude.{AllPairs, Contains, List, [], flat_map, if◌then◌else◌, nat_eq, replicate, suc, ℕ, ◌∷◌, ◌≡◌, ◌≢◌}
use Rattle.cp_model.specs.States.{Setup, State, is_in}
use Rattle.cp_model.specs.Rounds.{Event, KernelTurn, PrivateStep, replay_round}

-- The number of private steps of p.
abbrev pub private_steps : ℕ → List Event → ℕ
private_steps p [] = 0
private_steps p (PrivateStep q ∷ es) = if nat_eq p q then suc (private_steps p es) else private_steps p es
private_steps p (KernelTurn q ∷ es) = private_steps p es

-- The processes that have kernel turns, in order.
abbrev pub kernel_turn_order : List Event → List ℕ
kernel_turn_order [] = []
kernel_turn_order (PrivateStep q ∷ es) = kernel_turn_order es
kernel_turn_order (KernelTurn q ∷ es) = q ∷ kernel_turn_order es

-- No private step of a process comes after its kernel turn.
abbrev pub ArePrivateStepsFirst : List Event → Type 0
ArePrivateStepsFirst [] = Unit {0}
ArePrivateStepsFirst (PrivateStep q ∷ es) = ArePrivateStepsFirst es
ArePrivateStepsFirst (KernelTurn q ∷ es) = (private_steps q es ≡ 0) × ArePrivateStepsFirst es

-- The order is lawful for the turn length t and the processes ps.
pub record IsLawful (t : ℕ) (ps : List ℕ) (es : List Event) : Type 0 where
  pub order : kernel_turn_order es ≡ ps
  pub steps : (p : ℕ) → private_steps p es ≡ (if is_in p ps then t else 0)
  pub in_order : ArePrivateStepsFirst es

-- ---- Turns that are shared out

-- The private turns of these processes, one after another, as steps.
abbrev pub steps_of : ℕ → List ℕ → List Event
steps_of t ps = flat_map (λ p. replicate t (PrivateStep p)) ps

-- The list holds the steps of these processes' private turns, in any order.
pub record AreStepsOf (t : ℕ) (drawn : List ℕ) (steps : List Event) : Type 0 where
  pub private : kernel_turn_order steps ≡ []
  pub count : (p : ℕ) → private_steps p steps ≡ private_steps p (steps_of t drawn)

-- The processes ps are drawn, none twice and none left out.
pub record IsDrawnOnce (ps drawn : List ℕ) : Type 0 where
  pub known : (p : ℕ) → Contains drawn p → Contains ps p
  pub distinct : AllPairs (λ p q. p ≢ q) drawn
  pub whole : (p : ℕ) → Contains ps p → Contains drawn p

-- ---- Many rounds

-- Rounds in any orders, lawful or not, each with its turn length.
abbrev pub replay : Setup → State → List (ℕ × List Event) → State
replay setup s [] = s
replay setup s (r ∷ rs) = replay setup (replay_round setup r.0 s r.1) rs
