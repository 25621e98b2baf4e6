-- What is known of an address that was found, of a fault, and of gates.
use Rattle.std.proofs.Common.{◌≡◌, ℕ, zero, suc, true, false, Result, Ok, Err, refl, ap, sym}
use Rattle.cp_model.specs.declared.state.Fault.{Fault}
use Rattle.cp_model_machine.specs.Steps.{is_held}
use Rattle.cp_program.specs.Reaches.{cap_place, capped_result}

-- An address may be capped to the largest number.
pub placed : (r : Result ℕ Fault) (at : ℕ) → Ok at ≡ capped_result r → (n : ℕ) × (r ≡ Ok n) × (cap_place n ≡ at)
placed (Ok n) at is = (n, (λ i. Ok n), (cc))
placed (Err f) at is = absurd (cc)

pub unplaced : (r : Result ℕ Fault) (f : Fault) → Err f ≡ capped_result r → r ≡ Err f
unplaced (Ok n) f is = absurd (cc)
unplaced (Err g) f is = sym is

-- ---- Gates

pub held_none : (g : ℕ) → g ≡ 0 → is_held g ≡ false
held_none g h = ap is_held h

pub held_some : (g : ℕ) → (g ≡ 0 → ⊥) → is_held g ≡ true
held_some zero h = absurd (h refl)
held_some (suc g) h = refl
