-- Turns, step by step.
use Rattle.std.proofs.Common.{◌≡◌, ℕ, zero, suc, ap, refl, ◌∙◌}
use Rattle.cp_model_program.specs.Programs.{Program}
use Rattle.cp_model_machine.specs.PrivateStates.{PrivateState}
use Rattle.cp_model_machine.specs.Steps.{private_step, private_steps}

-- If the next step isn't private, a turn does nothing.
pub steps_rest : (program : Program) (clock n : ℕ) (o : PrivateState) → private_step program clock o ≡ o → private_steps program clock n o ≡ o
steps_rest program clock zero o h = refl
steps_rest program clock (suc n) o h = ap (private_steps program clock n) h ∙ steps_rest program clock n o h

-- A turn with one more step.
pub steps_more : (program : Program) (clock m n : ℕ) (o : PrivateState) → m ≡ suc n
    → private_steps program clock m o ≡ private_steps program clock n (private_step program clock o)
steps_more program clock m n o h = ap (λ k. private_steps program clock k o) h
