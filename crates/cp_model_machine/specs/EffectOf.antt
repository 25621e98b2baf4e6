-- When the effect that a step of the machine leaves to the kernel is that of the meaning's step.
use Rattle.std.specs.Prelude.{◌≡◌, ◌≤◌, ◌-◌, ℕ, [], Some}
use Rattle.cp_model.specs.Configurations as effect
use Rattle.cp_model.specs.Configurations.{Effect, StepResult}
use Rattle.cp_model.specs.Outcomes.{Fault, Gives}
use Rattle.cp_model.specs.Types.{Queue}
use Rattle.cp_model_machine.specs.Addresses.{Ground, lies}
use Rattle.cp_model_machine.specs.Means.{process_of_word}
use Rattle.cp_model_machine.specs.PrivateStates as machine

-- `i` is a number from 1 to `n`.
abbrev pub IsNumber : ℕ → ℕ → Type 0
IsNumber n i = (1 ≤ i) × (i ≤ n)

-- The two effects are the same, with valid numbers. A queue is given by its address, and the
-- process has `own` words of its own.
abbrev pub EffectMeans : Ground → ℕ → ℕ → ℕ → Effect → machine.Effect → Type 0
EffectMeans G monitors processes own effect.Own machine.NoEffect = Unit {0}
EffectMeans G monitors processes own effect.Ends machine.NoEffect = Unit {0}
EffectMeans G monitors processes own effect.Waits machine.NoEffect = Unit {0}
EffectMeans G monitors processes own (effect.Enters m) (machine.Enters k) = (m ≡ k) × IsNumber monitors m
EffectMeans G monitors processes own (effect.Leaves m) (machine.Leaves k) = (m ≡ k) × IsNumber monitors m
EffectMeans G monitors processes own (effect.Delays m q) (machine.Delays k at) =
    (m ≡ k) × IsNumber monitors m × (lies G [] q ≡ Some (at - own, Queue))
EffectMeans G monitors processes own (effect.Continues m r) (machine.Continues k n) =
    (m ≡ k) × IsNumber monitors m × (r ≡ process_of_word n)
EffectMeans G monitors processes own (effect.Opens m) (machine.Opens k) = (m ≡ k) × IsNumber monitors m
EffectMeans G monitors processes own (effect.Starts r k) (machine.Starts n) = (r ≡ n) × IsNumber processes r
EffectMeans G monitors processes own _ _ = ⊥

-- A fault leaves nothing to the kernel.
abbrev pub IsEffectOf : Ground → ℕ → ℕ → ℕ → StepResult → machine.Effect → Type 0
IsEffectOf G monitors processes own (Gives x) e = EffectMeans G monitors processes own x.1 e
IsEffectOf G monitors processes own (Fault n) e = e ≡ machine.NoEffect
