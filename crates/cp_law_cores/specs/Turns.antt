-- Private turns of cores.
use Rattle.std.specs.Prelude.{None, Option, Some, ℕ, ◌≡◌}
use Rattle.cp_model_program.specs.Programs.{Program}
use Rattle.cp_model_machine.specs.KernelSteps.{Fresh, Kernel, stage_of}
use Rattle.cp_model_machine.specs.PrivateStates.{PrivateState}
use Rattle.cp_model_machine.specs.Steps.{private_steps}
use Rattle.cp_law_cores.specs.Cores.{Core, part, put, silent}

-- At most `t` private steps of a process.
abbrev pub turn_on : Program → ℕ → Core → ℕ → Option PrivateState → Core
turn_on program t c p None = c
turn_on program t c p (Some o) = record c { parts = put c.parts p (silent (private_steps program 0 t o)) }

abbrev pub private_turn : Program → ℕ → Core → ℕ → Core
private_turn program t c p = turn_on program t c p (part c.parts p)

-- Nobody begins at the end of the round.
pub record NoneFresh (k : Kernel) : Type 0 where
  pub none : (p : ℕ) → stage_of k.stages p ≡ Fresh → ⊥

-- Nothing that was written is left.
pub record AreSilent (c : Core) : Type 0 where
  pub silence : (p : ℕ) (o : PrivateState) → part c.parts p ≡ Some o → silent o ≡ o
