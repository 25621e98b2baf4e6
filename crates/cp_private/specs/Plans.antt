-- What is left of a plan to carry out.
use Rattle.std.specs.Prelude.{ℤ, List, Option, None, Some, take}
use Rattle.cp_model_program.specs.Starts.{carry_out}
use Rattle.cp_program.specs.declared.program.Program.{Program}
use Rattle.cp_program.specs.View.{plan_of, plans_of}
use Rattle.cp_private.specs.declared.plans.Rest.{Rest}

-- The words after these pieces have been carried out.
abbrev pub carried : Program → Rest → List ℤ → List ℤ
carried program r ws = carry_out r.base (plan_of (take r.below (plans_of program)) r.pieces.now) ws

abbrev pub carried_or_same : Program → Option Rest → List ℤ → List ℤ
carried_or_same program None ws = ws
carried_or_same program (Some r) ws = carried program r ws
