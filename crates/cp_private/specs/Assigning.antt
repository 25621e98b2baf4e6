-- What an assignment does once its place and its value are known.
use Rattle.std.specs.Prelude.{ℕ, ℤ}
use Rattle.cp_model_machine.specs.PrivateStates.{Acting, PrivateState}
use Rattle.cp_model_machine.specs.Steps as plain
use Rattle.cp_program.specs.declared.operation.Assignment.{Assignment}

-- The value is written to the place if it is within the bounds.
abbrev pub assign : Assignment → PrivateState → ℕ → ℤ → Acting
assign a o at n = plain.set_within o a.bounds.low a.bounds.high at n a.next
