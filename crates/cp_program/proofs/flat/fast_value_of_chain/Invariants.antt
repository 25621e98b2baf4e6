use Rattle.std.proofs.Common.{◌≡◌, ℕ, drop, map}
use Rattle.cp_program.specs.Reaches.{chain_value, view_with}
use Rattle.cp_program.specs.View as view
use Rattle.cp_program.proofs.flat.fast_value_of_chain.Given as goal

-- The remaining operands lead from the value so far to the value of the chain.
abbrev pub invariant-loop-x : goal.invariant-loop-x
invariant-loop-x g l =
    (clock : ℕ) → chain_value (view_with l.memory l.shared clock) l.n (map view.application (drop l.x-index l.rest))
    ≡ chain_value (view_with l.fn.memory l.fn.shared clock) l.fn.first (map view.application l.fn.rest)
