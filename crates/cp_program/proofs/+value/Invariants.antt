use Rattle.std.proofs.Common.{◌≡◌, ◌<◌, ◌^◌, drop, map}
use Rattle.cp_program.specs.Reaches.{capped_result, chain_value, elements_place, view_of}
use Rattle.cp_program.specs.View as view
use Rattle.cp_program.proofs.+value.Given as goal

-- The remaining indices lead from the place so far to the place of all indices.
abbrev pub invariant-evaluation::place_of_element-loop-i : goal.invariant-evaluation::place_of_element-loop-i
invariant-evaluation::place_of_element-loop-i l =
    record {
      small : l.at < 2 ^ 64;
      place : capped_result (elements_place (view_of l.reach) l.at (map view.index (drop l.i-index l.indices)))
          ≡ capped_result (elements_place (view_of l.fn.reach) l.fn.from (map view.index l.fn.indices));
    }

-- The remaining operands lead from the value so far to the value of the chain.
abbrev pub invariant-evaluation::value_of_chain-loop-x : goal.invariant-evaluation::value_of_chain-loop-x
invariant-evaluation::value_of_chain-loop-x l =
    chain_value (view_of l.reach) l.n (map view.application (drop l.x-index l.rest))
    ≡ chain_value (view_of l.fn.reach) l.fn.first (map view.application l.fn.rest)
