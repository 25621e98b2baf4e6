-- The leaves of a variable: its simple parts, queues and marks, each with its path and start value,
-- in the report's order.
--
-- Fields come in text order, elements by rising index. A class has a leaf for its mark, followed by
-- the leaves of its members. What a process or a monitor owns does not be at its variable.
use Rattle.std.specs.Prelude.{List, None, [], false, flat_map, map, negsuc, pos, suc, zero, ℕ, ℤ, ◌++◌, ◌∷◌}
use Rattle.cp_model.specs.Abstract.{Class, Monitor, Process, Sort}
use Rattle.cp_model.specs.Types.{ArrayOf, ComponentOf, Members, MoreMembers, NoMembers, NoType, Queue, RecordOf, ResolvedType, Simple}
use Rattle.cp_model.specs.Locations.{ByIndex, ByName, Path, PathStep}
use Rattle.cp_model.specs.Stores.{Initialised, Ordinal, QueueHolds, Value}
use Rattle.cp_model.specs.Integers.{count_between}

-- A list of rising integers, given the lowest and how many there are.
abbrev pub integers_from : ℤ → ℕ → List ℤ
integers_from low zero = []
integers_from low (suc n) = low ∷ integers_from (next low) n
  where
    next : ℤ → ℤ
    next (pos a) = pos (suc a)
    next (negsuc zero) = pos 0
    next (negsuc (suc a)) = negsuc a

-- A path within the variable, and the start value there.
abbrev pub Leaf : Type 0
Leaf = Path × Value

abbrev pub below_step : PathStep → Leaf → Leaf
below_step s p = (s ∷ p.0, p.1)

abbrev pub component_leaves : Sort → List Leaf → List Leaf
component_leaves Process ps = []
component_leaves Monitor ps = []
component_leaves Class ps = ([], Initialised false) ∷ ps

abbrev mutual
  pub leaves : ResolvedType → List Leaf
  leaves (Simple b low high start) = ([], Ordinal start) ∷ []
  leaves (ArrayOf low high t) =
      let inner = leaves t in
      flat_map (λ i. map (below_step (ByIndex i)) inner) (integers_from low (count_between low high))
  leaves (RecordOf ps) = leaves_of_members ps
  leaves Queue = ([], QueueHolds None) ∷ []
  leaves (ComponentOf s inner) = component_leaves s.sort (leaves_of_members inner)
  leaves NoType = []

  pub leaves_of_members : Members → List Leaf
  leaves_of_members NoMembers = []
  leaves_of_members (MoreMembers x t ps) = map (below_step (ByName x)) (leaves t) ++ leaves_of_members ps
