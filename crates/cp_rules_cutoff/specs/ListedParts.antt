-- Parts that occur only in lists of the tree: the definitions see the whole list.
use Rattle.std.specs.Prelude.{Bool, nat_lt, ℕ, ◌&&◌}
use Rattle.cp_model.specs.Syntax as s
use Rattle.cp_model.specs.View.{LabelledStatement, PlacedIndex}
use Rattle.cp_rules_cutoff.specs.After.{all_after, constant_after, expression_after, statement_after}

-- an operator with its right operand, in a chain
abbrev pub operation_after : ℕ → s.Operation → Bool
operation_after p o = nat_lt p o.at && expression_after p o.operand

abbrev pub index_after : ℕ → PlacedIndex → Bool
index_after p i = nat_lt p i.at && expression_after p i.value

-- one labelled statement of a `case`
abbrev pub arm_after : ℕ → LabelledStatement → Bool
arm_after p a = all_after (constant_after p) a.labels && statement_after p a.body
