use Rattle.std.proofs.Common.{◌≡◌, map, sym, ap, ◌∙◌}
use Rattle.cp_model.specs.Syntax as s
use Rattle.cp_model.specs.Syntax.{chain_of}
use Rattle.cp_model.specs.View.{PlacedIndex, expression, operation, expression_layer, selector_layer, designator_layer, index_layer, operation_layer}
use Rattle.cp_model.specs.declared.tree.Expression.TheVariants.{rolls-Chain}
use Rattle.cp_model.specs.declared.tree.Expression.TheFolds.{fold-roll-Expression}
use Rattle.cp_rules_body.proofs.Views.{designator_in_chain}
use Rattle.cp_rules_body.proofs.values.+designator_of.Goals as goal

pub returns-in_default-as_slice : goal.returns-in_default-as_slice
returns-in_default-as_slice t c =
    let v : expression c.args.value.now ≡ chain_of (expression c.in-Chain.first.value) (map operation c.in-Chain.rest.items) = rw c.in-Chain.is (ap expression (sym (rolls-Chain c.in-Chain.first c.in-Chain.rest)) ∙ fold-roll-Expression s.Expression s.Selector s.Designator PlacedIndex s.Operation expression_layer selector_layer designator_layer index_layer operation_layer _) in
    rw v (designator_in_chain (expression c.in-Chain.first.value) c.in-Chain.rest.items (rw c.as_slice.ensures.value at c.in_default-as_slice.len_at_least))
