-- The variants of the syntax tree, as the definitions see them.
use Rattle.std.proofs.Common.{◌≡◌, ◌∙◌, ℕ, Box, List, Vec, Global, [], ◌∷◌, ap, map, refl, sym}
use Rattle.cp_model.specs.RulesNames.{first_token}
use Rattle.cp_model.specs.Syntax as s
use Rattle.cp_model.specs.Syntax.{chain_of}
use Rattle.cp_model.specs.View.{PlacedIndex, designator, designator_layer, expression, expression_layer, expressions_of, index, index_layer, indices_of, operation, operation_layer, selector, selector_layer, selectors_of}
use Rattle.cp_model.specs.declared.tree.Designator.{Designator}
use Rattle.cp_model.specs.declared.tree.Expression.{Expression}
use Rattle.cp_model.specs.declared.tree.Expression.TheFolds.{fold-roll-Expression, fold-roll-Selector, fold_out-Designator, fold_out-Index, fold_out-Operation}
use Rattle.cp_model.specs.declared.tree.Expression.TheVariants as tree
use Rattle.cp_model.specs.declared.tree.Expression.TheVariants.{rolls-Call, rolls-Chain, rolls-Character, rolls-Not, rolls-Number, rolls-Signed}
use Rattle.cp_model.specs.declared.tree.Identifier.{Identifier}
use Rattle.cp_model.specs.declared.tree.Index.{Index}
use Rattle.cp_model.specs.declared.tree.Operation.{Operation}
use Rattle.cp_model.specs.declared.tree.Selector.TheVariants as selectors
use Rattle.cp_model.specs.declared.tree.Selector.TheVariants.{rolls-Field, rolls-Indexed}
use Rattle.cp_model.specs.declared.tree.Sign.{Sign}

pub view_call : (d : Box Designator Global) (list : Vec Expression Global) → expression (tree.Call d list) ≡ s.Call (designator d.value) (expressions_of (map expression list.items))
view_call d list =
    ap expression (sym (rolls-Call d list))
    ∙ fold-roll-Expression s.Expression s.Selector s.Designator PlacedIndex s.Operation expression_layer selector_layer designator_layer index_layer operation_layer _

pub view_chain : (first : Box Expression Global) (rest : Vec Operation Global) → expression (tree.Chain first rest) ≡ chain_of (expression first.value) (map operation rest.items)
view_chain first rest =
    ap expression (sym (rolls-Chain first rest))
    ∙ fold-roll-Expression s.Expression s.Selector s.Designator PlacedIndex s.Operation expression_layer selector_layer designator_layer index_layer operation_layer _

-- A chain begins like its first operand.
pub first_token_chain : (e : s.Expression) (os : List s.Operation) → first_token (chain_of e os) ≡ first_token e
first_token_chain e [] = refl
first_token_chain e (o ∷ os) = first_token_chain (s.Binary e o.operator o.at o.operand) os

pub view_operation : (o : Operation) → operation o ≡ record { operator = o.operator; at = o.at; operand = expression o.operand }
view_operation = fold_out-Operation s.Expression s.Selector s.Designator PlacedIndex s.Operation expression_layer selector_layer designator_layer index_layer operation_layer

pub view_index : (i : Index) → index i ≡ record { at = i.at; value = expression i.value }
view_index = fold_out-Index s.Expression s.Selector s.Designator PlacedIndex s.Operation expression_layer selector_layer designator_layer index_layer operation_layer

pub view_number : (at n : ℕ) → expression (tree.Number at n) ≡ s.Number at n
view_number at n = ap expression (sym (rolls-Number at n)) ∙ fold-roll-Expression s.Expression s.Selector s.Designator PlacedIndex s.Operation expression_layer selector_layer designator_layer index_layer operation_layer _

pub view_character : (at n : ℕ) → expression (tree.Character at n) ≡ s.Character at n
view_character at n = ap expression (sym (rolls-Character at n)) ∙ fold-roll-Expression s.Expression s.Selector s.Designator PlacedIndex s.Operation expression_layer selector_layer designator_layer index_layer operation_layer _

pub view_not : (at : ℕ) (e : Box Expression Global) → expression (tree.Not at e) ≡ s.Not at (expression e.value)
view_not at e = ap expression (sym (rolls-Not at e)) ∙ fold-roll-Expression s.Expression s.Selector s.Designator PlacedIndex s.Operation expression_layer selector_layer designator_layer index_layer operation_layer _

pub view_signed : (sign : Sign) (at : ℕ) (e : Box Expression Global) → expression (tree.Signed sign at e) ≡ s.Signed sign at (expression e.value)
view_signed sign at e = ap expression (sym (rolls-Signed sign at e)) ∙ fold-roll-Expression s.Expression s.Selector s.Designator PlacedIndex s.Operation expression_layer selector_layer designator_layer index_layer operation_layer _

pub view_indexed : (v : Vec Index Global) → selector (selectors.Indexed v) ≡ s.Indexed (indices_of (map index v.items))
view_indexed v =
    ap selector (sym (rolls-Indexed v))
    ∙ fold-roll-Selector s.Expression s.Selector s.Designator PlacedIndex s.Operation expression_layer selector_layer designator_layer index_layer operation_layer _

pub view_field : (at : ℕ) (x : Identifier) → selector (selectors.Field at x) ≡ s.Field at x
view_field at x =
    ap selector (sym (rolls-Field at x))
    ∙ fold-roll-Selector s.Expression s.Selector s.Designator PlacedIndex s.Operation expression_layer selector_layer designator_layer index_layer operation_layer _

pub view_designator : (d : Designator) → designator d ≡ s.Designate d.root (selectors_of (map selector d.selectors.items))
view_designator = fold_out-Designator s.Expression s.Selector s.Designator PlacedIndex s.Operation expression_layer selector_layer designator_layer index_layer operation_layer
