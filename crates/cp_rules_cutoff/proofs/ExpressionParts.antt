-- When expressions and designators are after a place. The plain tree folds the lists in them into
-- lists of its own, and a chain of operands into the expression that it groups to.
use Rattle.std.proofs.Common.{◌≡◌, ◌&&◌, ◌∷◌, ◌∙◌, [], ℕ, Bool, Box, Global, List, Vec, ap, false, map, nat_lt, refl, true}
use Rattle.cp_model.specs.Syntax as s
use Rattle.cp_model.specs.Syntax.{chain_of}
use Rattle.cp_model.specs.View.{PlacedIndex, designator, expression, expressions_of, index, indices_of, operation, selector, selectors_of}
use Rattle.cp_model.specs.declared.tree.Designator.{Designator}
use Rattle.cp_model.specs.declared.tree.Expression.{Expression}
use Rattle.cp_model.specs.declared.tree.Expression.TheVariants as tree
use Rattle.cp_model.specs.declared.tree.Index.{Index}
use Rattle.cp_model.specs.declared.tree.Operation.{Operation}
use Rattle.cp_model.specs.declared.tree.Selector.TheVariants as selectors
use Rattle.cp_model.proofs.Views.{view_call, view_chain, view_designator, view_indexed}
use Rattle.cp_rules_cutoff.specs.After.{all_after, designator_after, expression_after, expressions_after, indices_after, name_after, selector_after, selectors_after}
use Rattle.cp_rules_cutoff.specs.ListedParts.{index_after, operation_after}
use Rattle.cp_rules_cutoff.proofs.Grouping.{and_true}

-- ---- lists

pub expressions_are : (p : ℕ) (es : List s.Expression) → expressions_after p (expressions_of es) ≡ all_after (expression_after p) es
expressions_are p [] = refl
expressions_are p (e ∷ es) = ap (λ (r : Bool). expression_after p e && r) (expressions_are p es)

selectors_are : (p : ℕ) (ys : List s.Selector) → selectors_after p (selectors_of ys) ≡ all_after (selector_after p) ys
selectors_are p [] = refl
selectors_are p (y ∷ ys) = ap (λ (r : Bool). selector_after p y && r) (selectors_are p ys)

indices_are : (p : ℕ) (is : List PlacedIndex) → indices_after p (indices_of is) ≡ all_after (index_after p) is
indices_are p [] = refl
indices_are p (i ∷ is) = ap (λ (r : Bool). index_after p i && r) (indices_are p is)

regrouped : (a b c d : Bool) → (a && b && c && d) ≡ (a && ((b && c) && d))
regrouped true b c d = refl
regrouped false b c d = refl

operations_are : (p : ℕ) (e : s.Expression) (os : List s.Operation)
    → expression_after p (chain_of e os) ≡ (expression_after p e && all_after (operation_after p) os)
operations_are p e [] = and_true (expression_after p e)
operations_are p e (o ∷ os) =
    operations_are p (s.Binary e o.operator o.at o.operand) os
    ∙ regrouped (expression_after p e) (nat_lt p o.at) (expression_after p o.operand) (all_after (operation_after p) os)

-- ---- parts

pub call_after : (p : ℕ) (d : Box Designator Global) (es : Vec Expression Global)
    → expression_after p (expression (tree.Call d es))
    ≡ (designator_after p (designator d.value) && all_after (expression_after p) (map expression es.items))
call_after p d es =
    ap (expression_after p) (view_call d es)
    ∙ ap (λ (r : Bool). designator_after p (designator d.value) && r) (expressions_are p (map expression es.items))

pub chain_after : (p : ℕ) (first : Box Expression Global) (rest : Vec Operation Global)
    → expression_after p (expression (tree.Chain first rest))
    ≡ (expression_after p (expression first.value) && all_after (operation_after p) (map operation rest.items))
chain_after p first rest =
    ap (expression_after p) (view_chain first rest) ∙ operations_are p (expression first.value) (map operation rest.items)

pub designated_after : (p : ℕ) (d : Designator)
    → designator_after p (designator d) ≡ (name_after p d.root && all_after (selector_after p) (map selector d.selectors.items))
designated_after p d =
    ap (designator_after p) (view_designator d)
    ∙ ap (λ (r : Bool). name_after p d.root && r) (selectors_are p (map selector d.selectors.items))

pub indexed_after : (p : ℕ) (is : Vec Index Global)
    → selector_after p (selector (selectors.Indexed is)) ≡ all_after (index_after p) (map index is.items)
indexed_after p is = ap (selector_after p) (view_indexed is) ∙ indices_are p (map index is.items)
