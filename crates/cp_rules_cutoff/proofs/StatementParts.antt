-- When statements are after a place. The plain tree folds the lists in them into lists of its own.
use Rattle.std.proofs.Common.{◌≡◌, ◌&&◌, ◌∷◌, ◌∙◌, [], ℕ, Bool, Box, Global, List, Vec, ap, map, refl, sym}
use Rattle.cp_model.specs.Syntax as s
use Rattle.cp_model.specs.View.{LabelledStatement, arm, arm_layer, arms_of, designator, expression, init_item, statement, statement_layer, statements_of}
use Rattle.cp_model.specs.declared.tree.Arm.{Arm}
use Rattle.cp_model.specs.declared.tree.Expression.{Expression}
use Rattle.cp_model.specs.declared.tree.ForHeader.{ForHeader}
use Rattle.cp_model.specs.declared.tree.InitItem.{InitItem}
use Rattle.cp_model.specs.declared.tree.ProcedureCall.{ProcedureCall}
use Rattle.cp_model.specs.declared.tree.Statement.{Statement}
use Rattle.cp_model.specs.declared.tree.Statement.TheFolds.{fold-roll-Statement}
use Rattle.cp_model.specs.declared.tree.Statement.TheVariants as tree
use Rattle.cp_model.specs.declared.tree.Statement.TheVariants.{rolls-Call, rolls-Compound}
use Rattle.cp_model.proofs.StatementViews.{view_case, view_cycle, view_for, view_repeat}
use Rattle.cp_rules_cutoff.specs.After.{all_after, arms_after, designator_after, expression_after, item_after, name_after, statement_after, statements_after}
use Rattle.cp_rules_cutoff.specs.ListedParts.{arm_after}
use Rattle.cp_rules_cutoff.proofs.ExpressionParts.{expressions_are}

-- ---- lists

pub statements_are : (p : ℕ) (xs : List s.Statement) → statements_after p (statements_of xs) ≡ all_after (statement_after p) xs
statements_are p [] = refl
statements_are p (x ∷ xs) = ap (λ (r : Bool). statement_after p x && r) (statements_are p xs)

arms_are : (p : ℕ) (xs : List LabelledStatement) → arms_after p (arms_of xs) ≡ all_after (arm_after p) xs
arms_are p [] = refl
arms_are p (x ∷ xs) = ap (λ (r : Bool). arm_after p x && r) (arms_are p xs)

-- ---- parts

pub initialised_after : (p : ℕ) (i : InitItem)
    → item_after p (init_item i) ≡ (name_after p i.component && all_after (expression_after p) (map expression i.arguments.items))
initialised_after p i = ap (λ (r : Bool). name_after p i.component && r) (expressions_are p (map expression i.arguments.items))

pub performed_after : (p : ℕ) (c : Box ProcedureCall Global)
    → statement_after p (statement (tree.Call c))
    ≡ (designator_after p (designator c.value.procedure) && all_after (expression_after p) (map expression c.value.arguments.items))
performed_after p c =
    ap (λ (x : Statement). statement_after p (statement x)) (sym (rolls-Call c))
    ∙ ap (statement_after p) (fold-roll-Statement s.Statement LabelledStatement statement_layer arm_layer _)
    ∙ ap (λ (r : Bool). designator_after p (designator c.value.procedure) && r) (expressions_are p (map expression c.value.arguments.items))

pub compound_after : (p : ℕ) (xs : Box (Vec Statement Global) Global)
    → statement_after p (statement (tree.Compound xs)) ≡ all_after (statement_after p) (map statement xs.value.items)
compound_after p xs =
    ap (λ (x : Statement). statement_after p (statement x)) (sym (rolls-Compound xs))
    ∙ ap (statement_after p) (fold-roll-Statement s.Statement LabelledStatement statement_layer arm_layer _)
    ∙ statements_are p (map statement xs.value.items)

pub cycle_after : (p : ℕ) (xs : Box (Vec Statement Global) Global)
    → statement_after p (statement (tree.Cycle xs)) ≡ all_after (statement_after p) (map statement xs.value.items)
cycle_after p xs = ap (statement_after p) (view_cycle xs) ∙ statements_are p (map statement xs.value.items)

pub case_after : (p : ℕ) (e : Box Expression Global) (as' : Box (Vec Arm Global) Global)
    → statement_after p (statement (tree.Case e as')) ≡ (expression_after p (expression e.value) && all_after (arm_after p) (map arm as'.value.items))
case_after p e as' =
    ap (statement_after p) (view_case e as')
    ∙ ap (λ (r : Bool). expression_after p (expression e.value) && r) (arms_are p (map arm as'.value.items))

pub repeat_after : (p : ℕ) (xs : Box (Vec Statement Global) Global) (e : Box Expression Global)
    → statement_after p (statement (tree.Repeat xs e))
    ≡ (all_after (statement_after p) (map statement xs.value.items) && expression_after p (expression e.value))
repeat_after p xs e =
    ap (statement_after p) (view_repeat xs e)
    ∙ ap (λ (r : Bool). r && expression_after p (expression e.value)) (statements_are p (map statement xs.value.items))

pub for_after : (p : ℕ) (h : Box ForHeader Global) (x : Box Statement Global)
    → statement_after p (statement (tree.For h x))
    ≡ (name_after p h.value.variable && expression_after p (expression h.value.from) && expression_after p (expression h.value.last)
    && statement_after p (statement x.value))
for_after p h x = ap (statement_after p) (view_for h x)
