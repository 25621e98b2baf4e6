-- Statements, as the definitions see them.
use Rattle.std.proofs.Common.{◌≡◌, map, Box, Vec, Global, sym, ap, ◌∙◌}
use Rattle.cp_model.specs.Syntax as s
use Rattle.cp_model.specs.View.{LabelledStatement, expression, statement, statement_layer, statements_of, arm, arm_layer, arms_of}
use Rattle.cp_model.specs.declared.tree.ForHeader.{ForHeader}
use Rattle.cp_model.specs.declared.tree.Expression.{Expression}
use Rattle.cp_model.specs.declared.tree.Arm.{Arm}
use Rattle.cp_model.specs.declared.tree.Statement.{Statement}
use Rattle.cp_model.specs.declared.tree.Statement.TheVariants as tree
use Rattle.cp_model.specs.declared.tree.Statement.TheVariants.{rolls-Cycle, rolls-If, rolls-IfElse, rolls-Case, rolls-While, rolls-Repeat, rolls-For}
use Rattle.cp_model.specs.declared.tree.Statement.TheFolds.{fold-roll-Statement, fold_out-Arm}

pub view_if : (e : Box Expression Global) (x : Box Statement Global) → statement (tree.If e x) ≡ s.If (expression e.value) (statement x.value)
view_if e x = ap statement (sym (rolls-If e x)) ∙ fold-roll-Statement s.Statement LabelledStatement statement_layer arm_layer _

pub view_if_else : (e : Box Expression Global) (b : Box (Statement × Statement) Global) → statement (tree.IfElse e b) ≡ s.IfElse (expression e.value) (statement b.value.0) (statement b.value.1)
view_if_else e b = ap statement (sym (rolls-IfElse e b)) ∙ fold-roll-Statement s.Statement LabelledStatement statement_layer arm_layer _

pub view_case : (e : Box Expression Global) (as' : Box (Vec Arm Global) Global) → statement (tree.Case e as') ≡ s.Case (expression e.value) (arms_of (map arm as'.value.items))
view_case e as' = ap statement (sym (rolls-Case e as')) ∙ fold-roll-Statement s.Statement LabelledStatement statement_layer arm_layer _

pub view_while : (e : Box Expression Global) (x : Box Statement Global) → statement (tree.While e x) ≡ s.While (expression e.value) (statement x.value)
view_while e x = ap statement (sym (rolls-While e x)) ∙ fold-roll-Statement s.Statement LabelledStatement statement_layer arm_layer _

pub view_repeat : (l : Box (Vec Statement Global) Global) (e : Box Expression Global) → statement (tree.Repeat l e) ≡ s.Repeat (statements_of (map statement l.value.items)) (expression e.value)
view_repeat l e = ap statement (sym (rolls-Repeat l e)) ∙ fold-roll-Statement s.Statement LabelledStatement statement_layer arm_layer _

pub view_for : (h : Box ForHeader Global) (x : Box Statement Global)
    → statement (tree.For h x) ≡ s.For h.value.variable (expression h.value.from) h.value.direction (expression h.value.last) (statement x.value)
view_for h x = ap statement (sym (rolls-For h x)) ∙ fold-roll-Statement s.Statement LabelledStatement statement_layer arm_layer _

pub view_arm : (a : Arm) → arm a ≡ record { labels = a.labels.items; body = statement a.body }
view_arm = fold_out-Arm s.Statement LabelledStatement statement_layer arm_layer

pub view_cycle : (l : Box (Vec Statement Global) Global) → statement (tree.Cycle l) ≡ s.Cycle (statements_of (map statement l.value.items))
view_cycle l = ap statement (sym (rolls-Cycle l)) ∙ fold-roll-Statement s.Statement LabelledStatement statement_layer arm_layer _
