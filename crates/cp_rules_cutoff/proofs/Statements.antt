-- What is reported of a statement is later if its places are.
use Rattle.std.proofs.Common.{List, Option, [], refl, true, ℕ, ◌++◌, ◌≡◌}
use Rattle.std.specs.Prelude.{nat_lt, ◌&&◌}
use Rattle.std.proofs.lemmas.Bool.{and_parts}
use Rattle.cp_model.specs.Syntax as s
use Rattle.cp_model.specs.declared.rules.Rule.TheVariants.{C12}
use Rattle.cp_model.specs.declared.rules.Violation.{Violation}
use Rattle.cp_model.specs.RulesEnvironment.{Environment}
use Rattle.cp_model.specs.RulesJudged.{Judged, Violations, violations_of}
use Rattle.cp_model.specs.RulesStatements as t
use Rattle.cp_rules_cutoff.specs.After.{all_after, arms_after, constant_after, designator_after, expression_after, expressions_after, item_after, name_after, statement_after, statements_after}
use Rattle.cp_rules_cutoff.specs.Later.{environment_later, violations_later}
use Rattle.cp_rules_cutoff.proofs.Combinators.{later_append, unless_later}
use Rattle.cp_rules_cutoff.proofs.Initialised.{init_items_later}
use Rattle.cp_rules_cutoff.proofs.SimpleStatements.{assignment_later, bound_later, call_later, condition_later, for_variable_later, labels_later, selector_of_later}

module _ (w : Violation) (env : Environment) (known : environment_later w env ≡ true) where
  mutual
    statement_later : (x : s.Statement) → statement_after w.at x ≡ true → violations_later w (t.statement env x) ≡ true
    statement_later s.Empty h = refl
    statement_later (s.Assign d at e) h =
        let parts = and_parts (designator_after w.at d && nat_lt w.at at) (expression_after w.at e) h in
        let first = and_parts (designator_after w.at d) (nat_lt w.at at) parts.0 in
        assignment_later w env known d at e first.0 first.1 parts.1
    statement_later (s.Perform d es) h =
        let parts = and_parts (designator_after w.at d) (expressions_after w.at es) h in call_later w env known d es parts.0 parts.1
    statement_later (s.Compound l) h = statements_later l h
    statement_later (s.If e x) h =
        let parts = and_parts (expression_after w.at e) (statement_after w.at x) h in
        later_append w (violations_of (t.c2_condition env e)) (t.statement env x) (condition_later w env known e parts.0) (statement_later x parts.1)
    statement_later (s.IfElse e x y) h =
        let parts = and_parts (expression_after w.at e && statement_after w.at x) (statement_after w.at y) h in
        let first = and_parts (expression_after w.at e) (statement_after w.at x) parts.0 in
        later_append w (violations_of (t.c2_condition env e) ++ t.statement env x) (t.statement env y)
        (later_append w (violations_of (t.c2_condition env e)) (t.statement env x) (condition_later w env known e first.0)
        (statement_later x first.1))
        (statement_later y parts.1)
    statement_later (s.Case e a) h =
        let parts = and_parts (expression_after w.at e) (arms_after w.at a) h in
        let selector : Judged ℕ = t.c2_selector env e in
        later_append w (violations_of selector) (t.arms env (t.selector_base env selector) [] a)
        (selector_of_later w env known e parts.0) (arms_later (t.selector_base env selector) [] a parts.1)
    statement_later (s.While e x) h =
        let parts = and_parts (expression_after w.at e) (statement_after w.at x) h in
        later_append w (violations_of (t.c2_condition env e)) (t.statement env x) (condition_later w env known e parts.0) (statement_later x parts.1)
    statement_later (s.Repeat l e) h =
        let parts = and_parts (statements_after w.at l) (expression_after w.at e) h in
        later_append w (t.statements env l) (violations_of (t.c2_condition env e)) (statements_later l parts.0)
        (condition_later w env known e parts.1)
    statement_later (s.For v a direction b x) h =
        let parts = and_parts (name_after w.at v && expression_after w.at a && expression_after w.at b) (statement_after w.at x) h in
        let first = and_parts (name_after w.at v && expression_after w.at a) (expression_after w.at b) parts.0 in
        let name = and_parts (name_after w.at v) (expression_after w.at a) first.0 in
        let variable : Judged ℕ = t.for_variable env v in
        let low : Violations = violations_of (t.bound env variable a) in
        let high : Violations = violations_of (t.bound env variable b) in
        later_append w (violations_of variable ++ low ++ high) (t.statement env x)
        (later_append w (violations_of variable ++ low) high
        (later_append w (violations_of variable) low (for_variable_later w env known v name.0) (bound_later w env known variable a name.1))
        (bound_later w env known variable b first.1))
        (statement_later x parts.1)
    statement_later (s.Cycle l) h = statements_later l h
    statement_later (s.Init at is) h =
        let parts = and_parts (nat_lt w.at at) (all_after (item_after w.at) is) h in
        later_append w (t.c12_init env at) (t.init_items env is) (unless_later w _ C12 at parts.0) (init_items_later w env known is parts.1)

    pub statements_later : (l : s.Statements) → statements_after w.at l ≡ true → violations_later w (t.statements env l) ≡ true
    statements_later s.NoStatements h = refl
    statements_later (s.MoreStatements x xs) h =
        let parts = and_parts (statement_after w.at x) (statements_after w.at xs) h in
        later_append w (t.statement env x) (t.statements env xs) (statement_later x parts.0) (statements_later xs parts.1)

    arms_later : (base : Option ℕ) (seen : List t.Label) (a : s.Arms) → arms_after w.at a ≡ true → violations_later w (t.arms env base seen a) ≡ true
    arms_later base seen s.NoArms h = refl
    arms_later base seen (s.MoreArms cs x a) h =
        let parts = and_parts (all_after (constant_after w.at) cs && statement_after w.at x) (arms_after w.at a) h in
        let first = and_parts (all_after (constant_after w.at) cs) (statement_after w.at x) parts.0 in
        let one = t.labels env base seen cs in
        later_append w (one.violations ++ t.statement env x) (t.arms env base one.seen a)
        (later_append w one.violations (t.statement env x) (labels_later w env known base seen cs first.0) (statement_later x first.1))
        (arms_later base one.seen a parts.1)
