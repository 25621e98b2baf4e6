-- The parts of the judgement of a statement that single functions of the code compute.
use Rattle.std.specs.Prelude.{ℕ, Bool, false, [], ◌∷◌, ◌++◌, Option, Some, None}
use Rattle.cp_model.specs.Syntax as s
use Rattle.cp_model.specs.declared.tree.Identifier.{Identifier}
use Rattle.cp_model.specs.declared.rules.Entity.{Entity}
use Rattle.cp_model.specs.declared.rules.Rule.TheVariants.{C2, C4, C10}
use Rattle.cp_model.specs.declared.rules.Mode.TheVariants as mode
use Rattle.cp_model.specs.declared.rules.Returns.{Returns}
use Rattle.cp_model.specs.declared.rules.Returns.TheVariants as returns
use Rattle.cp_model.specs.RulesJudged.{Judged, Violations, violation, violations_of, breaks, also, then_judge, guard}
use Rattle.cp_model.specs.RulesEnvironment.{Environment, is_component, is_simple, c1_named}
use Rattle.cp_model.specs.RulesNames as n
use Rattle.cp_model.specs.RulesExpressions.{judge, designate}
use Rattle.cp_model.specs.RulesStatements as st

-- The left side is a part of the result of the function that is being defined.
abbrev pub part_of_result : Identifier → Returns → Judged ℕ
part_of_result x returns.Nothing = also (violation C4 x.at ∷ []) (breaks C10 x.at)
part_of_result x r = breaks C10 x.at

abbrev pub component_alone : Environment → Identifier → s.Selectors → Option ℕ
component_alone env x s.NoSelectors = st.component_by env (c1_named env x)
component_alone env x ss = None

abbrev pub right : Environment → Bool → s.Expression → Judged ℕ
right env to_component e = st.judged_unless (judge env mode.Value e) to_component (st.lone_component env e)

abbrev pub is_component_if : Environment → Option ℕ → Bool
is_component_if env (Some t) = is_component env t
is_component_if env None = false

-- The procedure that is called.
abbrev pub procedure_if : Environment → s.Designator → ℕ → Judged Entity → Judged n.Callee
procedure_if env d count j = then_judge j (n.procedure_of env d count)

abbrev pub procedure_called : Environment → s.Designator → ℕ → Judged n.Callee
procedure_called env d count = also (n.c2_indexed env mode.Value d) (procedure_if env d count (designate env d))

-- ---- `for`

abbrev pub plain_name : Environment → Identifier → Judged ℕ
plain_name env v = then_judge (c1_named env v) (n.value_of env mode.Variable (st.plain v))

abbrev pub plain_variable : Environment → Identifier → Judged ℕ
plain_variable env v = also (n.c8_named env mode.Variable v) (plain_name env v)

abbrev pub simple_variable : Environment → Identifier → Judged ℕ
simple_variable env v = then_judge (plain_variable env v) (λ t. guard (is_simple env t) C2 v.at t)

abbrev pub for_header : Environment → Identifier → s.Expression → s.Expression → Violations
for_header env v a b =
    let variable = st.for_variable env v in
    violations_of variable ++ violations_of (st.bound env variable a) ++ violations_of (st.bound env variable b)
