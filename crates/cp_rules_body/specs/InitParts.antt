-- The parts of the judgement of `init` that single functions of the code compute.
use Rattle.std.specs.Prelude.{ℕ, List, [], ◌++◌, Option, Some, None, map}
use Rattle.std.specs.Borrow.{Bor}
use Rattle.cp_model.specs.Syntax as s
use Rattle.cp_model.specs.View as view
use Rattle.cp_model.specs.declared.tree.Identifier.{Identifier}
use Rattle.cp_model.specs.declared.tree.Selector.{Selector}
use Rattle.cp_model.specs.declared.rules.Rule.TheVariants.{C12}
use Rattle.cp_model.specs.declared.rules.Mode.TheVariants as mode
use Rattle.cp_model.specs.declared.rules.ParameterRow.{ParameterRow}
use Rattle.cp_model.specs.declared.rules.SystemRow.{SystemRow}
use Rattle.cp_model.specs.RulesJudged.{Judged, Violations, also, then_judge, guard}
use Rattle.cp_model.specs.RulesEnvironment.{Environment, agree, c1_named, parameters_from, system_row}
use Rattle.cp_model.specs.RulesNames.{first_token, c2_c5_c8_named, c8_named}
use Rattle.cp_model.specs.RulesExpressions.{judge, designate}
use Rattle.cp_model.specs.RulesStatements as st

abbrev pub system : Environment → Identifier → Judged ℕ
system env x = then_judge (c1_named env x) (st.c12_component env x)

abbrev pub component : Environment → Identifier → ℕ → Judged SystemRow
component env x count = then_judge (system env x) (st.c12_count env x count)

abbrev pub unwanted_designator : Environment → s.Designator → Judged ℕ
unwanted_designator env d = also (c2_c5_c8_named env mode.Value d) (then_judge (designate env d) (st.surplus_name env d))

abbrev pub name_argument : Environment → ℕ → Identifier → Judged ℕ
name_argument env u x = also (c8_named env mode.Value x) (then_judge (c1_named env x) (st.c12_passed env u x))

abbrev pub simple_agrees : Environment → ℕ → s.Expression → ℕ → Judged ℕ
simple_agrees env u e t = guard (agree env u t) C12 (first_token e) t

abbrev pub simple_argument : Environment → ℕ → s.Expression → Judged ℕ
simple_argument env u e = then_judge (judge env mode.Value e) (simple_agrees env u e)

-- ---- a bare name

abbrev pub name_if : Option (Bor Identifier) → Option Identifier
name_if (Some x) = Some x.now
name_if None = None

abbrev pub selectors : List Selector → s.Selectors
selectors ss = view.selectors_of (map view.selector ss)

abbrev pub whole_name : Identifier → s.Selectors → Option Identifier
whole_name x s.NoSelectors = Some x
whole_name x ss = None

abbrev pub name_alone : s.Expression → Option Identifier
name_alone (s.Designated (s.Designate x ss)) = whole_name x ss
name_alone e = None

-- ---- lists

abbrev pub parameters_if : Environment → Option ℕ → List ParameterRow
parameters_if env (Some y) = parameters_from env (system_row env y).first (system_row env y).count
parameters_if env None = []

abbrev pub type_if : Option ParameterRow → Option ℕ
type_if (Some p) = p.of
type_if None = None

abbrev pub judge_init : Environment → ℕ → List s.InitItem → Violations
judge_init env at is = st.c12_init env at ++ st.init_items env is
