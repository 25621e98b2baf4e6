-- Statements: the rules inside them.
use Rattle.std.specs.Prelude.{ℕ, ℤ, Bool, true, false, ◌&&◌, ◌||◌, not, List, [], ◌∷◌, ◌++◌, Option, None, Some, nat_eq, if◌then◌else◌}
use Rattle.cp_model.specs.Syntax as s
use Rattle.cp_model.specs.declared.tree.Identifier.{Identifier}
use Rattle.cp_model.specs.declared.tree.Constant.{Constant}
use Rattle.cp_model.specs.declared.rules.Rule.TheVariants.{C2, C3, C4, C10, C12}
use Rattle.cp_model.specs.declared.rules.Access.{Access}
use Rattle.cp_model.specs.declared.rules.Access.TheVariants as access
use Rattle.cp_model.specs.declared.rules.Entity.{Entity}
use Rattle.cp_model.specs.declared.rules.Entity.TheVariants as entity
use Rattle.cp_model.specs.declared.rules.Returns.{Returns}
use Rattle.cp_model.specs.declared.rules.Returns.TheVariants as returns
use Rattle.cp_model.specs.declared.rules.ParameterRow.{ParameterRow}
use Rattle.cp_model.specs.declared.rules.SystemRow.{SystemRow}
use Rattle.cp_model.specs.declared.rules.Mode.TheVariants as mode
use Rattle.cp_model.specs.RulesJudged.{Judged, Sound, Broken, Violations, violation, unless, breaks, also, both, then_judge, guard, violations_of}
use Rattle.cp_model.specs.RulesEnvironment.{Environment, integer, boolean, base_of, is_base, is_simple, agree, is_component, system_of, system_row, parameters_from, c1_named, c4_c9_named, is_in_routine}
use Rattle.cp_model.specs.RulesNames.{last_name, first_token, count_of, c8_named, c2_c5_c8_named, c10_designator, c2_indexed, procedure_of, value_of}
use Rattle.cp_model.specs.RulesExpressions.{judge, designate, arguments, wants_in, result_of}
use Rattle.cp_model.specs.RulesTypes.{constant, constant_at}
use Rattle.cp_model.specs.Integers.{same_integer}

abbrev pub plain : Identifier → s.Designator
plain x = s.Designate x s.NoSelectors

-- ---- assignment

-- the name of the function that is being defined, on the left: it is the result, if it is the whole
-- left side
abbrev pub own_result : Identifier → s.Selectors → Returns → Judged ℕ
own_result x ss returns.Nothing = also (violation C4 x.at ∷ []) (breaks C10 x.at)
own_result x s.NoSelectors (returns.Value t) = Sound t
own_result x s.NoSelectors (returns.Broken v) = Broken v []
own_result x ss returned = breaks C10 x.at

abbrev pub other_left_side : Environment → s.Designator → Judged ℕ
other_left_side env d =
    also (c2_c5_c8_named env mode.Variable d ++ c10_designator env d) (then_judge (designate env d) (value_of env mode.Variable d))

abbrev pub left_by : Environment → Identifier → s.Selectors → Judged Entity → Judged ℕ
left_by env x ss (Sound (entity.UnfinishedRoutine r)) = own_result x ss r.returns
left_by env x ss j = other_left_side env (s.Designate x ss)

-- the type of a left side
abbrev pub left_side : Environment → s.Designator → Judged ℕ
left_side env (s.Designate x ss) = left_by env x ss (c1_named env x)

-- a bare component name on the right isn't judged as a value if the left side is a component
abbrev pub is_component_type : Environment → Judged ℕ → Bool
is_component_type env (Sound t) = is_component env t
is_component_type env j = false

abbrev pub component_by : Environment → Judged Entity → Option ℕ
component_by env (Sound (entity.Variable t a)) = if is_component env t then Some t else None
component_by env j = None

abbrev pub lone_component : Environment → s.Expression → Option ℕ
lone_component env (s.Designated (s.Designate x s.NoSelectors)) = component_by env (c1_named env x)
lone_component env e = None

abbrev pub judged_unless : Judged ℕ → Bool → Option ℕ → Judged ℕ
judged_unless j true (Some t) = Sound t
judged_unless j to_component component = j

abbrev pub right : Environment → Judged ℕ → s.Expression → Judged ℕ
right env target e = judged_unless (judge env mode.Value e) (is_component_type env target) (lone_component env e)

-- C2: the sides of an assignment don't agree
abbrev pub c2_sides : Environment → ℕ → ℕ → ℕ → Judged ℕ
c2_sides env at a b = guard (agree env a b) C2 at a

abbrev pub assignment : Environment → s.Designator → ℕ → s.Expression → Violations
assignment env d at e = violations_of (both (left_side env d) (right env (left_side env d) e) (c2_sides env at))

-- ---- conditions, selectors, bounds: at their first token

-- C2: a condition isn't Boolean
abbrev pub c2_condition : Environment → s.Expression → Judged ℕ
c2_condition env e = then_judge (judge env mode.Value e) (λ t. guard (is_base boolean (base_of env t)) C2 (first_token e) t)

-- C2: a case selector isn't simple
abbrev pub c2_selector : Environment → s.Expression → Judged ℕ
c2_selector env e = then_judge (judge env mode.Value e) (λ t. guard (is_simple env t) C2 (first_token e) t)

-- ---- labels

-- a constant, by its base type and its ordinal
abbrev pub Label : Type 0
Label = ℕ × ℤ

abbrev pub is_among : Label → List Label → Bool
is_among c [] = false
is_among c (d ∷ ds) = (nat_eq c.0 d.0 && same_integer c.1 d.1) || is_among c ds

abbrev pub fits_selector : Option ℕ → Label → Bool
fits_selector None c = true
fits_selector (Some base) c = nat_eq base c.0

-- C2: a label isn't of the selector's base. C3: a label occurs twice in one `case`
abbrev pub c2_c3_label : Option ℕ → List Label → ℕ → Label → Judged Label
c2_c3_label base seen at c = also (unless (fits_selector base c) C2 at) (guard (not (is_among c seen)) C3 at c)

-- adds a label, unless it was seen already
abbrev pub with_label : List Label → Label → List Label
with_label seen c = if is_among c seen then seen else seen ++ c ∷ []

abbrev pub more_seen : List Label → Judged Label → List Label
more_seen seen (Sound c) = with_label seen c
more_seen seen (Broken v vs) = seen

-- the labels seen so far, and the violations in them
pub record Labelled : Type 0 where
  pub seen : List Label
  pub violations : Violations

abbrev pub labels : Environment → Option ℕ → List Label → List Constant → Labelled
labels env base seen [] = record { seen = seen; violations = [] }
labels env base seen (c ∷ cs) =
    let one = constant env c in
    let rest = labels env base (more_seen seen one) cs in
    record { seen = rest.seen; violations = violations_of (then_judge one (c2_c3_label base seen (constant_at c))) ++ rest.violations }

-- labels aren't judged against a broken selector
abbrev pub selector_base : Environment → Judged ℕ → Option ℕ
selector_base env (Sound t) = base_of env t
selector_base env (Broken v vs) = None

-- ---- `for`

-- C10: the variable of a `for` isn't a variable. C2: it isn't simple
abbrev pub for_variable : Environment → Identifier → Judged ℕ
for_variable env v =
    also (c10_designator env (plain v)) (then_judge (judge env mode.Variable (s.Designated (plain v))) (λ t. guard (is_simple env t) C2 v.at t))

-- C2: a bound doesn't agree with the variable
abbrev pub bound : Environment → Judged ℕ → s.Expression → Judged ℕ
bound env (Sound t) e = then_judge (judge env mode.Value e) (λ u. guard (agree env t u) C2 (first_token e) u)
bound env (Broken v vs) e = judge env mode.Value e

-- ---- calls

abbrev pub call_statement : Environment → s.Designator → s.Expressions → Violations
call_statement env d es =
    let called = designate env d in
    let callee = also (c2_indexed env mode.Value d) (then_judge called (procedure_of env d (count_of es))) in
    c2_c5_c8_named env mode.Value d ++ violations_of (both callee (arguments env (wants_in env called callee) es) (result_of env))

-- ---- `init`

abbrev pub system_initialised : Identifier → Access → Option ℕ → Judged ℕ
system_initialised x access.Own (Some y) = Sound y
system_initialised x a y = breaks C12 x.at

-- C12: `init` of something that isn't a component variable declared by this component
abbrev pub c12_component : Environment → Identifier → Entity → Judged ℕ
c12_component env x (entity.Variable t a) = system_initialised x a (system_of env t)
c12_component env x e = also (c4_c9_named env x e) (breaks C12 x.at)

-- C12: a wrong number of arguments
abbrev pub c12_count : Environment → Identifier → ℕ → ℕ → Judged SystemRow
c12_count env x n y = guard (nat_eq (system_row env y).count n) C12 x.at (system_row env y)

-- an argument without requirements, or one that must be the name of a component: what it represents
-- isn't judged as a value
abbrev pub surplus_name : Environment → s.Designator → Entity → Judged ℕ
surplus_name env d e = also (c4_c9_named env (last_name d) e) (Sound integer)

abbrev pub surplus_argument : Environment → s.Expression → Judged ℕ
surplus_argument env (s.Designated d) =
    also (c2_c5_c8_named env mode.Value d) (then_judge (designate env d) (surplus_name env d))
surplus_argument env e = judge env mode.Value e

-- C12: an argument isn't the name of a component of the parameter's type
abbrev pub c12_passed : Environment → ℕ → Identifier → Entity → Judged ℕ
c12_passed env u x (entity.Variable t a) = guard (nat_eq t u) C12 x.at t
c12_passed env u x e = also (c4_c9_named env x e) (breaks C12 x.at)

abbrev pub component_argument : Environment → ℕ → s.Expression → Judged ℕ
component_argument env u (s.Designated (s.Designate x s.NoSelectors)) =
    also (c8_named env mode.Value x) (then_judge (c1_named env x) (c12_passed env u x))
component_argument env u e = also (violation C12 (first_token e) ∷ []) (surplus_argument env e)

-- C12: an argument doesn't agree with a simple parameter
abbrev pub init_argument : Environment → Option ℕ → s.Expression → Judged ℕ
init_argument env None e = surplus_argument env e
init_argument env (Some u) e =
    if is_component env u then component_argument env u e
    else then_judge (judge env mode.Value e) (λ t. guard (agree env u t) C12 (first_token e) t)

abbrev pub init_arguments : Environment → List ParameterRow → s.Expressions → Violations
init_arguments env ps s.NoExpressions = []
init_arguments env [] (s.MoreExpressions e es) = violations_of (surplus_argument env e) ++ init_arguments env [] es
init_arguments env (p ∷ ps) (s.MoreExpressions e es) = violations_of (init_argument env p.of e) ++ init_arguments env ps es

-- the parameters of what is initialised, whatever the number of arguments
abbrev pub parameters_in : Environment → Judged ℕ → List ParameterRow
parameters_in env (Sound y) = parameters_from env (system_row env y).first (system_row env y).count
parameters_in env (Broken v vs) = []

abbrev pub init_item : Environment → s.InitItem → Violations
init_item env i =
    let x = i.component in
    let system = then_judge (c1_named env x) (c12_component env x) in
    let component = then_judge system (c12_count env x (count_of i.arguments)) in
    c8_named env mode.Value x ++ violations_of component ++ init_arguments env (parameters_in env system) i.arguments

abbrev pub init_items : Environment → List s.InitItem → Violations
init_items env [] = []
init_items env (i ∷ is) = init_item env i ++ init_items env is

-- C12: `init` inside a routine
abbrev pub c12_init : Environment → ℕ → Violations
c12_init env at = unless (not (is_in_routine env.region.part)) C12 at

-- ---- statements

abbrev mutual
  pub statement : Environment → s.Statement → Violations
  statement env s.Empty = []
  statement env (s.Assign d at e) = assignment env d at e
  statement env (s.Perform d es) = call_statement env d es
  statement env (s.Compound l) = statements env l
  statement env (s.If e x) = violations_of (c2_condition env e) ++ statement env x
  statement env (s.IfElse e x y) = violations_of (c2_condition env e) ++ statement env x ++ statement env y
  statement env (s.Case e a) =
      let selector = c2_selector env e in violations_of selector ++ arms env (selector_base env selector) [] a
  statement env (s.While e x) = violations_of (c2_condition env e) ++ statement env x
  statement env (s.Repeat l e) = statements env l ++ violations_of (c2_condition env e)
  statement env (s.For v a direction b x) =
      let variable = for_variable env v in
      violations_of variable ++ violations_of (bound env variable a) ++ violations_of (bound env variable b) ++ statement env x
  statement env (s.Cycle l) = statements env l
  statement env (s.Init at is) = c12_init env at ++ init_items env is

  pub statements : Environment → s.Statements → Violations
  statements env s.NoStatements = []
  statements env (s.MoreStatements x xs) = statement env x ++ statements env xs

  pub arms : Environment → Option ℕ → List Label → s.Arms → Violations
  arms env base seen s.NoArms = []
  arms env base seen (s.MoreArms cs x a) =
      let one = labels env base seen cs in
      one.violations ++ statement env x ++ arms env base one.seen a
