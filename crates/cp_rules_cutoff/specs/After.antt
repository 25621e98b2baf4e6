-- Parts of a text of which each place is after `p`.
use Rattle.std.specs.Prelude.{Bool, List, None, Option, Some, [], nat_lt, true, ℕ, ◌&&◌, ◌∷◌}
use Rattle.cp_model.specs.Syntax as s
use Rattle.cp_model.specs.declared.tree.Constant.{Constant}
use Rattle.cp_model.specs.declared.tree.ConstantDefinition.{ConstantDefinition}
use Rattle.cp_model.specs.declared.tree.Identifier.{Identifier}
use Rattle.cp_model.specs.RulesTypes.{constant_at}

abbrev pub all_after : {A : Type 0} → (A → Bool) → List A → Bool
all_after f [] = true
all_after f (x ∷ xs) = f x && all_after f xs

abbrev pub optional_after : {A : Type 0} → (A → Bool) → Option A → Bool
optional_after f None = true
optional_after f (Some x) = f x

abbrev pub name_after : ℕ → Identifier → Bool
name_after p x = nat_lt p x.at

abbrev pub constant_after : ℕ → Constant → Bool
constant_after p c = nat_lt p (constant_at c)

-- ---- Types

abbrev mutual
  pub type_after : ℕ → s.TypeExpression → Bool
  type_after p (s.Named x) = name_after p x
  type_after p (s.Subrange low high) = constant_after p low && constant_after p high
  type_after p (s.Array at is e) = nat_lt p at && types_after p is && type_after p e
  type_after p (s.Record at gs) = nat_lt p at && fields_after p gs

  pub types_after : ℕ → s.TypeExpressions → Bool
  types_after p s.NoTypes = true
  types_after p (s.MoreTypes t ts) = type_after p t && types_after p ts

  pub fields_after : ℕ → s.FieldGroups → Bool
  fields_after p s.NoFields = true
  fields_after p (s.MoreFields xs t gs) = all_after (name_after p) xs && type_after p t && fields_after p gs

-- ---- Expressions

abbrev mutual
  pub expression_after : ℕ → s.Expression → Bool
  expression_after p (s.Number at n) = nat_lt p at
  expression_after p (s.Character at n) = nat_lt p at
  expression_after p (s.Designated d) = designator_after p d
  expression_after p (s.Call d es) = designator_after p d && expressions_after p es
  expression_after p (s.Parenthesized at e) = nat_lt p at && expression_after p e
  expression_after p (s.Not at e) = nat_lt p at && expression_after p e
  expression_after p (s.Signed sign at e) = nat_lt p at && expression_after p e
  expression_after p (s.Binary a o at b) = expression_after p a && nat_lt p at && expression_after p b

  pub expressions_after : ℕ → s.Expressions → Bool
  expressions_after p s.NoExpressions = true
  expressions_after p (s.MoreExpressions e es) = expression_after p e && expressions_after p es

  pub designator_after : ℕ → s.Designator → Bool
  designator_after p (s.Designate x ss) = name_after p x && selectors_after p ss

  pub selectors_after : ℕ → s.Selectors → Bool
  selectors_after p s.NoSelectors = true
  selectors_after p (s.MoreSelectors y ys) = selector_after p y && selectors_after p ys

  pub selector_after : ℕ → s.Selector → Bool
  selector_after p (s.Field at x) = nat_lt p at && name_after p x
  selector_after p (s.Indexed is) = indices_after p is

  pub indices_after : ℕ → s.Indices → Bool
  indices_after p s.NoIndices = true
  indices_after p (s.MoreIndices at e is) = nat_lt p at && expression_after p e && indices_after p is

-- ---- Statements

abbrev pub item_after : ℕ → s.InitItem → Bool
item_after p i = name_after p i.component && expressions_after p i.arguments

abbrev mutual
  pub statement_after : ℕ → s.Statement → Bool
  statement_after p s.Empty = true
  statement_after p (s.Assign d at e) = designator_after p d && nat_lt p at && expression_after p e
  statement_after p (s.Perform d es) = designator_after p d && expressions_after p es
  statement_after p (s.Compound l) = statements_after p l
  statement_after p (s.If e x) = expression_after p e && statement_after p x
  statement_after p (s.IfElse e x y) = expression_after p e && statement_after p x && statement_after p y
  statement_after p (s.Case e a) = expression_after p e && arms_after p a
  statement_after p (s.While e x) = expression_after p e && statement_after p x
  statement_after p (s.Repeat l e) = statements_after p l && expression_after p e
  statement_after p (s.For v a direction b x) = name_after p v && expression_after p a && expression_after p b && statement_after p x
  statement_after p (s.Cycle l) = statements_after p l
  statement_after p (s.Init at is) = nat_lt p at && all_after (item_after p) is

  pub statements_after : ℕ → s.Statements → Bool
  statements_after p s.NoStatements = true
  statements_after p (s.MoreStatements x xs) = statement_after p x && statements_after p xs

  pub arms_after : ℕ → s.Arms → Bool
  arms_after p s.NoArms = true
  arms_after p (s.MoreArms cs x a) = all_after (constant_after p) cs && statement_after p x && arms_after p a

-- ---- Declarations

abbrev pub body_after : ℕ → s.Body → Bool
body_after p b = nat_lt p b.at && statements_after p b.list

abbrev pub variables_after : ℕ → s.Variables → Bool
variables_after p g = all_after (name_after p) g.names && type_after p g.of

abbrev pub parameters_after : ℕ → s.Parameters → Bool
parameters_after p g = optional_after (nat_lt p) g.by_reference && all_after (name_after p) g.names && name_after p g.of

abbrev pub routine_after : ℕ → s.Routine → Bool
routine_after p r =
    optional_after (nat_lt p) r.entry && name_after p r.name && all_after (parameters_after p) r.parameters
    && optional_after (name_after p) r.result_type && all_after (variables_after p) r.variables && body_after p r.body

abbrev pub system_after : ℕ → s.System → Bool
system_after p y =
    all_after (parameters_after p) y.parameters && all_after (variables_after p) y.variables && all_after (routine_after p) y.routines
    && body_after p y.body

abbrev pub defined_after : ℕ → s.Defined → Bool
defined_after p (s.Written t) = type_after p t
defined_after p (s.Enumeration xs) = all_after (name_after p) xs
defined_after p (s.SystemType y) = system_after p y

abbrev pub constant_definition_after : ℕ → ConstantDefinition → Bool
constant_definition_after p d = name_after p d.name && constant_after p d.value

abbrev pub type_definition_after : ℕ → s.TypeDefinition → Bool
type_definition_after p d = name_after p d.name && defined_after p d.defined

abbrev pub section_after : ℕ → s.Section → Bool
section_after p (s.Constants ds) = all_after (constant_definition_after p) ds
section_after p (s.Types ds) = all_after (type_definition_after p) ds
