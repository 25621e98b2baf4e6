-- Which levels the tokens of a tree open: for each of its tokens, in order, the level that it
-- opens, or 0. The number says how many levels are open around the construct. A level is opened by
-- `begin`, `if`, `case`, `while`, `repeat`, `for`, `cycle`, `not`, `array` and `record`, by each
-- `(` of a factor or of arguments, and by each `[` of a designator.
use Rattle.std.specs.Prelude.{ℕ, suc, List, [], ◌∷◌, ◌++◌, Option, Some, None}
use Rattle.cp_model.specs.Syntax as s
use Rattle.cp_model.specs.declared.tree.Identifier.{Identifier}
use Rattle.cp_model.specs.declared.tree.Constant.{Constant}
use Rattle.cp_model.specs.declared.tree.Constant.TheVariants as written
use Rattle.cp_model.specs.declared.tree.ConstantDefinition.{ConstantDefinition}

-- one after the other, grouped to the right
infixr 66 ◌⊕◌
abbrev pub ◌⊕◌ : List ℕ → List ℕ → List ℕ
l ⊕ m = l ++ m

-- ---- lists

abbrev pub each_levels : {A : Type 0} → (A → List ℕ) → List A → List ℕ
each_levels f [] = []
each_levels f (x ∷ xs) = f x ⊕ each_levels f xs

-- each element with a token before it
abbrev pub behind_levels : {A : Type 0} → (A → List ℕ) → List A → List ℕ
behind_levels f [] = []
behind_levels f (x ∷ xs) = 0 ∷ f x ⊕ behind_levels f xs

-- the elements with a token between them
abbrev pub separated_levels : {A : Type 0} → (A → List ℕ) → List A → List ℕ
separated_levels f [] = []
separated_levels f (x ∷ xs) = f x ⊕ behind_levels f xs

-- ---- names and constants

abbrev pub identifier_levels : Identifier → List ℕ
identifier_levels x = 0 ∷ []

abbrev pub names_levels : List Identifier → List ℕ
names_levels = separated_levels identifier_levels

abbrev pub constant_levels : Constant → List ℕ
constant_levels (written.Number at value) = 0 ∷ []
constant_levels (written.Negative at value) = 0 ∷ 0 ∷ []
constant_levels (written.Character at ordinal) = 0 ∷ []
constant_levels (written.Named x) = 0 ∷ []

abbrev pub constants_levels : List Constant → List ℕ
constants_levels = separated_levels constant_levels

-- ---- expressions

abbrev mutual
  pub expression_levels : ℕ → s.Expression → List ℕ
  expression_levels depth (s.Number at value) = 0 ∷ []
  expression_levels depth (s.Character at ordinal) = 0 ∷ []
  expression_levels depth (s.Designated d) = designator_levels depth d
  expression_levels depth (s.Call d es) = designator_levels depth d ⊕ suc depth ∷ expressions_levels (suc depth) es ⊕ 0 ∷ []
  expression_levels depth (s.Parenthesized at e) = suc depth ∷ expression_levels (suc depth) e ⊕ 0 ∷ []
  expression_levels depth (s.Not at e) = suc depth ∷ expression_levels (suc depth) e
  expression_levels depth (s.Signed sign at e) = 0 ∷ expression_levels depth e
  expression_levels depth (s.Binary a o at b) = expression_levels depth a ⊕ 0 ∷ expression_levels depth b

  pub expressions_levels : ℕ → s.Expressions → List ℕ
  expressions_levels depth s.NoExpressions = []
  expressions_levels depth (s.MoreExpressions e es) = expression_levels depth e ⊕ more_expressions_levels depth es

  pub more_expressions_levels : ℕ → s.Expressions → List ℕ
  more_expressions_levels depth s.NoExpressions = []
  more_expressions_levels depth (s.MoreExpressions e es) = 0 ∷ expression_levels depth e ⊕ more_expressions_levels depth es

  pub designator_levels : ℕ → s.Designator → List ℕ
  designator_levels depth (s.Designate root xs) = 0 ∷ selectors_levels depth xs

  pub selectors_levels : ℕ → s.Selectors → List ℕ
  selectors_levels depth s.NoSelectors = []
  selectors_levels depth (s.MoreSelectors x xs) = selector_levels depth x ⊕ selectors_levels depth xs

  pub selector_levels : ℕ → s.Selector → List ℕ
  selector_levels depth (s.Field at name) = 0 ∷ 0 ∷ []
  selector_levels depth (s.Indexed is) = indices_levels depth is ⊕ 0 ∷ []

  -- the `[` opens the level that the indices are in
  pub indices_levels : ℕ → s.Indices → List ℕ
  indices_levels depth s.NoIndices = []
  indices_levels depth (s.MoreIndices at e is) = suc depth ∷ expression_levels (suc depth) e ⊕ more_indices_levels (suc depth) is

  pub more_indices_levels : ℕ → s.Indices → List ℕ
  more_indices_levels depth s.NoIndices = []
  more_indices_levels depth (s.MoreIndices at e is) = 0 ∷ expression_levels depth e ⊕ more_indices_levels depth is

-- arguments in parentheses, or nothing
abbrev pub arguments_levels : ℕ → s.Expressions → List ℕ
arguments_levels depth s.NoExpressions = []
arguments_levels depth (s.MoreExpressions e es) = suc depth ∷ expressions_levels (suc depth) (s.MoreExpressions e es) ⊕ 0 ∷ []

-- ---- types

abbrev mutual
  pub type_levels : ℕ → s.TypeExpression → List ℕ
  type_levels depth (s.Named x) = 0 ∷ []
  type_levels depth (s.Subrange low high) = constant_levels low ⊕ 0 ∷ constant_levels high
  type_levels depth (s.Array at is e) = suc depth ∷ 0 ∷ types_levels (suc depth) is ⊕ 0 ∷ 0 ∷ type_levels (suc depth) e
  type_levels depth (s.Record at gs) = suc depth ∷ fields_levels (suc depth) gs ⊕ 0 ∷ []

  pub types_levels : ℕ → s.TypeExpressions → List ℕ
  types_levels depth s.NoTypes = []
  types_levels depth (s.MoreTypes t ts) = type_levels depth t ⊕ more_types_levels depth ts

  pub more_types_levels : ℕ → s.TypeExpressions → List ℕ
  more_types_levels depth s.NoTypes = []
  more_types_levels depth (s.MoreTypes t ts) = 0 ∷ type_levels depth t ⊕ more_types_levels depth ts

  pub fields_levels : ℕ → s.FieldGroups → List ℕ
  fields_levels depth s.NoFields = []
  fields_levels depth (s.MoreFields xs t gs) = names_levels xs ⊕ 0 ∷ type_levels depth t ⊕ more_fields_levels depth gs

  pub more_fields_levels : ℕ → s.FieldGroups → List ℕ
  more_fields_levels depth s.NoFields = []
  more_fields_levels depth (s.MoreFields xs t gs) = 0 ∷ names_levels xs ⊕ 0 ∷ type_levels depth t ⊕ more_fields_levels depth gs

-- ---- statements

abbrev pub init_item_levels : ℕ → s.InitItem → List ℕ
init_item_levels depth i = 0 ∷ arguments_levels depth i.arguments

abbrev mutual
  pub statement_levels : ℕ → s.Statement → List ℕ
  statement_levels depth s.Empty = []
  statement_levels depth (s.Assign d at e) = designator_levels depth d ⊕ 0 ∷ expression_levels depth e
  statement_levels depth (s.Perform d es) = designator_levels depth d ⊕ arguments_levels depth es
  statement_levels depth (s.Compound l) = suc depth ∷ statements_levels (suc depth) l ⊕ 0 ∷ []
  statement_levels depth (s.If c x) = suc depth ∷ expression_levels (suc depth) c ⊕ 0 ∷ statement_levels (suc depth) x
  statement_levels depth (s.IfElse c x y) =
      suc depth ∷ expression_levels (suc depth) c ⊕ 0 ∷ statement_levels (suc depth) x ⊕ 0 ∷ statement_levels (suc depth) y
  statement_levels depth (s.Case e a) = suc depth ∷ expression_levels (suc depth) e ⊕ 0 ∷ arms_levels (suc depth) a ⊕ 0 ∷ []
  statement_levels depth (s.While c x) = suc depth ∷ expression_levels (suc depth) c ⊕ 0 ∷ statement_levels (suc depth) x
  statement_levels depth (s.Repeat l c) = suc depth ∷ statements_levels (suc depth) l ⊕ 0 ∷ expression_levels (suc depth) c
  statement_levels depth (s.For v a d b x) =
      suc depth ∷ 0 ∷ 0 ∷ expression_levels (suc depth) a ⊕ 0 ∷ expression_levels (suc depth) b ⊕ 0 ∷ statement_levels (suc depth) x
  statement_levels depth (s.Cycle l) = suc depth ∷ statements_levels (suc depth) l ⊕ 0 ∷ []
  statement_levels depth (s.Init at is) = 0 ∷ separated_levels (init_item_levels depth) is

  pub statements_levels : ℕ → s.Statements → List ℕ
  statements_levels depth s.NoStatements = []
  statements_levels depth (s.MoreStatements x xs) = statement_levels depth x ⊕ more_statements_levels depth xs

  pub more_statements_levels : ℕ → s.Statements → List ℕ
  more_statements_levels depth s.NoStatements = []
  more_statements_levels depth (s.MoreStatements x xs) = 0 ∷ statement_levels depth x ⊕ more_statements_levels depth xs

  pub arms_levels : ℕ → s.Arms → List ℕ
  arms_levels depth s.NoArms = []
  arms_levels depth (s.MoreArms labels x a) = constants_levels labels ⊕ 0 ∷ statement_levels depth x ⊕ more_arms_levels depth a

  pub more_arms_levels : ℕ → s.Arms → List ℕ
  more_arms_levels depth s.NoArms = []
  more_arms_levels depth (s.MoreArms labels x a) = 0 ∷ constants_levels labels ⊕ 0 ∷ statement_levels depth x ⊕ more_arms_levels depth a

-- ---- declarations, where no level is open

abbrev pub body_levels : s.Body → List ℕ
body_levels b = 1 ∷ statements_levels 1 b.list ⊕ 0 ∷ []

abbrev pub variable_group_levels : s.Variables → List ℕ
variable_group_levels g = names_levels g.names ⊕ 0 ∷ type_levels 0 g.of ⊕ 0 ∷ []

abbrev pub variables_levels : List s.Variables → List ℕ
variables_levels [] = []
variables_levels (g ∷ gs) = 0 ∷ each_levels variable_group_levels (g ∷ gs)

abbrev pub optional_levels : Option ℕ → List ℕ
optional_levels None = []
optional_levels (Some at) = 0 ∷ []

abbrev pub parameter_group_levels : s.Parameters → List ℕ
parameter_group_levels p = optional_levels p.by_reference ⊕ names_levels p.names ⊕ 0 ∷ 0 ∷ []

abbrev pub parameters_levels : List s.Parameters → List ℕ
parameters_levels [] = []
parameters_levels (p ∷ ps) = 0 ∷ separated_levels parameter_group_levels (p ∷ ps) ⊕ 0 ∷ []

abbrev pub result_type_levels : Option Identifier → List ℕ
result_type_levels None = []
result_type_levels (Some t) = 0 ∷ 0 ∷ []

abbrev pub routine_levels : s.Routine → List ℕ
routine_levels r =
    0 ∷ optional_levels r.entry ⊕ 0 ∷ parameters_levels r.parameters ⊕ result_type_levels r.result_type
    ⊕ 0 ∷ variables_levels r.variables ⊕ body_levels r.body ⊕ 0 ∷ []

abbrev pub system_levels : s.System → List ℕ
system_levels y = 0 ∷ parameters_levels y.parameters ⊕ 0 ∷ variables_levels y.variables ⊕ each_levels routine_levels y.routines ⊕ body_levels y.body

abbrev pub defined_levels : s.Defined → List ℕ
defined_levels (s.Written t) = type_levels 0 t
defined_levels (s.Enumeration values) = 0 ∷ names_levels values ⊕ 0 ∷ []
defined_levels (s.SystemType y) = system_levels y

abbrev pub constant_definition_levels : ConstantDefinition → List ℕ
constant_definition_levels d = 0 ∷ 0 ∷ constant_levels d.value ⊕ 0 ∷ []

abbrev pub type_definition_levels : s.TypeDefinition → List ℕ
type_definition_levels d = 0 ∷ 0 ∷ defined_levels d.defined ⊕ 0 ∷ []

abbrev pub section_levels : s.Section → List ℕ
section_levels (s.Constants ds) = 0 ∷ each_levels constant_definition_levels ds
section_levels (s.Types ds) = 0 ∷ each_levels type_definition_levels ds

abbrev pub text_levels : s.Tree → List ℕ
text_levels t =
    each_levels section_levels t.sections ⊕ variables_levels t.variables ⊕ each_levels routine_levels t.routines ⊕ body_levels t.body ⊕ 0 ∷ []
