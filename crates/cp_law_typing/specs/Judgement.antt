-- The typing judgement of expressions and statements, over the environment of the meaning.
--
-- A judgement is a type, defined by recursion on the abstract syntax, so each clause computes to
-- what it says about the parts.
use Rattle.std.specs.Prelude.{◌≡◌, ◌<◌, ◌⊎◌, ℕ, not, if◌then◌else◌, ℤ, Bool, true, false, List, [], ◌∷◌, ◌++◌, Option, None, Some, codes, slice_get}
use Rattle.std.specs.Str.{bytes_eq}
use Rattle.cp_model.specs.Abstract.{Add, And, Arms, Assign, At, BaseType, Binary, Boolean, Call, Case, Char, Constant, Cycle, Designator, Divide, Expression, Expressions, For, If, Init, Integer, Known, Letter, Literal, Modulo, Monitor, MoreArms, MoreExpressions, Multiply, Name, Negative, NoArm, NoExpression, Not, Nothing, Operator, Or, Part, Perform, Plain, Positive, Process, Repeat, Routine, Seq, Statement, Subtract, System, Use, While}
use Rattle.cp_model.specs.Names.{lookup}
use Rattle.cp_model.specs.Types.{ArrayOf, ComponentOf, GlobalScope, Members, MoreMembers, NoMembers, Queue, RecordOf, ResolvedType, Simple, constant_value}
use Rattle.cp_model.specs.Declarations.{Variable, declarations}
use Rattle.cp_model.specs.Locations.{Location}
use Rattle.cp_model.specs.Environments.{Environment, Frame, IsConstant, IsVariable, meaning}
use Rattle.cp_model.specs.Components.{Component, component_named}
use Rattle.cp_model.specs.Calls.{Callee, callee}
use Rattle.cp_model.specs.Integers.{same_integer}
use Rattle.cp_law_typing.specs.StaticTypes.{expression_type, is_clock, place_type}

-- ---- Where a statement is

-- The environment, the system types that were defined before it, and the number of routines of its
-- component that were declared before it. Only these may be called.
pub record Place : Type 0 where
  pub env : Environment
  pub systems : List System
  pub routines : ℕ

-- ---- Types

pub record IsOfBase (b : BaseType) (t : ResolvedType) : Type 0 where
  pub low : ℤ
  pub high : ℤ
  pub start : ℤ
  pub is : t ≡ Simple b low high start

abbrev pub IsSimple : ResolvedType → Type 0
IsSimple t = (b : BaseType) × IsOfBase b t

pub record IsArray (t : ResolvedType) : Type 0 where
  pub low : ℤ
  pub high : ℤ
  pub element : ResolvedType
  pub is : t ≡ ArrayOf low high element

abbrev pub find_member : Name → Members → Option ResolvedType
find_member x NoMembers = None
find_member x (MoreMembers y t ps) = if bytes_eq x y then Some t else find_member x ps

pub record HasField (x : Name) (t : ResolvedType) : Type 0 where
  pub members : Members
  pub is : t ≡ RecordOf members
  pub type : ResolvedType
  pub found : find_member x members ≡ Some type

abbrev pub is_structured : ResolvedType → Bool
is_structured (ArrayOf low high t) = true
is_structured (RecordOf ps) = true
is_structured _ = false

abbrev pub has_queues : ResolvedType → Bool
has_queues (ArrayOf low high t) = has_queues t
has_queues Queue = true
has_queues _ = false

-- simple types of one base, or the very same array or record type
abbrev pub Agree : ResolvedType → ResolvedType → Type 0
Agree t u = ((b : BaseType) × IsOfBase b t × IsOfBase b u) ⊎ ((t ≡ u) × (is_structured t ≡ true))

-- ---- Calls

-- A routine of the component itself that was declared before and isn't an entry, or an entry of a
-- component whose type was defined before.
abbrev pub MayBeCalled : Place → Routine → Option Component → Type 0
MayBeCalled p r None = (k : ℕ) × (k < p.routines) × (slice_get p.env.system.routines k ≡ Some r) × (r.entry ≡ false)
MayBeCalled p r (Some n) =
    (i : ℕ) × (k : ℕ) × (slice_get p.systems i ≡ Some n.system) × (slice_get n.system.routines k ≡ Some r) × (r.entry ≡ true)

-- the first name of a designator
abbrev pub first_name : Designator → Name
first_name (Plain x) = x
first_name (Part d x) = first_name d
first_name (At d e) = first_name d

-- whether a parameter is found that isn't a `var` parameter
abbrev pub is_value_parameter : Option Variable → Bool
is_value_parameter None = false
is_value_parameter (Some v) = not v.by_reference

abbrev pub frame_parameters : GlobalScope → Option Frame → List (Name × Variable)
frame_parameters g None = []
frame_parameters g (Some f) = declarations g f.routine.parameters

-- it may be changed: what it names isn't a value parameter, neither of the routine nor of the
-- component
abbrev pub IsChangeable : Environment → Designator → Type 0
IsChangeable env d =
    (is_value_parameter (lookup (first_name d) (frame_parameters env.globals env.frame)) ≡ false)
    × (is_value_parameter (lookup (first_name d) (declarations env.globals env.system.parameters)) ≡ false)

-- a variable that isn't a call
abbrev pub IsVariableArgument : Environment → Expression → ResolvedType → Type 0
IsVariableArgument env (Use d) t = (callee env d ≡ None) × (place_type env d ≡ t) × IsChangeable env d
IsVariableArgument env _ t = ⊥

-- an argument that is passed by reference, or by value
abbrev pub FitsBy : Bool → Environment → ResolvedType → Expression → Type 0
FitsBy true env t e = IsVariableArgument env e t
FitsBy false env t e = Agree t (expression_type env e)

abbrev pub Fits : Environment → Variable → Expression → Type 0
Fits env v e = FitsBy v.by_reference env v.type e

-- there are as many arguments as parameters, and each fits its parameter
abbrev pub AllFit : Environment → List (Name × Variable) → Expressions → Type 0
AllFit env [] NoExpression = Unit {0}
AllFit env (v ∷ vs) (MoreExpressions e es) = Fits env v.1 e × AllFit env vs es
AllFit env _ _ = ⊥

abbrev pub IsFunction : Routine → Type 0
IsFunction r = (t : Name) × (r.result ≡ Some t)

pub record Called (p : Place) (c : Callee) (es : Expressions) : Type 0 where
  pub may : MayBeCalled p c.routine c.of
  pub fit : AllFit p.env (declarations p.env.globals c.routine.parameters) es

-- ---- Standard functions

pub data StandardFunction : Type 0 where
  Abs Succ Pred Ord Chr Empty : StandardFunction

abbrev pub function_name : StandardFunction → Name
function_name Abs = codes "abs"
function_name Succ = codes "succ"
function_name Pred = codes "pred"
function_name Ord = codes "ord"
function_name Chr = codes "chr"
function_name Empty = codes "empty"

abbrev pub IsInMonitorRoutine : Environment → Type 0
IsInMonitorRoutine env = (env.system.sort ≡ Monitor) × (f : Frame) × (env.frame ≡ Some f)

-- a variable of type queue, in a routine of a monitor
abbrev pub IsQueueArgument : Environment → Expression → Type 0
IsQueueArgument env (Use d) = (callee env d ≡ None) × (place_type env d ≡ Queue) × IsInMonitorRoutine env
IsQueueArgument env _ = ⊥

abbrev pub StandardFits : Environment → StandardFunction → Expression → Type 0
StandardFits env Abs e = IsOfBase Integer (expression_type env e)
StandardFits env Chr e = IsOfBase Integer (expression_type env e)
StandardFits env Empty e = IsQueueArgument env e
StandardFits env _ e = IsSimple (expression_type env e)

abbrev pub IsStandardCall : Environment → Designator → Expressions → Type 0
IsStandardCall env (Plain x) (MoreExpressions e NoExpression) = (f : StandardFunction) × (x ≡ function_name f) × StandardFits env f e
IsStandardCall env _ _ = ⊥

abbrev pub IsFunctionCall : Place → Option Callee → Designator → Expressions → Type 0
IsFunctionCall p (Some c) d es = Called p c es × IsFunction c.routine
IsFunctionCall p None d es = IsStandardCall p.env d es

-- ---- Expressions

-- what a bare name is, if it isn't a call: the clock, a constant, or a variable
abbrev pub NamesValue : Environment → Name → Type 0
NamesValue env x =
    (x ≡ codes "realtime")
    ⊎ ((is_clock x ≡ false) × ((b : BaseType) × (n : ℤ) × (meaning env x ≡ IsConstant b n)))
    ⊎ ((is_clock x ≡ false) × ((at : Location) × (v : Variable) × (meaning env x ≡ IsVariable at v)))

abbrev pub NamesVariable : Environment → Name → Type 0
NamesVariable env x = (at : Location) × (v : Variable) × (meaning env x ≡ IsVariable at v)

abbrev pub OperandsFit : Operator → ResolvedType → ResolvedType → Type 0
OperandsFit Add t u = IsOfBase Integer t × IsOfBase Integer u
OperandsFit Subtract t u = IsOfBase Integer t × IsOfBase Integer u
OperandsFit Multiply t u = IsOfBase Integer t × IsOfBase Integer u
OperandsFit Divide t u = IsOfBase Integer t × IsOfBase Integer u
OperandsFit Modulo t u = IsOfBase Integer t × IsOfBase Integer u
OperandsFit And t u = IsOfBase Boolean t × IsOfBase Boolean u
OperandsFit Or t u = IsOfBase Boolean t × IsOfBase Boolean u
OperandsFit _ t u = (b : BaseType) × IsOfBase b t × IsOfBase b u

abbrev mutual
  -- every call, place and operand in an expression is sound
  pub TypedExpression : Place → Expression → Type 0
  TypedExpression p (Literal n) = Unit {0}
  TypedExpression p (Letter n) = Unit {0}
  TypedExpression p (Use d) = elim (callee p.env d) [ Some c ↦ Called p c NoExpression × IsFunction c.routine | None ↦ TypedUse p d ]
  TypedExpression p (Call d es) = TypedExpressions p es × IsFunctionCall p (callee p.env d) d es
  TypedExpression p (Not e) = TypedExpression p e × IsOfBase Boolean (expression_type p.env e)
  TypedExpression p (Negative e) = TypedExpression p e × IsOfBase Integer (expression_type p.env e)
  TypedExpression p (Positive e) = TypedExpression p e × IsOfBase Integer (expression_type p.env e)
  TypedExpression p (Binary o a b) =
      TypedExpression p a × TypedExpression p b × OperandsFit o (expression_type p.env a) (expression_type p.env b)
  TypedExpression p (Known b n) = Unit {0}

  pub TypedExpressions : Place → Expressions → Type 0
  TypedExpressions p NoExpression = Unit {0}
  TypedExpressions p (MoreExpressions e es) = TypedExpression p e × TypedExpressions p es

  -- a designator that isn't a call
  pub TypedUse : Place → Designator → Type 0
  TypedUse p (Plain x) = NamesValue p.env x
  TypedUse p (Part d x) = TypedPlace p d × HasField x (place_type p.env d)
  TypedUse p (At d e) = TypedPlace p d × TypedExpression p e × IsArray (place_type p.env d) × IsSimple (expression_type p.env e)

  -- a designator that has a place
  pub TypedPlace : Place → Designator → Type 0
  TypedPlace p (Plain x) = NamesVariable p.env x
  TypedPlace p (Part d x) = TypedPlace p d × HasField x (place_type p.env d)
  TypedPlace p (At d e) = TypedPlace p d × TypedExpression p e × IsArray (place_type p.env d) × IsSimple (expression_type p.env e)

-- a designator without arguments, by what it calls
abbrev pub IsUsedAs : Place → Option Callee → Designator → Type 0
IsUsedAs p o d = elim o [ Some c ↦ Called p c NoExpression × IsFunction c.routine | None ↦ TypedUse p d ]

-- ---- Standard procedures

abbrev pub IsInEntry : Environment → Type 0
IsInEntry env = (env.system.sort ≡ Monitor) × (f : Frame) × (env.frame ≡ Some f) × (f.routine.entry ≡ true)

abbrev pub IsCharVariable : Environment → Expression → Type 0
IsCharVariable env (Use d) = (callee env d ≡ None) × IsOfBase Char (place_type env d) × IsChangeable env d
IsCharVariable env _ = ⊥

abbrev pub IsStandardStatement : Place → Designator → Expressions → Type 0
IsStandardStatement p (Plain x) NoExpression = (x ≡ codes "wait") × (p.env.system.sort ≡ Process)
IsStandardStatement p (Plain x) (MoreExpressions e NoExpression) =
    ((x ≡ codes "display") × IsSimple (expression_type p.env e))
    ⊎ ((x ≡ codes "accept") × IsCharVariable p.env e)
    ⊎ ((x ≡ codes "delay") × IsQueueArgument p.env e)
    ⊎ ((x ≡ codes "continue") × IsQueueArgument p.env e × IsInEntry p.env)
IsStandardStatement p _ _ = ⊥

abbrev pub IsProcedureCall : Place → Option Callee → Designator → Expressions → Type 0
IsProcedureCall p (Some c) d es = Called p c es × (c.routine.result ≡ None)
IsProcedureCall p None d es = IsStandardStatement p d es

-- ---- Init

-- a component given by its bare name, of exactly the parameter's system type
abbrev pub IsComponentArgument : Environment → System → Expression → Type 0
IsComponentArgument env s (Use (Plain x)) =
    (callee env (Plain x) ≡ None) × (c : Component) × (component_named env x ≡ Some c) × (c.system ≡ s)
IsComponentArgument env s _ = ⊥

abbrev pub InitFits : Place → ResolvedType → Expression → Type 0
InitFits p (ComponentOf s inner) e = IsComponentArgument p.env s e
InitFits p t e = TypedExpression p e × Agree t (expression_type p.env e)

abbrev pub AllInitFit : Place → List (Name × Variable) → Expressions → Type 0
AllInitFit p [] NoExpression = Unit {0}
AllInitFit p (v ∷ vs) (MoreExpressions e es) = InitFits p v.1.type e × AllInitFit p vs es
AllInitFit p _ _ = ⊥

-- a component variable of the component itself, outside its routines
pub record Initialises (p : Place) (x : Name) (es : Expressions) : Type 0 where
  pub component : Component
  pub named : component_named p.env x ≡ Some component
  pub own : component.is_parameter ≡ false
  pub outside : p.env.frame ≡ None
  pub place : ℕ
  pub defined : slice_get p.systems place ≡ Some component.system
  pub fit : AllInitFit p (declarations p.env.globals component.system.parameters) es

-- ---- Statements

-- n isn't among the numbers seen before
abbrev pub IsNew : ℤ → List ℤ → Type 0
IsNew n [] = Unit {0}
IsNew n (m ∷ ms) = (same_integer n m ≡ false) × IsNew n ms

abbrev pub labels_seen : GlobalScope → List Constant → List ℤ → List ℤ
labels_seen g [] seen = seen
labels_seen g (c ∷ cs) seen = elim (constant_value g c) [ Some v ↦ labels_seen g cs (seen ++ v.1 ∷ []) | None ↦ labels_seen g cs seen ]

abbrev pub TypedLabels : GlobalScope → BaseType → List ℤ → List Constant → Type 0
TypedLabels g b seen [] = Unit {0}
TypedLabels g b seen (c ∷ cs) =
    (n : ℤ) × (constant_value g c ≡ Some (b, n)) × IsNew n seen × TypedLabels g b (seen ++ n ∷ []) cs

abbrev mutual
  pub TypedStatement : Place → Statement → Type 0
  TypedStatement p Nothing = Unit {0}
  TypedStatement p (Seq a b) = TypedStatement p a × TypedStatement p b
  TypedStatement p (Assign d e) =
      TypedPlace p d × TypedExpression p e × Agree (place_type p.env d) (expression_type p.env e) × IsChangeable p.env d
      × (has_queues (place_type p.env d) ≡ false)
  TypedStatement p (Perform d es) = TypedExpressions p es × IsProcedureCall p (callee p.env d) d es
  TypedStatement p (If e a b) =
      TypedExpression p e × IsOfBase Boolean (expression_type p.env e) × TypedStatement p a × TypedStatement p b
  TypedStatement p (Case e arms) = TypedExpression p e × (b : BaseType) × IsOfBase b (expression_type p.env e) × TypedArms p b [] arms
  TypedStatement p (While e s) = TypedExpression p e × IsOfBase Boolean (expression_type p.env e) × TypedStatement p s
  TypedStatement p (Repeat s e) = TypedStatement p s × TypedExpression p e × IsOfBase Boolean (expression_type p.env e)
  TypedStatement p (For v down a b s) =
      NamesVariable p.env v × (callee p.env (Plain v) ≡ None) × IsChangeable p.env (Plain v)
      × ((base : BaseType) × IsOfBase base (place_type p.env (Plain v)) × IsOfBase base (expression_type p.env a) × IsOfBase base (expression_type p.env b))
      × TypedExpression p a × TypedExpression p b × TypedStatement p s
  TypedStatement p (Cycle s) = TypedStatement p s
  TypedStatement p (Init x es) = Initialises p x es

  pub TypedArms : Place → BaseType → List ℤ → Arms → Type 0
  TypedArms p b seen NoArm = Unit {0}
  TypedArms p b seen (MoreArms cs s rest) =
      TypedLabels p.env.globals b seen cs × TypedStatement p s × TypedArms p b (labels_seen p.env.globals cs seen) rest
