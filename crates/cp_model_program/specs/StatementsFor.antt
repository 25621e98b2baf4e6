-- When operations represent statements.
--
-- The code of a statement is entered at a place and leads to `next`. `low` is the first temp that
-- it may use: the counters of the enclosing `for` statements are below it.
use Rattle.std.specs.Prelude.{◌≡◌, ◌≤◌, ℕ, ◌+◌, suc, ℤ, Bool, true, false, List, [], ◌∷◌, Option, Some, None, codes, length}
use Rattle.std.specs.Str.{bytes_eq}
use Rattle.cp_model.specs.Abstract as a
use Rattle.cp_model.specs.Abstract.{BaseType, Char, Class, Monitor, Name, Process, System}
use Rattle.cp_model.specs.Types.{ComponentOf, Members, Queue, ResolvedType, Simple, named_type}
use Rattle.cp_model.specs.Declarations.{Variable, declarations}
use Rattle.cp_model.specs.Environments.{Environment, Frame, IsVariable, meaning}
use Rattle.cp_model.specs.Components.{Component, component_named, process_number}
use Rattle.cp_model.specs.Calls.{Callee, callee}
use Rattle.cp_model.specs.StatementSteps.{has_label}
use Rattle.cp_law_typing.specs.Words.{words}
use Rattle.cp_model_program.specs.Terms.{Argument, Right, Term, Value}
use Rattle.cp_model_program.specs.Programs as op
use Rattle.cp_model_program.specs.Programs.{Call, Counting, Operation, Table}
use Rattle.cp_model_program.specs.Layout.{local, member, right}
use Rattle.cp_model_program.specs.Tables.{place_in}
use Rattle.cp_model_program.specs.Sites.{BodyOf, Calls, IsNoClock, NamesVariable, Runs, Site, TargetFor, first_parameter, local_location, operation_at, parameters}
use Rattle.cp_model_program.specs.TermsFor.{ArgumentsFor, IsPlainStructure, Knowns, PlaceExpressionFor, TermFor, nothing_known}

abbrev pub represents_at : Site → ℕ → Operation → Type 0
represents_at site place o = operation_at site.program place ≡ Some o

-- ---- Assignments

-- The running routine is a function with this name and a simple result type. No parameter or
-- variable of it has its name.
pub record NamesResult (env : Environment) (x : Name) (low high : ℤ) : Type 0 where
  pub frame : Frame
  pub runs : env.frame ≡ Some frame
  pub is_name : x ≡ frame.routine.name
  pub variable : Variable
  pub means : meaning env x ≡ IsVariable (local_location frame x) variable
  pub reference : variable.by_reference ≡ false
  pub base : BaseType
  pub start : ℤ
  pub type : variable.type ≡ Simple base low high start
  pub function : (t : Name) × (frame.routine.result ≡ Some t)
  pub named : named_type env.globals function.0 ≡ Simple base low high start
  pub no_local : local env.globals frame.routine frame.routine.name ≡ None

abbrev pub AssignsBy : Site → Knowns → a.Designator → a.Expression → Operation → ℕ → ℕ → ℕ → ℕ → Type 0
AssignsBy site K d e (op.Set to lower upper value n) place last next low =
    (b : BaseType) × (of : BaseType) × (start : ℤ) × (between : ℕ) × (middle : ℕ) × (n ≡ next)
    × (low ≤ middle) × (middle ≤ site.unit.temps)
    × PlaceExpressionFor site K d to (Simple b lower upper start) place between low middle
    × TermFor site K e value of between last middle site.unit.temps
AssignsBy site K (a.Plain x) e (op.SetResult lower upper value n) place last next low =
    (of : BaseType) × (n ≡ next) × NamesResult site.env x lower upper
    × TermFor site K e value of place last low site.unit.temps
AssignsBy site K d (a.Use e) (op.CopyWords to from size n) place last next low =
    (t : ResolvedType) × (between : ℕ) × (middle : ℕ) × (n ≡ next) × (low ≤ middle) × (middle ≤ site.unit.temps)
    × IsPlainStructure t × (size ≡ words site.env.globals t) × (callee site.env e ≡ None) × IsNoClock e
    × PlaceExpressionFor site K d to t place between low middle
    × PlaceExpressionFor site K e from t between last middle site.unit.temps
AssignsBy site K d e _ place last next low = ⊥

-- ---- Calls and standard procedures

abbrev pub IsByte : BaseType → Bool → Type 0
IsByte Char b = b ≡ true
IsByte _ b = b ≡ false

abbrev pub is_function : Option Name → Bool
is_function None = false
is_function (Some t) = true

-- The standard procedure of one argument that a name means. `continue` is the last one.
pub data Standard : Type 0 where
  Displays Accepts Delays Continues : Standard

abbrev pub IsStandard : Site → Name → Standard → Type 0
IsStandard site x Displays = (callee site.env (a.Plain x) ≡ None) × (bytes_eq x (codes "display") ≡ true)
IsStandard site x Accepts =
    (callee site.env (a.Plain x) ≡ None) × (bytes_eq x (codes "display") ≡ false) × (bytes_eq x (codes "accept") ≡ true)
IsStandard site x Delays =
    (callee site.env (a.Plain x) ≡ None) × (bytes_eq x (codes "display") ≡ false) × (bytes_eq x (codes "accept") ≡ false)
    × (bytes_eq x (codes "delay") ≡ true)
IsStandard site x Continues =
    (callee site.env (a.Plain x) ≡ None) × (bytes_eq x (codes "display") ≡ false) × (bytes_eq x (codes "accept") ≡ false)
    × (bytes_eq x (codes "delay") ≡ false)

abbrev pub PerformsBy : Site → Knowns → a.Designator → a.Expressions → Operation → ℕ → ℕ → ℕ → ℕ → Type 0
PerformsBy site K d es (op.Procedure call n) place last next low =
    (c : Callee) × (high : ℕ) × Calls site d c low call × (c.routine.result ≡ None) × (n ≡ next) × (high ≤ site.unit.temps)
    × ArgumentsFor site K (parameters site c) es call.arguments (first_parameter c) place last low high
PerformsBy site K (a.Plain x) (a.MoreExpressions e a.NoExpression) (op.Display value as_byte n) place last next low =
    (b : BaseType) × IsStandard site x Displays × (n ≡ next) × IsByte b as_byte
    × TermFor site K e value b place last low site.unit.temps
PerformsBy site K (a.Plain x) (a.MoreExpressions (a.Use d) a.NoExpression) (op.Accept to lower upper n) place last next low =
    (start : ℤ) × IsStandard site x Accepts × (n ≡ next) × (callee site.env d ≡ None)
    × PlaceExpressionFor site K d to (Simple Char lower upper start) place last low site.unit.temps
PerformsBy site K (a.Plain x) (a.MoreExpressions (a.Use d) a.NoExpression) (op.Delay queue n) place last next low =
    IsStandard site x Delays × (n ≡ next) × (callee site.env d ≡ None)
    × PlaceExpressionFor site K d queue Queue place last low site.unit.temps
PerformsBy site K (a.Plain x) (a.MoreExpressions (a.Use d) a.NoExpression) (op.Continue queue function) place last next low =
    IsStandard site x Continues × (callee site.env d ≡ None) × PlaceExpressionFor site K d queue Queue place last low site.unit.temps
    × ((f : Frame) × (site.env.frame ≡ Some f) × (function ≡ is_function f.routine.result))
PerformsBy site K (a.Plain x) a.NoExpression (op.Wait n) place last next low =
    (callee site.env (a.Plain x) ≡ None) × (n ≡ next) × (place ≡ last)
PerformsBy site K d es _ place last next low = ⊥

-- ---- Init

-- Each parameter is one of the component's own members, or a right.
abbrev pub InitArgumentsFor : Site → Knowns → System → List (Name × Variable) → a.Expressions → List Argument → ℕ → ℕ → ℕ → ℕ → Type 0
InitArgumentsFor site K s [] a.NoExpression [] place next low high = place ≡ next
InitArgumentsFor site K s (p ∷ ps) (a.MoreExpressions e es) (Value to lower upper c ∷ xs) place next low high =
    (b : BaseType) × (start : ℤ) × (between : ℕ) × (middle : ℕ) × (member site.env.globals s p.0 ≡ Some (to, p.1.type))
    × (p.1.type ≡ Simple b lower upper start) × (low ≤ middle) × (middle ≤ high)
    × TermFor site K e c b place between low middle
    × InitArgumentsFor site K s ps es xs between next middle high
InitArgumentsFor site K s (p ∷ ps) (a.MoreExpressions (a.Use (a.Plain x)) es) (Right to t ∷ xs) place next low high =
    (n : Component) × (inner : Members) × (v : Variable)
    × (right site.env.globals s p.0 ≡ Some (to, v)) × (p.1.type ≡ ComponentOf n.system inner)
    × (component_named site.env x ≡ Some n) × TargetFor site.env (Some n) t × (callee site.env (a.Plain x) ≡ None)
    × InitArgumentsFor site K s ps es xs place next low high
InitArgumentsFor site K s _ _ _ place next low high = ⊥

-- At first the arguments of an `init` are after the running activation, as the component's own
-- words will: after its mark.
abbrev pub HasRoom : Site → List Argument → Type 0
HasRoom site xs = site.words + suc (length xs) ≤ site.unit.words

-- The body of a class or a monitor is run.
pub record InitCalls (site : Site) (n : Component) (kept : ℕ) (call : Call) : Type 0 where
  pub own : n.is_parameter ≡ false
  pub target : TargetFor site.env (Some n) call.target
  pub runs : Runs site (BodyOf n.system) kept call
  pub room : HasRoom site call.arguments

abbrev pub PassesBy : Site → Knowns → Component → a.Expressions → List Argument → ℕ → ℕ → ℕ → Type 0
PassesBy site K n es xs place last low =
    InitArgumentsFor site K n.system (declarations site.env.globals n.system.parameters) es xs place last low site.unit.temps

abbrev pub InitsBy : Site → Knowns → Component → a.Expressions → Operation → ℕ → ℕ → ℕ → ℕ → Type 0
InitsBy site K n es (op.InitClass call m) place last next low =
    (n.system.sort ≡ Class) × (m ≡ next) × InitCalls site n low call × PassesBy site K n es call.arguments place last low
InitsBy site K n es (op.InitMonitor call m) place last next low =
    (n.system.sort ≡ Monitor) × (m ≡ next) × InitCalls site n low call × PassesBy site K n es call.arguments place last low
InitsBy site K n es (op.InitProcess r xs count m) place last next low =
    (n.system.sort ≡ Process) × (m ≡ next) × (process_number site.env n ≡ r) × (count ≡ site.words) × HasRoom site xs
    × PassesBy site K n es xs place last low
InitsBy site K n es _ place last next low = ⊥

-- ---- Statements

pub record Counts (site : Site) (x : Name) (down : Bool) (c : Counting) (next low : ℕ) : Type 0 where
  pub base : BaseType
  pub start : ℤ
  pub variable : NamesVariable site.env x c.variable (Simple base c.low c.high start)
  pub way : c.down ≡ down
  pub temp : c.temp ≡ low
  pub room : low + 2 ≤ site.unit.temps
  pub next_is : c.next ≡ next

abbrev pub either : Bool → Type 0 → Type 0 → Type 0
either true A B = A
either false A B = B

abbrev mutual
  pub CodeFor : Site → Knowns → a.Statement → ℕ → ℕ → ℕ → Type 0
  CodeFor site K a.Nothing place next low = place ≡ next
  CodeFor site K (a.Seq s t) place next low =
      (middle : ℕ) × CodeFor site nothing_known s place middle low × CodeFor site nothing_known t middle next low
  CodeFor site K (a.Assign d e) place next low =
      (last : ℕ) × (o : Operation) × represents_at site last o × AssignsBy site K d e o place last next low
  CodeFor site K (a.Perform d es) place next low =
      (last : ℕ) × (o : Operation) × represents_at site last o × PerformsBy site K d es o place last next low
  CodeFor site K (a.If e s t) place next low =
      (last : ℕ) × (c : Term) × (b : BaseType) × (yes' : ℕ) × (no' : ℕ) × represents_at site last (op.Test c yes' no')
      × TermFor site K e c b place last low site.unit.temps
      × CodeFor site nothing_known s yes' next low × CodeFor site nothing_known t no' next low
  CodeFor site K (a.Case e arms) place next low =
      (last : ℕ) × (c : Term) × (b : BaseType) × (table : Table) × represents_at site last (op.Case c table)
      × TermFor site K e c b place last low site.unit.temps
      × ((n : ℤ) → ArmFor site arms n (place_in table n) next low)
  CodeFor site K (a.While e s) place next low =
      (last : ℕ) × (c : Term) × (b : BaseType) × (body : ℕ) × represents_at site last (op.Test c body next)
      × TermFor site nothing_known e c b place last low site.unit.temps × CodeFor site nothing_known s body place low
  CodeFor site K (a.Repeat s e) place next low =
      (test : ℕ) × (last : ℕ) × (c : Term) × (b : BaseType) × represents_at site last (op.Test c next place)
      × TermFor site nothing_known e c b test last low site.unit.temps × CodeFor site nothing_known s place test low
  CodeFor site K (a.For x down e f s) place next low =
      (last : ℕ) × (c : Counting) × (from : Term) × (to : Term) × (b : BaseType) × (between : ℕ) × (middle : ℕ) × (test : ℕ)
      × represents_at site last (op.For c from to) × represents_at site test (op.ForNext c) × Counts site x down c next low
      × (low ≤ middle) × (middle ≤ site.unit.temps)
      × TermFor site K e from b place between low middle × TermFor site K f to b between last middle site.unit.temps
      × CodeFor site nothing_known s c.body test (low + 2)
  CodeFor site K (a.Cycle s) place next low =
      (body : ℕ) × represents_at site place (op.Cycle body) × CodeFor site nothing_known s body place low
  CodeFor site K (a.Init x es) place next low =
      (last : ℕ) × (o : Operation) × (n : Component) × represents_at site last o × (component_named site.env x ≡ Some n)
      × InitsBy site K n es o place last next low

  -- The arm of a number is found at a place, or there is none.
  pub ArmFor : Site → a.Arms → ℤ → Option ℕ → ℕ → ℕ → Type 0
  ArmFor site a.NoArm n found next low = found ≡ None
  ArmFor site (a.MoreArms labels s rest) n found next low =
      either (has_label site.env.globals n labels)
      ((place : ℕ) × (found ≡ Some place) × CodeFor site nothing_known s place next low)
      (ArmFor site rest n found next low)
