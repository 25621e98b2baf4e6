-- When a program represents a text.
use Rattle.std.specs.Prelude.{◌≡◌, ℤ, true, ◌≤◌, ◌⊎◌, ℕ, zero, suc, ◌+◌, ◌-◌, List, [], ◌∷◌, ◌++◌, Option, Some, None, length, slice_get}
use Rattle.cp_model.specs.Abstract.{BaseType, Monitor, Name, Process, Routine, Sort, System}
use Rattle.cp_model.specs.Types.{ComponentOf, GlobalScope, Members, ResolvedType, Simple, named_type}
use Rattle.cp_model.specs.Places.{within}
use Rattle.cp_model.specs.Declarations.{Variable, declarations, globals, reported_members}
use Rattle.cp_model.specs.Environments.{Environment, local_variables, permanent_variables}
use Rattle.cp_model.specs.Locations.{Location, Owner}
use Rattle.cp_model.specs.Report.{components_of}
use Rattle.cp_model.specs.States.{Setup, monitor_count, process_count}
use Rattle.cp_law_typing.specs.Declared.{Distinct, Each, RoutineParameter, RoutineVariable}
use Rattle.cp_law_typing.specs.WellTyped.{WellTyped, text_systems}
use Rattle.cp_model_program.specs.Programs as code
use Rattle.cp_model_program.specs.Programs.{CodeUnit, Done, EndBody, End, Operation, Program, Return}
use Rattle.cp_model_program.specs.Layout.{activation_words, component_words, most_words}
use Rattle.cp_model_program.specs.Sites.{BodyOf, LeftOut, RoutineOf, Site, UnitText, operation_at}
use Rattle.cp_model_program.specs.TermsFor.{nothing_known}
use Rattle.cp_model_program.specs.StatementsFor.{CodeFor, is_function}
use Rattle.cp_model_program.specs.Starts.{Starts, StartsComponent, unset}

-- ---- Units

abbrev pub routine_environment : GlobalScope → System → Routine → Location → Owner → Environment
routine_environment g s r at o =
    record { globals = g; system = s; component = at; frame = Some (record { owner = o; routine = r }) }

abbrev pub body_environment : GlobalScope → System → Location → Environment
body_environment g s at = record { globals = g; system = s; component = at; frame = None }

abbrev pub system_of_unit : UnitText → System
system_of_unit (RoutineOf s r) = s
system_of_unit (BodyOf s) = s
system_of_unit (LeftOut s) = s

-- The system type of the initial process, or one that the text defines.
abbrev pub IsInText : Setup → System → Type 0
IsInText setup s = (s ≡ setup.tree.initial) ⊎ ((i : ℕ) × (slice_get (text_systems setup) i ≡ Some s))

-- The words of one activation. A body has none.
abbrev pub own_words : GlobalScope → UnitText → ℕ
own_words g (RoutineOf s r) = activation_words g r
own_words g (BodyOf s) = 0
own_words g (LeftOut s) = 0

abbrev pub site_of : Program → List UnitText → CodeUnit → UnitText → Environment → Site
site_of program texts u t env = record { program = program; texts = texts; env = env; unit = u; words = own_words env.globals t }

abbrev pub end_of : Sort → Operation
end_of Process = End
end_of _ = EndBody

-- The unit's code represents the text, wherever the component is and whoever owns the activation.
-- A component that has no room is nowhere, so nothing is said of its code. No process runs a unit
-- that is left out.
-- The names of its variables are distinct, and its parameters and variables are of types that those
-- of a routine may have.
abbrev pub UnitRepresents : Program → List UnitText → GlobalScope → CodeUnit → UnitText → Type 0
UnitRepresents program texts g u (RoutineOf s r) =
    Starts g r u × (activation_words g r ≤ u.words) × Distinct (local_variables g r ++ permanent_variables g s)
    × Each (RoutineVariable g) (declarations g r.variables)
    × (component_words g s ≤ most_words → (at : Location) (o : Owner) → (end : ℕ) × (operation_at program end ≡ Some (Return (is_function r.result)))
    × CodeFor (site_of program texts u (RoutineOf s r) (routine_environment g s r at o)) nothing_known r.body u.start end 0)
    × Each (RoutineParameter g (is_function r.result)) (declarations g r.parameters)
UnitRepresents program texts g u (BodyOf s) =
    (u.starts ≡ Done) × Distinct (permanent_variables g s)
    × (component_words g s ≤ most_words → (at : Location) → (end : ℕ) × (operation_at program end ≡ Some (end_of s.sort))
    × CodeFor (site_of program texts u (BodyOf s) (body_environment g s at)) nothing_known s.body u.start end 0)
UnitRepresents program texts g u (LeftOut s) = Unit {0}

-- ---- Components

abbrev pub component_in : ResolvedType → Option System
component_in (ComponentOf s inner) = Some s
component_in _ = None

abbrev pub component_at : List (Name × Variable) → ℕ → Option System
component_at [] k = None
component_at (v ∷ vs) zero = component_in v.1.type
component_at (v ∷ vs) (suc k) = component_at vs k

abbrev pub system_of_process : Setup → ℕ → Option System
system_of_process setup zero = None
system_of_process setup (suc zero) = Some setup.tree.initial
system_of_process setup (suc (suc p)) = component_at (components_of setup Process) p

abbrev pub system_of_monitor : Setup → ℕ → Option System
system_of_monitor setup zero = None
system_of_monitor setup (suc m) = component_at (components_of setup Monitor) m

-- The process has its words and its body. A mark and its parameters wait among the shared words.
pub record ProcessRepresents (program : Program) (texts : List UnitText) (setup : Setup) (p : ℕ) : Type 0 where
  pub system : System
  pub is_system : system_of_process setup p ≡ Some system
  pub row : code.Process
  pub there : slice_get program.processes (p - 1) ≡ Some row
  pub words : row.words ≡ component_words (globals setup.tree) system
  pub starts : StartsComponent (globals setup.tree) system row.starts
  pub waiting : row.waiting ≡ suc (length (declarations (globals setup.tree) system.parameters))
  pub waits : row.parameters + row.waiting ≤ program.shared
  pub body : slice_get texts row.body ≡ Some (BodyOf system)
  pub unit : CodeUnit
  pub unit_there : slice_get program.units row.body ≡ Some unit

pub record MonitorRepresents (program : Program) (texts : List UnitText) (setup : Setup) (m : ℕ) : Type 0 where
  pub system : System
  pub is_system : system_of_monitor setup m ≡ Some system
  pub row : code.Monitor
  pub there : slice_get program.monitors (m - 1) ≡ Some row
  pub words : row.words ≡ component_words (globals setup.tree) system
  pub starts : StartsComponent (globals setup.tree) system row.starts
  pub lies : row.start + row.words ≤ program.shared

-- `n` words from `a` on and `m` words from `b` on have none in common.
abbrev pub Apart : ℕ → ℕ → ℕ → ℕ → Type 0
Apart a n b m = (a + n ≤ b) ⊎ (b + m ≤ a)

-- ---- The whole

-- A program represents a text. The text is well typed, and no value of a type that a name means is
-- the mark of an unset result. `texts` says what each unit is the code of. There are as many
-- processes and monitors as in the text. The blocks of shared words don't overlap, and the members
-- of a component are the same wherever its type is named.
pub record IsProgramFor (program : Program) (setup : Setup) : Type 0 where
  pub typed : WellTyped setup
  pub set_apart : (x : Name) (b : BaseType) (low high start n : ℤ) → named_type (globals setup.tree) x ≡ Simple b low high start
      → within low high n ≡ true → n ≡ unset → ⊥
  pub texts : List UnitText
  pub units : (n : ℕ) (u : CodeUnit) (t : UnitText) → slice_get program.units n ≡ Some u → slice_get texts n ≡ Some t
      → UnitRepresents program texts (globals setup.tree) u t
  pub systems : (n : ℕ) (t : UnitText) → slice_get texts n ≡ Some t → IsInText setup (system_of_unit t)
  pub process_rows : length program.processes ≡ process_count setup
  pub monitor_rows : length program.monitors ≡ monitor_count setup
  pub processes : (p : ℕ) → 1 ≤ p → p ≤ process_count setup → ProcessRepresents program texts setup p
  pub monitors : (m : ℕ) → 1 ≤ m → m ≤ monitor_count setup → MonitorRepresents program texts setup m
  pub monitors_apart : (m k : ℕ) (M : MonitorRepresents program texts setup m) (N : MonitorRepresents program texts setup k) → (m ≡ k → ⊥)
      → Apart M.row.start M.row.words N.row.start N.row.words
  pub parameters_apart : (p q : ℕ) (P : ProcessRepresents program texts setup p) (Q : ProcessRepresents program texts setup q) → (p ≡ q → ⊥)
      → Apart P.row.parameters P.row.waiting Q.row.parameters Q.row.waiting
  pub both_apart : (m p : ℕ) (M : MonitorRepresents program texts setup m) (P : ProcessRepresents program texts setup p)
      → Apart M.row.start M.row.words P.row.parameters P.row.waiting
  pub members : (s : System) (inner : Members) (x : Name) → named_type (globals setup.tree) x ≡ ComponentOf s inner
      → inner ≡ reported_members (globals setup.tree) s
