-- Where the variables of a process are: the addresses of locations among its own words and the
-- shared words after them.
use Rattle.std.specs.Prelude.{◌≡◌, ◌≤◌, ◌⊎◌, ℕ, ◌+◌, ℤ, Bool, true, pos, ◌+ℤ◌, if◌then◌else◌, List, [], ◌∷◌, Option, Some, None, length, nat_eq}
use Rattle.cp_model.specs.Abstract.{Class, Monitor, Name, Process, Routine, Sort, System}
use Rattle.cp_model.specs.Types.{ComponentOf, GlobalScope, ResolvedType}
use Rattle.cp_model.specs.Declarations.{Variable, globals, reported_members}
use Rattle.cp_model.specs.Environments.{Frame}
use Rattle.cp_model.specs.Locations.{ByIndex, ByName, Location, OfActivation, OfMonitor, OfProcess, Owner, Path, root, under}
use Rattle.cp_model.specs.Stores.{Absent, ClassRight, MonitorRight, Store, Value}
use Rattle.cp_model.specs.Continuations.{EndBody, EndCall, Task}
use Rattle.cp_model.specs.Parts.{is_own}
use Rattle.cp_model.specs.States.{Setup}
use Rattle.cp_model_program.specs.Programs.{Program}
use Rattle.cp_model_program.specs.Layout.{Part, component_words, farther, head_words, local, member, member_part, natural, part, right}
use Rattle.cp_model_program.specs.Sites.{UnitText}
use Rattle.cp_model_program.specs.IsProgramFor.{Apart, system_of_monitor, system_of_process}
use Rattle.cp_model_machine.specs.PrivateStates as machine
use Rattle.cp_model_machine.specs.Passing.{monitor_start, monitor_word}

-- ---- What is in reach

-- A step has either the process's own words in reach, or also those of all monitors, which follow
-- them.
pub data Sight : Type 0 where
  OwnWords AllWords : Sight

abbrev pub sees : Sight → ℕ → Owner → Bool
sees OwnWords p o = is_own p o
sees AllWords p (OfProcess q) = nat_eq p q
sees AllWords p (OfActivation q d) = nat_eq p q
sees AllWords p (OfMonitor m) = true

abbrev pub words_seen : Sight → Program → ℕ → ℕ
words_seen OwnWords program own = own
words_seen AllWords program own = own + program.shared

-- The words of each monitor are among the shared ones, and those of two monitors never overlap.
pub record MonitorsLie (program : Program) (setup : Setup) : Type 0 where
  pub inside : (m : ℕ) (s : System) → system_of_monitor setup m ≡ Some s
      → monitor_start program m + component_words (globals setup.tree) s ≤ program.shared
  pub apart : (m k : ℕ) (s r : System) → system_of_monitor setup m ≡ Some s → system_of_monitor setup k ≡ Some r → (m ≡ k → ⊥)
      → Apart (monitor_start program m) (component_words (globals setup.tree) s) (monitor_start program k)
      (component_words (globals setup.tree) r)

abbrev pub WhereMonitorsLie : Sight → Program → Setup → Type 0
WhereMonitorsLie OwnWords program setup = Unit {0}
WhereMonitorsLie AllWords program setup = MonitorsLie program setup

-- The program and the texts of its units, the setup, the process, the number of its own words, and
-- what is in reach.
pub record Ground : Type 0 where
  pub program : Program
  pub texts : List UnitText
  pub setup : Setup
  pub p : ℕ
  pub own : ℕ
  pub sight : Sight
  pub monitors_lie : WhereMonitorsLie sight program setup

abbrev pub scope : Ground → GlobalScope
scope G = globals G.setup.tree

abbrev pub in_sight : Ground → Owner → Bool
in_sight G o = sees G.sight G.p o

abbrev pub whole : Ground → ℕ
whole G = words_seen G.sight G.program G.own

-- ---- Activations

-- An activation: its first word and its routine.
pub record Activation : Type 0 where
  pub base : ℕ
  pub routine : Routine

abbrev pub activation_of : ℕ → Option Frame → List Activation → List Activation
activation_of base None xs = xs
activation_of base (Some f) xs = record { base = base; routine = f.routine } ∷ xs

-- The activations of what is left to do, the innermost one first. It begins at `base`, and the
-- others where the frames say.
abbrev pub activations : ℕ → List machine.Frame → List Task → List Activation
activations base fs [] = []
activations base fs (EndCall env gate ∷ k) = elim fs [
  | [] ↦ []
  | f ∷ gs ↦ activation_of base env.frame (activations f.base gs k)
]
activations base fs (EndBody gate ∷ k) = elim fs [ [] ↦ [] | f ∷ gs ↦ activations f.base gs k ]
activations base fs (_ ∷ k) = activations base fs k

-- Activations are counted from the outermost one.
abbrev pub activation_at : ℕ → List Activation → Option Activation
activation_at d [] = None
activation_at d (x ∷ xs) = if nat_eq d (length xs) then Some x else activation_at d xs

-- ---- Addresses

-- Where a part of a parameter or variable is. A `var` parameter has none, since it refers to a
-- variable elsewhere.
abbrev pub part_of_local : GlobalScope → Option (ℕ × Variable) → Path → Option Part
part_of_local g None path = None
part_of_local g (Some v) path = if v.1.by_reference then None else farther v.0 (part g v.1.type path)

abbrev pub part_of_component : GlobalScope → Option System → Name → Path → Option Part
part_of_component g None x path = None
part_of_component g (Some s) x path = member_part g (head_words g s) (reported_members g s) x path

abbrev pub part_of_activation : GlobalScope → Option Activation → Name → Path → Option Part
part_of_activation g None x path = None
part_of_activation g (Some z) x path = farther z.base (part_of_local g (local g z.routine x) path)

abbrev pub part_of_owner : Ground → List Activation → Owner → Name → Path → Option Part
part_of_owner G xs (OfProcess q) x path =
    if nat_eq G.p q then part_of_component (scope G) (system_of_process G.setup q) x path else None
part_of_owner G xs (OfMonitor m) x path =
    farther (G.own + monitor_start G.program m) (part_of_component (scope G) (system_of_monitor G.setup m) x path)
part_of_owner G xs (OfActivation q d) x path =
    if nat_eq G.p q then part_of_activation (scope G) (activation_at d xs) x path else None

abbrev pub part_at : Ground → List Activation → Owner → Path → Option Part
part_at G xs o [] = None
part_at G xs o (ByName x ∷ path) = part_of_owner G xs o x path
part_at G xs o (ByIndex i ∷ path) = None

-- The address and the type of a location that the process `G.p` reaches. Its own words come first,
-- followed by those of all monitors.
abbrev pub lies : Ground → List Activation → Location → Option Part
lies G xs l = part_at G xs l.owner l.path

-- ---- Components

abbrev pub component_type : Ground → System → ResolvedType
component_type G s = ComponentOf s (reported_members (scope G) s)

-- The component of type `s` at the location `at` begins at the word `n`. No component is in an
-- activation.
pub data ComponentLies (G : Ground) (at : Location) (s : System) (n : ℕ) : Type 0 where
  ProcessLies : at ≡ root (OfProcess G.p) → system_of_process G.setup G.p ≡ Some s → n ≡ 0 → ComponentLies G at s n
  MonitorLies : (m : ℕ) → at ≡ root (OfMonitor m) → system_of_monitor G.setup m ≡ Some s
      → n ≡ G.own + monitor_start G.program m → ComponentLies G at s n
  ClassLies : s.sort ≡ Class → lies G [] at ≡ Some (n, component_type G s) → ComponentLies G at s n

-- ---- Rights

-- `m` is a monitor of type `s`, or 0, which is no monitor.
abbrev pub IsMonitor : Ground → ℕ → System → Type 0
IsMonitor G m s = (m ≡ 0) ⊎ (system_of_monitor G.setup m ≡ Some s)

abbrev pub RightOf : Ground → System → Sort → Value → ℕ → ℤ → Type 0
RightOf G s Monitor (MonitorRight m) at n = (n ≡ monitor_word m) × IsMonitor G m s
RightOf G s Monitor Absent at n = n ≡ pos 0
RightOf G s Class (ClassRight j) at n = lies G [] j ≡ Some (natural (pos at +ℤ n), component_type G s)
RightOf G s Class Absent at n = n ≡ pos 0
RightOf G s Process v at n = Unit {0}
RightOf G s _ _ at n = ⊥

-- A right that was never set is a right to monitor 0, or to a class at the place of the right
-- itself. Neither is ever initialised.
abbrev pub RightMeans : Ground → ResolvedType → Value → ℕ → ℤ → Type 0
RightMeans G (ComponentOf s inner) v at n = RightOf G s s.sort v at n
RightMeans G t v at n = Unit {0}

abbrev pub IsGivenTo : Sort → Value → Type 0
IsGivenTo Class (ClassRight j) = Unit {0}
IsGivenTo Class _ = ⊥
IsGivenTo _ _ = Unit {0}

-- If this is a right to a class, it has been given.
abbrev pub IsGiven : ResolvedType → Value → Type 0
IsGiven (ComponentOf s inner) v = IsGivenTo s.sort v
IsGiven t v = Unit {0}

-- The component at the location has been given all its rights to classes.
abbrev pub HasRights : Ground → Store → Location → System → Type 0
HasRights G store at s =
    (m : ℕ) (x : Name) (v : Variable) → right (scope G) s x ≡ Some (m, v) → member (scope G) s x ≡ None
    → IsGiven v.type (store (under at (ByName x ∷ [])))

-- A class that begins at the word `n` has been given all its rights to classes.
abbrev pub ClassHasRights : Ground → Store → ℕ → Type 0
ClassHasRights G store n =
    (at : Location) (s : System) → s.sort ≡ Class → lies G [] at ≡ Some (n, component_type G s) → HasRights G store at s

abbrev pub AllHaveRights : Ground → Store → List ℕ → Type 0
AllHaveRights G store [] = Unit {0}
AllHaveRights G store (n ∷ ns) = ClassHasRights G store n × AllHaveRights G store ns

-- ---- What is in sight

-- Where a location is, if its owner passes the test `mine`.
abbrev pub lies_in_sight : (Owner → Bool) → Ground → List Activation → Location → Option Part
lies_in_sight mine G xs l = if mine l.owner then lies G xs l else None
