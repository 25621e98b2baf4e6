-- When a private state, as plain data, is that of its process in a state of the system.
use Rattle.std.specs.Prelude.{◌≡◌, ◌≤◌, ℕ, ◌+◌, ℤ, Bool, true, List, [], ◌∷◌, ◌++◌, Option, Some, None, length, map}
use Rattle.cp_model.specs.Abstract.{Class, Name, System}
use Rattle.cp_model.specs.Types.{ResolvedType}
use Rattle.cp_model.specs.Declarations as declared
use Rattle.cp_model.specs.Environments.{Frame}
use Rattle.cp_model.specs.Locations.{ByName, Location, Owner, under}
use Rattle.cp_model.specs.Stores.{Absent, Ordinal, Store, Value}
use Rattle.cp_model.specs.Continuations.{EndBody, EndCall, Task, marked_monitors}
use Rattle.cp_model.specs.CallSteps.{is_initialised, result_location}
use Rattle.cp_model.specs.Parts.{Failed, Finished, HasBegun, NotBegun, PrivateStatus, Running, Sleeping, private_status}
use Rattle.cp_model.specs.States.{State}
use Rattle.cp_model.specs.StateViews.{fault_number}
use Rattle.cp_model_program.specs.Layout.{local, member, right}
use Rattle.cp_model_program.specs.Programs.{Call, Function}
use Rattle.cp_model_program.specs.Sites.{local_location, operation_at}
use Rattle.cp_model_program.specs.Starts.{unset, word}
use Rattle.cp_model_machine.specs.PrivateStates as machine
use Rattle.cp_model_machine.specs.PrivateStates.{Activity, PrivateState}
use Rattle.cp_model_machine.specs.Means.{CellMeans, ReferenceMeans}
use Rattle.cp_model_machine.specs.Addresses.{Activation, AllHaveRights, ComponentLies, Ground, HasRights, RightMeans, activations, component_type, in_sight, lies, scope, whole}
use Rattle.cp_model_machine.specs.Remaining as left
use Rattle.cp_model_machine.specs.Remaining.{Remaining, Runs, held_below, innermost_gate}

-- ---- Activations

abbrev pub ResultMeans : Value → ℤ → Type 0
ResultMeans Absent n = n ≡ unset
ResultMeans (Ordinal m) n = (n ≡ m) × (n ≡ unset → ⊥)
ResultMeans _ n = ⊥

-- The `var` parameters and the result of one activation, where `xs` has the activations of its
-- callers.
pub record ActivationMeans (G : Ground) (xs : List Activation) (store : Store) (words : List ℤ) (base : ℕ) (f : Frame) : Type 0 where
  pub references : (x : Name) (at : ℕ) (d : declared.Variable) → local (scope G) f.routine x ≡ Some (at, d)
      → d.by_reference ≡ true → ReferenceMeans (lies G xs) (store (local_location f x)) (word words (base + at)) d.type
  pub result : (t : Name) → f.routine.result ≡ Some t → local (scope G) f.routine f.routine.name ≡ None
      → ResultMeans (store (result_location f)) (word words base)

abbrev pub IfFrame : Option Frame → (Frame → Type 0) → Type 0
IfFrame None A = Unit {0}
IfFrame (Some f) A = A f

abbrev pub ActivationsMean : Ground → Store → List ℤ → ℕ → List machine.Frame → List Task → Type 0
ActivationsMean G store words base fs [] = Unit {0}
ActivationsMean G store words base fs (EndCall env gate ∷ k) = elim fs [
  | [] ↦ Unit {0}
  | f ∷ gs ↦
      IfFrame env.frame (ActivationMeans G (activations f.base gs k) store words base)
      × ActivationsMean G store words f.base gs k
]
ActivationsMean G store words base fs (EndBody gate ∷ k) = elim fs [
  | [] ↦ Unit {0}
  | f ∷ gs ↦ ActivationsMean G store words f.base gs k
]
ActivationsMean G store words base fs (_ ∷ k) = ActivationsMean G store words base fs k

-- ---- Variables and rights

-- The variables and rights of the owners that pass the test `mine`. A member hides a right with the
-- same name. A class that is initialised has been given its rights.
pub record DataMeans (G : Ground) (xs : List Activation) (mine : Owner → Bool) (store : Store) (words : List ℤ) : Type 0 where
  pub cells : (l : Location) (n : ℕ) (t : ResolvedType) → mine l.owner ≡ true → lies G xs l ≡ Some (n, t)
      → CellMeans t (store l) (word words n)
  pub rights : (at : Location) (s : System) (n m : ℕ) (x : Name) (v : declared.Variable) → mine at.owner ≡ true
      → ComponentLies G at s n → right (scope G) s x ≡ Some (m, v) → member (scope G) s x ≡ None
      → RightMeans G v.type (store (under at (ByName x ∷ []))) (n + m) (word words (n + m))
  pub given : (at : Location) (s : System) (n : ℕ) → mine at.owner ≡ true → s.sort ≡ Class
      → lies G [] at ≡ Some (n, component_type G s) → is_initialised (store at) ≡ true → HasRights G store at s

-- ---- The private state

-- A function call at the operation `place` puts its value into a temp after the `live` temps in use.
abbrev pub CallsBehind : Ground → ℕ → ℕ → Type 0
CallsBehind G live place =
    (call : Call) (into next : ℕ) → operation_at G.program place ≡ Some (Function call into next) → live ≤ into

-- The registers, the temps and the frames of a process.
pub record Control : Type 0 where
  pub counter : ℕ
  pub base : ℕ
  pub temp : ℕ
  pub component : ℕ
  pub gate : ℕ
  pub temps : List ℤ
  pub frames : List machine.Frame
  pub limit : ℕ

abbrev pub control : PrivateState → Control
control o = record {
  counter = o.counter;
  base = o.base;
  temp = o.temp;
  component = o.component;
  gate = o.gate;
  temps = o.temps;
  frames = o.frames;
  limit = o.limit;
}

-- Where a process runs: its registers are those of the running unit, and what its counter, temps
-- and frames represent is what is left to do.
pub record RunsAt (G : Ground) (c : Control) (k : List Task) : Type 0 where
  pub running : left.Running
  pub runs : Runs G (length c.temps) c.limit running c.frames
  pub base : c.base ≡ running.base
  pub temp : c.temp ≡ running.temp
  pub component : c.component ≡ running.component
  pub gate : c.gate ≡ innermost_gate (marked_monitors k)
  pub live : ℕ
  pub left : Remaining G c.temps c.limit (held_below live c.temps running.temp) running c.frames c.counter running.unit.temps k
  pub next_value : CallsBehind G live c.counter

-- Where the components of the running routine and of its callers begin.
abbrev pub components : ℕ → List machine.Frame → List ℕ
components component fs = component ∷ map (λ f. f.component) fs

-- What the words of a process mean: its activations, its variables and its rights.
pub record WordsMean (G : Ground) (store : Store) (words : List ℤ) (base component : ℕ) (fs : List machine.Frame) (k : List Task) : Type 0 where
  pub count : length words ≡ whole G
  pub activations_mean : ActivationsMean G store words base fs k
  pub data_means : DataMeans G (activations base fs k) (in_sight G) store words
  pub given : AllHaveRights G store (components component fs)

-- The private state of a process that runs or will run again: it has what is left to do, its
-- variables and its rights.
pub record RunsOn (G : Ground) (store : Store) (o : PrivateState) (k : List Task) : Type 0 where
  pub at : RunsAt G (control o) k
  pub open at use *
  pub words_mean : WordsMean G store o.words o.base o.component o.frames k
  pub open words_mean use *

-- The process runs or will run again.
abbrev pub IsActive : Activity → Type 0
IsActive machine.Running = Unit {0}
IsActive machine.Waiting = Unit {0}
IsActive _ = ⊥

abbrev pub status_of : Activity → PrivateStatus
status_of machine.NotBegun = NotBegun
status_of machine.Running = Running
status_of machine.Waiting = Sleeping
status_of machine.Ended = Finished
status_of (machine.Faulted f) = Failed (fault_number f)

-- `o` is the private state of the process `G.p` in the state `s`. `before` is the part of its
-- transcript that has already been taken from `o`. The words of `o` are those in reach.
pub record PartOf (G : Ground) (s : State) (before : List ℕ) (o : PrivateState) : Type 0 where
  pub number : o.number ≡ G.p
  pub input : o.input ≡ G.setup.inputs G.p
  pub consumed : o.consumed ≡ s.consumed G.p
  pub transcript : s.transcript G.p ≡ before ++ o.output
  pub status : private_status (s.status G.p) ≡ status_of o.activity
  pub count : length o.words ≡ whole G
  pub data_means : HasBegun (private_status (s.status G.p))
      → DataMeans G (activations o.base o.frames (s.continuation G.p)) (in_sight G) s.store o.words
  pub runs_on : IsActive o.activity → RunsOn G s.store o (s.continuation G.p)
