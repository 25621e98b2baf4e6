-- When the number of an operation, together with frames, is what a process has left to do.
--
-- The first task of the process or of a waiting caller can contain the values of calls that have
-- been made, and temps hold these values. A call keeps only the temps below its own first temp. So
-- nothing is said of the other temps of a waiting caller: they have the values of the call's
-- arguments, which are of no use once the call is entered. The tasks after the first one contain no
-- values except the counters of `for`.
use Rattle.std.specs.Prelude.{◌≡◌, ◌≤◌, ◌<◌, ℕ, ◌+◌, ℤ, Bool, List, [], ◌∷◌, Option, Some, None, length, slice_get}
use Rattle.cp_model.specs.Abstract as a
use Rattle.cp_model.specs.Abstract.{BaseType, Name, System}
use Rattle.cp_model.specs.Environments.{Environment, Frame}
use Rattle.cp_model.specs.Locations.{OfActivation}
use Rattle.cp_model.specs.Continuations.{Do, EndBody, EndCall, EndProcess, ForNext, RepeatTest, Task, WhileTest, depth, marked_monitors}
use Rattle.cp_model_program.specs.Terms.{Term}
use Rattle.cp_model_program.specs.Programs as op
use Rattle.cp_model_program.specs.Programs.{Call, CodeUnit, Counting}
use Rattle.cp_model_program.specs.Layout.{component_words}
use Rattle.cp_model_program.specs.Sites.{BodyOf, RoutineOf, Site, UnitText, operation_at}
use Rattle.cp_model_program.specs.Starts.{word}
use Rattle.cp_model_program.specs.TermsFor.{Knowns, TermFor, nothing_known}
use Rattle.cp_model_program.specs.StatementsFor.{CodeFor, Counts, is_function, represents_at}
use Rattle.cp_model_program.specs.IsProgramFor.{site_of, system_of_monitor, system_of_process, system_of_unit}
use Rattle.cp_model_machine.specs.PrivateStates as machine
use Rattle.cp_model_machine.specs.Addresses.{ComponentLies, Ground, scope}

-- ---- What runs

-- The unit that runs, the environment, and where its activation, its temps and its component begin.
pub record Running : Type 0 where
  pub number : ℕ
  pub unit : CodeUnit
  pub text : UnitText
  pub env : Environment
  pub base : ℕ
  pub temp : ℕ
  pub component : ℕ

abbrev pub site : Ground → Running → Site
site G R = site_of G.program G.texts R.unit R.text R.env

abbrev pub FrameFor : UnitText → Option Frame → Type 0
FrameFor (RoutineOf s r) (Some f) = f.routine ≡ r
FrameFor (BodyOf s) None = Unit {0}
FrameFor _ _ = ⊥

-- There are `temps` temps and `limit` frames, and the frames `fs` are in use. The running unit is
-- that of its number, and it has room whatever it calls.
pub record Runs (G : Ground) (temps limit : ℕ) (R : Running) (fs : List machine.Frame) : Type 0 where
  pub unit : slice_get G.program.units R.number ≡ Some R.unit
  pub text : slice_get G.texts R.number ≡ Some R.text
  pub globals : R.env.globals ≡ scope G
  pub system : R.env.system ≡ system_of_unit R.text
  pub frame : FrameFor R.text R.env.frame
  pub component : ComponentLies G R.env.component R.env.system R.component
  pub words_fit : R.base + R.unit.words ≤ G.own
  pub temps_fit : R.temp + R.unit.temps ≤ temps
  pub frames_fit : length fs + R.unit.frames ≤ limit
  pub activation_fits : (site G R).words ≤ R.unit.words

-- ---- What temps hold

-- Temp number `t`, counted from `temp`, holds `n`.
abbrev pub temps_hold : List ℤ → ℕ → Knowns
temps_hold temps temp t n = word temps (temp + t) ≡ n

-- What the first `live` temps hold, which are in use.
abbrev pub held_below : ℕ → List ℤ → ℕ → Knowns
held_below live temps temp t n = (t < live) × temps_hold temps temp t n

-- The first `live` temps were in use at a call, which keeps the first `kept` temps. Nothing is said
-- of the others.
abbrev pub kept_below : ℕ → ℕ → List ℤ → ℕ → Knowns
kept_below kept live temps temp t n = (t < live) × (t < kept → temps_hold temps temp t n)

-- ---- Tasks

abbrev pub IsTask : a.Statement → Type 0
IsTask a.Nothing = ⊥
IsTask (a.Seq s t) = ⊥
IsTask (a.While e s) = ⊥
IsTask (a.Repeat s e) = ⊥
IsTask _ = Unit {0}

-- The loops with a test. A `while` continues where the test is true, and a `repeat` where it is false.
pub data Loop : Type 0 where
  While Repeat : Loop

-- What comes at a true test, where `on` continues with the loop and `off` ends it. At a false test it
-- is the other one.
abbrev pub at_true : {A : Type 0} → Loop → (on off : A) → A
at_true While on off = on
at_true Repeat on off = off

-- The rest of the test of a loop, for which some calls may have been made, and the whole loop.
pub record LoopRemaining (loop : Loop) (s : Site) (K : Knowns) (now e : a.Expression) (body : a.Statement) (place next low : ℕ) : Type 0 where
  pub start : ℕ
  pub last : ℕ
  pub way : ℕ
  pub term : Term
  pub base : BaseType
  pub test : represents_at s last (op.Test term (at_true loop way next) (at_true loop next way))
  pub rest : TermFor s K now term base place last low s.unit.temps
  pub whole : TermFor s nothing_known e term base start last low s.unit.temps
  pub again : CodeFor s nothing_known body way start low

-- The counter and the last value of a `for` are in two temps.
pub record ForRemaining (s : Site) (temps : List ℤ) (temp : ℕ) (x : Name) (down : Bool) (n last : ℤ) (body : a.Statement) (place next low : ℕ) : Type 0 where
  pub counting : Counting
  pub test : represents_at s place (op.ForNext counting)
  pub counts : Counts s x down counting next low
  pub counter : temps_hold temps temp low n
  pub last_is : temps_hold temps temp (low + 1) last
  pub again : CodeFor s nothing_known body counting.body place (low + 2)

-- ---- Callers

abbrev pub gate_number : Option ℕ → ℕ
gate_number None = 0
gate_number (Some m) = m

abbrev pub innermost_gate : List ℕ → ℕ
innermost_gate [] = 0
innermost_gate (m ∷ ms) = m

-- A gate is that of a monitor of the text.
abbrev pub IsGate : Ground → Option ℕ → Type 0
IsGate G None = Unit {0}
IsGate G (Some m) = (s : System) × (system_of_monitor G.setup m ≡ Some s)

-- A frame keeps the gate that its end mark names, and the gate that is held after the return.
abbrev pub GatesKept : Ground → machine.Frame → Option ℕ → List Task → Type 0
GatesKept G f gate k = (f.gate ≡ gate_number gate) × (f.held ≡ innermost_gate (marked_monitors k)) × IsGate G gate

-- A frame keeps the registers of the caller. The activation and the kept temps of the caller end
-- before those of the running unit begin.
pub record Keeps (G : Ground) (f : machine.Frame) (C R : Running) (kept : ℕ) : Type 0 where
  pub base : f.base ≡ C.base
  pub temp : f.temp ≡ C.temp
  pub component : f.component ≡ C.component
  pub words_apart : C.base + (site G C).words ≤ R.base
  pub temps_apart : C.temp + kept ≤ R.temp
  pub kept_fit : kept ≤ C.unit.temps

-- The caller waits for a value, which its call puts into a temp after those in use, or it continues
-- after the call, with no temps in use.
abbrev pub CallerAt : Ground → ℕ → ℕ → ℕ → Option Name → machine.Frame → ℕ → Type 0
CallerAt G n kept live None f place = (place ≡ f.counter) × (live ≡ 0)
CallerAt G n kept live (Some t) f place =
    (call : Call) × (into : ℕ) × (call.routine ≡ n) × (call.temps ≡ kept) × (live ≤ into)
    × (operation_at G.program place ≡ Some (op.Function call into f.counter)) × (f.into ≡ into)

abbrev pub result_of : Option Frame → Option Name
result_of None = None
result_of (Some f) = f.routine.result

-- The running routine has the activation of this depth, and it returns at the operation `place`.
pub record ReturnsAt (G : Ground) (R : Running) (place depth_is : ℕ) : Type 0 where
  pub frame : Frame
  pub runs : R.env.frame ≡ Some frame
  pub owner : frame.owner ≡ OfActivation G.p depth_is
  pub return : operation_at G.program place ≡ Some (op.Return (is_function frame.routine.result))

-- ---- All tasks

-- What is left to do from the operation `place` on, in the running unit, whose temps in use are
-- below `low`. `K` is what they are known to hold for the first task.
abbrev pub Remaining : Ground → List ℤ → ℕ → Knowns → Running → List machine.Frame → ℕ → ℕ → List Task → Type 0
Remaining G temps limit K R fs place low [] = ⊥
Remaining G temps limit K R fs place low (Do s e ∷ k) =
    (e ≡ R.env) × IsTask s × ((next : ℕ) × (from : ℕ) × (from ≤ low)
    × CodeFor (site G R) K s place next from × Remaining G temps limit nothing_known R fs next from k)
Remaining G temps limit K R fs place low (WhileTest now e s env ∷ k) =
    (env ≡ R.env) × ((next : ℕ) × (from : ℕ) × (from ≤ low)
    × LoopRemaining While (site G R) K now e s place next from × Remaining G temps limit nothing_known R fs next from k)
Remaining G temps limit K R fs place low (RepeatTest now s e env ∷ k) =
    (env ≡ R.env) × ((next : ℕ) × (from : ℕ) × (from ≤ low)
    × LoopRemaining Repeat (site G R) K now e s place next from × Remaining G temps limit nothing_known R fs next from k)
Remaining G temps limit K R fs place low (ForNext x down n last s env ∷ k) =
    (env ≡ R.env) × ((next : ℕ) × (from : ℕ) × (from + 2 ≤ low)
    × ForRemaining (site G R) temps R.temp x down n last s place next from × Remaining G temps limit nothing_known R fs next from k)
Remaining G temps limit K R (f ∷ fs) place low (EndCall env gate ∷ k) =
    (env ≡ R.env) × ReturnsAt G R place (depth k) × GatesKept G f gate k
    × ((C : Running) × (at : ℕ) × (kept : ℕ) × (live : ℕ) × Runs G (length temps) limit C fs × Keeps G f C R kept
    × CallerAt G R.number kept live (result_of R.env.frame) f at
    × Remaining G temps limit (kept_below kept live temps C.temp) C fs at kept k)
Remaining G temps limit K R (f ∷ fs) place low (EndBody gate ∷ k) =
    (R.env.frame ≡ None) × (operation_at G.program place ≡ Some op.EndBody) × GatesKept G f gate k
    × ((C : Running) × (kept : ℕ) × Runs G (length temps) limit C fs × Keeps G f C R kept
    × Remaining G temps limit nothing_known C fs f.counter kept k)
Remaining G temps limit K R fs place low (EndProcess ∷ k) =
    (R.env.frame ≡ None) × (k ≡ []) × (fs ≡ []) × (operation_at G.program place ≡ Some op.End)
    × ((s : System) × (system_of_process G.setup G.p ≡ Some s) × (component_words (scope G) s ≤ R.base))
Remaining G temps limit K R [] place low (EndCall env gate ∷ k) = ⊥
Remaining G temps limit K R [] place low (EndBody gate ∷ k) = ⊥
