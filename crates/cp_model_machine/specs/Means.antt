-- What words mean where code runs.
use Rattle.std.specs.Prelude.{◌≡◌, ◌+◌, ℕ, ℤ, pos, suc, true, false, not, [], ◌∷◌, Option, Some, None, Result, Ok, Err}
use Rattle.cp_model.specs.Abstract.{Class, Name, Sort}
use Rattle.cp_model.specs.Types.{ComponentOf, Queue, ResolvedType, Simple}
use Rattle.cp_model.specs.Declarations as declared
use Rattle.cp_model.specs.Environments.{Environment, Frame}
use Rattle.cp_model.specs.Integers.{same_integer}
use Rattle.cp_model.specs.Locations.{ByName, Location, PathStep, under}
use Rattle.cp_model.specs.Outcomes.{Fault, Gives, Outcome}
use Rattle.cp_model.specs.Operators.{Clock, realtime}
use Rattle.cp_model.specs.Places.{Place}
use Rattle.cp_model.specs.Stores.{Initialised, Ordinal, QueueHolds, Reference, Store, Value}
use Rattle.cp_model.specs.StateViews.{fault_number}
use Rattle.cp_model.specs.declared.state.Fault as machine
use Rattle.cp_model_program.specs.Layout.{Part, local, member, natural, part}
use Rattle.cp_model_program.specs.Sites.{local_location}
use Rattle.cp_model_program.specs.Starts.{word}
use Rattle.cp_model_program.specs.TermsFor.{Knowns}
use Rattle.cp_model_machine.specs.Values.{View}

-- ---- Cells

-- The process in a queue. The number 0 represents nobody.
abbrev pub process_of_word : ℤ → Option ℕ
process_of_word (pos (suc n)) = Some (suc n)
process_of_word _ = None

abbrev pub MarkMeans : Sort → Value → ℤ → Type 0
MarkMeans Class v n = v ≡ Initialised (not (same_integer n (pos 0)))
MarkMeans _ v n = Unit {0}

-- What a value of this type means for the word in which it is.
abbrev pub CellMeans : ResolvedType → Value → ℤ → Type 0
CellMeans (Simple b low high start) v n = v ≡ Ordinal n
CellMeans Queue v n = v ≡ QueueHolds (process_of_word n)
CellMeans (ComponentOf s inner) v n = MarkMeans s.sort v n
CellMeans _ v n = Unit {0}

-- ---- Places

-- Where variables and their parts are.
abbrev pub Lying : Type 0
Lying = Location → Option Part

-- Both give the place of a variable of this type, or both have the same fault.
abbrev pub PlaceAgrees : Lying → ResolvedType → Outcome Place → Result ℕ machine.Fault → Type 0
PlaceAgrees lies t (Gives p) (Ok n) = (lies p.at ≡ Some (n, t)) × (p.type ≡ t)
PlaceAgrees lies t (Fault k) (Err f) = k ≡ fault_number f
PlaceAgrees lies t _ _ = ⊥

abbrev pub ReferenceMeans : Lying → Value → ℤ → ResolvedType → Type 0
ReferenceMeans lies v n t = (j : Location) × (v ≡ Reference j) × (lies j ≡ Some (natural n, t))

-- ---- Where code runs

-- Everything that terms and place expressions read is what the meaning finds in the environment and
-- the store.
pub record Here (env : Environment) (clock : Clock) (store : Store) (v : View) (K : Knowns) (lies : Lying) : Type 0 where
  pub clock_is : v.clock ≡ realtime clock
  pub locals : (f : Frame) (x : Name) (at : ℕ) (d : declared.Variable) → env.frame ≡ Some f
      → local env.globals f.routine x ≡ Some (at, d) → d.by_reference ≡ false
      → lies (local_location f x) ≡ Some (v.base + at, d.type)
  pub references : (f : Frame) (x : Name) (at : ℕ) (d : declared.Variable) → env.frame ≡ Some f
      → local env.globals f.routine x ≡ Some (at, d) → d.by_reference ≡ true
      → ReferenceMeans lies (store (local_location f x)) (word v.words (v.base + at)) d.type
  pub members : (x : Name) (at : ℕ) (t : ResolvedType) → member env.globals env.system x ≡ Some (at, t)
      → lies (under env.component (ByName x ∷ [])) ≡ Some (v.component + at, t)
  pub parts : (l : Location) (n m : ℕ) (t u : ResolvedType) (step : PathStep) → lies l ≡ Some (n, t)
      → part env.globals t (step ∷ []) ≡ Some (m, u) → lies (under l (step ∷ [])) ≡ Some (n + m, u)
  pub cells : (l : Location) (n : ℕ) (t : ResolvedType) → lies l ≡ Some (n, t) → CellMeans t (store l) (word v.words n)
  pub knowns : (t : ℕ) (n : ℤ) → K t n → word v.temps (v.temp + t) ≡ n
