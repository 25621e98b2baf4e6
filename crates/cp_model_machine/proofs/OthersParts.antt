-- A step of one process keeps the private states of the others right.
--
-- What the meaning keeps for another process alone is the same after the step. What remains are the
-- rights of classes that are in monitors, where the other process may be running. A right there
-- that has been given stays given, since what a monitor holds is never unset, and the store still
-- holds rights where there were rights.
use Rattle.std.proofs.Common.{◌≡◌, ℕ, ◌+◌, ℤ, Bool, true, false, List, [], ◌∷◌, Option, Some, None, refl, ap, sym, subst, ◌∙◌}
use Rattle.std.specs.Prelude.{◌≢◌, if◌then◌else◌, nat_eq}
use Rattle.std.proofs.lemmas.Bool.{eq-eqb}
use Rattle.cp_model.specs.Abstract as a
use Rattle.cp_model.specs.Abstract.{Class, Monitor, Name, Process, Sort, System}
use Rattle.cp_model.specs.Actions.{Action, Acts, Calls, action}
use Rattle.cp_model.specs.Calls.{UserCall, call_in_task, procedure_call}
use Rattle.cp_model.specs.Configurations.{StepResult}
use Rattle.cp_model.specs.Continuations.{Task}
use Rattle.cp_model.specs.Invariant.{FramesInvariant, Invariant}
use Rattle.cp_model.specs.Locations.{ByIndex, ByName, Location, OfActivation, OfMonitor, OfProcess, Owner, Path, under}
use Rattle.cp_model.specs.Outcomes.{Fault, Gives}
use Rattle.cp_model.specs.Parts.{SameKernelPart, SamePrivateState, is_own}
use Rattle.cp_model.specs.States.{Setup, State, configuration, context, with_configuration}
use Rattle.cp_model.specs.Step.{step_of}
use Rattle.cp_model.specs.Stores.{Absent, ClassRight, Store, Value}
use Rattle.cp_model.specs.Turns.{Kernel, Kind, NoStep, Private, after_step, if_kernel, kernel_step, kind, private_step, step}
use Rattle.cp_model.specs.Types.{ArrayOf, ComponentOf, NoType, Queue, RecordOf, ResolvedType, Simple}
use Rattle.cp_model.proofs.PartsKept.{kernel_turn_other_parts, private_step_kernel_part, private_step_other_parts}
use Rattle.cp_model_program.specs.Layout.{Part, farther}
use Rattle.cp_model_program.specs.Starts.{word}
use Rattle.cp_model_machine.specs.PrivateStates.{PrivateState}
use Rattle.cp_model_machine.specs.Addresses.{ClassLies, Ground, HasRights, IsGiven, IsGivenTo, OwnWords, RightMeans, RightOf, component_type, lies, part_at}
use Rattle.cp_model_machine.specs.KernelOf.{is_shared, kernel_ground}
use Rattle.cp_model_machine.specs.PartOf.{DataMeans, PartOf}
use Rattle.cp_model_machine.specs.Passing.{monitor_start}
use Rattle.cp_model_machine.proofs.Finding.{some_is_not_none}
use Rattle.cp_model_machine.proofs.Given.{KeepsGiven, rights_kept}
use Rattle.cp_model_machine.proofs.Layouts.{farther_some}
use Rattle.cp_model_machine.proofs.NeverUnset.{IfActs, IsSet, KeepsSet, SetStill, action_keeps}
use Rattle.cp_model_machine.proofs.OthersKept.{effect_store}
use Rattle.cp_model_machine.proofs.Owned.{component_part}
use Rattle.cp_model_machine.proofs.PartsBeside.{part_beside}

-- ---- what a monitor holds

action_frames : (p : ℕ) (store : Store) (k : List Task) → FramesInvariant p store k → IfActs (λ i l. FramesInvariant p store (i ∷ l)) (action k)
action_frames p store [] I = tt
action_frames p store (i ∷ k) I = by (call_in_task (a.Literal 0) i)
  where
    inner : (u : Option UserCall) → IfActs (λ j l. FramesInvariant p store (j ∷ l)) (elim u as (λ x. Action) [ Some v ↦ Calls v k | None ↦ Acts i k ])
    inner None = I
    inner (Some u) = tt

    by : (f : Option (UserCall × Task))
        → IfActs (λ j l. FramesInvariant p store (j ∷ l)) (elim f as (λ x. Action) [ Some v ↦ Calls v.0 (i ∷ k) | None ↦ elim (procedure_call i) [ Some u ↦ Calls u k | None ↦ Acts i k ] ])
    by None = inner (procedure_call i)
    by (Some f) = tt

step_keeps_set : (setup : Setup) (s : State) (p : ℕ) → Invariant s → KeepsSet s.store (step setup s p).store
step_keeps_set setup s p I = by (step_of (context setup s p) (configuration s p)) still
  where
    still : SetStill s.store (step_of (context setup s p) (configuration s p))
    still = action_keeps (context setup s p) (configuration s p) p (action (s.continuation p)) (action_frames p s.store (s.continuation p) (I.continuations p).frames)

    by : (x : StepResult) → SetStill s.store x → KeepsSet s.store (after_step s p x).store
    by (Fault n) h l m owner set = set
    by (Gives x) h l m owner set = subst (λ (st : Store). IsSet (st l)) (sym (effect_store p x.1 (with_configuration s p x.0))) (h l m owner set)

kernel_keeps_set : (setup : Setup) (s : State) (p : ℕ) → Invariant s → KeepsSet s.store (kernel_step setup s p).store
kernel_keeps_set setup s p I = by (kind s p)
  where
    by : (x : Kind) → KeepsSet s.store (if_kernel x (step setup s p) s).store
    by Kernel = step_keeps_set setup s p I
    by Private = λ l m owner set. set
    by NoStep = λ l m owner set. set

-- ---- rights that were given

-- A right that has been set is still set.
given_still : (G : Ground) (t : ResolvedType) (v w : Value) (at : ℕ) (n : ℤ) → RightMeans G t w at n → (IsSet v → IsSet w) → IsGiven t v → IsGiven t w
given_still G (ComponentOf s inner) v w at n means set given = by s.sort means given
  where
    class_given : (x : Value) → IsGivenTo Class x → IsSet x
    class_given (ClassRight j) h = tt
    class_given _ h = absurd h

    of_class : (x : Value) → RightOf G s Class x at n → IsSet x → IsGivenTo Class x
    of_class (ClassRight j) h set = tt
    of_class Absent h set = absurd set
    of_class _ h set = absurd h

    by : (z : Sort) → RightOf G s z w at n → IsGivenTo z v → IsGivenTo z w
    by Class h g = of_class w h (set (class_given v g))
    by Monitor h g = tt
    by Process h g = tt
given_still G (Simple b low high start) v w at n means set given = tt
given_still G (ArrayOf low high t) v w at n means set given = tt
given_still G (RecordOf ms) v w at n means set given = tt
given_still G Queue v w at n means set given = tt
given_still G NoType v w at n means set given = tt

module _ (G : Ground) (store after : Store) (same : (l : Location) → is_own G.p l.owner ≡ true → after l ≡ store l)
    (shared : (at : Location) (s : System) (m k : ℕ) → at.owner ≡ OfMonitor m → s.sort ≡ Class → lies (kernel_ground G.program G.texts G.setup) [] at ≡ Some (k, component_type G s) → HasRights G store at s → HasRights G after at s) where
  abbrev shared_ground : Ground
  shared_ground = kernel_ground G.program G.texts G.setup

  -- A class is in the process itself, or in a monitor.
  pub given_beside : KeepsGiven G store after
  given_beside at s n sort is has = by at.owner at.path refl refl is
    where
      t : ResolvedType
      t = component_type G s

      nowhere : (b : Bool) (o : Option Part) → o ≡ None → (if b then o else None) ≡ Some (n, t) → ⊥
      nowhere true o none e = some_is_not_none _ (sym e ∙ none)
      nowhere false o none e = some_is_not_none _ (sym e)

      by : (o : Owner) (q : Path) → at.owner ≡ o → at.path ≡ q → part_at G [] o q ≡ Some (n, t) → HasRights G after at s
      by o [] e f h = absurd (some_is_not_none _ (sym h))
      by o (ByIndex i ∷ q) e f h = absurd (some_is_not_none _ (sym h))
      by (OfProcess r) (ByName x ∷ q) e f h = λ m y v found none.
          subst (IsGiven v.type) (sym (same (under at (ByName y ∷ [])) (ap (is_own G.p) e ∙ eq-eqb G.p r (component_part G [] r x q n t h).0))) (has m y v found none)
      by (OfActivation r d) (ByName x ∷ q) e f h = absurd (nowhere (nat_eq G.p r) None refl h)
      by (OfMonitor m) (ByName x ∷ q) e f h =
          let z = farther_some (G.own + monitor_start G.program m) _ n t h in
          shared at s m (0 + monitor_start G.program m + z.0) e sort ((λ i. part_at shared_ground [] (e i) (f i)) ∙ ap (farther (0 + monitor_start G.program m)) z.1) has

-- A right of a monitor's class is still a right, if the store is right for the shared words.
rights_still : (G : Ground) (store after : Store) (us : List ℤ) → DataMeans (kernel_ground G.program G.texts G.setup) [] is_shared after us → KeepsSet store after
    → (at : Location) (s : System) (m k : ℕ) → at.owner ≡ OfMonitor m → s.sort ≡ Class → lies (kernel_ground G.program G.texts G.setup) [] at ≡ Some (k, component_type G s) → HasRights G store at s → HasRights G after at s
rights_still G store after us D set at s m k owner sort is has i x v found none =
    given_still (kernel_ground G.program G.texts G.setup) v.type (store l) (after l) (k + i) (word us (k + i)) (D.rights at s k i x v (ap is_shared owner) (ClassLies sort is) found none) (set l m owner) (has i x v found none)
  where
    l : Location
    l = under at (ByName x ∷ [])

-- ---- steps of others

module _ (G : Ground) (sight : G.sight ≡ OwnWords) (s : State) (before : List ℕ) (o : PrivateState) (I : Invariant s) (p : ℕ) (other : p ≢ G.p) (P : PartOf G s before o) where
  -- A kernel step of `p`, after which the shared words mean what the store holds for the monitors.
  pub kernel_step_beside : (us : List ℤ) → DataMeans (kernel_ground G.program G.texts G.setup) [] is_shared (kernel_step G.setup s p).store us → PartOf G (kernel_step G.setup s p) before o
  kernel_step_beside us D =
      part_beside G s (kernel_step G.setup s p) before o sight S
      (λ begun. given_beside G s.store (kernel_step G.setup s p).store (S.store begun) (rights_still G s.store (kernel_step G.setup s p).store us D (kernel_keeps_set G.setup s p I))) P
    where
      S : SamePrivateState G.p s (kernel_step G.setup s p)
      S = kernel_turn_other_parts G.setup 1 G.p p s other I

  -- A private step of p touches no monitor.
  pub private_step_beside : PartOf G (private_step G.setup s p) before o
  private_step_beside =
      part_beside G s (private_step G.setup s p) before o sight S
      (λ begun. given_beside G s.store (private_step G.setup s p).store (S.store begun)
      (λ at y m k owner sort is. rights_kept G s.store (private_step G.setup s p).store at y (λ i x v found none. K.monitor_store (under at (ByName x ∷ [])) m owner))) P
    where
      S : SamePrivateState G.p s (private_step G.setup s p)
      S = private_step_other_parts G.setup G.p p s other I

      K : SameKernelPart s (private_step G.setup s p)
      K = private_step_kernel_part G.setup p s I
