-- What the reading calls of a machine report is that part of each state in which the machine is.
use Rattle.std.proofs.Common.{◌≡◌, ◌≤◌, ◌<◌, ◌+◌, ◌-◌, ◌++◌, ◌∙◌, ◌^◌, lit<, ℕ, ℤ, true, List, [], ◌∷◌, None, Some, length, refl, ap, sym, subst, arith}
use Rattle.std.specs.Prelude.{slice_get}
use Rattle.std.proofs.lemmas.Bool.{eq-eqb}
use Rattle.cp_model.specs.Configurations as status
use Rattle.cp_model.specs.Configurations.{Status}
use Rattle.cp_model.specs.Locations.{ByIndex, ByName, OfProcess, Path}
use Rattle.cp_model.specs.Parts as parts
use Rattle.cp_model.specs.Parts.{HasBegun, PrivateStatus, private_status}
use Rattle.cp_model.specs.States.{Gate, Setup, State, process_count}
use Rattle.cp_model.specs.Stores as store
use Rattle.cp_model.specs.StateViews.{fault_number}
use Rattle.cp_model.specs.Types.{ArrayOf, ComponentOf, NoType, Queue, RecordOf, ResolvedType, Simple}
use Rattle.cp_model_program.specs.Programs.{Program}
use Rattle.cp_model_program.specs.IsProgramFor.{IsProgramFor}
use Rattle.cp_model_program.specs.Starts.{word}
use Rattle.cp_model_machine.specs.Addresses.{Activation, Ground, in_sight, lies, sees, OwnWords}
use Rattle.cp_model_machine.specs.InState.{IsIn}
use Rattle.cp_model_machine.specs.KernelOf.{StageMeans, kernel_ground}
use Rattle.cp_model_machine.specs.KernelSteps.{Asking, Begun, Delayed, Fresh, SchedulingState, Unstarted, gate_of, stage_of}
use Rattle.cp_model_machine.specs.Laws.{ground_of}
use Rattle.cp_model_machine.specs.Machines.{transcript_of}
use Rattle.cp_model_machine.specs.Means.{CellMeans}
use Rattle.cp_model_machine.specs.PartOf.{DataMeans, status_of}
use Rattle.cp_model_machine.specs.Passing.{monitor_start}
use Rattle.cp_model_machine.specs.PrivateStates as machine
use Rattle.cp_model_machine.specs.PrivateStates.{Activity, PrivateState}
use Rattle.cp_inspect.specs.Values.{value_in}
use Rattle.cp_private.specs.declared.private.Private.{Private}
use Rattle.cp_rounds_handoff.specs.Numbers.{AreNumbered}
use Rattle.cp_rounds_handoff.proofs.Lists.{got_at, none_some}
use Rattle.cp_rounds.specs.Gates.{ShowsAskers, ShowsHolder}
use Rattle.cp_rounds.specs.ProcessStates.{ShowsState, ShowsTranscript, StatusMeans, activity_at, state_at, state_of}
use Rattle.cp_rounds.specs.Values.{IsKindOf, IsOwner, IsValue, LiesAt, ShowsValue, location_of, value_at, word_of}
use Rattle.cp_rounds.specs.Views.{machine_of, output_of, words_of}
use Rattle.cp_rounds.specs.declared.machine.Machine.{Machine}
use Rattle.cp_inspect.specs.declared.place.Kind.{Kind}
use Rattle.cp_inspect.specs.declared.place.Kind.TheVariants as kind
use Rattle.cp_inspect.specs.declared.place.Owner.{Owner}
use Rattle.cp_inspect.specs.declared.place.Owner.TheVariants as owner
use Rattle.cp_inspect.specs.declared.place.Place.{Place}

-- ---- Processes

-- The numbers of processes have 31 bits, so there are not more processes.
pub few_numbered : (xs : List Private) → AreNumbered xs → length xs < 2 ^ 31
few_numbered [] numbers = lit< tt
few_numbered (x ∷ xs) numbers =
    let y = got_at (x ∷ xs) (length xs) (Prim.omega arith) in
    let number = numbers (length xs) y.0 y.1 in
    let small = y.0.facts.0 in
    Prim.omega (arith, number, small)

-- The status of a process, case by case, by what the kernel knows and by its activity.
status_shown : (G : Ground) (x : Status) (y : SchedulingState) (a : Activity) → StageMeans G x y → private_status x ≡ status_of a → StatusMeans G x (state_of y a)
status_shown G status.Unstarted Unstarted a h e = tt
status_shown G status.Fresh Fresh a h e = tt
status_shown G (status.Asking m) (Asking k) a h e = h
status_shown G (status.Delayed m q) (Delayed k n) a h e = h
status_shown G status.Ready Begun a h e = by a e
  where
    by : (z : Activity) → ◌≡◌ {A = PrivateStatus} parts.Running (status_of z) → StatusMeans G status.Ready (state_of Begun z)
    by machine.Running e = tt
    by machine.NotBegun e = absurd (cc)
    by machine.Waiting e = absurd (cc)
    by machine.Ended e = absurd (cc)
    by (machine.Faulted f) e = absurd (cc)
status_shown G status.Ended Begun a h e = by a e
  where
    by : (z : Activity) → ◌≡◌ {A = PrivateStatus} parts.Finished (status_of z) → StatusMeans G status.Ended (state_of Begun z)
    by machine.Ended e = tt
    by machine.NotBegun e = absurd (cc)
    by machine.Running e = absurd (cc)
    by machine.Waiting e = absurd (cc)
    by (machine.Faulted f) e = absurd (cc)
status_shown G status.Waiting Begun a h e = by a e
  where
    by : (z : Activity) → ◌≡◌ {A = PrivateStatus} parts.Sleeping (status_of z) → StatusMeans G status.Waiting (state_of Begun z)
    by machine.Waiting e = tt
    by machine.NotBegun e = absurd (cc)
    by machine.Running e = absurd (cc)
    by machine.Ended e = absurd (cc)
    by (machine.Faulted f) e = absurd (cc)
status_shown G (status.Faulted n) Begun a h e = by a e
  where
    number : (j k : ℕ) → ◌≡◌ {A = PrivateStatus} (parts.Failed j) (parts.Failed k) → j ≡ k
    number j k e = ap (λ y. elim y as (λ z. ℕ) [ parts.Failed i ↦ i | parts.NotBegun ↦ j | parts.Running ↦ j | parts.Finished ↦ j | parts.Sleeping ↦ j ]) e

    by : (z : Activity) → ◌≡◌ {A = PrivateStatus} (parts.Failed n) (status_of z) → StatusMeans G (status.Faulted n) (state_of Begun z)
    by (machine.Faulted f) e = number n (fault_number f) e
    by machine.NotBegun e = absurd (cc)
    by machine.Running e = absurd (cc)
    by machine.Waiting e = absurd (cc)
    by machine.Ended e = absurd (cc)
status_shown G _ _ a h e = absurd h

-- The private state of a process of the text.
there : (m : Machine) (setup : Setup) (s : State) → IsIn (machine_of m) setup s → (p : ℕ) → 1 ≤ p → p ≤ process_count setup
    → (o : PrivateState) × (slice_get (machine_of m).parts (p - 1) ≡ Some o)
there m setup s I p first last =
    let count = I.part_count in
    got_at (machine_of m).parts (p - 1) (Prim.omega (arith, first, last, count))

status_is : (m : Machine) (p : ℕ) (setup : Setup) (s : State) (I : IsIn (machine_of m) setup s) → 1 ≤ p → p ≤ process_count setup
    → StatusMeans (kernel_ground (machine_of m).program I.represents.texts setup) (s.status p) (state_at (machine_of m) p)
status_is m p setup s I first last =
    let o = there m setup s I p first last in
    let G = kernel_ground (machine_of m).program I.represents.texts setup in
    let stage = stage_of (machine_of m).kernel.stages p in
    let count = I.kernel.gates_represent.stage_count in
    let seen : activity_at (machine_of m) p ≡ o.0.activity = ap (λ r. elim r as (λ x. Activity) [ None ↦ machine.Ended | Some q ↦ q.activity ]) o.1 in
    subst (λ a. StatusMeans G (s.status p) (state_of stage a)) (sym seen)
    (status_shown G (s.status p) stage o.0.activity (I.kernel.gates_represent.stages p first (Prim.omega (arith, last, count))) (I.parts p o.0 first o.1).part.status)

pub state_shown : (m : Machine) (p : ℕ) → ShowsState m p (state_at (machine_of m) p)
state_shown m p = record { shows = status_is m p }

pub transcript_shown : (m : Machine) (p : ℕ) → ShowsTranscript m p (transcript_of (machine_of m).transcripts p) (output_of (machine_of m) p)
transcript_shown m p = record {
  shows = λ setup s I first last.
      let o = there m setup s I p first last in
      let held : output_of (machine_of m) p ≡ o.0.output = ap (λ r. elim r as (λ x. List ℕ) [ None ↦ [] | Some q ↦ q.output ]) o.1 in
      (I.parts p o.0 first o.1).part.transcript ∙ ap (λ w. transcript_of (machine_of m).transcripts p ++ w) (sym held);
}

-- ---- Gates

pub holder_shown : (m : Machine) (k : ℕ) → ShowsHolder m k (gate_of (machine_of m).kernel.gates k).holder
holder_shown m k setup s I = sym (ap (λ (g : Gate). g.holder) (I.kernel.gates_represent.gates k))

pub askers_shown : (m : Machine) (k : ℕ) → ShowsAskers m k (gate_of (machine_of m).kernel.gates k).askers
askers_shown m k setup s I = sym (ap (λ (g : Gate). g.askers) (I.kernel.gates_represent.gates k))

-- ---- Values

-- No variable of a process is in an activation, so it is alike whatever the process runs.
lies_alike : (program : Program) (setup : Setup) (F : IsProgramFor program setup) (p own : ℕ) (xs : List Activation) (path : Path) (at : ℕ) (t : ResolvedType)
    → lies (ground_of program setup F p 0) [] (location_of (owner.Process p) path) ≡ Some (at, t)
    → lies (ground_of program setup F p own) xs (location_of (owner.Process p) path) ≡ Some (at, t)
lies_alike program setup F p own xs [] at t h = absurd (none_some (at, t) h)
lies_alike program setup F p own xs (ByIndex i ∷ path) at t h = absurd (none_some (at, t) h)
lies_alike program setup F p own xs (ByName x ∷ path) at t h = h

module _ (m : Machine) (setup : Setup) (s : State) (I : IsIn (machine_of m) setup s) where
  abbrev ground : List ℤ → ℕ → Ground
  ground ws p = ground_of (machine_of m).program setup I.represents p (length ws)

  -- A word of a process means what the store holds.
  own_cell : (p at : ℕ) (path : Path) (t : ResolvedType) → IsOwner setup s (owner.Process p) → LiesAt (machine_of m).program setup I.represents (owner.Process p) at path t
      → CellMeans t (s.store (location_of (owner.Process p) path)) (word_of (machine_of m) (owner.Process p) at)
  own_cell p at path t is lie =
      subst (λ ws. CellMeans t (s.store (location_of (owner.Process p) path)) (word ws at)) (sym words) (by (s.status p) refl)
    where
      o : (q : PrivateState) × (slice_get (machine_of m).parts (p - 1) ≡ Some q)
      o = there m setup s I p is.0 is.1

      words : words_of (machine_of m) p ≡ o.0.words
      words = ap (λ r. elim r as (λ x. List ℤ) [ None ↦ [] | Some q ↦ q.words ]) o.1

      mine : sees OwnWords p (OfProcess p) ≡ true
      mine = eq-eqb p p refl

      from : (xs : List Activation) → DataMeans (ground o.0.words p) xs (in_sight (ground o.0.words p)) s.store o.0.words → CellMeans t (s.store (location_of (owner.Process p) path)) (word o.0.words at)
      from xs D =
          D.cells (location_of (owner.Process p) path) at t mine (lies_alike (machine_of m).program setup I.represents p (length o.0.words) xs path at t lie)

      begun : HasBegun (private_status (s.status p)) → CellMeans t (s.store (location_of (owner.Process p) path)) (word o.0.words at)
      begun h = from _ ((I.parts p o.0 is.0 o.1).part.data_means h)

      by : (x : Status) → s.status p ≡ x → CellMeans t (s.store (location_of (owner.Process p) path)) (word o.0.words at)
      by status.Unstarted e = from [] (((I.parts p o.0 is.0 o.1).begins (subst parts.HasNotBegun (sym e) tt)).unstarted e)
      by status.Fresh e = absurd (is.2 e)
      by status.Ready e = begun (subst (λ y. HasBegun (private_status y)) (sym e) tt)
      by status.Ended e = begun (subst (λ y. HasBegun (private_status y)) (sym e) tt)
      by status.Waiting e = begun (subst (λ y. HasBegun (private_status y)) (sym e) tt)
      by (status.Asking k) e = begun (subst (λ y. HasBegun (private_status y)) (sym e) tt)
      by (status.Delayed k q) e = begun (subst (λ y. HasBegun (private_status y)) (sym e) tt)
      by (status.Faulted n) e = begun (subst (λ y. HasBegun (private_status y)) (sym e) tt)

  cell : (w : Owner) (at : ℕ) (path : Path) (t : ResolvedType) → IsOwner setup s w → LiesAt (machine_of m).program setup I.represents w at path t
      → CellMeans t (s.store (location_of w path)) (word_of (machine_of m) w at)
  cell (owner.Process p) at path t is lie = own_cell p at path t is lie
  cell (owner.Monitor k) at path t is lie = I.kernel.data_means.cells (location_of (owner.Monitor k) path) (monitor_start (machine_of m).program k + at) t refl lie

held : (z : Kind) (t : ResolvedType) (n : ℤ) (v : store.Value) → IsKindOf z t → CellMeans t v n → IsValue t (value_in z n) v
held kind.Simple (Simple b low high start) n v k h = h
held kind.Simple (ArrayOf low high t) n v k h = absurd k
held kind.Simple (RecordOf ms) n v k h = absurd k
held kind.Simple Queue n v k h = absurd k
held kind.Simple (ComponentOf y ms) n v k h = absurd k
held kind.Simple NoType n v k h = absurd k
held kind.Queue (Simple b low high start) n v k h = absurd k
held kind.Queue (ArrayOf low high t) n v k h = absurd k
held kind.Queue (RecordOf ms) n v k h = absurd k
held kind.Queue Queue n v k h = h
held kind.Queue (ComponentOf y ms) n v k h = absurd k
held kind.Queue NoType n v k h = absurd k

value_is : (m : Machine) (place : Place) (setup : Setup) (s : State) (I : IsIn (machine_of m) setup s) (path : Path) (t : ResolvedType) → IsOwner setup s place.owner
    → IsKindOf place.kind t → LiesAt (machine_of m).program setup I.represents place.owner place.at path t
    → IsValue t (value_at (machine_of m) place) (s.store (location_of place.owner path))
value_is m place setup s I path t is fits lie =
    held place.kind t (word_of (machine_of m) place.owner place.at) (s.store (location_of place.owner path)) fits (cell m setup s I place.owner place.at path t is lie)

pub value_shown : (m : Machine) (place : Place) → ShowsValue m place (value_at (machine_of m) place)
value_shown m place = record { shows = value_is m place }
