-- The first private state of a process is that of the process in the start.
--
-- Before there is an activation, only members are anywhere. Their words start by the plan, which
-- has the start value of each leaf, as the store has; no right is set on either side.
use Rattle.std.proofs.Common.{◌≡◌, ◌⊎◌, inl, inr, ℕ, zero, suc, ◌+◌, ◌≤◌, ◌<◌, ℤ, pos, Bool, true, false, List, [], ◌∷◌, ◌++◌, length, Option, Some, None, refl, ap, sym, subst, ◌∙◌, arith}
use Rattle.std.specs.Prelude.{if◌then◌else◌, nat_eq, not, replicate}
use Rattle.std.proofs.lemmas.Bool.{eq-eqb, ne_eqb, true≢false}
use Rattle.cp_model.specs.Abstract.{Class, Name, Process, Sort, System}
use Rattle.cp_model.specs.CallSteps.{is_initialised}
use Rattle.cp_model.specs.Components.{process_location}
use Rattle.cp_model.specs.Configurations as stage
use Rattle.cp_model.specs.Configurations.{Ready, Status, Unstarted}
use Rattle.cp_model.specs.Continuations.{EndProcess, push}
use Rattle.cp_model.specs.Declarations.{globals, reported_members}
use Rattle.cp_model.specs.Integers.{same_integer}
use Rattle.cp_model.specs.Locations.{ByIndex, ByName, Location, OfActivation, OfMonitor, OfProcess, Owner, Path, under}
use Rattle.cp_model.specs.Parts.{HasBegun, is_own, private_status}
use Rattle.cp_model.specs.Start.{start}
use Rattle.cp_model.specs.States.{Setup}
use Rattle.cp_model.specs.Stores.{Absent, Initialised, Ordinal, QueueHolds}
use Rattle.cp_model.specs.Types.{ArrayOf, ComponentOf, GlobalScope, NoType, Queue, RecordOf, ResolvedType, Simple}
use Rattle.cp_model.proofs.StateMaps.{with_at_there}
use Rattle.cp_model.proofs.Options.{same_some}
use Rattle.cp_law_typing.specs.WellTyped.{WellTyped}
use Rattle.cp_model_program.specs.Programs.{CodeUnit, Done, Program}
use Rattle.cp_model_program.specs.Layout.{Part, component_words, head_words, member, member_part}
use Rattle.cp_model_program.specs.IsProgramFor.{ProcessRepresents, IsProgramFor, system_of_process}
use Rattle.cp_model_program.specs.Starts.{AreZero, word}
use Rattle.cp_model_machine.specs.Addresses.{ClassLies, ComponentLies, Ground, MonitorLies, ProcessLies, RightMeans, RightOf, activations, component_type, lies, part_at, part_of_component}
use Rattle.cp_model_machine.specs.Beginning.{AtStart, Begins}
use Rattle.cp_model_machine.specs.KernelSteps.{Kernel}
use Rattle.cp_model_machine.specs.Laws.{StartIsPart, ground_of}
use Rattle.cp_model_machine.specs.Machines.{first_part, part_at_start, unit_at}
use Rattle.cp_model_machine.specs.Means.{CellMeans, MarkMeans}
use Rattle.cp_model_machine.specs.PartOf.{DataMeans, PartOf, RunsOn}
use Rattle.cp_model_machine.specs.PrivateStates.{PrivateState, Running}
use Rattle.cp_model_machine.proofs.BodyBegins as body_begins
use Rattle.cp_model_machine.proofs.BodyBegins.{process_body}
use Rattle.cp_model_machine.proofs.Apart.{InHead, IsCell, IsClass}
use Rattle.cp_model_machine.proofs.Finding.{some_is_not_none}
use Rattle.cp_model_machine.proofs.Keeping.{right_no_variable, right_place}
use Rattle.cp_model_machine.proofs.PartLeaves.{member_cell_is_leaf, member_leaf_lies, start_value}
use Rattle.cp_model_machine.proofs.Owned.{OwnRight, component_part}
use Rattle.cp_model_machine.proofs.StartStores.{Owns, initial_owns, process_owns}
use Rattle.cp_model_machine.proofs.Writing.{is_cell}
use Rattle.std.proofs.lemmas.List.{length-replicate, get_or-replicate}

-- A right that was never set.
pub absent_right : (G : Ground) (t : ResolvedType) (n : ℕ) → RightMeans G t Absent n (pos 0)
absent_right G (ComponentOf s inner) n = by s.sort
  where
    by : (z : Sort) → RightOf G s z Absent n (pos 0)
    by Class = refl
    by Process = tt
    by _ = refl
absent_right G (Simple b low high first) n = tt
absent_right G (ArrayOf low high t) n = tt
absent_right G (RecordOf ms) n = tt
absent_right G Queue n = tt
absent_right G NoType n = tt

owns : (setup : Setup) → WellTyped setup → (p : ℕ) (s : System) → system_of_process setup p ≡ Some s → Owns setup (OfProcess p) s
owns setup typed zero s h = absurd (some_is_not_none s (sym h))
owns setup typed (suc zero) s h = subst (Owns setup (OfProcess 1)) (same_some setup.tree.initial s h) (initial_owns setup typed)
owns setup typed (suc (suc k)) s h = process_owns setup typed k s h

-- ---- one process

module _ (program : Program) (setup : Setup) (F : IsProgramFor program setup) (p : ℕ) (P : ProcessRepresents program F.texts setup p) where
  abbrev g : GlobalScope
  g = globals setup.tree

  abbrev before : List ℤ
  before = replicate (P.row.words + P.unit.words) (pos 0)

  abbrev own : PrivateState
  own = part_at_start setup.inputs p P.row P.unit

  abbrev G : Ground
  G = ground_of program setup F p (length own.words)

  O : Owns setup (OfProcess p) P.system
  O = owns setup F.typed p P.system P.is_system

  count : length own.words ≡ P.row.words + P.unit.words
  count = P.starts.length_is 0 before ∙ length-replicate (P.row.words + P.unit.words) (pos 0)

  room : 0 + component_words g P.system ≤ length before
  room = omega (arith, P.words, length-replicate (P.row.words + P.unit.words) (pos 0))

  zeros : AreZero g P.system 0 before
  zeros i h = get_or-replicate (P.row.words + P.unit.words) (0 + i) (pos 0) (pos 0) (omega (arith, h, P.words))

  here : (n : ℕ) → word own.words (0 + n) ≡ word own.words n
  here n = ap (word own.words) (same n)
    where
      same : (n : ℕ) → 0 + n ≡ n
      same n = omega arith

  -- What is in the process before there is an activation.
  record Found (l : Location) (n : ℕ) (t : ResolvedType) : Type 0 where
    name : Name
    path : Path
    owner : l.owner ≡ OfProcess p
    path_is : l.path ≡ ByName name ∷ path
    there : member_part g (head_words g P.system) (reported_members g P.system) name path ≡ Some (n, t)

  found : (l : Location) (n : ℕ) (t : ResolvedType) → is_own p l.owner ≡ true → lies G [] l ≡ Some (n, t) → Found l n t
  found l n t mine h = by l.owner l.path refl refl mine h
    where
      nowhere : (b : Bool) (o : Option Part) → o ≡ None → (if b then o else None) ≡ Some (n, t) → ⊥
      nowhere true o none e = some_is_not_none _ (sym e ∙ none)
      nowhere false o none e = some_is_not_none _ (sym e)

      by : (o : Owner) (q : Path) → l.owner ≡ o → l.path ≡ q → is_own p o ≡ true → part_at G [] o q ≡ Some (n, t) → Found l n t
      by o [] e f mine h = absurd (some_is_not_none _ (sym h))
      by o (ByIndex i ∷ q) e f mine h = absurd (some_is_not_none _ (sym h))
      by (OfProcess r) (ByName x ∷ q) e f mine h =
          let C = component_part G [] r x q n t h in
          let same : C.1.0 ≡ P.system = same_some C.1.0 P.system (sym C.1.1 ∙ (ap (system_of_process setup) (sym C.0) ∙ P.is_system)) in
          record {
            name = x;
            path = q;
            owner = e ∙ ap OfProcess (sym C.0);
            path_is = f;
            there = subst (λ s. member_part g (head_words g s) (reported_members g s) x q ≡ Some (n, t)) same C.1.2;
          }
      by (OfActivation r d) (ByName x ∷ q) e f mine h = absurd (nowhere (nat_eq p r) None refl h)
      by (OfMonitor m) (ByName x ∷ q) e f mine h = absurd (true≢false (sym mine))

  stored : (l : Location) (n : ℕ) (t : ResolvedType) → Found l n t → IsCell t → (start setup).store l ≡ start_value t
  stored l n t f c =
      (λ i. (start setup).store (record { owner = f.owner i; path = f.path_is i }))
      ∙ O.starts (ByName f.name ∷ f.path) (start_value t) (member_cell_is_leaf g (head_words g P.system) (reported_members g P.system) f.name f.path n t c f.there)

  cell_starts : (l : Location) (n : ℕ) (t : ResolvedType) → Found l n t → IsCell t → CellMeans t ((start setup).store l) (word own.words n)
  cell_starts l n t f c = subst (λ v. CellMeans t v (word own.words n)) (sym (stored l n t f c)) (by t c f.there)
    where
      by : (t : ResolvedType) → IsCell t → member_part g (head_words g P.system) (reported_members g P.system) f.name f.path ≡ Some (n, t) → CellMeans t (start_value t) (word own.words n)
      by (Simple b low high first) c there = ap Ordinal (sym (sym (here n) ∙ P.starts.cells 0 before room zeros f.name f.path n b low high first there))
      by Queue c there =
          subst (λ z. CellMeans Queue (QueueHolds None) z) (sym (sym (here n) ∙ P.starts.queues 0 before room f.name f.path n zeros there)) refl
      by (ComponentOf s inner) c there = mark s.sort refl c
        where
          mark : (z : Sort) → s.sort ≡ z → IsClass z → MarkMeans z (Initialised false) (word own.words n)
          mark Class sort k =
              let same : n + 0 ≡ n = omega arith in
              ap (λ z. Initialised (not (same_integer z (pos 0))))
              (sym (sym (ap (word own.words) same) ∙ (sym (here (n + 0)) ∙ P.starts.heads 0 before room f.name f.path n 0 s inner zeros there sort (omega arith))))
          mark _ sort k = absurd k
      by (ArrayOf low high t) c there = absurd c
      by (RecordOf ms) c there = absurd c
      by NoType c there = absurd c

  -- A component of the process.
  owner_of : (at : Location) (s : System) (n : ℕ) → is_own p at.owner ≡ true → ComponentLies G at s n → at.owner ≡ OfProcess p
  owner_of at s n mine (ProcessLies where' is zero') = ap (λ (l : Location). l.owner) where'
  owner_of at s n mine (MonitorLies m where' is from) = absurd (true≢false (sym (ap (λ (l : Location). is_own p l.owner) (sym where') ∙ mine)))
  owner_of at s n mine (ClassLies sort is) = (found at n (component_type G s) mine is).owner

  data_starts : DataMeans G [] (is_own p) (start setup).store own.words
  data_starts = record {
    cells = λ l n t mine h. elim (is_cell t) [ inl c ↦ cell_starts l n t (found l n t mine h) c | inr f ↦ f ((start setup).store l) (word own.words n) ];
    rights = λ at s n m x v mine cl is none.
        subst (λ z. RightMeans G v.type z (n + m) (word own.words (n + m))) (sym (unset at s n x mine cl none))
        (subst (RightMeans G v.type Absent (n + m)) (sym (zero_right at s n m mine (right_place G [] at s n m x v mine cl is))) (absent_right G v.type (n + m)));
    given = λ at s n mine sort is set.
        absurd (true≢false (sym set ∙ ap is_initialised (stored at n (component_type G s) (found at n (component_type G s) mine is) (subst IsClass (sym sort) tt))));
  }
    where
      unset : (at : Location) (s : System) (n : ℕ) (x : Name) → is_own p at.owner ≡ true → ComponentLies G at s n → member g s x ≡ None → (start setup).store (under at (ByName x ∷ [])) ≡ Absent
      unset at s n x mine cl none =
          O.absent (under at (ByName x ∷ [])) (owner_of at s n mine cl) (λ v leaf.
          let k = member_leaf_lies g (head_words g P.system) (reported_members g P.system) (at.path ++ (ByName x ∷ [])) v O.named leaf in
          let there : lies G [] (under at (ByName x ∷ [])) ≡ Some (k.3.0, k.3.1) =
          (λ i. part_at G [] (owner_of at s n mine cl i) (k.2 i))
          ∙ (ap (λ b. if b then part_of_component g (system_of_process setup p) k.0 k.1 else None) (eq-eqb p p refl)
          ∙ (ap (λ z. part_of_component g z k.0 k.1) P.is_system ∙ k.3.2)) in
          some_is_not_none _ (sym there ∙ right_no_variable G [] at s n x cl none))

      zero_right : (at : Location) (s : System) (n m : ℕ) → is_own p at.owner ≡ true
          → OwnRight G (n + m) ⊎ ((lies G [] at ≡ Some (n, component_type G s)) × InHead g (component_type G s) m × (1 ≤ m)) → word own.words (n + m) ≡ pos 0
      zero_right at s n m mine (inl (inl r)) =
          let same : r.0 ≡ P.system = same_some r.0 P.system (sym r.1 ∙ P.is_system) in
          sym (here (n + m)) ∙ P.starts.head 0 before room (n + m) zeros (subst (λ z. n + m < head_words g z) same r.2)
      zero_right at s n m mine (inl (inr r)) = absurd (true≢false (sym r.3))
      zero_right at s n m mine (inr r) =
          let f = found at n (component_type G s) mine r.0 in
          sym (here (n + m)) ∙ P.starts.heads 0 before room f.name f.path n m s (reported_members g s) zeros f.there (sort s.sort refl r.1.0) r.1.1
        where
          sort : (z : Sort) → s.sort ≡ z → IsClass z → s.sort ≡ Class
          sort Class e k = e
          sort _ e k = absurd k

  at_start : AtStart G own
  at_start = record {
    row = P.row;
    there = P.there;
    unit = P.unit;
    unit_there = P.unit_there;
    counter = refl;
    base = refl;
    temp = refl;
    component = refl;
    gate = refl;
    frames = refl;
    output = refl;
    consumed = refl;
    words_fit = omega (arith, count);
    temps_fit = omega (arith, length-replicate P.unit.temps (pos 0));
    frames_fit = omega arith;
  }

  runs_from_start : P.system.sort ≡ Process → RunsOn G (start setup).store (record own { activity = Running }) (process_body G P.system)
  runs_from_start sort = body_begins.runs_from_start G F refl P sort own at_start (start setup).store own.words refl data_starts

-- ---- all processes

-- The initial process runs.
initial_is_part : (program : Program) (setup : Setup) (F : IsProgramFor program setup) (P : ProcessRepresents program F.texts setup 1) → PartOf (G program setup F 1 P) (start setup) [] (own program setup F 1 P)
initial_is_part program setup F P = record {
  number = refl;
  input = refl;
  consumed = refl;
  transcript = refl;
  status = refl;
  count = refl;
  data_means = λ begun. subst (λ k. DataMeans (G program setup F 1 P) (activations P.row.words [] k) (is_own 1) (start setup).store (own program setup F 1 P).words) (sym left) R.data_means;
  runs_on = λ goes. subst (RunsOn (G program setup F 1 P) (start setup).store (own program setup F 1 P)) (sym left) R;
}
  where
    same : setup.tree.initial ≡ P.system
    same = same_some setup.tree.initial P.system P.is_system

    R : RunsOn (G program setup F 1 P) (start setup).store (own program setup F 1 P) (process_body (G program setup F 1 P) P.system)
    R = runs_from_start program setup F 1 P (ap (λ (s : System). s.sort) (sym same) ∙ F.typed.initial_sort)

    left : (start setup).continuation 1 ≡ process_body (G program setup F 1 P) P.system
    left = λ i. push (same i).body (record { globals = globals setup.tree; system = same i; component = process_location 1; frame = None }) (EndProcess ∷ [])

not_fresh : stage.Unstarted ≡ stage.Fresh → ⊥
not_fresh e = true≢false (ap is_unstarted e)
  where
    is_unstarted : Status → Bool
    is_unstarted stage.Unstarted = true
    is_unstarted _ = false

-- Each other process has not begun.
module _ (program : Program) (setup : Setup) (F : IsProgramFor program setup) (k : ℕ) (P : ProcessRepresents program F.texts setup (suc (suc k))) where
  unstarted : (start setup).status (suc (suc k)) ≡ stage.Unstarted
  unstarted = with_at_there 1 (suc (suc k)) Ready (λ q. Unstarted) (ne_eqb 1 (suc (suc k)) (λ e. absurd (omega (arith, e))))

  other_is_part : PartOf (G program setup F (suc (suc k)) P) (start setup) [] (own program setup F (suc (suc k)) P)
  other_is_part = record {
    number = refl;
    input = refl;
    consumed = refl;
    transcript = refl;
    status = ap private_status unstarted;
    count = refl;
    data_means = λ begun. absurd (subst HasBegun (ap private_status unstarted) begun);
    runs_on = λ goes. absurd goes;
  }

  other_begins : (kernel : Kernel) → Begins (G program setup F (suc (suc k)) P) (start setup) kernel (own program setup F (suc (suc k)) P)
  other_begins kernel = record {
    activity_is = refl;
    at_start = at_start program setup F (suc (suc k)) P;
    unstarted = λ is. data_starts program setup F (suc (suc k)) P;
    fresh = λ is. absurd (not_fresh (sym unstarted ∙ is));
  }

abbrev Result : (program : Program) (setup : Setup) → IsProgramFor program setup → ℕ → PrivateState → Type 0
Result program setup F p o =
    PartOf (ground_of program setup F p (length o.words)) (start setup) [] o × ((k : Kernel) → 2 ≤ p → Begins (ground_of program setup F p (length o.words)) (start setup) k o)

pub start_is_part : StartIsPart
start_is_part program setup F p x low high there =
    subst (λ r. Result program setup F p (first_part program setup.inputs p r)) (same_some P.row x (sym P.there ∙ there))
    (subst (λ u. Result program setup F p (part_at_start setup.inputs p P.row u)) (sym unit_is) (by p P low))
  where
    P : ProcessRepresents program F.texts setup p
    P = F.processes p low high

    unit_is : unit_at program P.row.body ≡ P.unit
    unit_is = λ i. elim (P.unit_there i) as (λ z. CodeUnit) [ None ↦ record { start = 0; starts = Done; words = 0; temps = 0; frames = 0 } | Some u ↦ u ]

    by : (p : ℕ) (P : ProcessRepresents program F.texts setup p) → 1 ≤ p → Result program setup F p (part_at_start setup.inputs p P.row P.unit)
    by zero P low = absurd (omega (arith, low))
    by (suc zero) P low = (initial_is_part program setup F P, λ k two. absurd (omega (arith, two)))
    by (suc (suc k)) P low = (other_is_part program setup F k P, λ kernel two. other_begins program setup F k P kernel)
