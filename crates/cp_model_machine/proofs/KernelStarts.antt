-- The first kernel is the kernel's part of the start.
--
-- Each location of a monitor is in the block of that monitor, which starts by its plan, and the
-- store of the start has the same value there. Gates are unset and stages unstarted on both
-- sides.
use Rattle.std.proofs.Common.{◌≡◌, inl, inr, ℕ, zero, suc, ◌+◌, ◌≤◌, ◌<◌, ℤ, pos, true, false, List, [], ◌∷◌, ◌++◌, length, map, Some, None, refl, ap, sym, subst, ◌∙◌, arith}
use Rattle.std.specs.Prelude.{not, replicate}
use Rattle.std.proofs.lemmas.Bool.{ne_eqb, true≢false}
use Rattle.std.proofs.lemmas.List.{length-map}
use Rattle.cp_model.specs.Abstract.{Class, Name, Sort, System}
use Rattle.cp_model.specs.CallSteps.{is_initialised}
use Rattle.cp_model.specs.Configurations as status
use Rattle.cp_model.specs.Declarations.{Variable, globals, reported_members}
use Rattle.cp_model.specs.Integers.{same_integer}
use Rattle.cp_model.specs.Locations.{ByIndex, ByName, Location, OfActivation, OfMonitor, OfProcess, Owner, Path, under}
use Rattle.cp_model.specs.Start.{start}
use Rattle.cp_model.specs.States.{Setup, Unset}
use Rattle.cp_model.specs.Stores.{Absent, Initialised, Ordinal, QueueHolds}
use Rattle.cp_model.specs.Types.{ArrayOf, ComponentOf, GlobalScope, NoType, Queue, RecordOf, ResolvedType, Simple}
use Rattle.cp_model.proofs.StateMaps.{with_at_there}
use Rattle.cp_law_typing.specs.WellTyped.{WellTyped}
use Rattle.cp_model_program.specs.Layout.{farther, head_words, member, member_part, right, rights}
use Rattle.cp_model_program.specs.Programs as code
use Rattle.cp_model_program.specs.Programs.{Program}
use Rattle.cp_model_program.specs.IsProgramFor.{MonitorRepresents, IsProgramFor, system_of_monitor}
use Rattle.cp_model_program.specs.Starts.{word}
use Rattle.cp_model_machine.specs.Addresses.{ClassLies, ComponentLies, Ground, MonitorLies, ProcessLies, RightMeans, component_type, lies, part_at, part_of_component}
use Rattle.cp_model_machine.specs.KernelOf.{StageMeans, is_shared, kernel_ground}
use Rattle.cp_model_machine.specs.KernelSteps.{Unstarted, gate_of, stage_of}
use Rattle.cp_model_machine.specs.Machines.{first_shared, first_stages}
use Rattle.cp_model_machine.specs.Means.{CellMeans, MarkMeans}
use Rattle.cp_model_machine.specs.PartOf.{DataMeans}
use Rattle.cp_model_machine.specs.Passing.{monitor_start}
use Rattle.cp_model_machine.proofs.Apart.{IsCell, IsClass}
use Rattle.cp_model_machine.proofs.Finding.{some_is_not_none}
use Rattle.cp_model_machine.proofs.Keeping.{right_no_variable, right_within}
use Rattle.cp_model_machine.proofs.MonitorsThere.{monitor_below, represents_there, start_is, system_is}
use Rattle.cp_model_machine.proofs.Owned.{found_monitor}
use Rattle.cp_model_machine.proofs.PartLeaves.{member_cell_is_leaf, member_leaf_lies, start_value}
use Rattle.cp_model_machine.proofs.SharedStarts.{BlockStarts, shared_length, shared_starts}
use Rattle.cp_model_machine.proofs.Starting.{absent_right}
use Rattle.cp_model_machine.proofs.StartStores.{Owns, monitor_owns}
use Rattle.cp_model_machine.proofs.Writing.{is_cell}
use Rattle.cp_model_machine.specs.Laws.{StartIsKernel}

owns : (setup : Setup) → WellTyped setup → (m : ℕ) (s : System) → system_of_monitor setup m ≡ Some s → Owns setup (OfMonitor m) s
owns setup typed zero s h = absurd (some_is_not_none s (sym h))
owns setup typed (suc k) s h = monitor_owns setup typed k s h

-- ---- the shared words

module _ (program : Program) (setup : Setup) (F : IsProgramFor program setup) where
  abbrev g : GlobalScope
  g = globals setup.tree

  abbrev G : Ground
  G = kernel_ground program F.texts setup

  abbrev shared : List ℤ
  shared = first_shared program.monitors (replicate program.shared (pos 0))

  block : (m : ℕ) (s : System) → system_of_monitor setup m ≡ Some s → BlockStarts g s (monitor_start program m) shared
  block m s is =
      let M : MonitorRepresents program F.texts setup m = represents_there program setup F m s is in
      let below = monitor_below setup m s is in
      subst (λ y. BlockStarts g y (monitor_start program m) shared) (system_is program setup F m s is M)
      (subst (λ n. BlockStarts g M.system n shared) (sym (start_is program setup F m M)) (shared_starts program setup F m below.0 below.1 M))

  -- The monitor in which a location is.
  record Found (l : Location) (n : ℕ) (t : ResolvedType) : Type 0 where
    number : ℕ
    system : System
    is : system_of_monitor setup number ≡ Some system
    name : Name
    path : Path
    owner : l.owner ≡ OfMonitor number
    path_is : l.path ≡ ByName name ∷ path
    far : ℕ
    there : member_part g (head_words g system) (reported_members g system) name path ≡ Some (far, t)
    place : n ≡ monitor_start program number + far

  found : (l : Location) (n : ℕ) (t : ResolvedType) → is_shared l.owner ≡ true → lies G [] l ≡ Some (n, t) → Found l n t
  found l n t mine h = by l.owner l.path refl refl mine h
    where
      by : (o : Owner) (q : Path) → l.owner ≡ o → l.path ≡ q → is_shared o ≡ true → part_at G [] o q ≡ Some (n, t) → Found l n t
      by o [] e f mine h = absurd (some_is_not_none _ (sym h))
      by o (ByIndex i ∷ q) e f mine h = absurd (some_is_not_none _ (sym h))
      by (OfProcess r) (ByName x ∷ q) e f mine h = absurd (true≢false (sym mine))
      by (OfActivation r d) (ByName x ∷ q) e f mine h = absurd (true≢false (sym mine))
      by (OfMonitor m) (ByName x ∷ q) e f mine h =
          let C = found_monitor G [] m x q n t h in
          record { number = m; system = C.system; is = C.is; name = x; path = q; owner = e; path_is = f; far = C.far; there = C.there; place = omega (arith, C.place) }

  stored : (l : Location) (n : ℕ) (t : ResolvedType) → Found l n t → IsCell t → (start setup).store l ≡ start_value t
  stored l n t f c =
      (λ i. (start setup).store (record { owner = f.owner i; path = f.path_is i }))
      ∙ (owns setup F.typed f.number f.system f.is).starts (ByName f.name ∷ f.path) (start_value t)
      (member_cell_is_leaf g (head_words g f.system) (reported_members g f.system) f.name f.path f.far t c f.there)

  cell_starts : (l : Location) (n : ℕ) (t : ResolvedType) → Found l n t → IsCell t → CellMeans t ((start setup).store l) (word shared n)
  cell_starts l n t f c =
      subst (λ v. CellMeans t v (word shared n)) (sym (stored l n t f c)) (subst (λ i. CellMeans t (start_value t) (word shared i)) (sym f.place) (by t c f.there))
    where
      B : BlockStarts g f.system (monitor_start program f.number) shared
      B = block f.number f.system f.is

      by : (t : ResolvedType) → IsCell t → member_part g (head_words g f.system) (reported_members g f.system) f.name f.path ≡ Some (f.far, t)
          → CellMeans t (start_value t) (word shared (monitor_start program f.number + f.far))
      by (Simple b low high first) c there = ap Ordinal (sym (B.cells f.name f.path f.far b low high first there))
      by Queue c there = subst (λ z. CellMeans Queue (QueueHolds None) z) (sym (B.queues f.name f.path f.far there)) refl
      by (ComponentOf s inner) c there = mark s.sort refl c
        where
          mark : (z : Sort) → s.sort ≡ z → IsClass z → MarkMeans z (Initialised false) (word shared (monitor_start program f.number + f.far))
          mark Class sort k =
              let same : f.far + 0 ≡ f.far = omega arith in
              ap (λ z. Initialised (not (same_integer z (pos 0))))
              (sym (ap (λ i. word shared (monitor_start program f.number + i)) (sym same) ∙ B.heads f.name f.path f.far 0 s inner there sort (omega arith)))
          mark _ sort k = absurd k
      by (ArrayOf low high t) c there = absurd c
      by (RecordOf ms) c there = absurd c
      by NoType c there = absurd c

  -- ---- rights

  -- The monitor in which a component is.
  record Within (at : Location) : Type 0 where
    number : ℕ
    system : System
    is : system_of_monitor setup number ≡ Some system
    owner : at.owner ≡ OfMonitor number

  within : (at : Location) (s : System) (n : ℕ) → is_shared at.owner ≡ true → ComponentLies G at s n → Within at
  within at s n mine (ProcessLies where' is zero') = absurd (true≢false (sym mine ∙ ap (λ (l : Location). is_shared l.owner) where'))
  within at s n mine (MonitorLies m where' is from) = record { number = m; system = s; is = is; owner = ap (λ (l : Location). l.owner) where' }
  within at s n mine (ClassLies sort is) =
      let f = found at n (component_type G s) mine is in record { number = f.number; system = f.system; is = f.is; owner = f.owner }

  unset : (at : Location) (s : System) (n : ℕ) (x : Name) → is_shared at.owner ≡ true → ComponentLies G at s n → member g s x ≡ None → (start setup).store (under at (ByName x ∷ [])) ≡ Absent
  unset at s n x mine cl none =
      O.absent (under at (ByName x ∷ [])) W.owner (λ v leaf.
      let k = member_leaf_lies g (head_words g W.system) (reported_members g W.system) (at.path ++ (ByName x ∷ [])) v O.named leaf in
      let there : lies G [] (under at (ByName x ∷ [])) ≡ Some (0 + monitor_start program W.number + k.3.0, k.3.1) =
      (λ i. part_at G [] (W.owner i) (k.2 i))
      ∙ (ap (λ z. farther (0 + monitor_start program W.number) (part_of_component g z k.0 k.1)) W.is ∙ ap (farther (0 + monitor_start program W.number)) k.3.2) in
      some_is_not_none _ (sym there ∙ right_no_variable G [] at s n x cl none))
    where
      W : Within at
      W = within at s n mine cl

      O : Owns setup (OfMonitor W.number) W.system
      O = owns setup F.typed W.number W.system W.is

  zero_right : (at : Location) (s : System) (n m : ℕ) (x : Name) (v : Variable) → is_shared at.owner ≡ true → ComponentLies G at s n → right g s x ≡ Some (m, v) → word shared (n + m) ≡ pos 0
  zero_right at s n m x v mine cl is = by cl
    where
      inside : m < head_words g s
      inside = omega (arith, (right_within 1 (rights g s) x m v is).1)

      by : ComponentLies G at s n → word shared (n + m) ≡ pos 0
      by (ProcessLies where' is' zero') = absurd (true≢false (sym mine ∙ ap (λ (l : Location). is_shared l.owner) where'))
      by (MonitorLies j where' is' from) = ap (word shared) (omega (arith, from)) ∙ (block j s is').head m inside
      by (ClassLies sort is') =
          let f = found at n (component_type G s) mine is' in
          ap (word shared) (omega (arith, f.place)) ∙ (block f.number f.system f.is).heads f.name f.path f.far m s (reported_members g s) f.there sort inside

  data_starts : DataMeans G [] is_shared (start setup).store shared
  data_starts = record {
    cells = λ l n t mine h. elim (is_cell t) [ inl c ↦ cell_starts l n t (found l n t mine h) c | inr f ↦ f ((start setup).store l) (word shared n) ];
    rights = λ at s n m x v mine cl is none.
        subst (λ z. RightMeans G v.type z (n + m) (word shared (n + m))) (sym (unset at s n x mine cl none))
        (subst (RightMeans G v.type Absent (n + m)) (sym (zero_right at s n m x v mine cl is)) (absent_right G v.type (n + m)));
    given = λ at s n mine sort is set.
        absurd (true≢false (sym set ∙ ap is_initialised (stored at n (component_type G s) (found at n (component_type G s) mine is) (subst IsClass (sym sort) tt))));
  }

-- ---- gates and stages

no_gate : (ms : List code.Monitor) (m : ℕ) → gate_of (map (λ x. record { holder = Unset; askers = [] }) ms) m ≡ record { holder = Unset; askers = [] }
no_gate ms zero = refl
no_gate [] (suc m) = refl
no_gate (x ∷ ms) (suc zero) = refl
no_gate (x ∷ ms) (suc (suc m)) = no_gate ms (suc m)

stage_count : (xs : List code.Process) → length (first_stages xs) ≡ length xs
stage_count [] = refl
stage_count (x ∷ xs) = ap suc (length-map xs (λ y. Unstarted))

unstarted : (xs : List code.Process) (p : ℕ) → p < length xs → stage_of (map (λ y. Unstarted) xs) (suc p) ≡ Unstarted
unstarted [] p h = absurd (omega (arith, h))
unstarted (x ∷ xs) zero h = refl
unstarted (x ∷ xs) (suc p) h = unstarted xs p (omega (arith, h))

stages_start : (H : Ground) (setup : Setup) (xs : List code.Process) (p : ℕ) → 1 ≤ p → p ≤ length (first_stages xs) → StageMeans H ((start setup).status p) (stage_of (first_stages xs) p)
stages_start H setup xs zero low high = absurd (omega (arith, low))
stages_start H setup [] (suc p) low high = absurd (omega (arith, high))
stages_start H setup (x ∷ xs) (suc zero) low high = tt
stages_start H setup (x ∷ xs) (suc (suc p)) low high =
    subst (λ z. StageMeans H z (stage_of (first_stages (x ∷ xs)) (suc (suc p)))) (sym (with_at_there 1 (suc (suc p)) status.Ready (λ q. status.Unstarted) (ne_eqb 1 (suc (suc p)) (λ e. absurd (omega (arith, e))))))
    (subst (StageMeans H status.Unstarted) (sym (unstarted xs p (omega (arith, high, length-map xs (λ y. Unstarted))))) tt)

-- ---- the kernel

pub kernel_starts : StartIsKernel
kernel_starts program setup F tick inputs = record {
  word_count = shared_length program setup F;
  gates_represent = record {
    gate_count = length-map program.monitors (λ m. record { holder = Unset; askers = [] }) ∙ F.monitor_rows;
    stage_count = stage_count program.processes ∙ F.process_rows;
    gates = no_gate program.monitors;
    stages = stages_start (kernel_ground program F.texts setup) setup program.processes;
    askers = λ m. tt;
  };
  data_means = data_starts program setup F;
}
