-- The report read from a machine is that of the state that it is in.
use Rattle.std.proofs.Common.{◌≡◌, ℕ, zero, suc, ◌+◌, ◌-◌, ◌≤◌, ◌<◌, List, [], ◌∷◌, ◌++◌, length, Some, None, refl, ap, sym, subst, ◌∙◌, arith}
use Rattle.std.specs.Prelude.{codes, slice_get}
use Rattle.cp_model.specs.Abstract.{Monitor, Name, Process, System}
use Rattle.cp_model.specs.Configurations as status
use Rattle.cp_model.specs.Configurations.{Status}
use Rattle.cp_model.specs.Decimal.{natural}
use Rattle.cp_model.specs.Declarations.{Variable, globals, reported_members}
use Rattle.cp_model.specs.Parts.{HasBegun, HasNotBegun, private_status}
use Rattle.cp_model.specs.Report.{Text, component_members, components_of, line, monitor_text, monitors_text, process_text, processes_text, report}
use Rattle.cp_model.specs.States.{Setup, State, initial_variables, process_count}
use Rattle.cp_model.specs.Types.{ComponentOf, GlobalScope}
use Rattle.cp_model.proofs.ComponentCounts.{counted}
use Rattle.cp_model_program.specs.Layout.{head_words}
use Rattle.cp_model_program.specs.IsProgramFor.{component_in, system_of_monitor, system_of_process}
use Rattle.cp_model_machine.specs.Addresses.{Activation, Ground, activations, in_sight}
use Rattle.cp_model_machine.specs.InState.{IsIn, NoneFresh, PartRepresents}
use Rattle.cp_model_machine.specs.KernelSteps.{stage_of}
use Rattle.cp_model_machine.specs.Laws.{ground_of}
use Rattle.cp_model_machine.specs.Machines.{Machine}
use Rattle.cp_model_machine.specs.PartOf.{DataMeans}
use Rattle.cp_model_machine.specs.Passing.{monitor_start}
use Rattle.cp_model_machine.specs.PrivateStates.{PrivateState}
use Rattle.cp_model_machine.specs.Reports.{gate_line, head_line, head_of, lines_visit, machine_report, monitor_lines, monitors_lines, part_lines, process_lines, processes_lines, transcript_line, visit_component}
use Rattle.cp_model_machine.specs.RoundLaws.{ReportIsReport}
use Rattle.cp_model_machine.proofs.Finding.{some_is_not_none}
use Rattle.cp_model_machine.proofs.PartLeaves.{NamedMembers}
use Rattle.cp_model_machine.proofs.ReportParts.{component_of, is_component, monitor_values, process_values}
use Rattle.cp_model_machine.proofs.ReportStatus.{status_same}
use Rattle.cp_model_machine.proofs.StartStores.{initial_owns}

there_below : {A : Type 0} (xs : List A) (i : ℕ) → i < length xs → (x : A) × (slice_get xs i ≡ Some x)
there_below [] i h = absurd (omega (arith, h))
there_below (x ∷ xs) zero h = (x, refl)
there_below (x ∷ xs) (suc i) h = there_below xs i (omega (arith, h))

within_list : {A : Type 0} (xs : List A) (i : ℕ) (x : A) → slice_get xs i ≡ Some x → i < length xs
within_list [] i x h = absurd (some_is_not_none x (sym h))
within_list (y ∷ xs) zero x h = omega arith
within_list (y ∷ xs) (suc i) x h = omega (arith, within_list xs i x h)

module _ (m : Machine) (setup : Setup) (s : State) (I : IsIn m setup s) (calm : NoneFresh s) where
  abbrev g : GlobalScope
  g = globals setup.tree

  abbrev G : ℕ → PrivateState → Ground
  G p o = ground_of m.program setup I.represents p (length o.words)

  -- ---- processes

  -- The words of a process mean its variables, whether it has begun or not.
  data_of : (p : ℕ) (o : PrivateState) → PartRepresents m setup I.represents s p o → (xs : List Activation) × DataMeans (G p o) xs (in_sight (G p o)) s.store o.words
  data_of p o P = by (s.status p) refl
    where
      begun : (x : Status) → s.status p ≡ x → HasBegun (private_status x) → (xs : List Activation) × DataMeans (G p o) xs (in_sight (G p o)) s.store o.words
      begun x is h = (activations o.base o.frames (s.continuation p), P.part.data_means (subst (λ z. HasBegun (private_status z)) (sym is) h))

      by : (x : Status) → s.status p ≡ x → (xs : List Activation) × DataMeans (G p o) xs (in_sight (G p o)) s.store o.words
      by status.Unstarted is = ([], (P.begins (subst HasNotBegun (sym is) tt)).unstarted is)
      by status.Fresh is = absurd (calm p is)
      by status.Ready is = begun status.Ready is tt
      by status.Ended is = begun status.Ended is tt
      by status.Waiting is = begun status.Waiting is tt
      by (status.Asking n) is = begun (status.Asking n) is tt
      by (status.Delayed n q) is = begun (status.Delayed n q) is tt
      by (status.Faulted n) is = begun (status.Faulted n) is tt

  part_same : (p : ℕ) (x : Name) (sys : System) (o : PrivateState) → 1 ≤ p → p ≤ process_count setup → NamedMembers (reported_members g sys) → system_of_process setup p ≡ Some sys
      → slice_get m.parts (p - 1) ≡ Some o → part_lines setup m p x (head_words g sys) (reported_members g sys) o ≡ process_text setup s p x (reported_members g sys)
  part_same p x sys o first last named is there =
      let P = I.parts p o first there in
      let D = data_of p o P in
      let reported = sym (status_same m.program setup I.represents (s.status p) (stage_of m.kernel.stages p) o.activity
      (I.kernel.gates_represent.stages p first (omega (arith, last, I.kernel.gates_represent.stage_count))) P.part.status) in
      let written = sym P.part.transcript in
      let values = sym (process_values (G p o) s.store o.words sys named D.0 refl D.1 is) in
      λ i. head_line p x (reported i) ++ (transcript_line (written i) ++ values i)

  process_same : (p : ℕ) (x : Name) (sys : System) → 1 ≤ p → p ≤ process_count setup → NamedMembers (reported_members g sys) → system_of_process setup p ≡ Some sys
      → process_lines setup m p x (head_words g sys) (reported_members g sys) ≡ process_text setup s p x (reported_members g sys)
  process_same p x sys first last named is =
      let o = there_below m.parts (p - 1) (omega (arith, first, last, I.part_count)) in
      ap (λ z. elim z as (λ y. Text) [ None ↦ [] | Some q ↦ part_lines setup m p x (head_words g sys) (reported_members g sys) q ]) o.1
      ∙ part_same p x sys o.0 first last named is o.1

  abbrev Listed : ℕ → List (Name × Variable) → Type 0
  Listed p vs =
      (j : ℕ) (v : Name × Variable) → slice_get vs j ≡ Some v
      → process_lines setup m (p + j) v.0 (head_of g v.1.type) (component_members v.1.type) ≡ process_text setup s (p + j) v.0 (component_members v.1.type)

  processes_same : (p : ℕ) (vs : List (Name × Variable)) → Listed p vs → processes_lines setup m p vs ≡ processes_text setup s p vs
  processes_same p [] h = refl
  processes_same p (v ∷ vs) h =
      λ i. subst (λ n. process_lines setup m n v.0 (head_of g v.1.type) (component_members v.1.type) ≡ process_text setup s n v.0 (component_members v.1.type)) (no_more p) (h 0 v refl) i
      ++ processes_same (suc p) vs (λ j u e. subst (λ n. process_lines setup m n u.0 (head_of g u.1.type) (component_members u.1.type) ≡ process_text setup s n u.0 (component_members u.1.type)) (one_more p j) (h (suc j) u e)) i
    where
      no_more : (n : ℕ) → n + 0 ≡ n
      no_more n = omega arith

      one_more : (n k : ℕ) → n + suc k ≡ suc n + k
      one_more n k = omega arith

  process_listed : Listed 2 (components_of setup Process)
  process_listed j v there =
      let C = is_component setup I.represents.typed Process j v there in
      let below = within_list (components_of setup Process) j v there in
      let is : system_of_process setup (2 + j) ≡ Some C.system =
      ap (system_of_process setup) (second j) ∙ (component_of (components_of setup Process) j v there ∙ ap component_in C.type) in
      let last : 2 + j ≤ process_count setup = omega (arith, below, counted Process (initial_variables setup)) in
      let shape = C.type ∙ ap (ComponentOf C.system) C.members in
      (λ i. process_lines setup m (2 + j) v.0 (head_of g (shape i)) (component_members (shape i)))
      ∙ (process_same (2 + j) v.0 C.system (omega arith) last C.named is ∙ (λ i. process_text setup s (2 + j) v.0 (component_members (sym shape i))))
    where
      second : (n : ℕ) → 2 + n ≡ suc (suc n)
      second n = omega arith

  -- ---- monitors

  abbrev MonitorsListed : ℕ → List (Name × Variable) → Type 0
  MonitorsListed n vs =
      (j : ℕ) (v : Name × Variable) → slice_get vs j ≡ Some v → monitor_lines setup m (n + j) v.0 v.1.type ≡ monitor_text s (n + j) v.0 (component_members v.1.type)

  monitors_same : (n : ℕ) (vs : List (Name × Variable)) → MonitorsListed n vs → monitors_lines setup m n vs ≡ monitors_text s n vs
  monitors_same n [] h = refl
  monitors_same n (v ∷ vs) h =
      λ i. subst (λ k. monitor_lines setup m k v.0 v.1.type ≡ monitor_text s k v.0 (component_members v.1.type)) (no_more n) (h 0 v refl) i
      ++ monitors_same (suc n) vs (λ j u e. subst (λ k. monitor_lines setup m k u.0 u.1.type ≡ monitor_text s k u.0 (component_members u.1.type)) (one_more n j) (h (suc j) u e)) i
    where
      no_more : (n : ℕ) → n + 0 ≡ n
      no_more n = omega arith

      one_more : (n k : ℕ) → n + suc k ≡ suc n + k
      one_more n k = omega arith

  monitor_listed : MonitorsListed 1 (components_of setup Monitor)
  monitor_listed j v there =
      let C = is_component setup I.represents.typed Monitor j v there in
      let is : system_of_monitor setup (1 + j) ≡ Some C.system =
      ap (system_of_monitor setup) (first j) ∙ (component_of (components_of setup Monitor) j v there ∙ ap component_in C.type) in
      let shape = C.type ∙ ap (ComponentOf C.system) C.members in
      let values = sym (monitor_values m.program setup I.represents s.store m.kernel.shared I.kernel.data_means (1 + j) C.system C.named is) in
      (λ i. gate_line v.0 (I.kernel.gates_represent.gates (1 + j) i) ++ visit_component g (lines_visit m.kernel.shared) (monitor_start m.program (1 + j)) (shape i))
      ∙ ((λ i. gate_line v.0 (s.gates (1 + j)) ++ values i) ∙ (λ i. monitor_text s (1 + j) v.0 (component_members (sym shape i))))
    where
      first : (n : ℕ) → 1 + n ≡ suc n
      first n = omega arith

  whole_same : machine_report setup m ≡ report setup s
  whole_same =
      let O = initial_owns setup I.represents.typed in
      let initial = process_same 1 (codes "initial") setup.tree.initial (omega arith) (omega arith) O.named refl in
      λ i. line (codes "rounds " ++ natural (I.rounds i)) ++ (initial i ++ (processes_same 2 (components_of setup Process) process_listed i ++ monitors_same 1 (components_of setup Monitor) monitor_listed i))

pub report_is_report : ReportIsReport
report_is_report m setup s I calm = whole_same m setup s I calm
