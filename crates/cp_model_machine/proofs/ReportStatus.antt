-- The status of a process as the machine reports it, and the path of the queue in which it waits.
--
-- Status, stage and activity agree case by case. The word of a queue is in the block of one
-- monitor, so the search through all monitors finds its path there and nothing in the others.
use Rattle.std.proofs.Common.{◌≡◌, ◌⊎◌, inl, inr, ℕ, zero, suc, ◌+◌, ◌≤◌, ◌<◌, Bool, true, false, List, [], ◌∷◌, ◌++◌, Option, Some, None, refl, ap, sym, ◌∙◌, arith}
use Rattle.std.specs.Prelude.{codes, if◌then◌else◌, nat_eq, slice_get}
use Rattle.cp_model.specs.Abstract.{Monitor, Name, System}
use Rattle.cp_model.specs.Configurations as status
use Rattle.cp_model.specs.Configurations.{Status}
use Rattle.cp_model.specs.Decimal.{natural}
use Rattle.cp_model.specs.Declarations.{Variable, globals, reported_members}
use Rattle.cp_model.specs.Locations.{ByIndex, ByName, Location, OfActivation, OfMonitor, OfProcess, Owner, Path}
use Rattle.cp_model.specs.Parts.{PrivateStatus, private_status}
use Rattle.cp_model.specs.Parts as parts
use Rattle.cp_model.specs.Report.{Text, components_of, monitor_name, path_text, status_text}
use Rattle.cp_model.specs.States.{Setup}
use Rattle.cp_model.specs.StateViews.{fault_number}
use Rattle.cp_model.specs.Types.{GlobalScope, Queue}
use Rattle.cp_model.proofs.Options.{same_some}
use Rattle.cp_law_typing.specs.Words.{words_of_members}
use Rattle.cp_model_program.specs.Layout.{Part, component_words, head_words}
use Rattle.cp_model_program.specs.Programs.{Program}
use Rattle.cp_model_program.specs.IsProgramFor.{Apart, IsProgramFor, component_at, component_in, system_of_monitor, system_of_process}
use Rattle.cp_model_machine.specs.Addresses.{Ground, lies, part_at}
use Rattle.cp_model_machine.specs.KernelOf.{StageMeans, kernel_ground}
use Rattle.cp_model_machine.specs.KernelSteps.{Asking, Begun, Delayed, Fresh, SchedulingState, Unstarted}
use Rattle.cp_model_machine.specs.PartOf.{status_of}
use Rattle.cp_model_machine.specs.Passing.{monitor_start}
use Rattle.cp_model_machine.specs.PrivateStates as machine
use Rattle.cp_model_machine.specs.PrivateStates.{Activity}
use Rattle.cp_model_machine.specs.Reports.{activity_text, queue_text, queue_visit, queues_text, stage_text, visit_component, visit_members}
use Rattle.cp_model_machine.proofs.Apart.{member_above}
use Rattle.cp_model_machine.proofs.Finding.{some_is_not_none}
use Rattle.cp_model_machine.proofs.MonitorsThere.{monitors_lie}
use Rattle.cp_model_machine.proofs.Owned.{FoundMonitor, component_part, found_monitor}
use Rattle.cp_model_machine.proofs.ReportLines.{append_none}
use Rattle.cp_model_machine.proofs.ReportParts.{IsComponent, component_of, is_component}
use Rattle.cp_model_machine.proofs.ReportQueues.{member_found, members_beside}

-- ---- queues

-- One monitor gives the path, and no other gives anything.
queues_found : (g : GlobalScope) (program : Program) (at i j : ℕ) (vs : List (Name × Variable)) (v : Name × Variable) (q : Text) → slice_get vs j ≡ Some v
    → visit_component g (queue_visit at) (monitor_start program (i + j)) v.1.type ≡ q
    → ((l : ℕ) (u : Name × Variable) → slice_get vs l ≡ Some u → (l ≡ j → ⊥) → visit_component g (queue_visit at) (monitor_start program (i + l)) u.1.type ≡ [])
    → queues_text g program at i vs ≡ q
queues_found g program at i j [] v q there here others = absurd (some_is_not_none v (sym there))
queues_found g program at i zero (u ∷ vs) v q there here others =
    (λ k. (ap (λ n. visit_component g (queue_visit at) (monitor_start program n) u.1.type) (no_more i)
    ∙ (ap (λ (w : Name × Variable). visit_component g (queue_visit at) (monitor_start program (i + 0)) w.1.type) (same_some u v there) ∙ here)) k
    ++ none_reported (suc i) vs (λ l w h. ap (λ n. visit_component g (queue_visit at) (monitor_start program n) w.1.type) (one_more i l) ∙ others (suc l) w h (λ e. omega (arith, e))) k)
    ∙ append_none q
  where
    no_more : (n : ℕ) → n ≡ n + 0
    no_more n = omega arith

    one_more : (n k : ℕ) → suc n + k ≡ n + suc k
    one_more n k = omega arith

    none_reported : (n : ℕ) (ws : List (Name × Variable))
        → ((l : ℕ) (w : Name × Variable) → slice_get ws l ≡ Some w → visit_component g (queue_visit at) (monitor_start program (n + l)) w.1.type ≡ []) → queues_text g program at n ws ≡ []
    none_reported n [] h = refl
    none_reported n (w ∷ ws) h =
        (λ k. (ap (λ z. visit_component g (queue_visit at) (monitor_start program z) w.1.type) (no_more n) ∙ h 0 w refl) k ++ queues_text g program at (suc n) ws)
        ∙ none_reported (suc n) ws (λ l z e. ap (λ y. visit_component g (queue_visit at) (monitor_start program y) z.1.type) (one_more n l) ∙ h (suc l) z e)
queues_found g program at i (suc j) (u ∷ vs) v q there here others =
    (λ k. (ap (λ z. visit_component g (queue_visit at) (monitor_start program z) u.1.type) (no_more i) ∙ others 0 u refl (λ e. omega (arith, e))) k ++ queues_text g program at (suc i) vs)
    ∙ queues_found g program at (suc i) j vs v q there (ap (λ z. visit_component g (queue_visit at) (monitor_start program z) v.1.type) (one_more i j) ∙ here)
    (λ l w h apart. ap (λ z. visit_component g (queue_visit at) (monitor_start program z) w.1.type) (one_more i l) ∙ others (suc l) w h (λ e. apart (omega (arith, e))))
  where
    no_more : (n : ℕ) → n ≡ n + 0
    no_more n = omega arith

    one_more : (n k : ℕ) → suc n + k ≡ n + suc k
    one_more n k = omega arith

module _ (program : Program) (setup : Setup) (F : IsProgramFor program setup) where
  abbrev g : GlobalScope
  g = globals setup.tree

  abbrev K : Ground
  K = kernel_ground program F.texts setup

  -- The words of a monitor, whose type is that of its variable.
  reported_by : (v : Name × Variable) (C : IsComponent setup v.1.type) (at n : ℕ)
      → visit_component g (queue_visit at) (monitor_start program n) v.1.type
      ≡ visit_members g (queue_visit at) [] (monitor_start program n + head_words g C.system) (reported_members g C.system)
  reported_by v C at n =
      ap (visit_component g (queue_visit at) (monitor_start program n)) C.type
      ∙ ap (visit_members g (queue_visit at) [] (monitor_start program n + head_words g C.system)) C.members

  -- A variable of the list, and the monitor with its number.
  numbered : (l : ℕ) (u : Name × Variable) (C : IsComponent setup u.1.type) → slice_get (components_of setup Monitor) l ≡ Some u → system_of_monitor setup (1 + l) ≡ Some C.system
  numbered l u C there =
      ap (λ n. system_of_monitor setup n) (first l) ∙ (component_of (components_of setup Monitor) l u there ∙ ap component_in C.type)
    where
      first : (n : ℕ) → 1 + n ≡ suc n
      first n = omega arith

  there_at : (vs : List (Name × Variable)) (j : ℕ) (y : System) → component_at vs j ≡ Some y → (v : Name × Variable) × (slice_get vs j ≡ Some v)
  there_at [] j y h = absurd (some_is_not_none y (sym h))
  there_at (v ∷ vs) zero y h = (v, refl)
  there_at (v ∷ vs) (suc j) y h = there_at vs j y h

  in_monitor : (k : ℕ) (x : Name) (q : Path) (n : ℕ) → FoundMonitor K k x q n Queue → path_text (ByName x ∷ q) ≡ queue_text setup program n
  in_monitor zero x q n f = absurd (some_is_not_none f.system (sym f.is))
  in_monitor (suc j) x q n f =
      sym (queues_found g program n 1 j (components_of setup Monitor) v (path_text (ByName x ∷ q)) there.1 here others)
    where
      there : (v : Name × Variable) × (slice_get (components_of setup Monitor) j ≡ Some v)
      there = there_at (components_of setup Monitor) j f.system f.is

      v : Name × Variable
      v = there.0

      C : IsComponent setup there.0.1.type
      C = is_component setup F.typed Monitor j there.0 there.1

      is_it : C.system ≡ f.system
      is_it = same_some C.system f.system (sym (numbered j there.0 C there.1) ∙ (ap (λ i. system_of_monitor setup i) (first j) ∙ f.is))
        where
          first : (i : ℕ) → 1 + i ≡ suc i
          first i = omega arith

      place : n ≡ monitor_start program (1 + j) + f.far
      place = f.place ∙ (at (monitor_start program (suc j)) f.far ∙ ap (λ i. monitor_start program i + f.far) (first j))
        where
          at : (a b : ℕ) → 0 + a + b ≡ a + b
          at a b = omega arith

          first : (i : ℕ) → suc i ≡ 1 + i
          first i = omega arith

      here : visit_component g (queue_visit n) (monitor_start program (1 + j)) there.0.1.type ≡ path_text (ByName x ∷ q)
      here =
          reported_by there.0 C n (1 + j)
          ∙ (ap (λ y. visit_members g (queue_visit n) [] (monitor_start program (1 + j) + head_words g y) (reported_members g y)) is_it
          ∙ member_found g n [] (monitor_start program (1 + j)) (head_words g f.system) (reported_members g f.system) x q f.far f.there place)

      others : (l : ℕ) (u : Name × Variable) → slice_get (components_of setup Monitor) l ≡ Some u → (l ≡ j → ⊥) → visit_component g (queue_visit n) (monitor_start program (1 + l)) u.1.type ≡ []
      others l u is apart =
          reported_by u D n (1 + l) ∙ members_beside g n [] (monitor_start program (1 + l) + head_words g D.system) (reported_members g D.system) (beside lie)
        where
          D : IsComponent setup u.1.type
          D = is_component setup F.typed Monitor l u is

          lie : Apart (monitor_start program (1 + l)) (component_words g D.system) (monitor_start program (suc j)) (component_words g f.system)
          lie = (monitors_lie program setup F).apart (1 + l) (suc j) D.system f.system (numbered l u D is) f.is (λ e. apart (omega (arith, e)))

          above : head_words g f.system ≤ f.far
          above = member_above g (head_words g f.system) (reported_members g f.system) x q f.far Queue f.there

          beside : Apart (monitor_start program (1 + l)) (component_words g D.system) (monitor_start program (suc j)) (component_words g f.system)
              → (n < monitor_start program (1 + l) + head_words g D.system) ⊎ (monitor_start program (1 + l) + head_words g D.system + words_of_members g (reported_members g D.system) ≤ n)
          beside (inl h) = inr (omega (arith, h, f.place))
          beside (inr h) = inl (omega (arith, h, f.place, f.fits))

  queue_same : (q : Location) (n : ℕ) → lies K [] q ≡ Some (n, Queue) → path_text q.path ≡ queue_text setup program n
  queue_same q n h = by q.owner q.path h
    where
      by : (o : Owner) (p : Path) → part_at K [] o p ≡ Some (n, Queue) → path_text p ≡ queue_text setup program n
      by o [] h = absurd (some_is_not_none _ (sym h))
      by o (ByIndex i ∷ p) h = absurd (some_is_not_none _ (sym h))
      by (OfProcess r) (ByName x ∷ p) h =
          let C = component_part K [] r x p n Queue h in absurd (some_is_not_none C.1.0 (sym (ap (system_of_process setup) C.0 ∙ C.1.1)))
      by (OfActivation r d) (ByName x ∷ p) h = absurd (nowhere (nat_eq 0 r) None refl h)
        where
          nowhere : (b : Bool) (o : Option Part) → o ≡ None → (if b then o else None) ≡ Some (n, Queue) → ⊥
          nowhere true o none e = some_is_not_none _ (sym e ∙ none)
          nowhere false o none e = some_is_not_none _ (sym e)
      by (OfMonitor k) (ByName x ∷ p) h = in_monitor k x p n (found_monitor K [] k x p n Queue h)

  -- ---- statuses

  pub status_same : (x : Status) (y : SchedulingState) (a : Activity) → StageMeans K x y → private_status x ≡ status_of a → status_text setup x ≡ stage_text setup program y a
  status_same status.Unstarted Unstarted a h e = refl
  status_same status.Fresh Fresh a h e = refl
  status_same (status.Asking m) (Asking k) a h e = ap (λ n. codes "asking " ++ monitor_name setup n) h
  status_same (status.Delayed m q) (Delayed k n) a h e =
      λ i. codes "delayed " ++ (monitor_name setup (h.0 i) ++ (codes " " ++ queue_same q n h.1 i))
  status_same status.Ready Begun a h e = by a e
    where
      by : (z : Activity) → ◌≡◌ {A = PrivateStatus} parts.Running (status_of z) → codes "ready" ≡ activity_text z
      by machine.Running e = refl
      by machine.NotBegun e = absurd (cc)
      by machine.Waiting e = absurd (cc)
      by machine.Ended e = absurd (cc)
      by (machine.Faulted f) e = absurd (cc)
  status_same status.Ended Begun a h e = by a e
    where
      by : (z : Activity) → ◌≡◌ {A = PrivateStatus} parts.Finished (status_of z) → codes "ended" ≡ activity_text z
      by machine.Ended e = refl
      by machine.Running e = absurd (cc)
      by machine.NotBegun e = absurd (cc)
      by machine.Waiting e = absurd (cc)
      by (machine.Faulted f) e = absurd (cc)
  status_same status.Waiting Begun a h e = by a e
    where
      by : (z : Activity) → ◌≡◌ {A = PrivateStatus} parts.Sleeping (status_of z) → codes "waiting" ≡ activity_text z
      by machine.Waiting e = refl
      by machine.Running e = absurd (cc)
      by machine.NotBegun e = absurd (cc)
      by machine.Ended e = absurd (cc)
      by (machine.Faulted f) e = absurd (cc)
  status_same (status.Faulted n) Begun a h e = by a e
    where
      by : (z : Activity) → ◌≡◌ {A = PrivateStatus} (parts.Failed n) (status_of z) → codes "fault " ++ natural n ≡ activity_text z
      by (machine.Faulted f) e = ap (λ k. codes "fault " ++ natural k) (number n (fault_number f) e)
        where
          number : (a b : ℕ) → ◌≡◌ {A = PrivateStatus} (parts.Failed a) (parts.Failed b) → a ≡ b
          number a b e = ap (λ y. elim y as (λ z. ℕ) [ parts.Failed k ↦ k | parts.NotBegun ↦ a | parts.Running ↦ a | parts.Finished ↦ a | parts.Sleeping ↦ a ]) e
      by machine.Running e = absurd (cc)
      by machine.NotBegun e = absurd (cc)
      by machine.Waiting e = absurd (cc)
      by machine.Ended e = absurd (cc)
  status_same _ _ a h e = absurd h
