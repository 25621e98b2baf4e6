-- The gates are in order in every state that rounds reach.
use Rattle.std.proofs.Common.{◌≡◌, ℕ, zero, suc, ◌%◌, List, [], ◌∷◌, Bool, true, false, Option, Some, None, fold, flat_map, refl, ap, sym, subst, ◌∙◌, ◌⊎◌, inl, inr, arith}
use Rattle.std.specs.Prelude.{if◌then◌else◌, nat_eq}
use Rattle.std.proofs.lemmas.Bool.{true≢false}
use Rattle.cp_model.specs.Abstract.{Class, Monitor, Name, Process, Sort}
use Rattle.cp_model.specs.Types.{ArrayOf, ComponentOf, NoType, Queue, RecordOf, ResolvedType, Simple}
use Rattle.cp_model.specs.Declarations.{Variable}
use Rattle.cp_model.specs.Locations.{Location, OfProcess}
use Rattle.cp_model.specs.Stores.{Absent, QueueHolds, Store, put_all}
use Rattle.cp_model.specs.Outcomes.{Fault, Gives}
use Rattle.cp_model.specs.Environments.{Environment}
use Rattle.cp_model.specs.Continuations.{EndProcess, Task, marked_monitors, push}
use Rattle.cp_model.specs.Components.{declared_monitor, monitor_location, process_location, process_number}
use Rattle.cp_model.specs.Configurations.{Asking, Continues, Delayed, Delays, Effect, Ended, Ends, Enters, Faulted, Fresh, Leaves, Opens, Own, Ready, Starts, Status, StepResult, Unstarted, Waiting, Waits}
use Rattle.cp_model.specs.Step.{step_of}
use Rattle.cp_model.specs.States.{Free, HeldBy, Holder, Setup, State, Unset, configuration, context, initial_variables, is_in, monitor_count, processes, set_status, with_configuration}
use Rattle.cp_model.specs.Gates.{apply_effect, enter, pass_to, resume, start_process}
use Rattle.cp_model.specs.Turns.{Kernel, Kind, NoStep, Private, after_step, if_kernel, if_private, kernel_step, kernel_turn, kind, private_step, private_turn, step}
use Rattle.cp_model.specs.Rounds.{Event, KernelTurn, PrivateStep, all_turns, close_round, replay_event, replay_round, run, sequential_round, wake, wake_status}
use Rattle.cp_model.specs.Start.{component_writes, initial_environment, initial_writes, start, variable_writes}
use Rattle.cp_model.proofs.ExpressionReach.{IfGives}
use Rattle.cp_model.proofs.OwnSteps.{kind_private}
use Rattle.cp_model.proofs.StateInvariant.{kind_kernel, ready_step_invariant, wake_keeps}
use Rattle.cp_model.proofs.OutsideReach.{close_round_keeps}
use Rattle.cp_model.proofs.StartInvariant.{start_invariant}
use Rattle.cp_law_typing.specs.TypePlaces.{type_place}
use Rattle.cp_law_gates.specs.Hierarchy.{ByEvents, Descends, Hierarchy, Round, Whole, after_rounds}
use Rattle.cp_law_gates.specs.Gates.{Gates, IsStoppedAt}
use Rattle.cp_law_gates.specs.InOrder.{AllFit, Here, InOrder, IsOrdered, RightsDescend, SortFits, World, world}
use Rattle.cp_law_gates.proofs.Chains.{hierarchy}
use Rattle.cp_law_gates.proofs.Keeping.{close_keeps_gates, effect_keeps, fault_keeps, wake_keeps_gates}
use Rattle.cp_law_gates.proofs.Writes.{AllTame, append_tame, members_tame, puts_queues, puts_rights, starting_tame}
use Rattle.cp_law_gates.proofs.Pushing.{Put, push_fits}
use Rattle.cp_law_gates.proofs.Stepping.{IsBefore, StartFits, StepFits}
use Rattle.cp_law_gates.proofs.Steps.{step_fits}

-- ---- What effects leave alone

-- The store and, but for a process that starts, what is left to do.
record Alone (u v : State) : Type 0 where
  pub store : v.store ≡ u.store
  pub continuation : v.continuation ≡ u.continuation

pass_alone : (m : ℕ) (qs : List ℕ) (u : State) → Alone u (pass_to m qs u)
pass_alone m [] u = record { store = refl; continuation = refl }
pass_alone m (q ∷ qs) u = record { store = refl; continuation = refl }

enter_alone : (p m : ℕ) (h : Holder) (u : State) → Alone u (enter p m h u)
enter_alone p m (HeldBy q) u = record { store = refl; continuation = refl }
enter_alone p m Free u = record { store = refl; continuation = refl }
enter_alone p m Unset u = record { store = refl; continuation = refl }

resume_alone : (m : ℕ) (o : Option ℕ) (u : State) → Alone u (resume m o u)
resume_alone m None u = pass_alone m (u.gates m).askers u
resume_alone m (Some r) u = record { store = refl; continuation = refl }

module _ (w : World) where
  AllsFit : State → Type 0
  AllsFit u = (q : ℕ) → AllFit w (u.continuation q)

  fits_alone : (u v : State) → Alone u v → AllsFit u → AllsFit v
  unfolding AllsFit
  fits_alone u v a f q = subst (λ c. AllFit w (c q)) (sym a.continuation) (f q)

  starts_fit : (r : ℕ) (k : List Task) (x : Status) (u : State) → AllFit w k → AllsFit u → AllsFit (start_process r k x u)
  unfolding AllsFit
  starts_fit r k Unstarted u h f q = by (nat_eq r q)
    where
      by : (b : Bool) → AllFit w (if b then k else u.continuation q)
      by true = h
      by false = f q
  starts_fit r k Fresh u h f q = f q
  starts_fit r k Ready u h f q = f q
  starts_fit r k Ended u h f q = f q
  starts_fit r k Waiting u h f q = f q
  starts_fit r k (Asking m) u h f q = f q
  starts_fit r k (Delayed m l) u h f q = f q
  starts_fit r k (Faulted n) u h f q = f q

  starts_store : (r : ℕ) (k : List Task) (x : Status) (u : State) → (start_process r k x u).store ≡ u.store
  starts_store r k Unstarted u = refl
  starts_store r k Fresh u = refl
  starts_store r k Ready u = refl
  starts_store r k Ended u = refl
  starts_store r k Waiting u = refl
  starts_store r k (Asking m) u = refl
  starts_store r k (Delayed m l) u = refl
  starts_store r k (Faulted n) u = refl

  effect_fits : (p : ℕ) (e : Effect) (u : State) → StartFits w e → AllsFit u → AllsFit (apply_effect p e u)
  unfolding AllsFit
  effect_fits p Own u h f = f
  effect_fits p Ends u h f = f
  effect_fits p Waits u h f = f
  effect_fits p (Enters m) u h f = fits_alone u _ (enter_alone p m (u.gates m).holder u) f
  effect_fits p (Leaves m) u h f = fits_alone u _ (pass_alone m (u.gates m).askers u) f
  effect_fits p (Delays m q) u h f = fits_alone (set_status p (Delayed m q) u) _ (pass_alone m (u.gates m).askers (set_status p (Delayed m q) u)) f
  effect_fits p (Continues m o) u h f = fits_alone u _ (resume_alone m o u) f
  effect_fits p (Opens m) u h f = f
  effect_fits p (Starts r k) u h f = starts_fit r k (u.status r) u h f

  effect_store : (p : ℕ) (e : Effect) (u : State) → (apply_effect p e u).store ≡ u.store
  effect_store p Own u = refl
  effect_store p Ends u = refl
  effect_store p Waits u = refl
  effect_store p (Enters m) u = (enter_alone p m (u.gates m).holder u).store
  effect_store p (Leaves m) u = (pass_alone m (u.gates m).askers u).store
  effect_store p (Delays m q) u = (pass_alone m (u.gates m).askers (set_status p (Delayed m q) u)).store
  effect_store p (Continues m o) u = (resume_alone m o u).store
  effect_store p (Opens m) u = refl
  effect_store p (Starts r k) u = starts_store r k (u.status r) u

  -- ---- Steps

  module _ (O : IsOrdered w) (setup : Setup) where
    ready_step : (s : State) (p : ℕ) → s.status p ≡ Ready → InOrder w s → InOrder w (step setup s p)
    unfolding AllsFit
    ready_step s p ready i = record { invariant = ready_step_invariant setup s p ready i.invariant; gates = rest.0; fits = rest.1; rights = rest.2 }
      where
        before : IsBefore w (context setup s p) (configuration s p)
        before = record {
          ordered = O;
          invariant = i.invariant.store;
          rights = i.rights;
          fits = i.fits p;
          descends = i.gates.descends p;
          within = λ m h. i.gates.within p m h;
        }

        Rest : State → Type 0
        Rest u = Gates w.place w.monitors u × ((q : ℕ) → AllFit w (u.continuation q)) × RightsDescend w.place u.store

        by : (x : StepResult) → IfGives (StepFits w (context setup s p) (configuration s p) before) x → Rest (after_step s p x)
        by (Fault n) h = (fault_keeps w.place w.monitors s p i.gates ready n, i.fits, i.rights)
        by (Gives (r, e)) h = (
          effect_keeps w.place w.monitors s p i.gates ready r h.descends e h.effect,
          effect_fits p e (with_configuration s p r) h.starts (λ q. own q (nat_eq p q)),
          subst (RightsDescend w.place) (sym (effect_store p e (with_configuration s p r))) h.rights,
        )
          where
            own : (q : ℕ) (b : Bool) → AllFit w (if b then r.continuation else s.continuation q)
            own q true = h.fits
            own q false = i.fits q

        rest : Rest (step setup s p)
        rest = by (step_of (context setup s p) (configuration s p)) (step_fits w (context setup s p) (configuration s p) before)

    private_keeps : (s : State) (p : ℕ) → InOrder w s → InOrder w (private_step setup s p)
    private_keeps s p i = by (kind s p) refl
      where
        by : (k : Kind) → kind s p ≡ k → InOrder w (if_private k (step setup s p) s)
        by Private h = ready_step s p (kind_private (s.status p) (s.continuation p) h).0 i
        by NoStep h = i
        by Kernel h = i

    kernel_keeps : (s : State) (p : ℕ) → InOrder w s → InOrder w (kernel_step setup s p)
    kernel_keeps s p i = by (kind s p) refl
      where
        by : (k : Kind) → kind s p ≡ k → InOrder w (if_kernel k (step setup s p) s)
        by Kernel h = ready_step s p (kind_kernel setup (s.status p) (s.continuation p) h) i
        by NoStep h = i
        by Private h = i

    private_turn_keeps : (n : ℕ) (s : State) (p : ℕ) → InOrder w s → InOrder w (private_turn setup n s p)
    private_turn_keeps zero s p i = i
    private_turn_keeps (suc n) s p i = private_turn_keeps n (private_step setup s p) p (private_keeps s p i)

    kernel_turn_keeps : (n : ℕ) (s : State) (p : ℕ) → InOrder w s → InOrder w (kernel_turn setup n s p)
    kernel_turn_keeps zero s p i = i
    kernel_turn_keeps (suc n) s p i = kernel_turn_keeps n (kernel_step setup s p) p (kernel_keeps s p i)

    pub wakes : (s : State) → InOrder w s → InOrder w (wake setup s)
    wakes s i = record { invariant = wake_keeps setup s i.invariant; gates = wake_keeps_gates w.place w.monitors s i.gates setup; fits = rest.0; rights = rest.1 }
      where
        rest : ((q : ℕ) → AllFit w ((wake setup s).continuation q)) × RightsDescend w.place (wake setup s).store
        rest = by (nat_eq (suc s.rounds % setup.tick) 0)
          where
            by : (b : Bool) → ((q : ℕ) → AllFit w ((if b then record s { status = λ p. wake_status (s.status p) } else s).continuation q)) × RightsDescend w.place (if b then record s { status = λ p. wake_status (s.status p) } else s).store
            by true = (i.fits, i.rights)
            by false = (i.fits, i.rights)

    pub closes : (s : State) → InOrder w s → InOrder w (close_round s)
    closes s i = record { invariant = close_round_keeps s i.invariant; gates = close_keeps_gates w.place w.monitors s i.gates; fits = i.fits; rights = i.rights }

    pub event_keeps : (t : ℕ) (s : State) (e : Event) → InOrder w s → InOrder w (replay_event setup t s e)
    event_keeps t s (PrivateStep p) i = private_keeps s p i
    event_keeps t s (KernelTurn p) i = kernel_turn_keeps t s p i

    events_keep : (t : ℕ) (es : List Event) (s : State) → InOrder w s → InOrder w (fold (replay_event setup t) s es)
    events_keep t [] s i = i
    events_keep t (e ∷ es) s i = events_keep t es (replay_event setup t s e) (event_keeps t s e i)

    pub round_keeps : (t : ℕ) (es : List Event) (s : State) → InOrder w s → InOrder w (replay_round setup t s es)
    round_keeps t es s i = closes _ (events_keep t es (wake setup s) (wakes s i))

    all_turns_keep : (t : ℕ) (ps : List ℕ) (s : State) → InOrder w s → InOrder w (all_turns setup t s ps)
    all_turns_keep t [] s i = i
    all_turns_keep t (p ∷ ps) s i = all_turns_keep t ps (kernel_turn setup t (private_turn setup t s p) p) (kernel_turn_keeps t (private_turn setup t s p) p (private_turn_keeps t s p i))

    pub whole_round_keeps : (t : ℕ) (s : State) → InOrder w s → InOrder w (sequential_round setup t s)
    whole_round_keeps t s i = closes _ (all_turns_keep t (processes setup) (wake setup s) (wakes s i))

    pub run_keeps : (t rounds : ℕ) (s : State) → InOrder w s → InOrder w (run setup t rounds s)
    run_keeps t zero s i = i
    run_keeps t (suc rounds) s i = run_keeps t rounds (sequential_round setup t s) (whole_round_keeps t s i)

    pub rounds_keep : (past : List Round) (s : State) → InOrder w s → InOrder w (after_rounds setup s past)
    rounds_keep [] s i = i
    rounds_keep (Whole t ∷ past) s i = rounds_keep past (sequential_round setup t s) (whole_round_keeps t s i)
    rounds_keep (ByEvents t es ∷ past) s i = rounds_keep past (replay_round setup t s es) (round_keeps t es s i)

-- ---- The start

module _ (setup : Setup) (O : IsOrdered (world setup)) where
  abbrev place : ℕ → ℕ
  place = type_place setup

  abbrev nowhere : Store
  nowhere l = Absent

  variable_tame : (env : Environment) (x : Name) (t : ResolvedType) → AllTame place (variable_writes env x t)
  variable_tame env x (ComponentOf s ps) = by s.sort
    where
      by : (y : Sort) → AllTame place (component_writes env (record { name = x; system = s; is_parameter = false }) y ps)
      by Process = members_tame place (process_location (process_number env (record { name = x; system = s; is_parameter = false }))) ps
      by Monitor = members_tame place (monitor_location (declared_monitor env (record { name = x; system = s; is_parameter = false }))) ps
      by Class = tt
  variable_tame env x (Simple b low high st) = tt
  variable_tame env x (ArrayOf low high e) = tt
  variable_tame env x (RecordOf ps) = tt
  variable_tame env x Queue = tt
  variable_tame env x NoType = tt

  variables_tame : (env : Environment) (vs : List (Name × Variable)) → AllTame place (flat_map (λ v. variable_writes env v.0 v.1.type) vs)
  variables_tame env [] = tt
  variables_tame env (v ∷ vs) = append_tame place (variable_writes env v.0 v.1.type) _ (variable_tame env v.0 v.1.type) (variables_tame env vs)

  writes_tame : AllTame place (initial_writes setup)
  writes_tame = append_tame place _ _ (starting_tame place (initial_environment setup).component (initial_variables setup)) (variables_tame (initial_environment setup) (initial_variables setup))

  here : Here (world setup) (initial_environment setup)
  here = record { scope = refl; sort = subst (λ s. SortFits s (OfProcess 1)) (sym O.initial_sort) tt; kind = inl (refl, refl) }

  first : Put (world setup) (EndProcess ∷ []) (push setup.tree.initial.body (initial_environment setup) (EndProcess ∷ []))
  first = push_fits (world setup) setup.tree.initial.body (initial_environment setup) (EndProcess ∷ []) (record { here = here; owner = refl; frame = tt }) (O.bodies (initial_environment setup) here refl) (tt, tt)

  abbrev tasks : List Task
  tasks = push setup.tree.initial.body (initial_environment setup) (EndProcess ∷ [])

  no_mark : (q : ℕ) (b : Bool) → marked_monitors (if b then push setup.tree.initial.body (initial_environment setup) (EndProcess ∷ []) else []) ≡ []
  no_mark q true = first.marks
  no_mark q false = refl

  status_is : (b : Bool) (x : Status) → (if b then Ready else Unstarted) ≡ x → (x ≡ Ready) ⊎ (x ≡ Unstarted)
  status_is true x e = inl (sym e)
  status_is false x e = inr (sym e)

  not_asking : (b : Bool) (m : ℕ) → (if b then Ready else Unstarted) ≡ Asking m → ⊥
  not_asking true m e = grind arith
  not_asking false m e = grind arith

  not_stopped : (b : Bool) (m : ℕ) → IsStoppedAt m (if b then Ready else Unstarted) → ⊥
  not_stopped true m h = h
  not_stopped false m h = h

  no_queue : (l : Location) (p : ℕ) → put_all (initial_writes setup) nowhere l ≡ QueueHolds (Some p) → ⊥
  no_queue l p e = absent (puts_queues place (initial_writes setup) nowhere writes_tame l p e)
    where
      absent : Absent ≡ QueueHolds (Some p) → ⊥
      absent e = grind arith

  start_gates : Gates place (monitor_count setup) (start setup)
  start_gates = record {
    marked = λ m p b h. absurd (grind arith);
    taken = λ m p b h. absurd (true≢false (sym h));
    asks = λ m p h. absurd (true≢false (sym h));
    listed = λ m p e. absurd (not_asking (nat_eq 1 p) m e);
    once = λ m. tt;
    stopped = λ p m h. absurd (not_stopped (nat_eq 1 p) m h);
    queues = λ l p e. absurd (no_queue l p e);
    known = λ m h. absurd (true≢false (sym h));
    within = λ p m h. absurd (true≢false (sym h ∙ ap (is_in m) (no_mark p (nat_eq 1 p))));
    unstarted = λ p e. no_mark p (nat_eq 1 p);
    waiting = λ p e. no_mark p (nat_eq 1 p);
    descends = λ p. subst (Descends place) (sym (no_mark p (nat_eq 1 p))) tt;
  }

  pub start_in_order : InOrder (world setup) (start setup)
  start_in_order = record {
    invariant = start_invariant setup;
    gates = start_gates;
    fits = λ p. fits p (nat_eq 1 p);
    rights = puts_rights place (initial_writes setup) nowhere writes_tame (λ l m n h e. absurd (grind arith));
  }
    where
      fits : (p : ℕ) (b : Bool) → AllFit (world setup) (if b then push setup.tree.initial.body (initial_environment setup) (EndProcess ∷ []) else [])
      fits p true = first.fits
      fits p false = tt

pub gates_make_hierarchy : (setup : Setup) (past : List Round) → IsOrdered (world setup) → Hierarchy (type_place setup) (monitor_count setup) (after_rounds setup (start setup) past)
gates_make_hierarchy setup past O =
    hierarchy (type_place setup) (monitor_count setup) (after_rounds setup (start setup) past) (rounds_keep (world setup) O setup past (start setup) (start_in_order setup O)).gates
