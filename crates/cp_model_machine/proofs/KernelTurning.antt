-- The kernel step of the machine is that of the meaning, even if neither has one. So is a step of any
-- kind, if there is one.
--
-- With the words of all monitors after its own, the private state is that of the process, so the
-- step is one of those that are proved. After the step, the words are separated again. The kernel's
-- gates and stages are right, since the effect is that of the meaning.
use Rattle.std.proofs.Common.{◌≡◌, inr, ℕ, ◌+◌, Bool, true, false, List, [], ◌∷◌, length, Option, Some, None, refl, ap, sym, subst, ◌∙◌, arith}
use Rattle.std.specs.Prelude.{◌||◌, drop, if◌then◌else◌, take}
use Rattle.std.proofs.lemmas.Bool.{true≢false}
use Rattle.cp_model.specs.Actions.{Action, Acts, Calls, Rests, action, is_kernel_action}
use Rattle.cp_model.specs.Calls.{UserCall, call_in_task, procedure_call}
use Rattle.cp_model.specs.Abstract as a
use Rattle.cp_model.specs.Configurations as stage
use Rattle.cp_model.specs.Configurations.{Effect, Status, StepResult, holds_gate}
use Rattle.cp_model.specs.Continuations.{Do, EndBody, EndCall, EndProcess, ForNext, RepeatTest, Task, WhileTest, marked_monitors}
use Rattle.cp_model.specs.Invariant.{Invariant, StoreInvariant}
use Rattle.cp_model.specs.Locations.{Location, OfActivation, OfMonitor, OfProcess}
use Rattle.cp_model.specs.Operators.{realtime}
use Rattle.cp_model.specs.Outcomes.{Fault, Gives}
use Rattle.cp_model.specs.Parts as parts
use Rattle.cp_model.specs.Parts.{HasBegun, PrivateStatus, private_status}
use Rattle.cp_model.specs.States.{Setup, State, configuration, context, monitor_count, process_count, running_clock}
use Rattle.cp_model.specs.Turns as meaning
use Rattle.cp_model.specs.Turns.{after_step, if_kernel, if_private, kind, kind_of, step}
use Rattle.cp_model.proofs.StateInvariant.{kernel_step_keeps, private_step_keeps}
use Rattle.cp_model.proofs.StateMaps.{with_at_here}
use Rattle.cp_model_program.specs.Programs.{Operation, Program}
use Rattle.cp_model_program.specs.IsProgramFor.{IsProgramFor}
use Rattle.cp_model_machine.specs.PrivateStates as machine
use Rattle.cp_model_machine.specs.PrivateStates.{Acting, Activity, StepContext, PrivateState}
use Rattle.cp_model_machine.specs.Steps as steps
use Rattle.cp_model_machine.specs.Steps.{act, act_on, operation_of, step_with}
use Rattle.cp_model_machine.specs.Addresses.{Activation, AllWords, Ground, MonitorsLie, activations, in_sight}
use Rattle.cp_model_machine.specs.EffectOf.{IsNumber}
use Rattle.cp_model_machine.specs.KernelOf.{KernelOf, StageMeans, is_shared, kernel_ground}
use Rattle.cp_model_machine.specs.KernelSteps as plain
use Rattle.cp_model_machine.specs.KernelSteps.{Begun, Kernel, SchedulingState, Turning, apply_effect, is_begun, is_due, join_words, needs_kernel, outside, part_words, stage_of}
use Rattle.cp_model_machine.specs.Laws.{TurningOf, ground_of}
use Rattle.cp_model_machine.specs.Remaining.{innermost_gate, site}
use Rattle.cp_model_machine.specs.PartOf.{DataMeans, IsActive, PartOf, RunsOn, status_of}
use Rattle.cp_model_machine.proofs.Deciding.{Reaches, ready_steps}
use Rattle.cp_model_machine.proofs.Effects.{HasFailed, HasFaulted, failed, private_after, private_by, unfailed}
use Rattle.cp_model_machine.proofs.EffectsKept.{Represent, effects_kept, represent_beside}
use Rattle.cp_model_machine.proofs.EndsAlone.{DoesNotEnd, Endless, IsEnd, action_endless}
use Rattle.cp_model_machine.proofs.GatesHeld.{gate_is_held}
use Rattle.cp_model_machine.proofs.Joining.{runs_joined}
use Rattle.cp_model_machine.proofs.KernelAround.{around_all}
use Rattle.cp_model_machine.proofs.KernelKept.{begun}
use Rattle.cp_model_machine.proofs.MonitorsThere.{monitors_lie}
use Rattle.cp_model_machine.proofs.Parting.{data_own, data_shared, own_count, runs_parted, shared_count}
use Rattle.cp_model_machine.proofs.PrivateSteps.{IsRunning, running_is, still_is}
use Rattle.cp_model_machine.proofs.ProcessBegins.{effect_shared}
use Rattle.cp_model_machine.proofs.RunningOn.{runs_stacked}
use Rattle.cp_model_machine.proofs.Sights.{with_sight}
use Rattle.cp_model_machine.proofs.Stacks.{Stacked}
use Rattle.cp_model_machine.proofs.Stepping.{Around, AroundAll, Stepped, does}
use Rattle.cp_model_machine.proofs.Stopping.{Fails, Finishes, On, Stops, act_stops}

-- ---- the next step

abbrev pub Due : List Task → Bool
Due k = holds_gate stage.Ready k || is_kernel_action (action k)

-- What is left to do, whose first task isn't a call.
first_acts : (i : Task) (k : List Task) → IsEnd (action (i ∷ k)) → IsEnd (Acts i k)
first_acts i k end = by (call_in_task (a.Literal 0) i) (procedure_call i) end
  where
    by : (f : Option (UserCall × Task)) (u : Option UserCall) → IsEnd (elim f as (λ x. Action) [ Some v ↦ Calls v.0 (i ∷ k) | None ↦ elim u [ Some v ↦ Calls v k | None ↦ Acts i k ] ]) → IsEnd (Acts i k)
    by None None h = h
    by None (Some u) h = absurd h
    by (Some f) u h = absurd h

-- ---- one step

-- A process that continues or has stopped has begun.
begun_still : (o : PrivateState) (y : Operation) (after : PrivateState) → Stops o y after → HasBegun (status_of after.activity)
begun_still o y after (On goes) = by after.activity goes
  where
    by : (x : Activity) → IsActive x → HasBegun (status_of x)
    by machine.Running h = tt
    by machine.Waiting h = tt
    by _ h = absurd h
begun_still o y after (Fails failed base frames) = by after.activity failed
  where
    by : (x : Activity) → HasFaulted x → HasBegun (status_of x)
    by (machine.Faulted f) h = tt
    by _ h = absurd h
begun_still o y after (Finishes is e) = subst (λ x. HasBegun (status_of x)) (sym is) tt

abbrev IsFinished : PrivateStatus → Type 0
IsFinished parts.Finished = Unit {0}
IsFinished _ = ⊥

-- A process that doesn't run has no step.
pub not_running : (o : PrivateState) → (IsRunning (status_of o.activity) → ⊥) → (program : Program) (k : Kernel) → is_due program (record { kernel = k; own = o }) ≡ false
not_running o still program k = ap (λ b. if b then (if is_begun (stage_of k.stages o.number) then needs_kernel o (operation_of program o) else false) else false) (still_is o.activity still)

-- A process that asks for a gate or is delayed has no step.
not_begun : (o : PrivateState) (program : Program) (k : Kernel) → is_begun (stage_of k.stages o.number) ≡ false → is_due program (record { kernel = k; own = o }) ≡ false
not_begun o program k held = by (machine.is_running o.activity)
  where
    by : (b : Bool) → (if b then (if is_begun (stage_of k.stages o.number) then needs_kernel o (operation_of program o) else false) else false) ≡ false
    by true = ap (λ b. if b then needs_kernel o (operation_of program o) else false) held
    by false = refl

module _ (program : Program) (setup : Setup) (F : IsProgramFor program setup) (p own : ℕ) (s : State) (before : List ℕ) (o : PrivateState) (k : Kernel)
    (I : Invariant s) (number : IsNumber (process_count setup) p) (P : PartOf (ground_of program setup F p own) s before o) (K : KernelOf program F.texts setup s k) where
  abbrev pub G : Ground
  G = ground_of program setup F p own

  abbrev pub H : Ground
  H = with_sight G AllWords (monitors_lie program setup F)

  abbrev pub clock : ℕ
  clock = realtime (running_clock setup s)

  abbrev pub x : Turning
  x = record { kernel = k; own = o }

  abbrev pub w : StepContext
  w = outside clock x

  pub around : Around H s w
  around = record { clock = refl; own = P.count }

  pub all : AroundAll H s w
  all = around_all H F refl s k K w (λ m. refl) (λ r. refl)

  pub reaches : Reaches H s
  reaches (OfProcess q) h = h
  reaches (OfActivation q d) h = h
  reaches (OfMonitor m) h = refl

  module _ (ready : s.status p ≡ stage.Ready) (running : o.activity ≡ machine.Running) where
    R : RunsOn G s.store o (s.continuation p)
    R = P.runs_on (subst IsActive (sym running) tt)

    pub joins : RunsOn H s.store (join_words x) (s.continuation p)
    joins = runs_joined G refl (monitors_lie program setup F) s.store o (s.continuation p) R k.shared K.word_count K.data_means

    pub part_joined : PartOf H s before (join_words x)
    part_joined = record {
      number = P.number;
      input = P.input;
      consumed = P.consumed;
      transcript = P.transcript;
      status = P.status;
      count = joins.count;
      data_means = λ begun. joins.data_means;
      runs_on = λ goes. joins;
    }

    pub S : Stepped H s w before (join_words x)
    S = ready_steps H s w before (join_words x) F refl part_joined I around reaches (s.continuation p) refl ready joins

    -- ---- whose step it is

    stage_begun : stage_of k.stages o.number ≡ Begun
    stage_begun =
        ap (stage_of k.stages) P.number
        ∙ begun (kernel_ground program F.texts setup) (monitor_count setup) (process_count setup) s k own p number ready K.gates_represent

    pub due_is : is_due program x ≡ Due (s.continuation p)
    due_is =
        (λ i. if machine.is_running (running i) then (if is_begun (stage_begun i) then needs_kernel o (S.there i) else false) else false)
        ∙ by (marked_monitors (s.continuation p)) refl
      where
        by : (ms : List ℕ) → marked_monitors (s.continuation p) ≡ ms
            → (if steps.is_held o.gate then true else steps.is_kernel_operation S.operation) ≡ Due (s.continuation p)
        by [] e =
            ap (λ g. if steps.is_held g then true else steps.is_kernel_operation S.operation) (R.gate ∙ ap innermost_gate e)
            ∙ (sym S.same_kind ∙ ap (λ ms. (elim ms as (λ z. Bool) [ [] ↦ false | m ∷ rest ↦ true ]) || is_kernel_action (action (s.continuation p))) (sym e))
        by (m ∷ ms) e =
            ap (λ b. if b then true else steps.is_kernel_operation S.operation) (gate_is_held G s.store o (s.continuation p) m ms R e)
            ∙ ap (λ ms. (elim ms as (λ z. Bool) [ [] ↦ false | m ∷ rest ↦ true ]) || is_kernel_action (action (s.continuation p))) (sym e)

    pub kind_is : kind s p ≡ (if Due (s.continuation p) then meaning.Kernel else meaning.Private)
    kind_is = ap (λ z. kind_of z (s.continuation p)) ready

    -- ---- the step

    abbrev r : Acting
    r = act program w (join_words x) S.operation

    abbrev u : State
    u = step setup s p

    after : PartOf H u before r.0
    after = S.part (inr all)

    pub taken : step_with program w (join_words x) ≡ r
    taken = ap (act_on program w (join_words x)) S.there

    abbrev n : ℕ
    n = length o.words

    abbrev xs : List Activation
    xs = activations r.0.base r.0.frames (u.continuation p)

    abbrev edited : Kernel
    edited = record k { shared = drop n r.0.words }

    module _ (J : StoreInvariant u.store) where
      -- After the words are separated, the kernel and the private state are right, whether the
      -- process runs on or not.
      halves : (top : ℕ) → Stacked H top xs → HasBegun (status_of r.0.activity) → (IsActive r.0.activity → RunsOn G u.store (record r.0 { words = take own r.0.words }) (u.continuation p))
          → TurningOf program setup F p own u before (part_words n x r)
      halves top stack begun runs = record {
        part = record {
          number = after.number;
          input = after.input;
          consumed = after.consumed;
          transcript = after.transcript;
          status = after.status;
          count = ap (λ z. length (take z r.0.words)) P.count ∙ own_count G refl lie u.store J r.0.words xs top stack after.count D;
          data_means = λ later. subst (λ z. DataMeans G xs (in_sight G) u.store (take z r.0.words)) (sym P.count) (data_own G refl lie u.store J r.0.words xs top stack after.count D);
          runs_on = λ goes. subst (λ z. RunsOn G u.store (record r.0 { words = take z r.0.words }) (u.continuation p)) (sym P.count) (runs goes);
        };
        kernel = record {
          word_count = ap length (effect_shared n o.number r.1 edited) ∙ (ap (λ z. length (drop z r.0.words)) P.count ∙ shared_count G refl lie u.store J r.0.words xs top stack after.count D);
          gates_represent = subst (λ z. Represent H u (apply_effect n z r.1 edited)) (sym P.number)
              (effects_kept H s w before (join_words x) S all number ready edited (represent_beside H s k (drop n r.0.words) K.gates_represent));
          data_means = subst (DataMeans (kernel_ground program F.texts setup) [] is_shared u.store) (sym (effect_shared n o.number r.1 edited))
              (subst (λ z. DataMeans (kernel_ground program F.texts setup) [] is_shared u.store (drop z r.0.words)) (sym P.count) (data_shared G refl lie u.store J r.0.words xs top stack after.count D));
        };
      }
        where
          lie : MonitorsLie program setup
          lie = monitors_lie program setup F

          D : DataMeans H xs (in_sight H) u.store r.0.words
          D = after.data_means (subst HasBegun (sym after.status) begun)

      -- If the process faults, what is left to do is unchanged.
      left_same : (res : StepResult) → PartOf H (after_step s p res) before r.0 → HasFaulted r.0.activity → (after_step s p res).continuation p ≡ s.continuation p
      left_same (Fault m) Q fails = refl
      left_same (Gives (c, e)) Q fails = absurd (unfailed s p ready c e (subst HasFailed (sym Q.status) (failed r.0.activity fails)))

      goes_no_fault : (a : Activity) → HasFaulted a → IsActive a → ⊥
      goes_no_fault (machine.Faulted f) h g = g
      goes_no_fault _ h g = h

      -- Only the end mark of the process ends it.
      not_finished : (res : StepResult) → private_status ((after_step s p res).status p) ≡ parts.Finished → Endless res → ⊥
      not_finished (Fault m) e h = subst IsFinished (sym (ap private_status (sym (with_at_here p (stage.Faulted m) s.status)) ∙ e)) tt
      not_finished (Gives (c, y)) e h = by y h (subst IsFinished (sym (sym (private_after s p ready c y) ∙ e)) tt)
        where
          by : (y : Effect) → DoesNotEnd y → IsFinished (private_by y) → ⊥
          by stage.Ends h f = h
          by stage.Waits h f = f
          by _ h f = f

      is_end : (y : Action) → (Endless (does H s y) → ⊥) → IsEnd y
      is_end Rests h = absurd (h (action_endless (context setup s p) (configuration s p) Rests (λ e. e)))
      is_end (Calls v l) h = absurd (h (action_endless (context setup s p) (configuration s p) (Calls v l) (λ e. e)))
      is_end (Acts EndProcess l) h = tt
      is_end (Acts i l) h = absurd (h (action_endless (context setup s p) (configuration s p) (Acts i l) (λ e. e)))

      -- The end of a process leaves its activations as they are.
      ended : (top base : ℕ) (fs : List machine.Frame) (k : List Task) → IsEnd (action k) → Stacked H top (activations base fs k)
          → Stacked H top (activations base fs ((after_step s p (does H s (action k))).continuation p))
      ended top base fs [] end stack = absurd end
      ended top base fs (EndProcess ∷ k) end stack = subst (λ l. Stacked H top (activations base fs l)) (sym (with_at_here p k s.continuation)) stack
      ended top base fs (Do t env ∷ k) end stack = absurd (first_acts (Do t env) k end)
      ended top base fs (WhileTest now e t env ∷ k) end stack = absurd (first_acts (WhileTest now e t env) k end)
      ended top base fs (RepeatTest now t e env ∷ k) end stack = absurd (first_acts (RepeatTest now t e env) k end)
      ended top base fs (ForNext y down m last t env ∷ k) end stack = absurd (first_acts (ForNext y down m last t env) k end)
      ended top base fs (EndCall env gate ∷ k) end stack = absurd (first_acts (EndCall env gate) k end)
      ended top base fs (EndBody gate ∷ k) end stack = absurd (first_acts (EndBody gate) k end)

      turned : TurningOf program setup F p own u before (part_words n x r)
      turned = by (act_stops program w (join_words x) S.operation running)
        where
          by : Stops (join_words x) S.operation r.0 → TurningOf program setup F p own u before (part_words n x r)
          by (On goes) =
              halves _ (runs_stacked H u.store r.0 (u.continuation p) (after.runs_on goes)) (begun_still (join_words x) S.operation r.0 (On goes))
              (λ again. runs_parted G refl (monitors_lie program setup F) u.store J r.0 (u.continuation p) (after.runs_on goes))
          by (Fails fails base frames) =
              halves _ (subst (λ (T : Type 0). T) (λ i. Stacked H top (activations (sym base i) (sym frames i) (sym (left_same (does H s (action (s.continuation p))) after fails) i))) (runs_stacked H s.store (join_words x) (s.continuation p) joins))
              (begun_still (join_words x) S.operation r.0 (Fails fails base frames)) (λ goes. absurd (goes_no_fault r.0.activity fails goes))
            where
              top : ℕ
              top = o.base + (site H joins.running).words
          by (Finishes is e) =
              halves top
              (subst (λ (T : Type 0). T) (λ i. Stacked H top (activations (sym base i) (sym frames i) (u.continuation p)))
              (ended top o.base o.frames (s.continuation p) end (runs_stacked H s.store (join_words x) (s.continuation p) joins)))
              (begun_still (join_words x) S.operation r.0 (Finishes is e)) (λ goes. absurd (subst IsActive is goes))
            where
              top : ℕ
              top = o.base + (site H joins.running).words

              base : r.0.base ≡ o.base
              base = ap (λ y. (act program w (join_words x) y).0.base) e

              frames : r.0.frames ≡ o.frames
              frames = ap (λ y. (act program w (join_words x) y).0.frames) e

              end : IsEnd (action (s.continuation p))
              end = is_end (action (s.continuation p)) (not_finished (does H s (action (s.continuation p))) (after.status ∙ ap status_of is))

  -- ---- all statuses

  -- Neither side makes a step, or both do.
  pub data Which : Type 0 where
    Rest : meaning.kernel_step setup s p ≡ s → plain.kernel_step program clock x ≡ x → Which
    Step : (ready : s.status p ≡ stage.Ready) (running : o.activity ≡ machine.Running) → Due (s.continuation p) ≡ true → meaning.kernel_step setup s p ≡ step setup s p
        → plain.kernel_step program clock x ≡ part_words (length o.words) x (r ready running) → Which

  ready_which : s.status p ≡ stage.Ready → o.activity ≡ machine.Running → Which
  ready_which ready running = by (Due (s.continuation p)) refl
    where
      defined : (b : Bool) → Due (s.continuation p) ≡ b → meaning.kernel_step setup s p ≡ if_kernel (if b then meaning.Kernel else meaning.Private) (step setup s p) s
      defined b e = ap (λ z. if_kernel z (step setup s p) s) (kind_is ready running ∙ ap (λ c. if c then meaning.Kernel else meaning.Private) e)

      by : (b : Bool) → Due (s.continuation p) ≡ b → Which
      by true e = Step ready running e (defined true e) (λ i. if (due_is ready running ∙ e) i then part_words (length o.words) x (taken ready running i) else x)
      by false e = Rest (defined false e) (ap (λ c. if c then part_words (length o.words) x (step_with program w (join_words x)) else x) (due_is ready running ∙ e))

  -- What the kernel says of a process.
  known : (y : Status) → s.status p ≡ y → StageMeans (kernel_ground program F.texts setup) y (stage_of k.stages o.number)
  known y is =
      subst (λ z. StageMeans (kernel_ground program F.texts setup) y (stage_of k.stages z)) (sym P.number)
      (subst (λ z. StageMeans (kernel_ground program F.texts setup) z (stage_of k.stages p)) is (K.gates_represent.stages p number.0 (omega (arith, number.1, K.gates_represent.stage_count))))

  asks : (m : ℕ) (g : SchedulingState) → StageMeans (kernel_ground program F.texts setup) (stage.Asking m) g → is_begun g ≡ false
  asks m (plain.Asking j) means = refl
  asks m _ means = absurd means

  waits : (m : ℕ) (q : Location) (g : SchedulingState) → StageMeans (kernel_ground program F.texts setup) (stage.Delayed m q) g → is_begun g ≡ false
  waits m q (plain.Delayed j at) means = refl
  waits m q _ means = absurd means

  pub which : Which
  which = by (s.status p) refl
    where
      same : (y : Status) → s.status p ≡ y → private_status y ≡ status_of o.activity
      same y is = ap private_status (sym is) ∙ P.status

      rests : (y : Status) → s.status p ≡ y → kind_of y (s.continuation p) ≡ meaning.NoStep → is_due program x ≡ false → Which
      rests y is none idle =
          Rest (ap (λ z. if_kernel z (step setup s p) s) (ap (λ z. kind_of z (s.continuation p)) is ∙ none))
          (ap (λ b. if b then part_words (length o.words) x (step_with program w (join_words x)) else x) idle)

      still : (y : Status) → s.status p ≡ y → kind_of y (s.continuation p) ≡ meaning.NoStep → (IsRunning (private_status y) → ⊥) → Which
      still y is none idle = rests y is none (not_running o (λ h. idle (subst IsRunning (sym (same y is)) h)) program k)

      by : (y : Status) → s.status p ≡ y → Which
      by stage.Ready is = ready_which is (running_is o.activity (subst IsRunning (same stage.Ready is) tt))
      by stage.Unstarted is = still stage.Unstarted is refl (λ h. h)
      by stage.Fresh is = still stage.Fresh is refl (λ h. h)
      by stage.Ended is = still stage.Ended is refl (λ h. h)
      by stage.Waiting is = still stage.Waiting is refl (λ h. h)
      by (stage.Faulted m) is = still (stage.Faulted m) is refl (λ h. h)
      by (stage.Asking m) is = rests (stage.Asking m) is refl (not_begun o program k (asks m (stage_of k.stages o.number) (known (stage.Asking m) is)))
      by (stage.Delayed m q) is = rests (stage.Delayed m q) is refl (not_begun o program k (waits m q (stage_of k.stages o.number) (known (stage.Delayed m q) is)))

  -- So the machine's kernel step makes the kernel and the private state those of the state after
  -- the meaning's.
  pub kernel_step_turns : TurningOf program setup F p own (meaning.kernel_step setup s p) before (plain.kernel_step program clock x)
  kernel_step_turns = by which
    where
      by : Which → TurningOf program setup F p own (meaning.kernel_step setup s p) before (plain.kernel_step program clock x)
      by (Rest defined computed) =
          subst (λ v. TurningOf program setup F p own v before (plain.kernel_step program clock x)) (sym defined)
          (subst (TurningOf program setup F p own s before) (sym computed) (record { part = P; kernel = K }))
      by (Step ready running due defined computed) =
          subst (λ v. TurningOf program setup F p own v before (plain.kernel_step program clock x)) (sym defined)
          (subst (TurningOf program setup F p own (step setup s p) before) (sym computed)
          (turned ready running (subst (λ (v : State). StoreInvariant v.store) defined (kernel_step_keeps setup s p I).store)))

  -- ---- a step of any kind

  -- The process is ready if it runs and has begun.
  ready_is : machine.is_running o.activity ≡ true → is_begun (stage_of k.stages o.number) ≡ true → s.status p ≡ stage.Ready
  ready_is runs begins = by (s.status p) refl
    where
      still : (y : Status) → s.status p ≡ y → (IsRunning (private_status y) → ⊥) → ⊥
      still y is idle =
          true≢false (sym runs ∙ still_is o.activity (λ h. idle (subst IsRunning (sym (ap private_status (sym is) ∙ P.status)) h)))

      by : (y : Status) → s.status p ≡ y → s.status p ≡ stage.Ready
      by stage.Ready is = is
      by stage.Unstarted is = absurd (still stage.Unstarted is (λ h. h))
      by stage.Fresh is = absurd (still stage.Fresh is (λ h. h))
      by stage.Ended is = absurd (still stage.Ended is (λ h. h))
      by stage.Waiting is = absurd (still stage.Waiting is (λ h. h))
      by (stage.Faulted m) is = absurd (still (stage.Faulted m) is (λ h. h))
      by (stage.Asking m) is = absurd (true≢false (sym begins ∙ asks m (stage_of k.stages o.number) (known (stage.Asking m) is)))
      by (stage.Delayed m q) is = absurd (true≢false (sym begins ∙ waits m q (stage_of k.stages o.number) (known (stage.Delayed m q) is)))

  -- So the step leads to the state after the meaning's step, whatever its kind.
  pub joined_step_turns : machine.is_running o.activity ≡ true → is_begun (stage_of k.stages o.number) ≡ true
      → TurningOf program setup F p own (step setup s p) before (plain.joined_step program clock x) × Invariant (step setup s p)
  joined_step_turns runs begins =
      let ready = ready_is runs begins in
      let running = running_is o.activity (subst IsRunning (ap private_status (sym ready) ∙ P.status) tt) in
      let J = kept ready running in (
        subst (TurningOf program setup F p own (step setup s p) before) (sym (ap (part_words (length o.words) x) (taken ready running)))
            (turned ready running J.store),
        J,
      )
    where
      kept : s.status p ≡ stage.Ready → o.activity ≡ machine.Running → Invariant (step setup s p)
      kept ready running = by (Due (s.continuation p)) refl
        where
          by : (b : Bool) → Due (s.continuation p) ≡ b → Invariant (step setup s p)
          by true e =
              subst Invariant (ap (λ z. if_kernel z (step setup s p) s) (kind_is ready running ∙ ap (λ c. if c then meaning.Kernel else meaning.Private) e))
              (kernel_step_keeps setup s p I)
          by false e =
              subst Invariant (ap (λ z. if_private z (step setup s p) s) (kind_is ready running ∙ ap (λ c. if c then meaning.Kernel else meaning.Private) e))
              (private_step_keeps setup s p I)
