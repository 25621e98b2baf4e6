-- A core of a state reports the way of each process.
--
-- The stage and the activity of a process report whether it is ready. The operation at its counter reports
-- whether its next step is late.
use Rattle.std.specs.Prelude.{Bool, None, Option, Some, false, if◌then◌else◌, length, not, refl, slice_get, suc, true, zero, ℕ, ◌-◌, ◌≡◌, ◌≤◌}
use Rattle.std.proofs.Common.{ap, arith, subst, sym, ◌∙◌}
use Rattle.cp_model.specs.Abstract.{Class, Init, Monitor, Process, Sort}
use Rattle.cp_model.specs.Actions.{Action, Acts, Calls, Rests, action, is_kernel_action}
use Rattle.cp_model.specs.Components.{Component, component_named, same_sort}
use Rattle.cp_model.specs.Configurations as status
use Rattle.cp_model.specs.Configurations.{Status}
use Rattle.cp_model.specs.Continuations.{Do}
use Rattle.cp_model.specs.Locations.{Location}
use Rattle.cp_model.specs.Parts.{private_status}
use Rattle.cp_model.specs.States.{Setup, State, monitor_count, process_count}
use Rattle.cp_model_program.specs.Programs as op
use Rattle.cp_model_program.specs.Programs.{Operation, Program}
use Rattle.cp_model_machine.specs.EffectOf.{IsNumber}
use Rattle.cp_model_machine.specs.InState.{IsIn, PartRepresents}
use Rattle.cp_model_machine.specs.KernelOf.{StageMeans, kernel_ground}
use Rattle.cp_model_machine.specs.KernelSteps as stage
use Rattle.cp_model_machine.specs.KernelSteps.{Begun, SchedulingState, is_begun, stage_of}
use Rattle.cp_model_machine.specs.Machines.{Machine, transcript_of}
use Rattle.cp_model_machine.specs.PartOf.{status_of}
use Rattle.cp_model_machine.specs.PrivateStates as machine
use Rattle.cp_model_machine.specs.PrivateStates.{PrivateState, is_running}
use Rattle.cp_model_machine.specs.Steps.{is_kernel_operation, is_start_operation, operation_of}
use Rattle.cp_model_machine.proofs.KernelKept.{begun}
use Rattle.cp_model_machine.proofs.KernelTurning.{S}
use Rattle.cp_model_machine.proofs.PrivateSteps.{IsRunning, running_is, still_is}
use Rattle.cp_model_machine.proofs.Stepping.{is_start}
use Rattle.cp_law_calls.specs.Ways.{Idle, Way, is_late, way, way_of}
use Rattle.cp_law_cores.specs.Cores.{Core, core, silent}
use Rattle.cp_law_cores.proofs.Parts.{got, in_range, map_got}
use Rattle.cp_law_search.specs.Calls.{is_late_at, is_late_operation, way_at, way_by, way_on}
use Rattle.cp_law_search.specs.Laws.{CoreReportsWay}

-- ---- What is late

-- What belongs to the kernel, and starts no process.
late_action : (a : Action) → is_late a ≡ (if is_start a then false else is_kernel_action a)
late_action Rests = refl
late_action (Calls u k) = refl
late_action (Acts (Do (Init x es) env) k) = by (component_named env x)
  where
    by_sort : (y : Sort) → same_sort Monitor y ≡ (if same_sort Process y then false else not (same_sort Class y))
    by_sort Class = refl
    by_sort Monitor = refl
    by_sort Process = refl

    by : (o : Option Component) → (elim o as (λ z. Bool) [ None ↦ false | Some c ↦ same_sort Monitor c.system.sort ])
        ≡ (if (elim o as (λ z. Bool) [ None ↦ false | Some c ↦ same_sort Process c.system.sort ]) then false
        else not (elim o as (λ z. Bool) [ None ↦ true | Some c ↦ same_sort Class c.system.sort ]))
    by None = refl
    by (Some c) = by_sort c.system.sort
late_action (Acts _ k) = refl

pub late_operation : (y : Operation) → is_late_operation y ≡ (if is_start_operation y then false else is_kernel_operation y)
late_operation (op.InitProcess r arguments words next) = refl
late_operation _ = refl

-- ---- One process

module _ (m : Machine) (setup : Setup) (s : State) (I : IsIn m setup s) (p : ℕ) (number : IsNumber (process_count setup) p) (o : PrivateState)
    (represents : PartRepresents m setup I.represents s p o) where
  abbrev computed : Way
  computed = way_on m.program m.kernel (Some (silent o))

  abbrev on : Bool → Bool → Bool → Way
  on runs begun late = if runs then (if begun then way_by late else Idle) else Idle

  same : (x : Status) → s.status p ≡ x → private_status x ≡ status_of o.activity
  same x is = ap private_status (sym is) ∙ represents.part.status

  known : (x : Status) → s.status p ≡ x → StageMeans (kernel_ground m.program I.represents.texts setup) x (stage_of m.kernel.stages o.number)
  known x is =
      let G = I.kernel.gates_represent in
      subst (λ z. StageMeans (kernel_ground m.program I.represents.texts setup) x (stage_of m.kernel.stages z)) (sym represents.part.number)
      (subst (λ z. StageMeans (kernel_ground m.program I.represents.texts setup) z (stage_of m.kernel.stages p)) is
      (let high = number.1 in let count = G.stage_count in G.stages p number.0 (Prim.omega (arith, high, count))))

  ready : s.status p ≡ status.Ready → o.activity ≡ machine.Running → computed ≡ way s p
  ready is runs =
      let T = S m.program setup I.represents p (length o.words) s (transcript_of m.transcripts p) o m.kernel I.order.invariant number represents.part I.kernel is runs in
      let there : operation_of m.program (silent o) ≡ Some T.operation = T.there in
      let stage : stage_of m.kernel.stages o.number ≡ Begun =
      ap (stage_of m.kernel.stages) represents.part.number
      ∙ begun (kernel_ground m.program I.represents.texts setup) (monitor_count setup) (process_count setup) s m.kernel (length o.words) p number is I.kernel.gates_represent in
      let late : is_late_operation T.operation ≡ is_late (action (s.continuation p)) =
      late_operation T.operation
      ∙ ((λ i. if sym T.same_start i then false else sym T.same_kind i)
      ∙ sym (late_action (action (s.continuation p)))) in
      (λ i. on (is_running (runs i)) (is_begun (stage i)) (is_late_at (there i)))
      ∙ (ap way_by late ∙ sym (ap (λ z. way_of z (s.continuation p)) is))

  rests : (x : Status) → s.status p ≡ x → (IsRunning (private_status x) → ⊥) → way_of x (s.continuation p) ≡ Idle → computed ≡ way s p
  rests x is idle e =
      ap (λ b. on b (is_begun (stage_of m.kernel.stages o.number)) (is_late_at (operation_of m.program (silent o))))
      (still_is o.activity (λ h. idle (subst IsRunning (sym (same x is)) h)))
      ∙ sym (ap (λ z. way_of z (s.continuation p)) is ∙ e)

  blocked : (x : Status) → s.status p ≡ x → is_begun (stage_of m.kernel.stages o.number) ≡ false → way_of x (s.continuation p) ≡ Idle → computed ≡ way s p
  blocked x is h e =
      ap (λ b. on (is_running o.activity) b (is_late_at (operation_of m.program (silent o)))) h
      ∙ (by (is_running o.activity) ∙ sym (ap (λ z. way_of z (s.continuation p)) is ∙ e))
    where
      by : (b : Bool) → (if b then Idle else Idle) ≡ Idle
      by true = refl
      by false = refl

  asks : (g : ℕ) (y : SchedulingState) → StageMeans (kernel_ground m.program I.represents.texts setup) (status.Asking g) y → is_begun y ≡ false
  asks g (stage.Asking j) means = refl
  asks g _ means = absurd means

  waits : (g : ℕ) (q : Location) (y : SchedulingState) → StageMeans (kernel_ground m.program I.represents.texts setup) (status.Delayed g q) y → is_begun y ≡ false
  waits g q (stage.Delayed j at) means = refl
  waits g q _ means = absurd means

  reports : computed ≡ way s p
  reports = by (s.status p) refl
    where
      by : (x : Status) → s.status p ≡ x → computed ≡ way s p
      by status.Ready is = ready is (running_is o.activity (subst IsRunning (same status.Ready is) tt))
      by status.Unstarted is = rests status.Unstarted is (λ h. h) refl
      by status.Fresh is = rests status.Fresh is (λ h. h) refl
      by status.Ended is = rests status.Ended is (λ h. h) refl
      by status.Waiting is = rests status.Waiting is (λ h. h) refl
      by (status.Faulted n) is = rests (status.Faulted n) is (λ h. h) refl
      by (status.Asking g) is = blocked (status.Asking g) is (asks g (stage_of m.kernel.stages o.number) (known (status.Asking g) is)) refl
      by (status.Delayed g q) is = blocked (status.Delayed g q) is (waits g q (stage_of m.kernel.stages o.number) (known (status.Delayed g q) is)) refl

-- ---- Cores

pub core_reports_way : CoreReportsWay
core_reports_way program setup s c p h there =
    subst (λ (z : Core). way_at program z p ≡ way s p) h.is
    (subst (λ (q : Program). way_at q (core h.machine) p ≡ way s p) h.program_is (by p (in_range setup p there)))
  where
    by : (p : ℕ) → (1 ≤ p) × (p ≤ process_count setup) → way_at h.machine.program (core h.machine) p ≡ way s p
    by zero range = absurd (let low = range.0 in Prim.omega (arith, low))
    by (suc i) range =
        let m = h.machine in
        let high = range.1 in
        let count = h.inside.part_count in
        let x = got m.parts i (Prim.omega (arith, high, count)) in
        let place : i ≡ suc i - 1 = Prim.omega arith in
        let represents = h.inside.parts (suc i) x.0 (Prim.omega arith) (subst (λ k. slice_get m.parts k ≡ Some x.0) place x.1) in
        ap (way_on m.program m.kernel) (map_got silent m.parts i x.0 x.1) ∙ reports m setup s h.inside (suc i) range x.0 represents
