-- The kind of the next step is the one in the meaning.
use Rattle.std.proofs.Common.{◌≡◌, ℕ, List, [], ◌∷◌, Bool, true, false, None, Some, refl, ap, sym, subst, ◌∙◌}
use Rattle.std.specs.Prelude.{◌||◌, if◌then◌else◌, not}
use Rattle.std.proofs.lemmas.Bool.{true≢false}
use Rattle.cp_model.specs.Actions.{action, is_kernel_action}
use Rattle.cp_model.specs.Configurations as stage
use Rattle.cp_model.specs.Configurations.{Status}
use Rattle.cp_model.specs.Continuations.{is_in_monitor, marked_monitors}
use Rattle.cp_model.specs.Invariant.{Invariant, IsBlocked}
use Rattle.cp_model.specs.Locations.{OfActivation, OfMonitor, OfProcess, Owner}
use Rattle.cp_model.specs.Operators.{realtime}
use Rattle.cp_model.specs.Parts.{is_own, private_status}
use Rattle.cp_model.specs.Reach.{in_reach}
use Rattle.cp_model.specs.States.{Setup, State}
use Rattle.cp_model.specs.Turns as meaning
use Rattle.cp_model_program.specs.Programs.{Program}
use Rattle.cp_model_program.specs.IsProgramFor.{IsProgramFor}
use Rattle.cp_model_machine.specs.Addresses.{Ground}
use Rattle.cp_model_machine.specs.KernelSteps.{needs_kernel}
use Rattle.cp_model_machine.specs.Laws.{ground_of}
use Rattle.cp_model_machine.specs.Remaining.{innermost_gate}
use Rattle.cp_model_machine.specs.PartOf.{IsActive, PartOf, RunsOn, status_of}
use Rattle.cp_model_machine.specs.PrivateStates as machine
use Rattle.cp_model_machine.specs.PrivateStates.{StepContext, PrivateState}
use Rattle.cp_model_machine.specs.Steps as steps
use Rattle.cp_model_machine.specs.Steps.{alone, operation_of}
use Rattle.cp_model_machine.proofs.Deciding.{ready_steps}
use Rattle.cp_model_machine.proofs.GatesHeld.{gate_is_held}
use Rattle.cp_model_machine.proofs.PrivateSteps.{IsRunning, running_is, still_is}
use Rattle.cp_model_machine.proofs.Stepping.{Stepped, clock_of}
use Rattle.cp_private.specs.Kinds.{kind_of}
use Rattle.cp_private.specs.Promises.{meaning_kind}
use Rattle.cp_private.specs.declared.kind.Kind.{Kind}
use Rattle.cp_private.specs.declared.kind.Kind.TheVariants as kind

-- Only what the process owns is within its reach.
reach_own : (p : ℕ) (o : Owner) → in_reach p [] o ≡ true → is_own p o ≡ true
reach_own p (OfProcess q) h = h
reach_own p (OfActivation q d) h = h
reach_own p (OfMonitor m) h = absurd (true≢false (sym h))

module _ (program : Program) (setup : Setup) (F : IsProgramFor program setup) (p own : ℕ) (s : State) (before : List ℕ) (o : PrivateState) (I : Invariant s)
    (part : PartOf (ground_of program setup F p own) s before o) where
  abbrev G : Ground
  G = ground_of program setup F p own

  abbrev w : StepContext
  w = alone (realtime (clock_of G s)) o

  same : (x : Status) → s.status p ≡ x → private_status x ≡ status_of o.activity
  same x is = ap private_status (sym is) ∙ part.status

  running : s.status p ≡ stage.Ready → o.activity ≡ machine.Running
  running is = running_is o.activity (subst IsRunning (same stage.Ready is) tt)

  on : s.status p ≡ stage.Ready → RunsOn G s.store o (s.continuation p)
  on is = part.runs_on (subst IsActive (sym (running is)) tt)

  -- What the machine says of a process that runs.
  abbrev reported : Bool → Bool → Kind
  reported held of_kernel = if (if held then false else not of_kernel) then kind.Private else (if (if held then true else of_kernel) then kind.Kernel else kind.None)

  -- It holds no gate.
  ready_free : (is : s.status p ≡ stage.Ready) → marked_monitors (s.continuation p) ≡ [] → meaning.kind s p ≡ meaning_kind (kind_of program o)
  ready_free is marks =
      let stepped : Stepped G s w before o =
      ready_steps G s w before o F refl part I (record { clock = refl; own = part.count }) (λ q h. reach_own p q (ap (λ z. in_reach p z q) (sym marks) ∙ h))
      (s.continuation p) refl is (on is) in
      let gate : o.gate ≡ 0 = (on is).gate ∙ ap innermost_gate marks in
      let computed : kind_of program o ≡ reported false (steps.is_kernel_operation stepped.operation) =
      (λ i. if machine.is_running (running is i)
      then (if steps.is_private o (stepped.there i) then kind.Private else (if needs_kernel o (stepped.there i) then kind.Kernel else kind.None))
      else kind.None)
      ∙ ap (λ g. reported (steps.is_held g) (steps.is_kernel_operation stepped.operation)) gate in
      let defined : meaning.kind s p ≡ (if steps.is_kernel_operation stepped.operation then meaning.Kernel else meaning.Private) =
      ap (λ z. meaning.kind_of z (s.continuation p)) is
      ∙ (ap (λ ms. if (elim ms as (λ z. Bool) [ [] ↦ false | m ∷ rest ↦ true ]) || is_kernel_action (action (s.continuation p)) then meaning.Kernel else meaning.Private) marks
      ∙ ap (λ b. if b then meaning.Kernel else meaning.Private) stepped.same_kind) in
      defined ∙ (by (steps.is_kernel_operation stepped.operation) ∙ ap meaning_kind (sym computed))
    where
      by : (b : Bool) → (if b then meaning.Kernel else meaning.Private) ≡ meaning_kind (reported false b)
      by true = refl
      by false = refl

  -- What runs and holds a gate takes steps of the kernel.
  held_is_kernel : o.activity ≡ machine.Running → steps.is_held o.gate ≡ true → kind_of program o ≡ kind.Kernel
  held_is_kernel runs held =
      ap (λ x. if machine.is_running x
      then (if steps.is_private o (operation_of program o) then kind.Private else (if needs_kernel o (operation_of program o) then kind.Kernel else kind.None))
      else kind.None) runs ∙ gated held
    where
      gated : steps.is_held o.gate ≡ true
          → (if steps.is_private o (operation_of program o) then kind.Private else (if needs_kernel o (operation_of program o) then kind.Kernel else kind.None)) ≡ kind.Kernel
      gated held = elim (operation_of program o) as (λ x. (if steps.is_private o x then kind.Private else (if needs_kernel o x then kind.Kernel else kind.None)) ≡ kind.Kernel) [
        | None ↦ ap (λ b. if b then kind.Kernel else kind.None) held
        | Some x ↦ ap (λ b. reported b (steps.is_kernel_operation x)) held
      ]

  -- It holds a gate.
  ready_held : (is : s.status p ≡ stage.Ready) (m : ℕ) (ms : List ℕ) → marked_monitors (s.continuation p) ≡ m ∷ ms → meaning.kind s p ≡ meaning_kind (kind_of program o)
  ready_held is m ms marks =
      let held : steps.is_held o.gate ≡ true = gate_is_held G s.store o (s.continuation p) m ms (on is) marks in
      let defined : meaning.kind s p ≡ meaning.Kernel =
      ap (λ z. meaning.kind_of z (s.continuation p)) is
      ∙ ap (λ ns. if (elim ns as (λ z. Bool) [ [] ↦ false | n ∷ rest ↦ true ]) || is_kernel_action (action (s.continuation p)) then meaning.Kernel else meaning.Private) marks in
      defined ∙ ap meaning_kind (sym (held_is_kernel (running is) held))

  -- It asks or is delayed, so it is in a monitor.
  blocked_runs : (x : Status) → s.status p ≡ x → IsBlocked x → o.activity ≡ machine.Running
  blocked_runs (stage.Asking m) is h = running_is o.activity (subst IsRunning (same (stage.Asking m) is) tt)
  blocked_runs (stage.Delayed m q) is h = running_is o.activity (subst IsRunning (same (stage.Delayed m q) is) tt)
  blocked_runs stage.Unstarted is h = absurd h
  blocked_runs stage.Fresh is h = absurd h
  blocked_runs stage.Ready is h = absurd h
  blocked_runs stage.Ended is h = absurd h
  blocked_runs stage.Waiting is h = absurd h
  blocked_runs (stage.Faulted n) is h = absurd h

  pub blocked_is_kernel : IsBlocked (s.status p) → kind_of program o ≡ kind.Kernel
  blocked_is_kernel h = inside (marked_monitors (s.continuation p)) refl (I.blocked p h)
    where
      runs : o.activity ≡ machine.Running
      runs = blocked_runs (s.status p) refl h

      inside : (ms : List ℕ) → marked_monitors (s.continuation p) ≡ ms → is_in_monitor (s.continuation p) ≡ true → kind_of program o ≡ kind.Kernel
      inside [] marks there = absurd (true≢false (sym there ∙ ap (λ ns. elim ns as (λ z. Bool) [ [] ↦ false | n ∷ rest ↦ true ]) marks))
      inside (m ∷ ms) marks there =
          held_is_kernel runs (gate_is_held G s.store o (s.continuation p) m ms (part.runs_on (subst IsActive (sym runs) tt)) marks)

  -- It doesn't run.
  still : (x : Status) → s.status p ≡ x → meaning.kind_of x (s.continuation p) ≡ meaning.NoStep → (IsRunning (private_status x) → ⊥) → meaning.kind s p ≡ meaning_kind (kind_of program o)
  still x is none is_idle =
      ap (λ z. meaning.kind_of z (s.continuation p)) is ∙ (none
      ∙ ap meaning_kind (sym (ap (λ b. if b
      then (if steps.is_private o (operation_of program o) then kind.Private else (if needs_kernel o (operation_of program o) then kind.Kernel else kind.None))
      else kind.None) (still_is o.activity (λ h. is_idle (subst IsRunning (sym (same x is)) h))))))

  pub kind_is_meant : (IsBlocked (s.status p) → ⊥) → meaning.kind s p ≡ meaning_kind (kind_of program o)
  kind_is_meant free = by (s.status p) refl
    where
      ready : (ms : List ℕ) → marked_monitors (s.continuation p) ≡ ms → s.status p ≡ stage.Ready → meaning.kind s p ≡ meaning_kind (kind_of program o)
      ready [] marks is = ready_free is marks
      ready (m ∷ ms) marks is = ready_held is m ms marks

      by : (x : Status) → s.status p ≡ x → meaning.kind s p ≡ meaning_kind (kind_of program o)
      by stage.Unstarted is = still stage.Unstarted is refl (λ h. h)
      by stage.Fresh is = still stage.Fresh is refl (λ h. h)
      by stage.Ready is = ready (marked_monitors (s.continuation p)) refl is
      by stage.Ended is = still stage.Ended is refl (λ h. h)
      by stage.Waiting is = still stage.Waiting is refl (λ h. h)
      by (stage.Asking m) is = absurd (free (subst IsBlocked (sym is) tt))
      by (stage.Delayed m q) is = absurd (free (subst IsBlocked (sym is) tt))
      by (stage.Faulted n) is = still (stage.Faulted n) is refl (λ h. h)
