-- The private step of the machine is that of the meaning, even if neither has one.
use Rattle.std.proofs.Common.{◌≡◌, ℕ, List, [], ◌∷◌, Bool, true, false, Option, Some, None, refl, ap, sym, subst, ◌∙◌}
use Rattle.std.specs.Prelude.{◌||◌, if◌then◌else◌, not}
use Rattle.std.proofs.lemmas.Bool.{true≢false}
use Rattle.cp_model.specs.Actions.{action, is_kernel_action}
use Rattle.cp_model.specs.Configurations as stage
use Rattle.cp_model.specs.Configurations.{Status}
use Rattle.cp_model.specs.Continuations.{is_in_monitor, marked_monitors}
use Rattle.cp_model.specs.Invariant.{Invariant, IsBlocked}
use Rattle.cp_model.specs.Operators.{realtime}
use Rattle.cp_model.specs.Parts as parts
use Rattle.cp_model.specs.Parts.{PrivateStatus, is_own, private_status}
use Rattle.cp_model.specs.States.{State}
use Rattle.cp_model.specs.Turns.{Kernel, NoStep, Private, if_private, kind_of, private_step, step}
use Rattle.cp_model_program.specs.Programs.{Operation}
use Rattle.cp_model_program.specs.Sites.{operation_at}
use Rattle.cp_model_machine.specs.PrivateStates as machine
use Rattle.cp_model_machine.specs.PrivateStates.{Activity, StepContext, PrivateState}
use Rattle.cp_model_machine.specs.Steps as steps
use Rattle.cp_model_machine.specs.Steps.{act_on, alone}
use Rattle.cp_model_machine.specs.Addresses.{Ground, OwnWords, sees, words_seen}
use Rattle.cp_model_machine.specs.Laws.{PrivateStepIsStep, ground_of}
use Rattle.cp_model_machine.specs.Remaining.{innermost_gate}
use Rattle.cp_model_machine.specs.PartOf.{IsActive, PartOf, RunsOn, status_of}
use Rattle.cp_model_machine.proofs.Deciding.{Reaches, ready_steps}
use Rattle.cp_model_machine.proofs.GatesHeld.{gate_is_held}
use Rattle.cp_model_machine.proofs.Alone.{StepsAlone, steps_alone}
use Rattle.cp_model_machine.proofs.Stepping.{clock_of}
use Rattle.cp_model.specs.Locations.{OfActivation, OfMonitor, OfProcess, Owner}
use Rattle.cp_model.specs.Reach.{in_reach}
use Rattle.cp_model_program.specs.IsProgramFor.{IsProgramFor}

module _ (G : Ground) (s : State) (before : List ℕ) (o : PrivateState) (part : PartOf G s before o) where
  -- Neither side makes a step.
  neither : private_step G.setup s G.p ≡ s → steps.private_step G.program (realtime (clock_of G s)) o ≡ o → StepsAlone G s before o
  neither defined computed =
      subst (λ (u : State). PartOf G u before (steps.private_step G.program (realtime (clock_of G s)) o)) (sym defined) (subst (PartOf G s before) (sym computed) part)

  -- The machine does nothing if the process doesn't run, or if it holds a gate.
  not_running : (x : Activity) → o.activity ≡ x → machine.is_running x ≡ false → steps.private_step G.program (realtime (clock_of G s)) o ≡ o
  not_running x is none =
      ap (λ b. if b then (if steps.is_private o (operation_at G.program o.counter) then (act_on G.program (alone (realtime (clock_of G s)) o) o (operation_at G.program o.counter)).0 else o) else o)
      (ap machine.is_running is ∙ none)

  gate_held : steps.is_held o.gate ≡ true → steps.private_step G.program (realtime (clock_of G s)) o ≡ o
  gate_held held = by (operation_at G.program o.counter) (machine.is_running o.activity)
    where
      inner : (x : Option Operation) → (if steps.is_private o x then (act_on G.program (alone (realtime (clock_of G s)) o) o x).0 else o) ≡ o
      inner None = refl
      inner (Some y) = ap (λ b. if (if b then false else not (steps.is_kernel_operation y)) then (act_on G.program (alone (realtime (clock_of G s)) o) o (Some y)).0 else o) held

      by : (x : Option Operation) (b : Bool) → (if b then (if steps.is_private o x then (act_on G.program (alone (realtime (clock_of G s)) o) o x).0 else o) else o) ≡ o
      by x true = inner x
      by x false = refl

  -- The meaning does nothing.
  no_step : (x : Status) → s.status G.p ≡ x → kind_of x (s.continuation G.p) ≡ NoStep → private_step G.setup s G.p ≡ s
  no_step x is none = ap (λ z. if_private z (step G.setup s G.p) s) (ap (λ z. kind_of z (s.continuation G.p)) is ∙ none)

  kernel_step : (m : ℕ) (ms : List ℕ) → s.status G.p ≡ stage.Ready → marked_monitors (s.continuation G.p) ≡ m ∷ ms → private_step G.setup s G.p ≡ s
  kernel_step m ms ready marks =
      ap (λ z. if_private z (step G.setup s G.p) s)
      (ap (λ z. kind_of z (s.continuation G.p)) ready
      ∙ ap (λ z. if (elim z as (λ y. Bool) [ [] ↦ false | n ∷ ns ↦ true ]) || is_kernel_action (action (s.continuation G.p)) then Kernel else Private) marks)

  -- ---- all cases

  runs : o.activity ≡ machine.Running → RunsOn G s.store o (s.continuation G.p)
  runs is = part.runs_on (subst IsActive (sym is) tt)

  -- The process asks for a gate or is delayed, so it has entered a monitor.
  blocked_rests : (x : Status) → s.status G.p ≡ x → kind_of x (s.continuation G.p) ≡ NoStep → is_in_monitor (s.continuation G.p) ≡ true → o.activity ≡ machine.Running → StepsAlone G s before o
  blocked_rests x is none inside running = by (marked_monitors (s.continuation G.p)) refl inside
    where
      by : (ms : List ℕ) → marked_monitors (s.continuation G.p) ≡ ms → (elim ms as (λ y. Bool) [ [] ↦ false | n ∷ ns ↦ true ]) ≡ true → StepsAlone G s before o
      by [] e h = absurd (true≢false (sym h))
      by (m ∷ ms) e h = neither (no_step x is none) (gate_held (gate_is_held G s.store o (s.continuation G.p) m ms (runs running) e))

  idle : (x : Status) (y : Activity) → s.status G.p ≡ x → o.activity ≡ y → kind_of x (s.continuation G.p) ≡ NoStep → machine.is_running y ≡ false → StepsAlone G s before o
  idle x y is activity none still = neither (no_step x is none) (not_running y activity still)

-- ---- a process that holds no gate

-- Outside all monitors, only what the process owns is in its reach.
reach_own : (p : ℕ) (o : Owner) → in_reach p [] o ≡ true → is_own p o ≡ true
reach_own p (OfProcess q) h = h
reach_own p (OfActivation q d) h = h
reach_own p (OfMonitor m) h = absurd (true≢false (sym h))

ready_alone : (G : Ground) (s : State) (before : List ℕ) (o : PrivateState) (F : IsProgramFor G.program G.setup) → F.texts ≡ G.texts → G.sight ≡ OwnWords → PartOf G s before o → Invariant s
    → s.status G.p ≡ stage.Ready → marked_monitors (s.continuation G.p) ≡ [] → o.activity ≡ machine.Running → StepsAlone G s before o
ready_alone G s before o F texts sight part I ready marks running =
    steps_alone G s before o part ready marks running gate
    (ready_steps G s w before o F texts part I (record { clock = refl; own = part.count ∙ ap (λ v. words_seen v G.program G.own) sight }) reaches (s.continuation G.p) refl ready on)
  where
    w : StepContext
    w = alone (realtime (clock_of G s)) o

    on : RunsOn G s.store o (s.continuation G.p)
    on = part.runs_on (subst IsActive (sym running) tt)

    gate : o.gate ≡ 0
    gate = on.gate ∙ ap innermost_gate marks

    reaches : Reaches G s
    reaches q h = subst (λ v. sees v G.p q ≡ true) (sym sight) (reach_own G.p q (ap (λ z. in_reach G.p z q) (sym marks) ∙ h))

abbrev pub IsRunning : PrivateStatus → Type 0
IsRunning parts.Running = Unit {0}
IsRunning _ = ⊥

-- A process runs in the meaning if and only if it runs in the machine.
pub running_is : (x : Activity) → IsRunning (status_of x) → x ≡ machine.Running
running_is machine.Running h = refl
running_is machine.NotBegun h = absurd h
running_is machine.Waiting h = absurd h
running_is machine.Ended h = absurd h
running_is (machine.Faulted f) h = absurd h

pub still_is : (x : Activity) → (IsRunning (status_of x) → ⊥) → machine.is_running x ≡ false
still_is machine.Running h = absurd (h tt)
still_is machine.NotBegun h = refl
still_is machine.Waiting h = refl
still_is machine.Ended h = refl
still_is (machine.Faulted f) h = refl

pub private_step_is_step : PrivateStepIsStep
private_step_is_step program setup F p own s before o I part = by (s.status p) refl
  where
    same : (x : Status) → s.status p ≡ x → private_status x ≡ status_of o.activity
    same x is = ap private_status (sym is) ∙ part.status

    running : (x : Status) → s.status p ≡ x → IsRunning (private_status x) → o.activity ≡ machine.Running
    running x is h = running_is o.activity (subst IsRunning (same x is) h)

    rests : (x : Status) → s.status p ≡ x → kind_of x (s.continuation p) ≡ NoStep → (IsRunning (private_status x) → ⊥) → StepsAlone (ground_of program setup F p own) s before o
    rests x is none still =
        idle (ground_of program setup F p own) s before o part x o.activity is refl none (still_is o.activity (λ h. still (subst IsRunning (sym (same x is)) h)))

    ready : (ms : List ℕ) → marked_monitors (s.continuation p) ≡ ms → s.status p ≡ stage.Ready → StepsAlone (ground_of program setup F p own) s before o
    ready [] marks is = ready_alone (ground_of program setup F p own) s before o F refl refl part I is marks (running stage.Ready is tt)
    ready (m ∷ ms) marks is =
        neither (ground_of program setup F p own) s before o part (kernel_step (ground_of program setup F p own) s before o part m ms is marks)
        (gate_held (ground_of program setup F p own) s before o part
        (gate_is_held (ground_of program setup F p own) s.store o (s.continuation p) m ms (runs (ground_of program setup F p own) s before o part (running stage.Ready is tt)) marks))

    by : (x : Status) → s.status p ≡ x → StepsAlone (ground_of program setup F p own) s before o
    by stage.Unstarted is = rests stage.Unstarted is refl (λ h. h)
    by stage.Fresh is = rests stage.Fresh is refl (λ h. h)
    by stage.Ready is = ready (marked_monitors (s.continuation p)) refl is
    by stage.Ended is = rests stage.Ended is refl (λ h. h)
    by stage.Waiting is = rests stage.Waiting is refl (λ h. h)
    by (stage.Asking m) is =
        blocked_rests (ground_of program setup F p own) s before o part (stage.Asking m) is refl (I.blocked p (subst IsBlocked (sym is) tt)) (running (stage.Asking m) is tt)
    by (stage.Delayed m q) is =
        blocked_rests (ground_of program setup F p own) s before o part (stage.Delayed m q) is refl (I.blocked p (subst IsBlocked (sym is) tt)) (running (stage.Delayed m q) is tt)
    by (stage.Faulted n) is = rests (stage.Faulted n) is refl (λ h. h)
