-- The steps of a core are those of its states, and a state reports which of them are private.
--
-- A core is that of a machine in the state. A step of the machine leads to the state's next, and its core
-- makes the same step. So the next core is that of the next state.
use Rattle.std.specs.Prelude.{Bool, List, None, Option, Some, [], false, if◌then◌else◌, length, not, refl, slice_get, suc, true, zero, ℕ, ◌-◌, ◌||◌, ◌∷◌, ◌≡◌, ◌≤◌}
use Rattle.std.proofs.Common.{ap, arith, subst, sym, ◌∙◌}
use Rattle.std.proofs.lemmas.Bool.{true≢false}
use Rattle.cp_model.specs.Actions.{action, is_kernel_action}
use Rattle.cp_model.specs.Configurations as status
use Rattle.cp_model.specs.Configurations.{Status}
use Rattle.cp_model.specs.Continuations.{is_in_monitor, marked_monitors}
use Rattle.cp_model.specs.Invariant.{IsBlocked}
use Rattle.cp_model.specs.Locations.{OfActivation, OfMonitor, OfProcess, Owner}
use Rattle.cp_model.specs.Operators.{realtime}
use Rattle.cp_model.specs.Parts as parts
use Rattle.cp_model.specs.Parts.{PrivateStatus, is_own, private_status}
use Rattle.cp_model.specs.Reach.{in_reach}
use Rattle.cp_model.specs.Rounds as rounds
use Rattle.cp_model.specs.Rounds.{Event, close_round, replay_event, wake}
use Rattle.cp_model.specs.States.{Setup, State, is_in, process_count, processes}
use Rattle.cp_model.specs.Turns.{Kernel, Private, kernel_step, kind, kind_of, private_step}
use Rattle.cp_law_gates.specs.InOrder.{world}
use Rattle.cp_law_gates.proofs.Reached.{event_keeps, wakes}
use Rattle.cp_model_program.specs.Programs.{Operation, Program}
use Rattle.cp_model_machine.specs.Addresses.{Ground}
use Rattle.cp_model_machine.specs.InState.{IsIn, PartRepresents}
use Rattle.cp_model_machine.specs.Laws.{ground_of}
use Rattle.cp_model_machine.specs.Remaining.{innermost_gate}
use Rattle.cp_model_machine.specs.Machines as machines
use Rattle.cp_model_machine.specs.Machines.{Machine, end_round, transcript_of}
use Rattle.cp_model_machine.specs.PartOf.{IsActive, RunsOn, status_of}
use Rattle.cp_model_machine.specs.PrivateStates as machine
use Rattle.cp_model_machine.specs.PrivateStates.{Activity, PrivateState, is_running}
use Rattle.cp_model_machine.specs.Replays.{event, process_of}
use Rattle.cp_model_machine.specs.Steps.{alone, is_held, is_kernel_operation, is_private, operation_of}
use Rattle.cp_model_machine.proofs.Deciding.{ready_steps}
use Rattle.cp_model_machine.proofs.GatesHeld.{gate_is_held}
use Rattle.cp_model_machine.proofs.MachineReplays.{event_represents}
use Rattle.cp_model_machine.proofs.MachineRounds.{spelled, wake_represents}
use Rattle.cp_model_machine.proofs.MachineStarts.{as_whole, end_is_end, ordered, own_words, part_by_part}
use Rattle.cp_model_machine.proofs.PrivateSteps.{IsRunning, running_is}
use Rattle.cp_model_machine.proofs.Stepping.{clock_of}
use Rattle.cp_law_cores.specs.Clocks.{is_timeless}
use Rattle.cp_law_cores.specs.Cores.{Core, close, core, is_private_on, kernel_at, part, private_at, silent}
use Rattle.cp_law_cores.specs.CoresOfStates.{IsCoreIn, is_private_kind}
use Rattle.cp_law_cores.specs.Laws.{CoreReportsKind, RoundsKeepCores, StepsKeepCores}
use Rattle.cp_law_cores.proofs.Acts.{apply}
use Rattle.cp_law_cores.proofs.Parts.{got, in_range, map_got}
use Rattle.cp_law_cores.proofs.Runs.{act_of, event_sees, here}
use Rattle.cp_law_cores.proofs.Seen.{Sees, end_round_by, wake_seen}

reach_own : (p : ℕ) (o : Owner) → in_reach p [] o ≡ true → is_own p o ≡ true
reach_own p (OfProcess q) h = h
reach_own p (OfActivation q d) h = h
reach_own p (OfMonitor m) h = absurd (true≢false (sym h))

-- ---- One process

module _ (m : Machine) (setup : Setup) (s : State) (I : IsIn m setup s) (p : ℕ) (o : PrivateState) (represents : PartRepresents m setup I.represents s p o) where
  abbrev G : Ground
  G = ground_of m.program setup I.represents p (length o.words)

  abbrev computed : Bool
  computed = is_private_on m.program (Some (silent o))

  held : is_held o.gate ≡ true → computed ≡ false
  held h = by (operation_of m.program o) (is_running o.activity)
    where
      inner : (x : Option Operation) → is_private (silent o) x ≡ false
      inner None = refl
      inner (Some y) = ap (λ (b : Bool). if b then false else not (is_kernel_operation y)) h

      by : (x : Option Operation) (b : Bool) → (if b then is_private (silent o) x else false) ≡ false
      by x true = inner x
      by x false = refl

  stopped : is_running o.activity ≡ false → computed ≡ false
  stopped h = ap (λ (b : Bool). if b then is_private (silent o) (operation_of m.program o) else false) h

  goes : o.activity ≡ machine.Running → RunsOn G s.store o (s.continuation p)
  goes runs = represents.part.runs_on (subst IsActive (sym runs) tt)

  in_monitor : (g : ℕ) (ms : List ℕ) → marked_monitors (s.continuation p) ≡ g ∷ ms → o.activity ≡ machine.Running → computed ≡ false
  in_monitor g ms e runs = held (gate_is_held G s.store o (s.continuation p) g ms (goes runs) e)

  blocked : is_in_monitor (s.continuation p) ≡ true → o.activity ≡ machine.Running → computed ≡ false
  blocked inside runs = by (marked_monitors (s.continuation p)) refl inside
    where
      by : (ms : List ℕ) → marked_monitors (s.continuation p) ≡ ms → (elim ms as (λ y. Bool) [ [] ↦ false | n ∷ ns ↦ true ]) ≡ true → computed ≡ false
      by [] e h = absurd (true≢false (sym h))
      by (g ∷ ms) e h = in_monitor g ms e runs

  outside : s.status p ≡ status.Ready → marked_monitors (s.continuation p) ≡ [] → o.activity ≡ machine.Running → computed ≡ is_private_kind (kind s p)
  outside ready marks runs =
      let on = goes runs in
      let gate : o.gate ≡ 0 = on.gate ∙ ap innermost_gate marks in
      let S = ready_steps G s (alone (realtime (clock_of G s)) o) (transcript_of m.transcripts p) o I.represents refl represents.part I.order.invariant
      (record { clock = refl; own = represents.part.count }) (λ q h. reach_own p q (ap (λ z. in_reach p z q) (sym marks) ∙ h)) (s.continuation p) refl ready on in
      let there : operation_of m.program (silent o) ≡ Some S.operation = S.there in
      let left : computed ≡ not (is_kernel_operation S.operation) =
      (λ i. if is_running (runs i) then is_private (silent o) (there i) else false)
      ∙ (λ i. if is_held (gate i) then false else not (is_kernel_operation S.operation)) in
      let kinds : kind s p ≡ (if is_kernel_action (action (s.continuation p)) then Kernel else Private) =
      (λ z. kind_of (ready z) (s.continuation p))
      ∙ (λ z. if (elim (marks z) as (λ x. Bool) [ [] ↦ false | g ∷ gs ↦ true ]) || is_kernel_action (action (s.continuation p)) then Kernel else Private) in
      left ∙ (ap not (sym S.same_kind) ∙ (by (is_kernel_action (action (s.continuation p))) ∙ sym (ap is_private_kind kinds)))
    where
      by : (b : Bool) → not b ≡ is_private_kind (if b then Kernel else Private)
      by true = refl
      by false = refl

  inside : (g : ℕ) (ms : List ℕ) → s.status p ≡ status.Ready → marked_monitors (s.continuation p) ≡ g ∷ ms → is_private_kind (kind s p) ≡ false
  inside g ms ready marks =
      ap is_private_kind
      ((λ z. kind_of (ready z) (s.continuation p))
      ∙ (λ z. if (elim (marks z) as (λ x. Bool) [ [] ↦ false | n ∷ ns ↦ true ]) || is_kernel_action (action (s.continuation p)) then Kernel else Private))

  running_when : (x : Status) → s.status p ≡ x → private_status x ≡ parts.Running → o.activity ≡ machine.Running
  running_when x is e = running_is o.activity (subst (λ z. IsRunning z) (sym e ∙ (ap private_status (sym is) ∙ represents.part.status)) tt)

  rests_when : (x : Status) → s.status p ≡ x → (private_status x ≡ parts.Running → ⊥) → is_running o.activity ≡ false
  rests_when x is idle = by o.activity refl
    where
      by : (a : Activity) → o.activity ≡ a → is_running a ≡ false
      by machine.Running e = absurd (idle (ap private_status (sym is) ∙ (represents.part.status ∙ ap status_of e)))
      by machine.Waiting e = refl
      by machine.NotBegun e = refl
      by machine.Ended e = refl
      by (machine.Faulted f) e = refl

  no_kind : (x : Status) → s.status p ≡ x → is_private_kind (kind_of x (s.continuation p)) ≡ false → is_private_kind (kind s p) ≡ false
  no_kind x is e = ap (λ z. is_private_kind (kind_of z (s.continuation p))) is ∙ e

  -- The core and the state agree on whether the next step is private.
  agree : computed ≡ is_private_kind (kind s p)
  agree = by (s.status p) refl
    where
      ready : (ms : List ℕ) → marked_monitors (s.continuation p) ≡ ms → s.status p ≡ status.Ready → computed ≡ is_private_kind (kind s p)
      ready [] marks is = outside is marks (running_when status.Ready is refl)
      ready (g ∷ ms) marks is = in_monitor g ms marks (running_when status.Ready is refl) ∙ sym (inside g ms is marks)

      rests : (x : Status) → s.status p ≡ x → (private_status x ≡ parts.Running → ⊥) → is_private_kind (kind_of x (s.continuation p)) ≡ false
          → computed ≡ is_private_kind (kind s p)
      rests x is idle e = stopped (rests_when x is idle) ∙ sym (no_kind x is e)

      by : (x : Status) → s.status p ≡ x → computed ≡ is_private_kind (kind s p)
      by status.Ready is = ready (marked_monitors (s.continuation p)) refl is
      by status.Unstarted is = rests status.Unstarted is (λ e. absurd (cc)) refl
      by status.Fresh is = rests status.Fresh is (λ e. absurd (cc)) refl
      by status.Waiting is = rests status.Waiting is (λ e. absurd (cc)) refl
      by status.Ended is = rests status.Ended is (λ e. absurd (cc)) refl
      by (status.Faulted n) is = rests (status.Faulted n) is (λ e. absurd (cc)) refl
      by (status.Asking g) is =
          blocked (I.order.invariant.blocked p (subst IsBlocked (sym is) tt)) (running_when (status.Asking g) is refl)
          ∙ sym (no_kind (status.Asking g) is refl)
      by (status.Delayed g q) is =
          blocked (I.order.invariant.blocked p (subst IsBlocked (sym is) tt)) (running_when (status.Delayed g q) is refl)
          ∙ sym (no_kind (status.Delayed g q) is refl)

-- ---- Cores in states

module _ (program : Program) (setup : Setup) where
  pub kinds_agree : (s : State) (c : Core) (p : ℕ) → IsCoreIn program setup s c → is_in p (processes setup) ≡ true
      → is_private_on program (part c.parts p) ≡ is_private_kind (kind s p)
  kinds_agree s c p h there =
      subst (λ (z : Core). is_private_on program (part z.parts p) ≡ is_private_kind (kind s p)) h.is
      (subst (λ (q : Program). is_private_on q (part (core h.machine).parts p) ≡ is_private_kind (kind s p)) h.program_is (by p (in_range setup p there)))
    where
      by : (p : ℕ) → (1 ≤ p) × (p ≤ process_count setup) → is_private_on h.machine.program (part (core h.machine).parts p) ≡ is_private_kind (kind s p)
      by zero range = absurd (let low = range.0 in Prim.omega (arith, low))
      by (suc i) range =
          let m = h.machine in
          let high = range.1 in
          let count = h.inside.part_count in
          let x = got m.parts i (Prim.omega (arith, high, count)) in
          let place : i ≡ suc i - 1 = Prim.omega arith in
          let represents = h.inside.parts (suc i) x.0 (Prim.omega arith) (subst (λ k. slice_get m.parts k ≡ Some x.0) place x.1) in
          ap (is_private_on m.program) (map_got silent m.parts i x.0 x.1) ∙ agree m setup s h.inside (suc i) x.0 represents

  -- ---- Steps

  module _ (timeless : is_timeless program ≡ true) where
    sees_of : (s : State) (c : Core) (h : IsCoreIn program setup s c) → Sees program h.machine c
    sees_of s c h = record {
      timeless = record {
        program_is = h.program_is;
        timeless = subst (λ (q : Program). is_timeless q ≡ true) (sym h.program_is) timeless;
        awake = h.awake;
      };
      sees = h.is;
    }

    event_in : (e : Event) → 1 ≤ process_of e → process_of e ≤ process_count setup → (s : State) (c : Core) → IsCoreIn program setup s c
        → IsCoreIn program setup (replay_event setup 1 s e) (apply program c (act_of e))
    event_in e low high s c h =
        let m = h.machine in
        let I = h.inside in
        let after = event_sees program e m c low (sees_of s c h) in
        record {
          machine = event 1 m e;
          program_is = after.timeless.program_is;
          awake = after.timeless.awake;
          inside =
              as_whole m.program setup I.represents (own_words m) (replay_event setup 1 s e) (event 1 m e)
              (event_represents m.program setup I.represents (own_words m) 1 e low high s m (part_by_part m setup s I))
              (event_keeps (world setup) (ordered m.program setup I.represents) setup 1 s e I.order);
          is = after.sees;
        }

    pub close_in : (s : State) (c : Core) → IsCoreIn program setup s c → IsCoreIn program setup (close_round s) (close program c)
    close_in s c h =
        let after = here program end_round close (λ m i. end_round_by m i) h.machine c (sees_of s c h) in
        record {
          machine = end_round h.machine;
          program_is = after.timeless.program_is;
          awake = after.timeless.awake;
          inside = end_is_end h.machine setup s h.inside;
          is = after.sees;
        }

    pub private_in : (p : ℕ) → is_in p (processes setup) ≡ true → (s : State) (c : Core) → IsCoreIn program setup s c
        → IsCoreIn program setup (private_step setup s p) (private_at program c p)
    private_in p there s c h = let r = in_range setup p there in event_in (rounds.PrivateStep p) r.0 r.1 s c h

    pub kernel_in : (p : ℕ) → is_in p (processes setup) ≡ true → (s : State) (c : Core) → IsCoreIn program setup s c
        → IsCoreIn program setup (kernel_step setup s p) (kernel_at program c p)
    kernel_in p there s c h = let r = in_range setup p there in event_in (rounds.KernelTurn p) r.0 r.1 s c h

-- Nobody waits, so the waking changes nothing.
pub wake_in : (program : Program) (setup : Setup) (s : State) (c : Core) → IsCoreIn program setup s c → IsCoreIn program setup (wake setup s) c
wake_in program setup s c h =
    let m = h.machine in
    let I = h.inside in
    record {
      machine = m;
      program_is = h.program_is;
      awake = h.awake;
      inside =
          subst (λ (x : Machine). IsIn x setup (wake setup s)) (wake_seen m h.awake)
          (as_whole m.program setup I.represents (own_words m) (wake setup s) (machines.wake m)
          (spelled m.program setup I.represents (own_words m) s (wake setup s) machines.wake
          (λ k os ts A. wake_represents m.program setup I.represents (own_words m) s k os ts A) m (part_by_part m setup s I))
          (wakes (world setup) (ordered m.program setup I.represents) setup s I.order));
      is = h.is;
    }

-- ---- The laws

pub core_reports_kind : CoreReportsKind
core_reports_kind program setup s c p h there = kinds_agree program setup s c p h there

pub steps_keep_cores : StepsKeepCores
steps_keep_cores program setup s c p timeless h there =
    (private_in program setup timeless p there s c h, kernel_in program setup timeless p there s c h)

pub rounds_keep_cores : RoundsKeepCores
rounds_keep_cores program setup s c timeless h = (close_in program setup timeless s c h, wake_in program setup s c h)
