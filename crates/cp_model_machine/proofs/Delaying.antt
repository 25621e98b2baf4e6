-- `delay` inside a monitor: the process waits in the queue, whose word holds its number.
use Rattle.std.proofs.Common.{Err, List, None, Ok, Option, Result, Some, [], ap, arith, length, negsuc, pos, refl, subst, suc, sym, true, zero, ℕ, ℤ, ◌+◌, ◌-◌, ◌<◌, ◌∙◌, ◌∷◌, ◌≡◌, ◌≤◌}
use Rattle.std.specs.Prelude.{if◌then◌else◌, int_le, nat_lt}
use Rattle.std.proofs.lemmas.Bool.{lt-leb, lt-ltb, true≢false}
use Rattle.cp_model.specs.Abstract as a
use Rattle.cp_model.specs.Abstract.{Name}
use Rattle.cp_model.specs.Configurations as stage
use Rattle.cp_model.specs.Configurations.{with_writes}
use Rattle.cp_model.specs.Continuations.{Do, Task, marked_monitors}
use Rattle.cp_model.specs.Environments.{Environment}
use Rattle.cp_model.specs.Locations.{Location}
use Rattle.cp_model.specs.Outcomes.{Fault, Gives, Outcome, and_then}
use Rattle.cp_model.specs.Parts.{private_status}
use Rattle.cp_model.specs.Places.{Place}
use Rattle.cp_model.specs.StandardCalls.{delay, enqueue, process_in_queue}
use Rattle.cp_model.specs.States.{State, configuration, context}
use Rattle.cp_model.specs.Stores.{QueueHolds, put}
use Rattle.cp_model.specs.Turns.{after_step}
use Rattle.cp_model.specs.Types.{Queue}
use Rattle.cp_model.specs.declared.state.Fault as machine
use Rattle.cp_model.specs.declared.state.Fault.TheVariants as fault
use Rattle.cp_model.proofs.StateMaps.{with_at_here}
use Rattle.cp_model_program.specs.Terms.{PlaceExpression}
use Rattle.cp_model_program.specs.Programs as op
use Rattle.cp_model_program.specs.Starts.{word}
use Rattle.cp_model_machine.specs.PrivateStates as private
use Rattle.cp_model_machine.specs.PrivateStates.{StepContext, PrivateState, go_to, private_outcome, guard, set_word, with_result}
use Rattle.cp_model_machine.specs.Steps as steps
use Rattle.cp_model_machine.specs.Means.{PlaceAgrees, process_of_word}
use Rattle.cp_model_machine.specs.Addresses.{Activation, AllWords, Ground, activations, in_sight, lies, lies_in_sight, whole}
use Rattle.cp_model_machine.specs.PartOf.{PartOf, RunsOn}
use Rattle.cp_model_machine.proofs.Doing.{Ready, place_here, statement_steps}
use Rattle.cp_model_machine.proofs.Heres.{seen_mine}
use Rattle.cp_model_machine.proofs.RunningOn.{runs_moved, runs_stacked, runs_stored}
use Rattle.cp_model_machine.proofs.Separate.{cell_inside}
use Rattle.cp_model_machine.proofs.Stacks.{all_lie}
use Rattle.cp_model_machine.proofs.Standards.{By, argument_none, arrived, delays, not_called, one, used_none}
use Rattle.cp_model_machine.proofs.Stepping.{AroundAll, Now, Stepped, faulted, gate_passed}
use Rattle.cp_model_machine.proofs.EffectsKept.{runs_numbered}
use Rattle.cp_model_machine.proofs.Effects.{EffectAgrees, LeavesIt, Means, WentOn, going, provided_leaves, reported}
use Rattle.cp_model_machine.proofs.MonitorsThere.{monitor_below}
use Rattle.cp_model_machine.proofs.GatesHeld.{gates_there}
use Rattle.cp_model_machine.proofs.Joining.{unshifted}
use Rattle.cp_model_machine.proofs.Sights.{same_lies}
use Rattle.cp_model_machine.proofs.Queues.{QueuesShared}
use Rattle.cp_model.proofs.ExpressionReach.{IfGives}
use Rattle.cp_model_machine.specs.KernelOf.{kernel_ground}
use Rattle.cp_model_machine.specs.Remaining.{IsGate, innermost_gate}

queued_number : (p : ℕ) → 1 ≤ p → process_of_word (pos p) ≡ Some p
queued_number zero h = absurd (omega (arith, h))
queued_number (suc p) h = refl

module _ (G : Ground) (s : State) (w : StepContext) (before : List ℕ) (o : PrivateState) (x : Name) (env : Environment) (k : List Task) (m : ℕ) (ms : List ℕ) (held : steps.is_held o.gate ≡ true)
    (marks : marked_monitors k ≡ m ∷ ms) (d : a.Designator) (Y : Ready G s w before o (a.Perform (a.Plain x) (one (a.Use d))) env k) (queue : PlaceExpression) (n : ℕ)
    (h : By G s w before o x env k (one (a.Use d)) Y (op.Delay queue n)) where
  abbrev first : Task
  first = Do (a.Perform (a.Plain x) (one (a.Use d))) env

  abbrev xs : List Activation
  xs = activations o.base o.frames (first ∷ k)

  abbrev represents : ℕ → PrivateState
  represents at = go_to n (set_word o at (pos o.number))

  -- The process waits in the queue.
  stood : (q : Location) (at : ℕ) → in_sight G q.owner ≡ true → lies G xs q ≡ Some (at, Queue)
      → PartOf G (after_step s G.p (Gives (with_writes (configuration s G.p) ((q, QueueHolds (Some G.p)) ∷ []) k, stage.Delays m q))) before (represents at)
  stood q at mine is =
      gate_passed G before (represents at) m (s.gates m).askers _
      (arrived G before _ (represents at) N.part.number N.part.input (N.part.consumed ∙ sym (with_at_here G.p (s.consumed G.p) s.consumed))
      (with_at_here G.p (s.transcript G.p) s.transcript ∙ N.part.transcript)
      (ap private_status (with_at_here G.p (stage.Delayed m q) s.status) ∙ (ap private_status (sym N.ready) ∙ N.part.status))
      (subst (RunsOn G (put q (QueueHolds (Some G.p)) s.store) (represents at)) (sym (with_at_here G.p k s.continuation))
      (subst (λ z. RunsOn G (put q (QueueHolds (Some G.p)) s.store) (go_to z (set_word o at (pos o.number))) k) (sym h.1.1)
      (runs_moved G (put q (QueueHolds (Some G.p)) s.store) (set_word o at (pos o.number)) (first ∷ k) k N.on.left.2.0 N.on.left.2.1
      (runs_stored G s.store o (first ∷ k) N.on q at Queue (QueueHolds (Some G.p)) (pos o.number) tt (ap QueueHolds (sym holds)) mine is (λ y sort e set. absurd (true≢false (sym set))))
      refl refl refl N.on.left.2.4 N.on.left.2.2))))
    where
      N : Now G s w before o first k
      N = Y.now

      holds : process_of_word (pos o.number) ≡ Some G.p
      holds = ap (λ z. process_of_word (pos z)) N.part.number ∙ queued_number G.p (runs_numbered G s.store o (first ∷ k) N.on).0

  tested : (q : Location) (at : ℕ) → in_sight G q.owner ≡ true → lies G xs q ≡ Some (at, Queue) → (z : ℤ)
      → PartOf G (after_step s G.p (enqueue G.p (configuration s G.p) k q m (process_of_word z))) before
      (guard (int_le z (pos 0)) o fault.QueueTaken (represents at, private.Delays o.gate at)).0
  tested q at mine is (pos zero) = stood q at mine is
  tested q at mine is (pos (suc r)) =
      subst (λ b. PartOf G (after_step s G.p (Fault 5)) before (guard b o fault.QueueTaken (represents at, private.Delays o.gate at)).0) (sym (lt-leb (suc r) 0 (omega arith)))
      (faulted G s w before o first k Y.now 5 fault.QueueTaken refl)
  tested q at mine is (negsuc r) = stood q at mine is

  -- The queue is among the words in reach.
  among : (q : Location) (at : ℕ) → in_sight G q.owner ≡ true → lies G xs q ≡ Some (at, Queue) → nat_lt at (length o.words) ≡ true
  among q at mine is =
      let inside : at + 0 < whole G = cell_inside G xs _ (runs_stacked G s.store o (first ∷ k) Y.now.on) q at Queue 0 mine refl is in
      lt-ltb at (length o.words) (omega (arith, inside, Y.now.on.count))

  by_place : (P : Outcome Place) (r : Result ℕ machine.Fault) → PlaceAgrees (lies_in_sight (in_sight G) G xs) Queue P r
      → PartOf G (after_step s G.p (and_then P (λ at. delay G.p (configuration s G.p) k at.at (marked_monitors k)))) before (with_result o r (λ at. steps.delay o at n)).0
  by_place (Gives q) (Ok at) g =
      let f = seen_mine (in_sight G) G xs q.at (at, Queue) g.0 in
      subst (λ z. PartOf G (after_step s G.p (delay G.p (configuration s G.p) k q.at z)) before (steps.delay o at n).0) (sym marks)
      (subst (λ b. PartOf G (after_step s G.p (enqueue G.p (configuration s G.p) k q.at m (process_in_queue (s.store q.at)))) before
      (if b then (if nat_lt at (length o.words) then tests at else private_outcome o) else private_outcome o).0) (sym held)
      (subst (λ b. PartOf G (after_step s G.p (enqueue G.p (configuration s G.p) k q.at m (process_in_queue (s.store q.at)))) before (if b then tests at else private_outcome o).0) (sym (among q.at at f.0 f.1))
      (subst (λ v. PartOf G (after_step s G.p (enqueue G.p (configuration s G.p) k q.at m (process_in_queue v))) before (tests at).0) (sym (Y.now.on.data_means.cells q.at at Queue f.0 f.1))
      (tested q.at at f.0 f.1 (word o.words at)))))
    where
      tests : ℕ → private.Acting
      tests at = guard (int_le (word o.words at) (pos 0)) o fault.QueueTaken (represents at, private.Delays o.gate at)
  by_place (Fault i) (Err f) g = faulted G s w before o first k Y.now i f g
  by_place (Gives v) (Err f) g = absurd g
  by_place (Fault i) (Ok at) g = absurd g

  -- ---- what is left to the kernel

  -- If queues are only in monitors.
  module _ (K : AroundAll G s w) (shared : QueuesShared G xs) where
    -- The queue has its word among the shared ones.
    queue_lies : (q : Location) (at : ℕ) → in_sight G q.owner ≡ true → lies G xs q ≡ Some (at, Queue) → lies (kernel_ground G.program G.texts G.setup) [] q ≡ Some (at - w.own, Queue)
    queue_lies q at mine is =
        let lie = all_lie G K.sight in
        let u = unshifted G lie xs q at Queue (shared q at is) (same_lies G AllWords lie xs q ∙ is) in
        u.2 ∙ ap (λ z. Some (z, Queue)) (omega (arith, u.1, Y.now.around.own))

    delays_it : (q : Location) (at : ℕ) → in_sight G q.owner ≡ true → lies G xs q ≡ Some (at, Queue) → (z : Option ℕ)
        → IfGives (λ y. Means G w.own y.1 (private.Delays o.gate at)) (enqueue G.p (configuration s G.p) k q m z)
    delays_it q at mine is (Some r) = tt
    delays_it q at mine is None = (sym (Y.now.on.gate ∙ ap innermost_gate marks), monitor_below G.setup m is_gate.0 is_gate.1, queue_lies q at mine is)
      where
        is_gate : IsGate G (Some m)
        is_gate = gates_there G o.temps o.limit _ Y.now.on.running o.frames o.counter Y.now.on.running.unit.temps (first ∷ k) m ms Y.now.on.left marks

    leaves_it : (at : ℕ) → nat_lt at (length o.words) ≡ true → LeavesIt (private.Delays o.gate at) (steps.delay o at n)
    leaves_it at there =
        subst (λ b. LeavesIt (private.Delays o.gate at) (if b then (if nat_lt at (length o.words) then tests at else private_outcome o) else private_outcome o)) (sym held)
        (subst (λ b. LeavesIt (private.Delays o.gate at) (if b then tests at else private_outcome o)) (sym there)
        (provided_leaves (int_le (word o.words at) (pos 0)) o fault.QueueTaken (private.Delays o.gate at) (represents at, private.Delays o.gate at) (WentOn refl (going G s before o Y.now.part Y.now.ready))))
      where
        tests : ℕ → private.Acting
        tests at = guard (int_le (word o.words at) (pos 0)) o fault.QueueTaken (represents at, private.Delays o.gate at)

    effect_by_place : (P : Outcome Place) (r : Result ℕ machine.Fault) → PlaceAgrees (lies_in_sight (in_sight G) G xs) Queue P r
        → EffectAgrees G w.own (and_then P (λ at. delay G.p (configuration s G.p) k at.at (marked_monitors k))) (with_result o r (λ at. steps.delay o at n)).1
    effect_by_place (Gives q) (Ok at) g =
        let f = seen_mine (in_sight G) G xs q.at (at, Queue) g.0 in
        reported G w.own s before Y.now.ready (delay G.p (configuration s G.p) k q.at (marked_monitors k)) (private.Delays o.gate at) (steps.delay o at n) (by_place (Gives q) (Ok at) g)
        (subst (λ z. IfGives (λ y. Means G w.own y.1 (private.Delays o.gate at)) (delay G.p (configuration s G.p) k q.at z)) (sym marks) (delays_it q.at at f.0 f.1 (process_in_queue (s.store q.at))))
        (leaves_it at (among q.at at f.0 f.1))
    effect_by_place (Fault i) (Err f) g = refl
    effect_by_place (Gives v) (Err f) g = absurd g
    effect_by_place (Fault i) (Ok at) g = absurd g

  pub delay_in_monitor : (AroundAll G s w → QueuesShared G xs) → Stepped G s w before o
  delay_in_monitor shared =
      let N = Y.now in
      let is = sym (delays (context G.setup s G.p) (configuration s G.p) N.on.running.env k x (a.Use d) h.1.0.1 h.1.0.2 h.1.0.3) in
      let placed =
      place_here G s w before o first k N N.sees d queue Queue o.counter N.on.left.2.3.0 N.on.left.2.1 N.on.running.unit.temps h.1.3
      (used_none G s w before o x env k N.on.running.env d (argument_none G s w before o x env k N.on.running.env (a.Use d) Y.none)) in
      statement_steps G s w before o (a.Perform (a.Plain x) (one (a.Use d))) env k Y (op.Delay queue n) (not_called N.on.running.env (a.Plain x) (one (a.Use d)) h.1.0.0) refl h.0 refl
      (subst (λ z. PartOf G (after_step s G.p z) before (steps.with_place w o queue (λ at. steps.delay o at n)).0) is (by_place _ _ placed))
      (λ K. subst (λ z. EffectAgrees G w.own z (steps.with_place w o queue (λ at. steps.delay o at n)).1) is (effect_by_place K (shared K) _ _ placed))
