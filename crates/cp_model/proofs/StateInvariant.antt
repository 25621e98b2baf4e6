-- Each step of a ready process, each waking and each closing keeps the invariant of states.
use Rattle.std.specs.Prelude.{Bool, List, None, Some, [], false, fold, if◌then◌else◌, nat_eq, not, refl, suc, true, zero, ℕ, ◌%◌, ◌∷◌, ◌≡◌, ◌≢◌}
use Rattle.std.proofs.Common.{ap, arith, subst, sym, ◌∙◌}
use Rattle.std.proofs.lemmas.Bool.{eq-eqb, eqb-false, eqb-true, ne_eqb}
use Rattle.cp_model.specs.Locations.{Location, OfActivation, OfMonitor, OfProcess, Owner}
use Rattle.cp_model.specs.Stores.{Reference, Store}
use Rattle.cp_model.specs.Outcomes.{Fault, Gives}
use Rattle.cp_model.specs.Continuations.{Do, EndBody, EndCall, EndProcess, ForNext, RepeatTest, Task, WhileTest, depth, is_in_monitor}
use Rattle.cp_model.specs.Configurations.{Asking, Continues, Delayed, Delays, Effect, Ended, Ends, Enters, Faulted, Fresh, Leaves, Opens, Own, Ready, Starts, Status, StepResult, Unstarted, Waiting, Waits}
use Rattle.cp_model.specs.Step.{step_of}
use Rattle.cp_model.specs.States.{Free, HeldBy, Holder, Setup, State, Unset, configuration, context, is_set, is_started, processes, set_status, with_at, with_configuration}
use Rattle.cp_model.specs.Gates.{apply_effect, enter, made_ready, make_ready, pass_to, set_gate, start_process}
use Rattle.cp_model.specs.Turns.{Kernel, Kind, NoStep, Private, after_step, if_kernel, if_private, kernel_step, kernel_turn, kind, kind_of, private_step, private_turn, step}
use Rattle.cp_model.specs.Rounds.{Event, KernelTurn, PrivateStep, all_turns, wake_status, replay_event, replay_round, run, sequential_round, wake}
use Rattle.cp_model.specs.Reach.{in_reach}
use Rattle.cp_model.specs.Invariant.{ContinuationInvariant, FramesInvariant, Invariant, IsBlocked, NoneBeyond, StoreInvariant}
use Rattle.cp_model.proofs.StateMaps.{with_at_here}
use Rattle.cp_model.proofs.MixedStores.{mix, mix_same}
use Rattle.cp_model.proofs.ExpressionReach.{IfGives}
use Rattle.cp_model.proofs.ReturnReach.{result_mixed}
use Rattle.cp_model.proofs.StepReach.{step_same}
use Rattle.cp_model.proofs.OwnSteps.{kind_private, result}
use Rattle.cp_model.proofs.ReturnInvariant.{EffectInvariant, StepInvariant}
use Rattle.cp_model.proofs.CallInvariant.{step_invariant}
use Rattle.cp_model.proofs.OutsideReach.{close_round_keeps, closed_but, tasks_more}

-- ---- A step keeps it

-- All owners except q's activations.
not_of : ℕ → Owner → Bool
not_of q (OfActivation r d) = not (nat_eq q r)
not_of q _ = true

NoNewReferenceOf : ℕ → Store → Store → Type 0
NoNewReferenceOf q st st' = (l j : Location) (d : ℕ) → l.owner ≡ OfActivation q d → st' l ≡ Reference j → st l ≡ Reference j

frames_keep_store_of : (q : ℕ) (st st' : Store) (k : List Task) → NoNewReferenceOf q st st' → FramesInvariant q st k
    → FramesInvariant q st' k
unfolding NoNewReferenceOf
frames_keep_store_of q st st' [] n h = tt
frames_keep_store_of q st st' (EndCall env gate ∷ k) n
    h = (record { frame = h.0.frame; references = λ l j o e. h.0.references l j o (n l j (depth k) o e) }, frames_keep_store_of q st st' k n h.1)
frames_keep_store_of q st st' (Do s env ∷ k) n h = frames_keep_store_of q st st' k n h
frames_keep_store_of q st st' (WhileTest now e s env ∷ k) n h = frames_keep_store_of q st st' k n h
frames_keep_store_of q st st' (RepeatTest now s e env ∷ k) n h = frames_keep_store_of q st st' k n h
frames_keep_store_of q st st' (ForNext v down x last s env ∷ k) n h = frames_keep_store_of q st st' k n h
frames_keep_store_of q st st' (EndBody gate ∷ k) n h = frames_keep_store_of q st st' k n h
frames_keep_store_of q st st' (EndProcess ∷ k) n h = frames_keep_store_of q st st' k n h

continuation_keeps_store_of : (q : ℕ) (st st' : Store) (k : List Task) → NoNewReferenceOf q st st'
    → ContinuationInvariant q st k → ContinuationInvariant q st' k
unfolding NoNewReferenceOf
continuation_keeps_store_of q st st' k n o = record {
  tasks = o.tasks;
  frames = frames_keep_store_of q st st' k n o.frames;
  beyond = λ l j d h e f. o.beyond l j d h e (n l j d e f);
}

module _ (setup : Setup) where
  -- p's step changes no other process's activations.
  beside : (p q : ℕ) (s : State) → p ≢ q → Invariant s → step_of (context setup s p) (configuration s p)
      ≡ result_mixed (not_of q) s.store (step_of (context setup s p) (configuration s p))
  unfolding not_of
  beside p q s d i =
      ap (λ st. step_of (context setup s p) (record { store = st; continuation = s.continuation p; transcript = s.transcript p; consumed = s.consumed p })) (sym (mix_same (not_of q) s.store))
      ∙ step_same (not_of q) s.store (context setup s p)
      (λ r. is_started (s.status r)) (λ m. is_set (s.gates m).holder) (configuration s p)
      (closed_but s i (not_of q) (λ r n ms o h e. other r ms o h e)) (λ n. rw (ne_eqb q p (λ e. d (sym e))) refl)
      (tasks_more p (not_of q) (s.continuation p) (λ ms o e. other p ms o (rw (ne_eqb q p (λ f. d (sym f))) refl) e) (i.continuations p).tasks)
      (λ a. record { monitors = λ m. refl; processes = λ r e. refl; same_started = refl; same_set = refl })
    where
      other : (r : ℕ) (ms : List ℕ) (o : Owner) → not (nat_eq q r) ≡ true → in_reach r ms o ≡ true → not_of q o ≡ true
      other r ms (OfProcess x) h e = refl
      other r ms (OfMonitor x) h e = refl
      other r ms (OfActivation x n) h e = rw (← eqb-true r x e) h

  abbrev BlockedHoldsIn : State → Type 0
  BlockedHoldsIn u = (q : ℕ) → IsBlocked (u.status q) → is_in_monitor (u.continuation q) ≡ true

  abbrev UnstartedIsFlatIn : State → Type 0
  UnstartedIsFlatIn u = (q : ℕ) → u.status q ≡ Unstarted → depth (u.continuation q) ≡ 0

  made_ready_not_blocked : (x : Status) → IsBlocked (made_ready x) → ⊥
  made_ready_not_blocked Unstarted h = h
  made_ready_not_blocked Fresh h = h
  made_ready_not_blocked Ready h = h
  made_ready_not_blocked Ended h = h
  made_ready_not_blocked Waiting h = h
  made_ready_not_blocked (Asking m) h = h
  made_ready_not_blocked (Delayed m q) h = h
  made_ready_not_blocked (Faulted n) h = h

  made_ready_unstarted : (x : Status) → made_ready x ≡ Unstarted → x ≡ Unstarted
  made_ready_unstarted Unstarted h = refl
  made_ready_unstarted Fresh h = h
  made_ready_unstarted Ready h = h
  made_ready_unstarted Ended h = h
  made_ready_unstarted Waiting h = h
  made_ready_unstarted (Asking m) h = absurd (Prim.grind arith)
  made_ready_unstarted (Delayed m q) h = absurd (Prim.grind arith)
  made_ready_unstarted (Faulted n) h = h

  pub invariant_of : (u : State) → StoreInvariant u.store → ((q : ℕ) → ContinuationInvariant q u.store (u.continuation q))
      → BlockedHoldsIn u → UnstartedIsFlatIn u → Invariant u
  invariant_of u s o h f = record { store = s; continuations = o; blocked = h; unstarted = f }

  make_ready_keeps : (r : ℕ) (u : State) → Invariant u → Invariant (make_ready r u)
  make_ready_keeps r u i = invariant_of (make_ready r u) i.store i.continuations
      (λ q h. at q (nat_eq r q) refl h) (λ q h. flat q (nat_eq r q) refl h)
    where
      at : (q : ℕ) (b : Bool) → nat_eq r q ≡ b → IsBlocked (if b then made_ready (u.status r) else u.status q)
          → is_in_monitor (u.continuation q) ≡ true
      at q true e h = absurd (made_ready_not_blocked (u.status r) h)
      at q false e h = i.blocked q h

      flat : (q : ℕ) (b : Bool) → nat_eq r q ≡ b → (if b then made_ready (u.status r) else u.status q) ≡ Unstarted
          → depth (u.continuation q) ≡ 0
      flat q true e h = rw (← eqb-true r q e) (i.unstarted r (made_ready_unstarted (u.status r) h))
      flat q false e h = i.unstarted q h

  set_gate_keeps : (m : ℕ) (x : Holder) (qs : List ℕ) (u : State) → Invariant u → Invariant (set_gate m x qs u)
  set_gate_keeps m x qs u i = invariant_of (set_gate m x qs u) i.store i.continuations i.blocked i.unstarted

  pass_to_keeps : (m : ℕ) (qs : List ℕ) (u : State) → Invariant u → Invariant (pass_to m qs u)
  pass_to_keeps m [] u i = set_gate_keeps m Free [] u i
  pass_to_keeps m (r ∷ qs) u i = make_ready_keeps r (set_gate m (HeldBy r) qs u) (set_gate_keeps m (HeldBy r) qs u i)

  -- A process may become blocked only if it has the end mark of a monitor.
  set_status_keeps : (p : ℕ) (x : Status) (u : State) → (IsBlocked x → is_in_monitor (u.continuation p) ≡ true) → x ≢ Unstarted
      → Invariant u → Invariant (set_status p x u)
  set_status_keeps p x u g n i = invariant_of (set_status p x u) i.store i.continuations
      (λ q h. at q (nat_eq p q) refl h) (λ q h. flat q (nat_eq p q) h)
    where
      at : (q : ℕ) (b : Bool) → nat_eq p q ≡ b → IsBlocked (if b then x else u.status q) → is_in_monitor (u.continuation q)
          ≡ true
      at q true e h = rw (← eqb-true p q e) (g h)
      at q false e h = i.blocked q h

      flat : (q : ℕ) (b : Bool) → (if b then x else u.status q) ≡ Unstarted → depth (u.continuation q) ≡ 0
      flat q true h = absurd (n h)
      flat q false h = i.unstarted q h

  effect_keeps : (p : ℕ) (e : Effect) (u : State) → EffectInvariant (u.continuation p) e → Invariant u
      → Invariant (apply_effect p e u)
  effect_keeps p Own u h i = i
  effect_keeps p Ends u h i = set_status_keeps p Ended u (λ x. absurd x) (λ x. Prim.grind arith) i
  effect_keeps p Waits u h i = set_status_keeps p Waiting u (λ x. absurd x) (λ x. Prim.grind arith) i
  effect_keeps p (Enters m) u h i = go (u.gates m).holder
    where
      go : (x : Holder) → Invariant (enter p m x u)
      go Unset = set_gate_keeps m (HeldBy p) (u.gates m).askers u i
      go Free = set_gate_keeps m (HeldBy p) (u.gates m).askers u i
      go (HeldBy q) = set_status_keeps p (Asking m) _ (λ x. h) (λ x. Prim.grind arith) (set_gate_keeps m (HeldBy q) _ u i)
  effect_keeps p (Leaves m) u h i = pass_to_keeps m (u.gates m).askers u i
  effect_keeps p (Delays m q) u h i = pass_to_keeps m (u.gates m).askers (set_status p (Delayed m q) u)
      (set_status_keeps p (Delayed m q) u (λ x. h) (λ x. Prim.grind arith) i)
  effect_keeps p (Continues m None) u h i = pass_to_keeps m (u.gates m).askers u i
  effect_keeps p (Continues m (Some r)) u h i = make_ready_keeps r (set_gate m (HeldBy r) (u.gates m).askers u)
      (set_gate_keeps m (HeldBy r) (u.gates m).askers u i)
  effect_keeps p (Opens m) u h i = set_gate_keeps m (HeldBy p) [] u i
  effect_keeps p (Starts r k) u h i = go (u.status r) refl
    where
      started : u.status r ≡ Unstarted → Invariant (set_status r Fresh
          (record u { continuation = with_at r k u.continuation }))
      started e = invariant_of (set_status r Fresh (record u { continuation = with_at r k u.continuation })) i.store
          (λ q. ok q (nat_eq r q) refl) (λ q g. at q (nat_eq r q) g) (λ q g. flat q (nat_eq r q) g)
        where
          new : ContinuationInvariant r u.store k
          new = record {
            tasks = h.tasks;
            frames = h.frames u.store;
            beyond = subst
                (λ n. NoneBeyond r u.store n) (i.unstarted r e ∙ sym h.deep) (i.continuations r).beyond;
          }

          ok : (q : ℕ) (b : Bool) → nat_eq r q ≡ b → ContinuationInvariant q u.store (if b then k else u.continuation q)
          ok q true g = subst (λ n. ContinuationInvariant n u.store k) (eqb-true r q g) new
          ok q false g = i.continuations q

          at : (q : ℕ) (b : Bool) → IsBlocked (if b then Fresh else u.status q)
              → is_in_monitor (if b then k else u.continuation q) ≡ true
          at q true g = absurd g
          at q false g = i.blocked q g

          flat : (q : ℕ) (b : Bool) → (if b then Fresh else u.status q) ≡ Unstarted
              → depth (if b then k else u.continuation q) ≡ 0
          flat q true g = absurd (Prim.grind arith)
          flat q false g = i.unstarted q g

      go : (x : Status) → u.status r ≡ x → Invariant (start_process r k x u)
      go Unstarted e = started e
      go Fresh e = i
      go Ready e = i
      go Ended e = i
      go Waiting e = i
      go (Asking m) e = i
      go (Delayed m q) e = i
      go (Faulted n) e = i

  -- A step of a process that is ready.
  pub ready_step_invariant : (s : State) (p : ℕ) → s.status p ≡ Ready → Invariant s → Invariant (step setup s p)
  unfolding not_of NoNewReferenceOf
  ready_step_invariant s p h i = go (step_of (context setup s p) (configuration s p))
      (step_invariant (context setup s p) (configuration s p) i.store (i.continuations p)) (λ q d. beside p q s d i)
    where
      go : (o : StepResult) → IfGives (StepInvariant p) o → ((q : ℕ) → p ≢ q → o ≡ result_mixed (not_of q) s.store o)
          → Invariant (after_step s p o)
      go (Fault n) a b = set_status_keeps p (Faulted n) s (λ x. absurd x) (λ x. Prim.grind arith) i
      go (Gives (r, e)) a b = effect_keeps p e (with_configuration s p r)
          (rw (with_at_here p r.continuation s.continuation) a.effect)
          (invariant_of (with_configuration s p r) a.store
          (λ q. ok q (nat_eq p q) refl) (λ q g. at q (nat_eq p q) refl g) (λ q g. flat q (nat_eq p q) refl g))
        where
          ok : (q : ℕ) (x : Bool) → nat_eq p q ≡ x
              → ContinuationInvariant q r.store (if x then r.continuation else s.continuation q)
          ok q true g = subst (λ n. ContinuationInvariant n r.store r.continuation) (eqb-true p q g) a.ok
          ok q false g = continuation_keeps_store_of q s.store r.store (s.continuation q)
              (λ l j d f y. sym (same l d f) ∙ y) (i.continuations q)
            where
              w : r.store ≡ mix (not_of q) r.store s.store
              w = ap (λ o. (result (configuration s p) o).store) (b q (eqb-false p q g))

              same : (l : Location) (d : ℕ) → l.owner ≡ OfActivation q d → r.store l ≡ s.store l
              same l d f = ap (λ st. st l) w ∙ transcript (not_of q l.owner) (ap (not_of q) f ∙ ap not (eq-eqb q q refl))
                where
                  transcript : (c : Bool) → c ≡ false → (if c then r.store l else s.store l) ≡ s.store l
                  transcript true z = absurd (Prim.grind arith)
                  transcript false z = refl

          at : (q : ℕ) (x : Bool) → nat_eq p q ≡ x → IsBlocked (s.status q)
              → is_in_monitor (if x then r.continuation else s.continuation q) ≡ true
          at q true g y = absurd (subst (λ z. IsBlocked z) (ap s.status (sym (eqb-true p q g)) ∙ h) y)
          at q false g y = i.blocked q y

          flat : (q : ℕ) (x : Bool) → nat_eq p q ≡ x → s.status q ≡ Unstarted
              → depth (if x then r.continuation else s.continuation q) ≡ 0
          flat q true g y = absurd (Prim.grind (arith, h, y, ap s.status (eqb-true p q g)))
          flat q false g y = i.unstarted q y

  pub kind_kernel : (x : Status) (k : List Task) → kind_of x k ≡ Kernel → x ≡ Ready
  kind_kernel Ready k h = refl
  kind_kernel Unstarted k h = absurd (Prim.grind arith)
  kind_kernel Fresh k h = absurd (Prim.grind arith)
  kind_kernel Ended k h = absurd (Prim.grind arith)
  kind_kernel Waiting k h = absurd (Prim.grind arith)
  kind_kernel (Asking m) k h = absurd (Prim.grind arith)
  kind_kernel (Delayed m q) k h = absurd (Prim.grind arith)
  kind_kernel (Faulted n) k h = absurd (Prim.grind arith)

  pub private_step_keeps : (s : State) (p : ℕ) → Invariant s → Invariant (private_step setup s p)
  private_step_keeps s p i = go (kind s p) refl
    where
      go : (k : Kind) → kind s p ≡ k → Invariant (if_private k (step setup s p) s)
      go Private h = ready_step_invariant s p (kind_private (s.status p) (s.continuation p) h).0 i
      go NoStep h = i
      go Kernel h = i

  pub kernel_step_keeps : (s : State) (p : ℕ) → Invariant s → Invariant (kernel_step setup s p)
  kernel_step_keeps s p i = go (kind s p) refl
    where
      go : (k : Kind) → kind s p ≡ k → Invariant (if_kernel k (step setup s p) s)
      go Kernel h = ready_step_invariant s p (kind_kernel (s.status p) (s.continuation p) h) i
      go NoStep h = i
      go Private h = i

  -- ---- Turns

  pub private_turn_keeps : (n : ℕ) (s : State) (p : ℕ) → Invariant s → Invariant (private_turn setup n s p)
  private_turn_keeps zero s p i = i
  private_turn_keeps (suc n) s p i = private_turn_keeps n (private_step setup s p) p (private_step_keeps s p i)

  pub kernel_turn_keeps : (n : ℕ) (s : State) (p : ℕ) → Invariant s → Invariant (kernel_turn setup n s p)
  kernel_turn_keeps zero s p i = i
  kernel_turn_keeps (suc n) s p i = kernel_turn_keeps n (kernel_step setup s p) p (kernel_step_keeps s p i)

  -- ---- Rounds

  pub wake_keeps : (s : State) → Invariant s → Invariant (wake setup s)
  wake_keeps s i = go (nat_eq (suc s.rounds % setup.tick) 0)
    where
      at : (x : Status) → IsBlocked (wake_status x) → IsBlocked x
      at Unstarted h = h
      at Fresh h = h
      at Ready h = h
      at Ended h = h
      at Waiting h = absurd h
      at (Asking m) h = h
      at (Delayed m q) h = h
      at (Faulted n) h = h

      flat : (x : Status) → wake_status x ≡ Unstarted → x ≡ Unstarted
      flat Unstarted h = refl
      flat Fresh h = h
      flat Ready h = h
      flat Ended h = h
      flat Waiting h = absurd (Prim.grind arith)
      flat (Asking m) h = h
      flat (Delayed m q) h = h
      flat (Faulted n) h = h

      go : (b : Bool) → Invariant (if b then record s { status = λ p. wake_status (s.status p) } else s)
      go true = record {
        store = i.store;
        continuations = i.continuations;
        blocked = λ p h. i.blocked p (at (s.status p) h);
        unstarted = λ p h. i.unstarted p (flat (s.status p) h);
      }
      go false = i

  pub event_keeps : (t : ℕ) (s : State) (e : Event) → Invariant s → Invariant (replay_event setup t s e)
  event_keeps t s (PrivateStep p) i = private_step_keeps s p i
  event_keeps t s (KernelTurn p) i = kernel_turn_keeps t s p i

  events_keep : (t : ℕ) (es : List Event) (s : State) → Invariant s → Invariant (fold (replay_event setup t) s es)
  events_keep t [] s i = i
  events_keep t (e ∷ es) s i = events_keep t es (replay_event setup t s e) (event_keeps t s e i)

  -- Every round in any order, lawful or not.
  pub replay_round_keeps : (t : ℕ) (s : State) (es : List Event) → Invariant s → Invariant (replay_round setup t s es)
  replay_round_keeps t s es i = close_round_keeps _ (events_keep t es (wake setup s) (wake_keeps s i))

  all_turns_keep : (t : ℕ) (ps : List ℕ) (s : State) → Invariant s → Invariant (all_turns setup t s ps)
  all_turns_keep t [] s i = i
  all_turns_keep t (p ∷ ps) s i =
      all_turns_keep t ps (kernel_turn setup t (private_turn setup t s p) p)
      (kernel_turn_keeps t (private_turn setup t s p) p (private_turn_keeps t s p i))

  pub sequential_round_keeps : (t : ℕ) (s : State) → Invariant s → Invariant (sequential_round setup t s)
  sequential_round_keeps t s i = close_round_keeps _ (all_turns_keep t (processes setup) (wake setup s) (wake_keeps s i))

  pub run_keeps : (t n : ℕ) (s : State) → Invariant s → Invariant (run setup t n s)
  run_keeps t zero s i = i
  run_keeps t (suc n) s i = run_keeps t n (sequential_round setup t s) (sequential_round_keeps t s i)
