-- Steps whose effects fit, waking and closing keep the gates in order.
use Rattle.std.proofs.Common.{◌≡◌, ℕ, suc, ◌≤◌, ◌%◌, List, [], ◌∷◌, Bool, true, false, Option, Some, None, refl, ap, sym, subst, ◌∙◌, arith}
use Rattle.std.specs.Prelude.{if◌then◌else◌, nat_eq}
use Rattle.std.proofs.lemmas.Bool.{eqb-false, eqb-true, true≢false}
use Rattle.cp_model.specs.Locations.{Location, OfMonitor}
use Rattle.cp_model.specs.Continuations.{Task, marked_monitors}
use Rattle.cp_model.specs.Configurations.{Asking, Configuration, Continues, Delayed, Delays, Effect, Ended, Ends, Enters, Faulted, Fresh, Leaves, Opens, Own, Ready, Starts, Status, Unstarted, Waiting, Waits, held_gates}
use Rattle.cp_model.specs.States.{Free, HeldBy, Holder, Setup, State, Unset, configuration, is_in, is_set, set_status, with_at, with_configuration}
use Rattle.cp_model.specs.Gates.{apply_effect, enter, resume, start_process}
use Rattle.cp_model.specs.Rounds.{after_closing, close_round, wake, wake_status}
use Rattle.cp_model.proofs.StateMaps.{with_at_same}
use Rattle.cp_model.proofs.Lists.{in_head, in_more}
use Rattle.cp_law_gates.specs.Hierarchy.{Descends, IsHeld}
use Rattle.cp_law_gates.specs.Gates.{Gates, GatesBut, IsInnermost, IsStoppedAt, IsQueuedIn, none}
use Rattle.cp_law_gates.specs.Effects.{EffectFits, NoNewQueue, Resumes}
use Rattle.cp_law_gates.proofs.Lists.{in_rest}
use Rattle.cp_law_gates.proofs.Passing.{passed, resumed}
use Rattle.cp_law_gates.proofs.Effects.{asked, delayed, ended_plain, faulted_plain, got, moved, ready_plain, waiting_plain}

-- ---- A process that is started

module _ (place : ℕ → ℕ) (monitors r : ℕ) (k : List Task) (v : State) (G : Gates place monitors v) (is : v.status r ≡ Unstarted) (no_gate : marked_monitors k ≡ []) where
  nothing_in : (m : ℕ) → is_in m [] ≡ true → ⊥
  nothing_in m h = true≢false (sym h)

  pub started : Gates place monitors (set_status r Fresh (record v { continuation = with_at r k v.continuation }))
  started = record {
    marked = λ m q b h. marks m q (nat_eq r q) refl (G.marked m q refl h);
    taken = λ m q b h. G.taken m q refl h;
    asks = λ m q h. asking m q (nat_eq r q) refl (G.asks m q h);
    listed = λ m q e. lists m q (nat_eq r q) e;
    once = G.once;
    stopped = λ q m h. stops q m (nat_eq r q) h;
    queues = λ l q e. represents l q (nat_eq r q) refl (G.queues l q e);
    known = G.known;
    within = λ q m h. inside q m (nat_eq r q) h;
    unstarted = λ q e. fresh q (nat_eq r q) e;
    waiting = λ q e. sleep q (nat_eq r q) e;
    descends = λ q. falls q (nat_eq r q);
  }
    where
      unmarked : (m : ℕ) → is_in m (held_gates (v.status r) (v.continuation r)) ≡ true → ⊥
      unmarked m h = nothing_in m (sym (ap (is_in m) (G.unstarted r is)) ∙ (sym (ap (λ x. is_in m (held_gates x (v.continuation r))) is) ∙ h))

      marks : (m q : ℕ) (b : Bool) → nat_eq r q ≡ b → is_in m (held_gates (v.status q) (v.continuation q)) ≡ true
          → is_in m (held_gates (if b then Fresh else v.status q) (if b then k else v.continuation q)) ≡ true
      marks m q true e h = absurd (unmarked m (subst (λ y. is_in m (held_gates (v.status y) (v.continuation y)) ≡ true) (sym (eqb-true r q e)) h))
      marks m q false e h = h

      asking : (m q : ℕ) (b : Bool) → nat_eq r q ≡ b → v.status q ≡ Asking m → (if b then Fresh else v.status q) ≡ Asking m
      asking m q true e h = absurd (grind (arith, sym is ∙ (ap v.status (eqb-true r q e) ∙ h)))
      asking m q false e h = h

      lists : (m q : ℕ) (b : Bool) → (if b then Fresh else v.status q) ≡ Asking m → is_in q (v.gates m).askers ≡ true
      lists m q true e = absurd (grind arith)
      lists m q false e = G.listed m q e

      stops : (q m : ℕ) (b : Bool) → IsStoppedAt m (if b then Fresh else v.status q) → IsInnermost m (marked_monitors (if b then k else v.continuation q))
      stops q m true h = absurd h
      stops q m false h = G.stopped q m h

      represents : (l : Location) (q : ℕ) (b : Bool) → nat_eq r q ≡ b → IsQueuedIn v l q → IsQueuedIn (set_status r Fresh (record v { continuation = with_at r k v.continuation })) l q
      represents l q true e S = absurd (grind (arith, sym is ∙ (ap v.status (eqb-true r q e) ∙ S.delayed)))
      represents l q false e S = record { monitor = S.monitor; owner = S.owner; delayed = rw e S.delayed }

      inside : (q m : ℕ) (b : Bool) → is_in m (marked_monitors (if b then k else v.continuation q)) ≡ true → (1 ≤ m) × (m ≤ monitors)
      inside q m true h = absurd (nothing_in m (ap (is_in m) (sym no_gate) ∙ h))
      inside q m false h = G.within q m h

      fresh : (q : ℕ) (b : Bool) → (if b then Fresh else v.status q) ≡ Unstarted → marked_monitors (if b then k else v.continuation q) ≡ []
      fresh q true e = absurd (grind arith)
      fresh q false e = G.unstarted q e

      sleep : (q : ℕ) (b : Bool) → (if b then Fresh else v.status q) ≡ Waiting → marked_monitors (if b then k else v.continuation q) ≡ []
      sleep q true e = absurd (grind arith)
      sleep q false e = G.waiting q e

      falls : (q : ℕ) (b : Bool) → Descends place (marked_monitors (if b then k else v.continuation q))
      falls q true = subst (Descends place) (sym no_gate) tt
      falls q false = G.descends q

-- ---- All effects

module _ (place : ℕ → ℕ) (monitors : ℕ) (s : State) (p : ℕ) (G : Gates place monitors s) (ready : s.status p ≡ Ready) where
  module _ (r : Configuration) (D : Descends place (marked_monitors r.continuation)) where
    u : State
    u = with_configuration s p r

    IsBounded : Type 0
    IsBounded = (m : ℕ) → is_in m (marked_monitors r.continuation) ≡ true → (1 ≤ m) × (m ≤ monitors)

    as_before : marked_monitors r.continuation ≡ marked_monitors (s.continuation p) → IsBounded
    unfolding IsBounded
    as_before e m h = G.within p m (sym (ap (is_in m) e) ∙ h)

    one_less : (n : ℕ) → marked_monitors (s.continuation p) ≡ n ∷ marked_monitors r.continuation → IsBounded
    unfolding IsBounded
    one_less n e m h = G.within p m (ap (is_in m) e ∙ in_more m n (marked_monitors r.continuation) h)

    one_more : (n : ℕ) → marked_monitors r.continuation ≡ n ∷ marked_monitors (s.continuation p) → 1 ≤ n → n ≤ monitors → IsBounded
    unfolding IsBounded
    one_more n e low high m h = by (nat_eq m n) refl (sym (ap (is_in m) e) ∙ h)
      where
        by : (b : Bool) → nat_eq m n ≡ b → (if b then true else is_in m (marked_monitors (s.continuation p))) ≡ true → (1 ≤ m) × (m ≤ monitors)
        by true x y = subst (λ z. (1 ≤ z) × (z ≤ monitors)) (sym (eqb-true m n x)) (low, high)
        by false x y = G.within p m y

    same_ready : set_status p Ready (with_configuration s p r) ≡ with_configuration s p r
    same_ready i = record (with_configuration s p r) { status = with_at_same p Ready s.status ready i }

    own : marked_monitors r.continuation ≡ marked_monitors (s.continuation p) → NoNewQueue s.store r.store → Gates place monitors (with_configuration s p r)
    unfolding IsBounded
    own e N = subst (Gates place monitors) same_ready
        (moved place monitors s p G ready r D (as_before e) Ready ready_plain N (λ x. absurd (grind arith)) none (λ m b h. ap (is_in m) e ∙ h))

    on_the_way : (n : ℕ) → marked_monitors (s.continuation p) ≡ n ∷ marked_monitors r.continuation → NoNewQueue s.store r.store
        → GatesBut place monitors (λ m. nat_eq n m) (with_configuration s p r)
    unfolding IsBounded
    on_the_way n e N = subst (GatesBut place monitors (λ m. nat_eq n m)) same_ready
        (moved place monitors s p G ready r D (one_less n e) Ready ready_plain N (λ x. absurd (grind arith)) (λ m. nat_eq n m)
        (λ m b h. in_rest m n (marked_monitors r.continuation) (sym (ap (is_in m) e) ∙ h) (λ x. eqb-false n m b (sym x))))

    bounds : (n : ℕ) → marked_monitors (s.continuation p) ≡ n ∷ marked_monitors r.continuation → (1 ≤ n) × (n ≤ monitors)
    bounds n e = G.within p n (ap (is_in n) e ∙ in_head n (marked_monitors r.continuation))

    entered : (m : ℕ) → marked_monitors r.continuation ≡ m ∷ marked_monitors (s.continuation p) → NoNewQueue s.store r.store → is_set (s.gates m).holder ≡ true
        → Gates place monitors (enter p m (s.gates m).holder (with_configuration s p r))
    unfolding IsBounded
    entered m e N set = by (s.gates m).holder refl
      where
        by : (h : Holder) → (s.gates m).holder ≡ h → Gates place monitors (enter p m h (with_configuration s p r))
        by (HeldBy q) is = asked place monitors s p G ready r D (one_more m e (G.known m set).0 (G.known m set).1) m q is e N
        by Free is = got place monitors s p G ready r D (one_more m e (G.known m set).0 (G.known m set).1) m (s.gates m).askers refl
            (λ q h. subst IsHeld is (G.taken m q refl h)) (λ q h. grind (arith, sym is ∙ h)) (G.known m set).0 (G.known m set).1 e N
        by Unset is = absurd (true≢false (sym set ∙ ap is_set is))

    not_set : (h : Holder) → is_set h ≡ false → h ≡ Unset
    not_set Unset e = refl
    not_set Free e = absurd (true≢false e)
    not_set (HeldBy q) e = absurd (true≢false e)

    delays_same : (m n : ℕ) (l k : Location) → Delayed m l ≡ Delayed n k → l ≡ k
    delays_same m n l k e = ap (queue_of l) e
      where
        queue_of : Location → Status → Location
        queue_of z (Delayed x y) = y
        queue_of z _ = z

    owners_same : (m n : ℕ) → OfMonitor m ≡ OfMonitor n → m ≡ n
    owners_same m n e = ap number e
      where
        number : Rattle.cp_model.specs.Locations.Owner → ℕ
        number (OfMonitor x) = x
        number _ = 0

    continued : (m : ℕ) (o : Option ℕ) → marked_monitors (s.continuation p) ≡ m ∷ marked_monitors r.continuation → NoNewQueue s.store r.store
        → Resumes m s.store r.store o → Gates place monitors (resume m o (with_configuration s p r))
    continued m None e N R = passed place monitors m (with_configuration s p r) (on_the_way m e N) (bounds m e).0 (bounds m e).1
    continued m (Some x) e N R =
        let S = G.queues R.0 x R.2 in
        let at : s.status x ≡ Delayed m R.0 = S.delayed ∙ ap (λ y. Delayed y R.0) (owners_same S.monitor m (sym S.owner ∙ R.1)) in
        resumed place monitors m (with_configuration s p r) (on_the_way m e N) (bounds m e).0 (bounds m e).1 x R.0 at
        (λ k h.
        let T = G.queues k x (N k x h) in
        let there : k ≡ R.0 = delays_same T.monitor m k R.0 (sym T.delayed ∙ at) in
        R.3 x (ap r.store (sym there) ∙ h))

    starts : (q : ℕ) (k : List Task) → marked_monitors k ≡ [] → Gates place monitors (with_configuration s p r)
        → Gates place monitors (start_process q k (s.status q) (with_configuration s p r))
    starts q k e H = by (s.status q) refl
      where
        by : (x : Status) → s.status q ≡ x → Gates place monitors (start_process q k x (with_configuration s p r))
        by Unstarted is = started place monitors q k (with_configuration s p r) H is e
        by Fresh is = H
        by Ready is = H
        by Ended is = H
        by Waiting is = H
        by (Asking m) is = H
        by (Delayed m l) is = H
        by (Faulted n) is = H

    pub effect_keeps : (e : Effect) → EffectFits monitors (λ m. is_set (s.gates m).holder) p (configuration s p) r e
        → Gates place monitors (apply_effect p e (with_configuration s p r))
    unfolding IsBounded
    effect_keeps Own h = own h.0 h.1
    effect_keeps Ends h = moved place monitors s p G ready r D (as_before h.0) Ended ended_plain h.1 (λ x. absurd (grind arith)) none (λ m b x. ap (is_in m) h.0 ∙ x)
    effect_keeps Waits h = moved place monitors s p G ready r D (as_before h.0) Waiting waiting_plain h.1 (λ x. h.2) none (λ m b x. ap (is_in m) h.0 ∙ x)
    effect_keeps (Enters m) h = entered m h.0 h.1 h.2
    effect_keeps (Leaves m) h = passed place monitors m (with_configuration s p r) (on_the_way m h.0 h.1) (bounds m h.0).0 (bounds m h.0).1
    effect_keeps (Delays m l) h =
        let b = G.within p m (innermost (marked_monitors (s.continuation p)) h.2) in
        passed place monitors m (set_status p (Delayed m l) (with_configuration s p r)) (delayed place monitors s p G ready r D (as_before h.0) m l h.0 h.1 h.2 h.3) b.0 b.1
      where
        innermost : (ms : List ℕ) → IsInnermost m ms → is_in m ms ≡ true
        innermost [] x = absurd x
        innermost (n ∷ ms) x = subst (λ y. is_in m (y ∷ ms) ≡ true) (sym x) (in_head m ms)
    effect_keeps (Continues m o) h = continued m o h.0 h.1 h.2
    effect_keeps (Opens m) h =
        let unset = not_set (s.gates m).holder h.2 in
        let nobody : (q : ℕ) → is_in q (s.gates m).askers ≡ true → ⊥ = λ q x. subst IsHeld unset (G.taken m q refl x) in
        got place monitors s p G ready r D (one_more m h.0 h.3 h.4) m [] (empty (s.gates m).askers nobody) nobody (λ q x. grind (arith, sym unset ∙ x)) h.3 h.4 h.0 h.1
      where
        empty : (qs : List ℕ) → ((q : ℕ) → is_in q qs ≡ true → ⊥) → [] ≡ qs
        empty [] x = refl
        empty (q ∷ qs) x = absurd (x q (in_head q qs))
    effect_keeps (Starts q k) h = starts q k h.2 (own h.0 h.1)

  -- A fault keeps all gates as they are.
  pub fault_keeps : (n : ℕ) → Gates place monitors (set_status p (Faulted n) s)
  fault_keeps n = subst (λ (z : State). Gates place monitors (set_status p (Faulted n) z)) same
      (moved place monitors s p G ready (configuration s p) (G.descends p) (λ m h. G.within p m h) (Faulted n) (faulted_plain n) (λ l q h. h) (λ x. absurd (grind arith)) none (λ m b h. h))
    where
      same : with_configuration s p (configuration s p) ≡ s
      same i = record s {
        continuation = with_at_same p (s.continuation p) s.continuation refl i;
        transcript = with_at_same p (s.transcript p) s.transcript refl i;
        consumed = with_at_same p (s.consumed p) s.consumed refl i;
      }

-- ---- Waking and closing

record Relabels (f : Status → Status) : Type 0 where
  pub held : (x : Status) (k : List Task) → held_gates (f x) k ≡ held_gates x k
  pub asks : (x : Status) (m : ℕ) → x ≡ Asking m → f x ≡ Asking m
  pub asked_before : (x : Status) (m : ℕ) → f x ≡ Asking m → x ≡ Asking m
  pub stopped : (x : Status) (m : ℕ) → IsStoppedAt m (f x) → IsStoppedAt m x
  pub delays : (x : Status) (m : ℕ) (l : Location) → x ≡ Delayed m l → f x ≡ Delayed m l
  pub unstarted : (x : Status) → f x ≡ Unstarted → x ≡ Unstarted
  pub waiting : (x : Status) → f x ≡ Waiting → x ≡ Waiting

module _ (place : ℕ → ℕ) (monitors : ℕ) (s : State) (G : Gates place monitors s) where
  relabelled : (f : Status → Status) (n : ℕ) → Relabels f → Gates place monitors (record s { status = λ p. f (s.status p); rounds = n })
  relabelled f n R = record {
    marked = λ m q b h. ap (is_in m) (R.held (s.status q) (s.continuation q)) ∙ G.marked m q refl h;
    taken = G.taken;
    asks = λ m q h. R.asks (s.status q) m (G.asks m q h);
    listed = λ m q e. G.listed m q (R.asked_before (s.status q) m e);
    once = G.once;
    stopped = λ q m h. G.stopped q m (R.stopped (s.status q) m h);
    queues = λ l q e. let S = G.queues l q e in record { monitor = S.monitor; owner = S.owner; delayed = R.delays (s.status q) S.monitor l S.delayed };
    known = G.known;
    within = G.within;
    unstarted = λ q e. G.unstarted q (R.unstarted (s.status q) e);
    waiting = λ q e. G.waiting q (R.waiting (s.status q) e);
    descends = G.descends;
  }

  wakes : Relabels wake_status
  wakes = record { held = held; asks = λ x m e. rw e refl; asked_before = asked_before; stopped = stopped; delays = λ x m l e. rw e refl; unstarted = unstarted; waiting = waiting }
    where
      held : (x : Status) (k : List Task) → held_gates (wake_status x) k ≡ held_gates x k
      held Waiting k = refl
      held Unstarted k = refl
      held Fresh k = refl
      held Ready k = refl
      held Ended k = refl
      held (Asking m) k = refl
      held (Delayed m q) k = refl
      held (Faulted n) k = refl

      asked_before : (x : Status) (m : ℕ) → wake_status x ≡ Asking m → x ≡ Asking m
      asked_before Waiting m e = absurd (grind arith)
      asked_before Unstarted m e = e
      asked_before Fresh m e = e
      asked_before Ready m e = e
      asked_before Ended m e = e
      asked_before (Asking n) m e = e
      asked_before (Delayed n q) m e = e
      asked_before (Faulted n) m e = e

      stopped : (x : Status) (m : ℕ) → IsStoppedAt m (wake_status x) → IsStoppedAt m x
      stopped Waiting m h = absurd h
      stopped Unstarted m h = h
      stopped Fresh m h = h
      stopped Ready m h = h
      stopped Ended m h = h
      stopped (Asking n) m h = h
      stopped (Delayed n q) m h = h
      stopped (Faulted n) m h = h

      unstarted : (x : Status) → wake_status x ≡ Unstarted → x ≡ Unstarted
      unstarted Waiting e = absurd (grind arith)
      unstarted Unstarted e = e
      unstarted Fresh e = e
      unstarted Ready e = e
      unstarted Ended e = e
      unstarted (Asking n) e = e
      unstarted (Delayed n q) e = e
      unstarted (Faulted n) e = e

      waiting : (x : Status) → wake_status x ≡ Waiting → x ≡ Waiting
      waiting Waiting e = refl
      waiting Unstarted e = e
      waiting Fresh e = e
      waiting Ready e = e
      waiting Ended e = e
      waiting (Asking n) e = e
      waiting (Delayed n q) e = e
      waiting (Faulted n) e = e

  closes : Relabels after_closing
  closes = record { held = held; asks = λ x m e. rw e refl; asked_before = asked_before; stopped = stopped; delays = λ x m l e. rw e refl; unstarted = unstarted; waiting = waiting }
    where
      held : (x : Status) (k : List Task) → held_gates (after_closing x) k ≡ held_gates x k
      held Waiting k = refl
      held Unstarted k = refl
      held Fresh k = refl
      held Ready k = refl
      held Ended k = refl
      held (Asking m) k = refl
      held (Delayed m q) k = refl
      held (Faulted n) k = refl

      asked_before : (x : Status) (m : ℕ) → after_closing x ≡ Asking m → x ≡ Asking m
      asked_before Fresh m e = absurd (grind arith)
      asked_before Unstarted m e = e
      asked_before Waiting m e = e
      asked_before Ready m e = e
      asked_before Ended m e = e
      asked_before (Asking n) m e = e
      asked_before (Delayed n q) m e = e
      asked_before (Faulted n) m e = e

      stopped : (x : Status) (m : ℕ) → IsStoppedAt m (after_closing x) → IsStoppedAt m x
      stopped Fresh m h = absurd h
      stopped Unstarted m h = h
      stopped Waiting m h = h
      stopped Ready m h = h
      stopped Ended m h = h
      stopped (Asking n) m h = h
      stopped (Delayed n q) m h = h
      stopped (Faulted n) m h = h

      unstarted : (x : Status) → after_closing x ≡ Unstarted → x ≡ Unstarted
      unstarted Fresh e = absurd (grind arith)
      unstarted Unstarted e = e
      unstarted Waiting e = e
      unstarted Ready e = e
      unstarted Ended e = e
      unstarted (Asking n) e = e
      unstarted (Delayed n q) e = e
      unstarted (Faulted n) e = e

      waiting : (x : Status) → after_closing x ≡ Waiting → x ≡ Waiting
      waiting Fresh e = absurd (grind arith)
      waiting Unstarted e = e
      waiting Waiting e = e
      waiting Ready e = e
      waiting Ended e = e
      waiting (Asking n) e = e
      waiting (Delayed n q) e = e
      waiting (Faulted n) e = e

  pub wake_keeps_gates : (setup : Setup) → Gates place monitors (wake setup s)
  wake_keeps_gates setup = by (nat_eq (suc s.rounds % setup.tick) 0)
    where
      by : (b : Bool) → Gates place monitors (if b then record s { status = λ p. wake_status (s.status p) } else s)
      by true = relabelled wake_status s.rounds wakes
      by false = G

  pub close_keeps_gates : Gates place monitors (close_round s)
  close_keeps_gates = relabelled after_closing (suc s.rounds) closes
