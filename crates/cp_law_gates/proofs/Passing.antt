-- Handing a gate on keeps the gates in order.
use Rattle.std.proofs.Common.{◌≡◌, ◌≢◌, ℕ, ◌≤◌, List, [], ◌∷◌, drop, Bool, true, false, Some, refl, ap, sym, subst, ◌∙◌, arith}
use Rattle.std.specs.Prelude.{if◌then◌else◌, nat_eq}
use Rattle.std.proofs.lemmas.Bool.{eq-eqb, eqb-false, eqb-true, ne_eqb, true≢false}
use Rattle.cp_model.specs.Locations.{Location}
use Rattle.cp_model.specs.Stores.{QueueHolds}
use Rattle.cp_model.specs.Continuations.{Task, marked_monitors}
use Rattle.cp_model.specs.Configurations.{Asking, Delayed, Ended, Faulted, Fresh, Ready, Status, Unstarted, Waiting, held_gates}
use Rattle.cp_model.specs.States.{Free, HeldBy, Holder, State, is_in, is_set}
use Rattle.cp_model.specs.Gates.{made_ready, make_ready, pass_to, set_gate}
use Rattle.cp_model.proofs.Lists.{in_head, in_more}
use Rattle.cp_law_gates.specs.Hierarchy.{IsHeld, NoneTwice}
use Rattle.cp_law_gates.specs.Gates.{Gates, GatesBut, IsInnermost, IsStoppedAt, IsQueuedIn}
use Rattle.cp_law_gates.proofs.Lists.{in_rest, not_in}

pub differs : (p q : ℕ) → nat_eq p q ≡ false → p ≢ q
differs p q e = eqb-false p q e

innermost_in : (m : ℕ) (ms : List ℕ) → IsInnermost m ms → is_in m ms ≡ true
innermost_in m [] h = absurd h
innermost_in m (n ∷ ns) h = subst (λ x. is_in m (x ∷ ns) ≡ true) (sym h) (in_head m ns)

held_marked : (m : ℕ) (x : Status) (k : List Task) → is_in m (held_gates x k) ≡ true → is_in m (marked_monitors k) ≡ true
held_marked m x k h = by x h
  where
    more : (ms : List ℕ) → is_in m (drop 1 ms) ≡ true → is_in m ms ≡ true
    more [] h = h
    more (n ∷ ns) h = in_more m n ns h

    by : (x : Status) → is_in m (held_gates x k) ≡ true → is_in m (marked_monitors k) ≡ true
    by (Asking n) h = more (marked_monitors k) h
    by (Delayed n q) h = more (marked_monitors k) h
    by Unstarted h = h
    by Fresh h = h
    by Ready h = h
    by Ended h = h
    by Waiting h = h
    by (Faulted n) h = h

-- ---- Statuses

pub stopped_ready : (m : ℕ) (x : Status) → IsStoppedAt m x → made_ready x ≡ Ready
stopped_ready m (Asking n) h = refl
stopped_ready m (Delayed n q) h = refl
stopped_ready m Unstarted h = absurd h
stopped_ready m Fresh h = absurd h
stopped_ready m Ready h = absurd h
stopped_ready m Ended h = absurd h
stopped_ready m Waiting h = absurd h
stopped_ready m (Faulted n) h = absurd h

pub asked : (m n : ℕ) (x : Status) → IsStoppedAt m x → x ≡ Asking n → m ≡ n
asked m n x h e = sym (subst (λ y. IsStoppedAt m y) e h)

ready_asks : (m : ℕ) → Ready ≡ Asking m → ⊥
ready_asks m e = grind arith

ready_represents : (m : ℕ) (l : Location) → Ready ≡ Delayed m l → ⊥
ready_represents m l e = grind arith

ready_unstarted : Ready ≡ Unstarted → ⊥
ready_unstarted e = grind arith

ready_waiting : Ready ≡ Waiting → ⊥
ready_waiting e = grind arith

holder_is : Holder → ℕ
holder_is (HeldBy p) = p
holder_is _ = 0

same_holder : (p q : ℕ) → HeldBy p ≡ HeldBy q → p ≡ q
unfolding holder_is
same_holder p q e = ap holder_is e

-- ---- A gate that is given to a process that is stopped at it

module _ (place : ℕ → ℕ) (monitors m r : ℕ) (rs : List ℕ) (v : State) (G : GatesBut place monitors (λ n. nat_eq m n) v)
    (low : 1 ≤ m) (high : m ≤ monitors) (at : IsStoppedAt m (v.status r))
    (theirs : (q : ℕ) → is_in q rs ≡ true → v.status q ≡ Asking m) (others : is_in r rs ≡ false)
    (whole : (q : ℕ) → v.status q ≡ Asking m → q ≢ r → is_in q rs ≡ true) (distinct : NoneTwice rs)
    (unqueued : (l : Location) → v.store l ≡ QueueHolds (Some r) → ⊥) where
  w : State
  w = make_ready r (set_gate m (HeldBy r) rs v)

  is_ready : made_ready (v.status r) ≡ Ready
  is_ready = stopped_ready m (v.status r) at

  pub given : Gates place monitors (make_ready r (set_gate m (HeldBy r) rs v))
  given = record {
    marked = λ n q b h. marks n q (nat_eq m n) refl h;
    taken = λ n q b h. held n q (nat_eq m n) refl h;
    asks = λ n q h. asking n q (nat_eq m n) refl h;
    listed = λ n q e. lists n q (nat_eq r q) refl e;
    once = λ n. single n (nat_eq m n);
    stopped = λ q n h. stops q n (nat_eq r q) refl h;
    queues = λ l q e. represents l q (nat_eq r q) refl (G.queues l q e) e;
    known = λ n h. knows n (nat_eq m n) refl h;
    unstarted = λ q e. fresh q (nat_eq r q) e;
    waiting = λ q e. sleeps q (nat_eq r q) e;
    within = G.within;
    descends = G.descends;
  }
    where
      more : (n q : ℕ) (b : Bool) → nat_eq r q ≡ b → is_in n (held_gates (v.status q) (v.continuation q)) ≡ true
          → is_in n (held_gates (if b then made_ready (v.status r) else v.status q) (v.continuation q)) ≡ true
      more n q true e h = subst (λ x. is_in n (held_gates x (v.continuation q)) ≡ true) (sym is_ready) (held_marked n (v.status q) (v.continuation q) h)
      more n q false e h = h

      mine : (q : ℕ) → r ≡ q → is_in m (held_gates (if nat_eq r q then made_ready (v.status r) else v.status q) (v.continuation q)) ≡ true
      mine q e = subst (λ x. is_in m (held_gates (if nat_eq r x then made_ready (v.status r) else v.status x) (v.continuation x)) ≡ true) e
          (rw (eq-eqb r r refl) (subst (λ x. is_in m (held_gates x (v.continuation r)) ≡ true) (sym is_ready) (innermost_in m (marked_monitors (v.continuation r)) (G.stopped r m at))))

      marks : (n q : ℕ) (b : Bool) → nat_eq m n ≡ b → (if b then record { holder = HeldBy r; askers = rs } else v.gates n).holder ≡ HeldBy q
          → is_in n (held_gates (if nat_eq r q then made_ready (v.status r) else v.status q) (v.continuation q)) ≡ true
      marks n q true e h = subst (λ x. is_in x (held_gates (if nat_eq r q then made_ready (v.status r) else v.status q) (v.continuation q)) ≡ true) (eqb-true m n e) (mine q (same_holder r q h))
      marks n q false e h = more n q (nat_eq r q) refl (G.marked n q e h)

      held : (n q : ℕ) (b : Bool) → nat_eq m n ≡ b → is_in q (if b then record { holder = HeldBy r; askers = rs } else v.gates n).askers ≡ true
          → IsHeld (if b then record { holder = HeldBy r; askers = rs } else v.gates n).holder
      held n q true e h = tt
      held n q false e h = G.taken n q e h

      kept : (n q : ℕ) → q ≢ r → v.status q ≡ Asking n → (if nat_eq r q then made_ready (v.status r) else v.status q) ≡ Asking n
      kept n q d e = rw (ne_eqb r q (λ x. d (sym x))) e

      asking : (n q : ℕ) (b : Bool) → nat_eq m n ≡ b → is_in q (if b then record { holder = HeldBy r; askers = rs } else v.gates n).askers ≡ true
          → (if nat_eq r q then made_ready (v.status r) else v.status q) ≡ Asking n
      asking n q true e h = subst (λ x. (if nat_eq r q then made_ready (v.status r) else v.status q) ≡ Asking x) (eqb-true m n e)
          (kept m q (λ x. true≢false (sym h ∙ (ap (λ y. is_in y rs) x ∙ others))) (theirs q h))
      asking n q false e h =
          let a = G.asks n q h in
          kept n q (λ x. differs m n e (asked m n (v.status r) at (ap v.status (sym x) ∙ a))) a

      lists : (n q : ℕ) (b : Bool) → nat_eq r q ≡ b → (if b then made_ready (v.status r) else v.status q) ≡ Asking n
          → is_in q (if nat_eq m n then record { holder = HeldBy r; askers = rs } else v.gates n).askers ≡ true
      lists n q true e h = absurd (ready_asks n (sym is_ready ∙ h))
      lists n q false e h = by (nat_eq m n) refl
        where
          by : (b : Bool) → nat_eq m n ≡ b → is_in q (if b then record { holder = HeldBy r; askers = rs } else v.gates n).askers ≡ true
          by true x = whole q (h ∙ ap Asking (sym (eqb-true m n x))) (λ y. differs r q e (sym y))
          by false x = G.listed n q h

      single : (n : ℕ) (b : Bool) → NoneTwice (if b then record { holder = HeldBy r; askers = rs } else v.gates n).askers
      single n true = distinct
      single n false = G.once n

      stops : (q n : ℕ) (b : Bool) → nat_eq r q ≡ b → IsStoppedAt n (if b then made_ready (v.status r) else v.status q)
          → IsInnermost n (marked_monitors (v.continuation q))
      stops q n true e h = absurd (subst (λ x. IsStoppedAt n x) is_ready h)
      stops q n false e h = G.stopped q n h

      represents : (l : Location) (q : ℕ) (b : Bool) → nat_eq r q ≡ b → IsQueuedIn v l q → v.store l ≡ QueueHolds (Some q)
          → IsQueuedIn (make_ready r (set_gate m (HeldBy r) rs v)) l q
      represents l q true e S x = absurd (unqueued l (x ∙ ap (λ y. QueueHolds (Some y)) (sym (eqb-true r q e))))
      represents l q false e S x = record { monitor = S.monitor; owner = S.owner; delayed = rw e S.delayed }

      knows : (n : ℕ) (b : Bool) → nat_eq m n ≡ b → is_set (if b then record { holder = HeldBy r; askers = rs } else v.gates n).holder ≡ true
          → (1 ≤ n) × (n ≤ monitors)
      knows n true e h = subst (λ x. (1 ≤ x) × (x ≤ monitors)) (eqb-true m n e) (low, high)
      knows n false e h = G.known n h

      fresh : (q : ℕ) (b : Bool) → (if b then made_ready (v.status r) else v.status q) ≡ Unstarted → marked_monitors (v.continuation q) ≡ []
      fresh q true e = absurd (ready_unstarted (sym is_ready ∙ e))
      fresh q false e = G.unstarted q e

      sleeps : (q : ℕ) (b : Bool) → (if b then made_ready (v.status r) else v.status q) ≡ Waiting → marked_monitors (v.continuation q) ≡ []
      sleeps q true e = absurd (ready_waiting (sym is_ready ∙ e))
      sleeps q false e = G.waiting q e

-- ---- A gate that becomes free, since nobody asks for it

module _ (place : ℕ → ℕ) (monitors m : ℕ) (v : State) (G : GatesBut place monitors (λ n. nat_eq m n) v) (low : 1 ≤ m) (high : m ≤ monitors)
    (nobody : (v.gates m).askers ≡ []) where
  pub freed : Gates place monitors (set_gate m Free [] v)
  freed = record {
    marked = λ n q b h. marks n q (nat_eq m n) refl h;
    taken = λ n q b h. held n q (nat_eq m n) refl h;
    asks = λ n q h. asking n q (nat_eq m n) refl h;
    listed = λ n q e. lists n q e (nat_eq m n) refl (G.listed n q e);
    once = λ n. single n (nat_eq m n);
    stopped = G.stopped;
    queues = λ l q e. let S = G.queues l q e in record { monitor = S.monitor; owner = S.owner; delayed = S.delayed };
    known = λ n h. knows n (nat_eq m n) refl h;
    unstarted = G.unstarted;
    waiting = G.waiting;
    within = G.within;
    descends = G.descends;
  }
    where
      marks : (n q : ℕ) (b : Bool) → nat_eq m n ≡ b → (if b then record { holder = Free; askers = [] } else v.gates n).holder ≡ HeldBy q
          → is_in n (held_gates (v.status q) (v.continuation q)) ≡ true
      marks n q true e h = absurd (grind arith)
      marks n q false e h = G.marked n q e h

      held : (n q : ℕ) (b : Bool) → nat_eq m n ≡ b → is_in q (if b then record { holder = Free; askers = [] } else v.gates n).askers ≡ true
          → IsHeld (if b then record { holder = Free; askers = [] } else v.gates n).holder
      held n q true e h = absurd (true≢false (sym h))
      held n q false e h = G.taken n q e h

      asking : (n q : ℕ) (b : Bool) → nat_eq m n ≡ b → is_in q (if b then record { holder = Free; askers = [] } else v.gates n).askers ≡ true → v.status q ≡ Asking n
      asking n q true e h = absurd (true≢false (sym h))
      asking n q false e h = G.asks n q h

      lists : (n q : ℕ) → v.status q ≡ Asking n → (b : Bool) → nat_eq m n ≡ b → is_in q (v.gates n).askers ≡ true → is_in q (if b then record { holder = Free; askers = [] } else v.gates n).askers ≡ true
      lists n q s true e h = absurd (true≢false (sym h ∙ ap (λ x. is_in q x) (ap (λ x. (v.gates x).askers) (sym (eqb-true m n e)) ∙ nobody)))
      lists n q s false e h = h

      single : (n : ℕ) (b : Bool) → NoneTwice (if b then record { holder = Free; askers = [] } else v.gates n).askers
      single n true = tt
      single n false = G.once n

      knows : (n : ℕ) (b : Bool) → nat_eq m n ≡ b → is_set (if b then record { holder = Free; askers = [] } else v.gates n).holder ≡ true → (1 ≤ n) × (n ≤ monitors)
      knows n true e h = subst (λ x. (1 ≤ x) × (x ≤ monitors)) (eqb-true m n e) (low, high)
      knows n false e h = G.known n h

-- ---- Passing on

delayed_asks : (n m : ℕ) (l : Location) → Delayed n l ≡ Asking m → ⊥
delayed_asks n m l e = grind arith

module _ (place : ℕ → ℕ) (monitors m : ℕ) (v : State) (G : GatesBut place monitors (λ n. nat_eq m n) v) (low : 1 ≤ m) (high : m ≤ monitors) where
  pub passed : Gates place monitors (pass_to m (v.gates m).askers v)
  passed = by (v.gates m).askers refl
    where
      by : (qs : List ℕ) → (v.gates m).askers ≡ qs → Gates place monitors (pass_to m qs v)
      by [] e = freed place monitors m v G low high e
      by (r ∷ rs) e =
          let asks : v.status r ≡ Asking m = G.asks m r (ap (λ x. is_in r x) e ∙ in_head r rs) in
          let o : NoneTwice (r ∷ rs) = subst NoneTwice e (G.once m) in
          given place monitors m r rs v G low high (subst (λ x. IsStoppedAt m x) (sym asks) refl)
          (λ q h. G.asks m q (ap (λ x. is_in q x) e ∙ in_more q r rs h)) o.0
          (λ q h d. in_rest q r rs (ap (λ x. is_in q x) (sym e) ∙ G.listed m q h) d) o.1
          (λ l h. let S = G.queues l r h in delayed_asks S.monitor m l (sym S.delayed ∙ asks))

  -- A process that was delayed gets the gate ahead of all askers.
  pub resumed : (r : ℕ) (l : Location) → v.status r ≡ Delayed m l → ((k : Location) → v.store k ≡ QueueHolds (Some r) → ⊥)
      → Gates place monitors (make_ready r (set_gate m (HeldBy r) (v.gates m).askers v))
  resumed r l e unqueued =
      given place monitors m r (v.gates m).askers v G low high (subst (λ x. IsStoppedAt m x) (sym e) refl)
      (λ q h. G.asks m q h) (not_in r (v.gates m).askers (λ h. delayed_asks m m l (sym e ∙ G.asks m r h)))
      (λ q h d. G.listed m q h) (G.once m) unqueued
