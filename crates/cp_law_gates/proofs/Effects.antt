-- The effects of steps keep the gates in order.
use Rattle.std.proofs.Common.{◌≡◌, ◌≢◌, ℕ, ◌≤◌, List, [], ◌∷◌, ◌++◌, drop, Bool, true, false, Some, refl, ap, sym, subst, ◌∙◌, inl, inr, arith}
use Rattle.std.specs.Prelude.{if◌then◌else◌, nat_eq}
use Rattle.std.proofs.lemmas.Bool.{eq-eqb, eqb-true}
use Rattle.cp_model.specs.Locations.{Location, OfMonitor}
use Rattle.cp_model.specs.Stores.{QueueHolds}
use Rattle.cp_model.specs.Continuations.{Task, marked_monitors}
use Rattle.cp_model.specs.Configurations.{Asking, Configuration, Delayed, Ended, Faulted, Ready, Status, Unstarted, Waiting, held_gates}
use Rattle.cp_model.specs.States.{Gate, HeldBy, Holder, State, is_in, is_set, set_status, with_configuration}
use Rattle.cp_model.specs.Gates.{set_gate}
use Rattle.cp_model.proofs.Lists.{in_head, in_more}
use Rattle.cp_law_gates.specs.Hierarchy.{Descends, IsHeld, NoneTwice}
use Rattle.cp_law_gates.specs.Gates.{Gates, GatesBut, IsInnermost, IsStoppedAt, IsQueuedIn}
use Rattle.cp_law_gates.specs.Effects.{NoNewQueue, OneNewQueue}
use Rattle.cp_law_gates.proofs.Lists.{in_append, in_appended, in_last, in_rest, not_in, once_more}
use Rattle.cp_law_gates.proofs.Passing.{differs}

-- ---- A status of a process that has no gate to wait for, and what its gates are

pub record IsPlain (x : Status) : Type 0 where
  pub held : (k : List Task) → held_gates x k ≡ marked_monitors k
  pub unasked : (m : ℕ) → x ≡ Asking m → ⊥
  pub unstopped : (m : ℕ) → IsStoppedAt m x → ⊥
  pub unqueued : (m : ℕ) (l : Location) → x ≡ Delayed m l → ⊥
  pub started : x ≡ Unstarted → ⊥

pub ready_plain : IsPlain Ready
ready_plain = record {
  held = λ k. refl;
  unasked = λ m e. grind arith;
  unstopped = λ m h. h;
  unqueued = λ m l e. grind arith;
  started = λ e. grind arith;
}

pub ended_plain : IsPlain Ended
ended_plain = record {
  held = λ k. refl;
  unasked = λ m e. grind arith;
  unstopped = λ m h. h;
  unqueued = λ m l e. grind arith;
  started = λ e. grind arith;
}

pub waiting_plain : IsPlain Waiting
waiting_plain = record {
  held = λ k. refl;
  unasked = λ m e. grind arith;
  unstopped = λ m h. h;
  unqueued = λ m l e. grind arith;
  started = λ e. grind arith;
}

pub faulted_plain : (n : ℕ) → IsPlain (Faulted n)
faulted_plain n = record {
  held = λ k. refl;
  unasked = λ m e. grind arith;
  unstopped = λ m h. h;
  unqueued = λ m l e. grind arith;
  started = λ e. grind arith;
}

module _ (place : ℕ → ℕ) (monitors : ℕ) (s : State) (p : ℕ) (G : Gates place monitors s) (ready : s.status p ≡ Ready) where
  ready_held : (m : ℕ) → is_in m (held_gates (s.status p) (s.continuation p)) ≡ true → is_in m (marked_monitors (s.continuation p)) ≡ true
  ready_held m h = sym (ap (λ x. is_in m (held_gates x (s.continuation p))) ready) ∙ h

  not_asking : (m : ℕ) → s.status p ≡ Asking m → ⊥
  not_asking m e = ready_plain.unasked m (sym ready ∙ e)

  not_delayed : (m : ℕ) (l : Location) → s.status p ≡ Delayed m l → ⊥
  not_delayed m l e = ready_plain.unqueued m l (sym ready ∙ e)

  module _ (r : Configuration) (D : Descends place (marked_monitors r.continuation))
      (W : (m : ℕ) → is_in m (marked_monitors r.continuation) ≡ true → (1 ≤ m) × (m ≤ monitors)) where
    within : (q m : ℕ) (b : Bool) → is_in m (marked_monitors (if b then r.continuation else s.continuation q)) ≡ true → (1 ≤ m) × (m ≤ monitors)
    within q m true h = W m h
    within q m false h = G.within q m h

    descends : (q : ℕ) (b : Bool) → Descends place (marked_monitors (if b then r.continuation else s.continuation q))
    descends q true = D
    descends q false = G.descends q

    -- The process has moved on, and has a plain status.
    module _ (x : Status) (plain : IsPlain x) (N : NoNewQueue s.store r.store) (sleeps : x ≡ Waiting → marked_monitors r.continuation ≡ [])
        (but : ℕ → Bool) (keeps : (m : ℕ) → but m ≡ false → is_in m (marked_monitors (s.continuation p)) ≡ true → is_in m (marked_monitors r.continuation) ≡ true) where
      pub moved : GatesBut place monitors but (set_status p x (with_configuration s p r))
      moved = record {
        marked = λ m q b h. marks m q b (nat_eq p q) refl (G.marked m q refl h);
        taken = λ m q b h. G.taken m q refl h;
        asks = λ m q h. asking m q (nat_eq p q) refl (G.asks m q h);
        listed = λ m q e. lists m q (nat_eq p q) e;
        once = G.once;
        stopped = λ q m h. stops q m (nat_eq p q) h;
        queues = λ l q e. represents l q (nat_eq p q) refl (G.queues l q (N l q e));
        known = G.known;
        unstarted = λ q e. fresh q (nat_eq p q) e;
        waiting = λ q e. sleep q (nat_eq p q) e;
        within = λ q m x. within q m (nat_eq p q) x;
        descends = λ q. descends q (nat_eq p q);
      }
        where
          marks : (m q : ℕ) → but m ≡ false → (b : Bool) → nat_eq p q ≡ b → is_in m (held_gates (s.status q) (s.continuation q)) ≡ true
              → is_in m (held_gates (if b then x else s.status q) (if b then r.continuation else s.continuation q)) ≡ true
          marks m q n true e h =
              let mine : is_in m (held_gates (s.status p) (s.continuation p)) ≡ true = subst (λ y. is_in m (held_gates (s.status y) (s.continuation y)) ≡ true) (sym (eqb-true p q e)) h in
              ap (λ y. is_in m y) (plain.held r.continuation) ∙ keeps m n (ready_held m mine)
          marks m q n false e h = h

          asking : (m q : ℕ) (b : Bool) → nat_eq p q ≡ b → s.status q ≡ Asking m → (if b then x else s.status q) ≡ Asking m
          asking m q true e h = absurd (not_asking m (ap s.status (eqb-true p q e) ∙ h))
          asking m q false e h = h

          lists : (m q : ℕ) (b : Bool) → (if b then x else s.status q) ≡ Asking m → is_in q (s.gates m).askers ≡ true
          lists m q true e = absurd (plain.unasked m e)
          lists m q false e = G.listed m q e

          stops : (q m : ℕ) (b : Bool) → IsStoppedAt m (if b then x else s.status q) → IsInnermost m (marked_monitors (if b then r.continuation else s.continuation q))
          stops q m true h = absurd (plain.unstopped m h)
          stops q m false h = G.stopped q m h

          represents : (l : Location) (q : ℕ) (b : Bool) → nat_eq p q ≡ b → IsQueuedIn s l q → IsQueuedIn (set_status p x (with_configuration s p r)) l q
          represents l q true e S = absurd (not_delayed S.monitor l (ap s.status (eqb-true p q e) ∙ S.delayed))
          represents l q false e S = record { monitor = S.monitor; owner = S.owner; delayed = rw e S.delayed }

          fresh : (q : ℕ) (b : Bool) → (if b then x else s.status q) ≡ Unstarted → marked_monitors (if b then r.continuation else s.continuation q) ≡ []
          fresh q true e = absurd (plain.started e)
          fresh q false e = G.unstarted q e

          sleep : (q : ℕ) (b : Bool) → (if b then x else s.status q) ≡ Waiting → marked_monitors (if b then r.continuation else s.continuation q) ≡ []
          sleep q true e = sleeps e
          sleep q false e = G.waiting q e

    -- The process is delayed in a queue of its innermost monitor, whose gate is on the way.
    module _ (m : ℕ) (l : Location) (same : marked_monitors r.continuation ≡ marked_monitors (s.continuation p))
        (one : OneNewQueue p l s.store r.store) (inner : IsInnermost m (marked_monitors (s.continuation p))) (own : l.owner ≡ OfMonitor m) where
      pub delayed : GatesBut place monitors (λ n. nat_eq m n) (set_status p (Delayed m l) (with_configuration s p r))
      delayed = record {
        marked = λ n q b h. marks n q b (nat_eq p q) refl (G.marked n q refl h);
        taken = λ n q b h. G.taken n q refl h;
        asks = λ n q h. asking n q (nat_eq p q) refl (G.asks n q h);
        listed = λ n q e. lists n q (nat_eq p q) e;
        once = G.once;
        stopped = λ q n h. stops q n (nat_eq p q) h;
        queues = λ k q e. represents k q e;
        known = G.known;
        unstarted = λ q e. fresh q (nat_eq p q) e;
        waiting = λ q e. sleep q (nat_eq p q) e;
        within = λ q m x. within q m (nat_eq p q) x;
        descends = λ q. descends q (nat_eq p q);
      }
        where
          rest : (n : ℕ) (ms : List ℕ) → m ≢ n → IsInnermost m ms → is_in n ms ≡ true → is_in n (drop 1 ms) ≡ true
          rest n [] d i h = h
          rest n (a ∷ ms) d i h = in_rest n a ms h (λ x. d (sym i ∙ sym x))

          marks : (n q : ℕ) → nat_eq m n ≡ false → (b : Bool) → nat_eq p q ≡ b → is_in n (held_gates (s.status q) (s.continuation q)) ≡ true
              → is_in n (held_gates (if b then Delayed m l else s.status q) (if b then r.continuation else s.continuation q)) ≡ true
          marks n q d true e h =
              let mine : is_in n (held_gates (s.status p) (s.continuation p)) ≡ true = subst (λ y. is_in n (held_gates (s.status y) (s.continuation y)) ≡ true) (sym (eqb-true p q e)) h in
              ap (λ y. is_in n (drop 1 y)) same ∙ rest n (marked_monitors (s.continuation p)) (differs m n d) inner (ready_held n mine)
          marks n q d false e h = h

          asking : (n q : ℕ) (b : Bool) → nat_eq p q ≡ b → s.status q ≡ Asking n → (if b then Delayed m l else s.status q) ≡ Asking n
          asking n q true e h = absurd (not_asking n (ap s.status (eqb-true p q e) ∙ h))
          asking n q false e h = h

          lists : (n q : ℕ) (b : Bool) → (if b then Delayed m l else s.status q) ≡ Asking n → is_in q (s.gates n).askers ≡ true
          lists n q true e = absurd (grind arith)
          lists n q false e = G.listed n q e

          stops : (q n : ℕ) (b : Bool) → IsStoppedAt n (if b then Delayed m l else s.status q) → IsInnermost n (marked_monitors (if b then r.continuation else s.continuation q))
          stops q n true h = subst (IsInnermost n) (sym same) (subst (λ x. IsInnermost x (marked_monitors (s.continuation p))) h inner)
          stops q n false h = G.stopped q n h

          old : (k : Location) (q : ℕ) (b : Bool) → nat_eq p q ≡ b → IsQueuedIn s k q → IsQueuedIn (set_status p (Delayed m l) (with_configuration s p r)) k q
          old k q true e S = absurd (not_delayed S.monitor k (ap s.status (eqb-true p q e) ∙ S.delayed))
          old k q false e S = record { monitor = S.monitor; owner = S.owner; delayed = rw e S.delayed }

          new : (k : Location) (q : ℕ) → k ≡ l → q ≡ p → IsQueuedIn (set_status p (Delayed m l) (with_configuration s p r)) k q
          new k q x y = record {
            monitor = m;
            owner = ap (λ (z : Location). z.owner) x ∙ own;
            delayed = rw (ap (nat_eq p) y ∙ eq-eqb p p refl) (ap (Delayed m) (sym x));
          }

          represents : (k : Location) (q : ℕ) → r.store k ≡ QueueHolds (Some q) → IsQueuedIn (set_status p (Delayed m l) (with_configuration s p r)) k q
          represents k q e = elim (one k q e) [ inl x ↦ old k q (nat_eq p q) refl (G.queues k q x) | inr x ↦ new k q x.0 x.1 ]

          fresh : (q : ℕ) (b : Bool) → (if b then Delayed m l else s.status q) ≡ Unstarted → marked_monitors (if b then r.continuation else s.continuation q) ≡ []
          fresh q true e = absurd (grind arith)
          fresh q false e = G.unstarted q e

          sleep : (q : ℕ) (b : Bool) → (if b then Delayed m l else s.status q) ≡ Waiting → marked_monitors (if b then r.continuation else s.continuation q) ≡ []
          sleep q true e = absurd (grind arith)
          sleep q false e = G.waiting q e

    -- The process asks for a gate that is held, and is the last of its askers.
    module _ (m h : ℕ) (held : (s.gates m).holder ≡ HeldBy h) (pushed : marked_monitors r.continuation ≡ m ∷ marked_monitors (s.continuation p))
        (N : NoNewQueue s.store r.store) where
      asked_gate : Gate
      asked_gate = record { holder = HeldBy h; askers = (s.gates m).askers ++ p ∷ [] }

      pub asked : Gates place monitors (set_status p (Asking m) (set_gate m (HeldBy h) ((s.gates m).askers ++ p ∷ []) (with_configuration s p r)))
      asked = record {
        marked = λ n q b x. marks n q (nat_eq p q) refl (G.marked n q refl (holds n q (nat_eq m n) refl x));
        taken = λ n q b x. takes n q (nat_eq m n) x;
        asks = λ n q x. asking n q (nat_eq m n) refl x;
        listed = λ n q e. lists n q (nat_eq p q) refl e;
        once = λ n. single n (nat_eq m n);
        stopped = λ q n x. stops q n (nat_eq p q) x;
        queues = λ l q e. represents l q (nat_eq p q) refl (G.queues l q (N l q e));
        known = λ n x. knows n (nat_eq m n) refl x;
        unstarted = λ q e. fresh q (nat_eq p q) e;
        waiting = λ q e. sleep q (nat_eq p q) e;
        within = λ q m x. within q m (nat_eq p q) x;
        descends = λ q. descends q (nat_eq p q);
      }
        where
          holds : (n q : ℕ) (b : Bool) → nat_eq m n ≡ b → (if b then record { holder = HeldBy h; askers = (s.gates m).askers ++ p ∷ [] } else s.gates n).holder ≡ HeldBy q → (s.gates n).holder ≡ HeldBy q
          holds n q true e x = ap (λ y. (s.gates y).holder) (sym (eqb-true m n e)) ∙ held ∙ x
          holds n q false e x = x

          marks : (n q : ℕ) (b : Bool) → nat_eq p q ≡ b → is_in n (held_gates (s.status q) (s.continuation q)) ≡ true
              → is_in n (held_gates (if b then Asking m else s.status q) (if b then r.continuation else s.continuation q)) ≡ true
          marks n q true e x =
              let mine : is_in n (held_gates (s.status p) (s.continuation p)) ≡ true = subst (λ y. is_in n (held_gates (s.status y) (s.continuation y)) ≡ true) (sym (eqb-true p q e)) x in
              ap (λ y. is_in n (drop 1 y)) pushed ∙ ready_held n mine
          marks n q false e x = x

          takes : (n q : ℕ) (b : Bool) → is_in q (if b then record { holder = HeldBy h; askers = (s.gates m).askers ++ p ∷ [] } else s.gates n).askers ≡ true
              → IsHeld (if b then record { holder = HeldBy h; askers = (s.gates m).askers ++ p ∷ [] } else s.gates n).holder
          takes n q true x = tt
          takes n q false x = G.taken n q refl x

          reported : (n q : ℕ) (b : Bool) → nat_eq p q ≡ b → s.status q ≡ Asking n → (if b then Asking m else s.status q) ≡ Asking n
          reported n q true e x = absurd (not_asking n (ap s.status (eqb-true p q e) ∙ x))
          reported n q false e x = x

          last : (n q : ℕ) (b : Bool) → nat_eq p q ≡ b → m ≡ n → is_in q ((s.gates m).askers ++ p ∷ []) ≡ true → (if b then Asking m else s.status q) ≡ Asking n
          last n q true e g x = ap Asking g
          last n q false e g x = G.asks m q (in_appended q p (s.gates m).askers x (λ y. differs p q e (sym y))) ∙ ap Asking g

          asking : (n q : ℕ) (b : Bool) → nat_eq m n ≡ b → is_in q (if b then record { holder = HeldBy h; askers = (s.gates m).askers ++ p ∷ [] } else s.gates n).askers ≡ true
              → (if nat_eq p q then Asking m else s.status q) ≡ Asking n
          asking n q true e x = last n q (nat_eq p q) refl (eqb-true m n e) x
          asking n q false e x = reported n q (nat_eq p q) refl (G.asks n q x)

          askings : (n : ℕ) → Asking m ≡ Asking n → m ≡ n
          askings n e = ap asked_of e
            where
              asked_of : Status → ℕ
              asked_of (Asking n) = n
              asked_of _ = 0

          more : (n q : ℕ) (b : Bool) → nat_eq m n ≡ b → is_in q (s.gates n).askers ≡ true → is_in q (if b then record { holder = HeldBy h; askers = (s.gates m).askers ++ p ∷ [] } else s.gates n).askers ≡ true
          more n q true e x = in_append q p (s.gates m).askers (ap (λ y. is_in q (s.gates y).askers) (eqb-true m n e) ∙ x)
          more n q false e x = x

          lists : (n q : ℕ) (b : Bool) → nat_eq p q ≡ b → (if b then Asking m else s.status q) ≡ Asking n
              → is_in q (if nat_eq m n then record { holder = HeldBy h; askers = (s.gates m).askers ++ p ∷ [] } else s.gates n).askers ≡ true
          lists n q true e x =
              rw (ap (nat_eq m) (sym (askings n x)) ∙ eq-eqb m m refl)
              (subst (λ y. is_in y ((s.gates m).askers ++ p ∷ []) ≡ true) (eqb-true p q e) (in_last p (s.gates m).askers))
          lists n q false e x = more n q (nat_eq m n) refl (G.listed n q x)

          single : (n : ℕ) (b : Bool) → NoneTwice (if b then record { holder = HeldBy h; askers = (s.gates m).askers ++ p ∷ [] } else s.gates n).askers
          single n true = once_more p (s.gates m).askers (not_in p (s.gates m).askers (λ x. not_asking m (G.asks m p x))) (G.once m)
          single n false = G.once n

          stops : (q n : ℕ) (b : Bool) → IsStoppedAt n (if b then Asking m else s.status q) → IsInnermost n (marked_monitors (if b then r.continuation else s.continuation q))
          stops q n true x = subst (IsInnermost n) (sym pushed) x
          stops q n false x = G.stopped q n x

          represents : (l : Location) (q : ℕ) (b : Bool) → nat_eq p q ≡ b → IsQueuedIn s l q
              → IsQueuedIn (set_status p (Asking m) (set_gate m (HeldBy h) ((s.gates m).askers ++ p ∷ []) (with_configuration s p r))) l q
          represents l q true e S = absurd (not_delayed S.monitor l (ap s.status (eqb-true p q e) ∙ S.delayed))
          represents l q false e S = record { monitor = S.monitor; owner = S.owner; delayed = rw e S.delayed }

          knows : (n : ℕ) (b : Bool) → nat_eq m n ≡ b → is_set (if b then record { holder = HeldBy h; askers = (s.gates m).askers ++ p ∷ [] } else s.gates n).holder ≡ true → (1 ≤ n) × (n ≤ monitors)
          knows n true e x = subst (λ y. (1 ≤ y) × (y ≤ monitors)) (eqb-true m n e) (G.known m (ap is_set held))
          knows n false e x = G.known n x

          fresh : (q : ℕ) (b : Bool) → (if b then Asking m else s.status q) ≡ Unstarted → marked_monitors (if b then r.continuation else s.continuation q) ≡ []
          fresh q true e = absurd (grind arith)
          fresh q false e = G.unstarted q e

          sleep : (q : ℕ) (b : Bool) → (if b then Asking m else s.status q) ≡ Waiting → marked_monitors (if b then r.continuation else s.continuation q) ≡ []
          sleep q true e = absurd (grind arith)
          sleep q false e = G.waiting q e

    -- The process becomes the holder of a gate that nobody held.
    module _ (m : ℕ) (qs : List ℕ) (from : qs ≡ (s.gates m).askers) (empty : (q : ℕ) → is_in q (s.gates m).askers ≡ true → ⊥)
        (unheld : (q : ℕ) → (s.gates m).holder ≡ HeldBy q → ⊥) (low : 1 ≤ m) (high : m ≤ monitors)
        (pushed : marked_monitors r.continuation ≡ m ∷ marked_monitors (s.continuation p)) (N : NoNewQueue s.store r.store) where
      pub got : Gates place monitors (set_gate m (HeldBy p) qs (with_configuration s p r))
      got = record {
        marked = λ n q b x. marks n q (nat_eq m n) refl x;
        taken = λ n q b x. takes n q (nat_eq m n) x;
        asks = λ n q x. asking n q (nat_eq m n) refl x;
        listed = λ n q e. lists n q (nat_eq m n) refl (G.listed n q e);
        once = λ n. single n (nat_eq m n);
        stopped = λ q n x. stops q n (nat_eq p q) refl x;
        queues = λ l q e. let S = G.queues l q (N l q e) in record { monitor = S.monitor; owner = S.owner; delayed = S.delayed };
        known = λ n x. knows n (nat_eq m n) refl x;
        unstarted = λ q e. fresh q (nat_eq p q) refl e;
        waiting = λ q e. sleep q (nat_eq p q) refl e;
        within = λ q m x. within q m (nat_eq p q) x;
        descends = λ q. descends q (nat_eq p q);
      }
        where
          mine : (n : ℕ) → m ≡ n → is_in n (held_gates (s.status p) r.continuation) ≡ true
          mine n e = ap (λ x. is_in n (held_gates x r.continuation)) ready ∙ ap (is_in n) pushed ∙ subst (λ y. is_in y (m ∷ marked_monitors (s.continuation p)) ≡ true) e (in_head m (marked_monitors (s.continuation p)))

          is_p : (q : ℕ) → HeldBy p ≡ HeldBy q → p ≡ q
          is_p q e = ap holder_of e
            where
              holder_of : Holder → ℕ
              holder_of (HeldBy x) = x
              holder_of _ = 0

          other : (n q : ℕ) (b : Bool) → nat_eq p q ≡ b → is_in n (held_gates (s.status q) (s.continuation q)) ≡ true
              → is_in n (held_gates (s.status q) (if b then r.continuation else s.continuation q)) ≡ true
          other n q true e x =
              let h : is_in n (held_gates (s.status p) (s.continuation p)) ≡ true = subst (λ y. is_in n (held_gates (s.status y) (s.continuation y)) ≡ true) (sym (eqb-true p q e)) x in
              ap (λ y. is_in n (held_gates y r.continuation)) (ap s.status (sym (eqb-true p q e)) ∙ ready) ∙ ap (is_in n) pushed ∙ in_more n m (marked_monitors (s.continuation p)) (ready_held n h)
          other n q false e x = x

          marks : (n q : ℕ) (b : Bool) → nat_eq m n ≡ b → (if b then record { holder = HeldBy p; askers = qs } else s.gates n).holder ≡ HeldBy q
              → is_in n (held_gates (s.status q) (if nat_eq p q then r.continuation else s.continuation q)) ≡ true
          marks n q true e x =
              subst (λ y. is_in n (held_gates (s.status y) (if nat_eq p y then r.continuation else s.continuation y)) ≡ true) (is_p q x)
              (rw (eq-eqb p p refl) (mine n (eqb-true m n e)))
          marks n q false e x = other n q (nat_eq p q) refl (G.marked n q refl x)

          takes : (n q : ℕ) (b : Bool) → is_in q (if b then record { holder = HeldBy p; askers = qs } else s.gates n).askers ≡ true → IsHeld (if b then record { holder = HeldBy p; askers = qs } else s.gates n).holder
          takes n q true x = tt
          takes n q false x = G.taken n q refl x

          asking : (n q : ℕ) (b : Bool) → nat_eq m n ≡ b → is_in q (if b then record { holder = HeldBy p; askers = qs } else s.gates n).askers ≡ true → s.status q ≡ Asking n
          asking n q true e x = absurd (empty q (ap (is_in q) (sym from) ∙ x))
          asking n q false e x = G.asks n q x

          lists : (n q : ℕ) (b : Bool) → nat_eq m n ≡ b → is_in q (s.gates n).askers ≡ true → is_in q (if b then record { holder = HeldBy p; askers = qs } else s.gates n).askers ≡ true
          lists n q true e x = absurd (empty q (ap (λ y. is_in q (s.gates y).askers) (eqb-true m n e) ∙ x))
          lists n q false e x = x

          single : (n : ℕ) (b : Bool) → NoneTwice (if b then record { holder = HeldBy p; askers = qs } else s.gates n).askers
          single n true = subst NoneTwice (sym from) (G.once m)
          single n false = G.once n

          stops : (q n : ℕ) (b : Bool) → nat_eq p q ≡ b → IsStoppedAt n (s.status q) → IsInnermost n (marked_monitors (if b then r.continuation else s.continuation q))
          stops q n true e x = absurd (ready_plain.unstopped n (subst (IsStoppedAt n) (ap s.status (sym (eqb-true p q e)) ∙ ready) x))
          stops q n false e x = G.stopped q n x

          knows : (n : ℕ) (b : Bool) → nat_eq m n ≡ b → is_set (if b then record { holder = HeldBy p; askers = qs } else s.gates n).holder ≡ true → (1 ≤ n) × (n ≤ monitors)
          knows n true e x = subst (λ y. (1 ≤ y) × (y ≤ monitors)) (eqb-true m n e) (low, high)
          knows n false e x = G.known n x

          fresh : (q : ℕ) (b : Bool) → nat_eq p q ≡ b → s.status q ≡ Unstarted → marked_monitors (if b then r.continuation else s.continuation q) ≡ []
          fresh q true e x = absurd (ready_plain.started (sym ready ∙ (ap s.status (eqb-true p q e) ∙ x)))
          fresh q false e x = G.unstarted q x

          sleep : (q : ℕ) (b : Bool) → nat_eq p q ≡ b → s.status q ≡ Waiting → marked_monitors (if b then r.continuation else s.continuation q) ≡ []
          sleep q true e x = absurd (grind (arith, sym ready ∙ (ap s.status (eqb-true p q e) ∙ x)))
          sleep q false e x = G.waiting q x
