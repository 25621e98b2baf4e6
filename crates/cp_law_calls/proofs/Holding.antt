-- A process holds each gate that its end marks name, except the one at which it is stopped.
--
-- At the start there are no such marks. A step adds a mark only with the gate that it takes, or stops at
-- that gate. It gives a gate away only with the mark, or stops at it. A process that is handed a gate was
-- stopped there, and has the mark already.
use Rattle.std.specs.Prelude.{Bool, List, None, Option, Some, [], drop, false, if◌then◌else◌, nat_eq, refl, true, ℕ, ◌++◌, ◌∷◌, ◌≡◌, ◌≢◌, ◌⊎◌}
use Rattle.std.proofs.Common.{ap, arith, inl, inr, subst, sym, ◌∙◌}
use Rattle.std.proofs.lemmas.Bool.{eq-eqb, eqb-false, eqb-true, ne_eqb, true≢false}
use Rattle.cp_model.specs.Abstract.{Assign, Case, Cycle, For, If, Init, Nothing, Perform, Repeat, Seq, Statement, While}
use Rattle.cp_model.specs.Outcomes.{Fault, Gives}
use Rattle.cp_model.specs.Environments.{Environment}
use Rattle.cp_model.specs.Continuations.{EndProcess, RepeatTest, Task, marked_monitors, push}
use Rattle.cp_model.specs.Configurations.{Asking, Configuration, Continues, Delayed, Delays, Effect, Ended, Ends, Enters, Faulted, Fresh, Leaves, Opens, Own, Ready, Starts, Status, StepResult, Unstarted, Waiting, Waits, held_gates}
use Rattle.cp_model.specs.Step.{step_of}
use Rattle.cp_model.specs.States.{Free, Gate, HeldBy, Holder, Setup, State, Unset, configuration, context, is_in, is_set, set_status, with_at, with_configuration}
use Rattle.cp_model.specs.Gates.{apply_effect, enter, made_ready, make_ready, pass_on, pass_to, resume, set_gate, start_process}
use Rattle.cp_model.specs.Rounds.{after_closing, close_round}
use Rattle.cp_model.specs.Start.{initial_environment, start}
use Rattle.cp_model.specs.Turns.{after_step, step}
use Rattle.cp_model.proofs.Lists.{in_head, in_more}
use Rattle.cp_model.proofs.ExpressionReach.{IfGives}
use Rattle.cp_model.proofs.StateMaps.{state_is, with_at_same}
use Rattle.cp_law_gates.specs.Gates.{IsInnermost, IsStoppedAt}
use Rattle.cp_law_gates.specs.Hierarchy.{Descends}
use Rattle.cp_law_gates.specs.InOrder.{InOrder, IsOrdered, World}
use Rattle.cp_law_gates.proofs.Lists.{first_once, in_rest}
use Rattle.cp_law_gates.proofs.Stepping.{StepFits}
use Rattle.cp_law_calls.specs.Ways.{HoldsMarked}
use Rattle.cp_law_calls.proofs.Footing.{Footed, ResultFooted, held_once}
use Rattle.cp_law_calls.proofs.Grasp.{marked_held}
use Rattle.cp_law_calls.proofs.Known.{before, fits, footed}

abbrev pub held : State → ℕ → List ℕ
held s q = held_gates (s.status q) (s.continuation q)

-- ---- Lists

in_cons : (n m : ℕ) (ms : List ℕ) → is_in n (m ∷ ms) ≡ true → (n ≡ m) ⊎ (is_in n ms ≡ true)
in_cons n m ms h = by (nat_eq n m) refl
  where
    by : (b : Bool) → nat_eq n m ≡ b → (n ≡ m) ⊎ (is_in n ms ≡ true)
    by true e = inl (eqb-true n m e)
    by false e = inr (in_rest n m ms h (eqb-false n m e))

-- A process that is stopped at a monitor names it first, and holds the rest.
stopped_marks : (m n : ℕ) (x : Status) (k : List Task) → IsStoppedAt m x → IsInnermost m (marked_monitors k) → is_in n (marked_monitors k) ≡ true
    → (n ≡ m) ⊎ (is_in n (held_gates x k) ≡ true)
stopped_marks m n x k s inner h = by x s
  where
    rest : (ms : List ℕ) → IsInnermost m ms → is_in n ms ≡ true → (n ≡ m) ⊎ (is_in n (drop 1 ms) ≡ true)
    rest [] i e = absurd i
    rest (a ∷ ms) i e = elim (in_cons n a ms e) [ inl x ↦ inl (x ∙ i) | inr x ↦ inr x ]

    by : (x : Status) → IsStoppedAt m x → (n ≡ m) ⊎ (is_in n (held_gates x k) ≡ true)
    by (Asking a) s = rest (marked_monitors k) inner h
    by (Delayed a l) s = rest (marked_monitors k) inner h
    by Unstarted s = absurd s
    by Fresh s = absurd s
    by Ready s = absurd s
    by Ended s = absurd s
    by Waiting s = absurd s
    by (Faulted a) s = absurd s

stopped_made_ready : (m : ℕ) (x : Status) → IsStoppedAt m x → made_ready x ≡ Ready
stopped_made_ready m (Asking n) h = refl
stopped_made_ready m (Delayed n q) h = refl
stopped_made_ready m Unstarted h = absurd h
stopped_made_ready m Fresh h = absurd h
stopped_made_ready m Ready h = absurd h
stopped_made_ready m Ended h = absurd h
stopped_made_ready m Waiting h = absurd h
stopped_made_ready m (Faulted n) h = absurd h

-- ---- After an effect

module _ (s : State) (p : ℕ) (h : HoldsMarked s) (ready : s.status p ≡ Ready) (c : Configuration) where
  mine : (n : ℕ) → is_in n (marked_monitors (s.continuation p)) ≡ true → (s.gates n).holder ≡ HeldBy p
  mine n e = marked_held s p n h ready e

  -- The process p moved on, with another status.
  abbrev moved : Status → State
  moved x = set_status p x (with_configuration s p c)

  others : (q n : ℕ) (x : Status) → p ≢ q → is_in n (held (moved x) q) ≡ true → is_in n (held s q) ≡ true
  others q n x d e = subst (λ b. is_in n (held_gates (if b then x else s.status q) (if b then c.continuation else s.continuation q)) ≡ true) (ne_eqb p q d) e

  itself : (q n : ℕ) (x : Status) → p ≡ q → is_in n (held (moved x) q) ≡ true → is_in n (held_gates x c.continuation) ≡ true
  itself q n x d e = subst (λ b. is_in n (held_gates (if b then x else s.status q) (if b then c.continuation else s.continuation q)) ≡ true) (eq-eqb p q d) e

  -- No gate changes its holder.
  keeps : (u : State) → ((n : ℕ) → (u.gates n).holder ≡ (s.gates n).holder)
      → ((q n : ℕ) → p ≢ q → is_in n (held u q) ≡ true → is_in n (held s q) ≡ true)
      → ((n : ℕ) → is_in n (held u p) ≡ true → is_in n (marked_monitors (s.continuation p)) ≡ true) → HoldsMarked u
  keeps u same rest own = record { holder = λ q n e. by q n (nat_eq p q) refl e }
    where
      by : (q n : ℕ) (b : Bool) → nat_eq p q ≡ b → is_in n (held u q) ≡ true → (u.gates n).holder ≡ HeldBy q
      by q n true f e =
          let is : p ≡ q = eqb-true p q f in
          subst (λ x. (u.gates n).holder ≡ HeldBy x) is (same n ∙ mine n (own n (subst (λ x. is_in n (held u x) ≡ true) (sym is) e)))
      by q n false f e = same n ∙ h.holder q n (rest q n (eqb-false p q f) e)

  -- Gate m, which nobody held, is now held by p.
  takes : (u : State) (m : ℕ) → ((n : ℕ) → n ≢ m → (u.gates n).holder ≡ (s.gates n).holder) → (u.gates m).holder ≡ HeldBy p
      → ((q : ℕ) → (s.gates m).holder ≡ HeldBy q → ⊥)
      → ((q n : ℕ) → p ≢ q → is_in n (held u q) ≡ true → is_in n (held s q) ≡ true)
      → ((n : ℕ) → is_in n (held u p) ≡ true → (n ≡ m) ⊎ (is_in n (marked_monitors (s.continuation p)) ≡ true)) → HoldsMarked u
  takes u m same now before rest own = record { holder = λ q n e. by q n (nat_eq p q) refl (nat_eq n m) refl e }
    where
      at_m : (n : ℕ) → n ≡ m → (u.gates n).holder ≡ HeldBy p
      at_m n e = subst (λ x. (u.gates x).holder ≡ HeldBy p) (sym e) now

      by : (q n : ℕ) (b : Bool) → nat_eq p q ≡ b → (a : Bool) → nat_eq n m ≡ a → is_in n (held u q) ≡ true → (u.gates n).holder ≡ HeldBy q
      by q n true f true g e = subst (λ x. (u.gates n).holder ≡ HeldBy x) (eqb-true p q f) (at_m n (eqb-true n m g))
      by q n true f false g e =
          let is : p ≡ q = eqb-true p q f in
          let marks : is_in n (marked_monitors (s.continuation p)) ≡ true =
          elim (own n (subst (λ x. is_in n (held u x) ≡ true) (sym is) e)) [ inl x ↦ absurd (eqb-false n m g x) | inr x ↦ x ] in
          subst (λ x. (u.gates n).holder ≡ HeldBy x) is (same n (eqb-false n m g) ∙ mine n marks)
      by q n false f true g e = absurd (before q (subst (λ x. (s.gates x).holder ≡ HeldBy q) (eqb-true n m g) (h.holder q n (rest q n (eqb-false p q f) e))))
      by q n false f false g e = same n (eqb-false n m g) ∙ h.holder q n (rest q n (eqb-false p q f) e)

  -- Gate m, which p held, is now free or held by another.
  gives : (u : State) (m : ℕ) → (s.gates m).holder ≡ HeldBy p → ((n : ℕ) → n ≢ m → (u.gates n).holder ≡ (s.gates n).holder)
      → ((q n : ℕ) → p ≢ q → is_in n (held u q) ≡ true → (is_in n (held s q) ≡ true) ⊎ ((n ≡ m) × ((u.gates m).holder ≡ HeldBy q)))
      → ((n : ℕ) → is_in n (held u p) ≡ true → (is_in n (marked_monitors (s.continuation p)) ≡ true) × (n ≢ m)) → HoldsMarked u
  gives u m was same rest own = record { holder = λ q n e. by q n (nat_eq p q) refl e }
    where
      old : (q n : ℕ) → p ≢ q → is_in n (held s q) ≡ true → (a : Bool) → nat_eq n m ≡ a → (u.gates n).holder ≡ HeldBy q
      old q n d e true g = absurd (d (held_once s.gates s.status m p q was (subst (λ x. (s.gates x).holder ≡ HeldBy q) (eqb-true n m g) (h.holder q n e))))
      old q n d e false g = same n (eqb-false n m g) ∙ h.holder q n e

      by : (q n : ℕ) (b : Bool) → nat_eq p q ≡ b → is_in n (held u q) ≡ true → (u.gates n).holder ≡ HeldBy q
      by q n true f e =
          let is : p ≡ q = eqb-true p q f in
          let o = own n (subst (λ x. is_in n (held u x) ≡ true) (sym is) e) in
          subst (λ x. (u.gates n).holder ≡ HeldBy x) is (same n o.1 ∙ mine n o.0)
      by q n false f e = elim (rest q n (eqb-false p q f) e) [
        | inl x ↦ old q n (eqb-false p q f) x (nat_eq n m) refl
        | inr x ↦ subst (λ y. (u.gates y).holder ≡ HeldBy q) (sym x.0) x.1
      ]

  gate_elsewhere : (m n : ℕ) (x : Gate) → n ≢ m → (with_at m x s.gates n).holder ≡ (s.gates n).holder
  gate_elsewhere m n x d = rw (ne_eqb m n (λ e. d (sym e))) refl

  gate_here : (m : ℕ) (x : Gate) → (with_at m x s.gates m).holder ≡ x.holder
  gate_here m x = rw (eq-eqb m m refl) refl

  -- ---- Handing on

  module _ (x : Status) (m : ℕ) (was : (s.gates m).holder ≡ HeldBy p)
      (own : (n : ℕ) → is_in n (held_gates x c.continuation) ≡ true → (is_in n (marked_monitors (s.continuation p)) ≡ true) × (n ≢ m)) where
    freed : HoldsMarked (set_gate m Free [] (moved x))
    freed = gives _ m was (λ n d. gate_elsewhere m n _ d) (λ q n d e. inl (others q n x d e)) (λ n e. own n (itself p n x refl e))

    -- The gate goes to r, which is stopped there.
    handed : (r : ℕ) (rs : List ℕ) → p ≢ r → IsStoppedAt m (s.status r) → IsInnermost m (marked_monitors (s.continuation r))
        → HoldsMarked (make_ready r (set_gate m (HeldBy r) rs (moved x)))
    handed r rs d stopped inner =
        gives _ m was (λ n e. gate_elsewhere m n _ e) (λ q n e f. rest q n e (nat_eq r q) refl f) (λ n e. own n (itself p n x refl (woken_no (nat_eq r p) (ne_eqb r p (λ e. d (sym e))) n e)))
      where
        woken_no : (b : Bool) → b ≡ false → (n : ℕ)
            → is_in n (held_gates (if b then made_ready ((moved x).status r) else (moved x).status p) ((moved x).continuation p)) ≡ true
            → is_in n (held (moved x) p) ≡ true
        woken_no true e n f = absurd (true≢false e)
        woken_no false e n f = f

        as_before : (moved x).status r ≡ s.status r
        as_before = rw (ne_eqb p r d) refl

        now_ready : made_ready ((moved x).status r) ≡ Ready
        now_ready = ap made_ready as_before ∙ stopped_made_ready m (s.status r) stopped

        rest : (q n : ℕ) → p ≢ q → (b : Bool) → nat_eq r q ≡ b
            → is_in n (held_gates (if b then made_ready ((moved x).status r) else (moved x).status q) ((moved x).continuation q)) ≡ true
            → (is_in n (held s q) ≡ true) ⊎ ((n ≡ m) × ((with_at m (record { holder = HeldBy r; askers = rs }) s.gates m).holder ≡ HeldBy q))
        rest q n e true f g =
            let is : r ≡ q = eqb-true r q f in
            let a : is_in n (marked_monitors ((moved x).continuation q)) ≡ true = subst (λ y. is_in n (held_gates y ((moved x).continuation q)) ≡ true) now_ready g in
            let b : is_in n (marked_monitors (s.continuation q)) ≡ true = subst (λ y. is_in n (marked_monitors (if y then c.continuation else s.continuation q)) ≡ true) (ne_eqb p q e) a in
            let in_r : is_in n (marked_monitors (s.continuation r)) ≡ true = subst (λ y. is_in n (marked_monitors (s.continuation y)) ≡ true) (sym is) b in
            elim (stopped_marks m n (s.status r) (s.continuation r) stopped inner in_r) [
              | inl y ↦ inr (y, gate_here m _ ∙ ap HeldBy is)
              | inr y ↦ inl (subst (λ z. is_in n (held s z) ≡ true) is y)
            ]
        rest q n e false f g = inl (others q n x e g)

    passed : (askers : List ℕ) → ((r : ℕ) → is_in r askers ≡ true → (s.status r ≡ Asking m) × IsInnermost m (marked_monitors (s.continuation r)))
        → HoldsMarked (pass_to m askers (moved x))
    passed [] asks = freed
    passed (r ∷ rs) asks =
        let a = asks r (in_head r rs) in
        handed r rs (λ e. ready_asks (sym ready ∙ ap s.status e ∙ a.0)) (subst (IsStoppedAt m) (sym a.0) refl) a.1
      where
        ready_asks : Ready ≡ Asking m → ⊥
        ready_asks e = grind arith

-- ---- After a step

ended_held : (k : List Task) → held_gates Ended k ≡ marked_monitors k
ended_held k = refl

module _ (w : World) (O : IsOrdered w) (setup : Setup) (s : State) (p : ℕ) (i : InOrder w s) (h : HoldsMarked s) (ready : s.status p ≡ Ready) where
  faulted : (n : ℕ) → HoldsMarked (set_status p (Faulted n) s)
  faulted n = record { holder = λ q m e. by q m (nat_eq p q) refl e }
    where
      by : (q m : ℕ) (b : Bool) → nat_eq p q ≡ b → is_in m (held_gates (if b then Faulted n else s.status q) (s.continuation q)) ≡ true → (s.gates m).holder ≡ HeldBy q
      by q m true f e =
          let is : p ≡ q = eqb-true p q f in
          subst (λ x. (s.gates m).holder ≡ HeldBy x) is (marked_held s p m h ready (subst (λ x. is_in m (marked_monitors (s.continuation x)) ≡ true) (sym is) e))
      by q m false f e = h.holder q m e

  module _ (c : Configuration) where
    abbrev after' : Status → State
    after' x = set_status p x (with_configuration s p c)

    ready_is : with_configuration s p c ≡ after' Ready
    ready_is = state_is _ _ refl refl refl refl (sym (with_at_same p Ready s.status ready)) refl refl

    abbrev old_marks : List ℕ
    old_marks = marked_monitors (s.continuation p)

    abbrev new_marks : List ℕ
    new_marks = marked_monitors c.continuation

    -- No gate is touched.
    plain : (x : Status) → ((k : List Task) → held_gates x k ≡ marked_monitors k) → new_marks ≡ old_marks → HoldsMarked (after' x)
    plain x l e =
        keeps s p h ready c (after' x) (λ n. refl) (λ q n d f. others s p h ready c q n x d f)
        (λ n f. subst (λ ms. is_in n ms ≡ true) (l c.continuation ∙ e) (itself s p h ready c p n x refl f))

    askers_stop : (m r : ℕ) → is_in r (s.gates m).askers ≡ true → (s.status r ≡ Asking m) × IsInnermost m (marked_monitors (s.continuation r))
    askers_stop m r e =
        let a = i.gates.asks m r e in
        (a, i.gates.stopped r m (subst (IsStoppedAt m) (sym a) refl))

    left_own : (m : ℕ) → old_marks ≡ m ∷ new_marks → (n : ℕ) → is_in n new_marks ≡ true → (is_in n old_marks ≡ true) × (n ≢ m)
    left_own m e n f = (
      subst (λ ms. is_in n ms ≡ true) (sym e) (in_more n m new_marks f),
      (λ x. true≢false (sym f ∙ ap (λ y. is_in y new_marks) x ∙ first_once w.place m new_marks (subst (Descends w.place) e (i.gates.descends p)))),
    )

    delayed_own : (m n : ℕ) (ms : List ℕ) → new_marks ≡ ms → old_marks ≡ ms → IsInnermost m ms → is_in n (drop 1 new_marks) ≡ true → (is_in n old_marks ≡ true) × (n ≢ m)
    delayed_own m n [] e f inner g = absurd inner
    delayed_own m n (a ∷ ms) e f inner g =
        let inside : is_in n ms ≡ true = subst (λ y. is_in n (drop 1 y) ≡ true) e g in (
          subst (λ y. is_in n y ≡ true) (sym f) (in_more n a ms inside),
          (λ x. true≢false (sym inside ∙ ap (λ y. is_in y ms) (x ∙ sym inner) ∙ first_once w.place a ms (subst (Descends w.place) f (i.gates.descends p)))),
        )

    -- A gate that nobody holds.
    taken : (m : ℕ) (askers : List ℕ) → ((q : ℕ) → (s.gates m).holder ≡ HeldBy q → ⊥) → new_marks ≡ m ∷ old_marks → HoldsMarked (set_gate m (HeldBy p) askers (after' Ready))
    taken m askers none e =
        takes s p h ready c _ m (λ n d. gate_elsewhere s p h ready c m n _ d) (gate_here s p h ready c m _) none (λ q n d f. others s p h ready c q n Ready d f)
        (λ n f. in_cons n m old_marks (subst (λ ms. is_in n ms ≡ true) e (itself s p h ready c p n Ready refl f)))

    entered : (m : ℕ) (x : Holder) → (s.gates m).holder ≡ x → new_marks ≡ m ∷ old_marks → HoldsMarked (enter p m x (after' Ready))
    entered m Unset f e = taken m (s.gates m).askers (λ q g. no_unset q (sym f ∙ g)) e
      where
        no_unset : (q : ℕ) → Unset ≡ HeldBy q → ⊥
        no_unset q x = grind arith
    entered m Free f e = taken m (s.gates m).askers (λ q g. no_free q (sym f ∙ g)) e
      where
        no_free : (q : ℕ) → Free ≡ HeldBy q → ⊥
        no_free q x = grind arith
    entered m (HeldBy a) f e =
        keeps s p h ready c _ (λ n. same n (nat_eq m n) refl) (λ q n d g. others s p h ready c q n (Asking m) d (twice q n g))
        (λ n g. subst (λ ms. is_in n (drop 1 ms) ≡ true) e (itself s p h ready c p n (Asking m) refl (twice p n g)))
      where
        same : (n : ℕ) (b : Bool) → nat_eq m n ≡ b → (if b then record { holder = HeldBy a; askers = (s.gates m).askers ++ p ∷ [] } else s.gates n).holder ≡ (s.gates n).holder
        same n true g = sym f ∙ ap (λ y. (s.gates y).holder) (eqb-true m n g)
        same n false g = refl

        -- The status of p was set before, to what it was.
        twice : (q n : ℕ) → is_in n (held (set_status p (Asking m) (set_gate m (HeldBy a) ((s.gates m).askers ++ p ∷ []) (after' Ready))) q) ≡ true
            → is_in n (held (after' (Asking m)) q) ≡ true
        twice q n g = by (nat_eq p q) g
          where
            by : (b : Bool) → is_in n (held_gates (if b then Asking m else (if b then Ready else s.status q)) (if b then c.continuation else s.continuation q)) ≡ true
                → is_in n (held_gates (if b then Asking m else s.status q) (if b then c.continuation else s.continuation q)) ≡ true
            by true g = g
            by false g = g

    begun : (r : ℕ) (k : List Task) (x : Status) → marked_monitors k ≡ [] → new_marks ≡ old_marks → HoldsMarked (start_process r k x (after' Ready))
    begun r k Unstarted none e =
        keeps s p h ready c _ (λ n. refl) (λ q n d f. others s p h ready c q n Ready d (not_new q n (nat_eq r q) f))
        (λ n f. subst (λ ms. is_in n ms ≡ true) e (itself s p h ready c p n Ready refl (not_new p n (nat_eq r p) f)))
      where
        not_new : (q n : ℕ) (b : Bool) → is_in n (held_gates (if b then Fresh else (after' Ready).status q) (if b then k else (after' Ready).continuation q)) ≡ true
            → is_in n (held (after' Ready) q) ≡ true
        not_new q n true f = absurd (true≢false (sym f ∙ ap (is_in n) none))
        not_new q n false f = f
    begun r k Fresh none e = plain Ready (λ k. refl) e
    begun r k Ready none e = plain Ready (λ k. refl) e
    begun r k Ended none e = plain Ready (λ k. refl) e
    begun r k Waiting none e = plain Ready (λ k. refl) e
    begun r k (Asking m) none e = plain Ready (λ k. refl) e
    begun r k (Delayed m l) none e = plain Ready (λ k. refl) e
    begun r k (Faulted n) none e = plain Ready (λ k. refl) e

    no_holder : (m q : ℕ) → is_set (s.gates m).holder ≡ false → (s.gates m).holder ≡ HeldBy q → ⊥
    no_holder m q e f = true≢false (sym (ap is_set f) ∙ e)

    ready_stops : (m r : ℕ) → IsStoppedAt m (s.status r) → p ≢ r
    ready_stops m r st e = subst (IsStoppedAt m) (ap s.status (sym e) ∙ ready) st

    resumes_holds : (m : ℕ) (o : Option ℕ) → old_marks ≡ m ∷ new_marks → Footed s.gates s.status p (Continues m o) → HoldsMarked (resume m o (after' Ready))
    resumes_holds m None e f = passed s p h ready c Ready m f (left_own m e) (s.gates m).askers (askers_stop m)
    resumes_holds m (Some r) e f =
        handed s p h ready c Ready m f.0 (left_own m e) r (s.gates m).askers (ready_stops m r f.1) f.1 (i.gates.stopped r m f.1)

    effect_holds : (e : Effect) → StepFits w (context setup s p) (configuration s p) (before w O setup s p i) (c, e) → Footed s.gates s.status p e
        → HoldsMarked (apply_effect p e (after' Ready))
    effect_holds Own F f = plain Ready (λ k. refl) F.effect.0
    effect_holds Ends F f = subst HoldsMarked (ended Ended) (plain Ended (λ k. refl) F.effect.0)
      where
        ended : (x : Status) → after' x ≡ set_status p x (after' Ready)
        ended x = ap (set_status p x) ready_is
    effect_holds Waits F f = subst HoldsMarked (ap (set_status p Waiting) ready_is) (plain Waiting (λ k. refl) F.effect.0)
    effect_holds (Enters m) F f = entered m (s.gates m).holder refl F.effect.0
    effect_holds (Leaves m) F f = passed s p h ready c Ready m f (left_own m F.effect.0) (s.gates m).askers (askers_stop m)
    effect_holds (Delays m l) F f =
        subst HoldsMarked (ap (λ u. pass_on m (set_status p (Delayed m l) u)) ready_is)
        (passed s p h ready c (Delayed m l) m f (λ n g. delayed_own m n old_marks F.effect.0 refl F.effect.2 g) (s.gates m).askers (askers_stop m))
    effect_holds (Continues m o) F f = resumes_holds m o F.effect.0 f
    effect_holds (Opens m) F f = taken m [] (λ q g. no_holder m q F.effect.2 g) F.effect.0
    effect_holds (Starts r k) F f = begun r k ((after' Ready).status r) F.effect.2 F.effect.0

  pub step_holds : HoldsMarked (step setup s p)
  step_holds = by (step_of (context setup s p) (configuration s p)) (fits w O setup s p i) (footed w O setup s p i h ready)
    where
      by : (o : StepResult) → IfGives (StepFits w (context setup s p) (configuration s p) (before w O setup s p i)) o → ResultFooted s.gates s.status p o
          → HoldsMarked (after_step s p o)
      by (Fault n) F f = faulted n
      by (Gives (c, e)) F f = subst (λ u. HoldsMarked (apply_effect p e u)) (sym (ready_is c)) (effect_holds c e F f)

-- ---- At the start, and at the end of a round

marks_pushed : (x : Statement) (env : Environment) (k : List Task) → marked_monitors (push x env k) ≡ marked_monitors k
marks_pushed Nothing env k = refl
marks_pushed (Seq a b) env k = marks_pushed a env (push b env k) ∙ marks_pushed b env k
marks_pushed (While e x) env k = refl
marks_pushed (Repeat x e) env k = marks_pushed x env (RepeatTest e x e env ∷ k)
marks_pushed (Assign d e) env k = refl
marks_pushed (Perform d es) env k = refl
marks_pushed (If e a b) env k = refl
marks_pushed (Case e as') env k = refl
marks_pushed (For v down a b x) env k = refl
marks_pushed (Cycle x) env k = refl
marks_pushed (Init x es) env k = refl

pub start_holds : (setup : Setup) → HoldsMarked (start setup)
start_holds setup = record { holder = λ p m e. absurd (by p m (nat_eq 1 p) e) }
  where
    first : List Task
    first = push setup.tree.initial.body (initial_environment setup) (EndProcess ∷ [])

    by : (p m : ℕ) (b : Bool) → is_in m (held_gates (if b then Ready else Unstarted) (if b then push setup.tree.initial.body (initial_environment setup) (EndProcess ∷ []) else [])) ≡ true → ⊥
    by p m true e = true≢false (sym e ∙ ap (is_in m) (marks_pushed setup.tree.initial.body (initial_environment setup) (EndProcess ∷ [])))
    by p m false e = true≢false (sym e)

closed_held : (x : Status) (k : List Task) → held_gates (after_closing x) k ≡ held_gates x k
closed_held Unstarted k = refl
closed_held Fresh k = refl
closed_held Ready k = refl
closed_held Ended k = refl
closed_held Waiting k = refl
closed_held (Asking m) k = refl
closed_held (Delayed m l) k = refl
closed_held (Faulted n) k = refl

pub close_holds : (s : State) → HoldsMarked s → HoldsMarked (close_round s)
close_holds s h = record { holder = λ p m e. h.holder p m (subst (λ ms. is_in m ms ≡ true) (closed_held (s.status p) (s.continuation p)) e) }
