-- A private step reads and writes only the own part of its process, so two private steps commute.
use Rattle.std.specs.Prelude.{Bool, List, [], false, if◌then◌else◌, nat_eq, refl, suc, true, ℕ, ◌||◌, ◌∷◌, ◌≡◌, ◌≢◌}
use Rattle.std.proofs.Common.{ap, arith, sym, ◌∙◌}
use Rattle.std.proofs.lemmas.Bool.{eq-eqb, ne_eqb}
use Rattle.cp_model.specs.Locations.{Location, OfActivation, Owner}
use Rattle.cp_model.specs.Stores.{Store}
use Rattle.cp_model.specs.Outcomes.{Fault, Gives}
use Rattle.cp_model.specs.Continuations.{Task, marked_monitors, is_in_monitor}
use Rattle.cp_model.specs.Actions.{action, is_kernel_action}
use Rattle.cp_model.specs.Configurations.{Asking, Configuration, Continues, Delayed, Delays, Effect, Ended, Ends, Enters, Faulted, Fresh, Leaves, Opens, Own, Ready, Starts, Status, StepResult, Unstarted, Waiting, Waits}
use Rattle.cp_model.specs.Step.{step_of}
use Rattle.cp_model.specs.States.{Setup, State, configuration, context, is_set, is_started, with_at}
use Rattle.cp_model.specs.Turns.{Kernel, Kind, NoStep, Private, after_step, if_private, kind, kind_of, private_step, step}
use Rattle.cp_model.specs.Invariant.{IsBlocked}
use Rattle.cp_model.specs.Parts.{is_own}
use Rattle.cp_model.proofs.StateMaps.{is_foreign, own_apart, state_is, with_at_same, with_at_swap, with_at_there}
use Rattle.cp_model.proofs.MixedStores.{IsClosed, mix, mix_same}
use Rattle.cp_model.proofs.ActionReach.{ContinuationIn}
use Rattle.cp_model.proofs.ReturnReach.{result_mixed, with_mixed_store}
use Rattle.cp_model.proofs.StepReach.{step_same}
use Rattle.cp_model.proofs.QuietSteps.{Quietly, private_is_quiet}

-- p's own part, and the store.
abbrev pub install : ℕ → Configuration → Status → State → State
install p r x s = record s {
  store = r.store;
  continuation = with_at p r.continuation s.continuation;
  transcript = with_at p r.transcript s.transcript;
  consumed = with_at p r.consumed s.consumed;
  status = with_at p x s.status;
}

-- What a quiet step does to the process.
abbrev pub result : Configuration → StepResult → Configuration
result r (Fault n) = r
result r (Gives x) = x.0

abbrev pub status_by : Effect → Status
status_by Ends = Ended
status_by Waits = Waiting
status_by _ = Ready

abbrev pub result_status : StepResult → Status
result_status (Fault n) = Faulted n
result_status (Gives x) = status_by x.1

pub install_stepped : (s : State) (p : ℕ) (o : StepResult) → s.status p ≡ Ready → Quietly o
    → after_step s p o ≡ install p (result (configuration s p) o) (result_status o) s
install_stepped s p (Fault n) h q =
    state_is _ _ refl (sym (with_at_same p (s.continuation p) s.continuation refl))
    (sym (with_at_same p (s.transcript p) s.transcript refl)) (sym (with_at_same p (s.consumed p) s.consumed refl)) refl
    refl refl
install_stepped s p (Gives (r, Own)) h q = state_is _ _ refl refl refl refl (sym (with_at_same p Ready s.status h)) refl
    refl
install_stepped s p (Gives (r, Ends)) h q = refl
install_stepped s p (Gives (r, Waits)) h q = refl
install_stepped s p (Gives (r, Enters m)) h q = absurd q
install_stepped s p (Gives (r, Leaves m)) h q = absurd q
install_stepped s p (Gives (r, Delays m l)) h q = absurd q
install_stepped s p (Gives (r, Continues m x)) h q = absurd q
install_stepped s p (Gives (r, Opens m)) h q = absurd q
install_stepped s p (Gives (r, Starts x k)) h q = absurd q

-- ---- Kinds

pub kind_private : (x : Status) (k : List Task) → kind_of x k ≡ Private
    → (x ≡ Ready) × (marked_monitors k ≡ []) × (is_kernel_action (action k) ≡ false)
kind_private Ready k h = go (marked_monitors k) (is_kernel_action (action k)) h
  where
    go : (ms : List ℕ) (b : Bool) → (if (elim ms as (λ x. Bool) [ [] ↦ false | m ∷ rest ↦ true ]) || b then Kernel else Private) ≡ Private → (Ready ≡ Ready) × (ms ≡ []) × (b ≡ false)
    go [] true h = absurd (Prim.grind arith)
    go [] false h = (refl, refl, refl)
    go (m ∷ ms) b h = absurd (Prim.grind arith)
kind_private Unstarted k h = absurd (Prim.grind arith)
kind_private Fresh k h = absurd (Prim.grind arith)
kind_private Ended k h = absurd (Prim.grind arith)
kind_private Waiting k h = absurd (Prim.grind arith)
kind_private (Asking m) k h = absurd (Prim.grind arith)
kind_private (Delayed m q) k h = absurd (Prim.grind arith)
kind_private (Faulted n) k h = absurd (Prim.grind arith)

-- ---- What every machine keeps

pub record MayCommute (s : State) : Type 0 where
  -- What a private process names belongs to it.
  pub own : (p : ℕ) → kind s p ≡ Private → IsClosed (is_own p) s.store × ContinuationIn (is_own p) (s.continuation p)
  -- What a kernel process names belongs to no other process.
  pub others : (p q : ℕ) → p ≢ q → kind s q ≡ Kernel → IsClosed (is_foreign p) s.store × ContinuationIn (is_foreign p)
      (s.continuation q)
  -- A process that is asking or delayed is in a monitor.
  pub blocked : (p : ℕ) → IsBlocked (s.status p) → is_in_monitor (s.continuation p) ≡ true

module _ (setup : Setup) where
  abbrev pub outcome : State → ℕ → StepResult
  outcome s p = step_of (context setup s p) (configuration s p)

  abbrev pub own_configuration : State → ℕ → Configuration
  own_configuration s p = result (configuration s p) (outcome s p)

  abbrev pub status_after : State → ℕ → Status
  status_after s p = result_status (outcome s p)

  -- s' is s in the part of p.
  pub record IsSameFor (p : ℕ) (s s' : State) : Type 0 where
    pub store : s'.store ≡ mix (is_own p) s.store s'.store
    pub continuation : s'.continuation p ≡ s.continuation p
    pub transcript : s'.transcript p ≡ s.transcript p
    pub consumed : s'.consumed p ≡ s.consumed p
    pub status : s'.status p ≡ s.status p
    pub rounds : s'.rounds ≡ s.rounds

  own_activation : (p : ℕ) (d : ℕ) → is_own p (OfActivation p d) ≡ true
  own_activation p d = eq-eqb p p refl

  configuration_same : (p : ℕ) (s s' : State) → IsSameFor p s s' → configuration s' p
      ≡ with_mixed_store (is_own p) s'.store (configuration s p)
  configuration_same p s s' e = λ i. record { store = e.store i; continuation = e.continuation i; transcript = e.transcript i; consumed = e.consumed i }

  pub same_kind : (p : ℕ) (s s' : State) → IsSameFor p s s' → kind s' p ≡ kind s p
  same_kind p s s' e = λ i. kind_of (e.status i) (e.continuation i)

  same_outcome : (p : ℕ) (s s' : State) → MayCommute s → kind s p ≡ Private → IsSameFor p s s'
      → outcome s' p ≡ result_mixed (is_own p) s'.store (outcome s p)
  same_outcome p s s' g k e =
      let w : ℕ → Bool = λ r. is_started (s'.status r) in
      let v : ℕ → Bool = λ m. is_set (s'.gates m).holder in
      let o : IsClosed (is_own p) s.store × ContinuationIn (is_own p) (s.continuation p) = g.own p k in
      (λ i. step_of (record { clock = record { round = suc (e.rounds i); tick = setup.tick }; process = p; input = setup.inputs p; is_started = w; is_set = v }) (configuration_same p s s' e i))
      ∙ step_same (is_own p) s'.store (context setup s p) w v (configuration s p) o.0 (own_activation p) o.1
      (λ h. absurd (clash h (kind_private (s.status p) (s.continuation p) k).2))
    where
      clash : {b : Bool} → b ≡ true → b ≡ false → ⊥
      clash h f = Prim.grind arith

  moved_quiet : (t : Owner → Bool) (b : Store) (o : StepResult) → Quietly o → Quietly (result_mixed t b o)
  moved_quiet t b (Fault n) h = tt
  moved_quiet t b (Gives x) h = h

  pub quiet_here : (p : ℕ) (s : State) → kind s p ≡ Private → Quietly (outcome s p)
  quiet_here p s k = let h = kind_private (s.status p) (s.continuation p) k in private_is_quiet (context setup s p)
      (configuration s p) h.1 h.2

  -- A private step does the same wherever p's part is the same.
  pub private_step_is : (p : ℕ) (s s' : State) → MayCommute s → kind s p ≡ Private → IsSameFor p s s'
      → private_step setup s' p ≡ install p (with_mixed_store (is_own p) s'.store (own_configuration s p))
      (status_after s p) s'
  private_step_is p s s' g k e =
      ap (λ x. if_private x (step setup s' p) s') (same_kind p s s' e ∙ k)
      ∙ ap (λ o. after_step s' p o) (same_outcome p s s' g k e)
      ∙ install_stepped s' p (result_mixed (is_own p) s'.store (outcome s p))
      (e.status ∙ (kind_private (s.status p) (s.continuation p) k).0)
      (moved_quiet (is_own p) s'.store (outcome s p) (quiet_here p s k))
      ∙ by_outcome (outcome s p)
    where
      by_outcome : (o : StepResult) → install p (result (configuration s' p) (result_mixed (is_own p) s'.store o))
          (result_status (result_mixed (is_own p) s'.store o)) s'
          ≡ install p (with_mixed_store (is_own p) s'.store (result (configuration s p) o)) (result_status o) s'
      by_outcome (Fault n) = ap (λ r. install p r (Faulted n) s') (configuration_same p s s' e)
      by_outcome (Gives x) = refl

  abbrev pub NotPrivate : Kind → Type 0
  NotPrivate Private = ⊥
  NotPrivate _ = Unit {0}

  pub no_private_step : (p : ℕ) (s : State) (k : Kind) → kind s p ≡ k → NotPrivate k → private_step setup s p ≡ s
  no_private_step p s Private h o = absurd o
  no_private_step p s NoStep h o = ap (λ x. if_private x (step setup s p) s) h
  no_private_step p s Kernel h o = ap (λ x. if_private x (step setup s p) s) h

  -- ---- Two private steps

  pub same_for_self : (p : ℕ) (s : State) → IsSameFor p s s
  same_for_self p s = record {
    store = sym (mix_same (is_own p) s.store);
    continuation = refl;
    transcript = refl;
    consumed = refl;
    status = refl;
    rounds = refl;
  }

  install_is_same_for : (p q : ℕ) (s : State) (r : Configuration) (x : Status) → p ≢ q
      → IsSameFor q s (install p (with_mixed_store (is_own p) s.store r) x s)
  install_is_same_for p q s r x d = record {
    store = λ i l. at l (is_own q l.owner) (is_own p l.owner) refl refl i;
    continuation = with_at_there p q r.continuation s.continuation n;
    transcript = with_at_there p q r.transcript s.transcript n;
    consumed = with_at_there p q r.consumed s.consumed n;
    status = with_at_there p q x s.status n;
    rounds = refl;
  }
    where
      n : nat_eq p q ≡ false
      n = ne_eqb p q d

      at : (l : Location) (a b : Bool) → is_own q l.owner ≡ a → is_own p l.owner ≡ b → (if b then r.store l else s.store l)
          ≡ (if a then s.store l else (if b then r.store l else s.store l))
      at l true true g h = absurd (clash (own_apart p q l.owner d h) g)
        where
          clash : {b : Bool} → b ≡ false → b ≡ true → ⊥
          clash f h = Prim.grind arith
      at l true false g h = refl
      at l false b g h = refl

  pub private_same_for : (p q : ℕ) (s : State) → p ≢ q → MayCommute s → IsSameFor q s (private_step setup s p)
  private_same_for p q s d g = go (kind s p) refl
    where
      go : (k : Kind) → kind s p ≡ k → IsSameFor q s (private_step setup s p)
      go Private h = rw (private_step_is p s s g h (same_for_self p s))
          (install_is_same_for p q s (own_configuration s p) (status_after s p) d)
      go NoStep h = rw (no_private_step p s NoStep h tt) (same_for_self q s)
      go Kernel h = rw (no_private_step p s Kernel h tt) (same_for_self q s)

  installs_swap : (p q : ℕ) (s : State) (r u : Configuration) (x y : Status) → p ≢ q
      → install q (with_mixed_store (is_own q) (mix (is_own p) r.store s.store) u) y
      (install p (with_mixed_store (is_own p) s.store r) x s)
      ≡ install p (with_mixed_store (is_own p) (mix (is_own q) u.store s.store) r) x
      (install q (with_mixed_store (is_own q) s.store u) y s)
  installs_swap p q s r u x y d =
      state_is _ _ (λ i l. at l (is_own p l.owner) (is_own q l.owner) refl refl i) (with_at_swap q p u.continuation r.continuation s.continuation (λ e. d (sym e)))
      (with_at_swap q p u.transcript r.transcript s.transcript (λ e. d (sym e))) (with_at_swap q p u.consumed r.consumed s.consumed (λ e. d (sym e))) (with_at_swap q p y x s.status (λ e. d (sym e))) refl refl
    where
      at : (l : Location) (a b : Bool) → is_own p l.owner ≡ a → is_own q l.owner ≡ b
          → (if b then u.store l else (if a then r.store l else s.store l))
          ≡ (if a then r.store l else (if b then u.store l else s.store l))
      at l true true g h = absurd (clash (own_apart p q l.owner d g) h)
        where
          clash : {b : Bool} → b ≡ false → b ≡ true → ⊥
          clash f h = Prim.grind arith
      at l true false g h = refl
      at l false true g h = refl
      at l false false g h = refl

  pub private_past_private : (s : State) (p q : ℕ) → p ≢ q → MayCommute s → private_step setup (private_step setup s p) q
      ≡ private_step setup (private_step setup s q) p
  private_past_private s p q d g = go (kind s p) (kind s q) refl refl
    where
      e : q ≢ p
      e h = d (sym h)

      other_p : (k : Kind) → kind s p ≡ k → NotPrivate k → private_step setup (private_step setup s p) q
          ≡ private_step setup (private_step setup s q) p
      other_p k h o =
          ap (λ x. private_step setup x q) (no_private_step p s k h o)
          ∙ sym (no_private_step p (private_step setup s q) k
          (same_kind p s (private_step setup s q) (private_same_for q p s e g) ∙ h) o)

      other_q : (k : Kind) → kind s q ≡ k → NotPrivate k → private_step setup (private_step setup s p) q
          ≡ private_step setup (private_step setup s q) p
      other_q k h o =
          no_private_step q (private_step setup s p) k
          (same_kind q s (private_step setup s p) (private_same_for p q s d g) ∙ h) o
          ∙ ap (λ x. private_step setup x p) (sym (no_private_step q s k h o))

      go : (k m : Kind) → kind s p ≡ k → kind s q ≡ m → private_step setup (private_step setup s p) q
          ≡ private_step setup (private_step setup s q) p
      go NoStep m h i = other_p NoStep h tt
      go Kernel m h i = other_p Kernel h tt
      go Private NoStep h i = other_q NoStep i tt
      go Private Kernel h i = other_q Kernel i tt
      go Private Private h i =
          rw (private_step_is p s s g h (same_for_self p s), private_step_is q s s g i (same_for_self q s))
          (private_step_is q s (install p (with_mixed_store (is_own p) s.store (own_configuration s p)) (status_after s p)
          s) g i (install_is_same_for p q s (own_configuration s p) (status_after s p) d)
          ∙ installs_swap p q s (own_configuration s p) (own_configuration s q) (status_after s p) (status_after s q) d
          ∙ sym (private_step_is p s (install q (with_mixed_store (is_own q) s.store (own_configuration s q))
          (status_after s q) s) g h (install_is_same_for q p s (own_configuration s q) (status_after s q) e)))
