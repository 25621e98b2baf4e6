-- Which gates an effect touches, whom it starts, and what it sets.
--
-- An effect touches one gate at most. An eager one touches a gate that its process holds. Who is started
-- stays so, and only process 1 starts others. Only an effect that opens a monitor sets a gate.
use Rattle.std.specs.Prelude.{Bool, List, None, Some, [], false, if◌then◌else◌, nat_eq, refl, true, ℕ, ◌∷◌, ◌≡◌, ◌≢◌}
use Rattle.std.proofs.Common.{ap, subst, sym, ◌∙◌}
use Rattle.std.proofs.lemmas.Bool.{true≢false}
use Rattle.cp_model.specs.Locations.{Location}
use Rattle.cp_model.specs.Outcomes.{Fault, Gives}
use Rattle.cp_model.specs.Continuations.{Task}
use Rattle.cp_model.specs.Configurations.{Asking, Continues, Delayed, Delays, Effect, Ended, Ends, Enters, Faulted, Fresh, Leaves, Opens, Own, Ready, Starts, Status, StepResult, Unstarted, Waiting, Waits}
use Rattle.cp_model.specs.States.{Free, Gate, HeldBy, Holder, Unset, is_in, is_set, is_started, with_at}
use Rattle.cp_model.specs.Gates.{made_ready}
use Rattle.cp_model.proofs.Lists.{in_head}
use Rattle.cp_law_gates.specs.Gates.{IsStoppedAt}
use Rattle.cp_law_calls.proofs.Footing.{AskersAsk, Begun, IsLateResult, Itself, Mine, ResultFooted, ResultTouches, Woken, statuses_mine, stopped_started}
use Rattle.cp_law_calls.proofs.Changes.{AllSame, AtAll, begins, change, delays, enters, gate_is, hands, passes, puts, puts_same}

module _ (g : ℕ → Gate) (st : ℕ → Status) where
  -- ---- Gates

  passes_gates : (P : ℕ → Type 0) (m : ℕ) (askers : List ℕ) → P m → AtAll P (passes m askers st).gates
  passes_gates P m [] h = (h, tt)
  passes_gates P m (r ∷ rs) h = (h, tt)

  delays_gates : (P : ℕ → Type 0) (q m : ℕ) (l : Location) (askers : List ℕ) → P m → AtAll P (delays q m l askers st).gates
  delays_gates P q m l [] h = (h, tt)
  delays_gates P q m l (r ∷ rs) h = (h, tt)

  enters_gates : (P : ℕ → Type 0) (q m : ℕ) (x : Holder) (askers : List ℕ) → P m → AtAll P (enters q m x askers).gates
  enters_gates P q m Unset as' h = (h, tt)
  enters_gates P q m Free as' h = (h, tt)
  enters_gates P q m (HeldBy p) as' h = (h, tt)

  begins_gates : (P : ℕ → Type 0) (r : ℕ) (k : List Task) (b : Bool) → AtAll P (begins r k b).gates
  begins_gates P r k true = tt
  begins_gates P r k false = tt

  pub gates_touched : (P : ℕ → Type 0) (q : ℕ) (v : StepResult) → ResultTouches P v → AtAll P (change q v g st).gates
  gates_touched P q (Fault n) h = tt
  gates_touched P q (Gives (c, Own)) h = tt
  gates_touched P q (Gives (c, Ends)) h = tt
  gates_touched P q (Gives (c, Waits)) h = tt
  gates_touched P q (Gives (c, Enters m)) h = enters_gates P q m (g m).holder (g m).askers h
  gates_touched P q (Gives (c, Leaves m)) h = passes_gates P m (g m).askers h
  gates_touched P q (Gives (c, Delays m l)) h = delays_gates P q m l (g m).askers h
  gates_touched P q (Gives (c, Continues m None)) h = passes_gates P m (g m).askers h
  gates_touched P q (Gives (c, Continues m (Some r))) h = (h, tt)
  gates_touched P q (Gives (c, Opens m)) h = (h, tt)
  gates_touched P q (Gives (c, Starts r k)) h = begins_gates P r k (is_started (st r))

  -- ---- Processes that are started

  begins_starts : (q r : ℕ) (k : List Task) (b : Bool) → q ≡ 1 → is_started (st r) ≡ b
      → AtAll (λ k. (q ≡ 1) × (is_started (st k) ≡ false)) (begins r k b).starts
  begins_starts q r k true f e = tt
  begins_starts q r k false f e = ((f, e), tt)

  passes_starts : (P : ℕ → Type 0) (m : ℕ) (askers : List ℕ) → AtAll P (passes m askers st).starts
  passes_starts P m [] = tt
  passes_starts P m (r ∷ rs) = tt

  delays_starts : (P : ℕ → Type 0) (q m : ℕ) (l : Location) (askers : List ℕ) → AtAll P (delays q m l askers st).starts
  delays_starts P q m l [] = tt
  delays_starts P q m l (r ∷ rs) = tt

  enters_starts : (P : ℕ → Type 0) (q m : ℕ) (x : Holder) (askers : List ℕ) → AtAll P (enters q m x askers).starts
  enters_starts P q m Unset as' = tt
  enters_starts P q m Free as' = tt
  enters_starts P q m (HeldBy p) as' = tt

  abbrev pub IsNewTo : ℕ → ℕ → Type 0
  IsNewTo q k = (q ≡ 1) × (is_started (st k) ≡ false)

  pub starts_fresh : (q : ℕ) (v : StepResult) → ResultFooted g st q v → AtAll (IsNewTo q) (change q v g st).starts
  starts_fresh q (Fault n) h = tt
  starts_fresh q (Gives (c, Own)) h = tt
  starts_fresh q (Gives (c, Ends)) h = tt
  starts_fresh q (Gives (c, Waits)) h = tt
  starts_fresh q (Gives (c, Enters m)) h = enters_starts (IsNewTo q) q m (g m).holder (g m).askers
  starts_fresh q (Gives (c, Leaves m)) h = passes_starts (IsNewTo q) m (g m).askers
  starts_fresh q (Gives (c, Delays m l)) h = delays_starts (IsNewTo q) q m l (g m).askers
  starts_fresh q (Gives (c, Continues m None)) h = passes_starts (IsNewTo q) m (g m).askers
  starts_fresh q (Gives (c, Continues m (Some r))) h = tt
  starts_fresh q (Gives (c, Opens m)) h = tt
  starts_fresh q (Gives (c, Starts r k)) h = begins_starts q r k (is_started (st r)) h refl

  -- ---- Who is started, and what is set

  abbrev pub AllStarted : List (ℕ × Status) → Type 0
  AllStarted [] = Unit {0}
  AllStarted (x ∷ xs) = (is_started x.1 ≡ true) × AllStarted xs

  made_ready_started : (x : Status) → is_started x ≡ true → is_started (made_ready x) ≡ true
  made_ready_started Unstarted h = h
  made_ready_started Fresh h = h
  made_ready_started Ready h = h
  made_ready_started Ended h = h
  made_ready_started Waiting h = h
  made_ready_started (Asking m) h = refl
  made_ready_started (Delayed m l) h = refl
  made_ready_started (Faulted n) h = h

  module _ (asks : AskersAsk g st) where
    asker_started : (m r : ℕ) (rs : List ℕ) → (g m).askers ≡ r ∷ rs → is_started (st r) ≡ true
    asker_started m r rs e = ap is_started (asks m r (ap (is_in r) e ∙ in_head r rs))

    passes_started : (m : ℕ) (askers : List ℕ) → (g m).askers ≡ askers → AllStarted (passes m askers st).statuses
    passes_started m [] e = tt
    passes_started m (r ∷ rs) e = (made_ready_started (st r) (asker_started m r rs e), tt)

    delays_started : (q m : ℕ) (l : Location) (askers : List ℕ) → (g m).askers ≡ askers → AllStarted (delays q m l askers st).statuses
    delays_started q m l [] e = (refl, tt)
    delays_started q m l (r ∷ rs) e =
        (refl, (made_ready_started (with_at q (Delayed m l) st r) (by (nat_eq q r)), tt))
      where
        by : (b : Bool) → is_started (if b then Delayed m l else st r) ≡ true
        by true = refl
        by false = asker_started m r rs e

    enters_started : (q m : ℕ) (x : Holder) (askers : List ℕ) → AllStarted (enters q m x askers).statuses
    enters_started q m Unset as' = tt
    enters_started q m Free as' = tt
    enters_started q m (HeldBy p) as' = (refl, tt)

    begins_started : (r : ℕ) (k : List Task) (b : Bool) → AllStarted (begins r k b).statuses
    begins_started r k true = tt
    begins_started r k false = (refl, tt)

    statuses_started : (q : ℕ) (v : StepResult) → ResultFooted g st q v → AllStarted (change q v g st).statuses
    statuses_started q (Fault n) h = (refl, tt)
    statuses_started q (Gives (c, Own)) h = tt
    statuses_started q (Gives (c, Ends)) h = (refl, tt)
    statuses_started q (Gives (c, Waits)) h = (refl, tt)
    statuses_started q (Gives (c, Enters m)) h = enters_started q m (g m).holder (g m).askers
    statuses_started q (Gives (c, Leaves m)) h = passes_started m (g m).askers refl
    statuses_started q (Gives (c, Delays m l)) h = delays_started q m l (g m).askers refl
    statuses_started q (Gives (c, Continues m None)) h = passes_started m (g m).askers refl
    statuses_started q (Gives (c, Continues m (Some r))) h = (made_ready_started (st r) (stopped_started g st m (st r) h.1), tt)
    statuses_started q (Gives (c, Opens m)) h = tt
    statuses_started q (Gives (c, Starts r k)) h = begins_started r k (is_started (st r))

    puts_keep_started : (xs : List (ℕ × Status)) (f : ℕ → Status) (k : ℕ) → AllStarted xs → is_started (f k) ≡ true → is_started (puts xs f k) ≡ true
    puts_keep_started [] f k h e = e
    puts_keep_started (x ∷ xs) f k h e = puts_keep_started xs (with_at x.0 x.1 f) k h.1 (by (nat_eq x.0 k))
      where
        by : (b : Bool) → is_started (if b then x.1 else f k) ≡ true
        by true = h.0
        by false = e

    -- Whoever is started stays so.
    pub stays_started : (q : ℕ) (v : StepResult) → ResultFooted g st q v → (k : ℕ) → is_started (st k) ≡ true
        → is_started (puts (change q v g st).statuses st k) ≡ true
    stays_started q v h k e = puts_keep_started (change q v g st).statuses st k (statuses_started q v h) e

    -- Only the first process starts others.
    pub same_started : (q : ℕ) (v : StepResult) → ResultFooted g st q v → (q ≡ 1 → ⊥) → st q ≡ Ready → (k : ℕ)
        → is_started (puts (change q v g st).statuses st k) ≡ is_started (st k)
    same_started q v h other ready =
        puts_same is_started (λ k. is_started (st k)) (change q v g st).statuses st (λ k. refl)
        (each (change q v g st).statuses (statuses_mine g st asks q v h) (statuses_started q v h))
      where
        mine_started : (k : ℕ) → Mine g st q k → is_started (st k) ≡ true
        mine_started k (Itself e) = ap (λ x. is_started (st x)) e ∙ ap is_started ready
        mine_started k (Woken m a s) = stopped_started g st m (st k) s
        mine_started k (Begun f u) = absurd (other f)

        each : (xs : List (ℕ × Status)) → AtAll (Mine g st q) xs → AllStarted xs → AllSame is_started (λ k. is_started (st k)) xs
        each [] a b = tt
        each (x ∷ xs) a b = (b.0 ∙ sym (mine_started x.0 a.0), each xs a.1 b.1)

  -- ---- What is set

  abbrev pub AllSet : List (ℕ × Gate) → Type 0
  AllSet [] = Unit {0}
  AllSet (x ∷ xs) = (is_set x.1.holder ≡ true) × AllSet xs

  passes_set : (m : ℕ) (askers : List ℕ) → AllSet (passes m askers st).gates
  passes_set m [] = (refl, tt)
  passes_set m (r ∷ rs) = (refl, tt)

  delays_set : (q m : ℕ) (l : Location) (askers : List ℕ) → AllSet (delays q m l askers st).gates
  delays_set q m l [] = (refl, tt)
  delays_set q m l (r ∷ rs) = (refl, tt)

  enters_set : (q m : ℕ) (x : Holder) (askers : List ℕ) → AllSet (enters q m x askers).gates
  enters_set q m Unset as' = (refl, tt)
  enters_set q m Free as' = (refl, tt)
  enters_set q m (HeldBy p) as' = (refl, tt)

  begins_set : (r : ℕ) (k : List Task) (b : Bool) → AllSet (begins r k b).gates
  begins_set r k true = tt
  begins_set r k false = tt

  gates_set : (q : ℕ) (v : StepResult) → AllSet (change q v g st).gates
  gates_set q (Fault n) = tt
  gates_set q (Gives (c, Own)) = tt
  gates_set q (Gives (c, Ends)) = tt
  gates_set q (Gives (c, Waits)) = tt
  gates_set q (Gives (c, Enters m)) = enters_set q m (g m).holder (g m).askers
  gates_set q (Gives (c, Leaves m)) = passes_set m (g m).askers
  gates_set q (Gives (c, Delays m l)) = delays_set q m l (g m).askers
  gates_set q (Gives (c, Continues m None)) = passes_set m (g m).askers
  gates_set q (Gives (c, Continues m (Some r))) = (refl, tt)
  gates_set q (Gives (c, Opens m)) = (refl, tt)
  gates_set q (Gives (c, Starts r k)) = begins_set r k (is_started (st r))

  -- The gate that an eager effect touches is held by its process.
  pub eager_holds : (q : ℕ) (v : StepResult) → ResultFooted g st q v → (IsLateResult v → ⊥) → ResultTouches (λ m. (g m).holder ≡ HeldBy q) v
  eager_holds q (Fault n) h e = tt
  eager_holds q (Gives (c, Own)) h e = tt
  eager_holds q (Gives (c, Ends)) h e = tt
  eager_holds q (Gives (c, Waits)) h e = tt
  eager_holds q (Gives (c, Enters m)) h e = absurd (e tt)
  eager_holds q (Gives (c, Leaves m)) h e = h
  eager_holds q (Gives (c, Delays m l)) h e = h
  eager_holds q (Gives (c, Continues m None)) h e = h
  eager_holds q (Gives (c, Continues m (Some r))) h e = h.0
  eager_holds q (Gives (c, Opens m)) h e = absurd (e tt)
  eager_holds q (Gives (c, Starts r k)) h e = tt

  -- An eager effect sets no gate.
  pub same_set : (q : ℕ) (v : StepResult) → ResultFooted g st q v → (IsLateResult v → ⊥) → (m : ℕ)
      → is_set (puts (change q v g st).gates g m).holder ≡ is_set (g m).holder
  same_set q v h e =
      puts_same (λ x. is_set x.holder) (λ m. is_set (g m).holder) (change q v g st).gates g (λ m. refl)
      (each (change q v g st).gates (gates_touched (λ m. (g m).holder ≡ HeldBy q) q v (eager_holds q v h e)) (gates_set q v))
    where
      each : (xs : List (ℕ × Gate)) → AtAll (λ m. (g m).holder ≡ HeldBy q) xs → AllSet xs → AllSame (λ x. is_set x.holder) (λ m. is_set (g m).holder) xs
      each [] a b = tt
      each (x ∷ xs) a b = (b.0 ∙ sym (ap is_set a.0), each xs a.1 b.1)

  -- An effect that opens no monitor sets no gate.
  abbrev pub IsOpening : StepResult → Type 0
  IsOpening (Fault n) = ⊥
  IsOpening (Gives (c, Opens m)) = Unit {0}
  IsOpening (Gives (c, e)) = ⊥

  touched_set : (q : ℕ) (v : StepResult) → ResultFooted g st q v → (IsOpening v → ⊥) → ResultTouches (λ m. is_set (g m).holder ≡ true) v
  touched_set q (Fault n) h e = tt
  touched_set q (Gives (c, Own)) h e = tt
  touched_set q (Gives (c, Ends)) h e = tt
  touched_set q (Gives (c, Waits)) h e = tt
  touched_set q (Gives (c, Enters m)) h e = h
  touched_set q (Gives (c, Leaves m)) h e = ap is_set h
  touched_set q (Gives (c, Delays m l)) h e = ap is_set h
  touched_set q (Gives (c, Continues m None)) h e = ap is_set h
  touched_set q (Gives (c, Continues m (Some r))) h e = ap is_set h.0
  touched_set q (Gives (c, Opens m)) h e = absurd (e tt)
  touched_set q (Gives (c, Starts r k)) h e = tt

  pub set_kept : (q : ℕ) (v : StepResult) → ResultFooted g st q v → (IsOpening v → ⊥) → (m : ℕ)
      → is_set (puts (change q v g st).gates g m).holder ≡ is_set (g m).holder
  set_kept q v h e =
      puts_same (λ x. is_set x.holder) (λ m. is_set (g m).holder) (change q v g st).gates g (λ m. refl)
      (each (change q v g st).gates (gates_touched (λ m. is_set (g m).holder ≡ true) q v (touched_set q v h e)) (gates_set q v))
    where
      each : (xs : List (ℕ × Gate)) → AtAll (λ m. is_set (g m).holder ≡ true) xs → AllSet xs → AllSame (λ x. is_set x.holder) (λ m. is_set (g m).holder) xs
      each [] a b = tt
      each (x ∷ xs) a b = (b.0 ∙ sym a.0, each xs a.1 b.1)
