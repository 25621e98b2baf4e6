-- The end of a round may come before a step or after it: only the count of rounds differs.
--
-- Closing makes fresh processes ready. No step reads whether another process is fresh or ready. It reads
-- whether the other is started, and closing doesn't change that.
use Rattle.std.specs.Prelude.{Bool, List, None, Option, Some, [], false, if◌then◌else◌, nat_eq, refl, true, ℕ, ◌++◌, ◌∷◌, ◌≡◌}
use Rattle.std.proofs.Common.{ap, subst, sym, ◌∙◌}
use Rattle.cp_model.specs.Outcomes.{Fault, Gives}
use Rattle.cp_model.specs.Continuations.{Task}
use Rattle.cp_model.specs.Configurations.{Asking, Continues, Delayed, Delays, Effect, Ended, Ends, Enters, Faulted, Fresh, Leaves, Opens, Own, Ready, Starts, Status, StepResult, Unstarted, Waiting, Waits}
use Rattle.cp_model.specs.Step.{step_of}
use Rattle.cp_model.specs.States.{Free, HeldBy, Holder, Setup, State, Unset, configuration, context, is_set, is_started, set_status, with_at}
use Rattle.cp_model.specs.Gates.{apply_effect, enter, made_ready, make_ready, pass_on, pass_to, resume, set_gate, start_process}
use Rattle.cp_model.specs.Rounds.{after_closing, close_round}
use Rattle.cp_model.specs.Turns.{after_step, step}
use Rattle.cp_model.proofs.OwnSteps.{outcome}
use Rattle.cp_model.proofs.StateMaps.{state_is}
use Rattle.cp_law_calls.specs.Orders.{closed}
use Rattle.cp_law_calls.proofs.Changes.{begins, changed, start_is}

-- ---- Statuses

pub closed_twice : (x : Status) → after_closing (after_closing x) ≡ after_closing x
closed_twice Unstarted = refl
closed_twice Fresh = refl
closed_twice Ready = refl
closed_twice Ended = refl
closed_twice Waiting = refl
closed_twice (Asking m) = refl
closed_twice (Delayed m l) = refl
closed_twice (Faulted n) = refl

pub closed_started : (x : Status) → is_started (after_closing x) ≡ is_started x
closed_started Unstarted = refl
closed_started Fresh = refl
closed_started Ready = refl
closed_started Ended = refl
closed_started Waiting = refl
closed_started (Asking m) = refl
closed_started (Delayed m l) = refl
closed_started (Faulted n) = refl

closed_ready : (x : Status) → after_closing (made_ready x) ≡ made_ready (after_closing x)
closed_ready Unstarted = refl
closed_ready Fresh = refl
closed_ready Ready = refl
closed_ready Ended = refl
closed_ready Waiting = refl
closed_ready (Asking m) = refl
closed_ready (Delayed m l) = refl
closed_ready (Faulted n) = refl

-- ---- States that are the same but for who is fresh, and for the count

pub record Alike (x y : State) : Type 0 where
  pub store : x.store ≡ y.store
  pub continuation : x.continuation ≡ y.continuation
  pub transcript : x.transcript ≡ y.transcript
  pub consumed : x.consumed ≡ y.consumed
  pub status : (p : ℕ) → after_closing (x.status p) ≡ after_closing (y.status p)
  pub gates : x.gates ≡ y.gates

pub alike_closed : (x y : State) → Alike x y → closed x ≡ closed y
alike_closed x y a = state_is _ _ a.store a.continuation a.transcript a.consumed (λ i p. a.status p i) a.gates refl

alike_status : (x y : State) (q : ℕ) (v : Status) → Alike x y → Alike (set_status q v x) (set_status q v y)
alike_status x y q v a = record {
  store = a.store;
  continuation = a.continuation;
  transcript = a.transcript;
  consumed = a.consumed;
  status = λ p. by p (nat_eq q p);
  gates = a.gates;
}
  where
    by : (p : ℕ) (b : Bool) → after_closing (if b then v else x.status p) ≡ after_closing (if b then v else y.status p)
    by p true = refl
    by p false = a.status p

alike_ready : (x y : State) (q : ℕ) → Alike x y → Alike (make_ready q x) (make_ready q y)
alike_ready x y q a = record {
  store = a.store;
  continuation = a.continuation;
  transcript = a.transcript;
  consumed = a.consumed;
  status = λ p. by p (nat_eq q p);
  gates = a.gates;
}
  where
    by : (p : ℕ) (b : Bool) → after_closing (if b then made_ready (x.status q) else x.status p) ≡ after_closing (if b then made_ready (y.status q) else y.status p)
    by p true = closed_ready (x.status q) ∙ ap made_ready (a.status q) ∙ sym (closed_ready (y.status q))
    by p false = a.status p

alike_gate : (x y : State) (m : ℕ) (h : Holder) (askers : List ℕ) → Alike x y → Alike (set_gate m h askers x) (set_gate m h askers y)
alike_gate x y m h askers a = record {
  store = a.store;
  continuation = a.continuation;
  transcript = a.transcript;
  consumed = a.consumed;
  status = a.status;
  gates = ap (with_at m (record { holder = h; askers = askers })) a.gates;
}

alike_pass : (x y : State) (m : ℕ) (askers : List ℕ) → Alike x y → Alike (pass_to m askers x) (pass_to m askers y)
alike_pass x y m [] a = alike_gate x y m Free [] a
alike_pass x y m (r ∷ rs) a = alike_ready _ _ r (alike_gate x y m (HeldBy r) rs a)

alike_pass_on : (x y : State) (m : ℕ) → Alike x y → Alike (pass_on m x) (pass_on m y)
alike_pass_on x y m a = subst (λ g. Alike (pass_to m (g m).askers x) (pass_on m y)) (sym a.gates) (alike_pass x y m (y.gates m).askers a)

alike_enter : (x y : State) (p m : ℕ) (h : Holder) → Alike x y → Alike (enter p m h x) (enter p m h y)
alike_enter x y p m Unset a = subst (λ g. Alike (set_gate m (HeldBy p) (g m).askers x) (set_gate m (HeldBy p) (y.gates m).askers y)) (sym a.gates) (alike_gate x y m (HeldBy p) (y.gates m).askers a)
alike_enter x y p m Free a = subst (λ g. Alike (set_gate m (HeldBy p) (g m).askers x) (set_gate m (HeldBy p) (y.gates m).askers y)) (sym a.gates) (alike_gate x y m (HeldBy p) (y.gates m).askers a)
alike_enter x y p m (HeldBy q) a =
    subst (λ g. Alike (set_status p (Asking m) (set_gate m (HeldBy q) ((g m).askers ++ p ∷ []) x)) (enter p m (HeldBy q) y)) (sym a.gates)
    (alike_status _ _ p (Asking m) (alike_gate x y m (HeldBy q) ((y.gates m).askers ++ p ∷ []) a))

alike_resume : (x y : State) (m : ℕ) (o : Option ℕ) → Alike x y → Alike (resume m o x) (resume m o y)
alike_resume x y m None a = alike_pass_on x y m a
alike_resume x y m (Some r) a =
    subst (λ g. Alike (make_ready r (set_gate m (HeldBy r) (g m).askers x)) (resume m (Some r) y)) (sym a.gates)
    (alike_ready _ _ r (alike_gate x y m (HeldBy r) (y.gates m).askers a))

alike_start : (x y : State) (r : ℕ) (k : List Task) (v w : Status) → is_started v ≡ is_started w → Alike x y → Alike (start_process r k v x) (start_process r k w y)
alike_start x y r k v w e a =
    subst (λ z. Alike z (start_process r k w y)) (sym (start_is r k v x))
    (subst (λ z. Alike (changed (begins r k (is_started v)) x) z) (sym (start_is r k w y))
    (subst (λ b. Alike (changed (begins r k (is_started v)) x) (changed (begins r k b) y)) e (by (is_started v))))
  where
    by : (b : Bool) → Alike (changed (begins r k b) x) (changed (begins r k b) y)
    by true = a
    by false = alike_status _ _ r Fresh (record { store = a.store; continuation = ap (with_at r k) a.continuation; transcript = a.transcript; consumed = a.consumed; status = a.status; gates = a.gates })

alike_effect : (x y : State) (p : ℕ) (e : Effect) → Alike x y → Alike (apply_effect p e x) (apply_effect p e y)
alike_effect x y p Own a = a
alike_effect x y p Ends a = alike_status x y p Ended a
alike_effect x y p Waits a = alike_status x y p Waiting a
alike_effect x y p (Enters m) a = subst (λ g. Alike (enter p m (g m).holder x) (apply_effect p (Enters m) y)) (sym a.gates) (alike_enter x y p m (y.gates m).holder a)
alike_effect x y p (Leaves m) a = alike_pass_on x y m a
alike_effect x y p (Delays m l) a = alike_pass_on _ _ m (alike_status x y p (Delayed m l) a)
alike_effect x y p (Continues m o) a = alike_resume x y m o a
alike_effect x y p (Opens m) a = alike_gate x y m (HeldBy p) [] a
alike_effect x y p (Starts r k) a =
    alike_start x y r k (x.status r) (y.status r) (sym (closed_started (x.status r)) ∙ ap is_started (a.status r) ∙ closed_started (y.status r)) a

pub alike_after : (x y : State) (p : ℕ) (o : StepResult) → Alike x y → Alike (after_step x p o) (after_step y p o)
alike_after x y p (Fault n) a = alike_status x y p (Faulted n) a
alike_after x y p (Gives (c, e)) a = alike_effect _ _ p e (record {
  store = refl;
  continuation = ap (with_at p c.continuation) a.continuation;
  transcript = ap (with_at p c.transcript) a.transcript;
  consumed = ap (with_at p c.consumed) a.consumed;
  status = a.status;
  gates = a.gates;
})

-- ---- A step after the end of a round, whose count is still the old one

abbrev pub shut : State → State
shut s = record s { status = λ p. after_closing (s.status p) }

pub shut_step : (setup : Setup) (x : State) (q : ℕ) → closed (step setup (shut x) q) ≡ closed (step setup x q)
shut_step setup x q =
    ap (λ o. closed (after_step (shut x) q o)) same
    ∙ alike_closed _ _ (alike_after (shut x) x q (outcome setup x q) (record {
      store = refl;
      continuation = refl;
      transcript = refl;
      consumed = refl;
      status = λ p. closed_twice (x.status p);
      gates = refl;
    }))
  where
    same : outcome setup (shut x) q ≡ outcome setup x q
    same = λ i. step_of (record {
      clock = (context setup x q).clock;
      process = q;
      input = setup.inputs q;
      is_started = λ r. closed_started (x.status r) i;
      is_set = λ m. is_set (x.gates m).holder;
    }) (configuration x q)

pub closed_round : (x : State) → closed (close_round x) ≡ closed x
closed_round x = alike_closed (close_round x) x (record {
  store = refl;
  continuation = refl;
  transcript = refl;
  consumed = refl;
  status = λ p. closed_twice (x.status p);
  gates = refl;
})
