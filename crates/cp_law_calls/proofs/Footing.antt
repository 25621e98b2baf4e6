-- Whose statuses the effect of a step changes. These are its own process, processes that are stopped at a
-- gate that it holds, and a process that it starts.
--
-- A gate has one holder, a process is stopped at one gate, and only process 1 starts others. So no two
-- ready processes change the status of the same process, and each effect is the same after the other.
use Rattle.std.specs.Prelude.{Bool, List, None, Some, [], false, if◌then◌else◌, nat_eq, refl, true, ℕ, ◌∷◌, ◌≡◌, ◌≢◌}
use Rattle.std.proofs.Common.{ap, subst, sym, ◌∙◌}
use Rattle.std.proofs.lemmas.Bool.{true≢false}
use Rattle.cp_model.specs.Locations.{Location}
use Rattle.cp_model.specs.Outcomes.{Fault, Gives}
use Rattle.cp_model.specs.Continuations.{Task}
use Rattle.cp_model.specs.Configurations.{Asking, Continues, Delayed, Delays, Effect, Ended, Ends, Enters, Faulted, Fresh, Leaves, Opens, Own, Ready, Starts, Status, StepResult, Unstarted, Waiting, Waits}
use Rattle.cp_model.specs.States.{Free, Gate, HeldBy, Holder, Unset, is_in, is_set, is_started, with_at}
use Rattle.cp_model.specs.Gates.{made_ready}
use Rattle.cp_model.proofs.Lists.{in_head}
use Rattle.cp_law_gates.specs.Gates.{IsStoppedAt}
use Rattle.cp_law_calls.proofs.Changes.{AllSame, AtAll, begins, change, delays, enters, gate_is, hands, passes, puts, puts_same}

-- ---- What is known of an effect

-- `P` holds of the gate that the effect touches, if it touches one.
abbrev pub Touches : (ℕ → Type 0) → Effect → Type 0
Touches P (Enters m) = P m
Touches P (Leaves m) = P m
Touches P (Delays m l) = P m
Touches P (Continues m r) = P m
Touches P (Opens m) = P m
Touches P _ = Unit {0}

abbrev pub ResultTouches : (ℕ → Type 0) → StepResult → Type 0
ResultTouches P (Fault n) = Unit {0}
ResultTouches P (Gives x) = Touches P x.1

-- An effect of a step that is late.
abbrev pub IsLateEffect : Effect → Type 0
IsLateEffect (Enters m) = Unit {0}
IsLateEffect (Opens m) = Unit {0}
IsLateEffect _ = ⊥

abbrev pub IsLateResult : StepResult → Type 0
IsLateResult (Fault n) = ⊥
IsLateResult (Gives x) = IsLateEffect x.1

module _ (g : ℕ → Gate) (st : ℕ → Status) where
  abbrev pub Footed : ℕ → Effect → Type 0
  Footed q (Enters m) = is_set (g m).holder ≡ true
  Footed q (Leaves m) = (g m).holder ≡ HeldBy q
  Footed q (Delays m l) = (g m).holder ≡ HeldBy q
  Footed q (Continues m None) = (g m).holder ≡ HeldBy q
  Footed q (Continues m (Some r)) = ((g m).holder ≡ HeldBy q) × IsStoppedAt m (st r)
  Footed q (Opens m) = (q ≡ 1) × (is_set (g m).holder ≡ false)
  Footed q (Starts r k) = q ≡ 1
  Footed q _ = Unit {0}

  abbrev pub ResultFooted : ℕ → StepResult → Type 0
  ResultFooted q (Fault n) = Unit {0}
  ResultFooted q (Gives x) = Footed q x.1

  -- The askers of each gate ask for it.
  abbrev pub AskersAsk : Type 0
  AskersAsk = (m r : ℕ) → is_in r (g m).askers ≡ true → st r ≡ Asking m

  -- The process `k` is one that an effect of `q` may touch.
  pub data Mine (q k : ℕ) : Type 0 where
    Itself : (is : k ≡ q) → Mine q k
    Woken : (m : ℕ) (held : (g m).holder ≡ HeldBy q) (stopped : IsStoppedAt m (st k)) → Mine q k
    Begun : (first : q ≡ 1) (unstarted : is_started (st k) ≡ false) → Mine q k

  -- ---- No process is touched by two

  ready_started : (k : ℕ) → st k ≡ Ready → is_started (st k) ≡ false → ⊥
  ready_started k e h = true≢false (sym (ap is_started e) ∙ h)

  ready_stopped : (m k : ℕ) → st k ≡ Ready → IsStoppedAt m (st k) → ⊥
  ready_stopped m k e h = subst (IsStoppedAt m) e h

  pub stopped_started : (m : ℕ) (x : Status) → IsStoppedAt m x → is_started x ≡ true
  stopped_started m (Asking n) h = refl
  stopped_started m (Delayed n l) h = refl
  stopped_started m Unstarted h = absurd h
  stopped_started m Fresh h = absurd h
  stopped_started m Ready h = absurd h
  stopped_started m Ended h = absurd h
  stopped_started m Waiting h = absurd h
  stopped_started m (Faulted n) h = absurd h

  stopped_once : (m n : ℕ) (x : Status) → IsStoppedAt m x → IsStoppedAt n x → m ≡ n
  stopped_once m n (Asking a) h k = sym h ∙ k
  stopped_once m n (Delayed a l) h k = sym h ∙ k
  stopped_once m n Unstarted h k = absurd h
  stopped_once m n Fresh h k = absurd h
  stopped_once m n Ready h k = absurd h
  stopped_once m n Ended h k = absurd h
  stopped_once m n Waiting h k = absurd h
  stopped_once m n (Faulted a) h k = absurd h

  holder_is : Holder → ℕ
  holder_is (HeldBy p) = p
  holder_is _ = 0

  pub held_once : (m p q : ℕ) → (g m).holder ≡ HeldBy p → (g m).holder ≡ HeldBy q → p ≡ q
  unfolding holder_is
  held_once m p q h k = ap holder_is (sym h ∙ k)

  pub held_apart : (m n p q : ℕ) → p ≢ q → (g m).holder ≡ HeldBy p → (g n).holder ≡ HeldBy q → m ≢ n
  held_apart m n p q d h k e = d (held_once n p q (subst (λ x. (g x).holder ≡ HeldBy p) e h) k)

  mine_once : (p q k : ℕ) → p ≢ q → st p ≡ Ready → st q ≡ Ready → Mine p k → Mine q k → ⊥
  mine_once p q k d a b (Itself e) (Itself f) = d (sym e ∙ f)
  mine_once p q k d a b (Itself e) (Woken m h s) = ready_stopped m p a (subst (λ x. IsStoppedAt m (st x)) e s)
  mine_once p q k d a b (Itself e) (Begun f u) = ready_started p a (subst (λ x. is_started (st x) ≡ false) e u)
  mine_once p q k d a b (Woken m h s) (Itself f) = ready_stopped m q b (subst (λ x. IsStoppedAt m (st x)) f s)
  mine_once p q k d a b (Woken m h s) (Woken n i t) = held_apart m n p q d h i (stopped_once m n (st k) s t)
  mine_once p q k d a b (Woken m h s) (Begun f u) = true≢false (sym (stopped_started m (st k) s) ∙ u)
  mine_once p q k d a b (Begun e u) (Itself f) = ready_started q b (subst (λ x. is_started (st x) ≡ false) f u)
  mine_once p q k d a b (Begun e u) (Woken n i t) = true≢false (sym (stopped_started n (st k) t) ∙ u)
  mine_once p q k d a b (Begun e u) (Begun f v) = d (e ∙ sym f)

  pub mine_apart : (p q k j : ℕ) → p ≢ q → st p ≡ Ready → st q ≡ Ready → Mine p k → Mine q j → k ≢ j
  mine_apart p q k j d a b h i e = mine_once p q k d a b h (subst (Mine q) (sym e) i)

  -- ---- What is touched

  module _ (asks : AskersAsk) where
    woken : (m q r : ℕ) → (g m).holder ≡ HeldBy q → st r ≡ Asking m → Mine q r
    woken m q r h e = Woken m h (subst (IsStoppedAt m) (sym e) refl)

    passes_mine : (q m : ℕ) (askers : List ℕ) → (g m).holder ≡ HeldBy q → (g m).askers ≡ askers → AtAll (Mine q) (passes m askers st).statuses
    passes_mine q m [] h e = tt
    passes_mine q m (r ∷ rs) h e = (woken m q r h (asks m r (ap (is_in r) e ∙ in_head r rs)), tt)

    delays_mine : (q m : ℕ) (l : Location) (askers : List ℕ) → (g m).holder ≡ HeldBy q → (g m).askers ≡ askers
        → AtAll (Mine q) (delays q m l askers st).statuses
    delays_mine q m l [] h e = (Itself refl, tt)
    delays_mine q m l (r ∷ rs) h e = (Itself refl, (woken m q r h (asks m r (ap (is_in r) e ∙ in_head r rs)), tt))

    enters_mine : (q m : ℕ) (h : Holder) (askers : List ℕ) → AtAll (Mine q) (enters q m h askers).statuses
    enters_mine q m Unset as' = tt
    enters_mine q m Free as' = tt
    enters_mine q m (HeldBy p) as' = (Itself refl, tt)

    begins_mine : (q r : ℕ) (k : List Task) (b : Bool) → q ≡ 1 → is_started (st r) ≡ b → AtAll (Mine q) (begins r k b).statuses
    begins_mine q r k true f e = tt
    begins_mine q r k false f e = (Begun f e, tt)

    pub statuses_mine : (q : ℕ) (v : StepResult) → ResultFooted q v → AtAll (Mine q) (change q v g st).statuses
    statuses_mine q (Fault n) h = (Itself refl, tt)
    statuses_mine q (Gives (c, Own)) h = tt
    statuses_mine q (Gives (c, Ends)) h = (Itself refl, tt)
    statuses_mine q (Gives (c, Waits)) h = (Itself refl, tt)
    statuses_mine q (Gives (c, Enters m)) h = enters_mine q m (g m).holder (g m).askers
    statuses_mine q (Gives (c, Leaves m)) h = passes_mine q m (g m).askers h refl
    statuses_mine q (Gives (c, Delays m l)) h = delays_mine q m l (g m).askers h refl
    statuses_mine q (Gives (c, Continues m None)) h = passes_mine q m (g m).askers h refl
    statuses_mine q (Gives (c, Continues m (Some r))) h = (Woken m h.0 h.1, tt)
    statuses_mine q (Gives (c, Opens m)) h = tt
    statuses_mine q (Gives (c, Starts r k)) h = begins_mine q r k (is_started (st r)) h refl

    -- ---- The change is the same where what it touches is the same

    module _ (q : ℕ) (g' : ℕ → Gate) (st' : ℕ → Status) (mine : (k : ℕ) → Mine q k → st' k ≡ st k) where
      passes_same : (m : ℕ) (askers : List ℕ) → (g m).holder ≡ HeldBy q → (g m).askers ≡ askers → passes m askers st' ≡ passes m askers st
      passes_same m [] h e = refl
      passes_same m (r ∷ rs) h e =
          ap (λ x. record { gates = gate_is m (HeldBy r) rs; statuses = (r, made_ready x) ∷ []; starts = [] })
          (mine r (woken m q r h (asks m r (ap (is_in r) e ∙ in_head r rs))))

      delays_same : (m : ℕ) (l : Location) (askers : List ℕ) → (g m).holder ≡ HeldBy q → (g m).askers ≡ askers
          → delays q m l askers st' ≡ delays q m l askers st
      delays_same m l [] h e = refl
      delays_same m l (r ∷ rs) h e =
          ap (λ x. record { gates = gate_is m (HeldBy r) rs; statuses = (q, Delayed m l) ∷ (r, made_ready (if nat_eq q r then Delayed m l else x)) ∷ []; starts = [] })
          (mine r (woken m q r h (asks m r (ap (is_in r) e ∙ in_head r rs))))

      begins_same : (r : ℕ) (k : List Task) → q ≡ 1 → ((k : ℕ) → is_started (st k) ≡ true → is_started (st' k) ≡ true)
          → begins r k (is_started (st' r)) ≡ begins r k (is_started (st r))
      begins_same r k f more = by (is_started (st r)) refl
        where
          by : (b : Bool) → is_started (st r) ≡ b → begins r k (is_started (st' r)) ≡ begins r k b
          by true e = ap (begins r k) (more r e)
          by false e = ap (λ x. begins r k (is_started x)) (mine r (Begun f e)) ∙ ap (begins r k) e

      pub change_same : (v : StepResult) → ResultFooted q v → ResultTouches (λ m. g' m ≡ g m) v
          → ((k : ℕ) → is_started (st k) ≡ true → is_started (st' k) ≡ true)
          → change q v g' st' ≡ change q v g st
      change_same (Fault n) h t s = refl
      change_same (Gives (c, Own)) h t s = refl
      change_same (Gives (c, Ends)) h t s = refl
      change_same (Gives (c, Waits)) h t s = refl
      change_same (Gives (c, Enters m)) h t s = ap (λ x. enters q m x.holder x.askers) t
      change_same (Gives (c, Leaves m)) h t s = ap (λ (x : Gate). passes m x.askers st') t ∙ passes_same m (g m).askers h refl
      change_same (Gives (c, Delays m l)) h t s = ap (λ (x : Gate). delays q m l x.askers st') t ∙ delays_same m l (g m).askers h refl
      change_same (Gives (c, Continues m None)) h t s = ap (λ (x : Gate). passes m x.askers st') t ∙ passes_same m (g m).askers h refl
      change_same (Gives (c, Continues m (Some r))) h t s =
          ap (λ (x : Gate). hands m r x.askers st') t
          ∙ ap (λ x. record { gates = gate_is m (HeldBy r) (g m).askers; statuses = (r, made_ready x) ∷ []; starts = [] }) (mine r (Woken m h.0 h.1))
      change_same (Gives (c, Opens m)) h t s = refl
      change_same (Gives (c, Starts r k)) h t s = begins_same r k h s
