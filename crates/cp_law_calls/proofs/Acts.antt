-- What an eager step does to gates and statuses changes places with what a step of another ready process
-- does to them.
--
-- At different gates the two change different things. The eager step touches only a gate that its process
-- holds. So the other step touches the same gate only if it calls the monitor. Then the caller asks first
-- and the gate is passed on, or it is passed on first and the caller enters or asks. Both leave the same.
use Rattle.std.specs.Prelude.{Bool, List, None, Option, Some, [], false, if◌then◌else◌, nat_eq, refl, true, ℕ, ◌++◌, ◌∷◌, ◌≡◌, ◌≢◌}
use Rattle.std.proofs.Common.{ap, subst, sym, ◌∙◌}
use Rattle.std.proofs.lemmas.Bool.{eqb-false, eqb-true, ne_eqb, true≢false}
use Rattle.cp_model.specs.Locations.{Location}
use Rattle.cp_model.specs.Outcomes.{Fault, Gives}
use Rattle.cp_model.specs.Configurations.{Asking, Configuration, Continues, Delayed, Delays, Ends, Enters, Leaves, Opens, Own, Ready, Starts, Status, StepResult, Waits}
use Rattle.cp_model.specs.States.{Free, Gate, HeldBy, Holder, State, is_in, is_set, with_at}
use Rattle.cp_model.specs.Gates.{made_ready}
use Rattle.cp_model.proofs.Lists.{in_head}
use Rattle.cp_model.proofs.StateMaps.{state_is, with_at_here, with_at_same, with_at_there}
use Rattle.cp_law_gates.specs.Gates.{IsStoppedAt}
use Rattle.cp_law_calls.proofs.Changes.{AtAll, Change, act, act_is, acts_swap, at_more, change, changed, delays, enters, gate_is, hands, passes, puts, puts_past_one, puts_there}
use Rattle.cp_law_calls.proofs.Footing.{AskersAsk, Footed, IsLateResult, Mine, ResultFooted, ResultTouches, change_same, held_apart, mine_apart, statuses_mine}
use Rattle.cp_law_calls.proofs.Touched.{IsNewTo, eager_holds, gates_touched, starts_fresh, stays_started}

-- ---- What effects touch

touches_more : (P Q : ℕ → Type 0) (v : StepResult) → ((m : ℕ) → P m → Q m) → ResultTouches P v → ResultTouches Q v
touches_more P Q (Fault n) h t = tt
touches_more P Q (Gives (c, Own)) h t = tt
touches_more P Q (Gives (c, Ends)) h t = tt
touches_more P Q (Gives (c, Waits)) h t = tt
touches_more P Q (Gives (c, Enters m)) h t = h m t
touches_more P Q (Gives (c, Leaves m)) h t = h m t
touches_more P Q (Gives (c, Delays m l)) h t = h m t
touches_more P Q (Gives (c, Continues m r)) h t = h m t
touches_more P Q (Gives (c, Opens m)) h t = h m t
touches_more P Q (Gives (c, Starts r k)) h t = tt

-- What holds of each gate of a list and the touched one, holds of the touched one and each of the list.
touched_by_all : (R : ℕ → ℕ → Type 0) (v : StepResult) (xs : List (ℕ × Gate)) → AtAll (λ m. ResultTouches (λ n. R m n) v) xs
    → ResultTouches (λ n. AtAll (λ m. R m n) xs) v
touched_by_all R (Fault k) xs h = tt
touched_by_all R (Gives (c, Own)) xs h = tt
touched_by_all R (Gives (c, Ends)) xs h = tt
touched_by_all R (Gives (c, Waits)) xs h = tt
touched_by_all R (Gives (c, Enters m)) xs h = h
touched_by_all R (Gives (c, Leaves m)) xs h = h
touched_by_all R (Gives (c, Delays m l)) xs h = h
touched_by_all R (Gives (c, Continues m r)) xs h = h
touched_by_all R (Gives (c, Opens m)) xs h = h
touched_by_all R (Gives (c, Starts r k)) xs h = tt

with_at_again : {A : Type 0} (m : ℕ) (x y : A) (f : ℕ → A) → with_at m x (with_at m y f) ≡ with_at m x f
with_at_again m x y f = λ i k. at k (nat_eq m k) i
  where
    at : (k : ℕ) (b : Bool) → (if b then x else (if b then y else f k)) ≡ (if b then x else f k)
    at k true = refl
    at k false = refl

module _ (p q : ℕ) (u : State) (d : p ≢ q) (ready_p : u.status p ≡ Ready) (ready_q : u.status q ≡ Ready) (asks : AskersAsk u.gates u.status) where
  -- ---- At different gates

  pub apart : (o v : StepResult) → ResultFooted u.gates u.status p o → ResultFooted u.gates u.status q v
      → ResultTouches (λ m. ResultTouches (λ n. m ≢ n) v) o → act q v (act p o u) ≡ act p o (act q v u)
  apart o v fp fq t =
      acts_swap p q o v u c b refl refl
      (change_same g st asks q (puts c.gates g) (puts c.statuses st) (λ k mine. puts_there k c.statuses st (at_more (Mine g st p) (λ n. n ≢ k) c.statuses (λ n a. mine_apart g st p q n k d ready_p ready_q a mine) mine_p)) v fq
      (touches_more (λ n. AtAll (λ m. m ≢ n) c.gates) (λ n. puts c.gates g n ≡ g n) v (λ n a. puts_there n c.gates g a)
      (touched_by_all (λ m n. m ≢ n) v c.gates (gates_touched g st (λ m. ResultTouches (λ n. m ≢ n) v) p o t))) (stays_started g st asks p o fp))
      (change_same g st asks p (puts b.gates g) (puts b.statuses st) (λ k mine. puts_there k b.statuses st (at_more (Mine g st q) (λ n. n ≢ k) b.statuses (λ n a e. mine_apart g st p q k n d ready_p ready_q mine a (sym e)) mine_q)) o fp
      (touches_more (λ m. ResultTouches (λ n. m ≢ n) v) (λ m. puts b.gates g m ≡ g m) o
      (λ m a. puts_there m b.gates g (at_more (λ n. m ≢ n) (λ n. n ≢ m) b.gates (λ n x e. x (sym e)) (gates_touched g st (λ n. m ≢ n) q v a))) t) (stays_started g st asks q v fq))
      (record {
        gates = at_more (λ m. ResultTouches (λ n. m ≢ n) v) (λ n. AtAll (λ m. m ≢ n) b.gates) c.gates
            (λ m a. at_more (λ n. m ≢ n) (λ n. n ≢ m) b.gates (λ n x e. x (sym e)) (gates_touched g st (λ n. m ≢ n) q v a)) (gates_touched g st (λ m. ResultTouches (λ n. m ≢ n) v) p o t);
        statuses = at_more (Mine g st p) (λ n. AtAll (λ m. m ≢ n) b.statuses) c.statuses
            (λ n a. at_more (Mine g st q) (λ m. m ≢ n) b.statuses (λ m x e. mine_apart g st p q n m d ready_p ready_q a x (sym e)) mine_q) mine_p;
        starts = at_more (IsNewTo g st p) (λ n. AtAll (λ m. m ≢ n) b.starts) c.starts
            (λ n a. at_more (IsNewTo g st q) (λ m. m ≢ n) b.starts (λ m x e. d (a.0 ∙ sym x.0)) (starts_fresh g st q v fq)) (starts_fresh g st p o fp);
      })
    where
      g : ℕ → Gate
      g = u.gates

      st : ℕ → Status
      st = u.status

      c : Change
      c = change p o u.gates u.status

      b : Change
      b = change q v u.gates u.status

      mine_p : AtAll (Mine u.gates u.status p) (change p o u.gates u.status).statuses
      mine_p = statuses_mine u.gates u.status asks p o fp

      mine_q : AtAll (Mine u.gates u.status q) (change q v u.gates u.status).statuses
      mine_q = statuses_mine u.gates u.status asks q v fq

  -- ---- At one gate: p asks for the gate that q passes on

  abbrev asks_too : ℕ → List ℕ → Change
  asks_too m askers = record { gates = gate_is m (HeldBy q) (askers ++ p ∷ []); statuses = (p, Asking m) ∷ []; starts = [] }

  abbrev gate_list : ℕ → Holder → List ℕ → List (ℕ × Status) → Change
  gate_list m h rs bs = record { gates = gate_is m h rs; statuses = bs; starts = [] }

  -- Nobody else asks: the gate is passed on to p, or p enters the free gate.
  to_asker : (m : ℕ) (askers : List ℕ) (bs : List (ℕ × Status)) → AtAll (λ n. n ≢ p) bs
      → changed (gate_list m (HeldBy p) [] ((p, Ready) ∷ bs)) (changed (asks_too m askers) u)
      ≡ changed (gate_list m (HeldBy p) [] []) (changed (gate_list m Free [] bs) u)
  to_asker m askers bs h =
      state_is _ _ refl refl refl refl
      (ap (puts bs) (with_at_again p Ready (Asking m) u.status ∙ with_at_same p Ready u.status ready_p))
      (with_at_again m _ _ u.gates ∙ sym (with_at_again m _ _ u.gates)) refl

  -- The gate goes to another process, and p asks for it before or afterwards.
  past_asker : (m r : ℕ) (askers rs : List ℕ) (bs : List (ℕ × Status)) → AtAll (λ n. n ≢ p) bs
      → changed (gate_list m (HeldBy r) (rs ++ p ∷ []) bs) (changed (asks_too m askers) u)
      ≡ changed (enters p m (HeldBy r) rs) (changed (gate_list m (HeldBy r) rs bs) u)
  past_asker m r askers rs bs h =
      state_is _ _ refl refl refl refl (puts_past_one p (Asking m) bs u.status h)
      (with_at_again m _ _ u.gates ∙ sym (with_at_again m _ _ u.gates)) refl

  -- q passes on the gate, and p asks for it before or afterwards.
  module _ (m : ℕ) (held : (u.gates m).holder ≡ HeldBy q) (config : Configuration) where
    abbrev asked_status : ℕ → Status
    asked_status = with_at p (Asking m) u.status

    asking_first : act p (Gives (config, Enters m)) u ≡ changed (asks_too m (u.gates m).askers) u
    asking_first = act_is p (Gives (config, Enters m)) u ∙ ap (λ h. changed (enters p m h (u.gates m).askers) u) held

    -- What p does after q has given the gate away.
    asking_then : (h : Holder) (rs : List ℕ) (bs : List (ℕ × Status))
        → act p (Gives (config, Enters m)) (changed (gate_list m h rs bs) u) ≡ changed (enters p m h rs) (changed (gate_list m h rs bs) u)
    asking_then h rs bs =
        act_is p (Gives (config, Enters m)) (changed (gate_list m h rs bs) u)
        ∙ ap (λ (x : Gate). changed (enters p m x.holder x.askers) (changed (gate_list m h rs bs) u)) (with_at_here m (record { holder = h; askers = rs }) u.gates)

    not_p : (r : ℕ) → IsStoppedAt m (u.status r) → r ≢ p
    not_p r h e = subst (IsStoppedAt m) (ap u.status e ∙ ready_p) h

    asker_stopped : (r : ℕ) (rs : List ℕ) → (u.gates m).askers ≡ r ∷ rs → IsStoppedAt m (u.status r)
    asker_stopped r rs e = subst (IsStoppedAt m) (sym (asks m r (ap (is_in r) e ∙ in_head r rs))) refl

    status_there : (r : ℕ) → r ≢ p → asked_status r ≡ u.status r
    status_there r h = with_at_there p r (Asking m) u.status (ne_eqb p r (λ e. h (sym e)))

    -- The change that q makes after p has asked.
    abbrev asked_gates : ℕ → Gate
    asked_gates = with_at m (record { holder = HeldBy q; askers = (u.gates m).askers ++ p ∷ [] }) u.gates

    leaving_after : (as' : List ℕ) → (u.gates m).askers ≡ as'
        → changed (passes m (as' ++ p ∷ []) asked_status) (changed (asks_too m (u.gates m).askers) u)
        ≡ act p (Gives (config, Enters m)) (changed (passes m as' u.status) u)
    leaving_after [] e =
        ap (λ x. changed (gate_list m (HeldBy p) [] ((p, made_ready x) ∷ [])) (changed (asks_too m (u.gates m).askers) u)) (with_at_here p (Asking m) u.status)
        ∙ to_asker m (u.gates m).askers [] tt
        ∙ sym (asking_then Free [] [])
    leaving_after (r ∷ rs) e =
        let other = not_p r (asker_stopped r rs e) in
        ap (λ x. changed (gate_list m (HeldBy r) (rs ++ p ∷ []) ((r, made_ready x) ∷ [])) (changed (asks_too m (u.gates m).askers) u)) (status_there r other)
        ∙ past_asker m r (u.gates m).askers rs ((r, made_ready (u.status r)) ∷ []) (other, tt)
        ∙ sym (asking_then (HeldBy r) rs ((r, made_ready (u.status r)) ∷ []))

    delaying_after : (l : Location) (as' : List ℕ) → (u.gates m).askers ≡ as'
        → changed (delays q m l (as' ++ p ∷ []) asked_status) (changed (asks_too m (u.gates m).askers) u)
        ≡ act p (Gives (config, Enters m)) (changed (delays q m l as' u.status) u)
    delaying_after l [] e =
        let other : q ≢ p = λ x. d (sym x) in
        ap (λ x. changed (gate_list m (HeldBy p) [] ((q, Delayed m l) ∷ (p, made_ready x) ∷ [])) (changed (asks_too m (u.gates m).askers) u))
        (with_at_there q p (Delayed m l) asked_status (ne_eqb q p other) ∙ with_at_here p (Asking m) u.status)
        ∙ swapped
        ∙ to_asker m (u.gates m).askers ((q, Delayed m l) ∷ []) (other, tt)
        ∙ sym (asking_then Free [] ((q, Delayed m l) ∷ []))
      where
        swapped : changed (gate_list m (HeldBy p) [] ((q, Delayed m l) ∷ (p, Ready) ∷ [])) (changed (asks_too m (u.gates m).askers) u)
            ≡ changed (gate_list m (HeldBy p) [] ((p, Ready) ∷ (q, Delayed m l) ∷ [])) (changed (asks_too m (u.gates m).askers) u)
        swapped = state_is _ _ refl refl refl refl (puts_past_one q (Delayed m l) ((p, Ready) ∷ []) asked_status (d, tt)) refl refl
    delaying_after l (r ∷ rs) e =
        let other = not_p r (asker_stopped r rs e) in
        ap (λ x. changed (gate_list m (HeldBy r) (rs ++ p ∷ []) ((q, Delayed m l) ∷ (r, made_ready (if nat_eq q r then Delayed m l else x)) ∷ [])) (changed (asks_too m (u.gates m).askers) u)) (status_there r other)
        ∙ past_asker m r (u.gates m).askers rs ((q, Delayed m l) ∷ (r, made_ready (with_at q (Delayed m l) u.status r)) ∷ []) ((λ x. d (sym x)), (other, tt))
        ∙ sym (asking_then (HeldBy r) rs ((q, Delayed m l) ∷ (r, made_ready (with_at q (Delayed m l) u.status r)) ∷ []))

    resuming_after : (r : ℕ) → IsStoppedAt m (u.status r)
        → changed (hands m r ((u.gates m).askers ++ p ∷ []) asked_status) (changed (asks_too m (u.gates m).askers) u)
        ≡ act p (Gives (config, Enters m)) (changed (hands m r (u.gates m).askers u.status) u)
    resuming_after r h =
        let other = not_p r h in
        ap (λ x. changed (gate_list m (HeldBy r) ((u.gates m).askers ++ p ∷ []) ((r, made_ready x) ∷ [])) (changed (asks_too m (u.gates m).askers) u)) (status_there r other)
        ∙ past_asker m r (u.gates m).askers (u.gates m).askers ((r, made_ready (u.status r)) ∷ []) (other, tt)
        ∙ sym (asking_then (HeldBy r) (u.gates m).askers ((r, made_ready (u.status r)) ∷ []))

    asked_here : asked_gates m ≡ record { holder = HeldBy q; askers = (u.gates m).askers ++ p ∷ [] }
    asked_here = with_at_here m (record { holder = HeldBy q; askers = (u.gates m).askers ++ p ∷ [] }) u.gates

    abbrev asked_state : State
    asked_state = changed (asks_too m (u.gates m).askers) u

    left : (c : Configuration) → act q (Gives (c, Leaves m)) (act p (Gives (config, Enters m)) u) ≡ act p (Gives (config, Enters m)) (act q (Gives (c, Leaves m)) u)
    left c =
        ap (act q (Gives (c, Leaves m))) asking_first
        ∙ act_is q (Gives (c, Leaves m)) asked_state
        ∙ ap (λ (x : Gate). changed (passes m x.askers asked_status) asked_state) asked_here
        ∙ leaving_after (u.gates m).askers refl
        ∙ sym (ap (act p (Gives (config, Enters m))) (act_is q (Gives (c, Leaves m)) u))

    delayed : (c : Configuration) (l : Location) → act q (Gives (c, Delays m l)) (act p (Gives (config, Enters m)) u) ≡ act p (Gives (config, Enters m)) (act q (Gives (c, Delays m l)) u)
    delayed c l =
        ap (act q (Gives (c, Delays m l))) asking_first
        ∙ act_is q (Gives (c, Delays m l)) asked_state
        ∙ ap (λ (x : Gate). changed (delays q m l x.askers asked_status) asked_state) asked_here
        ∙ delaying_after l (u.gates m).askers refl
        ∙ sym (ap (act p (Gives (config, Enters m))) (act_is q (Gives (c, Delays m l)) u))

    continued : (c : Configuration) (r : Option ℕ) → Footed u.gates u.status q (Continues m r)
        → act q (Gives (c, Continues m r)) (act p (Gives (config, Enters m)) u) ≡ act p (Gives (config, Enters m)) (act q (Gives (c, Continues m r)) u)
    continued c None f =
        ap (act q (Gives (c, Continues m None))) asking_first
        ∙ act_is q (Gives (c, Continues m None)) asked_state
        ∙ ap (λ (x : Gate). changed (passes m x.askers asked_status) asked_state) asked_here
        ∙ leaving_after (u.gates m).askers refl
        ∙ sym (ap (act p (Gives (config, Enters m))) (act_is q (Gives (c, Continues m None)) u))
    continued c (Some r) f =
        ap (act q (Gives (c, Continues m (Some r)))) asking_first
        ∙ act_is q (Gives (c, Continues m (Some r))) asked_state
        ∙ ap (λ (x : Gate). changed (hands m r x.askers asked_status) asked_state) asked_here
        ∙ resuming_after r f.1
        ∙ sym (ap (act p (Gives (config, Enters m))) (act_is q (Gives (c, Continues m (Some r))) u))

  -- ---- Both

  at_gate : (config : Configuration) (m : ℕ) (v : StepResult) → is_set (u.gates m).holder ≡ true → ResultFooted u.gates u.status q v → (IsLateResult v → ⊥)
      → act q v (act p (Gives (config, Enters m)) u) ≡ act p (Gives (config, Enters m)) (act q v u)
  at_gate config m v s fq e = by v fq e
    where
      other : (v : StepResult) → ResultFooted u.gates u.status q v → ResultTouches (λ n. m ≢ n) v
          → act q v (act p (Gives (config, Enters m)) u) ≡ act p (Gives (config, Enters m)) (act q v u)
      other v f t = apart (Gives (config, Enters m)) v s f t

      by : (v : StepResult) → ResultFooted u.gates u.status q v → (IsLateResult v → ⊥)
          → act q v (act p (Gives (config, Enters m)) u) ≡ act p (Gives (config, Enters m)) (act q v u)
      by (Fault n) f e = other (Fault n) f tt
      by (Gives (c, Own)) f e = other (Gives (c, Own)) f tt
      by (Gives (c, Ends)) f e = other (Gives (c, Ends)) f tt
      by (Gives (c, Waits)) f e = other (Gives (c, Waits)) f tt
      by (Gives (c, Enters n)) f e = absurd (e tt)
      by (Gives (c, Opens n)) f e = absurd (e tt)
      by (Gives (c, Starts r k)) f e = other (Gives (c, Starts r k)) f tt
      by (Gives (c, Leaves n)) f e = at (nat_eq n m) refl
        where
          at : (b : Bool) → nat_eq n m ≡ b → act q (Gives (c, Leaves n)) (act p (Gives (config, Enters m)) u) ≡ act p (Gives (config, Enters m)) (act q (Gives (c, Leaves n)) u)
          at true x = subst (λ y. act q (Gives (c, Leaves n)) (act p (Gives (config, Enters y)) u) ≡ act p (Gives (config, Enters y)) (act q (Gives (c, Leaves n)) u)) (eqb-true n m x) (left n f config c)
          at false x = other (Gives (c, Leaves n)) f (λ y. eqb-false n m x (sym y))
      by (Gives (c, Delays n l)) f e = at (nat_eq n m) refl
        where
          at : (b : Bool) → nat_eq n m ≡ b → act q (Gives (c, Delays n l)) (act p (Gives (config, Enters m)) u) ≡ act p (Gives (config, Enters m)) (act q (Gives (c, Delays n l)) u)
          at true x = subst (λ y. act q (Gives (c, Delays n l)) (act p (Gives (config, Enters y)) u) ≡ act p (Gives (config, Enters y)) (act q (Gives (c, Delays n l)) u)) (eqb-true n m x) (delayed n f config c l)
          at false x = other (Gives (c, Delays n l)) f (λ y. eqb-false n m x (sym y))
      by (Gives (c, Continues n r)) f e = at (nat_eq n m) refl
        where
          at : (b : Bool) → nat_eq n m ≡ b → act q (Gives (c, Continues n r)) (act p (Gives (config, Enters m)) u) ≡ act p (Gives (config, Enters m)) (act q (Gives (c, Continues n r)) u)
          at true x = subst (λ y. act q (Gives (c, Continues n r)) (act p (Gives (config, Enters y)) u) ≡ act p (Gives (config, Enters y)) (act q (Gives (c, Continues n r)) u)) (eqb-true n m x) (continued n (held_by r f) config c r f)
            where
              held_by : (r : Option ℕ) → Footed u.gates u.status q (Continues n r) → (u.gates n).holder ≡ HeldBy q
              held_by None f = f
              held_by (Some r) f = f.0
          at false x = other (Gives (c, Continues n r)) f (λ y. eqb-false n m x (sym y))

  -- The acts of an eager step of q and of any step of p change places.
  pub acts_commute : (o v : StepResult) → ResultFooted u.gates u.status p o → ResultFooted u.gates u.status q v → (IsLateResult v → ⊥)
      → act q v (act p o u) ≡ act p o (act q v u)
  acts_commute o v fp fq e = by o fp
    where
      holds_q : ResultTouches (λ n. (u.gates n).holder ≡ HeldBy q) v
      holds_q = eager_holds u.gates u.status q v fq e

      unset_apart : (m n : ℕ) → is_set (u.gates m).holder ≡ false → (u.gates n).holder ≡ HeldBy q → m ≢ n
      unset_apart m n s h x = true≢false (sym (ap (λ y. is_set (u.gates y).holder) x ∙ ap is_set h) ∙ s)

      held_by_p : (m : ℕ) → (u.gates m).holder ≡ HeldBy p → ResultTouches (λ n. m ≢ n) v
      held_by_p m h = touches_more (λ n. (u.gates n).holder ≡ HeldBy q) (λ n. m ≢ n) v (λ n x. held_apart u.gates u.status m n p q d h x) holds_q

      by : (o : StepResult) → ResultFooted u.gates u.status p o → act q v (act p o u) ≡ act p o (act q v u)
      by (Fault n) f = apart (Fault n) v f fq tt
      by (Gives (c, Own)) f = apart (Gives (c, Own)) v f fq tt
      by (Gives (c, Ends)) f = apart (Gives (c, Ends)) v f fq tt
      by (Gives (c, Waits)) f = apart (Gives (c, Waits)) v f fq tt
      by (Gives (c, Enters m)) f = at_gate c m v f fq e
      by (Gives (c, Leaves m)) f = apart (Gives (c, Leaves m)) v f fq (held_by_p m f)
      by (Gives (c, Delays m l)) f = apart (Gives (c, Delays m l)) v f fq (held_by_p m f)
      by (Gives (c, Continues m None)) f = apart (Gives (c, Continues m None)) v f fq (held_by_p m f)
      by (Gives (c, Continues m (Some r))) f = apart (Gives (c, Continues m (Some r))) v f fq (held_by_p m f.0)
      by (Gives (c, Opens m)) f = apart (Gives (c, Opens m)) v f fq
          (touches_more (λ n. (u.gates n).holder ≡ HeldBy q) (λ n. m ≢ n) v (λ n x. unset_apart m n f.1 x) holds_q)
      by (Gives (c, Starts r k)) f = apart (Gives (c, Starts r k)) v f fq tt
