-- The phased round leaves what the round of one processor leaves.
use Rattle.std.specs.Prelude.{Bool, List, [], false, if◌then◌else◌, nat_eq, refl, suc, true, zero, ℕ, ◌||◌, ◌∷◌, ◌≡◌, ◌≢◌, ◌≤◌}
use Rattle.std.proofs.Common.{ap, arith, subst, sym, ◌∙◌}
use Rattle.std.proofs.lemmas.Bool.{eqb-false, eqb-true, ne_eqb}
use Rattle.cp_model.specs.Abstract.{Process}
use Rattle.cp_model.specs.Locations.{Location, OfActivation, OfMonitor, OfProcess, Owner}
use Rattle.cp_model.specs.Stores.{Store}
use Rattle.cp_model.specs.Configurations.{Configuration}
use Rattle.cp_model.specs.States.{Setup, State, count_components, initial_variables, is_in, numbers_from, processes, with_at}
use Rattle.cp_model.specs.Turns.{Kernel, Kind, NoStep, Private, kernel_turn, kind, private_step, private_turn}
use Rattle.cp_model.specs.Rounds.{after_own_turn, all_turns, close_round, kernel_turns, own_parts, owner_process, phased_round, sequential_round, wake}
use Rattle.cp_model.specs.Invariant.{Invariant}
use Rattle.cp_model.specs.Parts.{is_own}
use Rattle.cp_model.proofs.Orders.{AreDistinct}
use Rattle.cp_model.proofs.StateMaps.{state_is, with_at_here, with_at_same}
use Rattle.cp_model.proofs.MixedStores.{mix}
use Rattle.cp_model.proofs.ReturnReach.{with_mixed_store}
use Rattle.cp_model.proofs.OwnSteps.{IsSameFor, install, no_private_step, own_configuration, private_step_is, same_for_self, same_kind, status_after}
use Rattle.cp_model.proofs.OutsideReach.{may_commute}
use Rattle.cp_model.proofs.StateInvariant.{kernel_turn_keeps, private_step_keeps, private_turn_keeps}
use Rattle.cp_model.proofs.LawfulRounds.{numbers_are_distinct, turn_past}

module _ (setup : Setup) where
  -- s' with p's part as it is in a.
  merge : ℕ → State → State → State
  merge p a s = record s {
    store = mix (is_own p) a.store s.store;
    continuation = with_at p (a.continuation p) s.continuation;
    transcript = with_at p (a.transcript p) s.transcript;
    consumed = with_at p (a.consumed p) s.consumed;
    status = with_at p (a.status p) s.status;
  }

  merge_self : (p : ℕ) (s s' : State) → IsSameFor setup p s s' → merge p s s' ≡ s'
  unfolding merge
  merge_self p s s' e =
      state_is _ _ (sym e.store) (with_at_same p (s.continuation p) s'.continuation e.continuation)
      (with_at_same p (s.transcript p) s'.transcript e.transcript)
      (with_at_same p (s.consumed p) s'.consumed e.consumed)
      (with_at_same p (s.status p) s'.status e.status) refl refl

  with_at_twice : {A : Type 0} (p : ℕ) (v u : A) (f : ℕ → A) → with_at p v (with_at p u f) ≡ with_at p v f
  with_at_twice p v u f = λ i k. go k (nat_eq p k) i
    where
      go : (k : ℕ) (b : Bool) → (if b then v else (if b then u else f k)) ≡ (if b then v else f k)
      go k true = refl
      go k false = refl

  mix_twice : (t : Owner → Bool) (a b c : Store) → mix t a (mix t b c) ≡ mix t a c
  mix_twice t a b c = λ i l. go l (t l.owner) i
    where
      go : (l : Location) (x : Bool) → (if x then a l else (if x then b l else c l)) ≡ (if x then a l else c l)
      go l true = refl
      go l false = refl

  merge_twice : (p : ℕ) (a b s : State) → merge p a (merge p b s) ≡ merge p a s
  unfolding merge
  merge_twice p a b s =
      state_is _ _ (mix_twice (is_own p) a.store b.store s.store)
      (with_at_twice p (a.continuation p) (b.continuation p) s.continuation)
      (with_at_twice p (a.transcript p) (b.transcript p) s.transcript)
      (with_at_twice p (a.consumed p) (b.consumed p) s.consumed) (with_at_twice p (a.status p) (b.status p) s.status) refl
      refl

  -- A private step is the same wherever p's part is the same, and changes only that part.
  step_merges : (p : ℕ) (s s' : State) → Invariant s → IsSameFor setup p s s' → private_step setup s' p
      ≡ merge p (private_step setup s p) s'
  unfolding merge
  step_merges p s s' i e = go (kind s p) refl
    where
      x : Configuration
      x = own_configuration setup s p

      go : (k : Kind) → kind s p ≡ k → private_step setup s' p ≡ merge p (private_step setup s p) s'
      go NoStep h = no_private_step setup p s' NoStep (same_kind setup p s s' e ∙ h) tt ∙ sym (merge_self p s s' e)
          ∙ ap (λ a. merge p a s') (sym (no_private_step setup p s NoStep h tt))
      go Kernel h = no_private_step setup p s' Kernel (same_kind setup p s s' e ∙ h) tt ∙ sym (merge_self p s s' e)
          ∙ ap (λ a. merge p a s') (sym (no_private_step setup p s Kernel h tt))
      go Private h =
          private_step_is setup p s s' (may_commute s i) h e
          ∙ installed
          ∙ ap (λ a. merge p a s') (sym (private_step_is setup p s s (may_commute s i) h (same_for_self setup p s)))
        where
          installed : install p (with_mixed_store (is_own p) s'.store (own_configuration setup s p))
              (status_after setup s p) s' ≡ merge p (install p
              (with_mixed_store (is_own p) s.store (own_configuration setup s p)) (status_after setup s p) s) s'
          installed =
              state_is _ _ (λ i l. at l (is_own p l.owner) i) (ap (λ v. with_at p v s'.continuation) (sym (with_at_here p _ s.continuation))) (ap (λ v. with_at p v s'.transcript) (sym (with_at_here p _ s.transcript)))
              (ap (λ v. with_at p v s'.consumed) (sym (with_at_here p _ s.consumed))) (ap (λ v. with_at p v s'.status) (sym (with_at_here p _ s.status))) refl refl
            where
              at : (l : Location) (b : Bool) → (if b then (own_configuration setup s p).store l else s'.store l)
                  ≡ (if b then (if b then (own_configuration setup s p).store l else s.store l) else s'.store l)
              at l true = refl
              at l false = refl

  merge_is_same_for : (p : ℕ) (a s : State) → a.rounds ≡ s.rounds → IsSameFor setup p a (merge p a s)
  unfolding merge
  merge_is_same_for p a s r = record {
    store = sym (mix_again (is_own p) a.store s.store);
    continuation = with_at_here p (a.continuation p) s.continuation;
    transcript = with_at_here p (a.transcript p) s.transcript;
    consumed = with_at_here p (a.consumed p) s.consumed;
    status = with_at_here p (a.status p) s.status;
    rounds = sym r;
  }
    where
      mix_again : (t : Owner → Bool) (a b : Store) → mix t a (mix t a b) ≡ mix t a b
      mix_again t a b = mix_twice t a a b

  private_step_count : (p : ℕ) (s : State) → Invariant s → (private_step setup s p).rounds ≡ s.rounds
  private_step_count p s i = go (kind s p) refl
    where
      go : (k : Kind) → kind s p ≡ k → (private_step setup s p).rounds ≡ s.rounds
      go NoStep h = ap (λ a. a.rounds) (no_private_step setup p s NoStep h tt)
      go Kernel h = ap (λ a. a.rounds) (no_private_step setup p s Kernel h tt)
      go Private h = ap (λ a. a.rounds) (private_step_is setup p s s (may_commute s i) h (same_for_self setup p s))

  turn_merges : (n : ℕ) (p : ℕ) (s s' : State) → Invariant s → IsSameFor setup p s s' → private_turn setup n s' p
      ≡ merge p (private_turn setup n s p) s'
  unfolding merge
  turn_merges zero p s s' i e = sym (merge_self p s s' e)
  turn_merges (suc n) p s s' i e =
      ap (λ x. private_turn setup n x p) (step_merges p s s' i e)
      ∙ turn_merges n p (private_step setup s p) (merge p (private_step setup s p) s') (private_step_keeps setup s p i)
      (merge_is_same_for p (private_step setup s p) s' (private_step_count p s i ∙ sym e.rounds))
      ∙ merge_twice p (private_turn setup n (private_step setup s p) p) (private_step setup s p) s'

  -- All private turns, one after another.
  all_private : ℕ → State → List ℕ → State
  all_private t s [] = s
  all_private t s (p ∷ ps) = all_private t (private_turn setup t s p) ps

  turn_past_turn : (n t : ℕ) (s : State) (p q : ℕ) → p ≢ q → Invariant s → kernel_turn setup t (private_turn setup n s p) q
      ≡ private_turn setup n (kernel_turn setup t s q) p
  turn_past_turn zero t s p q d i = refl
  turn_past_turn (suc n) t s p q d i =
      turn_past_turn n t (private_step setup s p) p q d (private_step_keeps setup s p i)
      ∙ ap (λ x. private_turn setup n x p) (turn_past setup t s p q d i)

  not_in : (p q : ℕ) (ps : List ℕ) → is_in p (q ∷ ps) ≡ false → (q ≢ p) × (is_in p ps ≡ false)
  not_in p q ps h = go (nat_eq p q) refl h
    where
      go : (b : Bool) → nat_eq p q ≡ b → (if b then true else is_in p ps) ≡ false → (q ≢ p) × (is_in p ps ≡ false)
      go true e h = absurd (Prim.grind arith)
      go false e h = ((λ f. eqb-false p q e (sym f)), h)

  turn_past_all : (t : ℕ) (ps : List ℕ) (s : State) (p : ℕ) → is_in p ps ≡ false → Invariant s
      → kernel_turn setup t (all_private t s ps) p ≡ all_private t (kernel_turn setup t s p) ps
  unfolding all_private
  turn_past_all t [] s p h i = refl
  turn_past_all t (q ∷ qs) s p h i =
      let n = not_in p q qs h in
      turn_past_all t qs (private_turn setup t s q) p n.1 (private_turn_keeps setup t s q i)
      ∙ ap (λ x. all_private t x qs) (turn_past_turn t t s q p n.0 i)

  first_private_is_all : (t : ℕ) (ps : List ℕ) (s : State) → AreDistinct ps → Invariant s
      → kernel_turns setup t (all_private t s ps) ps ≡ all_turns setup t s ps
  unfolding all_private
  first_private_is_all t [] s d i = refl
  first_private_is_all t (p ∷ ps) s d i =
      ap (λ x. kernel_turns setup t x ps) (turn_past_all t ps (private_turn setup t s p) p d.0 (private_turn_keeps setup t s p i))
      ∙ first_private_is_all t ps (kernel_turn setup t (private_turn setup t s p) p) d.1
      (kernel_turn_keeps setup t (private_turn setup t s p) p (private_turn_keeps setup t s p i))

  -- ---- The parts that were replaced

  turned_parts : ℕ → List ℕ → State → State
  turned_parts t done s = record s {
    store = λ l. if is_in (owner_process l.owner) done then (private_turn setup t s (owner_process l.owner)).store l else s.store l;
    continuation = λ p. if is_in p done then (private_turn setup t s p).continuation p else s.continuation p;
    transcript = λ p. if is_in p done then (private_turn setup t s p).transcript p else s.transcript p;
    consumed = λ p. if is_in p done then (private_turn setup t s p).consumed p else s.consumed p;
    status = λ p. if is_in p done then (private_turn setup t s p).status p else s.status p;
  }

  turned_eq : (p r : ℕ) → nat_eq p r ≡ nat_eq r p
  turned_eq p r = both (nat_eq p r) (nat_eq r p) refl refl
    where
      both : (x y : Bool) → nat_eq p r ≡ x → nat_eq r p ≡ y → x ≡ y
      both true true e f = refl
      both true false e f = absurd (eqb-false r p f (sym (eqb-true p r e)))
      both false true e f = absurd (eqb-false p r e (sym (eqb-true r p f)))
      both false false e f = refl

  is_own-owner_process : (p : ℕ) (o : Owner) → nat_eq 0 p ≡ false → is_own p o ≡ nat_eq (owner_process o) p
  is_own-owner_process p (OfProcess r) h = turned_eq p r
  is_own-owner_process p (OfActivation r d) h = turned_eq p r
  is_own-owner_process p (OfMonitor k) h = sym h

  with_at_part : {A : Type 0} (p : ℕ) (done : List ℕ) (new old : ℕ → A)
      → with_at p (new p) (λ k. if is_in k done then new k else old k) ≡ (λ k. if is_in k (p ∷ done) then new k else old k)
  with_at_part p done new old = λ i k. line k i
    where
      go : (k : ℕ) (b : Bool) → nat_eq k p ≡ b → (if b then new p else (if is_in k done then new k else old k))
          ≡ (if (if b then true else is_in k done) then new k else old k)
      go k true e = ap new (sym (eqb-true k p e))
      go k false e = refl

      line : (k : ℕ) → (if nat_eq p k then new p else (if is_in k done then new k else old k))
          ≡ (if (if nat_eq k p then true else is_in k done) then new k else old k)
      line k = ap (λ b. if b then new p else (if is_in k done then new k else old k)) (turned_eq p k) ∙ go k (nat_eq k p) refl

  one_more : (t : ℕ) (done : List ℕ) (s : State) (p : ℕ) → nat_eq 0 p ≡ false
      → merge p (private_turn setup t s p) (turned_parts t done s) ≡ turned_parts t (p ∷ done) s
  unfolding merge turned_parts
  one_more t done s p z =
      state_is _ _ (λ i l. line l i)
      (with_at_part p done (λ k. (private_turn setup t s k).continuation k) s.continuation) (with_at_part p done (λ k. (private_turn setup t s k).transcript k) s.transcript)
      (with_at_part p done (λ k. (private_turn setup t s k).consumed k) s.consumed) (with_at_part p done (λ k. (private_turn setup t s k).status k) s.status) refl refl
    where
      at : (l : Location) (b : Bool) → nat_eq (owner_process l.owner) p ≡ b
          → (if b then (private_turn setup t s p).store l else
          (if is_in (owner_process l.owner) done then (private_turn setup t s (owner_process l.owner)).store l else
          s.store l))
          ≡ (if (if b then true else is_in (owner_process l.owner) done) then
          (private_turn setup t s (owner_process l.owner)).store l else s.store l)
      at l true e = ap (λ k. (private_turn setup t s k).store l) (sym (eqb-true (owner_process l.owner) p e))
      at l false e = refl

      line : (l : Location) → (if is_own p l.owner then (private_turn setup t s p).store l else
          (if is_in (owner_process l.owner) done then (private_turn setup t s (owner_process l.owner)).store l else s.store
          l))
          ≡ (if (if nat_eq (owner_process l.owner) p then true else is_in (owner_process l.owner) done) then
          (private_turn setup t s (owner_process l.owner)).store l else s.store l)
      line l = ap (λ b. if b then (private_turn setup t s p).store l else (if is_in (owner_process l.owner) done then (private_turn setup t s (owner_process l.owner)).store l else s.store l)) (is_own-owner_process p l.owner z) ∙ at l (nat_eq (owner_process l.owner) p) refl

  not_yet : (t : ℕ) (done : List ℕ) (s : State) (p : ℕ) → nat_eq 0 p ≡ false → is_in p done ≡ false
      → IsSameFor setup p s (turned_parts t done s)
  unfolding turned_parts
  not_yet t done s p z h = record {
    store = λ i l. line l i;
    continuation = rw h refl;
    transcript = rw h refl;
    consumed = rw h refl;
    status = rw h refl;
    rounds = refl;
  }
    where
      at : (l : Location) (b : Bool) → nat_eq (owner_process l.owner) p ≡ b
          → (if is_in (owner_process l.owner) done then (private_turn setup t s (owner_process l.owner)).store l else
          s.store l)
          ≡ (if b then s.store l else (if is_in (owner_process l.owner) done then
          (private_turn setup t s (owner_process l.owner)).store l else s.store l))
      at l true e = rw (eqb-true (owner_process l.owner) p e, h) refl
      at l false e = refl

      line : (l : Location) → (if is_in (owner_process l.owner) done then
          (private_turn setup t s (owner_process l.owner)).store l else s.store l)
          ≡ (if is_own p l.owner then s.store l else (if is_in (owner_process l.owner) done then
          (private_turn setup t s (owner_process l.owner)).store l else s.store l))
      line l = at l (nat_eq (owner_process l.owner) p) refl
          ∙ ap (λ b. if b then s.store l else (if is_in (owner_process l.owner) done then (private_turn setup t s (owner_process l.owner)).store l else s.store l)) (sym (is_own-owner_process p l.owner z))

  -- The processes of the list, before those that are done.
  put_before : List ℕ → List ℕ → List ℕ
  put_before [] done = done
  put_before (p ∷ ps) done = put_before ps (p ∷ done)

  AreFresh : List ℕ → List ℕ → Type 0
  AreFresh [] done = Unit {0}
  AreFresh (p ∷ ps) done = (nat_eq 0 p ≡ false) × (is_in p done ≡ false) × AreFresh ps (p ∷ done)

  all_private_is_turned_parts : (t : ℕ) (ps done : List ℕ) (s : State) → AreFresh ps done → Invariant s
      → all_private t (turned_parts t done s) ps ≡ turned_parts t (put_before ps done) s
  unfolding all_private put_before AreFresh
  all_private_is_turned_parts t [] done s f i = refl
  all_private_is_turned_parts t (p ∷ ps) done s f i =
      ap (λ x. all_private t x ps) (turn_merges t p s (turned_parts t done s) i (not_yet t done s p f.0 f.1) ∙ one_more t done s p f.0) ∙ all_private_is_turned_parts t ps (p ∷ done) s f.2 i

  in_either : (k : ℕ) (ps done : List ℕ) → is_in k (put_before ps done) ≡ (is_in k ps || is_in k done)
  unfolding put_before
  in_either k [] done = refl
  in_either k (p ∷ ps) done = in_either k ps (p ∷ done) ∙ go (nat_eq k p) (is_in k ps)
    where
      go : (a b : Bool) → (b || (if a then true else is_in k done)) ≡ ((if a then true else b) || is_in k done)
      go true true = refl
      go true false = refl
      go false true = refl
      go false false = refl

  or-false : (b : Bool) → (b || false) ≡ b
  or-false true = refl
  or-false false = refl

  turned_parts_is_own_parts : (t : ℕ) (s : State) → turned_parts t (put_before (processes setup) []) s ≡ own_parts setup t s
  unfolding turned_parts
  turned_parts_is_own_parts t s = state_is _ _ (λ i l. part (owner_process l.owner) (λ x. x.store l) i) (λ i p. part p (λ x. x.continuation p) i) (λ i p. part p (λ x. x.transcript p) i) (λ i p. part p (λ x. x.consumed p) i) (λ i p. part p (λ x. x.status p) i) refl refl
    where
      part : {A : Type 0} (p : ℕ) (f : State → A) → (if is_in p (put_before (processes setup) []) then f
          (private_turn setup t s p) else f s) ≡ after_own_turn setup t s f p
      part p f = ap (λ b. if b then f (private_turn setup t s p) else f s) (in_either p (processes setup) [] ∙ or-false (is_in p (processes setup)))

  numbers_are_fresh : (p n : ℕ) (done : List ℕ) → 1 ≤ p → ((k : ℕ) → p ≤ k → is_in k done ≡ false)
      → AreFresh (numbers_from p n) done
  unfolding AreFresh
  numbers_are_fresh p zero done h f = tt
  numbers_are_fresh p (suc n) done h f = (
    ne_eqb 0 p (Prim.omega arith),
    f p (Prim.omega arith),
    numbers_are_fresh (suc p) n (p ∷ done) (Prim.omega arith)
        (λ k g. rw (ne_eqb k p (Prim.omega arith)) (f k (Prim.omega arith))),
  )

  turned_parts_of_none : (t : ℕ) (s : State) → turned_parts t [] s ≡ s
  unfolding turned_parts
  turned_parts_of_none t s = refl

  -- The phased round leaves what one processor's round leaves.
  pub phased_round_is_sequential : (t : ℕ) (s : State) → Invariant (wake setup s) → phased_round setup t s
      ≡ sequential_round setup t s
  phased_round_is_sequential t s i =
      let n : ℕ = suc (count_components Process (initial_variables setup)) in
      let u : State = wake setup s in
      ap (λ x. close_round (kernel_turns setup t x (processes setup)))
      (sym (turned_parts_is_own_parts t u)
      ∙ sym (all_private_is_turned_parts t (processes setup) [] u
      (numbers_are_fresh 1 n [] (Prim.omega arith) (λ k g. refl)) i)
      ∙ ap (λ x. all_private t x (processes setup)) (turned_parts_of_none t u))
      ∙ ap close_round (first_private_is_all t (processes setup) u (numbers_are_distinct 1 n) i)

  -- ---- What the phased round's first half keeps

  all_private_keeps : (t : ℕ) (ps : List ℕ) (s : State) → Invariant s → Invariant (all_private t s ps)
  unfolding all_private
  all_private_keeps t [] s i = i
  all_private_keeps t (p ∷ ps) s i = all_private_keeps t ps (private_turn setup t s p) (private_turn_keeps setup t s p i)

  pub own_parts_keep : (t : ℕ) (s : State) → Invariant s → Invariant (own_parts setup t s)
  own_parts_keep t u i =
      let n : ℕ = suc (count_components Process (initial_variables setup)) in
      subst Invariant
      (ap (λ x. all_private t x (processes setup)) (sym (turned_parts_of_none t u))
      ∙ all_private_is_turned_parts t (processes setup) [] u (numbers_are_fresh 1 n [] (Prim.omega arith) (λ k g. refl)) i
      ∙ turned_parts_is_own_parts t u)
      (all_private_keeps t (processes setup) u i)
