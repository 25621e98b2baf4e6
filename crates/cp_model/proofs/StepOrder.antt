-- A private step of p and a kernel step of q commute.
use Rattle.std.specs.Prelude.{Bool, false, if◌then◌else◌, nat_eq, not, refl, true, ℕ, ◌≡◌, ◌≢◌}
use Rattle.std.proofs.Common.{ap, arith, subst, sym, ◌∙◌}
use Rattle.std.proofs.lemmas.Bool.{eqb-true, ne_eqb}
use Rattle.cp_model.specs.Locations.{Location, OfActivation, OfProcess}
use Rattle.cp_model.specs.Stores.{Store}
use Rattle.cp_model.specs.Outcomes.{Fault, Gives}
use Rattle.cp_model.specs.Configurations.{Configuration, Faulted, Ready, Status, StepResult}
use Rattle.cp_model.specs.Step.{step_of}
use Rattle.cp_model.specs.States.{Setup, State, configuration, context, is_set, is_started, with_at, with_configuration}
use Rattle.cp_model.specs.Gates.{apply_effect}
use Rattle.cp_model.specs.Turns.{Kernel, Kind, NoStep, Private, after_step, if_kernel, kernel_step, kind, private_step, step}
use Rattle.cp_model.specs.Parts.{is_own}
use Rattle.cp_model.proofs.StateMaps.{is_foreign, state_is, with_at_swap, with_at_there}
use Rattle.cp_model.proofs.MixedStores.{IsClosed, mix, mix_same}
use Rattle.cp_model.proofs.ActionReach.{ContinuationIn}
use Rattle.cp_model.proofs.ReturnReach.{result_mixed, with_mixed_store}
use Rattle.cp_model.proofs.StepReach.{step_same}
use Rattle.cp_model.proofs.OwnSteps.{IsSameFor, MayCommute, NotPrivate, install, kind_private, no_private_step, outcome, own_configuration, private_same_for, private_step_is, result, same_for_self, same_kind, status_after}
use Rattle.cp_model.proofs.EffectsBeside.{IsOwnStatus, effect_alone, effect_beside, result_status_own, status_alone}
use Rattle.cp_model.proofs.NotPrivate.{after_step_other}

module _ (setup : Setup) where
  -- What makes q's outcome the same after p's private step.
  configuration_beside : (p q : ℕ) (s : State) (r : Configuration) → p ≢ q
      → configuration (install p (with_mixed_store (is_own p) s.store r) Ready s) q
      ≡ with_mixed_store (is_foreign p) (mix (is_own p) r.store s.store) (configuration s q)
  configuration_beside p q s r d = λ i. record {
    store = λ l. at l (is_own p l.owner) i;
    continuation = with_at_there p q r.continuation s.continuation n i;
    transcript = with_at_there p q r.transcript s.transcript n i;
    consumed = with_at_there p q r.consumed s.consumed n i;
  }
    where
      n : nat_eq p q ≡ false
      n = ne_eqb p q d

      at : (l : Location) (b : Bool) → (if b then r.store l else s.store l)
          ≡ (if not b then s.store l else (if b then r.store l else s.store l))
      at l true = refl
      at l false = refl

  abbrev is_started_in : (ℕ → Status) → ℕ → Bool
  is_started_in f k = is_started (f k)

  is_started_same : (p : ℕ) (s : State) (x : Status) → s.status p ≡ Ready → is_started x ≡ true
      → is_started_in (with_at p x s.status) ≡ is_started_in s.status
  is_started_same p s x h e = λ i k. at k (nat_eq p k) refl i
    where
      at : (k : ℕ) (b : Bool) → nat_eq p k ≡ b → is_started (if b then x else s.status k) ≡ is_started (s.status k)
      at k true f = e ∙ sym (rw (← eqb-true p k f, h) refl)
      at k false f = refl

  pub foreign_activation : (p q : ℕ) (d : ℕ) → p ≢ q → is_foreign p (OfActivation q d) ≡ true
  foreign_activation p q d n = rw (ne_eqb p q n) refl

  foreign_process : (p : ℕ) (s : State) → s.status p ≡ Ready → (r : ℕ) → is_started (s.status r) ≡ false
      → is_foreign p (OfProcess r) ≡ true
  foreign_process p s h r e = go (nat_eq p r) refl
    where
      go : (b : Bool) → nat_eq p r ≡ b → not b ≡ true
      go true f = absurd (clash (sym e ∙ (rw (← eqb-true p r f, h) refl)))
        where
          clash : false ≡ true → ⊥
          clash g = Prim.grind arith
      go false f = refl

  -- q's outcome in s, and in a state in which p has made its private step.
  kernel_outcome : (p q : ℕ) (s : State) (r : Configuration) (x : Status) → p ≢ q → MayCommute s → kind s q ≡ Kernel
      → s.status p ≡ Ready → is_started x ≡ true
      → outcome setup (install p (with_mixed_store (is_own p) s.store r) x s) q
      ≡ result_mixed (is_foreign p) (mix (is_own p) r.store s.store) (outcome setup s q)
  kernel_outcome p q s r x d g k h e =
      let o : IsClosed (is_foreign p) s.store × ContinuationIn (is_foreign p) (s.continuation q) = g.others p q d k in
      ap (λ v. step_of (context setup (install p (with_mixed_store (is_own p) s.store r) x s) q) v) (configuration_beside p q s r d)
      ∙ step_same (is_foreign p) (mix (is_own p) r.store s.store) (context setup s q)
      (λ k. is_started (with_at p x s.status k)) (λ m. is_set (s.gates m).holder) (configuration s q) o.0 (λ n. foreign_activation p q n d) o.1
      (λ a. record { monitors = λ m. refl; processes = foreign_process p s h; same_started = is_started_same p s x h e; same_set = refl })

  -- A kernel step of q leaves what p owns as it was.
  pub kernel_writes : (p q : ℕ) (s : State) → p ≢ q → MayCommute s → kind s q ≡ Kernel → s.status p ≡ Ready
      → outcome setup s q ≡ result_mixed (is_foreign p) s.store (outcome setup s q)
  kernel_writes p q s d g k h =
      let o : IsClosed (is_foreign p) s.store × ContinuationIn (is_foreign p) (s.continuation q) = g.others p q d k in
      ap (λ st. step_of (context setup s q) (record { store = st; continuation = s.continuation q; transcript = s.transcript q; consumed = s.consumed q })) (sym (mix_same (is_foreign p) s.store))
      ∙ step_same (is_foreign p) s.store (context setup s q) (is_started_in s.status)
      (λ m. is_set (s.gates m).holder) (configuration s q) o.0 (λ n. foreign_activation p q n d) o.1
      (λ a. record { monitors = λ m. refl; processes = foreign_process p s h; same_started = refl; same_set = refl })

  -- If the outcome of the kernel step is known, the two steps commute.
  kernel_past : (p q : ℕ) (s : State) (r : Configuration) (x : Status) (o : StepResult) → p ≢ q → s.status p ≡ Ready
      → IsOwnStatus x
      → after_step (install p (with_mixed_store (is_own p) s.store r) x s) q
      (result_mixed (is_foreign p) (mix (is_own p) r.store s.store) o)
      ≡ install p (with_mixed_store (is_own p) (after_step s q o).store r) x (after_step s q o)
  kernel_past p q s r x (Fault n) d h own = state_is _ _ refl refl refl refl
      (with_at_swap q p (Faulted n) x s.status (λ e. d (sym e))) refl refl
  kernel_past p q s r x (Gives (u, e)) d h own =
      ap (apply_effect q e) back_beside
      ∙ effect_beside p (with_mixed_store (is_own p) u.store r) x own q e (with_configuration s q u) d h
      ∙ ap (λ st. install p (with_mixed_store (is_own p) st r) x (apply_effect q e (with_configuration s q u))) (sym (effect_alone p q e (with_configuration s q u) d h).store)
    where
      at : (l : Location) (b : Bool) → (if not b then u.store l else (if b then r.store l else s.store l))
          ≡ (if b then r.store l else u.store l)
      at l true = refl
      at l false = refl

      back_beside : with_configuration (install p (with_mixed_store (is_own p) s.store r) x s) q
          (with_mixed_store (is_foreign p) (mix (is_own p) r.store s.store) u)
          ≡ install p (with_mixed_store (is_own p) u.store r) x (with_configuration s q u)
      back_beside =
          state_is _ _ (λ i l. at l (is_own p l.owner) i) (with_at_swap q p u.continuation r.continuation s.continuation (λ e. d (sym e))) (with_at_swap q p u.transcript r.transcript s.transcript (λ e. d (sym e)))
          (with_at_swap q p u.consumed r.consumed s.consumed (λ e. d (sym e))) refl refl refl

  pub kernel_same_for : (p q : ℕ) (s : State) (o : StepResult) → p ≢ q → s.status p ≡ Ready
      → o ≡ result_mixed (is_foreign p) s.store o → IsSameFor setup p s (after_step s q o)
  kernel_same_for p q s (Fault n) d h e =
      let a = status_alone p q (Faulted n) s d in
      record {
        store = sym (mix_same (is_own p) s.store);
        continuation = refl;
        transcript = refl;
        consumed = refl;
        status = a.status;
        rounds = refl;
      }
  kernel_same_for p q s (Gives (u, f)) d h e =
      let a = effect_alone p q f (with_configuration s q u) d h in
      let n = ne_eqb q p (λ g. d (sym g)) in
      let w : u.store ≡ mix (is_foreign p) u.store s.store = ap (λ x. (result (configuration s q) x).store) e in
      record {
        store = a.store ∙ (λ i l. at (w i) l w (is_own p l.owner) refl i) ∙ ap (λ st. mix (is_own p) s.store st) (sym a.store);
        continuation = a.continuation ∙ with_at_there q p u.continuation s.continuation n;
        transcript = ap (λ g. g p) a.transcript ∙ with_at_there q p u.transcript s.transcript n;
        consumed = ap (λ g. g p) a.consumed ∙ with_at_there q p u.consumed s.consumed n;
        status = a.status;
        rounds = a.rounds;
      }
    where
      at : Store → (l : Location) → u.store ≡ mix (is_foreign p) u.store s.store → (b : Bool) → is_own p l.owner ≡ b
          → u.store l ≡ (if b then s.store l else u.store l)
      at x l w true g = ap (λ st. st l) w ∙ (rw g refl)
      at x l w false g = refl

  abbrev NotKernel : Kind → Type 0
  NotKernel Kernel = ⊥
  NotKernel _ = Unit {0}

  no_kernel_step : (q : ℕ) (s : State) (k : Kind) → kind s q ≡ k → NotKernel k → kernel_step setup s q ≡ s
  no_kernel_step q s Kernel h o = absurd o
  no_kernel_step q s NoStep h o = ap (λ x. if_kernel x (step setup s q) s) h
  no_kernel_step q s Private h o = ap (λ x. if_kernel x (step setup s q) s) h

  pub private_past_kernel : (s : State) (p q : ℕ) → p ≢ q → MayCommute s → kernel_step setup (private_step setup s p) q
      ≡ private_step setup (kernel_step setup s q) p
  private_past_kernel s p q d g = go (kind s p) (kind s q) refl refl
    where
      e : q ≢ p
      e h = d (sym h)

      other_context : (k : Kind) → kind s q ≡ k → kind (private_step setup s p) q ≡ k
      other_context k h = same_kind setup q s (private_step setup s p) (private_same_for setup p q s d g) ∙ h

      not_kernel : (k : Kind) → kind s q ≡ k → NotKernel k → kernel_step setup (private_step setup s p) q
          ≡ private_step setup (kernel_step setup s q) p
      not_kernel k h o = no_kernel_step q (private_step setup s p) k (other_context k h) o
          ∙ ap (λ x. private_step setup x p) (sym (no_kernel_step q s k h o))

      in_kernel : (t : State) → kind t q ≡ Kernel → kernel_step setup t q ≡ step setup t q
      in_kernel t h = ap (λ x. if_kernel x (step setup t q) t) h

      other : (k : Kind) → kind s p ≡ k → NotPrivate setup k → kind s q ≡ Kernel
          → kernel_step setup (private_step setup s p) q ≡ private_step setup (kernel_step setup s q) p
      other k h o f =
          ap (λ x. kernel_step setup x q) (no_private_step setup p s k h o)
          ∙ sym (ap (λ x. private_step setup x p) (in_kernel s f) ∙ no_private_step setup p (step setup s q) (kind (step setup s q) p) refl
          (after_step_other setup p q s (outcome setup s q) d (subst (λ x. NotPrivate setup x) (sym h) o) (g.blocked p)) ∙ sym (in_kernel s f))

      both : kind s p ≡ Private → kind s q ≡ Kernel → kernel_step setup (private_step setup s p) q
          ≡ private_step setup (kernel_step setup s q) p
      both h f =
          let c = kind_private (s.status p) (s.continuation p) h in
          let own : IsOwnStatus (status_after setup s p) = result_status_own (outcome setup s p) in
          in_kernel (private_step setup s p) (other_context Kernel f)
          ∙ ap (λ x. step setup x q) (private_step_is setup p s s g h (same_for_self setup p s))
          ∙ ap (λ o. after_step (install p (with_mixed_store (is_own p) s.store (own_configuration setup s p)) (status_after setup s p) s) q o) (kernel_outcome p q s (own_configuration setup s p) (status_after setup s p) d g f c.0 own.1)
          ∙ kernel_past p q s (own_configuration setup s p) (status_after setup s p) (outcome setup s q) d c.0 own
          ∙ sym (ap (λ x. private_step setup x p) (in_kernel s f) ∙ private_step_is setup p s (step setup s q) g h (kernel_same_for p q s (outcome setup s q) d c.0 (kernel_writes p q s d g f c.0)))

      go : (k m : Kind) → kind s p ≡ k → kind s q ≡ m → kernel_step setup (private_step setup s p) q
          ≡ private_step setup (kernel_step setup s q) p
      go k NoStep h f = not_kernel NoStep f tt
      go k Private h f = not_kernel Private f tt
      go NoStep Kernel h f = other NoStep h tt f
      go Kernel Kernel h f = other Kernel h tt f
      go Private Kernel h f = both h f
