-- What a private step leaves unchanged: the private states of other processes, and the kernel's
-- part.
use Rattle.std.specs.Prelude.{Bool, List, false, if◌then◌else◌, nat_eq, refl, suc, true, zero, ℕ, ◌%◌, ◌≡◌}
use Rattle.std.proofs.Common.{ap, arith, subst, sym, ◌∙◌}
use Rattle.std.proofs.lemmas.Bool.{eqb-true}
use Rattle.cp_model.specs.Abstract.{Process}
use Rattle.cp_model.specs.Locations.{Location, OfActivation, OfMonitor, OfProcess, Owner}
use Rattle.cp_model.specs.Outcomes.{Fault, Gives}
use Rattle.cp_model.specs.Continuations.{Task}
use Rattle.cp_model.specs.Configurations.{Asking, Continues, Delayed, Delays, Ended, Ends, Enters, Faulted, Fresh, Leaves, Opens, Own, Ready, Starts, Status, StepResult, Unstarted, Waiting, Waits}
use Rattle.cp_model.specs.Step.{step_of}
use Rattle.cp_model.specs.States.{Setup, State, configuration, context, count_components, initial_variables, is_in, processes}
use Rattle.cp_model.specs.Turns.{Kernel, Kind, NoStep, Private, if_private, kind, kind_of, private_step, private_turn, step}
use Rattle.cp_model.specs.Rounds.{after_own_turn, wake_status, own_parts, owner_process, wake}
use Rattle.cp_model.specs.Parts.{HasBegun, HasNotBegun, SameKernelPart, SamePrivateState, is_own, kernel_status, private_status}
use Rattle.cp_model.proofs.StateMaps.{with_at_here}
use Rattle.cp_model.proofs.OwnSteps.{NotPrivate, install_stepped, kind_private, no_private_step, quiet_here, result_status}
use Rattle.cp_model.proofs.LawfulRounds.{below_are_out}

pub private_state_refl : (p : ℕ) (s : State) → SamePrivateState p s s
private_state_refl p s = record {
  status = refl;
  transcript = refl;
  consumed = refl;
  store = λ a l h. refl;
  continuation = λ a. refl;
}

pub private_state_trans : (p : ℕ) (s u v : State) → SamePrivateState p s u → SamePrivateState p u v → SamePrivateState p s v
private_state_trans p s u v a b = record {
  status = b.status ∙ a.status;
  transcript = b.transcript ∙ a.transcript;
  consumed = b.consumed ∙ a.consumed;
  store = λ o l h. b.store (subst HasBegun (sym a.status) o) l h ∙ a.store o l h;
  continuation = λ o. b.continuation (subst HasBegun (sym a.status) o) ∙ a.continuation o;
}

owner_of : (p : ℕ) (o : Owner) → is_own p o ≡ true → owner_process o ≡ p
owner_of p (OfProcess q) h = sym (eqb-true p q h)
owner_of p (OfActivation q d) h = sym (eqb-true p q h)
owner_of p (OfMonitor m) h = absurd (Prim.grind arith)

module _ (setup : Setup) where
  -- ---- A private part in place

  pub own_part_is_turned : (t : ℕ) (s : State) (p : ℕ) → is_in p (processes setup) ≡ true
      → SamePrivateState p (private_turn setup t s p) (own_parts setup t s)
  own_part_is_turned t s p h = record {
    status = ap private_status (part (λ x. x.status p));
    transcript = part (λ x. x.transcript p);
    consumed = part (λ x. x.consumed p);
    store = λ a l m. ap (λ k. after_own_turn setup t s (λ x. x.store l) k) (owner_of p l.owner m) ∙ part (λ x. x.store l);
    continuation = λ a. part (λ x. x.continuation p);
  }
    where
      part : {A : Type 0} (f : State → A) → after_own_turn setup t s f p ≡ f (private_turn setup t s p)
      part f = ap (λ b. if b then f (private_turn setup t s p) else f s) h

  -- ---- Private turns and the kernel's part

  private_turn_rests : (t : ℕ) (s : State) (p : ℕ) (k : Kind) → kind s p ≡ k → NotPrivate setup k → private_turn setup t s p
      ≡ s
  private_turn_rests zero s p k h o = refl
  private_turn_rests (suc t) s p k h o = ap (λ x. private_turn setup t x p) (no_private_step setup p s k h o) ∙ private_turn_rests t s p k h o

  pub kernel_status_by : (o : StepResult) → kernel_status (result_status o) ≡ Ready
  kernel_status_by (Fault n) = refl
  kernel_status_by (Gives (r, Own)) = refl
  kernel_status_by (Gives (r, Ends)) = refl
  kernel_status_by (Gives (r, Waits)) = refl
  kernel_status_by (Gives (r, Enters m)) = refl
  kernel_status_by (Gives (r, Leaves m)) = refl
  kernel_status_by (Gives (r, Delays m q)) = refl
  kernel_status_by (Gives (r, Continues m x)) = refl
  kernel_status_by (Gives (r, Opens m)) = refl
  kernel_status_by (Gives (r, Starts x k)) = refl

  private_step_kernel_status : (s : State) (p : ℕ) → kernel_status ((private_step setup s p).status p)
      ≡ kernel_status (s.status p)
  private_step_kernel_status s p = go (kind s p) refl
    where
      go : (k : Kind) → kind s p ≡ k → kernel_status ((if_private k (step setup s p) s).status p)
          ≡ kernel_status (s.status p)
      go NoStep h = refl
      go Kernel h = refl
      go Private h =
          let r = (kind_private (s.status p) (s.continuation p) h).0 in
          ap (λ (x : State). kernel_status (x.status p)) (install_stepped s p (step_of (context setup s p) (configuration s p)) r (quiet_here setup p s h))
          ∙ ap kernel_status (with_at_here p (result_status (step_of (context setup s p) (configuration s p))) s.status)
          ∙ kernel_status_by (step_of (context setup s p) (configuration s p)) ∙ sym (ap kernel_status r)

  private_turn_kernel_status : (t : ℕ) (s : State) (p : ℕ) → kernel_status ((private_turn setup t s p).status p)
      ≡ kernel_status (s.status p)
  private_turn_kernel_status zero s p = refl
  private_turn_kernel_status (suc t) s p = private_turn_kernel_status t (private_step setup s p) p
      ∙ private_step_kernel_status s p

  not_begun_rests : (x : Status) (k : List Task) → HasNotBegun x → kind_of x k ≡ NoStep
  not_begun_rests Unstarted k h = refl
  not_begun_rests Fresh k h = refl
  not_begun_rests Ready k h = absurd h
  not_begun_rests Ended k h = absurd h
  not_begun_rests Waiting k h = absurd h
  not_begun_rests (Asking m) k h = absurd h
  not_begun_rests (Delayed m q) k h = absurd h
  not_begun_rests (Faulted n) k h = absurd h

  pub own_parts_kernel_part : (t : ℕ) (s : State) → SameKernelPart s (own_parts setup t s)
  own_parts_kernel_part t s = record {
    gates = refl;
    status = λ p. kernel_status_part p (is_in p (processes setup));
    monitor_store = λ l m e. ap (λ k. after_own_turn setup t s (λ x. x.store l) k) (ap owner_process e) ∙ outside l (below_are_out 0 1 n (Prim.omega arith));
    unbegun_store = λ p a l h. ap (λ k. after_own_turn setup t s (λ x. x.store l) k) (owner_of p l.owner h) ∙ rests p a (λ x. x.store l) (is_in p (processes setup));
    unbegun_continuation = λ p a. rests p a (λ x. x.continuation p) (is_in p (processes setup));
  }
    where
      n : ℕ
      n = suc (count_components Process (initial_variables setup))

      outside : (l : Location) → is_in 0 (processes setup) ≡ false → after_own_turn setup t s (λ x. x.store l) 0 ≡ s.store l
      outside l h = ap (λ b. if b then (private_turn setup t s 0).store l else s.store l) h

      kernel_status_part : (p : ℕ) (b : Bool) → kernel_status
          (if b then (private_turn setup t s p).status p else s.status p) ≡ kernel_status (s.status p)
      kernel_status_part p true = private_turn_kernel_status t s p
      kernel_status_part p false = refl

      rests : {A : Type 0} (p : ℕ) → HasNotBegun (s.status p) → (f : State → A) (b : Bool)
          → (if b then f (private_turn setup t s p) else f s) ≡ f s
      rests p a f true = ap f (private_turn_rests t s p NoStep (not_begun_rests (s.status p) (s.continuation p) a) tt)
      rests p a f false = refl

  pub wake_kernel_part : (s : State) → SameKernelPart s (wake setup s)
  wake_kernel_part s = go (nat_eq (suc s.rounds % setup.tick) 0)
    where
      at : (x : Status) → kernel_status (wake_status x) ≡ kernel_status x
      at Unstarted = refl
      at Fresh = refl
      at Ready = refl
      at Ended = refl
      at Waiting = refl
      at (Asking m) = refl
      at (Delayed m q) = refl
      at (Faulted n) = refl

      go : (b : Bool) → SameKernelPart s (if b then record s { status = λ p. wake_status (s.status p) } else s)
      go true = record { gates = refl; status = λ p. at (s.status p); monitor_store = λ l m e. refl; unbegun_store = λ p a l h. refl; unbegun_continuation = λ p a. refl }
      go false = record { gates = refl; status = λ p. refl; monitor_store = λ l m e. refl; unbegun_store = λ p a l h. refl; unbegun_continuation = λ p a. refl }
