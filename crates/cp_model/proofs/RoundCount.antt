-- Nothing within a round changes the count of rounds.
use Rattle.std.specs.Prelude.{Bool, List, None, Some, [], false, if◌then◌else◌, nat_eq, refl, suc, true, zero, ℕ, ◌%◌, ◌∷◌, ◌≡◌}
use Rattle.std.proofs.Common.{◌∙◌}
use Rattle.cp_model.specs.Outcomes.{Fault, Gives}
use Rattle.cp_model.specs.Continuations.{Task}
use Rattle.cp_model.specs.Configurations.{Asking, Continues, Delayed, Delays, Effect, Ended, Ends, Enters, Faulted, Fresh, Leaves, Opens, Own, Ready, Starts, Status, StepResult, Unstarted, Waiting, Waits}
use Rattle.cp_model.specs.Step.{step_of}
use Rattle.cp_model.specs.States.{Free, HeldBy, Holder, Setup, State, Unset, configuration, context, set_status, with_configuration}
use Rattle.cp_model.specs.Gates.{apply_effect, enter, pass_to, start_process}
use Rattle.cp_model.specs.Turns.{Kernel, Kind, NoStep, Private, after_step, if_kernel, if_private, kernel_step, kernel_turn, kind, private_step, private_turn, step}
use Rattle.cp_model.specs.Rounds.{wake_status, wake}

module _ (setup : Setup) where
  pass_count : (m : ℕ) (qs : List ℕ) (v : State) → (pass_to m qs v).rounds ≡ v.rounds
  pass_count m [] v = refl
  pass_count m (r ∷ qs) v = refl

  enter_count : (q m : ℕ) (x : Holder) (v : State) → (enter q m x v).rounds ≡ v.rounds
  enter_count q m Unset v = refl
  enter_count q m Free v = refl
  enter_count q m (HeldBy c) v = refl

  start_process_count : (r : ℕ) (k : List Task) (x : Status) (v : State) → (start_process r k x v).rounds ≡ v.rounds
  start_process_count r k Unstarted v = refl
  start_process_count r k Fresh v = refl
  start_process_count r k Ready v = refl
  start_process_count r k Ended v = refl
  start_process_count r k Waiting v = refl
  start_process_count r k (Asking m) v = refl
  start_process_count r k (Delayed m q) v = refl
  start_process_count r k (Faulted n) v = refl

  effect_count : (q : ℕ) (e : Effect) (v : State) → (apply_effect q e v).rounds ≡ v.rounds
  effect_count q Own v = refl
  effect_count q Ends v = refl
  effect_count q Waits v = refl
  effect_count q (Enters m) v = enter_count q m (v.gates m).holder v
  effect_count q (Leaves m) v = pass_count m (v.gates m).askers v
  effect_count q (Delays m l) v = pass_count m (v.gates m).askers (set_status q (Delayed m l) v)
  effect_count q (Continues m None) v = pass_count m (v.gates m).askers v
  effect_count q (Continues m (Some r)) v = refl
  effect_count q (Opens m) v = refl
  effect_count q (Starts r k) v = start_process_count r k (v.status r) v

  pub step_count : (s : State) (q : ℕ) → (step setup s q).rounds ≡ s.rounds
  step_count s q = go (step_of (context setup s q) (configuration s q))
    where
      go : (o : StepResult) → (after_step s q o).rounds ≡ s.rounds
      go (Fault n) = refl
      go (Gives (u, e)) = effect_count q e (with_configuration s q u)

  pub kernel_turn_count : (t : ℕ) (s : State) (q : ℕ) → (kernel_turn setup t s q).rounds ≡ s.rounds
  kernel_turn_count zero s q = refl
  kernel_turn_count (suc t) s q = kernel_turn_count t (kernel_step setup s q) q ∙ go (kind s q)
    where
      go : (k : Kind) → (if_kernel k (step setup s q) s).rounds ≡ s.rounds
      go NoStep = refl
      go Private = refl
      go Kernel = step_count s q

  pub wake_count : (s : State) → (wake setup s).rounds ≡ s.rounds
  wake_count s = go (nat_eq (suc s.rounds % setup.tick) 0)
    where
      go : (b : Bool) → (if b then record s { status = λ p. wake_status (s.status p) } else s).rounds ≡ s.rounds
      go true = refl
      go false = refl

  pub private_turn_count : (t : ℕ) (s : State) (p : ℕ) → (private_turn setup t s p).rounds ≡ s.rounds
  private_turn_count zero s p = refl
  private_turn_count (suc t) s p = private_turn_count t (private_step setup s p) p ∙ go (kind s p)
    where
      go : (k : Kind) → (if_private k (step setup s p) s).rounds ≡ s.rounds
      go NoStep = refl
      go Kernel = refl
      go Private = step_count s p
