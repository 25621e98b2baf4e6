-- The kernel is still that of the state after private steps and waking, and after the end of a
-- round.
use Rattle.std.proofs.Common.{◌≡◌, ℕ, zero, suc, true, List, [], ◌∷◌, map, refl, ap, sym, subst, ◌∙◌, arith}
use Rattle.std.proofs.lemmas.Bool.{true≢false}
use Rattle.std.proofs.lemmas.List.{length-map}
use Rattle.cp_model.specs.Configurations as status
use Rattle.cp_model.specs.Configurations.{Status}
use Rattle.cp_model.specs.Invariant.{Invariant}
use Rattle.cp_model.specs.Locations.{Location, OfActivation, OfMonitor, OfProcess, Owner}
use Rattle.cp_model.specs.Parts.{SameKernelPart, kernel_status}
use Rattle.cp_model.specs.Rounds.{after_closing, close_round, wake}
use Rattle.cp_model.specs.States.{Gate, Setup, State, process_count}
use Rattle.cp_model.specs.Turns.{private_step}
use Rattle.cp_model.proofs.PartsKept.{private_step_kernel_part}
use Rattle.cp_model.proofs.PrivateStepsKept.{wake_kernel_part}
use Rattle.cp_model_program.specs.Programs.{Program}
use Rattle.cp_model_program.specs.Sites.{UnitText}
use Rattle.cp_model_machine.specs.Addresses.{Ground}
use Rattle.cp_model_machine.specs.KernelOf.{AreProcesses, KernelOf, StageMeans, is_shared, kernel_ground}
use Rattle.cp_model_machine.specs.KernelSteps.{Asking, Begun, Delayed, Fresh, Kernel, SchedulingState, Unstarted, stage_of}
use Rattle.cp_model_machine.specs.Machines.{next_stage}
use Rattle.cp_model_machine.proofs.PartsBeside.{data_beside}

-- ---- the kernel's part is the same

-- A stage contains only what the kernel knows of a status.
stage_known : (G : Ground) (x : Status) (g : SchedulingState) → StageMeans G x g → StageMeans G (kernel_status x) g
stage_known G status.Unstarted g h = h
stage_known G status.Fresh g h = h
stage_known G status.Ready g h = h
stage_known G status.Ended Begun h = tt
stage_known G status.Waiting Begun h = tt
stage_known G (status.Asking m) g h = h
stage_known G (status.Delayed m q) g h = h
stage_known G (status.Faulted n) Begun h = tt
stage_known G _ _ h = absurd h

known_stage : (G : Ground) (x : Status) (g : SchedulingState) → StageMeans G (kernel_status x) g → StageMeans G x g
known_stage G status.Unstarted g h = h
known_stage G status.Fresh g h = h
known_stage G status.Ready g h = h
known_stage G status.Ended Begun h = tt
known_stage G status.Waiting Begun h = tt
known_stage G (status.Asking m) g h = h
known_stage G (status.Delayed m q) g h = h
known_stage G (status.Faulted n) Begun h = tt
known_stage G _ _ h = absurd h

module _ (program : Program) (texts : List UnitText) (setup : Setup) where
  abbrev G : Ground
  G = kernel_ground program texts setup

  pub kernel_beside : (s u : State) (k : Kernel) → SameKernelPart s u → KernelOf program texts setup s k → KernelOf program texts setup u k
  kernel_beside s u k S K = record {
    word_count = K.word_count;
    gates_represent = record {
      gate_count = K.gates_represent.gate_count;
      stage_count = K.gates_represent.stage_count;
      gates = λ m. K.gates_represent.gates m ∙ ap (λ (f : ℕ → Gate). f m) (sym S.gates);
      stages = λ p low high.
          let g = stage_of k.stages p in
          known_stage G (u.status p) g (subst (λ x. StageMeans G x g) (sym (S.status p)) (stage_known G (s.status p) g (K.gates_represent.stages p low high)));
      askers = λ m. subst (λ (f : ℕ → Gate). AreProcesses (process_count setup) (f m).askers) (sym S.gates) (K.gates_represent.askers m);
    };
    data_means = data_beside G is_shared s.store u.store (λ l mine. by l.owner refl mine) [] k.shared K.data_means;
  }
    where
      by : {l : Location} (o : Owner) → l.owner ≡ o → is_shared o ≡ true → u.store l ≡ s.store l
      by {l} (OfMonitor m) e mine = S.monitor_store l m e
      by {l} (OfProcess r) e mine = absurd (true≢false (sym mine))
      by {l} (OfActivation r d) e mine = absurd (true≢false (sym mine))

  pub private_step_kernel : (s : State) (p : ℕ) (k : Kernel) → Invariant s → KernelOf program texts setup s k → KernelOf program texts setup (private_step setup s p) k
  private_step_kernel s p k I = kernel_beside s (private_step setup s p) k (private_step_kernel_part setup p s I)

  pub wake_kernel : (s : State) (k : Kernel) → KernelOf program texts setup s k → KernelOf program texts setup (wake setup s) k
  wake_kernel s k = kernel_beside s (wake setup s) k (wake_kernel_part setup s)

  -- ---- the end of a round

  stage_closes : (x : Status) (g : SchedulingState) → StageMeans G x g → StageMeans G (after_closing x) (next_stage g)
  stage_closes status.Unstarted Unstarted h = tt
  stage_closes status.Fresh Fresh h = tt
  stage_closes (status.Asking m) (Asking n) h = h
  stage_closes (status.Delayed m q) (Delayed n at) h = h
  stage_closes status.Ready Begun h = tt
  stage_closes status.Ended Begun h = tt
  stage_closes status.Waiting Begun h = tt
  stage_closes (status.Faulted n) Begun h = tt
  stage_closes _ _ h = absurd h

  stage_next : (gs : List SchedulingState) (p : ℕ) → stage_of (map next_stage gs) p ≡ next_stage (stage_of gs p)
  stage_next gs zero = refl
  stage_next [] (suc p) = refl
  stage_next (g ∷ gs) (suc zero) = refl
  stage_next (g ∷ gs) (suc (suc p)) = stage_next gs (suc p)

  -- At the end of a round, fresh processes begin.
  pub kernel_ends_round : (s : State) (k : Kernel) → KernelOf program texts setup s k → KernelOf program texts setup (close_round s) (record k { stages = map next_stage k.stages })
  kernel_ends_round s k K = record {
    word_count = K.word_count;
    gates_represent = record {
      gate_count = K.gates_represent.gate_count;
      stage_count = length-map k.stages next_stage ∙ K.gates_represent.stage_count;
      gates = K.gates_represent.gates;
      stages = λ p low high.
          subst (StageMeans G (after_closing (s.status p))) (sym (stage_next k.stages p))
          (stage_closes (s.status p) (stage_of k.stages p) (K.gates_represent.stages p low (omega (arith, high, length-map k.stages next_stage))));
      askers = K.gates_represent.askers;
    };
    data_means = K.data_means;
  }
