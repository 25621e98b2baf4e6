-- After waking and all private turns of a round, the private state of each process is still that of
-- the process, and the kernel that of the state.
use Rattle.std.proofs.Common.{◌≡◌, ℕ, zero, suc, Bool, true, false, List, [], ◌∷◌, refl, ap, sym, subst, ◌∙◌}
use Rattle.std.specs.Prelude.{if◌then◌else◌, nat_eq, ◌%◌}
use Rattle.cp_model.specs.Invariant.{Invariant}
use Rattle.cp_model.specs.Locations.{ByName, Location, OfMonitor, under}
use Rattle.cp_model.specs.Operators.{realtime}
use Rattle.cp_model.specs.Parts.{SameKernelPart, SamePrivateState}
use Rattle.cp_model.specs.Rounds.{wake_status, own_parts, wake}
use Rattle.cp_model.specs.States.{Setup, State, is_in, processes, running_clock}
use Rattle.cp_model.specs.Turns as meaning
use Rattle.cp_model.proofs.PrivateStepsKept.{own_part_is_turned, own_parts_kernel_part}
use Rattle.cp_model_program.specs.Programs.{Program}
use Rattle.cp_model_program.specs.IsProgramFor.{IsProgramFor}
use Rattle.cp_model_machine.specs.PrivateStates.{PrivateState}
use Rattle.cp_model_machine.specs.Steps.{private_steps}
use Rattle.cp_model_machine.specs.KernelOf.{KernelOf}
use Rattle.cp_model_machine.specs.KernelSteps.{Kernel}
use Rattle.cp_model_machine.specs.Laws.{WakingIsWaking, ground_of}
use Rattle.cp_model_machine.specs.Machines.{wake_one}
use Rattle.cp_model_machine.specs.PartOf.{PartOf}
use Rattle.cp_model_machine.proofs.KernelBeside.{kernel_beside}
use Rattle.cp_model_machine.proofs.OthersParts.{given_beside}
use Rattle.cp_model_machine.proofs.PartsBeside.{part_beside}
use Rattle.cp_model_machine.proofs.PrivateTurns.{private_turn_is_turn}
use Rattle.cp_model_machine.proofs.RoundEnds.{part_wakes}
use Rattle.cp_model.proofs.PartsKept.{private_step_kernel_part}
use Rattle.cp_model.proofs.StateInvariant.{private_step_keeps}
use Rattle.cp_model_machine.proofs.Given.{rights_kept}
use Rattle.cp_model_machine.specs.Addresses.{Ground}

module _ (program : Program) (setup : Setup) (F : IsProgramFor program setup) (p own : ℕ) (s : State) (before : List ℕ) (o : PrivateState) (P : PartOf (ground_of program setup F p own) s before o) where
  -- If the round's number is a multiple of the tick, processes that wait wake.
  pub part_woken : PartOf (ground_of program setup F p own) (wake setup s) before (if nat_eq (suc s.rounds % setup.tick) 0 then wake_one o else o)
  part_woken = by (nat_eq (suc s.rounds % setup.tick) 0)
    where
      by : (b : Bool) → PartOf (ground_of program setup F p own) (if b then record s { status = λ q. wake_status (s.status q) } else s) before (if b then wake_one o else o)
      by true = part_wakes (ground_of program setup F p own) s before o P
      by false = P

pub waking_is_waking : WakingIsWaking
waking_is_waking program setup F p own s before o due P =
    let wakes : nat_eq (suc s.rounds % setup.tick) 0 ≡ true = ap (λ n. nat_eq n 0) due in
    subst (λ (b : Bool). PartOf (ground_of program setup F p own) (wake setup s) before (if b then wake_one o else o)) wakes
    (part_woken program setup F p own s before o P)

-- A private turn touches no monitor.
monitor_same : (setup : Setup) (n : ℕ) (s : State) (p : ℕ) → Invariant s → (l : Location) (m : ℕ) → l.owner ≡ OfMonitor m → (meaning.private_turn setup n s p).store l ≡ s.store l
monitor_same setup zero s p I l m owner = refl
monitor_same setup (suc n) s p I l m owner =
    monitor_same setup n (meaning.private_step setup s p) p (private_step_keeps setup s p I) l m owner ∙ (private_step_kernel_part setup p s I).monitor_store l m owner

module _ (program : Program) (setup : Setup) (F : IsProgramFor program setup) (n : ℕ) (s : State) (I : Invariant s) where
  -- The private state of each process after all private turns together.
  pub part_turned : (p own : ℕ) (before : List ℕ) (o : PrivateState) → is_in p (processes setup) ≡ true → PartOf (ground_of program setup F p own) s before o
      → PartOf (ground_of program setup F p own) (own_parts setup n s) before (private_steps program (realtime (running_clock setup s)) n o)
  part_turned p own before o there P =
      part_beside G alone together before turned refl S
      (λ begun. given_beside G alone.store together.store (S.store begun)
      (λ at y m k owner sort is. rights_kept G alone.store together.store at y (λ i x v r none. K.monitor_store (under at (ByName x ∷ [])) m owner ∙ sym (monitor_same setup n s p I (under at (ByName x ∷ [])) m owner))))
      (private_turn_is_turn program setup F p own n s before o I P)
    where
      G : Ground
      G = ground_of program setup F p own

      alone : State
      alone = meaning.private_turn setup n s p

      together : State
      together = own_parts setup n s

      turned : PrivateState
      turned = private_steps program (realtime (running_clock setup s)) n o

      S : SamePrivateState p alone together
      S = own_part_is_turned setup n s p there

      K : SameKernelPart s together
      K = own_parts_kernel_part setup n s

  pub kernel_turned : (k : Kernel) → KernelOf program F.texts setup s k → KernelOf program F.texts setup (own_parts setup n s) k
  kernel_turned k = kernel_beside program F.texts setup s (own_parts setup n s) k (own_parts_kernel_part setup n s)
