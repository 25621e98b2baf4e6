-- What the states of processes that a machine reports are of their statuses.
use Rattle.std.proofs.Common.{◌≡◌, ◌≤◌, ◌<◌, ◌+◌, ℕ, zero, suc, Bool, List, [], ◌∷◌, true, false, refl, ap, sym, ◌∙◌, arith}
use Rattle.std.proofs.lemmas.Bool.Decides.{nat_tests}
use Rattle.std.specs.Prelude.{if◌then◌else◌, nat_lt}
use Rattle.cp_model_machine.specs.Addresses.{Ground}
use Rattle.cp_model_machine.specs.InState.{IsIn}
use Rattle.cp_model_machine.specs.KernelOf.{kernel_ground}
use Rattle.cp_model.specs.Configurations as status
use Rattle.cp_model.specs.Configurations.{Status}
use Rattle.cp_model.specs.States.{Setup, State, numbers_from, process_count, processes}
use Rattle.cp_rounds.specs.ProcessStates.{StatusMeans, state_at}
use Rattle.cp_rounds.specs.Views.{machine_of, processes_of}
use Rattle.cp_rounds.specs.declared.machine.Machine.{Machine}
use Rattle.cp_inspect.specs.declared.state.ProcState.{ProcState}
use Rattle.cp_inspect.specs.declared.state.ProcState.TheVariants as state
use Rattle.cp_rounds.proofs.InStates.{process_count_is}
use Rattle.cp_rounds.proofs.Shown.{state_shown}
use Rattle.cp_law_cores.specs.Verdicts.{all_pass, has_no_fault}
use Rattle.cp_law_servers.specs.Servers.{each_passes, is_done}
use Rattle.cp_outcome.specs.Verdicts.{ReportsAll, ReportsDone, done, sound}

-- ---- Two tests of a process and its status, and what they are of a state

-- The test `g` of the state of a process is the test `f` of its status.
abbrev pub IsTestOf : (ℕ → Status → Bool) → (ℕ → ProcState → Bool) → Type 0
IsTestOf f g = (p : ℕ) (G : Ground) (x : Status) (r : ProcState) → StatusMeans G x r → f p x ≡ g p r

fault_is_reported : IsTestOf (λ p. has_no_fault) (λ p. sound)
fault_is_reported p G status.Unstarted state.Unstarted h = refl
fault_is_reported p G status.Fresh state.Fresh h = refl
fault_is_reported p G status.Ready state.Ready h = refl
fault_is_reported p G status.Ended state.Ended h = refl
fault_is_reported p G status.Waiting state.Waiting h = refl
fault_is_reported p G (status.Asking m) (state.Asking k) h = refl
fault_is_reported p G (status.Delayed m q) (state.Delayed k n) h = refl
fault_is_reported p G (status.Faulted n) (state.Faulted f) h = refl
fault_is_reported p G _ _ h = absurd h

done_is_reported : (servers : List ℕ) → IsTestOf (is_done servers) (done servers)
done_is_reported servers p G status.Unstarted state.Unstarted h = refl
done_is_reported servers p G status.Fresh state.Fresh h = refl
done_is_reported servers p G status.Ready state.Ready h = refl
done_is_reported servers p G status.Ended state.Ended h = refl
done_is_reported servers p G status.Waiting state.Waiting h = refl
done_is_reported servers p G (status.Asking m) (state.Asking k) h = refl
done_is_reported servers p G (status.Delayed m q) (state.Delayed k n) h = refl
done_is_reported servers p G (status.Faulted n) (state.Faulted f) h = refl
done_is_reported servers p G _ _ h = absurd h

-- ---- All processes

module _ (f : ℕ → Status → Bool) where
  all_yes : (s : State) (p n : ℕ) → ((q : ℕ) → p ≤ q → q < p + n → f q (s.status q) ≡ true) → each_passes f s (numbers_from p n) ≡ true
  all_yes s p zero h = refl
  all_yes s p (suc n) h =
      ap (λ (b : Bool). if b then each_passes f s (numbers_from (suc p) n) else false) (h p (Prim.omega arith) (Prim.omega arith))
      ∙ all_yes s (suc p) n (λ q first last. h q (Prim.omega (arith, first)) (Prim.omega (arith, last)))

  one_no : (s : State) (p n i : ℕ) → i < n → f (p + i) (s.status (p + i)) ≡ false → each_passes f s (numbers_from p n) ≡ false
  one_no s p zero i below h = absurd (Prim.omega (arith, below))
  one_no s p (suc n) zero below h =
      let here : p + 0 ≡ p = Prim.omega arith in
      ap (λ (b : Bool). if b then each_passes f s (numbers_from (suc p) n) else false) (sym (ap (λ k. f k (s.status k)) here) ∙ h)
  one_no s p (suc n) (suc i) below h =
      let there : p + suc i ≡ suc p + i = Prim.omega arith in
      by (f p (s.status p)) (one_no s (suc p) n i (Prim.omega (arith, below)) (sym (ap (λ k. f k (s.status k)) there) ∙ h))
    where
      by : (b : Bool) → each_passes f s (numbers_from (suc p) n) ≡ false → (if b then each_passes f s (numbers_from (suc p) n) else false) ≡ false
      by true later = later
      by false later = refl

-- A test that doesn't ask for the number.
without_number : (f : Status → Bool) (s : State) (ps : List ℕ) → all_pass f s ps ≡ each_passes (λ p. f) s ps
without_number f s [] = refl
without_number f s (p ∷ ps) = ap (λ (b : Bool). if f (s.status p) then b else false) (without_number f s ps)

-- ---- A machine

-- In every state that the machine is in, the answer says whether all processes pass the test.
abbrev ReportsEach : (ℕ → Status → Bool) → Machine → Bool → Type 0
ReportsEach f m b = (setup : Setup) (s : State) → IsIn (machine_of m) setup s → each_passes f s (processes setup) ≡ b

-- The states of the first n processes of the machine pass a test.
abbrev pub PassBelow : (ℕ → ProcState → Bool) → Machine → ℕ → Type 0
PassBelow g m n = (i : ℕ) → i < n → g (i + 1) (state_at (machine_of m) (i + 1)) ≡ true

module _ (f : ℕ → Status → Bool) (g : ℕ → ProcState → Bool) (test : IsTestOf f g) (m : Machine) where
  passes : (setup : Setup) (s : State) → IsIn (machine_of m) setup s → (p : ℕ) → 1 ≤ p → p ≤ process_count setup
      → f p (s.status p) ≡ g p (state_at (machine_of m) p)
  passes setup s I p first last =
      test p (kernel_ground (machine_of m).program I.represents.texts setup) (s.status p) (state_at (machine_of m) p) ((state_shown m p).shows setup s I first last)

  all_do : (n : ℕ) → processes_of m ≤ n → PassBelow g m n → ReportsEach f m true
  all_do n most pass setup s I = all_yes f s 1 (process_count setup) each
    where
      each : (q : ℕ) → 1 ≤ q → q < 1 + process_count setup → f q (s.status q) ≡ true
      each zero first last = absurd (Prim.omega (arith, first))
      each (suc i) first last =
          let count = process_count_is m setup s I in
          let next : i + 1 ≡ suc i = Prim.omega arith in
          passes setup s I (suc i) first (Prim.omega (arith, last))
          ∙ (ap (λ p. g p (state_at (machine_of m) p)) (sym next) ∙ pass i (Prim.omega (arith, last, most, count)))

  one_does_not : (i : ℕ) → i < processes_of m → g (i + 1) (state_at (machine_of m) (i + 1)) ≡ false → ReportsEach f m false
  one_does_not i below h setup s I =
      let count = process_count_is m setup s I in
      let next : 1 + i ≡ i + 1 = Prim.omega arith in
      one_no f s 1 (process_count setup) i (Prim.omega (arith, below, count))
      (ap (λ k. f k (s.status k)) next ∙ (passes setup s I (i + 1) (Prim.omega arith) (Prim.omega (arith, below, count)) ∙ h))

-- The next process passes the test.
pub one_more : (g : ℕ → ProcState → Bool) (m : Machine) (i : ℕ) → g (i + 1) (state_at (machine_of m) (i + 1)) ≡ true → PassBelow g m i → PassBelow g m (i + 1)
one_more g m i here pass k below = by (nat_lt k i) refl
  where
    by : (b : Bool) → nat_lt k i ≡ b → g (k + 1) (state_at (machine_of m) (k + 1)) ≡ true
    by true e = pass k (Prim.grind (arith, nat_tests, e))
    by false e =
        let same : k ≡ i = Prim.grind (arith, nat_tests, e, below) in
        ap (λ j. g (j + 1) (state_at (machine_of m) (j + 1))) same ∙ here

-- ---- Faults

module _ (m : Machine) where
  pub all_sound : (n : ℕ) → processes_of m ≤ n → PassBelow (λ p. sound) m n → ReportsAll has_no_fault m true
  all_sound n most pass setup s I =
      without_number has_no_fault s (processes setup) ∙ all_do (λ p. has_no_fault) (λ p. sound) fault_is_reported m n most pass setup s I

  pub one_unsound : (i : ℕ) → i < processes_of m → sound (state_at (machine_of m) (i + 1)) ≡ false → ReportsAll has_no_fault m false
  one_unsound i below h setup s I =
      without_number has_no_fault s (processes setup) ∙ one_does_not (λ p. has_no_fault) (λ p. sound) fault_is_reported m i below h setup s I

-- ---- Ends

module _ (servers : List ℕ) (m : Machine) where
  pub each_done : (n : ℕ) → processes_of m ≤ n → PassBelow (done servers) m n → ReportsDone servers m true
  each_done n most pass = all_do (is_done servers) (done servers) (done_is_reported servers) m n most pass

  pub one_undone : (i : ℕ) → i < processes_of m → done servers (i + 1) (state_at (machine_of m) (i + 1)) ≡ false → ReportsDone servers m false
  one_undone i below h = one_does_not (is_done servers) (done servers) (done_is_reported servers) m i below h
