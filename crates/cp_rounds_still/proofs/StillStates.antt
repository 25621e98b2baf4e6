-- Still machines: the code's test of its processes is that of the states, and if a state isn't
-- still, no state before it was.
use Rattle.std.proofs.Common.{◌≡◌, ◌≢◌, ◌≤◌, ◌<◌, ◌+◌, ◌-◌, ℕ, zero, suc, Bool, true, false, refl, ap, sym, ◌∙◌, arith}
use Rattle.std.proofs.lemmas.Bool.{true≢false}
use Rattle.std.proofs.lemmas.Bool.Decides.{nat_tests}
use Rattle.std.specs.Prelude.{if◌then◌else◌, nat_lt}
use Rattle.cp_inspect.specs.declared.state.ProcState.{ProcState}
use Rattle.cp_inspect.specs.declared.state.ProcState.TheVariants as state
use Rattle.cp_law_stillness.specs.Laws.{StillAfterMoreRounds}
use Rattle.cp_law_stillness.specs.Stillness.{can_move, is_still, none_can_move}
use Rattle.cp_model.specs.Configurations as status
use Rattle.cp_model.specs.Configurations.{Status}
use Rattle.cp_model.specs.Rounds.{run}
use Rattle.cp_model.specs.States.{Setup, State, numbers_from, process_count}
use Rattle.cp_model_machine.specs.Addresses.{Ground}
use Rattle.cp_model_machine.specs.InState.{IsIn}
use Rattle.cp_model_machine.specs.KernelOf.{kernel_ground}
use Rattle.cp_model_machine.specs.RoundLaws.{RoundsAreRun}
use Rattle.cp_rounds.specs.ProcessStates.{StatusMeans, state_at}
use Rattle.cp_rounds.specs.Views.{IsAfter, machine_of, processes_of}
use Rattle.cp_rounds.specs.declared.machine.Machine.{Machine}
use Rattle.cp_rounds.proofs.After.{after_more}
use Rattle.cp_rounds.proofs.InStates.{makes_rounds, process_count_is}
use Rattle.cp_rounds.proofs.Shown.{state_shown}
use Rattle.cp_rounds_still.specs.Stillness.{Advances, NoneStillBefore, RestBelow, ReportsStill, moves}

-- ---- One process

status_moves : (G : Ground) (x : Status) (r : ProcState) → StatusMeans G x r → can_move x ≡ moves r
status_moves G status.Unstarted state.Unstarted h = refl
status_moves G status.Fresh state.Fresh h = refl
status_moves G status.Ready state.Ready h = refl
status_moves G status.Ended state.Ended h = refl
status_moves G status.Waiting state.Waiting h = refl
status_moves G (status.Asking m) (state.Asking k) h = refl
status_moves G (status.Delayed m q) (state.Delayed k n) h = refl
status_moves G (status.Faulted n) (state.Faulted f) h = refl
status_moves G _ _ h = absurd h

-- ---- All processes

all_rest : (s : State) (p n : ℕ) → ((q : ℕ) → p ≤ q → q < p + n → can_move (s.status q) ≡ false) → none_can_move s (numbers_from p n) ≡ true
all_rest s p zero h = refl
all_rest s p (suc n) h =
    ap (λ (b : Bool). if b then false else none_can_move s (numbers_from (suc p) n)) (h p (Prim.omega arith) (Prim.omega arith))
    ∙ all_rest s (suc p) n (λ q first last. h q (Prim.omega (arith, first)) (Prim.omega (arith, last)))

one_moves : (s : State) (p n q : ℕ) → p ≤ q → q < p + n → can_move (s.status q) ≡ true → none_can_move s (numbers_from p n) ≡ false
one_moves s p zero q first last h = absurd (Prim.omega (arith, first, last))
one_moves s p (suc n) q first last h = by (can_move (s.status p)) refl (λ later. one_moves s (suc p) n q later (Prim.omega (arith, last)) h)
  where
    by : (b : Bool) → can_move (s.status p) ≡ b → (suc p ≤ q → none_can_move s (numbers_from (suc p) n) ≡ false)
        → (if b then false else none_can_move s (numbers_from (suc p) n)) ≡ false
    by true e after = refl
    by false e after =
        let other : p ≢ q = λ same. true≢false (sym h ∙ (ap (λ k. can_move (s.status k)) (sym same) ∙ e)) in
        after (Prim.omega (arith, first, other))

module _ (m : Machine) where
  moves_as : (setup : Setup) (s : State) → IsIn (machine_of m) setup s → (p : ℕ) → 1 ≤ p → p ≤ process_count setup
      → can_move (s.status p) ≡ moves (state_at (machine_of m) p)
  moves_as setup s I p first last =
      status_moves (kernel_ground (machine_of m).program I.represents.texts setup) (s.status p) (state_at (machine_of m) p)
      ((state_shown m p).shows setup s I first last)

  pub report_still : (n : ℕ) → processes_of m ≤ n → RestBelow m n → ReportsStill m true
  report_still n most rest setup s I = all_rest s 1 (process_count setup) each
    where
      each : (q : ℕ) → 1 ≤ q → q < 1 + process_count setup → can_move (s.status q) ≡ false
      each zero first last = absurd (Prim.omega (arith, first))
      each (suc i) first last =
          let count = process_count_is m setup s I in
          let next : i + 1 ≡ suc i = Prim.omega arith in
          moves_as setup s I (suc i) first (Prim.omega (arith, last))
          ∙ (ap (λ p. moves (state_at (machine_of m) p)) (sym next) ∙ rest i (Prim.omega (arith, last, most, count)))

  pub report_moving : (i : ℕ) → i < processes_of m → moves (state_at (machine_of m) (i + 1)) ≡ true → ReportsStill m false
  report_moving i below h setup s I =
      let count = process_count_is m setup s I in
      one_moves s 1 (process_count setup) (i + 1) (Prim.omega arith) (Prim.omega (arith, below, count))
      (moves_as setup s I (i + 1) (Prim.omega arith) (Prim.omega (arith, below, count)) ∙ h)

  -- The next process can't move.
  pub rest_more : (i : ℕ) → moves (state_at (machine_of m) (i + 1)) ≡ false → RestBelow m i → RestBelow m (i + 1)
  rest_more i here rest k below = by (nat_lt k i) refl
    where
      by : (b : Bool) → nat_lt k i ≡ b → moves (state_at (machine_of m) (k + 1)) ≡ false
      by true e = rest k (Prim.grind (arith, nat_tests, e))
      by false e =
          let same : k ≡ i = Prim.grind (arith, nat_tests, e, below) in
          ap (λ j. moves (state_at (machine_of m) (j + 1))) same ∙ here

-- ---- Rounds

-- A run that isn't still after n rounds wasn't before.
not_before : StillAfterMoreRounds → (setup : Setup) (t k n : ℕ) (s : State) → k ≤ n → is_still setup (run setup t n s) ≡ false
    → is_still setup (run setup t k s) ≡ false
not_before more setup t k n s below last = by (is_still setup (run setup t k s)) refl
  where
    by : (b : Bool) → is_still setup (run setup t k s) ≡ b → b ≡ false
    by false e = refl
    by true e =
        let all : k + (n - k) ≡ n = Prim.omega (arith, below) in
        absurd (true≢false (sym (more setup t k (n - k) s e) ∙ (ap (λ j. is_still setup (run setup t j s)) all ∙ last)))

none_before : RoundsAreRun → StillAfterMoreRounds → (t d n : ℕ) (old new : Machine) → IsAfter t d old new → ReportsStill new false → n ≤ suc d
    → NoneStillBefore t n old
none_before law more t d n old new after still most setup s I k below =
    not_before more setup t k d s (Prim.omega (arith, most, below)) (still setup (run setup t d s) (makes_rounds t d old new law after.made setup s I))

pub none_at_first : (t : ℕ) (m : Machine) → NoneStillBefore t 0 m
none_at_first t m setup s I k below = absurd (Prim.omega (arith, below))

-- The machine isn't still after d rounds and then advances by n.
pub none_in_advance : RoundsAreRun → StillAfterMoreRounds → (t d n : ℕ) (old mid new : Machine) → 0 < n → IsAfter t d old mid → ReportsStill mid false
    → Advances t n true mid new → NoneStillBefore t (d + n) old
none_in_advance law more t d zero old mid new some after still made = absurd (Prim.omega (arith, some))
none_in_advance law more t d (suc zero) old mid new some after still made = none_before law more t d (d + 1) old mid after still (Prim.omega arith)
none_in_advance law more t d (suc (suc n)) old mid new some after still made =
    none_before law more t (d + suc (suc n)) (d + suc (suc n)) old new (after_more t d (suc (suc n)) old mid new after made.0)
    (made.1 (Prim.omega arith)) (Prim.omega arith)
