-- A round of a still state is its waking and its closing, and both change only the count.
--
-- After the waking the state is still, so no turn changes it, in whatever order turns come.
use Rattle.std.specs.Prelude.{Bool, List, [], false, fold, if◌then◌else◌, length, nat_eq, refl, suc, true, zero, ℕ, ◌%◌, ◌+◌, ◌∷◌, ◌≡◌}
use Rattle.std.proofs.Common.{ap, arith, subst, sym, ◌∙◌}
use Rattle.cp_model.specs.States.{Setup, State, is_in, processes}
use Rattle.cp_model.specs.Turns.{kernel_turn, private_turn}
use Rattle.cp_model.specs.Rounds.{Event, KernelTurn, PrivateStep, after_own_turn, all_turns, close_round, kernel_turns, own_parts, owner_process, replay_event, replay_round, run, sequential_round, wake, wake_status}
use Rattle.cp_model.specs.Orders.{replay}
use Rattle.cp_model.proofs.StateMaps.{state_is}
use Rattle.cp_model.proofs.Lists.{in_head, in_more}
use Rattle.cp_law_stillness.specs.Laws.{StaysStill, StillAfterMoreRounds, StillEventsChangeNothing, StillPhasedRoundChangesNothing, StillReplayChangesNothing, StillRoundChangesNothing, StillRunChangesNothing}
use Rattle.cp_law_stillness.specs.Stillness.{AreOfProcesses, OnlyCountGrows, can_move, is_still, none_can_move}
use Rattle.cp_law_stillness.proofs.Resting.{is_idle, never_begins, never_wakes, rests}

-- ---- Lists of processes

same_moves : (s u : State) (ps : List ℕ) → ((p : ℕ) → is_in p ps ≡ true → u.status p ≡ s.status p) → none_can_move u ps ≡ none_can_move s ps
same_moves s u [] same = refl
same_moves s u (p ∷ ps) same =
    let rest = same_moves s u ps (λ q h. same q (in_more q p ps h)) in
    λ i. if can_move (same p (in_head p ps) i) then false else rest i

pub stays_still : StaysStill
stays_still setup n s u g = same_moves s u (processes setup) g.status

-- ---- Growing counts

pub grows_none : (setup : Setup) (s : State) → OnlyCountGrows setup 0 s s
grows_none setup s = record {
  store = refl;
  continuation = refl;
  transcript = refl;
  consumed = refl;
  status = λ p h. refl;
  gates = refl;
  rounds = Prim.omega arith;
}

pub grows_more : (setup : Setup) (m n : ℕ) (s u v : State) → OnlyCountGrows setup m s u → OnlyCountGrows setup n u v → OnlyCountGrows setup (m + n) s v
grows_more setup m n s u v before after = record {
  store = after.store ∙ before.store;
  continuation = after.continuation ∙ before.continuation;
  transcript = after.transcript ∙ before.transcript;
  consumed = after.consumed ∙ before.consumed;
  status = λ p h. after.status p h ∙ before.status p h;
  gates = after.gates ∙ before.gates;
  rounds = let a = before.rounds in let b = after.rounds in Prim.omega (arith, a, b);
}

module _ (setup : Setup) where
  wakes : (s : State) → is_still setup s ≡ true → OnlyCountGrows setup 0 s (wake setup s)
  wakes s still = by (nat_eq (suc s.rounds % setup.tick) 0)
    where
      by : (b : Bool) → OnlyCountGrows setup 0 s (if b then record s { status = λ p. wake_status (s.status p) } else s)
      by true = record {
        store = refl;
        continuation = refl;
        transcript = refl;
        consumed = refl;
        status = λ p h. never_wakes (s.status p) (rests setup s still p h);
        gates = refl;
        rounds = Prim.omega arith;
      }
      by false = grows_none setup s

  closes : (s : State) → is_still setup s ≡ true → OnlyCountGrows setup 1 s (close_round s)
  closes s still = record {
    store = refl;
    continuation = refl;
    transcript = refl;
    consumed = refl;
    status = λ p h. never_begins (s.status p) (rests setup s still p h);
    gates = refl;
    rounds = Prim.omega arith;
  }

  awake_still : (s : State) → is_still setup s ≡ true → is_still setup (wake setup s) ≡ true
  awake_still s still = stays_still setup 0 s (wake setup s) (wakes s still) ∙ still

  -- All of a round but its turns.
  round_grows : (s : State) → is_still setup s ≡ true → OnlyCountGrows setup 1 s (close_round (wake setup s))
  round_grows s still = grows_more setup 0 1 s (wake setup s) (close_round (wake setup s)) (wakes s still) (closes (wake setup s) (awake_still s still))

  -- ---- The turns of a round

  module _ (t : ℕ) (s : State) (still : is_still setup s ≡ true) where
    abbrev AreThere : List ℕ → Type 0
    AreThere ps = (p : ℕ) → is_in p ps ≡ true → is_in p (processes setup) ≡ true

    no_private_turn : (p : ℕ) → is_in p (processes setup) ≡ true → private_turn setup t s p ≡ s
    no_private_turn p there = (is_idle setup s still p there).private_turn t

    no_kernel_turn : (p : ℕ) → is_in p (processes setup) ≡ true → kernel_turn setup t s p ≡ s
    no_kernel_turn p there = (is_idle setup s still p there).kernel_turn t

    no_turns : (ps : List ℕ) → AreThere ps → all_turns setup t s ps ≡ s
    no_turns [] there = refl
    no_turns (p ∷ ps) there =
        let here = there p (in_head p ps) in
        ap (λ u. all_turns setup t (kernel_turn setup t u p) ps) (no_private_turn p here)
        ∙ (ap (λ u. all_turns setup t u ps) (no_kernel_turn p here) ∙ no_turns ps (λ q h. there q (in_more q p ps h)))

    no_kernel_turns : (ps : List ℕ) → AreThere ps → kernel_turns setup t s ps ≡ s
    no_kernel_turns [] there = refl
    no_kernel_turns (p ∷ ps) there =
        ap (λ u. kernel_turns setup t u ps) (no_kernel_turn p (there p (in_head p ps))) ∙ no_kernel_turns ps (λ q h. there q (in_more q p ps h))

    no_own_turn : {A : Type 0} (part : State → A) (p : ℕ) → after_own_turn setup t s part p ≡ part s
    no_own_turn {A = A} part p = by (is_in p (processes setup)) refl
      where
        by : (b : Bool) → is_in p (processes setup) ≡ b → (if b then part (private_turn setup t s p) else part s) ≡ part s
        by true there = ap part (no_private_turn p there)
        by false e = refl

    no_own_turns : own_parts setup t s ≡ s
    no_own_turns =
        state_is (own_parts setup t s) s (λ i l. no_own_turn (λ x. x.store l) (owner_process l.owner) i) (λ i p. no_own_turn (λ x. x.continuation p) p i)
        (λ i p. no_own_turn (λ x. x.transcript p) p i)
        (λ i p. no_own_turn (λ x. x.consumed p) p i) (λ i p. no_own_turn (λ x. x.status p) p i) refl refl

    no_event : (e : Event) (es : List Event) → AreOfProcesses setup (e ∷ es) → replay_event setup t s e ≡ s
    no_event (PrivateStep p) es within = (is_idle setup s still p within.0).private
    no_event (KernelTurn p) es within = no_kernel_turn p within.0

    others : (e : Event) (es : List Event) → AreOfProcesses setup (e ∷ es) → AreOfProcesses setup es
    others (PrivateStep p) es within = within.1
    others (KernelTurn p) es within = within.1

    no_events : (es : List Event) → AreOfProcesses setup es → fold (replay_event setup t) s es ≡ s
    no_events [] within = refl
    no_events (e ∷ es) within = ap (λ u. fold (replay_event setup t) u es) (no_event e es within) ∙ no_events es (others e es within)

-- ---- Rounds

-- What ends a round of a still state as its waking leaves it, grows the count.
grows_so : (setup : Setup) (s u : State) → is_still setup s ≡ true → u ≡ wake setup s → OnlyCountGrows setup 1 s (close_round u)
grows_so setup s u still e = subst (λ v. OnlyCountGrows setup 1 s (close_round v)) (sym e) (round_grows setup s still)

pub events_grow : StillEventsChangeNothing
events_grow setup t s events still within = grows_so setup s _ still (no_events setup t (wake setup s) (awake_still setup s still) events within)

pub round_grows_count : StillRoundChangesNothing
round_grows_count setup t s still = grows_so setup s _ still (no_turns setup t (wake setup s) (awake_still setup s still) (processes setup) (λ p h. h))

pub phased_grows : StillPhasedRoundChangesNothing
phased_grows setup t s still =
    let u = wake setup s in
    let calm = awake_still setup s still in
    grows_so setup s _ still
    (ap (λ v. kernel_turns setup t v (processes setup)) (no_own_turns setup t u calm) ∙ no_kernel_turns setup t u calm (processes setup) (λ p h. h))

pub run_grows : StillRunChangesNothing
run_grows setup t zero s still = grows_none setup s
run_grows setup t (suc n) s still =
    let u = sequential_round setup t s in
    let first = round_grows_count setup t s still in
    let one : 1 + n ≡ suc n = Prim.omega arith in
    subst (λ k. OnlyCountGrows setup k s (run setup t n u)) one
    (grows_more setup 1 n s u (run setup t n u) first (run_grows setup t n u (stays_still setup 1 s u first ∙ still)))

pub replay_grows : StillReplayChangesNothing
replay_grows setup s [] still within = grows_none setup s
replay_grows setup s (r ∷ rs) still within =
    let u = replay_round setup r.0 s r.1 in
    let first = events_grow setup r.0 s r.1 still within.0 in
    let one : 1 + length rs ≡ suc (length rs) = Prim.omega arith in
    subst (λ k. OnlyCountGrows setup k s (replay setup u rs)) one
    (grows_more setup 1 (length rs) s u (replay setup u rs) first (replay_grows setup u rs (stays_still setup 1 s u first ∙ still) within.1))

-- ---- More rounds of a run

run_on : (setup : Setup) (t m n : ℕ) (s : State) → run setup t (m + n) s ≡ run setup t n (run setup t m s)
run_on setup t zero n s = let e : zero + n ≡ n = Prim.omega arith in ap (λ k. run setup t k s) e
run_on setup t (suc m) n s =
    let e : suc m + n ≡ suc (m + n) = Prim.omega arith in
    ap (λ k. run setup t k s) e ∙ run_on setup t m n (sequential_round setup t s)

pub still_on : StillAfterMoreRounds
still_on setup t m n s still =
    let u = run setup t m s in
    ap (is_still setup) (run_on setup t m n s) ∙ (stays_still setup n u (run setup t n u) (run_grows setup t n u still) ∙ still)
