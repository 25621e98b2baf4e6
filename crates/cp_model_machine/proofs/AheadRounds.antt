-- The turns and the end of a round, while some processes are ahead.
use Rattle.std.specs.Prelude.{◌≡◌, ◌≢◌, ◌-◌, refl, ℕ, zero, suc, Bool, true, false, List, [], ◌∷◌, ◌++◌, Option, Some, None, get_or, map, nat_eq, slice_get, slice_set}
use Rattle.std.proofs.Common.{sym, ◌∙◌, ap, subst, arith}
use Rattle.std.proofs.lemmas.Bool.{eqb-true, eq-eqb, true≢false}
use Rattle.cp_model_program.specs.Programs as code
use Rattle.cp_model_program.specs.Programs.{Program}
use Rattle.cp_model_program.specs.Starts.{block, paste}
use Rattle.cp_model_machine.specs.KernelSteps.{Asking, Begun, Delayed, Fresh, Kernel, SchedulingState, Turning, Unstarted, kernel_steps, stage_of}
use Rattle.cp_model_machine.specs.Machines.{Machine, after_kernel_turn, begin_if, begin_one, clock, end_round, kernel_turn, next_stage, transcript_of}
use Rattle.cp_model_machine.specs.PrivateStates.{PrivateState, Running}
use Rattle.cp_model_machine.specs.Ahead.{AreAhead, HasBegun, HaveTurned, IsAhead, AreRunAhead, turn_at, with_turns}
use Rattle.cp_model_machine.proofs.AheadQuiet.{quiet_turn}
use Rattle.cp_model_machine.proofs.AheadStages.{others_begun, kernel_steps_number}
use Rattle.cp_model_machine.proofs.AheadTurns.{end_ahead, map_got, next_ahead, none_ahead, set_apart, set_is, turn_number, turn_ahead}

one_less : (i : ℕ) → suc i - 1 ≡ i
one_less i = omega arith

begin_number : (program : Program) (k : Kernel) (o : PrivateState) → (begin_one program k o).number ≡ o.number
begin_number program k o = by (stage_of k.stages o.number)
  where
    from : (r : Option code.Process)
        → (elim r as (λ x. PrivateState) [ None ↦ o | Some x ↦ record o { activity = Running; words = paste 1 (block k.shared (suc x.parameters) (x.waiting - 1)) o.words } ]).number
        ≡ o.number
    from None = refl
    from (Some x) = refl

    by : (g : SchedulingState) → (begin_if program k o g).number ≡ o.number
    by Fresh = from (slice_get program.processes (o.number - 1))
    by Unstarted = refl
    by Begun = refl
    by (Asking q) = refl
    by (Delayed q w) = refl

next_begun : (gs : List SchedulingState) (i : ℕ) → get_or gs i Begun ≡ Begun → get_or (map next_stage gs) i Begun ≡ Begun
next_begun [] i h = h
next_begun (g ∷ gs) zero h = ap next_stage h
next_begun (g ∷ gs) (suc i) h = next_begun gs i h

module _ (t rounds : ℕ) (m : Machine) (n : ℕ → ℕ) (k : Kernel) (ts : List (List ℕ)) (ys : List PrivateState) (S : AreRunAhead t rounds m n k ts ys) where
  -- The kernel turn of a process that is ahead changes nothing.
  pub ahead_turn : (i : ℕ) (o y : PrivateState) → n i ≢ 0 → slice_get m.parts i ≡ Some o → slice_get ys i ≡ Some y → kernel_turn t m (suc i) ≡ m
  ahead_turn i o y some e f = by (n i) refl (S.ahead.each i o y e f)
    where
      at : slice_get m.parts (suc i - 1) ≡ Some o
      at = ap (slice_get m.parts) (one_less i) ∙ e

      by : (c : ℕ) → n i ≡ c → IsAhead m.program m.tick t rounds (n i) o y → kernel_turn t m (suc i) ≡ m
      by zero is h = absurd (some is)
      by (suc c) is h = quiet_turn t m (suc i) o at (subst (λ d. IsAhead m.program m.tick t rounds d o y) is h).0

  -- What the kernel turn of a process that isn't ahead makes of the kernel, its private state and its transcript.
  pub kernel_turn_made : (i : ℕ) (o y : PrivateState) → n i ≡ 0 → slice_get m.parts i ≡ Some o → slice_get ys i ≡ Some y
      → (x : Turning) → x ≡ kernel_steps m.program (clock m) t (record { kernel = k; own = y })
      → AreRunAhead t rounds (kernel_turn t m (suc i)) n x.kernel (slice_set ts i (transcript_of ts (suc i) ++ x.own.output))
      (slice_set ys i (record x.own { output = [] }))
  kernel_turn_made i o y none e f x is = subst (λ u. AreRunAhead t rounds u n x.kernel written after) (sym moved) represents
    where
      written : List (List ℕ)
      written = slice_set ts i (transcript_of ts (suc i) ++ x.own.output)

      after : List PrivateState
      after = slice_set ys i (record x.own { output = [] })

      same : y ≡ o
      same = subst (λ d. IsAhead m.program m.tick t rounds d o y) none (S.ahead.each i o y e f)

      made : x ≡ kernel_steps m.program (clock m) t (record { kernel = m.kernel; own = o })
      made = is ∙ ((λ j. kernel_steps m.program (clock m) t (record { kernel = S.kernel j; own = same j })))

      at : slice_get m.parts (suc i - 1) ≡ Some o
      at = ap (slice_get m.parts) (one_less i) ∙ e

      after_turn : Machine
      after_turn = record m {
        kernel = x.kernel;
        parts = slice_set m.parts i (record x.own { output = [] });
        transcripts = slice_set m.transcripts i (transcript_of m.transcripts (suc i) ++ x.own.output);
      }

      moved : kernel_turn t m (suc i) ≡ after_turn
      moved =
          ap (λ (r : Option PrivateState).
          elim r as (λ x. Machine) [
            | None ↦ m
            | Some q ↦ after_kernel_turn m (suc i) (kernel_steps m.program (clock m) t (record { kernel = m.kernel; own = q }))
          ]) at
          ∙ (ap (after_kernel_turn m (suc i)) (sym made)
          ∙ ap (λ (j : ℕ). record m {
            kernel = x.kernel;
            parts = slice_set m.parts j (record x.own { output = [] });
            transcripts = slice_set m.transcripts j (transcript_of m.transcripts (suc i) ++ x.own.output);
          }) (one_less i))

      number : x.own.number ≡ suc i
      number = ap (λ (z : Turning). z.own.number) made ∙ (kernel_steps_number m.program (clock m) t (record { kernel = m.kernel; own = o }) ∙ S.numbers i o e)

      number_at : (j : ℕ) (z : PrivateState) → slice_get (slice_set m.parts i (record x.own { output = [] })) j ≡ Some z → (b : Bool) → nat_eq j i ≡ b
          → z.number ≡ suc j
      number_at j z at true h =
          let j_is : j ≡ i = eqb-true j i h in
          let is_here : z ≡ record x.own { output = [] } =
          set_is m.parts i (record x.own { output = [] }) z (ap (slice_get (slice_set m.parts i (record x.own { output = [] }))) (sym j_is) ∙ at) in
          ap (λ (w : PrivateState). w.number) is_here ∙ (number ∙ ap suc (sym j_is))
      number_at j z at false h =
          S.numbers j z (sym (set_apart m.parts i j (record x.own { output = [] }) (λ g. true≢false (sym (eq-eqb j i g) ∙ h))) ∙ at)

      represents : AreRunAhead t rounds after_turn n x.kernel written after
      represents = record {
        kernel = refl;
        transcripts = ap (λ (l : List (List ℕ)). slice_set l i (transcript_of l (suc i) ++ x.own.output)) S.transcripts;
        ahead = turn_ahead m.program m.tick t rounds n m.parts ys S.ahead i (record x.own { output = [] }) none;
        numbers = λ j z at. number_at j z at (nat_eq j i) refl;
        begun = λ j some.
            subst (λ (z : Turning). HasBegun j z.kernel) (sym made)
            (others_begun m.program (clock m) t j (record { kernel = m.kernel; own = o })
            (λ h. some (ap n (h ∙ (ap (λ p. p - 1) (S.numbers i o e) ∙ one_less i)) ∙ none)) (S.begun j some));
      }

  -- The end of a round.
  pub round_end : AreRunAhead t rounds (end_round m) n (record k { stages = map next_stage k.stages }) ts (map (begin_one m.program k) ys)
  round_end = record {
    kernel = ap (λ (u : Kernel). record u { stages = map next_stage u.stages }) S.kernel;
    transcripts = S.transcripts;
    ahead =
        subst (λ (u : Kernel). AreAhead m.program m.tick t rounds n (map (begin_one m.program m.kernel) m.parts) (map (begin_one m.program u) ys))
        (sym S.kernel) (end_ahead m.program m.tick t rounds n m.parts ys S.ahead m.kernel S.numbers S.begun);
    numbers = λ i z at.
        let was = map_got (begin_one m.program m.kernel) m.parts i z at in
        ap (λ (w : PrivateState). w.number) was.2 ∙ (begin_number m.program m.kernel was.0 ∙ S.numbers i was.0 was.1);
    begun = λ i some. record { stage = next_begun m.kernel.stages i (S.begun i some).stage };
  }

  -- The private turns of the round after that.
  pub private_turns_made : rounds ≡ m.rounds → (zs : List PrivateState) → HaveTurned m.program m.tick t rounds n ys zs
      → AreRunAhead t (suc rounds) (with_turns t m) (λ i. n i - 1) k ts zs
  private_turns_made time zs made = record {
    kernel = S.kernel;
    transcripts = S.transcripts;
    ahead =
        subst (λ (r : ℕ). AreAhead m.program m.tick t (suc rounds) (λ i. n i - 1) (map (turn_at m.program m.tick t r) m.parts) zs) time
        (next_ahead m.program m.tick t rounds n m.parts ys S.ahead zs made);
    numbers = λ i z at.
        let was = map_got (turn_at m.program m.tick t m.rounds) m.parts i z at in
        ap (λ (w : PrivateState). w.number) was.2 ∙ (turn_number m.program m.tick t m.rounds was.0 ∙ S.numbers i was.0 was.1);
    begun = λ i some. S.begun i (λ none. some (omega (arith, none)));
  }

  -- Nobody is ahead any more.
  pub none_left : ((i : ℕ) → n i ≡ 0) → ys ≡ m.parts
  none_left none = none_ahead m.program m.tick t rounds n m.parts ys S.ahead none
